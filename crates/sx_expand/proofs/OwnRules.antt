-- The extended rules of a set, and its plain rules.
use Rattle.std.proofs.Common.{◌≡◌, ℕ, List, [], ◌∷◌, ◌++◌, map, Option, Some, None}
use Rattle.std.proofs.Common.{refl, sym, ap, ◌∙◌, subst}
use Rattle.std.specs.Prelude.{slice_get, option_map}
use Rattle.std.proofs.lemmas.Option.{slice_get-map}
use Rattle.sx_rules.specs.declared.rule_set.RuleSet.{RuleSet}
use Rattle.sx_rules.specs.Derivations.{Proof, Proofs, by, given, no_more, ◌⊳◌}
use Rattle.sx_rules.specs.Orders.{Entry}
use Rattle.sx_rules.specs.Rules.{Rule}
use Rattle.sx_rules.specs.Sets.{forms_in, shapes_in, bare_rules_in}
use Rattle.sx_plain.specs.Plain.{Table}
use Rattle.sx_rewrite.specs.declared.accepted.Accepted.{Accepted as AcceptedOf}
use Rattle.sx_rewrite.specs.Accepted.{Known, basic, checked, Checked, Accepted}
use Rattle.sx_rewrite.specs.Accepted.{known_of, extended_rules, IsAccepted}
use Rattle.sx_rewrite.specs.AcceptedView.{accepted, signature}
use Rattle.sx_rewrite.specs.PlainRules.{plain_checked, plain_of}
use Rattle.sx_rewrite.specs.Stored.{stored_in, body_in, certificate_at, flat_body_at}
use Rattle.sx_rewrite.proofs.PlainSets.{plain_rules_are_accepted}
use Rattle.sx_rewrite.proofs.PlainSizes.{plain_rules_count_alike}
use Rattle.sx_expand.specs.LoweredOrders.{order_at, lowered_order, lowered_orders}
use Rattle.sx_expand.specs.Readings.{set_with, CountsAs, AreAcceptedRules}

-- the plain rule of an extension rule, and a base rule as it is
abbrev plain_known : Table → Known → Known
plain_known table (basic rule) = basic rule
plain_known table (checked c) = checked (plain_checked table c)

plain-more : (table : Table) (cs : List Checked) →
    map checked (map (plain_checked table) cs) ≡ map (plain_known table) (map checked cs)
plain-more table [] = refl
plain-more table (c ∷ cs) =
    ap (λ (ks : List Known). checked (plain_checked table c) ∷ ks) (plain-more table cs)

plain-all : (table : Table) (base : List Rule) (more : List Checked) →
    map basic base ++ map checked (map (plain_checked table) more)
    ≡ map (plain_known table) (map basic base ++ map checked more)
plain-all table [] more = plain-more table more
plain-all table (b ∷ bs) more = ap (λ (ks : List Known). basic b ∷ ks) (plain-all table bs more)

plain-at : (a : Accepted) (r : ℕ) →
    slice_get (known_of (plain_of a)) r
    ≡ option_map (plain_known a.table) (slice_get (known_of a) r)
plain-at a r =
    ap (λ (ks : List Known). slice_get ks r) (plain-all a.table a.base a.more)
    ∙ slice_get-map (plain_known a.table) (known_of a) r

-- what is stored of it
proof-alike : (table : Table) (o : Option Known) →
    option_map (λ (c : Checked). c.proof) (stored_in (option_map (plain_known table) o))
    ≡ option_map (λ (c : Checked). c.proof) (stored_in o)
proof-alike table None = refl
proof-alike table (Some (basic rule)) = refl
proof-alike table (Some (checked c)) = refl

body-alike : (table : Table) (o : Option Known) →
    body_in (stored_in (option_map (plain_known table) o)) ≡ body_in (stored_in o)
body-alike table None = refl
body-alike table (Some (basic rule)) = refl
body-alike table (Some (checked c)) = refl

order-alike : (table : Table) (o : Option Known) (r : ℕ) (lists : List (List Entry)) →
    order_at (option_map (plain_known table) o) r lists ≡ order_at o r lists
order-alike table None r lists = refl
order-alike table (Some (basic rule)) r lists = refl
order-alike table (Some (checked c)) r lists = refl

module _ (a : Accepted) where
  plain-proof : (r : ℕ) → certificate_at (plain_of a) r ≡ certificate_at a r
  plain-proof r =
      ap (λ (o : Option Known). option_map (λ (c : Checked). c.proof) (stored_in o)) (plain-at a r)
      ∙ proof-alike a.table (slice_get (known_of a) r)

  plain-body : (r : ℕ) → flat_body_at (plain_of a) r ≡ flat_body_at a r
  plain-body r =
      ap (λ (o : Option Known). body_in (stored_in o)) (plain-at a r)
      ∙ body-alike a.table (slice_get (known_of a) r)

  mutual
    plain-order : (p : Proof) → lowered_order (plain_of a) p ≡ lowered_order a p
    plain-order (given i) = refl
    plain-order (by r binds kids) =
        ap (λ (o : Option Known). order_at o r (lowered_orders (plain_of a) kids)) (plain-at a r)
        ∙ order-alike a.table (slice_get (known_of a) r) r (lowered_orders (plain_of a) kids)
        ∙ ap (order_at (slice_get (known_of a) r) r) (plain-orders kids)

    plain-orders : (ps : Proofs) → lowered_orders (plain_of a) ps ≡ lowered_orders a ps
    plain-orders no_more = refl
    plain-orders (p ⊳ ps) =
        let e = plain-order p in
        let f = plain-orders ps in
        λ i. e i ∷ f i

  -- derivations by the plain rules count as those by the rules
  pub plain-counts : (p : Proof) → CountsAs (plain_of a) a p
  plain-counts p =
      let h = plain_rules_count_alike a p in
      record { fit = h.0; nodes = h.1; height = h.2; copied_are = h.3; order = plain-order p }

module _ (set : AcceptedOf) (rules : RuleSet) where
  module _ (same : rules ≡ set.rules) where
    pub extended-set : set_with set rules ≡ accepted set
    extended-set = ap (set_with set) same

    pub extended-rules :
        IsAccepted (signature set) (shapes_in set.base) (shapes_in set.rules) (accepted set) →
        bare_rules_in set.rules ≡ extended_rules (accepted set) → forms_in set.rules ≡ forms_in set.base →
        AreAcceptedRules set rules
    extended-rules ok bare forms = subst (AreAcceptedRules set) (sym same) (record {
      accepted_with = ok;
      rules_are = bare;
      forms_are = forms;
      proofs_are = λ r. refl;
      bodies_are = λ r. refl;
      counts = λ p. record {
        fit = λ h. h;
        nodes = refl;
        height = refl;
        copied_are = refl;
        order = refl;
      };
    })

  pub plain-rules : rules ≡ set.plain_rules → set_with set rules ≡ plain_of (accepted set) →
      IsAccepted (signature set) (shapes_in set.base) (shapes_in set.rules) (accepted set) →
      bare_rules_in set.plain_rules ≡ extended_rules (plain_of (accepted set)) →
      forms_in set.plain_rules ≡ forms_in set.base → AreAcceptedRules set rules
  plain-rules same is ok bare forms = record {
    accepted_with =
        subst (IsAccepted (signature set) (shapes_in set.base) (shapes_in set.rules)) (sym is)
        (plain_rules_are_accepted (signature set) (shapes_in set.base) (shapes_in set.rules)
        (accepted set) ok);
    rules_are = ap bare_rules_in same ∙ bare ∙ ap extended_rules (sym is);
    forms_are = ap forms_in same ∙ forms;
    proofs_are = λ r. ap (λ (a : Accepted). certificate_at a r) is ∙ plain-proof (accepted set) r;
    bodies_are = λ r. ap (λ (a : Accepted). flat_body_at a r) is ∙ plain-body (accepted set) r;
    counts = λ p. subst (λ (a : Accepted). CountsAs a (accepted set) p) (sym is)
        (plain-counts (accepted set) p);
  }
