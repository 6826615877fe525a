-- What derivations are lowered by: the extended rules of a set, or its plain rules.
use Rattle.std.proofs.Common.{◌≡◌, ℕ, zero, suc, length, drop, List, [], ◌∷◌, ◌++◌, map, Option, refl, sym, ap, ◌∙◌, subst}
use Rattle.std.specs.Prelude.{slice_get, option_map}
use Rattle.sx_rules.specs.declared.rule.Rule.{Rule as RuleOf}
use Rattle.sx_rules.specs.declared.rule_set.RuleSet.{RuleSet}
use Rattle.sx_rules.specs.Rules.{Rule}
use Rattle.sx_rules.specs.Derivations.{Proof}
use Rattle.sx_rules.specs.Sets.{shapes_in, forms_in, rules_in, bare_rules_in}
use Rattle.sx_rules.specs.Views.{NamedRule, named, rule, hypotheses}
use Rattle.sx_plain.specs.Plain.{Table}
use Rattle.sx_plain.specs.Views.{table_of}
use Rattle.sx_rewrite.specs.declared.flat.Flat.{Flat}
use Rattle.sx_rewrite.specs.declared.source.Source.{Source}
use Rattle.sx_rewrite.specs.Accepted.{Known, basic, checked, Checked, Accepted, extended_rules, IsAccepted}
use Rattle.sx_rewrite.specs.AcceptedView.{accepted, signature}
use Rattle.sx_rewrite.specs.Copied.{copied}
use Rattle.sx_rewrite.specs.LoweredSizes.{HasFitKids}
use Rattle.sx_rewrite.specs.PlainRules.{plain_rule, plain_checked, plain_named, plain_of}
use Rattle.sx_rewrite.specs.Rewrites.{AreGood, CountsAlike}
use Rattle.sx_rewrite.specs.SourceView.{set_of, IsSource}
use Rattle.sx_rewrite.specs.Stored.{accepted_from, checked_with, checked_of, stored_in, certificate_at, ArePlain}
use Rattle.sx_rewrite.specs.Used.{lowered_nodes, lowered_height}
use Rattle.sx_rewrite.proofs.PlainSets.{plain_rules_are_accepted}
use Rattle.sx_rewrite.proofs.PlainSizes.{plain_rules_count_alike}

-- the plain rules of a set
checked-plain : (table : Table) (rs : List Rule) (fs : List Flat) → checked_of (map (plain_rule table) rs) fs ≡ map (plain_checked table) (checked_of rs fs)
checked-plain table [] fs = refl
checked-plain table (r ∷ rs) [] = refl
checked-plain table (r ∷ rs) (f ∷ fs) = ap (λ (cs : List Checked). plain_checked table (checked_with r f) ∷ cs) (checked-plain table rs fs)

drop-plain : (table : Table) (n : ℕ) (rs : List Rule) → drop n (map (plain_rule table) rs) ≡ map (plain_rule table) (drop n rs)
drop-plain table zero rs = refl
drop-plain table (suc n) [] = refl
drop-plain table (suc n) (r ∷ rs) = drop-plain table n rs

plain-same : (base rules : List Rule) (table : Table) (flats : List Flat) → accepted_from base (map (plain_rule table) rules) table flats ≡ plain_of (accepted_from base rules table flats)
plain-same base rules table flats =
    let e = ap (λ (rs : List Rule). checked_of rs flats) (drop-plain table (length base) rules) ∙ checked-plain table (drop (length base) rules) flats in
    λ i. record { base = base; more = e i; table = table }

bare-of : (xs : List RuleOf) → map (λ (n : NamedRule). n.rule) (map named xs) ≡ map rule xs
bare-of [] = refl
bare-of (x ∷ xs) = ap (λ (rs : List Rule). rule x ∷ rs) (bare-of xs)

plain-bare : (table : Table) (xs : List RuleOf) → map (λ (n : NamedRule). n.rule) (map (plain_named table) (map named xs)) ≡ map (plain_rule table) (map rule xs)
plain-bare table [] = refl
plain-bare table (x ∷ xs) = ap (λ (rs : List Rule). plain_rule table (rule x) ∷ rs) (plain-bare table xs)

abbrev proof_in : Option Known → Option Proof
proof_in o = option_map (λ c. c.proof) (stored_in o)

more-proofs : (table : Table) (more : List Checked) (r : ℕ) → proof_in (slice_get (map checked (map (plain_checked table) more)) r) ≡ proof_in (slice_get (map checked more) r)
more-proofs table [] r = refl
more-proofs table (c ∷ cs) zero = refl
more-proofs table (c ∷ cs) (suc r) = more-proofs table cs r

plain-proofs : (table : Table) (base : List Rule) (more : List Checked) (r : ℕ) →
    proof_in (slice_get (map basic base ++ map checked (map (plain_checked table) more)) r) ≡ proof_in (slice_get (map basic base ++ map checked more) r)
plain-proofs table [] more r = more-proofs table more r
plain-proofs table (b ∷ bs) more zero = refl
plain-proofs table (b ∷ bs) more (suc r) = plain-proofs table bs more r

module _ (s : Source) where
  -- the plain rules
  module _ (rules-is : s.rules.now ≡ s.set.now.plain_rules)
      (are : ArePlain (shapes_in s.set.now.rules) (shapes_in s.set.now.plain_rules) (forms_in s.set.now.base) (forms_in s.set.now.plain_rules) (table_of s.set.now.plain) (rules_in s.set.now.rules) (rules_in s.set.now.plain_rules)) where
    pub plain-set : set_of s ≡ plain_of (accepted s.set.now)
    plain-set =
        let a = s.set.now in
        let bare = sym (bare-of a.plain_rules.rules.items) ∙ ap (map (λ (n : NamedRule). n.rule)) are.rules_are ∙ plain-bare (table_of a.plain) a.rules.rules.items in
        ap (λ (rs : RuleSet). accepted_from (bare_rules_in a.base) (bare_rules_in rs) (table_of a.plain) a.flats.items) rules-is
        ∙ ap (λ (rs : List Rule). accepted_from (bare_rules_in a.base) rs (table_of a.plain) a.flats.items) bare
        ∙ plain-same (bare_rules_in a.base) (bare_rules_in a.rules) (table_of a.plain) a.flats.items

    pub plain-source : IsAccepted (signature s.set.now) (shapes_in s.set.now.base) (shapes_in s.set.now.rules) (accepted s.set.now) → bare_rules_in s.set.now.plain_rules ≡ extended_rules (plain_of (accepted s.set.now)) →
        AreGood (length (shapes_in s.set.now.base)) (hypotheses s.given.now) → IsSource s
    plain-source ok bare good = record {
      accepted_with = subst (IsAccepted (signature s.set.now) (shapes_in s.set.now.base) (shapes_in s.set.now.rules)) (sym plain-set) (plain_rules_are_accepted (signature s.set.now) (shapes_in s.set.now.base) (shapes_in s.set.now.rules) (accepted s.set.now) ok);
      rules_are = ap bare_rules_in rules-is ∙ bare ∙ ap extended_rules (sym plain-set);
      proofs_are = λ r. ap (λ (a : Accepted). certificate_at a r) plain-set ∙ plain-proofs (table_of s.set.now.plain) (accepted s.set.now).base (accepted s.set.now).more r;
      below = good.below;
      near = good.near;
    }

    pub plain-counts : CountsAlike s
    plain-counts p =
        subst (λ (a : Accepted). (HasFitKids a p → HasFitKids (accepted s.set.now) p) × (lowered_nodes a p ≡ lowered_nodes (accepted s.set.now) p)
        × (lowered_height a p ≡ lowered_height (accepted s.set.now) p) × (copied a p ≡ copied (accepted s.set.now) p)) (sym plain-set) (plain_rules_count_alike (accepted s.set.now) p)

  -- the extended rules
  module _ (rules-is : s.rules.now ≡ s.set.now.rules) where
    pub extended-set : set_of s ≡ accepted s.set.now
    extended-set = let a = s.set.now in ap (λ (rs : RuleSet). accepted_from (bare_rules_in a.base) (bare_rules_in rs) (table_of a.plain) a.flats.items) rules-is

    pub extended-source : IsAccepted (signature s.set.now) (shapes_in s.set.now.base) (shapes_in s.set.now.rules) (accepted s.set.now) → bare_rules_in s.set.now.rules ≡ extended_rules (accepted s.set.now) →
        AreGood (length (shapes_in s.set.now.base)) (hypotheses s.given.now) → IsSource s
    extended-source ok bare good = record {
      accepted_with = subst (IsAccepted (signature s.set.now) (shapes_in s.set.now.base) (shapes_in s.set.now.rules)) (sym extended-set) ok;
      rules_are = ap bare_rules_in rules-is ∙ bare ∙ ap extended_rules (sym extended-set);
      proofs_are = λ r. ap (λ (a : Accepted). certificate_at a r) extended-set;
      below = good.below;
      near = good.near;
    }

    pub extended-counts : CountsAlike s
    extended-counts p =
        subst (λ (a : Accepted). (HasFitKids a p → HasFitKids (accepted s.set.now) p) × (lowered_nodes a p ≡ lowered_nodes (accepted s.set.now) p)
        × (lowered_height a p ≡ lowered_height (accepted s.set.now) p) × (copied a p ≡ copied (accepted s.set.now) p)) (sym extended-set) ((λ h. h), refl, refl, refl)

-- no hypotheses are good
pub none-good : (n : ℕ) → AreGood n (record { judgements = []; pairs = [] })
none-good n = record { below = (tt, tt); near = tt }
