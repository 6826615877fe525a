-- The entries of a list by the nodes of its derivation.
use Rattle.std.proofs.Common.{◌≡◌, ℕ, ◌+◌, ◌-◌, ◌^◌, ◌<◌, ◌≤◌, List, [], ◌∷◌, ◌++◌, map}
use Rattle.std.proofs.Common.{length, Some, None, Ok, Err, ap, sym, refl, subst, ◌∙◌, arith}
use Rattle.std.specs.Prelude.{slice_get}
use Rattle.std.proofs.lemmas.List.{length-map}
use Rattle.sx_words.specs.declared.refusal.Defect.TheVariants as defect
use Rattle.sx_rules.specs.declared.rule.Rule.{Rule as RuleOf}
use Rattle.sx_rules.specs.declared.rule_set.RuleSet.{RuleSet}
use Rattle.sx_rules.specs.Derivations.{Proof, Proofs, by, given, no_more, ◌⊳◌, Derives, DeriveEach}
use Rattle.sx_rules.specs.Orders.{Entry, of_rule, order_of, order_of_all}
use Rattle.sx_rules.specs.Rules.{Judgement, Rule, no_hypotheses}
use Rattle.sx_rules.specs.Sets.{rules_in, bare_rules_in}
use Rattle.sx_rules.specs.Views.{NamedRule, named, rule, rule_name}
use Rattle.sx_steps.specs.declared.stop.Stop.{Stop}
use Rattle.sx_steps.specs.declared.status.Status.TheVariants as statuses
use Rattle.sx_steps.specs.Refusal.{about, status_of}
use Rattle.sx_audit.specs.declared.show_error.ShowError.{ShowError}
use Rattle.sx_audit.specs.declared.show_error.ShowError.TheVariants as show_error
use Rattle.sx_audit.specs.Meaning.{Node, Meaning}
use Rattle.sx_audit.specs.Preorder.{nodes, nodes_of_each, IsDerivationList}
use Rattle.sx_audit.specs.Shown.{shown_after, Refusal, IsShown}
use Rattle.sx_audit.proofs.NodeLaws.{some-below}
use Rattle.sx_auditing.specs.Listed.{IsRuleAt}
use Rattle.sx_auditing.specs.Shows.{Shows}

-- the rules of a set without their names
bare-is : (rs : List RuleOf) → map rule rs ≡ map (λ r. r.rule) (map named rs)
bare-is [] = refl
bare-is (r ∷ rs) = ap (λ (xs : List Rule). rule r ∷ xs) (bare-is rs)

module _ (rules : List NamedRule) where
  -- the entry is the rule of the node
  record IsOf (n : Node) (e : Entry) : Type 0 where
    number : ℕ
    entry : e ≡ of_rule number
    known : number < length rules
    name : n.rule ≡ rule_name rules number

  -- so it is of each
  abbrev AreOf : List Node → List Entry → Type 0
  AreOf [] [] = Unit {0}
  AreOf (n ∷ ns) (e ∷ es) = IsOf n e × AreOf ns es
  AreOf _ _ = ⊥

  are-joined : (ns ms : List Node) (es fs : List Entry) → AreOf ns es → AreOf ms fs →
      AreOf (ns ++ ms) (es ++ fs)
  are-joined [] ms [] fs h k = k
  are-joined [] ms (e ∷ es) fs h k = absurd h
  are-joined (n ∷ ns) ms [] fs h k = absurd h
  are-joined (n ∷ ns) ms (e ∷ es) fs h k = (h.0, are-joined ns ms es fs h.1 k)

  mutual
    nodes-of : (depth : ℕ) (j : Judgement) (p : Proof) →
        Derives (map (λ r. r.rule) rules) no_hypotheses j p →
        AreOf (nodes rules depth p) (order_of p)
    nodes-of depth j (given i) d = absurd (let h : None ≡ Some j = d in cc)
    nodes-of depth j (by r binds kids) d = (
      record {
        number = r;
        entry = refl;
        known = subst (λ (n : ℕ). r < n) (length-map rules (λ r. r.rule))
            (some-below (map (λ r. r.rule) rules) r d.0 d.1);
        name = refl;
      },
      each-of (depth + 1) _ kids d.5,
    )

    each-of : (depth : ℕ) (js : List Judgement) (ps : Proofs) →
        DeriveEach (map (λ r. r.rule) rules) no_hypotheses js ps →
        AreOf (nodes_of_each rules depth ps) (order_of_all ps)
    each-of depth js no_more d = tt
    each-of depth [] (p ⊳ ps) d = absurd d
    each-of depth (j ∷ js) (p ⊳ ps) d =
        are-joined (nodes rules depth p) (nodes_of_each rules depth ps) (order_of p)
        (order_of_all ps) (nodes-of depth j p d.0) (each-of depth js ps d.1)

  -- the entry at the place of a node
  pub record At (n : Node) (es : List Entry) (place : ℕ) : Type 0 where
    pub number : ℕ
    pub entry : slice_get es place ≡ Some (of_rule number)
    pub within : place < length es
    pub known : number < length rules
    pub name : n.rule ≡ rule_name rules number

  entry-at : (seen : List Node) (n : Node) (later : List Node) (es : List Entry) →
      AreOf (seen ++ n ∷ later) es → At n es (length seen)
  entry-at [] n later [] h = absurd h
  entry-at [] n later (e ∷ es) h = record {
    number = h.0.number;
    entry = ap Some h.0.entry;
    within = omega arith;
    known = h.0.known;
    name = h.0.name;
  }
  entry-at (m ∷ seen) n later [] h = absurd h
  entry-at (m ∷ seen) n later (e ∷ es) h =
      let r = entry-at seen n later es h.1 in
      let w = r.within in
      record {
        number = r.number;
        entry = r.entry;
        within = omega (arith, w);
        known = r.known;
        name = r.name;
      }

  -- the entry of the node that is refused
  pub refused-entry : (list : List Entry) (p : Proof)
      (is : IsDerivationList (map (λ r. r.rule) rules) list p) (old new : List Meaning)
      (r : Refusal old (nodes rules 1 p) new) → At r.node list (length r.seen)
  refused-entry list p is old new r =
      entry-at r.seen r.node r.later list
      (subst (λ (es : List Entry). AreOf (r.seen ++ r.node ∷ r.later) es) (sym is.order)
      (subst (λ (ns : List Node). AreOf ns (order_of p)) r.nodes
      (nodes-of 1 is.judgement p is.derives)))

-- ---- the answers of showing a list

-- an objection is no fault
pub objection-quiet : (file name : List ℕ) (number : ℕ) (rule : List ℕ) (stop : Stop) →
    stop ≡ about file (defect.Objected name number rule) →
    (status_of stop ≡ statuses.ReadFault → ⊥) × (status_of stop ≡ statuses.WriteFault → ⊥)
objection-quiet file name number rule stop e =
    let is : status_of stop ≡ statuses.Refused = ap status_of e in (
      λ h. absurd (let same : statuses.Refused ≡ statuses.ReadFault = sym is ∙ h in cc),
      λ h. absurd (let same : statuses.Refused ≡ statuses.WriteFault = sym is ∙ h in cc),
    )

module _ (set : RuleSet) (list : List Entry) (p : Proof)
    (is : IsDerivationList (bare_rules_in set) list p) where
  pub stands : IsDerivationList (map (λ r. r.rule) (rules_in set)) list p
  stands = subst (λ (rules : List Rule). IsDerivationList rules list p) (bare-is set.rules.items) is

  -- no auditor objects
  pub shows-all : (file : List ℕ) (old new : List Meaning) →
      IsShown old (nodes (rules_in set) 1 p) (Ok tt) new →
      Shows file (rules_in set) old list (Ok new)
  shows-all file old new h = record { proof = p; is = stands; shows = h }

  module _ (old new : List Meaning) (name : List ℕ) (number : ℕ) (short : length list ≤ 2 ^ 64 - 1)
      (h : IsShown old (nodes (rules_in set) 1 p) (Err (show_error.Objected name number)) new) where
    abbrev pub at : At (rules_in set) h.0.node list (length h.0.seen)
    at = refused-entry (rules_in set) list p stands old new h.0

    pub counts : number ≡ length h.0.seen + 1
    counts = let w = at.within in let n = h.1.1 in omega (arith, w, n, short)

    -- the entry with the number that is told
    abbrev pub told-entry : (r : ℕ) × IsRuleAt (rules_in set) list number r
    told-entry = (
      at.number,
      record {
        first = let n = counts in omega (arith, n);
        entry = let n = counts in
            let m : number - 1 ≡ length h.0.seen = omega (arith, n) in
            ap (slice_get list) m ∙ at.entry;
        known = at.known;
      },
    )

    -- the stop is that of the objection
    pub shows-objection : (file : List ℕ) (stop : Stop) →
        stop ≡ about file (defect.Objected name number (rule_name (rules_in set) told-entry.0)) →
        Shows file (rules_in set) old list (Err stop)
    shows-objection file stop e = record {
      proof = p;
      is = stands;
      shows = (
        new,
        h.0,
        e
            ∙ ap (λ (n : List ℕ). about file (defect.Objected n number
            (rule_name (rules_in set) at.number))) h.1.0
            ∙ ap (λ (n : ℕ). about file (defect.Objected h.0.one.kind.name n
            (rule_name (rules_in set) at.number))) counts
            ∙ ap (λ (n : List ℕ). about file (defect.Objected h.0.one.kind.name
            (length h.0.seen + 1) n)) (sym at.name),
      );
    }

-- ---- how far showing went

pub seen-all : (old new : List Meaning) (ns : List Node) → IsShown old ns (Ok tt) new →
    new ≡ map (shown_after ns) old
seen-all old new ns h = h.1

pub seen-refused : (old new : List Meaning) (ns : List Node) (e : ShowError) →
    IsShown old ns (Err e) new → Refusal old ns new
seen-refused old new ns e h = h.0
