-- Where a derivation ends, by the ends of its kids.
use Rattle.std.proofs.Common.{◌≡◌, ℕ, ◌+◌, ◌<◌, List, length, get_or, map, Some, None, sym, ap, ◌∙◌, subst, arith}
use Rattle.std.specs.Prelude.{slice_get}
use Rattle.std.proofs.lemmas.List.{length-map}
use Rattle.sx_rules.specs.declared.entry.Entry.{Entry as EntryOf}
use Rattle.sx_rules.specs.declared.entry.Entry.TheVariants.{Rule, Given}
use Rattle.sx_rules.specs.declared.rule.Premise.{Premise}
use Rattle.sx_rules.specs.declared.rule.Rule.{Rule as RuleOf}
use Rattle.sx_rules.specs.Rules.{judgements_of}
use Rattle.sx_rules.specs.Views.{premise, named, rule}
use Rattle.sx_rules.specs.Derivations.{Proof, nodes_of}
use Rattle.sx_rules.specs.EntryView.{entry, entries}
use Rattle.sx_plain.specs.Measures.{total}
use Rattle.sx_rewrite.specs.Accepted.{Accepted, extended_rules}
use Rattle.sx_rewrite.proofs.Instanced.{bare-found, bare-none}
use Rattle.sx_expand.specs.Standing.{IsDerivationListed, AreEndsFrom}
use Rattle.sx_expand.specs.Steps.{AreSteps}
use Rattle.sx_expand.proofs.Standing.{nodes-some, stands-within, listed-kids, rule-stands, given-stands}
use Rattle.sx_expand.proofs.Nodes.{kids-many, never-ruleless}
use Rattle.sx_expand.proofs.Steps.{nodes_each, nodes-total, nodes-many, row-steps}

module _ (a : Accepted) (es : List EntryOf) (i : ℕ) where
  -- what stands there is within the list
  pub listed-within : (p : Proof) → IsDerivationListed a (entries es) i p → i < length es
  listed-within p h =
      let w = stands-within (entries es) i p h.stands in
      let n = nodes-some p in
      let m = length-map es entry in omega (arith, w, n, m)

  -- a given ends at the next entry
  pub given-end : (x : EntryOf) (n : ℕ) → x ≡ get_or es i x → x ≡ Given n → (p : Proof) → IsDerivationListed a (entries es) i p → i + 1 ≡ i + nodes_of p
  given-end x n same is p h =
      let e = given-stands es i x n p (listed-within p h) same is h.stands in
      let f = ap nodes_of e in omega (arith, f)

  module _ (x : EntryOf) (r : ℕ) (same : x ≡ get_or es i x) (is : x ≡ Rule r) (rs : List RuleOf) (all : map rule rs ≡ extended_rules a) where
    -- there is a rule where a node by it stands
    pub no-rule : slice_get (map named rs) r ≡ None → (p : Proof) → IsDerivationListed a (entries es) i p → ⊥
    no-rule none p h =
        let b = rule-stands es i x r p (listed-within p h) same is h.stands in
        let k = subst (IsDerivationListed a (entries es) i) b.is h in
        never-ruleless a r b.binds b.kids k.fit (subst (λ xs. slice_get xs r ≡ None) all (bare-none rs r none))

    module _ (found : RuleOf) (at_r : slice_get (map named rs) r ≡ Some (named found)) (ps : List Premise) (row : ps ≡ found.premises.items) (ends : List ℕ) (known : AreEndsFrom a (entries es) (i + 1) ends) where
      -- a node ends where its last kid does
      pub record IsNodeAt (p : Proof) : Type 0 where
        pub sizes : List ℕ
        pub many : length sizes ≡ length (judgements_of (map premise ps))
        pub steps : AreSteps ends (i + 1) sizes
        pub end : i + 1 + total sizes ≡ i + nodes_of p

      pub node-at : (p : Proof) → IsDerivationListed a (entries es) i p → IsNodeAt p
      node-at p h =
          let b = rule-stands es i x r p (listed-within p h) same is h.stands in
          let k = subst (IsDerivationListed a (entries es) i) b.is h in
          let m = kids-many a r b.binds b.kids (rule found) k.fit (subst (λ xs. slice_get xs r ≡ Some (rule found)) all (bare-found rs r found at_r)) in
          let t = nodes-total b.kids in
          let n = ap nodes_of b.is in
          record {
            sizes = nodes_each b.kids;
            many = nodes-many b.kids ∙ m ∙ ap (λ (xs : List Premise). length (judgements_of (map premise xs))) (sym row);
            steps = row-steps a (entries es) (i + 1) ends known (i + 1) b.kids (omega arith) (listed-kids a (entries es) i r b.binds b.kids k);
            end = omega (arith, t, n);
          }
