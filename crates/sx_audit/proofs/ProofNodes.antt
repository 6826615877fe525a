-- The nodes of a derivation that is kept in boxes.
use Rattle.std.proofs.Common.{◌≡◌, ℕ, zero, suc, ◌+◌, ◌<◌, ◌≤◌, List, [], ◌∷◌, ◌++◌, map, drop}
use Rattle.std.proofs.Common.{get_or, length, Box, Vec, Some, ap, sym, subst, ◌∙◌}
use Rattle.std.specs.Prelude.{slice_get}
use Rattle.std.specs.declared.alloc.Global.{Global}
use Rattle.std.proofs.lemmas.List.{at_drop_more, drop_all}
use Rattle.sx_term.specs.declared.term.Term.{Term}
use Rattle.sx_term.specs.Term.{tree}
use Rattle.sx_rules.specs.declared.proof.Proof.{Proof as ProofOf, By}
use Rattle.sx_rules.specs.Derivations.{by, ◌⊳◌}
use Rattle.sx_rules.specs.ProofView.{proof, boxed}
use Rattle.sx_rules.specs.Views.{NamedRule, rule_name}
use Rattle.sx_rules.proofs.ProofRows.{proof-at_by}
use Rattle.sx_audit.specs.Meaning.{node}
use Rattle.sx_audit.specs.Preorder.{nodes, nodes_of_each, IsByRules, AreByRules}

-- the name of a rule that is there
pub name-at : (rules : List NamedRule) (i : ℕ) (r : NamedRule) → slice_get rules i ≡ Some r →
    rule_name rules i ≡ r.name
name-at [] i r e = cc
name-at (x ∷ rules) zero r e = cc
name-at (x ∷ rules) (suc i) r e = name-at rules i r e

-- one kid on
pub boxed-on : (ks : List (Box ProofOf Global)) (i : ℕ) (k : Box ProofOf Global) (q : ProofOf) →
    i < length ks → k ≡ get_or ks i k → q ≡ k.value →
    boxed (drop i ks) ≡ proof q ⊳ boxed (drop (i + 1) ks)
boxed-on ks i k q h e same =
    at_drop_more boxed ks i k h
    ∙ ap (λ (x : Box ProofOf Global). proof x.value ⊳ boxed (drop (i + 1) ks)) (sym e)
    ∙ ap (λ (x : ProofOf). proof x ⊳ boxed (drop (i + 1) ks)) (sym same)

-- kids that are left have no givens either
by-rules-drop : (many : ℕ) (ks : List (Box ProofOf Global)) (i : ℕ) → AreByRules many (boxed ks) →
    AreByRules many (boxed (drop i ks))
by-rules-drop many [] zero h = tt
by-rules-drop many [] (suc i) h = tt
by-rules-drop many (k ∷ ks) zero h = h
by-rules-drop many (k ∷ ks) (suc i) h = by-rules-drop many ks i h.1

module _ (p : ProofOf) (rule : ℕ) (binds : Vec Term Global) (kids : Vec (Box ProofOf Global) Global)
    (is : p ≡ By rule binds kids) where
  viewed : proof p ≡ by rule (map tree binds.items) (boxed kids.items)
  viewed = proof-at_by p rule binds kids is

  pub own-rule : (many : ℕ) → IsByRules many (proof p) → rule < many
  own-rule many h = (subst (IsByRules many) viewed h).0

  module _ (ks : List (Box ProofOf Global)) (row : ks ≡ kids.items) where
    kids-by-rules : (many : ℕ) → IsByRules many (proof p) → AreByRules many (boxed ks)
    kids-by-rules many h =
        subst (λ (xs : List (Box ProofOf Global)). AreByRules many (boxed xs)) (sym row)
        (subst (IsByRules many) viewed h).1

    pub kid-by-rules : (many i : ℕ) (k : Box ProofOf Global) (q : ProofOf) → i < length ks →
        k ≡ get_or ks i k → q ≡ k.value → IsByRules many (proof p) → IsByRules many (proof q)
    kid-by-rules many i k q h e same b =
        (subst (AreByRules many) (boxed-on ks i k q h e same)
        (by-rules-drop many ks i (kids-by-rules many b))).0

    -- the node itself comes first, and then its kids
    pub node-first : (rules : List NamedRule) (depth : ℕ) (r : NamedRule) →
        slice_get rules rule ≡ Some r → nodes rules depth (proof p)
        ≡ (node r.name depth ∷ []) ++ nodes_of_each rules (depth + 1) (boxed (drop 0 ks))
    node-first rules depth r e =
        ap (nodes rules depth) viewed
        ∙ ap (λ (name : List ℕ). node name depth
        ∷ nodes_of_each rules (depth + 1) (boxed kids.items)) (name-at rules rule r e)
        ∙ ap (λ (xs : List (Box ProofOf Global)). node r.name depth
        ∷ nodes_of_each rules (depth + 1) (boxed xs)) (sym row)

-- the kids that are left
pub kids-on : (rules : List NamedRule) (depth : ℕ) (ks : List (Box ProofOf Global)) (i : ℕ)
    (k : Box ProofOf Global) (q : ProofOf) → i < length ks → k ≡ get_or ks i k → q ≡ k.value →
    nodes_of_each rules depth (boxed (drop i ks))
    ≡ nodes rules depth (proof q) ++ nodes_of_each rules depth (boxed (drop (i + 1) ks))
kids-on rules depth ks i k q h e same =
    ap (nodes_of_each rules depth) (boxed-on ks i k q h e same)

-- none is left
pub kids-end : (rules : List NamedRule) (depth : ℕ) (ks : List (Box ProofOf Global)) (i : ℕ) →
    length ks ≤ i → nodes_of_each rules depth (boxed (drop i ks)) ≡ []
kids-end rules depth ks i h =
    ap (λ (xs : List (Box ProofOf Global)). nodes_of_each rules depth (boxed xs)) (drop_all i ks h)
