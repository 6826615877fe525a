-- Looking up among the candidates of a matching.
use Rattle.std.proofs.Common.{◌≡◌, ℕ, ◌+◌, ◌<◌, ◌≤◌, drop, length, get_or, List, [], ◌∷◌, ◌++◌, cond, eqb, Option, Some, None, ap, ◌∙◌, sym, subst, append_assoc, append-nil, arith}
use Rattle.std.proofs.lemmas.Bool.Decides.{nat_tests}
use Rattle.std.proofs.lemmas.List.{at_drop_more, at_drop_all, map-append}
use Rattle.sx_term.specs.declared.candidate.Candidate.{Candidate}
use Rattle.sx_term.specs.Tree.{Tree}
use Rattle.sx_term.specs.Term.{tree}
use Rattle.sx_term.specs.Bindings.{lookup, MakesEqual}
use Rattle.sx_term.specs.Matching.{AddsOnlyOf, IsLeast}
use Rattle.sx_term.specs.Candidates.{candidates, candidate}
use Rattle.sx_term.proofs.Lookups.{lookup-here, lookup-append}
use Rattle.sx_term.proofs.Matches.{IsLeast-makes_equal}

other : (x v : ℕ) (t : Tree) (rest : Option Tree) → (x ≡ v → ⊥) → cond (eqb x v) (Some t) rest ≡ rest
other x v t rest n = grind (arith, nat_tests)

-- the first of the candidates that are left
pub candidates-drop : (cs : List Candidate) (i : ℕ) (c : Candidate) → i < length cs → c ≡ get_or cs i c → candidates (drop i cs) ≡ candidate c ∷ candidates (drop (i + 1) cs)
candidates-drop cs i c h e = at_drop_more candidates cs i c h ∙ ap (λ x. candidate x ∷ candidates (drop (i + 1) cs)) (sym e)

-- is the variable's, or is not
pub lookup-candidate : (old : List (ℕ × Tree)) (cs : List Candidate) (i v : ℕ) (c : Candidate) → lookup old v ≡ None → lookup (candidates cs) v ≡ lookup (candidates (drop i cs)) v
    → i < length cs → c ≡ get_or cs i c → c.variable ≡ v → lookup (old ++ candidates cs) v ≡ Some (tree c.part.now)
lookup-candidate old cs i v c n s h e g =
    lookup-append old (candidates cs) v n ∙ s ∙ ap (λ es. lookup es v) (candidates-drop cs i c h e) ∙ lookup-here (candidate c) (candidates (drop (i + 1) cs)) v g

pub lookup-other : (cs : List Candidate) (i v : ℕ) (c : Candidate) → lookup (candidates cs) v ≡ lookup (candidates (drop i cs)) v → i < length cs → c ≡ get_or cs i c → (c.variable ≡ v → ⊥)
    → lookup (candidates cs) v ≡ lookup (candidates (drop (i + 1) cs)) v
lookup-other cs i v c s h e n =
    s ∙ ap (λ es. lookup es v) (candidates-drop cs i c h e) ∙ other c.variable v (tree c.part.now) (lookup (candidates (drop (i + 1) cs)) v) n

-- none is left
pub lookup-no_candidate : (old : List (ℕ × Tree)) (cs : List Candidate) (i v : ℕ) → lookup old v ≡ None → lookup (candidates cs) v ≡ lookup (candidates (drop i cs)) v → length cs ≤ i → lookup (old ++ candidates cs) v ≡ None
lookup-no_candidate old cs i v n s h = lookup-append old (candidates cs) v n ∙ s ∙ ap (λ es. lookup es v) (at_drop_all candidates cs i h)

-- one more candidate
pub candidates-push : (old : List (ℕ × Tree)) (cs new : List Candidate) (c : Candidate) → new ≡ cs ++ c ∷ [] → old ++ candidates new ≡ (old ++ candidates cs) ++ candidate c ∷ []
candidates-push old cs new c e = ap (λ xs. old ++ candidates xs) e ∙ ap (λ xs. old ++ xs) (map-append candidate cs (c ∷ [])) ∙ sym (append_assoc old (candidates cs) (candidate c ∷ []))

-- the bindings with all candidates behind them are the answer
pub candidates_make_equal : (old new : List (ℕ × Tree)) (none found : List Candidate) (p u : Tree) → none ≡ [] → new ≡ old ++ candidates found
    → IsLeast (old ++ candidates none) (old ++ candidates found) p u → AddsOnlyOf (old ++ candidates none) (old ++ candidates found) p → MakesEqual old new p u × AddsOnlyOf old new p
candidates_make_equal old new none found p u e f least adds =
    let g : old ++ candidates none ≡ old = ap (λ xs. old ++ candidates xs) e ∙ append-nil old in
    let L : List (ℕ × Tree) → Type 0 = λ a. IsLeast a (old ++ candidates found) p u in
    let A : List (ℕ × Tree) → Type 0 = λ a. AddsOnlyOf a (old ++ candidates found) p in
    let M : List (ℕ × Tree) → Type 0 = λ b. MakesEqual old b p u in
    let B : List (ℕ × Tree) → Type 0 = λ b. AddsOnlyOf old b p in
    (subst M (sym f) (IsLeast-makes_equal old (old ++ candidates found) p u (subst L g least)), subst B (sym f) (subst A g adds))
