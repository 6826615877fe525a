-- Assignments as substitutions, and the test of whether two terms are apart.
use Rattle.std.proofs.Common.{◌≡◌, ℕ, zero, suc, ◌<◌, Bool, true, false, List, [], ◌∷◌, ◌⊎◌, inl, inr, map, length, refl, sym, ap, ◌∙◌, arith}
use Rattle.std.specs.Prelude.{◌&&◌, ◌||◌}
use Rattle.sx_term.specs.Tree.{Tree, node, lexeme, hole}
use Rattle.sx_rules.specs.Instances.{instance, Stands, StandsAmong, bound_by}
use Rattle.sx_arena.specs.Matching.{same, Assignment, value_or, filled, IsBound, Agrees}
use Rattle.sx_rules.specs.Rules.{Judgement, Hypotheses, judgement_instance, AreDifferentLexemes, IsPair, AreApart}
use Rattle.sx_rules.specs.Modes.{Modes, inputs_of, outputs_of, Goal, goal_of}
use Rattle.sx_arena.specs.Limits.{different_lexemes, is_pair, are_apart, first_values}
use Rattle.sx_arena.proofs.Sameness.{and_left, and_right, and_both, same_true, same_self}
use Rattle.sx_rules.proofs.Instancing.{instance-same, map_instance-same}
use Rattle.sx_rules.proofs.Moded.{inputs-map, outputs-map}

-- where the variables of a term are bound, the assignment gives what each agreeing substitution gives
pub filled-agrees : (env : Assignment) (s : ℕ → Tree) → Agrees env s → (v : ℕ) → IsBound env v → filled env v ≡ s v
filled-agrees env s a v (u, e) = ap value_or e ∙ sym (a v u e)

pub filled-instance : (env : Assignment) (s : ℕ → Tree) → Agrees env s → (t : Tree) → ((v : ℕ) → Stands v t → IsBound env v) → instance (filled env) t ≡ instance s t
filled-instance env s a t h = instance-same (filled env) s t (λ v k. filled-agrees env s a v (h v k))

pub filled-map_instance : (env : Assignment) (s : ℕ → Tree) → Agrees env s → (ts : List Tree) → ((v : ℕ) → StandsAmong v ts → IsBound env v) → map (instance (filled env)) ts ≡ map (instance s) ts
filled-map_instance env s a ts h = map_instance-same (filled env) s ts (λ v k. filled-agrees env s a v (h v k))

pub filled-inputs : (modes : Modes) (env : Assignment) (s : ℕ → Tree) → Agrees env s → (j : Judgement) → ((v : ℕ) → StandsAmong v (inputs_of modes j) → IsBound env v) →
    inputs_of modes (judgement_instance (filled env) j) ≡ inputs_of modes (judgement_instance s j)
filled-inputs modes env s a j h =
    inputs-map (filled env) (modes j.form) j.places ∙ filled-map_instance env s a (inputs_of modes j) h ∙ sym (inputs-map s (modes j.form) j.places)

pub filled-outputs : (modes : Modes) (env : Assignment) (s : ℕ → Tree) → Agrees env s → (j : Judgement) → ((v : ℕ) → StandsAmong v (outputs_of modes j) → IsBound env v) →
    outputs_of modes (judgement_instance (filled env) j) ≡ outputs_of modes (judgement_instance s j)
filled-outputs modes env s a j h =
    outputs-map (filled env) (modes j.form) j.places ∙ filled-map_instance env s a (outputs_of modes j) h ∙ sym (outputs-map s (modes j.form) j.places)

pub filled-goal : (modes : Modes) (env : Assignment) (s : ℕ → Tree) → Agrees env s → (j : Judgement) → ((v : ℕ) → StandsAmong v (inputs_of modes j) → IsBound env v) →
    goal_of modes (judgement_instance (filled env) j) ≡ goal_of modes (judgement_instance s j)
filled-goal modes env s a j h = ap (λ (ts : List Tree). let g : Goal = record { form = j.form; terms = ts } in g) (filled-inputs modes env s a j h)

-- the first values of a substitution that bindings state are the bindings
pub first_values-bound : (binds : List Tree) (n : ℕ) (s : ℕ → Tree) → length binds ≡ n → ((v : ℕ) → v < n → s v ≡ bound_by binds v) → first_values n s ≡ binds
first_values-bound [] zero s e h = refl
first_values-bound [] (suc n) s e h = absurd (omega arith)
first_values-bound (t ∷ ts) zero s e h = absurd (omega arith)
first_values-bound (t ∷ ts) (suc n) s e h =
    let a : s zero ≡ t = h zero (omega arith) in
    let b : first_values n (λ v. s (suc v)) ≡ ts = first_values-bound ts n (λ v. s (suc v)) (omega arith) (λ v k. h (suc v) (omega arith)) in cc

pub first_values-at : (n : ℕ) (s : ℕ → Tree) (v : ℕ) → v < n → bound_by (first_values n s) v ≡ s v
first_values-at zero s v h = absurd (omega arith)
first_values-at (suc n) s zero h = refl
first_values-at (suc n) s (suc v) h = first_values-at n (λ w. s (suc w)) v (omega arith)

pub length-first_values : (n : ℕ) (s : ℕ → Tree) → length (first_values n s) ≡ n
length-first_values zero s = refl
length-first_values (suc n) s = let e = length-first_values n (λ v. s (suc v)) in omega arith

-- the test of whether two terms are apart
or_left : (a b : Bool) → a ≡ true → (a || b) ≡ true
or_left true b e = refl
or_left false b e = cc

or_right : (a b : Bool) → b ≡ true → (a || b) ≡ true
or_right true b e = refl
or_right false b e = e

or_cases : (a b : Bool) → (a || b) ≡ true → (a ≡ true) ⊎ (b ≡ true)
or_cases true b e = inl refl
or_cases false b e = inr e

different-true : (t u : Tree) → different_lexemes t u ≡ true → AreDifferentLexemes t u
different-true (lexeme k x) (lexeme m y) e = λ q.
    let f : same (lexeme k x) (lexeme m y) ≡ true = ap (same (lexeme k x)) (sym q) ∙ same_self (lexeme k x) in
    go (same (lexeme k x) (lexeme m y)) f e
  where
    go : (b : Bool) → b ≡ true → elim b as (λ _. Bool) [ true ↦ false | false ↦ true ] ≡ true → ⊥
    go true f e = cc
    go false f e = cc
different-true (lexeme k x) (node l ts) e = cc
different-true (lexeme k x) (hole v) e = cc
different-true (node l ts) u e = cc
different-true (hole v) u e = cc

true-different : (t u : Tree) → AreDifferentLexemes t u → different_lexemes t u ≡ true
true-different (lexeme k x) (lexeme m y) h = go (same (lexeme k x) (lexeme m y)) refl
  where
    go : (b : Bool) → same (lexeme k x) (lexeme m y) ≡ b → elim b as (λ _. Bool) [ true ↦ false | false ↦ true ] ≡ true
    go true e = absurd (h (same_true (lexeme k x) (lexeme m y) e))
    go false e = refl
true-different (lexeme k x) (node l ts) h = absurd h
true-different (lexeme k x) (hole v) h = absurd h
true-different (node l ts) u h = absurd h
true-different (hole v) u h = absurd h

pair-true : (ps : List (Tree × Tree)) (t u : Tree) → is_pair ps t u ≡ true → IsPair ps t u
pair-true [] t u e = cc
pair-true (p ∷ ps) t u e = go (pair-true ps t u) (or_cases (same p.0 t && same p.1 u) (is_pair ps t u) e)
  where
    go : (is_pair ps t u ≡ true → IsPair ps t u) → ((same p.0 t && same p.1 u) ≡ true) ⊎ (is_pair ps t u ≡ true) → IsPair (p ∷ ps) t u
    go rec (inl h) = inl (same_true p.0 t (and_left (same p.0 t) (same p.1 u) h), same_true p.1 u (and_right (same p.0 t) (same p.1 u) h))
    go rec (inr h) = inr (rec h)

true-pair : (ps : List (Tree × Tree)) (t u : Tree) → IsPair ps t u → is_pair ps t u ≡ true
true-pair [] t u h = absurd h
true-pair (p ∷ ps) t u (inl h) =
    or_left (same p.0 t && same p.1 u) (is_pair ps t u)
    (and_both (same p.0 t) (same p.1 u) (ap (same p.0) (sym h.0) ∙ same_self p.0) (ap (same p.1) (sym h.1) ∙ same_self p.1))
true-pair (p ∷ ps) t u (inr h) = or_right (same p.0 t && same p.1 u) (is_pair ps t u) (true-pair ps t u h)

pub apart-true : (hyps : Hypotheses) (t u : Tree) → are_apart hyps t u ≡ true → AreApart hyps t u
apart-true hyps t u e = go (or_cases (is_pair hyps.pairs t u) (is_pair hyps.pairs u t || different_lexemes t u) e)
  where
    more : (is_pair hyps.pairs u t ≡ true) ⊎ (different_lexemes t u ≡ true) → AreApart hyps t u
    more (inl h) = inr (inl (pair-true hyps.pairs u t h))
    more (inr h) = inr (inr (different-true t u h))

    go : (is_pair hyps.pairs t u ≡ true) ⊎ ((is_pair hyps.pairs u t || different_lexemes t u) ≡ true) → AreApart hyps t u
    go (inl h) = inl (pair-true hyps.pairs t u h)
    go (inr h) = more (or_cases (is_pair hyps.pairs u t) (different_lexemes t u) h)

pub true-apart : (hyps : Hypotheses) (t u : Tree) → AreApart hyps t u → are_apart hyps t u ≡ true
true-apart hyps t u (inl h) = or_left (is_pair hyps.pairs t u) (is_pair hyps.pairs u t || different_lexemes t u) (true-pair hyps.pairs t u h)
true-apart hyps t u (inr (inl h)) =
    or_right (is_pair hyps.pairs t u) (is_pair hyps.pairs u t || different_lexemes t u) (or_left (is_pair hyps.pairs u t) (different_lexemes t u) (true-pair hyps.pairs u t h))
true-apart hyps t u (inr (inr h)) =
    or_right (is_pair hyps.pairs t u) (is_pair hyps.pairs u t || different_lexemes t u) (or_right (is_pair hyps.pairs u t) (different_lexemes t u) (true-different t u h))
