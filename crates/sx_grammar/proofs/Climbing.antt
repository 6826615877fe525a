-- Numbers that never fall along a step.
use Rattle.std.proofs.Common.{◌≡◌, ℕ, ◌+◌, ◌<◌, ◌≤◌, List, Vec, length, get_or, Some, Contains, ⊎_elim, ap, ◌∙◌, subst, arith}
use Rattle.std.specs.declared.alloc.Global.{Global}
use Rattle.std.specs.Prelude.{slice_get, slice_index_or}
use Rattle.std.proofs.lemmas.Bool.{cases_lt}
use Rattle.std.proofs.lemmas.Option.{slice_get_within, get_or_from_slice_get}
use Rattle.sx_grammar.specs.Grammar.{Grammar}
use Rattle.sx_grammar.specs.Cyclic.{DerivesAlone, one_step, step_after, IsCyclic}
use Rattle.sx_grammar.specs.Cycles.{AreStepsOf, NeverFalls, Rises}
use Rattle.sx_grammar.proofs.Finding.{contains_place}

-- what holds of the first numbers of a list and of the next holds of one more
pub each_more : (P : ℕ → Type 0) (xs : List ℕ) (n : ℕ) → ((k x : ℕ) → k < n → slice_get xs k ≡ Some x → P x) → P (get_or xs n 0) → (k x : ℕ) → k < n + 1 → slice_get xs k ≡ Some x → P x
each_more P xs n before here k x lt at = ⊎_elim
    (λ low. before k x low at)
    (λ high. let same : n ≡ k = omega (arith, lt, high) in subst P (ap (λ m. get_or xs m 0) same ∙ get_or_from_slice_get xs k x 0 at) here)
    (cases_lt k n)

-- and where these are all, of each
pub each_all : (P : ℕ → Type 0) (xs : List ℕ) (n : ℕ) → length xs ≤ n → ((k x : ℕ) → k < n → slice_get xs k ≡ Some x → P x) → (x : ℕ) → Contains xs x → P x
each_all P xs n whole each x has =
    let place = contains_place xs x has in
    let within = slice_get_within xs place.0 x place.1 in
    each place.0 x (omega (arith, within, whole)) place.1

-- where each step from the sort rises, and no step falls, what it leads to has a greater number
rises_to : (g : Grammar) (lists : List (Vec ℕ Global)) → AreStepsOf g lists → (numbers : List ℕ) → NeverFalls numbers lists → {sort other : ℕ} → Rises numbers lists sort
    → DerivesAlone g sort other → slice_index_or numbers sort 0 < slice_index_or numbers other 0
rises_to g lists are numbers never rises (one_step {sort = sort} {other = other} step) = rises other ((are sort other).1 step)
rises_to g lists are numbers never rises (step_after {sort = sort} {middle = middle} {other = other} leads step) =
    let before : slice_index_or numbers sort 0 < slice_index_or numbers middle 0 = rises_to g lists are numbers never rises leads in
    let after : slice_index_or numbers middle 0 ≤ slice_index_or numbers other 0 = never middle other ((are middle other).1 step) in
    omega (arith, before, after)

pub rises_apart : (g : Grammar) (lists : List (Vec ℕ Global)) → AreStepsOf g lists → (numbers : List ℕ) → NeverFalls numbers lists → (sort : ℕ) → Rises numbers lists sort → IsCyclic g sort → ⊥
rises_apart g lists are numbers never sort rises cyclic = let h = rises_to g lists are numbers never rises cyclic in omega (arith, h)
