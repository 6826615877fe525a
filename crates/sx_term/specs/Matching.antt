-- What matching answers.
use Rattle.std.specs.Prelude.{◌≡◌, ◌↔◌, ℕ, List, ◌++◌, ◌⊎◌, IsSome}
use Rattle.sx_term.specs.declared.fit.Fit.{Fit}
use Rattle.sx_term.specs.declared.fit.Fit.TheVariants.{Matched, Clash}
use Rattle.sx_term.specs.Tree.{Tree}
use Rattle.sx_term.specs.Bindings.{lookup, Occurs, ExtendsBindings, MakesEqual}

-- what is bound besides are variables of the pattern
abbrev pub AddsOnlyOf : List (ℕ × Tree) → List (ℕ × Tree) → Tree → Type 0
AddsOnlyOf earlier later pattern = (v : ℕ) → IsSome (lookup later v) →
    IsSome (lookup earlier v) ⊎ Occurs v pattern

-- no extension of the bindings makes the pattern's instance the term
abbrev pub NoneMakesEqual : List (ℕ × Tree) → Tree → Tree → Type 0
NoneMakesEqual earlier pattern term = (b : List (ℕ × Tree)) → MakesEqual earlier b pattern term → ⊥

-- an extension by just the pattern's variables makes its instance the term, or none does and the
-- bindings are as before
abbrev pub IsFit : List (ℕ × Tree) → List (ℕ × Tree) → Tree → Tree → Fit → Type 0
IsFit earlier later pattern term Matched = MakesEqual earlier later pattern term ×
    AddsOnlyOf earlier later pattern
IsFit earlier later pattern term Clash = NoneMakesEqual earlier pattern term × (later ≡ earlier)

-- the bindings that make the pattern's instance the term are just those that extend the later ones
abbrev pub IsLeast : List (ℕ × Tree) → List (ℕ × Tree) → Tree → Tree → Type 0
IsLeast earlier later pattern term = (b : List (ℕ × Tree)) →
    MakesEqual earlier b pattern term ↔ ExtendsBindings later b

-- the later bindings are the earlier ones with more entries behind them
abbrev pub Appends : List (ℕ × Tree) → List (ℕ × Tree) → Type 0
Appends earlier later = (more : List (ℕ × Tree)) × (later ≡ earlier ++ more)
