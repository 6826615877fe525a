-- Lists that grow.
use Rattle.std.specs.Prelude.{◌≡◌, ◌⊎◌, List, ◌++◌, Contains}

-- the new list begins with the old one
abbrev pub GoesOnFrom : {X : Type 0} → List X → List X → Type 0
GoesOnFrom {X} old new = (more : List X) × (new ≡ old ++ more)

-- what is new in the list has the property
abbrev pub AllNew : {X : Type 0} → List X → List X → (X → Type 0) → Type 0
AllNew {X} old new P = (i : X) → Contains new i → Contains old i ⊎ P i
