-- Sorts that are not typed, and shapes whose plain constructors have no typed part.
use Rattle.std.specs.Prelude.{◌≡◌, ℕ, List, [], ◌∷◌, Some, slice_get}
use Rattle.sx_term.specs.declared.sort.Sort.{Sort}
use Rattle.sx_term.specs.declared.sort.Sort.TheVariants.{Typed}
use Rattle.sx_term.specs.Sorts.{Shape}

-- the sort is lexical or plain
abbrev pub IsUntypedSort : Sort → Type 0
IsUntypedSort sort = (k : ℕ) → sort ≡ Typed k → ⊥

-- none of the sorts is typed
abbrev pub AreUntypedSorts : List Sort → Type 0
AreUntypedSorts [] = Unit {0}
AreUntypedSorts (sort ∷ sorts) = IsUntypedSort sort × AreUntypedSorts sorts

-- plain constructors have no typed part
abbrev pub PlainHaveNoTyped : List Shape → Type 0
PlainHaveNoTyped shapes =
    (label : ℕ) (shape : Shape) → slice_get shapes label ≡ Some shape → IsUntypedSort shape.sort →
    AreUntypedSorts shape.kids
