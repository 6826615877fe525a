-- Numbered symbols.
use Rattle.std.specs.Prelude.{◌≡◌, ℕ, ◌<◌, List, Some, slice_get}
use Rattle.sx_grammar.specs.declared.numbered.NumberedSymbol.{NumberedSymbol}
use Rattle.sx_grammar.specs.declared.numbered.NumberedSymbol.TheVariants.{Lit}

-- the numbers of literals are below the bound
abbrev pub HasLiteralsBelow : ℕ → List NumberedSymbol → Type 0
HasLiteralsBelow bound symbols = (k n : ℕ) → slice_get symbols k ≡ Some (Lit n) → n < bound
