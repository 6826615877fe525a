-- What can be numbered.
use Rattle.std.specs.Prelude.{◌≡◌, ℕ, ◌<◌, Option, List, Some, slice_get, Contains}
use Rattle.sx_grammar.specs.declared.symbol.Symbol.{Symbol}
use Rattle.sx_grammar.specs.declared.symbol.Symbol.TheVariants.{Lit, Lex, Part}
use Rattle.sx_grammar.specs.declared.production.Production.{Production}
use Rattle.sx_grammar.specs.declared.numbered.NumberedSymbol.{NumberedSymbol}
use Rattle.sx_grammar.specs.declared.numbered.NumberedSymbol.TheVariants.{Lit as NumberedLit}
use Rattle.sx_grammar.specs.Grammar.{Text}
use Rattle.sx_grammar.specs.Parts.{bracket_literals}

-- the text is among the texts
abbrev pub IsTextAmong : List Text → Text → Type 0
IsTextAmong all text = ¬ (¬ (Contains all text))

-- the symbol's sort is among the names, and its literal among the literals
abbrev pub IsKnown : (names literals : List Text) → Symbol → Type 0
IsKnown names literals (Lit text) = IsTextAmong literals text
IsKnown names literals (Lex kind) = Unit {0}
IsKnown names literals (Part name least) = IsTextAmong names name

-- so it is of the production's sort and of all its symbols
abbrev pub IsKnownLine : (names literals : List Text) → Production → Type 0
IsKnownLine names literals p = IsTextAmong names p.sort ×
    ((s : Symbol) → Contains p.symbols.items s → IsKnown names literals s)

-- the brackets are among the literals
abbrev pub IsKnownPair : List Text → Option (Text × Text) → Type 0
IsKnownPair literals pair = (text : Text) → Contains (bracket_literals pair) text →
    IsTextAmong literals text

-- the numbers of literals among the symbols are below the bound
abbrev pub LiteralsAreBelow : ℕ → List NumberedSymbol → Type 0
LiteralsAreBelow bound symbols = (k n : ℕ) → slice_get symbols k ≡ Some (NumberedLit n) → n < bound
