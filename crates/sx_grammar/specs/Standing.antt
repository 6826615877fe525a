-- The labels, literals and names of sorts in productions, as they stand.
use Rattle.std.specs.Prelude.{List, ◌∷◌, map, flat_map}
use Rattle.sx_grammar.specs.Grammar.{Text}
use Rattle.sx_grammar.specs.Parts.{Line, symbol_literals, symbol_sorts}

-- the labels
abbrev pub labels_in : List Line → List Text
labels_in rs = map (λ r. r.label) rs

-- the literals
abbrev pub literals_in : List Line → List Text
literals_in rs = flat_map (λ r. flat_map symbol_literals r.symbols) rs

-- the names of sorts, each production's own before those of its parts
abbrev pub sorts_in : List Line → List Text
sorts_in rs = flat_map (λ r. r.sort ∷ flat_map symbol_sorts r.symbols) rs
