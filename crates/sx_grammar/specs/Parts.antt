-- What a grammar is made of, by names, as plain data.
use Rattle.std.specs.Prelude.{ℕ, Option, Some, None, List, [], ◌∷◌, ◌++◌, map, flat_map, position}
use Rattle.std.specs.Prelude.{unwrap_or, option_map, length}
use Rattle.std.specs.Borrow.{Bor}
use Rattle.std.specs.Str.{bytes_eq}
use Rattle.sx_grammar.specs.declared.symbol.Symbol.{Symbol}
use Rattle.sx_grammar.specs.declared.symbol.Symbol.TheVariants.{Lit, Lex, Part}
use Rattle.sx_grammar.specs.declared.sort_line.SortLine.{SortLine}
use Rattle.sx_grammar.specs.declared.production.Production.{Production}
use Rattle.sx_grammar.specs.declared.grammar_parts.GrammarParts.{GrammarParts}
use Rattle.sx_grammar.specs.Grammar as plain

-- a production by names
pub record Line : Type 0 where
  pub label : plain.Text
  pub sort : plain.Text
  pub level : ℕ
  pub symbols : List Symbol

pub record Parts : Type 0 where
  pub sorts : List SortLine
  pub productions : List Line

abbrev pub line : Production → Line
line p = record { label = p.label; sort = p.sort; level = p.level; symbols = p.symbols.items }

abbrev pub parts : GrammarParts → Parts
parts p = record { sorts = p.sorts.items; productions = map line p.productions.items }

-- the names of the sorts
abbrev pub names : Parts → List plain.Text
names p = map (λ s. s.name) p.sorts

-- the labels of the productions
abbrev pub labels : Parts → List plain.Text
labels p = map (λ r. r.label) p.productions

abbrev pub bracket_literals : Option (plain.Text × plain.Text) → List plain.Text
bracket_literals None = []
bracket_literals (Some pair) = pair.0 ∷ pair.1 ∷ []

abbrev pub symbol_literals : Symbol → List plain.Text
symbol_literals (Lit text) = text ∷ []
symbol_literals (Lex kind) = []
symbol_literals (Part sort least) = []

abbrev pub symbol_sorts : Symbol → List plain.Text
symbol_sorts (Lit text) = []
symbol_sorts (Lex kind) = []
symbol_sorts (Part sort least) = sort ∷ []

-- the brackets and literals as they stand, sorts before productions
abbrev pub literals : Parts → List plain.Text
literals p = flat_map (λ s. bracket_literals s.brackets) p.sorts
    ++ flat_map (λ r. flat_map symbol_literals r.symbols) p.productions

-- the names of sorts as they stand in the productions, each production's own sort before those of
-- its parts
abbrev pub sorts_named : Parts → List plain.Text
sorts_named p = flat_map (λ r. r.sort ∷ flat_map symbol_sorts r.symbols) p.productions

-- the number of a sort: the place of its name
abbrev pub number_of : List plain.Text → plain.Text → ℕ
number_of names name = unwrap_or (position (λ other. bytes_eq other name) names) (length names)

abbrev pub numbered_symbol : List plain.Text → Symbol → plain.Symbol
numbered_symbol names (Lit text) = plain.literal text
numbered_symbol names (Lex kind) = plain.lexical kind
numbered_symbol names (Part sort least) = plain.part (number_of names sort) least

abbrev pub numbered_line : List plain.Text → Line → plain.Production
numbered_line names r = record {
  sort = number_of names r.sort;
  level = r.level;
  symbols = map (numbered_symbol names) r.symbols;
}

abbrev pub numbered_pair : Option (plain.Text × plain.Text) → Option plain.Brackets
numbered_pair brackets = option_map (λ pair. record { opening = pair.0; closing = pair.1 }) brackets

abbrev pub numbered_sort : SortLine → plain.SortLine
numbered_sort s = record { typed = s.typed; brackets = numbered_pair s.brackets }

-- the grammar of the parts: a sort is the number of its line, a label the number of its production
abbrev pub numbered : Parts → plain.Grammar
numbered p = record {
  sorts = map numbered_sort p.sorts;
  productions = map (numbered_line (names p)) p.productions;
}

-- the texts behind references
abbrev pub texts : List (Bor plain.Text) → List plain.Text
texts refs = map (λ r. r.now) refs
