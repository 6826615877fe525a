-- Numbered productions as plain data.
use Rattle.std.specs.Prelude.{◌≡◌, ℕ, List, [], map, slice_index_or}
use Rattle.sx_grammar.specs.declared.numbered.NumberedSymbol.{NumberedSymbol}
use Rattle.sx_grammar.specs.declared.numbered.NumberedSymbol.TheVariants.{Lit, Lex, Part}
use Rattle.sx_grammar.specs.declared.numbered.NumberedProduction.{NumberedProduction}
use Rattle.sx_grammar.specs.Grammar as plain

-- with these literals
abbrev pub symbol : List plain.Text → NumberedSymbol → plain.Symbol
symbol literals (Lit number) = plain.literal (slice_index_or literals number [])
symbol literals (Lex kind) = plain.lexical kind
symbol literals (Part sort least) = plain.part sort least

abbrev pub production : List plain.Text → NumberedProduction → plain.Production
production literals p = record {
  sort = p.sort;
  level = p.level;
  symbols = map (symbol literals) p.symbols.items;
}

-- a production with its symbols as a list
pub record Bare : Type 0 where
  pub sort : ℕ
  pub level : ℕ
  pub symbols : List NumberedSymbol

abbrev pub bare : NumberedProduction → Bare
bare p = record { sort = p.sort; level = p.level; symbols = p.symbols.items }

-- these are the productions of the grammar
abbrev pub AreOf : plain.Grammar → List NumberedProduction → Type 0
AreOf g ps = (literals : List plain.Text) × (g.productions ≡ map (production literals) ps)
