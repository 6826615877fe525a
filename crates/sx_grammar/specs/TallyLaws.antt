-- How the readings of a span are counted from those of its parts.
use Rattle.std.specs.Prelude.{◌≡◌, ℕ, suc, ◌≤◌, List, [], ◌∷◌, Some}
use Rattle.std.specs.List.{slice_get}
use Rattle.sx_term.specs.declared.lex_kind.LexKind.{LexKind}
use Rattle.sx_grammar.specs.Grammar.{Text, Symbol, literal, lexical, part, Production, Brackets}
use Rattle.sx_grammar.specs.Grammar.{Grammar, pair_of, Token}
use Rattle.sx_grammar.specs.declared.head.Head.{Head}
use Rattle.sx_grammar.specs.declared.head.Head.TheVariants.{Labelled, Bracketed}
use Rattle.sx_grammar.specs.Reading.{IsLiteral, Reading, Readings, Reads, ReadsAll, ReadsBy}
use Rattle.sx_grammar.specs.Reading.{reading_depth, readings_depth}
use Rattle.sx_grammar.specs.Tally.{Tally, one_way, times, plus, deeper, tally_of_all, IsTally}
use Rattle.sx_grammar.specs.Tally.{AllTallied}
use Rattle.sx_grammar.specs.Tally.{Among, EachOnce, IsLeafAt, ReadsVia, ReadsAt, IsVariableAt}

-- how the readings of each span are counted from those of its parts
pub record TallySteps (g : Grammar) (tokens : List Token) : Type 0 where
  -- no symbols
  pub no_symbols : (from : ℕ) → IsTally (ReadsAll g tokens [] from from) readings_depth (one_way 0)
  -- a literal that stands there, and the rest
  pub by_literal : (text : Text) (rest : List Symbol) (from to : ℕ) (t : Tally) →
      IsLiteral tokens from text →
      IsTally (ReadsAll g tokens rest (suc from) to) readings_depth t →
      IsTally (ReadsAll g tokens (literal text ∷ rest) from to) readings_depth t
  -- a lexical symbol, and the rest
  pub by_lexeme : (kind : LexKind) (rest : List Symbol) (from to : ℕ) (t u : Tally) →
      IsTally (IsLeafAt tokens kind from) reading_depth t →
      IsTally (ReadsAll g tokens rest (suc from) to) readings_depth u →
      IsTally (ReadsAll g tokens (lexical kind ∷ rest) from to) readings_depth (times t u)
  -- a part read up to one place, and the rest
  pub by_part : (sort least : ℕ) (rest : List Symbol) (from to middle : ℕ) (t u : Tally) →
      IsTally (Reads g tokens sort least from middle) reading_depth t →
      IsTally (ReadsAll g tokens rest middle to) readings_depth u →
      IsTally (ReadsVia g tokens sort least rest from to middle) readings_depth (times t u)
  -- all the places up to which the part may be read
  pub over_places : (sort least : ℕ) (rest : List Symbol) (from to : ℕ) (middles : List ℕ)
      (f : ℕ → Tally) → EachOnce middles →
      ((middle : ℕ) (ks : Readings) → ReadsVia g tokens sort least rest from to middle ks →
      Among middle middles) →
      AllTallied (ReadsVia g tokens sort least rest from to) readings_depth f middles →
      IsTally (ReadsAll g tokens (part sort least ∷ rest) from to) readings_depth
      (tally_of_all f middles)
  -- a node of a production
  pub by_node : (label : ℕ) (p : Production) (from to : ℕ) (t : Tally) →
      slice_get g.productions label ≡ Some p →
      IsTally (ReadsAll g tokens p.symbols from to) readings_depth t →
      IsTally (ReadsBy g tokens (Labelled label) p.sort from to) reading_depth (deeper t)
  -- a bracket pair
  pub by_brackets : (sort from to : ℕ) (pair : Brackets) (t : Tally) → pair_of g sort ≡ Some pair →
      IsLiteral tokens from pair.opening → IsLiteral tokens to pair.closing →
      IsTally (Reads g tokens sort 0 (suc from) to) reading_depth t →
      IsTally (ReadsBy g tokens (Bracketed sort) sort from (suc to)) reading_depth (deeper t)
  -- a metavariable, or all the heads that make the sort at least the level
  pub by_sort : (sort least from to : ℕ) (heads : List Head) (t : Tally) (f : Head → Tally) →
      least ≤ 100 → EachOnce heads →
      ((head : Head) (r : Reading) → ReadsAt g tokens sort least from to head r →
      Among head heads) →
      IsTally (IsVariableAt tokens sort from to) reading_depth t →
      AllTallied (ReadsAt g tokens sort least from to) reading_depth f heads →
      IsTally (Reads g tokens sort least from to) reading_depth (plus t (tally_of_all f heads))

abbrev pub TalliesAreCounted : Type 0
TalliesAreCounted = (g : Grammar) (tokens : List Token) → TallySteps g tokens
