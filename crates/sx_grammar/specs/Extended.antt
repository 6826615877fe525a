-- What extending a grammar answers.
use Rattle.std.specs.Prelude.{◌≡◌, ℕ, Bool, true, false, List, [], ◌∷◌, ◌++◌, Result, Ok, Err}
use Rattle.std.specs.Prelude.{Option, Some, None}
use Rattle.std.specs.List.{list_any}
use Rattle.sx_grammar.specs.declared.symbol.Symbol.{Symbol}
use Rattle.sx_grammar.specs.declared.symbol.Symbol.TheVariants.{Lit, Lex, Part}
use Rattle.sx_grammar.specs.declared.sort_line.SortLine.{SortLine}
use Rattle.sx_grammar.specs.declared.grammar_error.GrammarError.{GrammarError}
use Rattle.sx_grammar.specs.Parts.{Line, Parts}
use Rattle.sx_grammar.specs.Tables.{GrammarData}
use Rattle.sx_grammar.specs.Made.{IsGrammar, IsGrammarRefused}

-- the parts with more productions behind theirs
abbrev pub extended : Parts → List Line → Parts
extended p more = record { sorts = p.sorts; productions = p.productions ++ more }

-- the parts with more sorts and more productions behind theirs
abbrev pub grown : Parts → List SortLine → List Line → Parts
grown p new more = record { sorts = p.sorts ++ new; productions = p.productions ++ more }

-- the parts with one more sort and more productions behind theirs
abbrev pub widened : Parts → SortLine → List Line → Parts
widened p sort more = grown p (sort ∷ []) more

-- the one sort, or none
abbrev pub listed_sort : Option SortLine → List SortLine
listed_sort None = []
listed_sort (Some sort) = sort ∷ []

-- the one sort, where there is one, has no brackets
abbrev pub LacksPair : Option SortLine → Type 0
LacksPair None = Unit {0}
LacksPair (Some sort) = sort.brackets ≡ None

-- no brackets for one more sort, where there is one
abbrev pub blank : Bool → List (Option (ℕ × ℕ))
blank true = None ∷ []
blank false = []

-- the parts are these with more productions behind theirs, and with one sort, which has no
-- brackets, or none
pub record GrammarGrows (p : Parts) (more : List Line) (whole : Parts) : Type 0 where
  pub sort : Option SortLine
  pub plain : LacksPair sort
  pub is : whole ≡ grown p (listed_sort sort) more

-- whether the symbol is a literal or a lexical kind
abbrev pub is_token : Symbol → Bool
is_token (Lit text) = true
is_token (Lex kind) = true
is_token (Part sort least) = false

-- the production has no literal and no lexical kind
abbrev pub LacksTokens : Line → Type 0
LacksTokens r = list_any is_token r.symbols ≡ false

-- the grammar is of the base's parts and more productions, the base productions of the base are its
-- base, and the parts are those of a grammar; or why they are not
abbrev pub IsExtended : GrammarData → List Line → Result GrammarData GrammarError → Type 0
IsExtended base more (Ok g) = (g ≡ record { parts = extended base.parts more; base = base.base }) ×
    IsGrammar (extended base.parts more)
IsExtended base more (Err e) = IsGrammarRefused (extended base.parts more) e
