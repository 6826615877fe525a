-- A made grammar as plain data, and its tables.
use Rattle.std.specs.Prelude.{◌≡◌, ℕ, ◌≤◌, ◌<◌, ◌^◌, Option, Some, None, List, [], ◌∷◌, map, length}
use Rattle.std.specs.Prelude.{slice_get, Contains, Result, Ok, Err}
use Rattle.sx_grammar.specs.declared.symbol.Symbol.TheVariants.{Part}
use Rattle.sx_grammar.specs.declared.grammar_error.GrammarError.{GrammarError}
use Rattle.sx_grammar.specs.declared.sort_line.SortLine.{SortLine}
use Rattle.sx_grammar.specs.declared.numbered.NumberedSymbol.TheVariants.{Lit}
use Rattle.sx_grammar.specs.declared.numbered.NumberedProduction.{NumberedProduction}
use Rattle.sx_grammar.specs.Grammar.{Text, Brackets}
use Rattle.sx_grammar.specs.Parts.{Line, Parts, names, literals, numbered, numbered_sort}
use Rattle.sx_grammar.specs.Numbered.{production}
use Rattle.sx_grammar.specs.Distinct.{distinct}
use Rattle.sx_grammar.specs.Order.{AreRanks}
use Rattle.sx_grammar.specs.Print.{BracketsWhereAsked}
use Rattle.sx_grammar.specs.Made.{IsGrammar, IsGrammarRefused}

-- a grammar as plain data: what it is made of, and how many of its productions, the first ones, are
-- base
pub record GrammarData : Type 0 where
  pub parts : Parts
  pub base : ℕ

-- its literals and brackets, each once, where it first stands
abbrev pub literals_of : Parts → List Text
literals_of p = distinct (literals p)

-- these are its productions, with the numbers of literals and sorts
abbrev pub AreNumbered : Parts → List NumberedProduction → Type 0
AreNumbered p ps = map (production (literals_of p)) ps ≡ (numbered p).productions

-- the numbers of literals are below the bound
abbrev pub HaveLiteralsBelow : ℕ → List NumberedProduction → Type 0
HaveLiteralsBelow bound ps = (label : ℕ) (p : NumberedProduction) (k n : ℕ) →
    slice_get ps label ≡ Some p → slice_get p.symbols.items k ≡ Some (Lit n) → n < bound

-- the numbers of the literals of a bracket pair, where there is one
abbrev pub IsNumberedPair : List Text → Option Brackets → Option (ℕ × ℕ) → Type 0
IsNumberedPair literals None None = Unit {0}
IsNumberedPair literals (Some pair) (Some numbers) =
    (slice_get literals numbers.0 ≡ Some pair.opening) ×
    (slice_get literals numbers.1 ≡ Some pair.closing)
IsNumberedPair literals _ _ = ⊥

-- so it is of each sort
abbrev pub AreNumberedPairs : List Text → List SortLine → List (Option (ℕ × ℕ)) → Type 0
AreNumberedPairs literals [] [] = Unit {0}
AreNumberedPairs literals (s ∷ ss) (b ∷ bs) =
    IsNumberedPair literals (numbered_sort s).brackets b × AreNumberedPairs literals ss bs
AreNumberedPairs literals _ _ = ⊥

-- levels and least levels are at most 99
pub record HasGoodLevels (p : Parts) : Type 0 where
  pub levels : (r : Line) → Contains p.productions r → r.level ≤ 99
  pub asked : (r : Line) (name : Text) (least : ℕ) → Contains p.productions r →
      Contains r.symbols (Part name least) → least ≤ 99

-- sorts, productions and literals can be numbered by a u32, and levels are at most 99
pub record IsWithinLimits (p : Parts) : Type 0 where
  pub sorts : length p.sorts < 2 ^ 32
  pub productions : length p.productions < 2 ^ 32
  pub literals : length (literals p) < 2 ^ 32
  pub levels : HasGoodLevels p

-- the parts are those of a grammar, and the tables are theirs
pub record IsTabled (p : Parts) (base : ℕ) (texts : List Text)
    (productions : List NumberedProduction) (brackets : List (Option (ℕ × ℕ)))
    (sorts known : List Text) (ranks : List ℕ) : Type 0 where
  pub is_grammar : IsGrammar p
  pub limits : IsWithinLimits p
  pub based : base ≤ length p.productions
  pub has_texts : texts ≡ literals_of p
  pub has_productions : AreNumbered p productions
  pub below : HaveLiteralsBelow (length texts) productions
  pub has_brackets : AreNumberedPairs texts p.sorts brackets
  pub has_sorts : sorts ≡ names p
  pub has_known : known ≡ texts
  pub ranked : AreRanks (numbered p) ranks

-- the grammar is of these parts, all of its productions are base, and the parts are those of a
-- grammar; or why they are not
abbrev pub IsGrammarMade : Parts → Result GrammarData GrammarError → Type 0
IsGrammarMade p (Ok g) = (g ≡ record { parts = p; base = length p.productions }) × IsGrammar p
IsGrammarMade p (Err e) = IsGrammarRefused p e

-- each sort of a grammar has the brackets that its parts ask for
abbrev pub GrammarsHaveBrackets : Type 0
GrammarsHaveBrackets = (p : Parts) → IsGrammar p → BracketsWhereAsked (numbered p)
