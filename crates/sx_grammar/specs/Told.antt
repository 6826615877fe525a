-- What a grammar tells of sorts, shapes and labels.
use Rattle.std.specs.Prelude.{◌≡◌, ℕ, ◌<◌, Bool, false, cond, Option, Some, None, List, [], ◌∷◌}
use Rattle.std.specs.Prelude.{map, flat_map, slice_get}
use Rattle.sx_term.specs.declared.sort.Sort.{Sort}
use Rattle.sx_term.specs.declared.sort.Sort.TheVariants.{Lex, Plain, Typed}
use Rattle.sx_term.specs.Sorts.{Shape}
use Rattle.sx_term.specs.Tree.{Tree, Trees, node, lexeme, hole, none, ◌▹◌}
use Rattle.sx_grammar.specs.declared.sort_line.SortLine.{SortLine}
use Rattle.sx_grammar.specs.declared.numbered.NumberedSymbol.{NumberedSymbol}
use Rattle.sx_grammar.specs.declared.numbered.NumberedSymbol.TheVariants.{Lit, Lex as Lexical, Part}
use Rattle.sx_grammar.specs.declared.numbered.NumberedProduction.{NumberedProduction}
use Rattle.sx_grammar.specs.Grammar.{Symbol, literal, lexical, part, Production}
use Rattle.sx_grammar.specs.Parts.{Parts, numbered}

abbrev pub is_typed : Option SortLine → Bool
is_typed None = false
is_typed (Some line) = line.typed

-- the sort with this number: plain or typed, as its line says
abbrev pub sort_with : List SortLine → ℕ → Sort
sort_with sorts number = cond (is_typed (slice_get sorts number)) (Typed number) (Plain number)

-- the sort of the production with this label
abbrev pub IsSortOfLabel : Parts → ℕ → Sort → Type 0
IsSortOfLabel p label sort = (r : Production) × (slice_get (numbered p).productions label ≡ Some r)
    ×
    (sort ≡ sort_with p.sorts r.sort)

-- the level of the production with this label
abbrev pub IsLevelOf : Parts → ℕ → ℕ → Type 0
IsLevelOf p label level = (r : Production) × (slice_get (numbered p).productions label ≡ Some r) ×
    (level ≡ r.level)

-- the sort of the part of a term that the symbol stands for; a literal stands for none
abbrev pub kid_sorts : List SortLine → Symbol → List Sort
kid_sorts sorts (literal text) = []
kid_sorts sorts (lexical kind) = Lex kind ∷ []
kid_sorts sorts (part sort least) = sort_with sorts sort ∷ []

-- the constructor that a production is
abbrev pub shape_of : List SortLine → Production → Shape
shape_of sorts r = record {
  sort = sort_with sorts r.sort;
  kids = flat_map (kid_sorts sorts) r.symbols;
}

-- the same of numbered symbols and productions
abbrev pub numbered_kids : List SortLine → NumberedSymbol → List Sort
numbered_kids sorts (Lit number) = []
numbered_kids sorts (Lexical kind) = Lex kind ∷ []
numbered_kids sorts (Part sort least) = sort_with sorts sort ∷ []

abbrev pub numbered_shape : List SortLine → NumberedProduction → Shape
numbered_shape sorts r = record {
  sort = sort_with sorts r.sort;
  kids = flat_map (numbered_kids sorts) r.symbols.items;
}

-- the constructors of the labels
abbrev pub shapes_of : Parts → List Shape
shapes_of p = map (shape_of p.sorts) (numbered p).productions

abbrev mutual
  -- every label in the term is below the number
  pub HasLabelsBelow : ℕ → Tree → Type 0
  HasLabelsBelow bound (node label kids) = (label < bound) × HaveLabelsBelow bound kids
  HasLabelsBelow bound (lexeme kind text) = Unit {0}
  HasLabelsBelow bound (hole v) = Unit {0}

  -- so it is of each term
  pub HaveLabelsBelow : ℕ → Trees → Type 0
  HaveLabelsBelow bound none = Unit {0}
  HaveLabelsBelow bound (t ▹ ts) = HasLabelsBelow bound t × HaveLabelsBelow bound ts
