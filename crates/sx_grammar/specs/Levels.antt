-- Typed parts and levels, by the numbers of sorts.
use Rattle.std.specs.Prelude.{◌≡◌, ℕ, ◌<◌, ◌≤◌, ◌⊎◌, Bool, false, not, ◌&&◌, List, [], ◌∷◌, Some}
use Rattle.std.specs.Prelude.{slice_get, slice_index_or, max, min}
use Rattle.std.specs.List.{list_any}
use Rattle.std.proofs.Common.{set}
use Rattle.sx_grammar.specs.declared.sort_line.SortLine.{SortLine}
use Rattle.sx_grammar.specs.declared.numbered.NumberedSymbol.{NumberedSymbol}
use Rattle.sx_grammar.specs.declared.numbered.NumberedSymbol.TheVariants.{Lit, Lex, Part}
use Rattle.sx_grammar.specs.declared.numbered.NumberedProduction.{NumberedProduction}
use Rattle.sx_grammar.specs.Told.{is_typed}

-- whether the symbol is a typed part
abbrev pub is_typed_part : List SortLine → NumberedSymbol → Bool
is_typed_part sorts (Lit number) = false
is_typed_part sorts (Lex kind) = false
is_typed_part sorts (Part sort least) = is_typed (slice_get sorts sort)

-- whether the production is of a sort that is not typed and has a typed part
abbrev pub mixes : List SortLine → NumberedProduction → Bool
mixes sorts p = not (is_typed (slice_get sorts p.sort)) && list_any
    (is_typed_part sorts) p.symbols.items

-- the sorts of the parts are below the bound
abbrev pub ArePartsBelow : ℕ → List NumberedSymbol → Type 0
ArePartsBelow bound symbols = (k sort least : ℕ) → slice_get symbols k ≡ Some (Part sort least) →
    sort < bound

-- a part asks for this level of the sort
abbrev pub AsksFor : List NumberedProduction → (sort least : ℕ) → Type 0
AsksFor ps sort least = (label : ℕ) × (p : NumberedProduction) × (k : ℕ) ×
    (slice_get ps label ≡ Some p) × (slice_get p.symbols.items k ≡ Some (Part sort least))

-- a production of the sort has this level
abbrev pub HasLevel : List NumberedProduction → (sort level : ℕ) → Type 0
HasLevel ps sort level = (label : ℕ) × (p : NumberedProduction) × (slice_get ps label ≡ Some p) ×
    (p.sort ≡ sort) × (p.level ≡ level)

-- the greatest level that parts ask for of each sort, or 0
pub record AreGreatest (ps : List NumberedProduction) (levels : List ℕ) : Type 0 where
  pub bound : (sort least : ℕ) → AsksFor ps sort least → least ≤ slice_index_or levels sort 0
  pub some : (sort : ℕ) → (slice_index_or levels sort 0 ≡ 0) ⊎
      AsksFor ps sort (slice_index_or levels sort 0)

-- the least level of the productions of each sort, or 255
pub record AreLeast (ps : List NumberedProduction) (levels : List ℕ) : Type 0 where
  pub bound : (sort level : ℕ) → HasLevel ps sort level → slice_index_or levels sort 255 ≤ level
  pub some : (sort : ℕ) → (slice_index_or levels sort 255 ≡ 255) ⊎
      HasLevel ps sort (slice_index_or levels sort 255)

-- the greatest levels after one more symbol, after more symbols, and after more productions
abbrev pub raised : List ℕ → NumberedSymbol → List ℕ
raised levels (Lit number) = levels
raised levels (Lex kind) = levels
raised levels (Part sort least) = set levels sort (max (slice_index_or levels sort 0) least)

abbrev pub raised_by : List ℕ → List NumberedSymbol → List ℕ
raised_by levels [] = levels
raised_by levels (s ∷ rest) = raised_by (raised levels s) rest

abbrev pub greatest_after : List ℕ → List NumberedProduction → List ℕ
greatest_after levels [] = levels
greatest_after levels (p ∷ rest) = greatest_after (raised_by levels p.symbols.items) rest

-- the least levels after one more production, and after more
abbrev pub lowered : List ℕ → NumberedProduction → List ℕ
lowered levels p = set levels p.sort (min (slice_index_or levels p.sort 255) p.level)

abbrev pub least_after : List ℕ → List NumberedProduction → List ℕ
least_after levels [] = levels
least_after levels (p ∷ rest) = least_after (lowered levels p) rest
