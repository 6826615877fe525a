-- The sorts, constructors and forms that rows state.
use Rattle.std.specs.Prelude.{◌≡◌, ℕ, ◌+◌, ◌<◌, ◌≤◌, ◌^◌, List, ◌∷◌, map, length, codes}
use Rattle.sx_term.specs.Sorts.{Shape}
use Rattle.sx_rules.specs.declared.rule.Place.{Place}
use Rattle.sx_rules.specs.Views.{FormData}
use Rattle.sx_core.specs.File.{SortRow, ConRow, PlaceRow, FormRow}
use Rattle.sx_core.specs.Stated.{NamesSort, NameSorts, MayHave, MayHaveSort, AreStatedPlaces}
use Rattle.sx_lines.specs.Distinct.{AreTextsDistinct}
use Rattle.sx_core.specs.Stated.{subject_count}
use Rattle.sx_core.specs.Rows.{sort_row}
use Rattle.sx_core.specs.declared.sort_table.SortTable.{SortTable}
use Rattle.sx_core.specs.declared.terms_row.RowError.{RowError}
use Rattle.sx_core.specs.declared.terms_row.RowError.TheVariants.{Memory, Shape as Bad, TooDeep}

-- the names of all sorts: the lexical ones, then those of the rows
abbrev pub sort_names : List SortRow → List (List ℕ)
sort_names rows = codes "id" ∷ codes "num" ∷ codes "str" ∷ map (λ row. row.name) rows

-- the rows that a table is of
abbrev pub rows_in : SortTable → List SortRow
rows_in t = map sort_row t.rows.items

-- the table finds each sort by its name, no name stands twice, and each sort has a number
pub record IsSortTable (t : SortTable) : Type 0 where
  pub names : t.names ≡ sort_names (rows_in t)
  pub distinct : AreTextsDistinct (sort_names (rows_in t))
  pub few : length (rows_in t) + 3 < 2 ^ 32

-- memory is lacking, or no value is as it should be
abbrev pub NoCoreRowIs : {A : Type 0} → (A → Type 0) → RowError → Type 0
NoCoreRowIs {A} Is Memory = Unit {0}
NoCoreRowIs {A} Is Bad = (x : A) → Is x → ⊥
NoCoreRowIs {A} Is (TooDeep depth) = ⊥

-- the row states this constructor
pub record IsConOf (rows : List SortRow) (con : ConRow) (shape : Shape) : Type 0 where
  pub sort : NamesSort rows con.sort shape.sort
  pub kids : NameSorts rows con.kids shape.kids
  pub may : MayHave shape.sort shape.kids

-- the row states this place
pub record IsPlaceOf (rows : List SortRow) (row : PlaceRow) (place : Place) : Type 0 where
  pub role : row.role ≡ place.role
  pub sort : NamesSort rows row.sort place.sort
  pub may : MayHaveSort place.role place.sort

-- the row states this form
pub record IsFormOf (rows : List SortRow) (row : FormRow) (form : FormData) : Type 0 where
  pub name : row.name ≡ form.name
  pub places : AreStatedPlaces rows row.places form.places
  pub one : subject_count form.places ≤ 1
