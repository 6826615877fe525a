-- The rows of core files: their views, and what reading one answers.
use Rattle.std.specs.Prelude.{◌≡◌, ℕ, Bool, List, [], ◌∷◌, ◌++◌, map}
use Rattle.sx_lines.specs.Bytes.{space}
use Rattle.sx_term.specs.declared.role.Role.{Role}
use Rattle.sx_core.specs.File.{SortRow, ConRow, PlaceRow, FormRow, Declaration, sort_line, con_line}
use Rattle.sx_core.specs.File.{form_line, core_role_text, core_place_text, core_kind_text}
use Rattle.sx_core.specs.File.{words_text}
use Rattle.sx_core.specs.File.{declaration_text}
use Rattle.sx_core.specs.Stated.{IsCoreName, AreStatedNames}
use Rattle.sx_core.specs.Words.{BlankFirst}
use Rattle.sx_core.specs.declared.rows.SortRow.{SortRow as SortRowOf}
use Rattle.sx_core.specs.declared.rows.ConRow.{ConRow as ConRowOf}
use Rattle.sx_core.specs.declared.rows.PlaceRow.{PlaceRow as PlaceRowOf}
use Rattle.sx_core.specs.declared.rows.FormRow.{FormRow as FormRowOf}
use Rattle.sx_core.specs.declared.terms_row.RowError.{RowError}
use Rattle.sx_core.specs.declared.terms_row.RowError.TheVariants.{Memory, Shape, TooDeep}

-- rows as plain data
abbrev pub sort_row : SortRowOf → SortRow
sort_row row = record { name = row.name; typed = row.typed }

abbrev pub con_row : ConRowOf → ConRow
con_row row = record { name = row.name; sort = row.sort; kids = row.kids.items }

abbrev pub place_row : PlaceRowOf → PlaceRow
place_row row = record { role = row.role; sort = row.sort }

abbrev pub form_row : FormRowOf → FormRow
form_row row = record { name = row.name; places = map place_row row.places.items }

-- the sorts of the places have names
abbrev pub AreNamed : List PlaceRow → Type 0
AreNamed [] = Unit {0}
AreNamed (place ∷ places) = IsCoreName place.sort × AreNamed places

-- each word of the declaration is a name
abbrev pub IsSpelled : Declaration → Type 0
IsSpelled (sort_line row) = IsCoreName row.name
IsSpelled (con_line row) = AreStatedNames (row.name ∷ row.sort ∷ row.kids)
IsSpelled (form_line row) = IsCoreName row.name × AreNamed row.places

-- the line of a declaration
pub record IsDeclarationLine (text : List ℕ) (d : Declaration) : Type 0 where
  pub line : text ≡ declaration_text d
  pub spelled : IsSpelled d

-- the role and what follows it in the text of a place
abbrev pub IsRoleRead : List ℕ → Role → List ℕ → Type 0
IsRoleRead word role sort = word ≡ core_role_text role ++ sort

-- the text is that of no place
abbrev pub NoRole : List ℕ → Type 0
NoRole word = (role : Role) (sort : List ℕ) → word ≡ core_role_text role ++ sort → ⊥

-- the word is this place
abbrev pub IsPlaceWord : List ℕ → PlaceRow → Type 0
IsPlaceWord word row = (word ≡ core_place_text row) × IsCoreName row.sort

-- the word is no place
abbrev pub NoPlaceWord : List ℕ → RowError → Type 0
NoPlaceWord word Memory = Unit {0}
NoPlaceWord word Shape = (row : PlaceRow) → IsPlaceWord word row → ⊥
NoPlaceWord word (TooDeep depth) = ⊥

-- a blank, and `typed` or `plain`
abbrev pub IsKind : List ℕ → Bool → Type 0
IsKind text typed = text ≡ space ∷ core_kind_text typed

-- neither of these
abbrev pub NoKind : List ℕ → Type 0
NoKind text = (typed : Bool) → IsKind text typed → ⊥

-- a blank, this place, and the rest
pub record IsPlaceRead (text : List ℕ) (row : PlaceRow) (rest : List ℕ) : Type 0 where
  pub parts : text ≡ space ∷ (core_place_text row ++ rest)
  pub named : IsCoreName row.sort
  pub stops : BlankFirst rest

-- no place stands there
abbrev pub PlaceRefused : List ℕ → RowError → Type 0
PlaceRefused text Memory = Unit {0}
PlaceRefused text Shape = (row : PlaceRow) (rest : List ℕ) → IsPlaceRead text row rest → ⊥
PlaceRefused text (TooDeep depth) = ⊥

-- just these places
pub record ArePlacesRead (text : List ℕ) (rows : List PlaceRow) : Type 0 where
  pub parts : text ≡ words_text (map core_place_text rows)
  pub named : AreNamed rows

-- there are no places alone
abbrev pub PlacesRefused : List ℕ → RowError → Type 0
PlacesRefused text Memory = Unit {0}
PlacesRefused text Shape = (rows : List PlaceRow) → ArePlacesRead text rows → ⊥
PlacesRefused text (TooDeep depth) = ⊥

-- after this front the line is that of no such row
abbrev pub NoRow : {R : Type 0} → (R → Declaration) → List ℕ → List ℕ → RowError → Type 0
NoRow {R} line_of front text Memory = Unit {0}
NoRow {R} line_of front text Shape = (row : R) → IsDeclarationLine (front ++ text) (line_of row) → ⊥
NoRow {R} line_of front text (TooDeep depth) = ⊥
