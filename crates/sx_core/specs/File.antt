-- Core files as plain data, and the lines that spell them.
use Rattle.std.specs.Prelude.{ℕ, Bool, true, false, List, [], ◌∷◌, ◌++◌, map, codes}
use Rattle.sx_term.specs.Tree.{Tree}
use Rattle.sx_term.specs.Core.{core}
use Rattle.sx_term.specs.declared.role.Role.{Role}
use Rattle.sx_term.specs.declared.role.Role.TheVariants.{In, Sub, Out}

-- a sort's name, and whether it is typed
pub record SortRow : Type 0 where
  pub name : List ℕ
  pub typed : Bool

-- a constructor's name, the name of its sort and those of its parts' sorts
pub record ConRow : Type 0 where
  pub name : List ℕ
  pub sort : List ℕ
  pub kids : List (List ℕ)

-- a place of a form: its role and the name of its sort
pub record PlaceRow : Type 0 where
  pub role : Role
  pub sort : List ℕ

-- a form's name and its places
pub record FormRow : Type 0 where
  pub name : List ℕ
  pub places : List PlaceRow

-- a line before the rules
pub data Declaration : Type 0 where
  sort_line : SortRow → Declaration
  con_line : ConRow → Declaration
  form_line : FormRow → Declaration

-- the name of a form and terms for its places, or for its inputs
pub record JudgementRow : Type 0 where
  pub form : List ℕ
  pub terms : List Tree

-- a premise: a judgement, or two terms that are to be apart
pub data PremiseRow : Type 0 where
  if_line : JudgementRow → PremiseRow
  not_line : Tree → Tree → PremiseRow

-- a rule's name, the names of its variables' sorts, its premises and its conclusion
pub record RuleRows : Type 0 where
  pub name : List ℕ
  pub sorts : List (List ℕ)
  pub premises : List PremiseRow
  pub conclusion : JudgementRow

-- a core file: its declarations, its rules and its goal
pub record CoreFile : Type 0 where
  pub declarations : List Declaration
  pub rules : List RuleRows
  pub goal : JudgementRow

-- each word after a blank
abbrev pub words_text : List (List ℕ) → List ℕ
words_text [] = []
words_text (word ∷ words) = 32 ∷ word ++ words_text words

-- `in:`, `sub:` or `out:`
abbrev pub core_role_text : Role → List ℕ
core_role_text In = codes "in:"
core_role_text Sub = codes "sub:"
core_role_text Out = codes "out:"

-- a place as it is spelled
abbrev pub core_place_text : PlaceRow → List ℕ
core_place_text place = core_role_text place.role ++ place.sort

-- `typed` or `plain`
abbrev pub core_kind_text : Bool → List ℕ
core_kind_text true = codes "typed"
core_kind_text false = codes "plain"

-- a form's name and the core texts of terms
abbrev pub judgement_text : JudgementRow → List ℕ
judgement_text row = words_text (row.form ∷ map core row.terms)

-- the line of a declaration
abbrev pub declaration_text : Declaration → List ℕ
declaration_text (sort_line row) = codes "sort" ++ words_text (row.name ∷ core_kind_text row.typed ∷
    [])
declaration_text (con_line row) = codes "con" ++ words_text (row.name ∷ row.sort ∷ row.kids)
declaration_text (form_line row) = codes "form" ++ words_text
    (row.name ∷ map core_place_text row.places)
