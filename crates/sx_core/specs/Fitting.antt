-- What a row of a core file must be where it stands.
use Rattle.std.specs.Prelude.{◌≡◌, ℕ, List, [], ◌∷◌, ◌++◌, ◌⊎◌, Contains}
use Rattle.std.specs.List.{flat_map}
use Rattle.sx_term.specs.Sorts.{Shape}
use Rattle.sx_term.specs.declared.sort.Sort.{Sort as SortOf}
use Rattle.sx_rules.specs.Modes.{Goal as GoalOf}
use Rattle.sx_rules.specs.Rules.{Judgement}
use Rattle.sx_rules.specs.Views.{FormData}
use Rattle.sx_lines.specs.Lines.{Lines, over, line}
use Rattle.sx_core.specs.File.{SortRow, ConRow, FormRow, JudgementRow}
use Rattle.sx_core.specs.Stated.{IsCoreName, AreStatedNames, AreCons, AreForms, NameSorts}
use Rattle.sx_core.specs.Stated.{AreReadable}
use Rattle.sx_core.specs.Stated.{IsJudgement, IsGoal}
use Rattle.sx_core.specs.Rows.{AreNamed}
use Rattle.sx_core.specs.Resolving.{sort_names, IsConOf, IsFormOf}
use Rattle.sx_core.specs.Statements.{form_names, IsDeepJudgement, IsDeepGoal}
use Rattle.sx_core.specs.TermsText.{IsDeepRow}
use Rattle.sx_core.specs.Table.{RowParts, Row, row_text, IsKeyword}
use Rattle.sx_core.specs.declared.keyword.Keyword.{Keyword}
use Rattle.sx_core.specs.declared.keyword.Keyword.TheVariants.{Head, Sort, Con, Form, Rule, If, Not}
use Rattle.sx_core.specs.declared.keyword.Keyword.TheVariants.{Then, End, Goal}

-- what a row is read with: the sorts of the file, the names of sorts that are taken, and the
-- constructors and forms so far
pub record Context : Type 0 where
  pub sorts : List SortRow
  pub taken : List (List ℕ)
  pub cons : List (List ℕ)
  pub shapes : List Shape
  pub forms : List FormData

-- a judgement of a form that is known
abbrev pub IsFullJudgement : List FormData → JudgementRow → Judgement → Type 0
IsFullJudgement forms row j = IsCoreName row.form × IsJudgement forms row j

-- the parts are as stated
abbrev pub PartsFit : Context → (k : Keyword) → RowParts k → Type 0
PartsFit c Head parts = Unit {0}
PartsFit c Sort row = IsCoreName row.name × (Contains c.taken row.name → ⊥)
PartsFit c Con row = AreStatedNames (row.name ∷ row.sort ∷ row.kids) × (Contains c.cons row.name →
    ⊥) ×
    (shape : Shape) × IsConOf c.sorts row shape
PartsFit c Form row = IsCoreName row.name × AreNamed row.places ×
    (Contains (form_names c.forms) row.name → ⊥) × (form : FormData) × IsFormOf c.sorts row form
PartsFit c Rule row = AreStatedNames (row.name ∷ row.sorts) × (sorts : List SortOf) ×
    NameSorts c.sorts row.sorts sorts
PartsFit c If row = (j : Judgement) × IsFullJudgement c.forms row j
PartsFit c Not row = AreReadable (row.left ∷ row.right ∷ [])
PartsFit c Then row = (j : Judgement) × IsFullJudgement c.forms row j
PartsFit c End parts = Unit {0}
PartsFit c Goal row = IsCoreName row.form × (goal : GoalOf) × IsGoal c.shapes c.forms row goal

-- after this word the text has parts as stated, and then a core text of this depth, which is over
-- 1,000
abbrev pub IsDeep : Context → Keyword → List ℕ → ℕ → Type 0
IsDeep c Head rest depth = ⊥
IsDeep c Sort rest depth = ⊥
IsDeep c Con rest depth = ⊥
IsDeep c Form rest depth = ⊥
IsDeep c Rule rest depth = ⊥
IsDeep c If rest depth = IsDeepJudgement c.forms rest depth
IsDeep c Not rest depth = IsDeepRow rest 2 depth
IsDeep c Then rest depth = IsDeepJudgement c.forms rest depth
IsDeep c End rest depth = ⊥
IsDeep c Goal rest depth = IsDeepGoal c.forms rest depth

-- the line is that of this row, which is as stated
abbrev pub IsFitting : Context → List ℕ → Row → Type 0
IsFitting c text row = (text ≡ row_text row) × PartsFit c row.keyword row.parts

-- a core text in the line is too deep
abbrev pub IsDeepLine : Context → List ℕ → ℕ → Type 0
IsDeepLine c text depth = (k : Keyword) × (rest : List ℕ) × IsKeyword text k rest ×
    IsDeep c k rest depth

-- the sort, constructor and form lines among rows
abbrev pub core_sorts_at : (k : Keyword) → RowParts k → List SortRow
core_sorts_at Sort row = row ∷ []
core_sorts_at _ parts = []

abbrev pub cons_at : (k : Keyword) → RowParts k → List ConRow
cons_at Con row = row ∷ []
cons_at _ parts = []

abbrev pub forms_at : (k : Keyword) → RowParts k → List FormRow
forms_at Form row = row ∷ []
forms_at _ parts = []

abbrev pub sorts_among : List Row → List SortRow
sorts_among rows = flat_map (λ r. core_sorts_at r.keyword r.parts) rows

abbrev pub cons_among : List Row → List ConRow
cons_among rows = flat_map (λ r. cons_at r.keyword r.parts) rows

abbrev pub forms_among : List Row → List FormRow
forms_among rows = flat_map (λ r. forms_at r.keyword r.parts) rows

-- what the rows declare, in a file with these sorts
pub record Declare (all : List SortRow) (rows : List Row) (c : Context) : Type 0 where
  pub sorts : c.sorts ≡ all
  pub taken : c.taken ≡ sort_names (sorts_among rows)
  pub cons : AreCons all (cons_among rows) c.cons c.shapes
  pub forms : AreForms all (forms_among rows) c.forms

-- each of the rows is as stated after those before it
abbrev pub AllRowsFit : List SortRow → List Row → List Row → Type 0
AllRowsFit all before [] = Unit {0}
AllRowsFit all before (row ∷ rows) =
    ((c : Context) × Declare all before c × PartsFit c row.keyword row.parts) ×
    AllRowsFit all (before ++ row ∷ []) rows

-- the line is that of a sort whose name is not taken
abbrev pub IsNewSort : List SortRow → List ℕ → SortRow → Type 0
IsNewSort before text row = (text ≡ row_text (record { keyword = Sort; parts = row })) ×
    IsCoreName row.name × (Contains (sort_names before) row.name → ⊥)

-- The sorts of a file: those that were found, and one for each of the lines that is that of a sort
-- whose name is not taken, wherever it stands.
abbrev pub AreSorts : List SortRow → Lines → List SortRow → Type 0
AreSorts found (over n) all = found ≡ all
AreSorts found (line n text after more) all =
    ((row : SortRow) × IsNewSort found text row × AreSorts (found ++ row ∷ []) more all)
    ⊎ (((row : SortRow) → IsNewSort found text row → ⊥) × AreSorts found more all)
