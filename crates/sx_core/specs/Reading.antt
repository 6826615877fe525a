-- The rows of core files as they are read.
use Rattle.std.specs.Prelude.{◌≡◌, ℕ, List, MatchResult, Result}
use Rattle.sx_term.specs.Term.{tree}
use Rattle.sx_term.specs.Shapes.{shape, shapes}
use Rattle.sx_rules.specs.Views.{form, goal, judgement}
use Rattle.sx_core.specs.File.{FormRow, JudgementRow}
use Rattle.sx_core.specs.Stated.{NameSorts, IsGoal}
use Rattle.sx_core.specs.Rows.{sort_row, con_row}
use Rattle.sx_core.specs.Resolving.{rows_in, IsSortTable, IsConOf, IsFormOf}
use Rattle.sx_core.specs.Statements.{known_in, IsFormTable}
use Rattle.sx_core.specs.Table.{row_with, RuleRow}
use Rattle.sx_core.specs.TermsText.{RefusedAs}
use Rattle.sx_core.specs.Fitting.{Context, IsDeepLine, IsFullJudgement, IsFitting}
use Rattle.sx_core.specs.declared.found.Found.{Found}
use Rattle.sx_core.specs.declared.line_read.LineRead.{LineRead}
use Rattle.sx_core.specs.declared.terms_row.RowError.{RowError}
use Rattle.sx_core.specs.declared.line_read.LineRead.TheVariants.{Head as HeadRead}
use Rattle.sx_core.specs.declared.line_read.LineRead.TheVariants.{Sort as SortRead, Con as ConRead}
use Rattle.sx_core.specs.declared.line_read.LineRead.TheVariants.{Form as FormRead}
use Rattle.sx_core.specs.declared.line_read.LineRead.TheVariants.{Rule as RuleRead, If as IfRead}
use Rattle.sx_core.specs.declared.line_read.LineRead.TheVariants.{Not as NotRead, Then as ThenRead}
use Rattle.sx_core.specs.declared.line_read.LineRead.TheVariants.{End as EndRead, Goal as GoalRead}
use Rattle.sx_core.specs.declared.keyword.Keyword.TheVariants.{Head, Sort, Con, Form, Rule, If, Not}
use Rattle.sx_core.specs.declared.keyword.Keyword.TheVariants.{Then, End, Goal}

-- what was found as plain data
abbrev pub context : Found → Context
context found = record {
  sorts = rows_in found.sorts;
  taken = found.taken;
  cons = found.cons.items;
  shapes = shapes found.shapes;
  forms = known_in found.forms;
}

-- the tables find each name
pub record AreNamesFound (found : Found) : Type 0 where
  pub sorts : IsSortTable found.sorts
  pub forms : IsFormTable found.forms
  pub con_names : found.con_names ≡ found.cons.items

-- the line is that of what was read
abbrev pub IsCoreLineRead : Context → List ℕ → LineRead → Type 0
IsCoreLineRead c text HeadRead = IsFitting c text (row_with Head tt)
IsCoreLineRead c text (SortRead r) = IsFitting c text (row_with Sort (sort_row r))
IsCoreLineRead c text (ConRead r con) = IsFitting c text (row_with Con (con_row r)) ×
    IsConOf c.sorts (con_row r) (shape con)
IsCoreLineRead c text (FormRead f) = (r : FormRow) × IsFitting c text (row_with Form r) ×
    IsFormOf c.sorts r (form f)
IsCoreLineRead c text (RuleRead name sorts) = (r : RuleRow) × IsFitting c text (row_with Rule r) ×
    (r.name ≡ name) × NameSorts c.sorts r.sorts sorts.items
IsCoreLineRead c text (IfRead j) = (r : JudgementRow) × IsFitting c text (row_with If r) ×
    IsFullJudgement c.forms r (judgement j)
IsCoreLineRead c text (NotRead left right) = IsFitting c text
    (row_with Not (record { left = tree left; right = tree right }))
IsCoreLineRead c text (ThenRead j) = (r : JudgementRow) × IsFitting c text (row_with Then r) ×
    IsFullJudgement c.forms r (judgement j)
IsCoreLineRead c text EndRead = IsFitting c text (row_with End tt)
IsCoreLineRead c text (GoalRead g) = (r : JudgementRow) × IsFitting c text (row_with Goal r) ×
    IsGoal c.shapes c.forms r (goal g)

-- what a line is read as in this context, or why it is refused
abbrev pub IsLineAnswer : Context → List ℕ → Result LineRead RowError → Type 0
IsLineAnswer c text result =
    MatchResult result (IsCoreLineRead c text) (RefusedAs (IsFitting c text) (IsDeepLine c text))
