-- What reading a core file answers.
use Rattle.std.specs.Prelude.{◌≡◌, ℕ, List, [], ◌∷◌, ◌++◌, ◌⊎◌, map, Result, Ok, Err, codes}
use Rattle.std.specs.Str.{IsUtf8}
use Rattle.std.specs.Str.Lossy.{utf8_valid_len}
use Rattle.sx_lines.specs.Lines.{Lines, over, line, lines_from, line_texts}
use Rattle.sx_lines.specs.Reading.{kept}
use Rattle.sx_lines.specs.Takes.{Takes, line_number}
use Rattle.sx_rules.specs.Good.{IsRuleSetRefused}
use Rattle.sx_rules.specs.declared.error.RuleError.{RuleError}
use Rattle.sx_rules.specs.declared.error.RuleError.TheVariants.{Memory as NoRoom}
use Rattle.sx_core.specs.File.{CoreFile}
use Rattle.sx_core.specs.Problem.{Problem, problem}
use Rattle.sx_core.specs.Stated.{SaysCore, StatesProblem}
use Rattle.sx_core.specs.Table.{Row, row_text, rows_of, Has, NoKeyword}
use Rattle.sx_core.specs.Fitting.{Context, IsFitting, IsDeepLine, Declare, AllRowsFit, AreSorts}
use Rattle.sx_core.specs.Order.{AreRowsInOrder}
use Rattle.sx_core.specs.declared.keyword.Keyword.TheVariants.{Rule, End, Goal}
use Rattle.sx_lines.specs.declared.kind.Kind.{Kind}
use Rattle.sx_lines.specs.declared.kind.Kind.TheVariants.{Head as BadHead, Directive, Shape, Order}
use Rattle.sx_lines.specs.declared.kind.Kind.TheVariants.{Unfinished, Main, Variable}
use Rattle.sx_core.specs.declared.problem.CoreProblem.{CoreProblem}
use Rattle.sx_core.specs.declared.error.CoreFileError.{CoreFileError}
use Rattle.sx_core.specs.declared.error.CoreFileError.TheVariants.{Memory, NotUtf8, Notation}
use Rattle.sx_core.specs.declared.error.CoreFileError.TheVariants.{TooDeep, Rules}

-- The first lines are those of these rows, which are as stated and in order, and declare this. The
-- others come next.
pub record ReadTo (lines : Lines) (rows : List Row) (c : Context) (next : Lines) : Type 0 where
  pub sorts : AreSorts [] lines c.sorts
  pub takes : Takes (map row_text rows) lines next
  pub declare : Declare c.sorts rows c
  pub fit : AllRowsFit c.sorts [] rows
  pub front : AreRowsInOrder rows

-- neither the first line, nor one after the goal's
abbrev pub IsUsual : List Row → Type 0
IsUsual rows = (rows ≡ [] → ⊥) × (Has Goal rows → ⊥)

-- what is bad about the line with this text after these rows
abbrev pub IsBadCoreLine : Context → List Row → List ℕ → Kind → Type 0
IsBadCoreLine c rows text BadHead = (rows ≡ []) × (text ≡ codes "sxcore 1" → ⊥)
IsBadCoreLine c rows text Directive = IsUsual rows × NoKeyword text
IsBadCoreLine c rows text Shape =
    IsUsual rows × (NoKeyword text → ⊥) × ((row : Row) → IsFitting c text row → ⊥) ×
    ((depth : ℕ) → IsDeepLine c text depth → ⊥)
IsBadCoreLine c rows text Order =
    Has Goal rows ⊎ (IsUsual rows × (row : Row) × IsFitting c text row ×
    (AreRowsInOrder (rows ++ row ∷ []) → ⊥))
IsBadCoreLine c rows text Unfinished = ⊥
IsBadCoreLine c rows text Main = ⊥
IsBadCoreLine c rows text Variable = ⊥

-- a core text of this depth stands in the line, and the line is that of no row that is as stated
abbrev pub IsTooDeep : Context → List Row → List ℕ → ℕ → Type 0
IsTooDeep c rows text depth = IsUsual rows × ((row : Row) → IsFitting c text row → ⊥) ×
    IsDeepLine c text depth

-- the rule that begins after these rows is not ended
pub record IsRuleOpen (rows front : List Row) : Type 0 where
  pub rule : Row
  pub inside : List Row
  pub parts : rows ≡ front ++ rule ∷ inside
  pub begins : rule.keyword ≡ Rule
  pub not_ended : Has End inside → ⊥

-- what is missing where no line comes after these rows
abbrev pub IsMissingRow : Lines → List Row → ℕ → ℕ → Kind → Type 0
IsMissingRow lines rows end number BadHead = (rows ≡ []) × (number ≡ end)
IsMissingRow lines rows end number Unfinished =
    (front : List Row) × (next : Lines) × IsRuleOpen rows front ×
    Takes (map row_text front) lines next × (number ≡ line_number next)
IsMissingRow lines rows end number Main = IsUsual rows
    × ((front : List Row) → IsRuleOpen rows front →
    ⊥) ×
    (number ≡ end)
IsMissingRow lines rows end number Directive = ⊥
IsMissingRow lines rows end number Shape = ⊥
IsMissingRow lines rows end number Order = ⊥
IsMissingRow lines rows end number Variable = ⊥

-- the next line is the first bad one, or one is missing
abbrev pub IsBadAt : Lines → List Row → Context → Lines → ℕ → Kind → Type 0
IsBadAt lines rows c (over n) number kind = IsMissingRow lines rows n number kind
IsBadAt lines rows c (line n text after more) number kind =
    (number ≡ n) × IsBadCoreLine c rows text kind

-- the next line is the first bad one, and has a core text that is too deep
abbrev pub IsDeepAt : List Row → Context → Lines → ℕ → ℕ → Type 0
IsDeepAt rows c (over n) number depth = ⊥
IsDeepAt rows c (line n text after more) number depth = (number ≡ n) × IsTooDeep c rows text depth

-- the lines are those of this file
abbrev pub AreLinesOf : Lines → CoreFile → Type 0
AreLinesOf lines file = line_texts lines ≡ map row_text (rows_of file)

-- the file says this, and this is why its rules are no rule set
abbrev pub AreRulesRefused : CoreFile → RuleError → Type 0
AreRulesRefused file NoRoom = ⊥
AreRulesRefused file e = (p : Problem) × SaysCore file p
    × IsRuleSetRefused p.shapes p.forms p.rules e

-- what reading the lines that are kept answers
abbrev pub AreLinesAnswered : Lines → Result Problem CoreFileError → Type 0
AreLinesAnswered lines (Ok p) = (file : CoreFile) × AreLinesOf lines file × StatesProblem file p
AreLinesAnswered lines (Err Memory) = Unit {0}
AreLinesAnswered lines (Err (NotUtf8 place)) = ⊥
AreLinesAnswered lines (Err (Notation number kind)) =
    (rows : List Row) × (c : Context) × (next : Lines) × ReadTo lines rows c next ×
    IsBadAt lines rows c next number kind
AreLinesAnswered lines (Err (TooDeep number depth)) =
    (rows : List Row) × (c : Context) × (next : Lines) × ReadTo lines rows c next ×
    IsDeepAt rows c next number depth
AreLinesAnswered lines (Err (Rules e)) = (file : CoreFile) × AreLinesOf lines file ×
    AreRulesRefused file e

abbrev pub AreCoreLinesRead : Lines → Result CoreProblem CoreFileError → Type 0
AreCoreLinesRead lines (Ok p) = AreLinesAnswered lines (Ok (problem p))
AreCoreLinesRead lines (Err e) = AreLinesAnswered lines (Err e)

-- what the bytes of a core file state, or why they state nothing: lines that are blank or begin
-- with `//` are not kept
abbrev pub IsCoreAnswer : List ℕ → Result Problem CoreFileError → Type 0
IsCoreAnswer bytes (Ok p) = IsUtf8 bytes × AreLinesAnswered (kept (lines_from 1 bytes)) (Ok p)
IsCoreAnswer bytes (Err Memory) = Unit {0}
IsCoreAnswer bytes (Err (NotUtf8 place)) = (IsUtf8 bytes → ⊥) × (place ≡ utf8_valid_len bytes)
IsCoreAnswer bytes (Err e) = IsUtf8 bytes × AreLinesAnswered (kept (lines_from 1 bytes)) (Err e)

-- what reading a core file answers
abbrev pub IsCoreRead : List ℕ → Result CoreProblem CoreFileError → Type 0
IsCoreRead bytes (Ok p) = IsCoreAnswer bytes (Ok (problem p))
IsCoreRead bytes (Err e) = IsCoreAnswer bytes (Err e)
