-- The reader of a language file or of an extension file, and the state that it stands for.
use Rattle.std.specs.Prelude.{◌≡◌, ℕ, true, false, ◌+◌, ◌≤◌, ◌<◌, ◌^◌, ◌⊎◌, List, [], ◌∷◌, ◌++◌}
use Rattle.std.specs.Prelude.{map, length, Option, Some, None, Result, Ok, Err, MatchResult}
use Rattle.sx_lines.specs.Lines.{Lines}
use Rattle.sx_directives.specs.declared.file_kind.FileKind.{FileKind}
use Rattle.sx_directives.specs.declared.file_kind.FileKind.TheVariants as files
use Rattle.sx_directives.specs.Rows.{IsRow}
use Rattle.sx_directives.specs.declared.rows.MainLine.{MainLine}
use Rattle.sx_directives.specs.declared.row.Row.{Row}
use Rattle.sx_directives.specs.declared.row.Row.TheVariants.{Sort, Prod, Var, Form, Main, Plain, To}
use Rattle.sx_lines.specs.declared.kind.Kind.{Kind}
use Rattle.sx_lines.specs.declared.kind.Kind.TheVariants.{Head, Order, Main as NoMain}
use Rattle.sx_outline.specs.declared.main_form.MainForm.{MainForm}
use Rattle.sx_outline.specs.declared.outline.Outline.{Outline}
use Rattle.sx_outline.specs.declared.outline_error.OutlineError.{OutlineError}
use Rattle.sx_outline.specs.declared.outline_error.OutlineError.TheVariants.{Memory, NotUtf8}
use Rattle.sx_outline.specs.declared.outline_error.OutlineError.TheVariants.{Notation}
use Rattle.sx_directives.specs.declared.rows.PlainLine.{PlainLine}
use Rattle.sx_outline.specs.declared.stage.Begun.{Begun as BegunOf}
use Rattle.sx_outline.specs.declared.stage.BegunPlain.{BegunPlain as BegunPlainOf}
use Rattle.sx_outline.specs.declared.stage.Stage.{Stage as StageOf}
use Rattle.sx_outline.specs.declared.stage.Stage.TheVariants as stages
use Rattle.sx_outline.specs.declared.plain_lines.PlainLines.{PlainLines}
use Rattle.sx_outline.specs.declared.rule_lines.RuleLines.{RuleLines}
use Rattle.sx_outline.specs.declared.read_lines.ReadLines.{ReadLines}
use Rattle.sx_outline.specs.declared.reader.Reader.{Reader}
use Rattle.sx_outline.specs.Declarations.{Declared}
use Rattle.sx_outline.specs.Fitting.{IsMainOf}
use Rattle.sx_outline.specs.Known.{Declares}
use Rattle.sx_outline.specs.Stages.{Numbered, RuleData, numbered_rule_line, rule_data, plain_data}
use Rattle.sx_outline.specs.Stages.{with_body}
use Rattle.sx_outline.specs.Stages.{MayStandAt, Begun, BegunPlain, begun_plain, Stage, at_start}
use Rattle.sx_outline.specs.Stages.{at_declarations, at_body, at_plains, at_rules, at_premises}
use Rattle.sx_outline.specs.Stages.{at_conclusion, at_end, head_row, State, start, MayComeNext}
use Rattle.sx_outline.specs.Stages.{HasMain, Steps, IsBad, IsBar, IsWhole, with_premise}
use Rattle.sx_outline.specs.Stages.{state_after_row}
use Rattle.sx_outline.specs.Outcomes.{IsReadingOutcome}
use Rattle.sx_outline.specs.Outlined.{outline, IsEnd}

-- a rule that has begun, as plain data
abbrev pub begun : BegunOf → Begun
begun b = record {
  number = b.number;
  name = b.name;
  premises = map numbered_rule_line b.premises.items;
}

-- a plain pair that has begun, as plain data
abbrev pub plain_begun : BegunPlainOf → BegunPlain
plain_begun b = record { number = b.number; label = b.label; names = b.names.items }

-- a stage as plain data
abbrev pub stage : StageOf → Stage
stage stages.Start = at_start
stage stages.Declarations = at_declarations
stage (stages.Body b) = at_body (plain_begun b)
stage stages.Plains = at_plains
stage stages.Rules = at_rules
stage (stages.Premises b) = at_premises (begun b)
stage (stages.Conclusion b) = at_conclusion (begun b)
stage (stages.End r) = at_end (rule_data r)

-- there was no main line, or one, and this is its main form
abbrev pub IsMainRead : Declared → Option MainForm → List MainLine → Type 0
IsMainRead known None [] = Unit {0}
IsMainRead known (Some main) (m ∷ []) = IsMainOf known m main
IsMainRead known _ _ = ⊥

-- in a file with these declarations the reader stands for this state
pub record IsOutlineReader (known : Declared) (r : Reader) (s : State) : Type 0 where
  pub stage_is : stage r.stage ≡ s.stage
  pub forms_are : r.forms ≡ length s.declared.forms
  pub vars_are : r.vars ≡ length s.declared.vars
  pub main_is : IsMainRead known r.main s.declared.mains
  pub plains_are : map plain_data r.read.plains.items ≡ s.plains
  pub rules_are : map rule_data r.read.rules.items ≡ s.rules

-- the first of what is known has been declared
pub record IsFirstDeclared (before known : Declared) : Type 0 where
  pub more : Declared
  pub forms : known.forms ≡ before.forms ++ more.forms
  pub vars : known.vars ≡ before.vars ++ more.vars

-- one more form and one more stem can be counted
pub record CanCountOne (r : Reader) : Type 0 where
  pub forms : r.forms + 1 < 2 ^ 64
  pub vars : r.vars + 1 < 2 ^ 64

-- so many more forms and stems can be counted
pub record HasCountRoom (r : Reader) (bytes : ℕ) : Type 0 where
  pub forms : r.forms + bytes + 1 < 2 ^ 64
  pub vars : r.vars + bytes + 1 < 2 ^ 64

-- a reader that has read nothing
pub record IsNewReader (r : Reader) : Type 0 where
  pub stage : stage r.stage ≡ at_start
  pub forms : r.forms ≡ 0
  pub vars : r.vars ≡ 0
  pub main : r.main ≡ None
  pub plains : r.read.plains.items ≡ []
  pub rules : r.read.rules.items ≡ []

-- a reader after the header of an extension file whose language has so many stems
pub record IsReaderAfter (stems : ℕ) (r : Reader) : Type 0 where
  pub stage : stage r.stage ≡ at_declarations
  pub forms : r.forms ≡ 0
  pub vars : r.vars ≡ stems
  pub main : r.main ≡ None
  pub plains : r.read.plains.items ≡ []
  pub rules : r.read.rules.items ≡ []

-- there is one plain pair more
pub record AddsPlain (old : ReadLines) (p : PlainLines) (new : ReadLines) : Type 0 where
  pub plains : new.plains.items ≡ old.plains.items ++ p ∷ []
  pub rules : new.rules.items ≡ old.rules.items

-- there is one rule more
pub record AddsRule (old : ReadLines) (r : RuleLines) (new : ReadLines) : Type 0 where
  pub plains : new.plains.items ≡ old.plains.items
  pub rules : new.rules.items ≡ old.rules.items ++ r ∷ []

-- there is at most one form more, and one stem
pub record GrowsByOne (old new : Reader) : Type 0 where
  pub forms : new.forms ≤ old.forms + 1
  pub vars : new.vars ≤ old.vars + 1

-- the row declares so many forms and stems
abbrev pub IsDeclaration : (forms vars : ℕ) → Row → Type 0
IsDeclaration forms vars (Sort x) = (forms ≡ 0) × (vars ≡ 0)
IsDeclaration forms vars (Prod x) = (forms ≡ 0) × (vars ≡ 0)
IsDeclaration forms vars (Var x) = (forms ≡ 0) × (vars ≡ 1)
IsDeclaration forms vars (Form x) = (forms ≡ 1) × (vars ≡ 0)
IsDeclaration forms vars _ = ⊥

-- a rule without a body has this one then, and elsewhere none may stand
abbrev pub IsBodyTaken : Stage → Numbered → Option StageOf → Type 0
IsBodyTaken old line None = (mains : List MainLine) (body : List ℕ) →
    MayStandAt old mains (To body) → ⊥
IsBodyTaken old line (Some next) = (r : RuleData) × (old ≡ at_end r) × (r.body ≡ None) ×
    (stage next ≡ at_end (with_body r line))

-- a plain pair begins here with this line, or none may
abbrev pub IsPlainBegun : Stage → ℕ → PlainLine → Option StageOf → Type 0
IsPlainBegun old number p None = (mains : List MainLine) → MayStandAt old mains (Plain p) → ⊥
IsPlainBegun old number p (Some next) = ((mains : List MainLine) → MayStandAt old mains (Plain p)) ×
    (stage next ≡ at_body (begun_plain number p))

-- why a row that fits is not taken
abbrev pub IsRowRefused : Declared → State → ℕ → Row → OutlineError → Type 0
IsRowRefused known s number row Memory = Unit {0}
IsRowRefused known s number row (NotUtf8 place) = ⊥
IsRowRefused known s number row (Notation l Order) = (l ≡ number) × (MayComeNext s row → ⊥)
IsRowRefused known s number row (Notation l NoMain) =
    (l ≡ number) × (m : MainLine) × (row ≡ Main m) × MayComeNext s row ×
    ((main : MainForm) → IsMainOf known m main → ⊥)
IsRowRefused known s number row (Notation l _) = ⊥

-- what taking a row that fits answers
abbrev pub IsRowTaken : Declared → Reader → ℕ → Row → Result Reader OutlineError → Type 0
IsRowTaken known r number row result = (s : State) → IsOutlineReader known r s →
    MatchResult result (λ next. MayComeNext s row × HasMain known row ×
    IsOutlineReader known next (state_after_row s number row))
    (λ e. IsRowRefused known s number row e)

-- why a line is refused
abbrev pub IsLineRefused : FileKind → Declared → List ℕ → State → ℕ → List ℕ → OutlineError → Type 0
IsLineRefused kind known name s number text Memory = Unit {0}
IsLineRefused kind known name s number text (NotUtf8 place) = ⊥
IsLineRefused kind known name s number text (Notation l bad) =
    (l ≡ number) × IsBad kind known name s text bad

-- what reading a line answers
abbrev pub IsLineRead : FileKind → Declared → List ℕ → Reader → ℕ → List ℕ →
    Result Reader OutlineError → Type 0
IsLineRead kind known name r number text result = (s : State) → IsOutlineReader known r s →
    IsFirstDeclared s.declared known →
    MatchResult result (λ next. (t : State) × Steps kind known name s number text t ×
    IsOutlineReader known next t) (λ e. IsLineRefused kind known name s number text e)

-- the answer of a reader that takes this stage and has read these lines then
abbrev pub staged : Reader → ReadLines → Result StageOf OutlineError → Result Reader OutlineError
staged r read (Ok next) =
    Ok (record { stage = next; forms = r.forms; vars = r.vars; main = r.main; read = read })
staged r read (Err e) = Err e

-- what reading a line where no row is due answers: the stage after it, where these lines are read
abbrev pub IsStageRead : FileKind → List ℕ → StageOf → (before : ReadLines) → ℕ → List ℕ →
    (after : ReadLines) → Result StageOf OutlineError → Type 0
IsStageRead kind name at before number text after result =
    (known : Declared) (r : Reader) → r.stage ≡ at → r.read ≡ before →
    IsLineRead kind known name r number text (staged r after result)

-- what is bad about a first line
abbrev pub IsHeadRefused : FileKind → List ℕ → ℕ → List ℕ → OutlineError → Type 0
IsHeadRefused kind name number text Memory = Unit {0}
IsHeadRefused kind name number text (NotUtf8 place) = ⊥
IsHeadRefused kind name number text (Notation l Head) =
    (l ≡ number) × (IsRow kind text (head_row kind name) → ⊥)
IsHeadRefused kind name number text (Notation l _) = ⊥

-- a rule that has begun, after one more line
abbrev pub AddsPremise : Begun → ℕ → List ℕ → Stage → Type 0
AddsPremise b number text next =
    (IsBar text × (next ≡ at_conclusion b)) ⊎
    ((IsBar text → ⊥) × (next ≡ at_premises
    (with_premise b (record { number = number; text = text }))))

-- what the reader stands for has been declared before these lines, or is all that the file declares
abbrev pub IsDeclaredAhead : FileKind → Stage → Declared → Lines → Declared → Type 0
IsDeclaredAhead kind at_start before lines known = Declares kind false before lines known
IsDeclaredAhead kind at_declarations before lines known = Declares kind false before lines known
IsDeclaredAhead kind (at_body b) before lines known = Declares kind true before lines known
IsDeclaredAhead kind at_plains before lines known = Declares kind false before lines known
IsDeclaredAhead kind _ before lines known = before ≡ known

-- the reader stands for the last state, in which all that the file declares was declared if nothing
-- is left open, before a line of this number
pub record IsReaderOf (known : Declared) (r : Reader) (number : ℕ) (s : State) (end : ℕ) : Type 0
  where
    pub stands : IsOutlineReader known r s
    pub whole : IsWhole s.stage → s.declared ≡ known
    pub ends : end ≡ number

-- where the reading ends
abbrev pub ReadingEndsAt : Declared → Result (Reader × ℕ) OutlineError → State → ℕ → Type 0
ReadingEndsAt known (Ok x) s end = IsReaderOf known x.0 x.1 s end
ReadingEndsAt known (Err e) s end = ⊥

-- the refusal is that of this line
abbrev pub IsBadLine : Result (Reader × ℕ) OutlineError → ℕ → Kind → Type 0
IsBadLine result number bad = result ≡ Err (Notation number bad)

-- what reading lines from this state on answers, where memory may be lacking at each
abbrev pub AreLinesRead : FileKind → Declared → List ℕ → State → Lines →
    Result (Reader × ℕ) OutlineError → Type 0
AreLinesRead kind known name s lines (Err Memory) = Unit {0}
AreLinesRead kind known name s lines (Err (NotUtf8 place)) = ⊥
AreLinesRead kind known name s lines result =
    IsReadingOutcome kind known name s lines (ReadingEndsAt known result) (IsBadLine result)

-- what reading the lines of a language file answers, where memory may be lacking at each
abbrev pub IsOutlineRead : Declared → List ℕ → Lines → Result Outline OutlineError → Type 0
IsOutlineRead known name lines (Ok o) =
    IsReadingOutcome files.Language known name start lines (λ s end. IsEnd s end (Ok (outline o)))
    (λ number bad. ⊥)
IsOutlineRead known name lines (Err Memory) = Unit {0}
IsOutlineRead known name lines (Err (NotUtf8 place)) = ⊥
IsOutlineRead known name lines (Err (Notation number bad)) =
    IsReadingOutcome files.Language known name start lines
    (λ s end. IsEnd s end (Err (Notation number bad))) (λ l other. (l ≡ number) × (other ≡ bad))

-- what the end of the lines of a language file answers where a further line would have this number
abbrev pub IsEndRead : State → ℕ → Result Outline OutlineError → Type 0
IsEndRead s end (Ok o) = IsEnd s end (Ok (outline o))
IsEndRead s end (Err Memory) = Unit {0}
IsEndRead s end (Err e) = IsEnd s end (Err e)
