-- The steps of the reading of core files.
use Rattle.std.specs.Prelude.{◌≡◌, ℕ, ◌<◌, ◌^◌, List, [], ◌∷◌, ◌++◌, ◌⊎◌, None, map, length, codes}
use Rattle.std.specs.Prelude.{Contains, Result, Ok, Err}
use Rattle.sx_term.specs.Shapes.{shape, shapes}
use Rattle.sx_term.specs.Term.{tree}
use Rattle.sx_term.specs.Sorts.{Shape}
use Rattle.sx_term.specs.declared.sort.Sort.{Sort as SortOf}
use Rattle.sx_rules.specs.Rules.{Premise, apart, holds}
use Rattle.sx_rules.specs.Views.{FormData, NamedRule, form, goal, judgement, named, premise}
use Rattle.sx_rules.specs.Modes.{Goal as GoalData}
use Rattle.sx_rules.specs.Good.{IsRuleSet, IsRuleSetRefused}
use Rattle.sx_rules.specs.declared.error.RuleError.{RuleError}
use Rattle.sx_rules.specs.declared.error.RuleError.TheVariants.{Memory as NoRules}
use Rattle.sx_rules.specs.declared.rule.Goal.{Goal as GoalOf}
use Rattle.sx_core.specs.Problem.{Problem, problem}
use Rattle.sx_core.specs.Resolving.{sort_names, rows_in}
use Rattle.sx_core.specs.declared.problem.CoreProblem.{CoreProblem}
use Rattle.sx_core.specs.declared.terms_row.RowError.{RowError}
use Rattle.sx_rules.specs.declared.rule.Judgement.{Judgement as JudgementOf}
use Rattle.sx_core.specs.Statements.{known_in}
use Rattle.sx_core.specs.TermsText.{RefusedAs}
use Rattle.sx_core.specs.Stated.{IsCoreName}
use Rattle.sx_core.specs.Table.{IsKeyword, NoKeyword, row_with, row_text}
use Rattle.sx_core.specs.Fitting.{IsFitting, IsDeepLine, IsNewSort}
use Rattle.sx_core.specs.Reading.{context, IsCoreLineRead}
use Rattle.sx_core.specs.Order.{at_start, at_end, phase_of, step}
use Rattle.sx_core.specs.declared.found.Found.{Found}
use Rattle.sx_core.specs.declared.sort_table.SortTable.{SortTable}
use Rattle.sx_core.specs.File.{SortRow}
use Rattle.sx_core.specs.declared.reader.Reader.{Reader}
use Rattle.sx_core.specs.declared.step_error.StepError.{StepError}
use Rattle.sx_core.specs.declared.step_error.StepError.TheVariants.{Memory as NoRoom}
use Rattle.sx_core.specs.declared.step_error.StepError.TheVariants.{Order as OutOfOrder}
use Rattle.sx_core.specs.declared.stage.Open.{Open}
use Rattle.sx_core.specs.declared.stage.Stage.{Stage}
use Rattle.sx_core.specs.declared.stage.Stage.TheVariants.{Start, Declaring, Between, Premising}
use Rattle.sx_core.specs.declared.stage.Stage.TheVariants.{Concluded, Over}
use Rattle.sx_core.specs.declared.line_read.LineRead.{LineRead}
use Rattle.sx_core.specs.declared.line_read.LineRead.TheVariants.{Head as HeadRead}
use Rattle.sx_core.specs.declared.line_read.LineRead.TheVariants.{Sort as SortRead, Con as ConRead}
use Rattle.sx_core.specs.declared.line_read.LineRead.TheVariants.{Form as FormRead}
use Rattle.sx_core.specs.declared.line_read.LineRead.TheVariants.{Rule as RuleRead, If as IfRead}
use Rattle.sx_core.specs.declared.line_read.LineRead.TheVariants.{Not as NotRead, Then as ThenRead}
use Rattle.sx_core.specs.declared.line_read.LineRead.TheVariants.{End as EndRead, Goal as GoalRead}
use Rattle.sx_core.specs.declared.keyword.Keyword.{Keyword}
use Rattle.sx_core.specs.declared.keyword.Keyword.TheVariants.{Head, Sort, Con, Form, Rule, If, Not}
use Rattle.sx_core.specs.declared.keyword.Keyword.TheVariants.{Then, End, Goal}
use Rattle.sx_lines.specs.declared.kind.Kind.{Kind}
use Rattle.sx_lines.specs.declared.kind.Kind.TheVariants.{Head as BadHead, Directive}
use Rattle.sx_lines.specs.declared.kind.Kind.TheVariants.{Shape as BadShape, Order as BadOrder}
use Rattle.sx_lines.specs.declared.kind.Kind.TheVariants.{Unfinished, Main, Variable}
use Rattle.sx_core.specs.declared.error.CoreFileError.{CoreFileError}
use Rattle.sx_core.specs.declared.error.CoreFileError.TheVariants.{Memory, NotUtf8, Notation}
use Rattle.sx_core.specs.declared.error.CoreFileError.TheVariants.{TooDeep, Rules}
use Rattle.sx_core.specs.declared.terms_row.RowError.TheVariants.{Memory as NoRoomForRow}
use Rattle.sx_core.specs.declared.terms_row.RowError.TheVariants.{Shape as NoRow}
use Rattle.sx_core.specs.declared.terms_row.RowError.TheVariants.{TooDeep as DeepRow}

-- the word of a line that was read
abbrev pub keyword_of : LineRead → Keyword
keyword_of HeadRead = Head
keyword_of (SortRead r) = Sort
keyword_of (ConRead r con) = Con
keyword_of (FormRead f) = Form
keyword_of (RuleRead name sorts) = Rule
keyword_of (IfRead j) = If
keyword_of (NotRead left right) = Not
keyword_of (ThenRead j) = Then
keyword_of EndRead = End
keyword_of (GoalRead g) = Goal

-- the name of one more sort is taken
pub record AddsSort (old new : Found) (name : List ℕ) : Type 0 where
  pub sorts : new.sorts ≡ old.sorts
  pub taken : new.taken ≡ old.taken ++ name ∷ []
  pub con_names : new.con_names ≡ old.con_names
  pub cons : new.cons ≡ old.cons
  pub shapes_are : new.shapes ≡ old.shapes
  pub forms : new.forms ≡ old.forms

-- one more constructor
pub record AddsCon (old new : Found) (name : List ℕ) (one : Shape) : Type 0 where
  pub sorts : new.sorts ≡ old.sorts
  pub taken : new.taken ≡ old.taken
  pub con_names : new.con_names ≡ old.con_names ++ name ∷ []
  pub cons : new.cons.items ≡ old.cons.items ++ name ∷ []
  pub shapes_are : shapes new.shapes ≡ shapes old.shapes ++ one ∷ []
  pub forms : new.forms ≡ old.forms

-- one more form, and each form has a number
pub record AddsForm (old new : Found) (one : FormData) : Type 0 where
  pub sorts : new.sorts ≡ old.sorts
  pub taken : new.taken ≡ old.taken
  pub con_names : new.con_names ≡ old.con_names
  pub cons : new.cons ≡ old.cons
  pub shapes_are : new.shapes ≡ old.shapes
  pub names : new.forms.names ≡ old.forms.names ++ one.name ∷ []
  pub forms : known_in new.forms ≡ known_in old.forms ++ one ∷ []
  pub few : length (known_in new.forms) < 2 ^ 32

-- what was found and the rules are as before
abbrev pub IsReaderKept : Reader → Reader → Type 0
IsReaderKept old new = (new.found ≡ old.found) × (new.rules ≡ old.rules)

-- the same rule with one more premise
pub record HasOneMorePremise (old new : Open) (p : Premise) : Type 0 where
  pub line : new.line ≡ old.line
  pub name : new.name ≡ old.name
  pub sorts : new.sorts ≡ old.sorts
  pub premises : map premise new.premises.items ≡ map premise old.premises.items ++ p ∷ []

-- a rule that begins at this line
pub record BeginsRule (o : Open) (number : ℕ) (name : List ℕ) (sorts : List SortOf) : Type 0 where
  pub line : o.line ≡ number
  pub name_is : o.name ≡ name
  pub sorts_are : o.sorts.items ≡ sorts
  pub premises : o.premises.items ≡ []

-- the rule that a conclusion makes whole
abbrev pub whole_rule : Open → JudgementOf → NamedRule
whole_rule o j = record {
  name = o.name;
  rule =
      record {
        sorts = o.sorts.items;
        premises = map premise o.premises.items;
        conclusion = judgement j;
      };
}

-- a declaration, a rule or the goal may follow
abbrev pub MayBegin : Stage → Type 0
MayBegin stage = (stage ≡ Declaring) ⊎ (stage ≡ Between)

-- one more premise of the rule that is open
abbrev pub TakesPremise : Reader → Premise → Reader → Type 0
TakesPremise old one new = (o p : Open) × (old.stage ≡ Premising o) ×
    (new.stage ≡ Premising p) × HasOneMorePremise o p one × IsReaderKept old new

-- the reading of this line of this number leads from one reader to the other
abbrev pub CoreSteps : Reader → ℕ → LineRead → Reader → Type 0
CoreSteps old number HeadRead new = (old.stage ≡ Start) × (new.stage ≡ Declaring)
    × IsReaderKept old new
CoreSteps old number (SortRead r) new = (old.stage ≡ Declaring) × (new.stage ≡ Declaring) ×
    (new.rules ≡ old.rules) × AddsSort old.found new.found r.name
CoreSteps old number (ConRead r con) new = (old.stage ≡ Declaring) × (new.stage ≡ Declaring) ×
    (new.rules ≡ old.rules) × AddsCon old.found new.found r.name (shape con)
CoreSteps old number (FormRead f) new = (old.stage ≡ Declaring) × (new.stage ≡ Declaring) ×
    (new.rules ≡ old.rules) × AddsForm old.found new.found (form f)
CoreSteps old number (RuleRead name sorts) new =
    MayBegin old.stage × (o : Open) × (new.stage ≡ Premising o)
    × BeginsRule o number name sorts.items ×
    IsReaderKept old new
CoreSteps old number (IfRead j) new = TakesPremise old (holds (judgement j)) new
CoreSteps old number (NotRead left right) new = TakesPremise old (apart (tree left) (tree right))
    new
CoreSteps old number (ThenRead j) new = (o : Open) × (old.stage ≡ Premising o) ×
    (new.stage ≡ Concluded o j) × IsReaderKept old new
CoreSteps old number EndRead new =
    (o : Open) × (j : JudgementOf) × (old.stage ≡ Concluded o j) × (new.stage ≡ Between) ×
    (new.found ≡ old.found)
    × (map named new.rules.items ≡ map named old.rules.items ++ whole_rule o j ∷ [])
CoreSteps old number (GoalRead g) new = MayBegin old.stage × (new.stage ≡ Over g)
    × IsReaderKept old new

-- such a line may not stand there
abbrev pub StepRefused : Reader → Keyword → StepError → Type 0
StepRefused old k NoRoom = Unit {0}
StepRefused old k OutOfOrder = step (phase_of old.stage) k ≡ None

-- neither the first line nor a line after the goal's
abbrev pub IsUsual : Reader → Type 0
IsUsual old = (phase_of old.stage ≡ at_start → ⊥) × (phase_of old.stage ≡ at_end → ⊥)

-- what is bad about the line
abbrev pub IsBadNext : Reader → List ℕ → Kind → Type 0
IsBadNext old text BadHead = (phase_of old.stage ≡ at_start) × (text ≡ codes "sxcore 1" → ⊥)
IsBadNext old text Directive = IsUsual old × NoKeyword text
IsBadNext old text BadShape =
    IsUsual old × (k : Keyword) × (rest : List ℕ) × IsKeyword text k rest ×
    RefusedAs (IsFitting (context old.found) text) (IsDeepLine (context old.found) text) NoRow
IsBadNext old text BadOrder =
    (phase_of old.stage ≡ at_end)
    ⊎ (IsUsual old × (x : LineRead) × IsCoreLineRead (context old.found) text x ×
    (step (phase_of old.stage) (keyword_of x) ≡ None))
IsBadNext old text Unfinished = ⊥
IsBadNext old text Main = ⊥
IsBadNext old text Variable = ⊥

-- the line with this number and text is read
abbrev pub NextRead : Reader → ℕ → List ℕ → Reader → Type 0
NextRead old number text new = (x : LineRead) × IsCoreLineRead (context old.found) text x ×
    CoreSteps old number x new

-- the line with this number and text is refused
abbrev pub NextRefused : Reader → ℕ → List ℕ → CoreFileError → Type 0
NextRefused old number text Memory = Unit {0}
NextRefused old number text (NotUtf8 place) = ⊥
NextRefused old number text (Notation l kind) = (l ≡ number) × IsBadNext old text kind
NextRefused old number text (TooDeep l depth) =
    (l ≡ number) × IsUsual old × RefusedAs (IsFitting (context old.found) text)
    (IsDeepLine (context old.found) text) (DeepRow depth)
NextRefused old number text (Rules e) = ⊥

-- the name of what was read is that of nothing before it
abbrev pub IsFresh : Found → LineRead → Type 0
IsFresh found HeadRead = Unit {0}
IsFresh found (SortRead r) = Contains found.taken r.name → ⊥
IsFresh found (ConRead r con) = Contains found.con_names r.name → ⊥
IsFresh found (FormRead f) = Contains found.forms.names f.name → ⊥
IsFresh found (RuleRead name sorts) = Unit {0}
IsFresh found (IfRead j) = Unit {0}
IsFresh found (NotRead left right) = Unit {0}
IsFresh found (ThenRead j) = Unit {0}
IsFresh found EndRead = Unit {0}
IsFresh found (GoalRead g) = Unit {0}

-- what a refusal of a row is at this line
abbrev pub line_error : ℕ → RowError → CoreFileError
line_error number NoRoomForRow = Memory
line_error number NoRow = Notation number BadShape
line_error number (DeepRow depth) = TooDeep number depth

-- why a line of this number is not taken
abbrev pub step_error : ℕ → StepError → CoreFileError
step_error number NoRoom = Memory
step_error number OutOfOrder = Notation number BadOrder

-- a breach of the rules as a refusal of the file
abbrev pub rule_error : RuleError → CoreFileError
rule_error NoRules = Memory
rule_error e = Rules e

-- the problem has what was found, these rules, which are a rule set, and this goal
pub record IsCoreProblem (found : Found) (rules : List NamedRule) (g : GoalData)
    (p : Problem) : Type 0 where
  pub sorts : p.sorts ≡ map (λ row. row.name) (rows_in found.sorts)
  pub cons : p.cons ≡ found.cons.items
  pub shapes_are : p.shapes ≡ shapes found.shapes
  pub forms : p.forms ≡ known_in found.forms
  pub rules_are : p.rules ≡ rules
  pub goal_is : p.goal ≡ g
  pub rule_set : IsRuleSet (shapes found.shapes) (known_in found.forms) rules

-- what comes of the goal: the problem, or why the rules are no rule set
abbrev pub IsProblemMade : Found → List NamedRule → GoalData → Result CoreProblem CoreFileError →
    Type 0
IsProblemMade found rules g (Ok p) = IsCoreProblem found rules g (problem p)
IsProblemMade found rules g (Err Memory) = Unit {0}
IsProblemMade found rules g (Err (NotUtf8 place)) = ⊥
IsProblemMade found rules g (Err (Notation l kind)) = ⊥
IsProblemMade found rules g (Err (TooDeep l depth)) = ⊥
IsProblemMade found rules g (Err (Rules e)) = (e ≡ NoRules → ⊥) ×
    IsRuleSetRefused (shapes found.shapes) (known_in found.forms) rules e

-- what comes of a reader when no line is left: this is the number that a further line would have
abbrev pub IsEnded : Reader → Stage → ℕ → Result CoreProblem CoreFileError → Type 0
IsEnded r stage number (Ok p) = (g : GoalOf) × (stage ≡ Over g) ×
    IsCoreProblem r.found (map named r.rules.items) (goal g) (problem p)
IsEnded r stage number (Err Memory) = Unit {0}
IsEnded r stage number (Err (NotUtf8 place)) = ⊥
IsEnded r stage number (Err (Notation l BadHead)) = (stage ≡ Start) × (l ≡ number)
IsEnded r stage number (Err (Notation l Main)) = MayBegin stage × (l ≡ number)
IsEnded r stage number (Err (Notation l Unfinished)) =
    (o : Open) × ((stage ≡ Premising o) ⊎ ((j : JudgementOf) × (stage ≡ Concluded o j))) ×
    (l ≡ o.line)
IsEnded r stage number (Err (Notation l Directive)) = ⊥
IsEnded r stage number (Err (Notation l BadShape)) = ⊥
IsEnded r stage number (Err (Notation l BadOrder)) = ⊥
IsEnded r stage number (Err (Notation l Variable)) = ⊥
IsEnded r stage number (Err (TooDeep l depth)) = ⊥
IsEnded r stage number (Err (Rules e)) =
    (g : GoalOf) × (stage ≡ Over g) × (e ≡ NoRules → ⊥) ×
    IsRuleSetRefused (shapes r.found.shapes) (known_in r.found.forms) (map named r.rules.items) e

-- a reader before the first line of a file with these sorts
pub record IsReaderBegun (sorts : SortTable) (r : Reader) : Type 0 where
  pub stage : r.stage ≡ Start
  pub rules : r.rules.items ≡ []
  pub sorts_are : r.found.sorts ≡ sorts
  pub taken : r.found.taken ≡ sort_names []
  pub con_names : r.found.con_names ≡ []
  pub cons : r.found.cons.items ≡ []
  pub shapes_are : shapes r.found.shapes ≡ []
  pub form_names : r.found.forms.names ≡ []
  pub forms : known_in r.found.forms ≡ []

-- the line is that of this sort
abbrev pub IsSortLine : List ℕ → SortRow → Type 0
IsSortLine text r = (text ≡ row_text (row_with Sort r)) × IsCoreName r.name

-- the sort of the line is added, where it is that of a sort whose name is not taken
abbrev pub FindsSort : SortTable → SortTable → List ℕ → Type 0
FindsSort old new text =
    ((row : SortRow) × IsNewSort (rows_in old) text row × (rows_in new ≡ rows_in old ++ row ∷ []) ×
    (new.names ≡ old.names ++ row.name ∷ []))
    ⊎ (((row : SortRow) → IsNewSort (rows_in old) text row → ⊥) × (new ≡ old))
