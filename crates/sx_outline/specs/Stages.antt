-- The stages of the reading of a language file or of an extension file, and its steps.
use Rattle.std.specs.Prelude.{◌≡◌, ℕ, ◌⊎◌, List, [], ◌∷◌, ◌++◌, Option, Some, None, map, option_map}
use Rattle.std.specs.Prelude.{codes}
use Rattle.sx_directives.specs.declared.file_kind.FileKind.{FileKind}
use Rattle.sx_directives.specs.declared.file_kind.FileKind.TheVariants as files
use Rattle.sx_directives.specs.Parts.{parts_of}
use Rattle.sx_directives.specs.Rows.{IsRow, HasWord}
use Rattle.sx_directives.specs.declared.rows.MainLine.{MainLine}
use Rattle.sx_directives.specs.declared.row.Row.{Row}
use Rattle.sx_directives.specs.declared.row.Row.TheVariants.{Language, Sort, Prod, Var, Form, Main}
use Rattle.sx_directives.specs.declared.row.Row.TheVariants.{Rule, End, Extension, Plain, To}
use Rattle.sx_lines.specs.declared.kind.Kind.{Kind}
use Rattle.sx_lines.specs.declared.kind.Kind.TheVariants.{Head, Directive, Shape, Order, Unfinished}
use Rattle.sx_lines.specs.declared.kind.Kind.TheVariants.{Main as NoMain, Variable}
use Rattle.sx_outline.specs.declared.main_form.MainForm.{MainForm}
use Rattle.sx_directives.specs.declared.rows.PlainLine.{PlainLine}
use Rattle.sx_outline.specs.declared.plain_lines.PlainLines.{PlainLines}
use Rattle.sx_outline.specs.declared.rule_lines.RuleLine.{RuleLine}
use Rattle.sx_outline.specs.declared.rule_lines.RuleLines.{RuleLines}
use Rattle.sx_outline.specs.Declarations.{Declared, nothing, declare}
use Rattle.sx_outline.specs.Fitting.{RowFits, IsMainOf}

-- a line with its number
pub record Numbered : Type 0 where
  pub number : ℕ
  pub text : List ℕ

-- a rule: the number of its first line, its name, its premises, its conclusion, and its body, if it
-- has one
pub record RuleData : Type 0 where
  pub number : ℕ
  pub name : List ℕ
  pub premises : List Numbered
  pub conclusion : Numbered
  pub body : Option Numbered

-- a plain pair: the number of its first line, the label and the names of the parts that this
-- states, and its body
pub record PlainData : Type 0 where
  pub number : ℕ
  pub label : List ℕ
  pub names : List (List ℕ)
  pub body : Numbered

-- a line of a rule as plain data
abbrev pub numbered_rule_line : RuleLine → Numbered
numbered_rule_line l = record { number = l.number; text = l.text }

-- a rule as plain data
abbrev pub rule_data : RuleLines → RuleData
rule_data r =
    record {
      number = r.number;
      name = r.name;
      premises = map numbered_rule_line r.premises.items;
      conclusion = numbered_rule_line r.conclusion;
      body = option_map numbered_rule_line r.body;
    }

-- a plain pair as plain data
abbrev pub plain_data : PlainLines → PlainData
plain_data p = record {
  number = p.number;
  label = p.label;
  names = p.names.items;
  body = numbered_rule_line p.body;
}

-- a rule that has begun
pub record Begun : Type 0 where
  pub number : ℕ
  pub name : List ℕ
  pub premises : List Numbered

-- a plain pair that has begun
pub record BegunPlain : Type 0 where
  pub number : ℕ
  pub label : List ℕ
  pub names : List (List ℕ)

-- where the reading stands: before the first line, among the declarations, after the first line of
-- a plain pair, between plain pairs, between rules, among the premises of a rule, after its `---`,
-- or after its conclusion
pub data Stage : Type 0 where
  at_start : Stage
  at_declarations : Stage
  at_body : BegunPlain → Stage
  at_plains : Stage
  at_rules : Stage
  at_premises : Begun → Stage
  at_conclusion : Begun → Stage
  at_end : RuleData → Stage

-- the first row of the file of this kind with this name
abbrev pub head_row : FileKind → List ℕ → Row
head_row files.Language name = Language name
head_row files.Extension name = Extension name

-- what has been read: where the reading stands, what was declared, the plain pairs, and the rules
pub record State : Type 0 where
  pub stage : Stage
  pub declared : Declared
  pub plains : List PlainData
  pub rules : List RuleData

-- before the first line of a language file nothing is declared
abbrev pub start : State
start = record { stage = at_start; declared = nothing; plains = []; rules = [] }

-- after the first lines of an extension file so much is declared
abbrev pub start_after : Declared → State
start_after d = record { stage = at_declarations; declared = d; plains = []; rules = [] }

-- a row is due here
abbrev pub IsDue : Stage → Type 0
IsDue at_declarations = Unit {0}
IsDue at_plains = Unit {0}
IsDue at_rules = Unit {0}
IsDue (at_end r) = Unit {0}
IsDue _ = ⊥

-- the row may stand at this stage, after these main lines
abbrev pub MayStandAt : Stage → List MainLine → Row → Type 0
MayStandAt at_declarations mains (Sort x) = Unit {0}
MayStandAt at_declarations mains (Prod x) = Unit {0}
MayStandAt at_declarations mains (Var x) = Unit {0}
MayStandAt at_declarations mains (Form x) = Unit {0}
MayStandAt at_declarations mains (Main x) = mains ≡ []
MayStandAt at_declarations mains (Plain x) = Unit {0}
MayStandAt at_declarations mains (Rule x) = Unit {0}
MayStandAt at_plains mains (Plain x) = Unit {0}
MayStandAt at_plains mains (Rule x) = Unit {0}
MayStandAt at_rules mains (Rule x) = Unit {0}
MayStandAt (at_end r) mains End = Unit {0}
MayStandAt (at_end r) mains (To body) = r.body ≡ None
MayStandAt _ mains row = ⊥

-- the row may stand next
abbrev pub MayComeNext : State → Row → Type 0
MayComeNext s row = MayStandAt s.stage s.declared.mains row

-- a main line is of some main form
abbrev pub HasMain : Declared → Row → Type 0
HasMain known (Main m) = (main : MainForm) × IsMainOf known m main
HasMain known _ = Unit {0}

-- the line spells the row, which fits and may stand there, and is of a main form where it is a main
-- line
pub record IsGoodRow (kind : FileKind) (known : Declared) (s : State) (text : List ℕ)
    (row : Row) : Type 0 where
  pub spelled : IsRow kind text row
  pub fits : RowFits known s.declared row
  pub stands : MayComeNext s row
  pub main : HasMain known row

-- at another stage, all else as before
abbrev pub at_stage : State → Stage → State
at_stage s stage =
    record { stage = stage; declared = s.declared; plains = s.plains; rules = s.rules }

-- the rule is ended, if one has its conclusion
abbrev pub ended : State → Stage → State
ended s (at_end r) = record {
  stage = at_rules;
  declared = s.declared;
  plains = s.plains;
  rules = s.rules ++ r ∷ [];
}
ended s _ = s

-- a rule with its body
abbrev pub with_body : RuleData → Numbered → RuleData
with_body r line = record {
  number = r.number;
  name = r.name;
  premises = r.premises;
  conclusion = r.conclusion;
  body = Some line;
}

-- the rule has this body, if it has its conclusion
abbrev pub bodied : State → Stage → Numbered → State
bodied s (at_end r) line = at_stage s (at_end (with_body r line))
bodied s _ line = s

-- a plain pair after its first line
abbrev pub begun_plain : ℕ → PlainLine → BegunPlain
begun_plain number p = record { number = number; label = p.label; names = p.names.items }

-- a plain pair with its body
abbrev pub paired : BegunPlain → Numbered → PlainData
paired b line = record { number = b.number; label = b.label; names = b.names; body = line }

-- with one more plain pair
abbrev pub with_plain : State → PlainData → State
with_plain s p = record {
  stage = at_plains;
  declared = s.declared;
  plains = s.plains ++ p ∷ [];
  rules = s.rules;
}

-- after a row: a plain pair or a rule has begun, a rule has its body or is ended, or more is
-- declared
abbrev pub state_after_row : State → ℕ → Row → State
state_after_row s number (Plain p) = at_stage s (at_body (begun_plain number p))
state_after_row s number (Rule name) = at_stage s (at_premises
    (record { number = number; name = name; premises = [] }))
state_after_row s number End = ended s s.stage
state_after_row s number (To body) = bodied s s.stage (record { number = number; text = body })
state_after_row s number row = record {
  stage = s.stage;
  declared = declare s.declared row;
  plains = s.plains;
  rules = s.rules;
}

-- the only part of the line is `---`
abbrev pub IsBar : List ℕ → Type 0
IsBar text = parts_of text ≡ codes "---" ∷ []

-- a rule with one more premise
abbrev pub with_premise : Begun → Numbered → Begun
with_premise b line = record {
  number = b.number;
  name = b.name;
  premises = b.premises ++ line ∷ [];
}

-- a rule with its conclusion, and without a body so far
abbrev pub concluded : Begun → Numbered → RuleData
concluded b line = record {
  number = b.number;
  name = b.name;
  premises = b.premises;
  conclusion = line;
  body = None;
}

-- a line where a row is due leads from one state to the other
abbrev pub StepsByRow : FileKind → Declared → State → ℕ → List ℕ → State → Type 0
StepsByRow kind known s number text t = (row : Row) × IsGoodRow kind known s text row ×
    (t ≡ state_after_row s number row)

-- at this stage the line with this number and text leads from one state to the other
abbrev pub StepsAt : Stage → FileKind → Declared → List ℕ → State → ℕ → List ℕ → State → Type 0
StepsAt at_start kind known name s number text t =
    IsRow kind text (head_row kind name) × (t ≡ at_stage s at_declarations)
StepsAt at_declarations kind known name s number text t = StepsByRow kind known s number text t
StepsAt (at_body b) kind known name s number text t =
    t ≡ with_plain s (paired b (record { number = number; text = text }))
StepsAt at_plains kind known name s number text t = StepsByRow kind known s number text t
StepsAt at_rules kind known name s number text t = StepsByRow kind known s number text t
StepsAt (at_premises b) kind known name s number text t =
    (IsBar text × (t ≡ at_stage s (at_conclusion b)))
    ⊎ ((IsBar text → ⊥) ×
    (t ≡ at_stage s (at_premises (with_premise b (record { number = number; text = text })))))
StepsAt (at_conclusion b) kind known name s number text t =
    t ≡ at_stage s (at_end (concluded b (record { number = number; text = text })))
StepsAt (at_end r) kind known name s number text t = StepsByRow kind known s number text t

-- in a file of this kind with these declarations and this name the line leads from one state to the
-- other
abbrev pub Steps : (kind : FileKind) (known : Declared) (name : List ℕ) (s : State) (number : ℕ)
    (text : List ℕ) (t : State) → Type 0
Steps kind known name s number text t = StepsAt s.stage kind known name s number text t

-- what is bad about a line
abbrev pub IsBad : (kind : FileKind) (known : Declared) (name : List ℕ) (s : State)
    (text : List ℕ) → Kind → Type 0
IsBad kind known name s text Head = (s.stage ≡ at_start) ×
    (IsRow kind text (head_row kind name) → ⊥)
IsBad kind known name s text Directive = IsDue s.stage × (HasWord kind text → ⊥)
IsBad kind known name s text Shape =
    IsDue s.stage × HasWord kind text × ((row : Row) → IsRow kind text row →
    RowFits known s.declared row → ⊥)
IsBad kind known name s text Order = IsDue s.stage × (row : Row) × IsRow kind text row ×
    RowFits known s.declared row × (MayComeNext s row → ⊥)
IsBad kind known name s text NoMain =
    IsDue s.stage × (m : MainLine) × IsRow kind text (Main m) × MayComeNext s (Main m) ×
    ((main : MainForm) → IsMainOf known m main → ⊥)
IsBad kind known name s text Unfinished = ⊥
IsBad kind known name s text Variable = ⊥

-- no plain pair and no rule has begun that is not ended
abbrev pub IsWhole : Stage → Type 0
IsWhole at_declarations = Unit {0}
IsWhole at_plains = Unit {0}
IsWhole at_rules = Unit {0}
IsWhole _ = ⊥

-- a plain pair or a rule that begins at this line is not ended
abbrev pub IsInside : Stage → ℕ → Type 0
IsInside (at_body b) number = b.number ≡ number
IsInside (at_premises b) number = b.number ≡ number
IsInside (at_conclusion b) number = b.number ≡ number
IsInside (at_end r) number = r.number ≡ number
IsInside _ number = ⊥
