-- What a language file states line by line, or its first bad line.
use Rattle.std.specs.Prelude.{◌≡◌, ℕ, false, List, [], ◌∷◌, map, Result, Ok, Err}
use Rattle.std.specs.Str.{IsUtf8}
use Rattle.std.specs.Str.Lossy.{utf8_valid_len}
use Rattle.sx_lines.specs.Lines.{lines_from}
use Rattle.sx_grammar.specs.Parts.{Parts, parts}
use Rattle.sx_directives.specs.declared.file_kind.FileKind.TheVariants as files
use Rattle.sx_directives.specs.declared.rows.VarLine.{VarLine}
use Rattle.sx_directives.specs.declared.rows.MainLine.{MainLine}
use Rattle.sx_lines.specs.declared.kind.Kind.{Kind}
use Rattle.sx_lines.specs.declared.kind.Kind.TheVariants.{Head, Directive, Shape, Order, Unfinished}
use Rattle.sx_lines.specs.declared.kind.Kind.TheVariants.{Main, Variable}
use Rattle.sx_outline.specs.declared.main_form.MainForm.{MainForm}
use Rattle.sx_outline.specs.declared.outline.Outline.{Outline}
use Rattle.sx_outline.specs.declared.outline_error.OutlineError.{OutlineError}
use Rattle.sx_outline.specs.declared.outline_error.OutlineError.TheVariants.{Memory, NotUtf8}
use Rattle.sx_outline.specs.declared.outline_error.OutlineError.TheVariants.{Notation}
use Rattle.sx_outline.specs.Declarations.{Declared, DeclaredForm, declared_form, nothing}
use Rattle.sx_outline.specs.Fitting.{IsMainOf}
use Rattle.sx_outline.specs.Known.{Declares, kept_lines}
use Rattle.sx_outline.specs.Stages.{RuleData, rule_data, at_start, State, start, IsWhole, IsInside}
use Rattle.sx_outline.specs.Outcomes.{IsReadingOutcome}

-- an outline as plain data
pub record OutlineData : Type 0 where
  pub parts : Parts
  pub vars : List VarLine
  pub forms : List DeclaredForm
  pub main : MainForm
  pub rules : List RuleData

-- what an outline holds, without its memory
abbrev pub outline : Outline → OutlineData
outline o = record {
  parts = parts o.parts;
  vars = o.vars.items;
  forms = map declared_form o.forms.items;
  main = o.main;
  rules = map rule_data o.rules.items;
}

-- what a file with this outline and this main line declares
abbrev pub declared_by : OutlineData → MainLine → Declared
declared_by o m = record {
  sorts = o.parts.sorts;
  productions = o.parts.productions;
  vars = o.vars;
  forms = o.forms;
  mains = m ∷ [];
  uses = [];
}

-- the outline has what was declared, the main form of the main line, and the rules
pub record IsOutlineOf (s : State) (o : OutlineData) : Type 0 where
  pub line : MainLine
  pub declared : s.declared ≡ declared_by o line
  pub main : IsMainOf s.declared line o.main
  pub rules : s.rules ≡ o.rules

-- what is missing where no line is left, and the number of the line: a further one would have the
-- number `end`
abbrev pub IsMissing : State → (end number : ℕ) → Kind → Type 0
IsMissing s end number Head = (s.stage ≡ at_start) × (number ≡ end)
IsMissing s end number Unfinished = IsInside s.stage number
IsMissing s end number Main = IsWhole s.stage × (s.declared.mains ≡ []) × (number ≡ end)
IsMissing s end number Directive = ⊥
IsMissing s end number Shape = ⊥
IsMissing s end number Order = ⊥
IsMissing s end number Variable = ⊥

-- what comes of a state where no line is left
abbrev pub IsEnd : State → ℕ → Result OutlineData OutlineError → Type 0
IsEnd s end (Ok o) = IsWhole s.stage × IsOutlineOf s o
IsEnd s end (Err (Notation number kind)) = IsMissing s end number kind
IsEnd s end (Err _) = ⊥

-- what comes of the bytes of the file of the language with this name, which are UTF-8
pub record IsReadAs (name bytes : List ℕ) (result : Result OutlineData OutlineError) : Type 0 where
  pub utf8 : IsUtf8 bytes
  pub known : Declared
  pub declares : Declares files.Language false nothing (kept_lines (lines_from 1 bytes)) known
  pub outcome : IsReadingOutcome files.Language known name start (kept_lines (lines_from 1 bytes))
      (λ s end. IsEnd s end result)
      (λ number kind. result ≡ Err (Notation number kind))

-- what the bytes of the file of the language with this name state, or why they state nothing
abbrev pub IsOutlineAnswer : (name bytes : List ℕ) → Result OutlineData OutlineError → Type 0
IsOutlineAnswer name bytes (Ok o) = IsReadAs name bytes (Ok o)
IsOutlineAnswer name bytes (Err Memory) = Unit {0}
IsOutlineAnswer name bytes (Err (NotUtf8 place)) =
    (IsUtf8 bytes → ⊥) × (place ≡ utf8_valid_len bytes)
IsOutlineAnswer name bytes (Err (Notation number kind)) =
    IsReadAs name bytes (Err (Notation number kind))

-- what reading a language file answers
abbrev pub IsOutlined : (name bytes : List ℕ) → Result Outline OutlineError → Type 0
IsOutlined name bytes (Ok o) = IsOutlineAnswer name bytes (Ok (outline o))
IsOutlined name bytes (Err e) = IsOutlineAnswer name bytes (Err e)
