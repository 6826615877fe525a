-- What reading a line comes to.
use Rattle.std.proofs.Common.{◌≡◌, ℕ, Bool, IsTrue, ◌↔◌, List, [], ◌∷◌, ◌++◌, map, length, take, Option, Some, None, Result, Ok, Err, refl, sym, ap, subst, ◌∙◌, inl, inr}
use Rattle.std.specs.Prelude.{codes}
use Rattle.std.proofs.Math.Seq.{take-append_seam}
use Rattle.std.proofs.lemmas.List.{map-append}
use Rattle.sx_directives.specs.declared.file_kind.FileKind.{FileKind}
use Rattle.sx_directives.specs.declared.file_kind.FileKind.TheVariants as files
use Rattle.sx_directives.specs.Parts.{parts_of}
use Rattle.sx_directives.specs.Rows.{IsRow, IsRowRead, HasWord}
use Rattle.sx_directives.specs.declared.row.Row.{Row}
use Rattle.sx_directives.specs.declared.rows.MainLine.{MainLine}
use Rattle.sx_directives.specs.declared.rows.PlainLine.{PlainLine}
use Rattle.sx_outline.specs.declared.plain_lines.PlainLines.{PlainLines}
use Rattle.sx_outline.specs.declared.read_lines.ReadLines.{ReadLines}
use Rattle.sx_directives.specs.declared.row.Row.TheVariants.{Bar, Plain, To}
use Rattle.sx_directives.specs.declared.row_error.RowError.{RowError}
use Rattle.sx_directives.specs.declared.row_error.RowError.TheVariants.{Shape as BadRow}
use Rattle.sx_lines.specs.declared.kind.Kind.TheVariants.{Head, Directive, Shape, Order, Unfinished}
use Rattle.sx_lines.specs.declared.kind.Kind.TheVariants.{Main as NoMain, Variable}
use Rattle.sx_outline.specs.declared.outline_error.OutlineError.{OutlineError}
use Rattle.sx_outline.specs.declared.outline_error.OutlineError.TheVariants.{Memory, NotUtf8}
use Rattle.sx_outline.specs.declared.outline_error.OutlineError.TheVariants.{Notation}
use Rattle.sx_outline.specs.declared.reader.Reader.{Reader}
use Rattle.sx_outline.specs.declared.stage.Begun.{Begun as BegunOf}
use Rattle.sx_outline.specs.declared.stage.BegunPlain.{BegunPlain as BegunPlainOf}
use Rattle.sx_outline.specs.declared.stage.Stage.{Stage as StageOf}
use Rattle.sx_outline.specs.declared.stage.Stage.TheVariants as stages
use Rattle.sx_outline.specs.Declarations.{Declared}
use Rattle.sx_outline.specs.Fitting.{RowFits}
use Rattle.sx_outline.specs.Stages.{Numbered, PlainData, RuleData, plain_data, rule_data, with_body}
use Rattle.sx_outline.specs.Stages.{bodied, begun_plain, paired, with_plain, MayStandAt, Stage}
use Rattle.sx_outline.specs.Stages.{at_start, at_declarations, at_body, at_plains, at_rules}
use Rattle.sx_outline.specs.Stages.{at_premises, at_conclusion, at_end, concluded, head_row, State}
use Rattle.sx_outline.specs.Stages.{MayComeNext, IsDue, StepsAt, StepsByRow, with_premise, state_after_row}
use Rattle.sx_outline.specs.Stages.{at_stage as to}
use Rattle.sx_outline.specs.Reading.{stage, begun, plain_begun, AddsPlain, IsPlainBegun}
use Rattle.sx_outline.specs.Reading.{IsOutlineReader, IsMainRead, IsFirstDeclared, IsRowRefused, IsRowTaken}
use Rattle.sx_outline.specs.Reading.{IsLineRefused, IsLineRead, IsHeadRefused, AddsPremise}
use Rattle.sx_outline.proofs.SameRows.{same_row}
use Rattle.sx_outline.proofs.SameLaws.{has_word, same_fits}

-- the line that is just `---` spells a row
pub bar_row : (kind : FileKind) (text : List ℕ) → parts_of text ≡ codes "---" ∷ [] → IsRow kind text Bar
bar_row files.Language text e = record { rest = []; parts_are = e; word = refl; follows = refl }
bar_row files.Extension text e = record { rest = []; parts_are = e; word = refl; follows = refl }

pub bar_word : (kind : FileKind) (text : List ℕ) → parts_of text ≡ codes "---" ∷ [] → HasWord kind text
bar_word kind text e = has_word kind text Bar (bar_row kind text e)

-- a first line that spells another row, or none
pub other_head : (kind : FileKind) (name : List ℕ) (number : ℕ) (text : List ℕ) (e : OutlineError) → e ≡ Notation number Head → (IsRow kind text (head_row kind name) → ⊥) → IsHeadRefused kind name number text e
other_head kind name number text e is n = subst (IsHeadRefused kind name number text) (sym is) (refl, n)

-- a first line that is refused is a bad line
pub head_refused : (kind : FileKind) (known : Declared) (name : List ℕ) (r : Reader) (s : State) (number : ℕ) (text : List ℕ) (e : OutlineError) → r.stage ≡ stages.Start → IsOutlineReader known r s → IsHeadRefused kind name number text e
    → IsLineRefused kind known name s number text e
head_refused kind known name r s number text Memory is reader h = tt
head_refused kind known name r s number text (NotUtf8 place) is reader h = absurd h
head_refused kind known name r s number text (Notation l Head) is reader h = (h.0, (sym reader.stage_is ∙ ap stage is, h.1))
head_refused kind known name r s number text (Notation l Directive) is reader h = absurd h
head_refused kind known name r s number text (Notation l Shape) is reader h = absurd h
head_refused kind known name r s number text (Notation l Order) is reader h = absurd h
head_refused kind known name r s number text (Notation l Unfinished) is reader h = absurd h
head_refused kind known name r s number text (Notation l NoMain) is reader h = absurd h
head_refused kind known name r s number text (Notation l Variable) is reader h = absurd h

-- ---- what was read

pub row_in : (kind : FileKind) (text : List ℕ) (o : Option Row) (row : Row) → o ≡ Some row → IsRowRead kind text (Ok o) → IsRow kind text row
row_in kind text o row e h = subst (λ x. IsRowRead kind text (Ok x)) e h

pub none_in : (kind : FileKind) (text : List ℕ) (o : Option Row) → o ≡ None → IsRowRead kind text (Ok o) → HasWord kind text → ⊥
none_in kind text o e h = subst (λ x. IsRowRead kind text (Ok x)) e h

pub shape_in : (kind : FileKind) (text : List ℕ) (e : RowError) → e ≡ BadRow → IsRowRead kind text (Err e) → HasWord kind text × ((row : Row) → IsRow kind text row → ⊥)
shape_in kind text e is h = subst (λ x. IsRowRead kind text (Err x)) is h

-- ---- lines where a row is due

pub fits_from : (known before : Declared) (forms vars : ℕ) (b : Bool) (row : Row)
    → ((d : Declared) → d.forms ≡ take forms known.forms → d.vars ≡ take vars known.vars → IsTrue b ↔ RowFits known d row)
    → IsFirstDeclared before known → forms ≡ length before.forms → vars ≡ length before.vars → IsTrue b ↔ RowFits known before row
fits_from known before forms vars b row h front ef ev =
    h before
    (sym (ap (λ n. take n known.forms) ef ∙ ap (take (length before.forms)) front.forms ∙ take-append_seam before.forms front.more.forms))
    (sym (ap (λ n. take n known.vars) ev ∙ ap (take (length before.vars)) front.vars ∙ take-append_seam before.vars front.more.vars))

due_of : (known : Declared) (r : Reader) (s : State) → IsDue (stage r.stage) → IsOutlineReader known r s → IsDue s.stage
due_of known r s due is = subst IsDue is.stage_is due

pub unfit_row : (kind : FileKind) (known : Declared) (name : List ℕ) (r : Reader) (s : State) (number : ℕ) (text : List ℕ) (row : Row) (e : OutlineError) → e ≡ Notation number Shape
    → IsDue (stage r.stage) → IsOutlineReader known r s → IsRow kind text row → (RowFits known s.declared row → ⊥) → IsLineRefused kind known name s number text e
unfit_row kind known name r s number text row e is due reader spelled n =
    subst (IsLineRefused kind known name s number text) (sym is) (
      refl,
      (
        due_of known r s due reader,
        has_word kind text row spelled,
        λ other spells fits. n (same_fits known s.declared other row (same_row kind text other row spells spelled) fits),
      ),
    )

pub no_row : (kind : FileKind) (known : Declared) (name : List ℕ) (r : Reader) (s : State) (number : ℕ) (text : List ℕ) (e : OutlineError) → e ≡ Notation number Shape
    → IsDue (stage r.stage) → IsOutlineReader known r s → HasWord kind text × ((row : Row) → IsRow kind text row → ⊥) → IsLineRefused kind known name s number text e
no_row kind known name r s number text e is due reader n =
    subst (IsLineRefused kind known name s number text) (sym is)
    (refl, (due_of known r s due reader, n.0, λ row spells fits. n.1 row spells))

due_steps : (at : Stage) (kind : FileKind) (known : Declared) (name : List ℕ) (s : State) (number : ℕ) (text : List ℕ) (t : State) → IsDue at → StepsByRow kind known s number text t → StepsAt at kind known name s number text t
due_steps at_start kind known name s number text t due h = absurd due
due_steps at_declarations kind known name s number text t due h = h
due_steps (at_body b) kind known name s number text t due h = absurd due
due_steps at_plains kind known name s number text t due h = h
due_steps at_rules kind known name s number text t due h = h
due_steps (at_premises b) kind known name s number text t due h = absurd due
due_steps (at_conclusion b) kind known name s number text t due h = absurd due
due_steps (at_end r) kind known name s number text t due h = h

row_refused : (kind : FileKind) (known : Declared) (name : List ℕ) (s : State) (number : ℕ) (text : List ℕ) (row : Row) (e : OutlineError) → IsDue s.stage → IsRow kind text row → RowFits known s.declared row
    → IsRowRefused known s number row e → IsLineRefused kind known name s number text e
row_refused kind known name s number text row Memory due spelled fits h = tt
row_refused kind known name s number text row (NotUtf8 place) due spelled fits h = absurd h
row_refused kind known name s number text row (Notation l Order) due spelled fits h = (h.0, (due, row, spelled, fits, h.1))
row_refused kind known name s number text row (Notation l NoMain) due spelled fits h = (h.0, (due, h.1, subst (IsRow kind text) h.2 spelled, subst (λ x. MayComeNext s x) h.2 h.3, h.4))
row_refused kind known name s number text row (Notation l Head) due spelled fits h = absurd h
row_refused kind known name s number text row (Notation l Directive) due spelled fits h = absurd h
row_refused kind known name s number text row (Notation l Shape) due spelled fits h = absurd h
row_refused kind known name s number text row (Notation l Unfinished) due spelled fits h = absurd h
row_refused kind known name s number text row (Notation l Variable) due spelled fits h = absurd h

pub row_taken : (kind : FileKind) (known : Declared) (name : List ℕ) (r : Reader) (number : ℕ) (text : List ℕ) (row : Row) (result : Result Reader OutlineError) → IsDue (stage r.stage) → IsRow kind text row
    → ((s : State) → IsOutlineReader known r s → IsFirstDeclared s.declared known → RowFits known s.declared row) → IsRowTaken known r number row result → IsLineRead kind known name r number text result
row_taken kind known name r number text row (Ok next) due spelled fits taken = λ s reader front.
    let h = taken s reader in (
      state_after_row s number row,
      due_steps s.stage kind known name s number text (state_after_row s number row) (due_of known r s due reader)
          (row, record { spelled = spelled; fits = fits s reader front; stands = h.0; main = h.1 }, refl),
      h.2,
    )
row_taken kind known name r number text row (Err e) due spelled fits taken = λ s reader front.
    row_refused kind known name s number text row e (due_of known r s due reader) spelled (fits s reader front) (taken s reader)

-- ---- other lines

-- the reader with another stage
abbrev pub with_stage : Reader → StageOf → Reader
with_stage r at = record { stage = at; forms = r.forms; vars = r.vars; main = r.main; read = r.read }

moved : (known : Declared) (r : Reader) (s t : State) (next : StageOf) → stage next ≡ t.stage → s.declared ≡ t.declared → s.plains ≡ t.plains → s.rules ≡ t.rules → IsOutlineReader known r s → IsOutlineReader known (with_stage r next) t
moved known r s t next e d p u h = record {
  stage_is = e;
  forms_are = h.forms_are ∙ ap (λ (x : Declared). length x.forms) d;
  vars_are = h.vars_are ∙ ap (λ (x : Declared). length x.vars) d;
  main_is = subst (λ (x : Declared). IsMainRead known r.main x.mains) d h.main_is;
  plains_are = h.plains_are ∙ p;
  rules_are = h.rules_are ∙ u;
}

steps_at : (kind : FileKind) (known : Declared) (name : List ℕ) (r : Reader) (s : State) (at : Stage) (number : ℕ) (text : List ℕ) (t : State) → stage r.stage ≡ at → IsOutlineReader known r s
    → StepsAt at kind known name s number text t → StepsAt s.stage kind known name s number text t
steps_at kind known name r s at number text t e reader h = subst (λ x. StepsAt x kind known name s number text t) (sym e ∙ reader.stage_is) h

pub started : (kind : FileKind) (known : Declared) (name : List ℕ) (r : Reader) (s : State) (number : ℕ) (text : List ℕ) (next : StageOf) → r.stage ≡ stages.Start → IsRow kind text (head_row kind name) → next ≡ stages.Declarations
    → IsOutlineReader known r s → (t : State) × StepsAt s.stage kind known name s number text t × IsOutlineReader known (with_stage r next) t
started kind known name r s number text next is head e reader = (
  to s at_declarations,
  steps_at kind known name r s at_start number text (to s at_declarations) (ap stage is) reader (head, refl),
  moved known r s (to s at_declarations) next (ap stage e) refl refl refl reader,
)

pub premised : (kind : FileKind) (known : Declared) (name : List ℕ) (r : Reader) (s : State) (number : ℕ) (text : List ℕ) (b : BegunOf) (next : StageOf) → r.stage ≡ stages.Premises b
    → AddsPremise (begun b) number text (stage next) → IsOutlineReader known r s → (t : State) × StepsAt s.stage kind known name s number text t × IsOutlineReader known (with_stage r next) t
premised kind known name r s number text b next is (inl h) reader =
    let t : State = to s (at_conclusion (begun b)) in
    (t, steps_at kind known name r s (at_premises (begun b)) number text t (ap stage is) reader (inl (h.0, refl)), moved known r s t next h.1 refl refl refl reader)
premised kind known name r s number text b next is (inr h) reader =
    let t : State = to s (at_premises (with_premise (begun b) (record { number = number; text = text }))) in
    (t, steps_at kind known name r s (at_premises (begun b)) number text t (ap stage is) reader (inr (h.0, refl)), moved known r s t next h.1 refl refl refl reader)

pub conclusion_read : (kind : FileKind) (known : Declared) (name : List ℕ) (r : Reader) (s : State) (number : ℕ) (text : List ℕ) (b : BegunOf) (next : StageOf) → r.stage ≡ stages.Conclusion b
    → stage next ≡ at_end (concluded (begun b) (record { number = number; text = text })) → IsOutlineReader known r s
    → (t : State) × StepsAt s.stage kind known name s number text t × IsOutlineReader known (with_stage r next) t
conclusion_read kind known name r s number text b next is h reader =
    let t : State = to s (at_end (concluded (begun b) (record { number = number; text = text }))) in
    (t, steps_at kind known name r s (at_conclusion (begun b)) number text t (ap stage is) reader refl, moved known r s t next h refl refl refl reader)

-- the reader with one more plain pair
abbrev pub with_pair : Reader → StageOf → ReadLines → Reader
with_pair r at read = record { stage = at; forms = r.forms; vars = r.vars; main = r.main; read = read }

pub same_read : (Leads : State → Type 0) (known : Declared) (r : Reader) (next : StageOf) (read : ReadLines) → read ≡ r.read → (t : State) × Leads t × IsOutlineReader known (with_stage r next) t
    → (t : State) × Leads t × IsOutlineReader known (with_pair r next read) t
same_read Leads known r next read e h = (h.0, h.1, subst (λ (x : ReadLines). IsOutlineReader known (with_pair r next x) h.0) (sym e) h.2)

pub body_read : (kind : FileKind) (known : Declared) (name : List ℕ) (r : Reader) (s : State) (number : ℕ) (text : List ℕ) (b : BegunPlainOf) (p : PlainLines) (next : StageOf) (read : ReadLines)
    → r.stage ≡ stages.Body b → plain_data p ≡ paired (plain_begun b) (record { number = number; text = text }) → AddsPlain r.read p read → next ≡ stages.Plains → IsOutlineReader known r s
    → (t : State) × StepsAt s.stage kind known name s number text t × IsOutlineReader known (with_pair r next read) t
body_read kind known name r s number text b p next read is pair adds e reader =
    let t : State = with_plain s (paired (plain_begun b) (record { number = number; text = text })) in (
      t,
      steps_at kind known name r s (at_body (plain_begun b)) number text t (ap stage is) reader refl,
      record {
        stage_is = ap stage e;
        forms_are = reader.forms_are;
        vars_are = reader.vars_are;
        main_is = reader.main_is;
        plains_are = ap (map plain_data) adds.plains ∙ map-append plain_data r.read.plains.items (p ∷ [])
            ∙ ap (λ (x : List PlainData). x ++ plain_data p ∷ []) reader.plains_are ∙ ap (λ (x : PlainData). s.plains ++ x ∷ []) pair;
        rules_are = ap (map rule_data) adds.rules ∙ reader.rules_are;
      },
    )

-- ---- plain pairs that begin

pub plain_taken : (known : Declared) (r : Reader) (number : ℕ) (p : PlainLine) (next : StageOf) → IsPlainBegun (stage r.stage) number p (Some next)
    → IsRowTaken known r number (Plain p) (Ok (with_stage r next))
plain_taken known r number p next w = λ s reader. (
  subst (λ x. MayStandAt x s.declared.mains (Plain p)) reader.stage_is (w.0 s.declared.mains),
  tt,
  moved known r s (to s (at_body (begun_plain number p))) next w.1 refl refl refl reader,
)

pub plain_refused : (known : Declared) (r : Reader) (number : ℕ) (p : PlainLine) (x : OutlineError) → x ≡ Notation number Order
    → ((mains : List MainLine) → MayStandAt (stage r.stage) mains (Plain p) → ⊥) → IsRowTaken known r number (Plain p) (Err x)
plain_refused known r number p x is n = λ s reader.
    subst (IsRowRefused known s number (Plain p)) (sym is) (refl, λ stands. n s.declared.mains (subst (λ x. MayStandAt x s.declared.mains (Plain p)) (sym reader.stage_is) stands))

-- ---- bodies

pub body_taken : (known : Declared) (r : Reader) (number : ℕ) (body : List ℕ) (next : StageOf)
    → (rule : RuleData) × (stage r.stage ≡ at_end rule) × (rule.body ≡ None) × (stage next ≡ at_end (with_body rule (record { number = number; text = body })))
    → IsRowTaken known r number (To body) (Ok (with_stage r next))
body_taken known r number body next w = λ s reader.
    let l : Numbered = record { number = number; text = body } in
    let e : s.stage ≡ at_end w.0 = sym reader.stage_is ∙ w.1 in (
      subst (λ x. MayStandAt x s.declared.mains (To body)) (sym e) w.2,
      tt,
      subst (IsOutlineReader known (with_stage r next)) (sym (ap (λ x. bodied s x l) e)) (moved known r s (to s (at_end (with_body w.0 l))) next w.3 refl refl refl reader),
    )

pub body_refused : (known : Declared) (r : Reader) (number : ℕ) (body : List ℕ) (x : OutlineError) → x ≡ Notation number Order
    → ((mains : List MainLine) (given : List ℕ) → MayStandAt (stage r.stage) mains (To given) → ⊥) → IsRowTaken known r number (To body) (Err x)
body_refused known r number body x is n = λ s reader.
    subst (IsRowRefused known s number (To body)) (sym is) (refl, λ stands. n s.declared.mains body (subst (λ x. MayStandAt x s.declared.mains (To body)) (sym reader.stage_is) stands))
