-- What is declared before a line and after it.
use Rattle.std.proofs.Common.{◌≡◌, ℕ, Bool, true, false, List, [], ◌∷◌, sym, ap, subst, ◌∙◌, inl, inr, append_assoc, append-nil}
use Rattle.sx_lines.specs.Lines.{Lines, over, line}
use Rattle.sx_directives.specs.declared.file_kind.FileKind.{FileKind}
use Rattle.sx_directives.specs.declared.file_kind.FileKind.TheVariants as files
use Rattle.sx_directives.specs.Rows.{IsRow}
use Rattle.sx_directives.specs.declared.row.Row.{Row}
use Rattle.sx_directives.specs.declared.row.Row.TheVariants.{Sort, Prod, Var, Form, Main, Plain}
use Rattle.sx_directives.specs.declared.row.Row.TheVariants.{Rule, End, To}
use Rattle.sx_outline.specs.Declarations.{Declared, declared_form, nothing, declare}
use Rattle.sx_outline.specs.Known.{Declares, RowGoesOn}
use Rattle.sx_outline.specs.Stages.{PlainData, RuleData, Stage, at_start, at_declarations, at_body}
use Rattle.sx_outline.specs.Stages.{at_plains, at_rules, at_premises, at_conclusion, at_end, State}
use Rattle.sx_outline.specs.Stages.{Steps, StepsAt, MayStandAt, IsWhole, state_after_row, head_row}
use Rattle.sx_outline.specs.Reading.{IsFirstDeclared, IsDeclaredAhead}
use Rattle.sx_outline.proofs.SameRows.{same_row}
use Rattle.sx_outline.proofs.SameLaws.{same_goes}

front_same : (d all : Declared) → all ≡ d → IsFirstDeclared d all
front_same d all e = record {
  more = nothing;
  forms = ap (λ (x : Declared). x.forms) e ∙ sym (append-nil d.forms);
  vars = ap (λ (x : Declared). x.vars) e ∙ sym (append-nil d.vars);
}

front_before : (d : Declared) (row : Row) (all : Declared) → IsFirstDeclared (declare d row) all → IsFirstDeclared d all
front_before d (Sort s) all h = record { more = h.more; forms = h.forms; vars = h.vars }
front_before d (Prod p) all h = record { more = h.more; forms = h.forms; vars = h.vars }
front_before d (Var v) all h = record {
  more = record { sorts = []; productions = []; vars = v ∷ h.more.vars; forms = h.more.forms; mains = []; uses = [] };
  forms = h.forms;
  vars = h.vars ∙ append_assoc d.vars (v ∷ []) h.more.vars;
}
front_before d (Form f) all h = record {
  more = record { sorts = []; productions = []; vars = h.more.vars; forms = declared_form f ∷ h.more.forms; mains = []; uses = [] };
  forms = h.forms ∙ append_assoc d.forms (declared_form f ∷ []) h.more.forms;
  vars = h.vars;
}
front_before d (Main m) all h = record { more = h.more; forms = h.forms; vars = h.vars }
front_before d _ all h = h

front_goes : (d : Declared) (row : Row) (all : Declared) (Next : Bool → Declared → Type 0) → ((is_body : Bool) (next : Declared) → Next is_body next → IsFirstDeclared next all)
    → RowGoesOn d row all Next → IsFirstDeclared d all
front_goes d (Rule name) all Next f h = front_same d all h
front_goes d (Plain p) all Next f h = f true d h
front_goes d row all Next f h = front_before d row all (f false (declare d row) h)

front_of : (kind : FileKind) (is_body : Bool) (d : Declared) (lines : Lines) (all : Declared) → Declares kind is_body d lines all → IsFirstDeclared d all
front_of kind is_body d (over n) all h = front_same d all h
front_of kind true d (line n text after more) all h = front_of kind false d more all h
front_of kind false d (line n text after more) all (inl h) =
    front_goes d h.0 all (λ is_body next. Declares kind is_body next more all) (λ is_body next k. front_of kind is_body next more all k) h.2
front_of kind false d (line n text after more) all (inr h) = front_of kind false d more all h.1

pub ahead_front : (kind : FileKind) (at : Stage) (d : Declared) (lines : Lines) (all : Declared) → IsDeclaredAhead kind at d lines all → IsFirstDeclared d all
ahead_front kind at_start d lines all h = front_of kind false d lines all h
ahead_front kind at_declarations d lines all h = front_of kind false d lines all h
ahead_front kind (at_body b) d lines all h = front_of kind true d lines all h
ahead_front kind at_plains d lines all h = front_of kind false d lines all h
ahead_front kind at_rules d lines all h = front_same d all (sym h)
ahead_front kind (at_premises b) d lines all h = front_same d all (sym h)
ahead_front kind (at_conclusion b) d lines all h = front_same d all (sym h)
ahead_front kind (at_end r) d lines all h = front_same d all (sym h)

-- the row of the line is this one
goes_from : (kind : FileKind) (d : Declared) (row : Row) (n : ℕ) (text after : List ℕ) (more : Lines) (all : Declared) → IsRow kind text row
    → Declares kind false d (line n text after more) all → RowGoesOn d row all (λ is_body next. Declares kind is_body next more all)
goes_from kind d row n text after more all is (inl h) =
    same_goes d h.0 row all (λ is_body next. Declares kind is_body next more all) (same_row kind text h.0 row h.1 is) h.2
goes_from kind d row n text after more all is (inr h) = absurd (h.0 row is)

among_declarations : (kind : FileKind) (d : Declared) (plains : List PlainData) (rules : List RuleData) (n : ℕ) (row : Row) (more : Lines) (all : Declared)
    → MayStandAt at_declarations d.mains row → RowGoesOn d row all (λ is_body next. Declares kind is_body next more all)
    → let t : State = state_after_row (record { stage = at_declarations; declared = d; plains = plains; rules = rules }) n row in IsDeclaredAhead kind t.stage t.declared more all
among_declarations kind d plains rules n (Sort s) more all stands h = h
among_declarations kind d plains rules n (Prod p) more all stands h = h
among_declarations kind d plains rules n (Var v) more all stands h = h
among_declarations kind d plains rules n (Form f) more all stands h = h
among_declarations kind d plains rules n (Main m) more all stands h = h
among_declarations kind d plains rules n (Plain p) more all stands h = h
among_declarations kind d plains rules n (Rule name) more all stands h = sym h
among_declarations kind d plains rules n _ more all stands h = absurd stands

between_plains : (kind : FileKind) (d : Declared) (plains : List PlainData) (rules : List RuleData) (n : ℕ) (row : Row) (more : Lines) (all : Declared)
    → MayStandAt at_plains d.mains row → RowGoesOn d row all (λ is_body next. Declares kind is_body next more all)
    → let t : State = state_after_row (record { stage = at_plains; declared = d; plains = plains; rules = rules }) n row in IsDeclaredAhead kind t.stage t.declared more all
between_plains kind d plains rules n (Plain p) more all stands h = h
between_plains kind d plains rules n (Rule name) more all stands h = sym h
between_plains kind d plains rules n _ more all stands h = absurd stands

between_rules : (kind : FileKind) (d : Declared) (plains : List PlainData) (rules : List RuleData) (n : ℕ) (row : Row) (more : Lines) (all : Declared)
    → MayStandAt at_rules d.mains row → d ≡ all
    → let t : State = state_after_row (record { stage = at_rules; declared = d; plains = plains; rules = rules }) n row in IsDeclaredAhead kind t.stage t.declared more all
between_rules kind d plains rules n (Rule name) more all stands h = h
between_rules kind d plains rules n _ more all stands h = absurd stands

after_conclusion : (kind : FileKind) (d : Declared) (plains : List PlainData) (rules : List RuleData) (r : RuleData) (n : ℕ) (row : Row) (more : Lines) (all : Declared)
    → MayStandAt (at_end r) d.mains row → d ≡ all
    → let t : State = state_after_row (record { stage = at_end r; declared = d; plains = plains; rules = rules }) n row in IsDeclaredAhead kind t.stage t.declared more all
after_conclusion kind d plains rules r n End more all stands h = h
after_conclusion kind d plains rules r n (To body) more all stands h = h
after_conclusion kind d plains rules r n _ more all stands h = absurd stands

abbrev Ahead : FileKind → State → Lines → Declared → Type 0
Ahead kind t lines all = IsDeclaredAhead kind t.stage t.declared lines all

-- the first row of a file declares nothing
goes_head : (kind : FileKind) (name : List ℕ) (d : Declared) (all : Declared) (Next : Bool → Declared → Type 0) → RowGoesOn d (head_row kind name) all Next → Next false d
goes_head files.Language name d all Next h = h
goes_head files.Extension name d all Next h = h

ahead_at : (at : Stage) (kind : FileKind) (d : Declared) (plains : List PlainData) (rules : List RuleData) (name : List ℕ) (n : ℕ) (text after : List ℕ) (more : Lines) (all : Declared)
    (t : State) → StepsAt at kind all name (record { stage = at; declared = d; plains = plains; rules = rules }) n text t → IsDeclaredAhead kind at d (line n text after more) all
    → Ahead kind t more all
ahead_at at_start kind d plains rules name n text after more all t steps h =
    subst (λ (x : State). Ahead kind x more all) (sym steps.1)
    (goes_head kind name d all (λ is_body next. Declares kind is_body next more all) (goes_from kind d (head_row kind name) n text after more all steps.0 h))
ahead_at at_declarations kind d plains rules name n text after more all t (row, good, e) h =
    subst (λ (x : State). Ahead kind x more all) (sym e)
    (among_declarations kind d plains rules n row more all good.stands (goes_from kind d row n text after more all good.spelled h))
ahead_at (at_body b) kind d plains rules name n text after more all t steps h = subst (λ (x : State). Ahead kind x more all) (sym steps) h
ahead_at at_plains kind d plains rules name n text after more all t (row, good, e) h =
    subst (λ (x : State). Ahead kind x more all) (sym e)
    (between_plains kind d plains rules n row more all good.stands (goes_from kind d row n text after more all good.spelled h))
ahead_at at_rules kind d plains rules name n text after more all t (row, good, e) h =
    subst (λ (x : State). Ahead kind x more all) (sym e) (between_rules kind d plains rules n row more all good.stands h)
ahead_at (at_premises b) kind d plains rules name n text after more all t (inl steps) h = subst (λ (x : State). Ahead kind x more all) (sym steps.1) h
ahead_at (at_premises b) kind d plains rules name n text after more all t (inr steps) h = subst (λ (x : State). Ahead kind x more all) (sym steps.1) h
ahead_at (at_conclusion b) kind d plains rules name n text after more all t steps h = subst (λ (x : State). Ahead kind x more all) (sym steps) h
ahead_at (at_end r) kind d plains rules name n text after more all t (row, good, e) h =
    subst (λ (x : State). Ahead kind x more all) (sym e) (after_conclusion kind d plains rules r n row more all good.stands h)

pub ahead_next : (kind : FileKind) (name : List ℕ) (s : State) (n : ℕ) (text after : List ℕ) (more : Lines) (all : Declared) (t : State)
    → Steps kind all name s n text t → IsDeclaredAhead kind s.stage s.declared (line n text after more) all → IsDeclaredAhead kind t.stage t.declared more all
ahead_next kind name s n text after more all t steps h = ahead_at s.stage kind s.declared s.plains s.rules name n text after more all t steps h

pub whole_known : (kind : FileKind) (at : Stage) (d known : Declared) (n : ℕ) → IsDeclaredAhead kind at d (over n) known → IsWhole at → d ≡ known
whole_known kind at_start d known n h w = absurd w
whole_known kind at_declarations d known n h w = sym h
whole_known kind (at_body b) d known n h w = absurd w
whole_known kind at_plains d known n h w = sym h
whole_known kind at_rules d known n h w = h
whole_known kind (at_premises b) d known n h w = absurd w
whole_known kind (at_conclusion b) d known n h w = absurd w
whole_known kind (at_end r) d known n h w = absurd w
