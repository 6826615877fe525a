-- What holds of each state that the lines of a file reach.
use Rattle.std.proofs.Common.{◌≡◌, ℕ, zero, suc, ◌+◌, ◌≤◌, List, [], ◌∷◌, ◌++◌, length, map, IsTrue, Option, Some, None, refl, sym, ap, subst, ◌∙◌, inl, inr, append_assoc, arith}
use Rattle.std.specs.Prelude.{Contains, ◌⊎◌, codes}
use Rattle.std.specs.List.{AllByRecursion, repeat}
use Rattle.std.proofs.lemmas.List.{length-append, map-append}
use Rattle.std.proofs.lemmas.List.Elements.{Contains-append_left, Contains-append_right, Contains-push_cases}
use Rattle.std.proofs.lemmas.Bool.{false≢true}
use Rattle.sx_lines.specs.Lines.{Lines, line}
use Rattle.sx_directives.specs.declared.file_kind.FileKind.{FileKind}
use Rattle.sx_directives.specs.declared.file_kind.FileKind.TheVariants as files
use Rattle.sx_directives.specs.Parts as directives
use Rattle.sx_directives.specs.Spelling.{NotLexical}
use Rattle.sx_directives.specs.Rows.{IsRow, IsBodyText, is_word_of, row_word}
use Rattle.sx_grammar.specs.declared.sort_line.SortLine.{SortLine}
use Rattle.sx_directives.specs.declared.rows.VarLine.{VarLine}
use Rattle.sx_directives.specs.declared.row.Row.{Row}
use Rattle.sx_directives.specs.declared.row.Row.TheVariants.{Sort, Prod, Var, Form, Main, Plain}
use Rattle.sx_directives.specs.declared.row.Row.TheVariants.{Rule, End, To}
use Rattle.sx_outline.specs.Declarations.{Declared, DeclaredForm, declared_form, declare}
use Rattle.sx_outline.specs.Fitting.{ArePartNames, RowFits, IsKnownSort}
use Rattle.sx_lines.specs.Distinct.{AreTextsDistinct}
use Rattle.sx_outline.specs.Fitting.{SymbolFits, HasOneSubjectSymbol, stems, declared_form_names}
use Rattle.sx_outline.specs.Stages.{Numbered, PlainData, RuleData, Stage, at_start, at_declarations}
use Rattle.sx_outline.specs.Stages.{at_body, at_plains, at_rules, at_premises, at_conclusion}
use Rattle.sx_outline.specs.Stages.{at_end, State, Steps, StepsAt, IsGoodRow, MayStandAt, state_after_row}
use Rattle.sx_outline.specs.Stages.{paired}
use Rattle.sx_outline.specs.Sized.{HasShortLines}
use Rattle.sx_outline.specs.Reading.{IsDeclaredAhead}
use Rattle.sx_outline.proofs.AheadLaws.{ahead_next}
use Rattle.sx_outline.proofs.OutcomeLaws.{after_declared, bytes_in, bytes_line, AreFull, parts_few}
use Rattle.sx_outline.proofs.WeightLaws.{all_push, weight, row_weighs, AreGood, row_good}

-- ---- what each row keeps of what is declared

-- at a line where no row is due as much is declared as before, and else the row's more
steps_declared : (D : Declared → Type 0) (at : Stage) (kind : FileKind) (known : Declared) (name : List ℕ) (d : Declared) (plains : List PlainData) (rules : List RuleData) (n : ℕ) (text : List ℕ) (t : State)
    → ((row : Row) → IsGoodRow kind known (record { stage = at; declared = d; plains = plains; rules = rules }) text row → D (declare d row)) → D d
    → StepsAt at kind known name (record { stage = at; declared = d; plains = plains; rules = rules }) n text t → D t.declared
steps_declared D at_start kind known name d plains rules n text t f h steps = subst (λ (x : State). D x.declared) (sym steps.1) h
steps_declared D at_declarations kind known name d plains rules n text t f h (row, good, e) =
    let s : State = record { stage = at_declarations; declared = d; plains = plains; rules = rules } in
    subst (λ (x : State). D x.declared) (sym e) (subst D (sym (after_declared s n row)) (f row good))
steps_declared D (at_body b) kind known name d plains rules n text t f h steps = subst (λ (x : State). D x.declared) (sym steps) h
steps_declared D at_plains kind known name d plains rules n text t f h (row, good, e) =
    let s : State = record { stage = at_plains; declared = d; plains = plains; rules = rules } in
    subst (λ (x : State). D x.declared) (sym e) (subst D (sym (after_declared s n row)) (f row good))
steps_declared D at_rules kind known name d plains rules n text t f h (row, good, e) =
    let s : State = record { stage = at_rules; declared = d; plains = plains; rules = rules } in
    subst (λ (x : State). D x.declared) (sym e) (subst D (sym (after_declared s n row)) (f row good))
steps_declared D (at_premises b) kind known name d plains rules n text t f h (inl steps) = subst (λ (x : State). D x.declared) (sym steps.1) h
steps_declared D (at_premises b) kind known name d plains rules n text t f h (inr steps) = subst (λ (x : State). D x.declared) (sym steps.1) h
steps_declared D (at_conclusion b) kind known name d plains rules n text t f h steps = subst (λ (x : State). D x.declared) (sym steps) h
steps_declared D (at_end r) kind known name d plains rules n text t f h (row, good, e) =
    let s : State = record { stage = at_end r; declared = d; plains = plains; rules = rules } in
    subst (λ (x : State). D x.declared) (sym e) (subst D (sym (after_declared s n row)) (f row good))

-- ---- rows that fit

nothing_in : (text : List ℕ) → Contains [] text → ⊥
nothing_in text (k, lt, e) = omega (arith, lt)

later : (first text : List ℕ) (texts : List (List ℕ)) → Contains texts text → Contains (first ∷ texts) text
later first text texts (k, lt, e) = (suc k, omega (arith, lt), e)

first_again : (first text : List ℕ) (texts : List (List ℕ)) → (Contains texts first → ⊥) → (Contains (first ∷ texts) text → ⊥) → (Contains texts first ⊎ (text ≡ first)) → ⊥
first_again first text texts h n (inl c) = h c
first_again first text texts h n (inr e) = n (0, omega arith, sym e)

pub distinct_push : (texts : List (List ℕ)) (text : List ℕ) → AreTextsDistinct texts → (Contains texts text → ⊥) → AreTextsDistinct (texts ++ text ∷ [])
distinct_push [] text h n = (nothing_in text, tt)
distinct_push (first ∷ texts) text h n =
    (λ c. first_again first text texts h.0 n (Contains-push_cases texts text first c), distinct_push texts text h.1 (λ c. n (later first text texts c)))

abbrev pub stems_of : List VarLine → List (List ℕ)
stems_of vars = map (λ v. v.stem) vars

-- what is declared beyond what was before the first line fits what is known
pub record AreFitting (known base d : Declared) : Type 0 where
  pub own_sorts : List SortLine
  pub sorts_are : d.sorts ≡ base.sorts ++ own_sorts
  pub sorts : AllByRecursion (λ s. NotLexical s.name) own_sorts
  pub own_vars : List VarLine
  pub vars_are : d.vars ≡ base.vars ++ own_vars
  pub stems_once : AreTextsDistinct (stems_of own_vars)
  pub stems_apart : AllByRecursion (λ v. Contains (stems base) v.stem → ⊥) own_vars
  pub vars : AllByRecursion (λ v. IsKnownSort known v.sort) own_vars
  pub forms_once : AreTextsDistinct (declared_form_names d)
  pub places : AllByRecursion (λ f. AllByRecursion (SymbolFits known) f.symbols) d.forms
  pub subjects : AllByRecursion (λ f. HasOneSubjectSymbol f.symbols) d.forms

stems_both : (known base d : Declared) (h : AreFitting known base d) → stems d ≡ stems base ++ stems_of h.own_vars
stems_both known base d h = ap stems_of h.vars_are ∙ map-append (λ (v : VarLine). v.stem) base.vars h.own_vars

fitting_row : (kind : FileKind) (known base d : Declared) (text : List ℕ) (row : Row) → IsRow kind text row → RowFits known d row → AreFitting known base d → AreFitting known base (declare d row)
fitting_row kind known base d text (Sort s) is fits h = record {
  own_sorts = h.own_sorts ++ s ∷ [];
  sorts_are = ap (λ (x : List SortLine). x ++ s ∷ []) h.sorts_are ∙ append_assoc base.sorts h.own_sorts (s ∷ []);
  sorts = all_push (λ (s : SortLine). NotLexical s.name) h.own_sorts s h.sorts is.follows.lexical;
  own_vars = h.own_vars;
  vars_are = h.vars_are;
  stems_once = h.stems_once;
  stems_apart = h.stems_apart;
  vars = h.vars;
  forms_once = h.forms_once;
  places = h.places;
  subjects = h.subjects;
}
fitting_row kind known base d text (Prod p) is fits h = record {
  own_sorts = h.own_sorts;
  sorts_are = h.sorts_are;
  sorts = h.sorts;
  own_vars = h.own_vars;
  vars_are = h.vars_are;
  stems_once = h.stems_once;
  stems_apart = h.stems_apart;
  vars = h.vars;
  forms_once = h.forms_once;
  places = h.places;
  subjects = h.subjects;
}
fitting_row kind known base d text (Var v) is fits h =
    let both : stems d ≡ stems base ++ stems_of h.own_vars = stems_both known base d h in
    record {
      own_sorts = h.own_sorts;
      sorts_are = h.sorts_are;
      sorts = h.sorts;
      own_vars = h.own_vars ++ v ∷ [];
      vars_are = ap (λ (x : List VarLine). x ++ v ∷ []) h.vars_are ∙ append_assoc base.vars h.own_vars (v ∷ []);
      stems_once = subst AreTextsDistinct (sym (map-append (λ (v : VarLine). v.stem) h.own_vars (v ∷ [])))
          (distinct_push (stems_of h.own_vars) v.stem h.stems_once
          (λ there. fits.0 (subst (λ (x : List (List ℕ)). Contains x v.stem) (sym both) (Contains-append_right (stems base) (stems_of h.own_vars) v.stem there))));
      stems_apart = all_push (λ (v : VarLine). Contains (stems base) v.stem → ⊥) h.own_vars v h.stems_apart
          (λ there. fits.0 (subst (λ (x : List (List ℕ)). Contains x v.stem) (sym both) (Contains-append_left (stems base) (stems_of h.own_vars) v.stem there)));
      vars = all_push (λ (v : VarLine). IsKnownSort known v.sort) h.own_vars v h.vars fits.1;
      forms_once = h.forms_once;
      places = h.places;
      subjects = h.subjects;
    }
fitting_row kind known base d text (Form f) is fits h = record {
  own_sorts = h.own_sorts;
  sorts_are = h.sorts_are;
  sorts = h.sorts;
  own_vars = h.own_vars;
  vars_are = h.vars_are;
  stems_once = h.stems_once;
  stems_apart = h.stems_apart;
  vars = h.vars;
  forms_once = subst AreTextsDistinct (sym (map-append (λ (f : DeclaredForm). f.name) d.forms (declared_form f ∷ []))) (distinct_push (declared_form_names d) f.name h.forms_once fits.0);
  places = all_push (λ (f : DeclaredForm). AllByRecursion (SymbolFits known) f.symbols) d.forms (declared_form f) h.places fits.1;
  subjects = all_push (λ (f : DeclaredForm). HasOneSubjectSymbol f.symbols) d.forms (declared_form f) h.subjects fits.2;
}
fitting_row kind known base d text (Main m) is fits h = record {
  own_sorts = h.own_sorts;
  sorts_are = h.sorts_are;
  sorts = h.sorts;
  own_vars = h.own_vars;
  vars_are = h.vars_are;
  stems_once = h.stems_once;
  stems_apart = h.stems_apart;
  vars = h.vars;
  forms_once = h.forms_once;
  places = h.places;
  subjects = h.subjects;
}
fitting_row kind known base d text _ is fits h = h

-- ---- the lines of plain pairs and of rules

abbrev pub AreShort : ℕ → List Numbered → Type 0
AreShort size texts = AllByRecursion (λ l. length l.text ≤ size) texts

-- a rule of a language file has no body
abbrev pub MayHaveBody : FileKind → Option Numbered → Type 0
MayHaveBody files.Language body = body ≡ None
MayHaveBody files.Extension body = Unit {0}

no_body_yet : (kind : FileKind) → MayHaveBody kind None
no_body_yet files.Language = refl
no_body_yet files.Extension = tt

-- a body is read in extension files alone
may_have : (kind : FileKind) (body : List ℕ) (l : Numbered) → IsTrue (is_word_of kind (row_word (To body))) → MayHaveBody kind (Some l)
may_have files.Language body l word = absurd (false≢true word)
may_have files.Extension body l word = tt

-- the lines are short, and there is a body where one may be
abbrev pub IsShortRule : FileKind → ℕ → RuleData → Type 0
IsShortRule kind size r = HasShortLines size r × MayHaveBody kind r.body

-- the body is short, and the names are those of the parts
abbrev pub IsGoodPlain : Declared → ℕ → PlainData → Type 0
IsGoodPlain known size p = (length p.body.text ≤ size) × ArePartNames known p.label p.names

-- where so many bytes are left
abbrev pub IsShortStage : FileKind → Declared → ℕ → ℕ → Stage → Type 0
IsShortStage kind known size left (at_body b) = ArePartNames known b.label b.names
IsShortStage kind known size left (at_premises b) = (length b.premises + left ≤ size) × AreShort size b.premises
IsShortStage kind known size left (at_conclusion b) = (length b.premises + left ≤ size) × AreShort size b.premises
IsShortStage kind known size left (at_end r) = IsShortRule kind size r
IsShortStage kind known size left _ = Unit {0}

-- What holds of a state where these lines are left of a file of so many bytes, whose first state has this declared. What is declared weighs
-- no more than `top` with the bytes that are left.
pub record IsKept (kind : FileKind) (size top : ℕ) (base known : Declared) (s : State) (left : Lines) : Type 0 where
  pub full : AreFull left
  pub within : bytes_in left ≤ size
  pub weighs : weight s.declared + bytes_in left ≤ top
  pub good : AreGood s.declared
  pub fitting : AreFitting known base s.declared
  pub stage : IsShortStage kind known size (bytes_in left) s.stage
  pub plains : AllByRecursion (IsGoodPlain known size) s.plains
  pub rules : AllByRecursion (IsShortRule kind size) s.rules
  pub ahead : IsDeclaredAhead kind s.stage s.declared left known

-- what is kept of what is declared
pub record IsKeptRow (top : ℕ) (base known d : Declared) (left : ℕ) : Type 0 where
  pub weighs : weight d + left ≤ top
  pub good : AreGood d
  pub fitting : AreFitting known base d

kept_row : (kind : FileKind) (top : ℕ) (base known d : Declared) (text : List ℕ) (left all : ℕ) (row : Row) → IsRow kind text row → RowFits known d row → all ≡ length text + left
    → weight d + all ≤ top → AreGood d → AreFitting known base d → IsKeptRow top base known (declare d row) left
kept_row kind top base known d text left all row is fits e weighs good fitting =
    let w = row_weighs kind d text row is in
    let few : length (directives.parts_of text) ≤ length text = parts_few text in
    record { weighs = omega arith; good = row_good kind d text row is good; fitting = fitting_row kind known base d text row is fits fitting }

-- the stage, the plain pairs and the rules after a line
abbrev pub HasShort : FileKind → Declared → ℕ → ℕ → State → Type 0
HasShort kind known size left t =
    IsShortStage kind known size left t.stage × AllByRecursion (IsGoodPlain known size) t.plains × AllByRecursion (IsShortRule kind size) t.rules

length_repeat : (n : ℕ) → length (repeat n (codes " ")) ≡ n
length_repeat zero = refl
length_repeat (suc n) = ap suc (length_repeat n)

-- the body of a `to` line is as long as the line
body_long : (text body : List ℕ) → IsBodyText text body → length body ≡ length text
body_long text body ((at, rest, cut, is), utf8) =
    let a : length body ≡ length (repeat at (codes " ")) + length rest = ap length is ∙ length-append (repeat at (codes " ")) rest in
    let r : length (repeat at (codes " ")) ≡ at = length_repeat at in
    let t : length text ≡ length cut.blanks + length (codes "to" ++ rest) = ap length cut.text_is ∙ length-append cut.blanks (codes "to" ++ rest) in
    let u : at ≡ length cut.blanks + 2 = cut.at_is in
    omega arith

short_row : (kind : FileKind) (known : Declared) (size left : ℕ) (at : Stage) (d : Declared) (plains : List PlainData) (rules : List RuleData) (n : ℕ) (text : List ℕ) (row : Row) → IsRow kind text row
    → RowFits known d row → MayStandAt at d.mains row → left ≤ size → length text ≤ size → IsShortStage kind known size left at → AllByRecursion (IsGoodPlain known size) plains
    → AllByRecursion (IsShortRule kind size) rules → HasShort kind known size left (state_after_row (record { stage = at; declared = d; plains = plains; rules = rules }) n row)
short_row kind known size left at_declarations d plains rules n text (Sort x) is fits stands le long short p h = (tt, p, h)
short_row kind known size left at_declarations d plains rules n text (Prod x) is fits stands le long short p h = (tt, p, h)
short_row kind known size left at_declarations d plains rules n text (Var x) is fits stands le long short p h = (tt, p, h)
short_row kind known size left at_declarations d plains rules n text (Form x) is fits stands le long short p h = (tt, p, h)
short_row kind known size left at_declarations d plains rules n text (Main x) is fits stands le long short p h = (tt, p, h)
short_row kind known size left at_declarations d plains rules n text (Plain x) is fits stands le long short p h = (fits, p, h)
short_row kind known size left at_declarations d plains rules n text (Rule name) is fits stands le long short p h = ((omega arith, tt), p, h)
short_row kind known size left at_plains d plains rules n text (Plain x) is fits stands le long short p h = (fits, p, h)
short_row kind known size left at_plains d plains rules n text (Rule name) is fits stands le long short p h = ((omega arith, tt), p, h)
short_row kind known size left at_rules d plains rules n text (Rule name) is fits stands le long short p h = ((omega arith, tt), p, h)
short_row kind known size left (at_end r) d plains rules n text End is fits stands le long short p h = (tt, p, all_push (IsShortRule kind size) rules r h short)
short_row kind known size left (at_end r) d plains rules n text (To body) is fits stands le long short p h =
    let same : length body ≡ length text = body_long text body is.follows in
    (((short.0.0, short.0.1, short.0.2, omega arith), may_have kind body (record { number = n; text = body }) is.word), p, h)
short_row kind known size left _ d plains rules n text row is fits stands le long short p h = absurd stands

row_left : (kind : FileKind) (known : Declared) (size left all : ℕ) (text : List ℕ) (at : Stage) → all ≡ length text + left → IsShortStage kind known size all at → IsShortStage kind known size left at
row_left kind known size left all text at_start e h = tt
row_left kind known size left all text at_declarations e h = tt
row_left kind known size left all text (at_body b) e h = h
row_left kind known size left all text at_plains e h = tt
row_left kind known size left all text at_rules e h = tt
row_left kind known size left all text (at_premises b) e h = let k : length b.premises + all ≤ size = h.0 in (omega arith, h.1)
row_left kind known size left all text (at_conclusion b) e h = let k : length b.premises + all ≤ size = h.0 in (omega arith, h.1)
row_left kind known size left all text (at_end r) e h = h

pushed : (xs : List Numbered) (x : Numbered) → length (xs ++ x ∷ []) ≡ length xs + 1
pushed xs x = length-append xs (x ∷ [])

short_steps : (kind : FileKind) (size left all : ℕ) (at : Stage) (known : Declared) (name : List ℕ) (d : Declared) (plains : List PlainData) (rules : List RuleData) (n : ℕ) (text : List ℕ) (t : State)
    → 1 ≤ length text → all ≡ length text + left → all ≤ size → IsShortStage kind known size all at → AllByRecursion (IsGoodPlain known size) plains → AllByRecursion (IsShortRule kind size) rules
    → StepsAt at kind known name (record { stage = at; declared = d; plains = plains; rules = rules }) n text t → HasShort kind known size left t
short_steps kind size left all at_start known name d plains rules n text t one e le short p h steps = subst (HasShort kind known size left) (sym steps.1) (tt, p, h)
short_steps kind size left all at_declarations known name d plains rules n text t one e le short p h (row, good, is) =
    subst (HasShort kind known size left) (sym is) (short_row kind known size left at_declarations d plains rules n text row good.spelled good.fits good.stands (omega arith) (omega arith) tt p h)
short_steps kind size left all (at_body b) known name d plains rules n text t one e le short p h steps =
    subst (HasShort kind known size left) (sym steps)
    (tt, all_push (IsGoodPlain known size) plains (paired b (record { number = n; text = text })) p (omega arith, short), h)
short_steps kind size left all at_plains known name d plains rules n text t one e le short p h (row, good, is) =
    subst (HasShort kind known size left) (sym is) (short_row kind known size left at_plains d plains rules n text row good.spelled good.fits good.stands (omega arith) (omega arith) tt p h)
short_steps kind size left all at_rules known name d plains rules n text t one e le short p h (row, good, is) =
    subst (HasShort kind known size left) (sym is) (short_row kind known size left at_rules d plains rules n text row good.spelled good.fits good.stands (omega arith) (omega arith) tt p h)
short_steps kind size left all (at_premises b) known name d plains rules n text t one e le short p h (inl steps) =
    subst (HasShort kind known size left) (sym steps.1) (row_left kind known size left all text (at_conclusion b) e short, p, h)
short_steps kind size left all (at_premises b) known name d plains rules n text t one e le short p h (inr steps) =
    let k : length b.premises + all ≤ size = short.0 in
    let m = pushed b.premises (record { number = n; text = text }) in
    subst (HasShort kind known size left) (sym steps.1)
    ((omega arith, all_push (λ (l : Numbered). length l.text ≤ size) b.premises (record { number = n; text = text }) short.1 (omega arith)), p, h)
short_steps kind size left all (at_conclusion b) known name d plains rules n text t one e le short p h steps =
    let k : length b.premises + all ≤ size = short.0 in
    subst (HasShort kind known size left) (sym steps) (((omega arith, short.1, omega arith, tt), no_body_yet kind), p, h)
short_steps kind size left all (at_end r) known name d plains rules n text t one e le short p h (row, good, is) =
    subst (HasShort kind known size left) (sym is) (short_row kind known size left (at_end r) d plains rules n text row good.spelled good.fits good.stands (omega arith) (omega arith) short p h)

pub kept_on : (kind : FileKind) (size top : ℕ) (base known : Declared) (name : List ℕ) (s : State) (n : ℕ) (text after : List ℕ) (more : Lines) (t : State) → Steps kind known name s n text t
    → IsKept kind size top base known s (line n text after more) → IsKept kind size top base known t more
kept_on kind size top base known name s n text after more t steps h =
    let e : bytes_in (line n text after more) ≡ length text + bytes_in more = bytes_line n text after more in
    let w : weight s.declared + bytes_in (line n text after more) ≤ top = h.weighs in
    let i : bytes_in (line n text after more) ≤ size = h.within in
    let row : IsKeptRow top base known t.declared (bytes_in more) =
    steps_declared (λ d. IsKeptRow top base known d (bytes_in more)) s.stage kind known name s.declared s.plains s.rules n text t
    (λ row good. kept_row kind top base known s.declared text (bytes_in more) (bytes_in (line n text after more)) row good.spelled good.fits e h.weighs h.good h.fitting)
    (record { weighs = omega arith; good = h.good; fitting = h.fitting }) steps in
    let short : HasShort kind known size (bytes_in more) t =
    short_steps kind size (bytes_in more) (bytes_in (line n text after more)) s.stage known name s.declared s.plains s.rules n text t h.full.0 e i h.stage h.plains h.rules steps in
    record {
      full = h.full.1;
      within = omega arith;
      weighs = row.weighs;
      good = row.good;
      fitting = row.fitting;
      stage = short.0;
      plains = short.1;
      rules = short.2;
      ahead = ahead_next kind name s n text after more known t steps h.ahead;
    }
