-- Reading all lines.
use Rattle.std.proofs.Common.{◌≡◌, ℕ, Bool, true, false, ◌+◌, ◌≤◌, ◌<◌, ◌^◌, List, [], length, map, Result, Ok, Err, refl, sym, ap, subst, ◌∙◌, inl, inr, arith}
use Rattle.std.specs.Str.{IsUtf8}
use Rattle.sx_lines.specs.Lines.{Lines, over, line, lines_from}
use Rattle.sx_lines.specs.declared.kind.Kind.{Kind}
use Rattle.sx_directives.specs.declared.file_kind.FileKind.{FileKind}
use Rattle.sx_directives.specs.declared.file_kind.FileKind.TheVariants as files
use Rattle.sx_outline.specs.declared.outline.Outline.{Outline}
use Rattle.sx_outline.specs.declared.outline_error.OutlineError.{OutlineError}
use Rattle.sx_outline.specs.declared.outline_error.OutlineError.TheVariants.{Memory, NotUtf8}
use Rattle.sx_outline.specs.declared.outline_error.OutlineError.TheVariants.{Notation}
use Rattle.sx_outline.specs.declared.reader.Reader.{Reader}
use Rattle.sx_directives.specs.declared.row.Row.{Row}
use Rattle.sx_directives.specs.declared.row.Row.TheVariants.{Sort, Prod, Var, Form, Main, Plain}
use Rattle.sx_directives.specs.declared.row.Row.TheVariants.{Rule}
use Rattle.sx_outline.specs.Declarations.{Declared, nothing, declare}
use Rattle.sx_outline.specs.Known.{Declares, RowGoesOn, kept_lines}
use Rattle.sx_outline.specs.Stages.{State, start, rule_data, plain_data, IsWhole}
use Rattle.sx_outline.specs.Outcomes.{IsReadingOutcome}
use Rattle.sx_outline.specs.Outlined.{OutlineData, outline, IsEnd, IsOutlined}
use Rattle.sx_outline.specs.Reading.{IsOutlineReader, IsMainRead, IsNewReader, IsDeclaredAhead, CanCountOne}
use Rattle.sx_outline.specs.Reading.{HasCountRoom, GrowsByOne, IsLineRead, IsLineRefused}
use Rattle.sx_outline.specs.Reading.{ReadingEndsAt, IsBadLine, AreLinesRead, IsEndRead}
use Rattle.sx_outline.specs.Reading.{IsOutlineRead}
use Rattle.sx_outline.proofs.AheadLaws.{ahead_front, ahead_next, whole_known}
use Rattle.sx_outline.proofs.OutcomeSteps.{outcome_to, reached}

-- what comes of reading lines from a state on
abbrev pub IsReadFrom : FileKind → Declared → List ℕ → State → Lines → Result (Reader × ℕ) OutlineError → Type 0
IsReadFrom kind known name s lines result = IsReadingOutcome kind known name s lines (ReadingEndsAt known result) (IsBadLine result)

-- a state has been reached from the first, and what comes of it comes of the first
pub record HasCome (kind : FileKind) (known : Declared) (name : List ℕ) (s : State) (whole : Lines) (reader : Reader) (lines : Lines) : Type 0 where
  pub state : State
  pub stands : IsOutlineReader known reader state
  pub ahead : IsDeclaredAhead kind state.stage state.declared lines known
  pub leads : (result : Result (Reader × ℕ) OutlineError) → IsReadFrom kind known name state lines result → IsReadFrom kind known name s whole result

-- The reader stands for a state that has been reached from that of the first reader, and these bytes are left.
pub record IsReading (kind : FileKind) (known : Declared) (name : List ℕ) (from : Reader) (whole : Lines) (reader : Reader) (lines : Lines) (rest : List ℕ) : Type 0 where
  pub come : (s : State) → IsOutlineReader known from s → IsDeclaredAhead kind s.stage s.declared whole known → HasCome kind known name s whole reader lines
  pub room : HasCountRoom reader (length rest)
  pub utf8 : IsUtf8 rest

pub begun_reading : (kind : FileKind) (known : Declared) (name : List ℕ) (from : Reader) (whole : Lines) (rest : List ℕ) → HasCountRoom from (length rest) → IsUtf8 rest
    → IsReading kind known name from whole from whole rest
begun_reading kind known name from whole rest room utf8 = record {
  come = λ s stands ahead. record { state = s; stands = stands; ahead = ahead; leads = λ result h. h };
  room = room;
  utf8 = utf8;
}

pub small_reader : (reader : Reader) (bytes : ℕ) → HasCountRoom reader bytes → CanCountOne reader
small_reader reader bytes h =
    let f : reader.forms + bytes + 1 < 2 ^ 64 = h.forms in
    let v : reader.vars + bytes + 1 < 2 ^ 64 = h.vars in
    record { forms = omega arith; vars = omega arith }

pub reading_on : (kind : FileKind) (known : Declared) (name : List ℕ) (from : Reader) (whole : Lines) (reader next : Reader) (lines : Lines) (rest : List ℕ) (n : ℕ) (text after : List ℕ) (more : Lines)
    → lines ≡ line n text after more → length after < length rest → IsUtf8 after → IsLineRead kind known name reader n text (Ok next) → GrowsByOne reader next
    → IsReading kind known name from whole reader lines rest → IsReading kind known name from whole next more after
reading_on kind known name from whole reader next lines rest n text after more e shorter utf8 read grows h =
    let f : reader.forms + length rest + 1 < 2 ^ 64 = h.room.forms in
    let v : reader.vars + length rest + 1 < 2 ^ 64 = h.room.vars in
    let gf : next.forms ≤ reader.forms + 1 = grows.forms in
    let gv : next.vars ≤ reader.vars + 1 = grows.vars in
    record {
      come = λ s stands at_first. come_on s (h.come s stands at_first);
      room = record { forms = omega arith; vars = omega arith };
      utf8 = utf8;
    }
  where
    come_on : (s : State) → HasCome kind known name s whole reader lines → HasCome kind known name s whole next more
    come_on s c =
        let ahead : IsDeclaredAhead kind c.state.stage c.state.declared (line n text after more) known = subst (λ x. IsDeclaredAhead kind c.state.stage c.state.declared x known) e c.ahead in
        let step = read c.state c.stands (ahead_front kind c.state.stage c.state.declared (line n text after more) known ahead) in
        record {
          state = step.0;
          stands = step.2;
          ahead = ahead_next kind name c.state n text after more known step.0 step.1 ahead;
          leads = λ result k. c.leads result (subst (λ x. IsReadFrom kind known name c.state x result) (sym e) (inl (step.0, step.1, k)));
        }

refused_line : (kind : FileKind) (known : Declared) (name : List ℕ) (s t : State) (n : ℕ) (text after : List ℕ) (more whole : Lines) (e : OutlineError)
    → ((result : Result (Reader × ℕ) OutlineError) → IsReadFrom kind known name t (line n text after more) result → IsReadFrom kind known name s whole result)
    → IsLineRefused kind known name t n text e → AreLinesRead kind known name s whole (Err e)
refused_line kind known name s t n text after more whole Memory leads h = tt
refused_line kind known name s t n text after more whole (NotUtf8 place) leads h = absurd h
refused_line kind known name s t n text after more whole (Notation l bad) leads h =
    leads (Err (Notation l bad)) (inr (bad, h.1, ap (λ x. Err (Notation x bad)) h.0))

pub reading_refused : (kind : FileKind) (known : Declared) (name : List ℕ) (from : Reader) (whole : Lines) (reader : Reader) (lines : Lines) (rest : List ℕ) (n : ℕ) (text after : List ℕ) (more : Lines)
    (e : OutlineError) → lines ≡ line n text after more → IsLineRead kind known name reader n text (Err e) → IsReading kind known name from whole reader lines rest
    → (s : State) → IsOutlineReader known from s → IsDeclaredAhead kind s.stage s.declared whole known → AreLinesRead kind known name s whole (Err e)
reading_refused kind known name from whole reader lines rest n text after more e is read h = λ s stands at_first.
    let c = h.come s stands at_first in
    let ahead : IsDeclaredAhead kind c.state.stage c.state.declared (line n text after more) known = subst (λ x. IsDeclaredAhead kind c.state.stage c.state.declared x known) is c.ahead in
    refused_line kind known name s c.state n text after more whole e
    (λ result k. c.leads result (subst (λ x. IsReadFrom kind known name c.state x result) (sym is) k))
    (read c.state c.stands (ahead_front kind c.state.stage c.state.declared (line n text after more) known ahead))

pub reading_ended : (kind : FileKind) (known : Declared) (name : List ℕ) (from : Reader) (whole : Lines) (reader : Reader) (lines : Lines) (rest : List ℕ) (n : ℕ) → lines ≡ over n
    → IsReading kind known name from whole reader lines rest
    → (s : State) → IsOutlineReader known from s → IsDeclaredAhead kind s.stage s.declared whole known → AreLinesRead kind known name s whole (Ok (reader, n))
reading_ended kind known name from whole reader lines rest n is h = λ s stands at_first.
    let c = h.come s stands at_first in
    let whole_is : IsWhole c.state.stage → c.state.declared ≡ known =
    whole_known kind c.state.stage c.state.declared known n (subst (λ x. IsDeclaredAhead kind c.state.stage c.state.declared x known) is c.ahead) in
    c.leads (Ok (reader, n)) (subst (λ x. IsReadFrom kind known name c.state x (Ok (reader, n))) (sym is) (record { stands = c.stands; whole = whole_is; ends = refl }))

-- ---- language files

pub new_reader : (known : Declared) (reader : Reader) → IsNewReader reader → IsOutlineReader known reader start
new_reader known reader h = record {
  stage_is = h.stage;
  forms_are = h.forms;
  vars_are = h.vars;
  main_is = subst (λ x. IsMainRead known x []) (sym h.main) tt;
  plains_are = ap (map plain_data) h.plains;
  rules_are = ap (map rule_data) h.rules;
}

pub no_bad : (x : Reader × ℕ) (bad : Kind) (number : ℕ) (r : Result (Reader × ℕ) OutlineError) → r ≡ Ok x → r ≡ Err (Notation number bad) → ⊥
no_bad x bad number r e f = cc

-- what comes of the end of the lines
pub language_ends : (known : Declared) (name : List ℕ) (lines : Lines) (reader : Reader) (n : ℕ) (result : Result Outline OutlineError)
    → AreLinesRead files.Language known name start lines (Ok (reader, n))
    → ((s : State) → IsOutlineReader known reader s → (IsWhole s.stage → s.declared ≡ known) → IsEndRead s n result) → IsOutlineRead known name lines result
language_ends known name lines reader n (Ok o) h f =
    outcome_to files.Language known name (ReadingEndsAt known (Ok (reader, n))) (λ s end. IsEnd s end (Ok (outline o))) (IsBadLine (Ok (reader, n))) (λ number bad. ⊥)
    (λ s end k. subst (λ x. IsEnd s x (Ok (outline o))) (sym k.ends) (f s k.stands k.whole)) (λ number bad k. no_bad (reader, n) bad number (Ok (reader, n)) refl k) start lines h
language_ends known name lines reader n (Err Memory) h f = tt
language_ends known name lines reader n (Err (NotUtf8 place)) h f =
    let last = reached files.Language known name (ReadingEndsAt known (Ok (reader, n))) (IsBadLine (Ok (reader, n))) (λ number bad k. no_bad (reader, n) bad number (Ok (reader, n)) refl k) start lines h in
    absurd (f last.state last.holds.stands last.holds.whole)
language_ends known name lines reader n (Err (Notation l kind)) h f =
    outcome_to files.Language known name (ReadingEndsAt known (Ok (reader, n))) (λ s end. IsEnd s end (Err (Notation l kind))) (IsBadLine (Ok (reader, n)))
    (λ number bad. (number ≡ l) × (bad ≡ kind)) (λ s end k. subst (λ x. IsEnd s x (Err (Notation l kind))) (sym k.ends) (f s k.stands k.whole))
    (λ number bad k. absurd (no_bad (reader, n) bad number (Ok (reader, n)) refl k)) start lines h

abbrev number_in : Result (Reader × ℕ) OutlineError → ℕ
number_in (Err (Notation number bad)) = number
number_in _ = 0

abbrev kind_in : Kind → Result (Reader × ℕ) OutlineError → Kind
kind_in given (Err (Notation number bad)) = bad
kind_in given _ = given

pub same_error : (l number : ℕ) (kind bad : Kind) (r : Result (Reader × ℕ) OutlineError) → r ≡ Err (Notation l kind) → r ≡ Err (Notation number bad) → (number ≡ l) × (bad ≡ kind)
same_error l number kind bad r e f = (ap number_in (sym f ∙ e), ap (kind_in kind) (sym f ∙ e))

-- what comes of a refused line
pub language_refused : (known : Declared) (name : List ℕ) (lines : Lines) (e : OutlineError) → AreLinesRead files.Language known name start lines (Err e) → IsOutlineRead known name lines (Err e)
language_refused known name lines Memory h = tt
language_refused known name lines (NotUtf8 place) h = absurd h
language_refused known name lines (Notation l kind) h =
    outcome_to files.Language known name (ReadingEndsAt known (Err (Notation l kind))) (λ s end. IsEnd s end (Err (Notation l kind))) (IsBadLine (Err (Notation l kind)))
    (λ number bad. (number ≡ l) × (bad ≡ kind)) (λ s end k. absurd k) (λ number bad k. same_error l number kind bad (Err (Notation l kind)) refl k) start lines h

abbrev bad_outline : ℕ → Kind → Result OutlineData OutlineError
bad_outline number bad = Err (Notation number bad)

bad_same : (l number : ℕ) (kind bad : Kind) → number ≡ l → bad ≡ kind → bad_outline l kind ≡ bad_outline number bad
bad_same l number kind bad e f = λ i. Err (Notation (sym e i) (sym f i))

pub answered : (known : Declared) (name bytes : List ℕ) (result : Result Outline OutlineError) → IsUtf8 bytes → Declares files.Language false nothing (kept_lines (lines_from 1 bytes)) known
    → IsOutlineRead known name (kept_lines (lines_from 1 bytes)) result → IsOutlined name bytes result
answered known name bytes (Ok o) utf8 declares h = record {
  utf8 = utf8;
  known = known;
  declares = declares;
  outcome = outcome_to files.Language known name (λ s end. IsEnd s end (Ok (outline o))) (λ s end. IsEnd s end (Ok (outline o))) (λ number bad. ⊥) (λ number bad. Ok (outline o) ≡ Err (Notation number bad))
      (λ s end k. k) (λ number bad k. absurd k) start (kept_lines (lines_from 1 bytes)) h;
}
answered known name bytes (Err Memory) utf8 declares h = tt
answered known name bytes (Err (NotUtf8 place)) utf8 declares h = absurd h
answered known name bytes (Err (Notation l kind)) utf8 declares h = record {
  utf8 = utf8;
  known = known;
  declares = declares;
  outcome = outcome_to files.Language known name (λ s end. IsEnd s end (Err (Notation l kind))) (λ s end. IsEnd s end (Err (Notation l kind)))
      (λ number bad. (number ≡ l) × (bad ≡ kind)) (λ number bad. Err (Notation l kind) ≡ Err (Notation number bad))
      (λ s end k. k) (λ number bad k. bad_same l number kind bad k.0 k.1) start (kept_lines (lines_from 1 bytes)) h;
}

-- ---- the names that are used

declare_uses : (d : Declared) (row : Row) → (declare d row).uses ≡ d.uses
declare_uses d (Sort s) = refl
declare_uses d (Prod p) = refl
declare_uses d (Var v) = refl
declare_uses d (Form f) = refl
declare_uses d (Main m) = refl
declare_uses d _ = refl

goes_uses : (d : Declared) (row : Row) (all : Declared) (Next : Bool → Declared → Type 0) → ((is_body : Bool) (next : Declared) → Next is_body next → all.uses ≡ next.uses)
    → RowGoesOn d row all Next → all.uses ≡ d.uses
goes_uses d (Rule name) all Next f h = ap (λ (x : Declared). x.uses) h
goes_uses d (Plain p) all Next f h = f true d h
goes_uses d row all Next f h = f false (declare d row) h ∙ declare_uses d row

-- no line changes the names that are used
pub uses_stay : (kind : FileKind) (is_body : Bool) (d : Declared) (lines : Lines) (all : Declared) → Declares kind is_body d lines all → all.uses ≡ d.uses
uses_stay kind is_body d (over n) all h = ap (λ (x : Declared). x.uses) h
uses_stay kind true d (line n text after more) all h = uses_stay kind false d more all h
uses_stay kind false d (line n text after more) all (inl h) =
    goes_uses d h.0 all (λ is_body next. Declares kind is_body next more all) (λ is_body next k. uses_stay kind is_body next more all k) h.2
uses_stay kind false d (line n text after more) all (inr h) = uses_stay kind false d more all h.1

-- what is declared after nothing, before the lines of all bytes
pub declares_from : (kind : FileKind) (base : Declared) (lines all : Lines) (known : Declared) → base ≡ nothing → lines ≡ all → Declares kind false base (kept_lines lines) known
    → Declares kind false nothing (kept_lines all) known
declares_from kind base lines all known e f h = subst (λ (x : Lines). Declares kind false nothing (kept_lines x) known) f (subst (λ (x : Declared). Declares kind false x (kept_lines lines) known) e h)

-- reading the lines of a language file from the first on
pub language_read : (known : Declared) (name : List ℕ) (lines all : Lines) (reader : Reader) (result : Result (Reader × ℕ) OutlineError) → lines ≡ all
    → Declares files.Language false nothing (kept_lines all) known → IsNewReader reader
    → ((s : State) → IsOutlineReader known reader s → IsDeclaredAhead files.Language s.stage s.declared (kept_lines lines) known → AreLinesRead files.Language known name s (kept_lines lines) result)
    → AreLinesRead files.Language known name start (kept_lines all) result
language_read known name lines all reader result e declares new read =
    subst (λ (x : Lines). AreLinesRead files.Language known name start (kept_lines x) result) e
    (read start (new_reader known reader new) (subst (λ (x : Lines). Declares files.Language false nothing (kept_lines x) known) (sym e) declares))
