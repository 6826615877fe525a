-- Reading an extension file.
use Rattle.std.proofs.Common.{◌≡◌, ℕ, Bool, true, false, List, [], length, map, Result, Ok, Err, refl, sym, ap, subst, ◌∙◌, inl, inr, arith}
use Rattle.std.specs.Str.{IsUtf8}
use Rattle.std.proofs.lemmas.Bool.{false≢true}
use Rattle.sx_lines.specs.Lines.{Lines, over, line, lines_from}
use Rattle.sx_lines.specs.Left.{left}
use Rattle.sx_lines.specs.declared.rest.Rest.{Rest}
use Rattle.sx_lines.specs.declared.kind.Kind.{Kind}
use Rattle.sx_lines.specs.declared.kind.Kind.TheVariants.{Unfinished}
use Rattle.sx_grammar.specs.declared.sort_line.SortLine.{SortLine}
use Rattle.sx_directives.specs.declared.file_kind.FileKind.{FileKind}
use Rattle.sx_directives.specs.declared.file_kind.FileKind.TheVariants as files
use Rattle.sx_directives.specs.Rows.{IsRow}
use Rattle.sx_directives.specs.declared.rows.VarLine.{VarLine}
use Rattle.sx_directives.specs.declared.row.Row.{Row}
use Rattle.sx_directives.specs.declared.row.Row.TheVariants.{Sort, Prod, Var, Form, Main, Plain}
use Rattle.sx_directives.specs.declared.row.Row.TheVariants.{Rule, End, To}
use Rattle.sx_outline.specs.declared.extension_header.ExtensionHeader.{ExtensionHeader}
use Rattle.sx_outline.specs.declared.extension_outline.ExtensionOutline.{ExtensionOutline}
use Rattle.sx_outline.specs.declared.outline_error.OutlineError.{OutlineError}
use Rattle.sx_outline.specs.declared.outline_error.OutlineError.TheVariants.{Memory, NotUtf8}
use Rattle.sx_outline.specs.declared.outline_error.OutlineError.TheVariants.{Notation}
use Rattle.sx_outline.specs.declared.reader.Reader.{Reader}
use Rattle.sx_outline.specs.Declarations.{Declared, declare, declared_before}
use Rattle.sx_outline.specs.Headers.{HeaderData, header, IsHeader}
use Rattle.sx_outline.specs.HeaderReading.{EndsTheHeader, IsBadIn, IsAnyHeaderRead}
use Rattle.sx_outline.specs.Known.{Declares, RowGoesOn, kept_lines}
use Rattle.sx_outline.specs.Stages.{PlainData, plain_data, RuleData, rule_data, Stage, at_start}
use Rattle.sx_outline.specs.Stages.{at_declarations, at_body, at_plains, at_rules, at_premises}
use Rattle.sx_outline.specs.Stages.{at_conclusion, at_end, State, start_after, Steps, StepsAt}
use Rattle.sx_outline.specs.Stages.{IsWhole, IsInside, MayStandAt, state_after_row}
use Rattle.sx_outline.specs.Outcomes.{IsReadingOutcome}
use Rattle.sx_outline.specs.Reading.{IsOutlineReader, IsReaderAfter, IsMainRead, ReadingEndsAt}
use Rattle.sx_outline.specs.Reading.{IsBadLine, AreLinesRead}
use Rattle.sx_outline.proofs.EndLaws.{all_same}
use Rattle.sx_outline.specs.ExtensionOutlined.{ExtensionOutlineData, extension_declares}
use Rattle.sx_outline.specs.ExtensionOutlined.{extension_outline, AreReadAfter, IsExtensionEnd}
use Rattle.sx_outline.specs.ExtensionOutlined.{IsExtensionOutlined}
use Rattle.sx_outline.specs.ExtensionReading.{AreAfterRead, IsExtensionEndRead}
use Rattle.sx_outline.proofs.HeaderLaws.{header_to, ok_same, ok_bad, bad_same}
use Rattle.sx_outline.proofs.OutcomeSteps.{outcome_to, reached, reaches_outcome, kept_to}
use Rattle.sx_outline.proofs.ReadLaws.{no_bad, same_error}

-- ---- what is declared

-- the sorts, forms and main lines of both are the same
pub record AreAlike (d all : Declared) : Type 0 where
  pub sorts : all.sorts ≡ d.sorts
  pub forms : all.forms ≡ d.forms
  pub mains : all.mains ≡ d.mains

alike_row : (d : Declared) (text : List ℕ) (row : Row) → IsRow files.Extension text row → AreAlike d (declare d row)
alike_row d text (Sort s) h = absurd (false≢true h.word)
alike_row d text (Prod p) h = record { sorts = refl; forms = refl; mains = refl }
alike_row d text (Var v) h = record { sorts = refl; forms = refl; mains = refl }
alike_row d text (Form f) h = absurd (false≢true h.word)
alike_row d text (Main m) h = absurd (false≢true h.word)
alike_row d text _ h = record { sorts = refl; forms = refl; mains = refl }

alike_to : (a b c : Declared) → AreAlike a b → AreAlike b c → AreAlike a c
alike_to a b c h k = record { sorts = k.sorts ∙ h.sorts; forms = k.forms ∙ h.forms; mains = k.mains ∙ h.mains }

alike_same : (d all : Declared) → all ≡ d → AreAlike d all
alike_same d all e = record { sorts = ap (λ (x : Declared). x.sorts) e; forms = ap (λ (x : Declared). x.forms) e; mains = ap (λ (x : Declared). x.mains) e }

alike_goes : (d : Declared) (text : List ℕ) (row : Row) (all : Declared) (Next : Bool → Declared → Type 0) → IsRow files.Extension text row
    → ((is_body : Bool) (next : Declared) → Next is_body next → AreAlike next all) → RowGoesOn d row all Next → AreAlike d all
alike_goes d text (Rule name) all Next is f h = alike_same d all h
alike_goes d text (Plain p) all Next is f h = f true d h
alike_goes d text row all Next is f h = alike_to d (declare d row) all (alike_row d text row is) (f false (declare d row) h)

-- an extension file declares no sorts, no forms and no main lines
pub alike_of : (is_body : Bool) (d : Declared) (lines : Lines) (all : Declared) → Declares files.Extension is_body d lines all → AreAlike d all
alike_of is_body d (over n) all h = alike_same d all h
alike_of true d (line n text after more) all h = alike_of false d more all h
alike_of false d (line n text after more) all (inl h) =
    alike_goes d text h.0 all (λ is_body next. Declares files.Extension is_body next more all) h.1 (λ is_body next k. alike_of is_body next more all k) h.2
alike_of false d (line n text after more) all (inr h) = alike_of false d more all h.1

-- ---- the first stage is left

-- the reading has begun
abbrev pub IsBegun : State → Type 0
IsBegun s = s.stage ≡ at_start → ⊥

abbrev tell : Stage → ℕ
tell at_start = 0
tell _ = 1

differ : (n : ℕ) → n ≡ 1 → n ≡ 0 → ⊥
differ n e f = omega (arith, e, f)

apart : (at : Stage) → tell at ≡ 1 → at ≡ at_start → ⊥
apart at e f = differ (tell at) e (ap tell f)

row_begun : (at : Stage) (d : Declared) (plains : List PlainData) (rules : List RuleData) (n : ℕ) (row : Row) → MayStandAt at d.mains row
    → tell (state_after_row (record { stage = at; declared = d; plains = plains; rules = rules }) n row).stage ≡ 1
row_begun at_declarations d plains rules n (Sort s) h = refl
row_begun at_declarations d plains rules n (Prod p) h = refl
row_begun at_declarations d plains rules n (Var v) h = refl
row_begun at_declarations d plains rules n (Form f) h = refl
row_begun at_declarations d plains rules n (Main m) h = refl
row_begun at_declarations d plains rules n (Plain p) h = refl
row_begun at_declarations d plains rules n (Rule name) h = refl
row_begun at_plains d plains rules n (Plain p) h = refl
row_begun at_plains d plains rules n (Rule name) h = refl
row_begun at_rules d plains rules n (Rule name) h = refl
row_begun (at_end r) d plains rules n End h = refl
row_begun (at_end r) d plains rules n (To body) h = refl
row_begun _ d plains rules n row h = absurd h

abbrev told : State → ℕ
told s = tell s.stage

step_told : (at : Stage) (kind : FileKind) (known : Declared) (name : List ℕ) (d : Declared) (plains : List PlainData) (rules : List RuleData) (n : ℕ) (text : List ℕ) (t : State)
    → StepsAt at kind known name (record { stage = at; declared = d; plains = plains; rules = rules }) n text t → told t ≡ 1
step_told at_start kind known name d plains rules n text t h = ap told h.1
step_told at_declarations kind known name d plains rules n text t (row, good, e) = ap told e ∙ row_begun at_declarations d plains rules n row good.stands
step_told (at_body b) kind known name d plains rules n text t h = ap told h
step_told at_plains kind known name d plains rules n text t (row, good, e) = ap told e ∙ row_begun at_plains d plains rules n row good.stands
step_told at_rules kind known name d plains rules n text t (row, good, e) = ap told e ∙ row_begun at_rules d plains rules n row good.stands
step_told (at_premises b) kind known name d plains rules n text t (inl h) = ap told h.1
step_told (at_premises b) kind known name d plains rules n text t (inr h) = ap told h.1
step_told (at_conclusion b) kind known name d plains rules n text t h = ap told h
step_told (at_end r) kind known name d plains rules n text t (row, good, e) = ap told e ∙ row_begun (at_end r) d plains rules n row good.stands

begun_on : (kind : FileKind) (known : Declared) (name : List ℕ) (s : State) (n : ℕ) (text after : List ℕ) (more : Lines) (t : State) → Steps kind known name s n text t → IsBegun s → IsBegun t
begun_on kind known name s n text after more t steps h = apart t.stage (step_told s.stage kind known name s.declared s.plains s.rules n text t steps)

-- ---- the lines after a header

abbrev bad_extension : ℕ → Kind → Result ExtensionOutlineData OutlineError
bad_extension number bad = Err (Notation number bad)

pub extension_ends : (known : Declared) (name : List ℕ) (base : Declared) (lines : Lines) (reader : Reader) (n : ℕ) (After : State → ℕ → Type 0) (Bad : ℕ → Kind → Type 0)
    → AreLinesRead files.Extension known name (start_after base) lines (Ok (reader, n))
    → ((s : State) → IsOutlineReader known reader s → IsBegun s → (IsWhole s.stage → s.declared ≡ known) → After s n) → IsReadingOutcome files.Extension known name (start_after base) lines After Bad
extension_ends known name base lines reader n After Bad h f =
    let last = reached files.Extension known name (ReadingEndsAt known (Ok (reader, n))) (IsBadLine (Ok (reader, n))) (λ number bad k. no_bad (reader, n) bad number (Ok (reader, n)) refl k) (start_after base) lines h in
    let begun : IsBegun last.state = kept_to files.Extension known name (λ s left. IsBegun s) (begun_on files.Extension known name) (start_after base) lines last.state last.number last.reaches
    (apart at_declarations refl) in
    reaches_outcome files.Extension known name After Bad (start_after base) lines last.state last.number last.reaches
    (subst (After last.state) (sym last.holds.ends) (f last.state last.holds.stands begun last.holds.whole))

pub after_read : (sorts : List SortLine) (vars : List VarLine) (known : Declared) (h : HeaderData) (lines : Lines) (reader : Reader) (n : ℕ) (result : Result ExtensionOutline OutlineError)
    → Declares files.Extension false (declared_before sorts vars h.uses) lines known
    → AreLinesRead files.Extension known h.name (start_after (declared_before sorts vars h.uses)) lines (Ok (reader, n))
    → ((s : State) → IsOutlineReader known reader s → IsBegun s → (IsWhole s.stage → s.declared ≡ known) → IsExtensionEndRead sorts h s result) → AreAfterRead sorts vars h lines result
after_read sorts vars known h lines reader n (Ok o) declares read f = record {
  known = known;
  declares = declares;
  outcome = extension_ends known h.name (declared_before sorts vars h.uses) lines reader n (λ s end. IsExtensionEnd sorts h s (Ok (extension_outline o)))
      (λ number bad. Ok (extension_outline o) ≡ Err (Notation number bad)) read f;
}
after_read sorts vars known h lines reader n (Err Memory) declares read f = tt
after_read sorts vars known h lines reader n (Err (NotUtf8 place)) declares read f =
    let last = reached files.Extension known h.name (λ s end. ⊥) (λ number bad. ⊥) (λ number bad k. k) (start_after (declared_before sorts vars h.uses)) lines
    (extension_ends known h.name (declared_before sorts vars h.uses) lines reader n (λ s end. ⊥) (λ number bad. ⊥) read f) in
    last.holds
after_read sorts vars known h lines reader n (Err (Notation l kind)) declares read f = record {
  known = known;
  declares = declares;
  outcome = extension_ends known h.name (declared_before sorts vars h.uses) lines reader n (λ s end. IsExtensionEnd sorts h s (Err (Notation l kind)))
      (λ number bad. bad_extension l kind ≡ Err (Notation number bad)) read f;
}

error_same : (l number : ℕ) (kind bad : Kind) → (number ≡ l) × (bad ≡ kind) → bad_extension l kind ≡ bad_extension number bad
error_same l number kind bad e = λ i. Err (Notation (sym e.0 i) (sym e.1 i))

pub after_refused : (sorts : List SortLine) (vars : List VarLine) (known : Declared) (h : HeaderData) (lines : Lines) (e : OutlineError)
    → Declares files.Extension false (declared_before sorts vars h.uses) lines known
    → AreLinesRead files.Extension known h.name (start_after (declared_before sorts vars h.uses)) lines (Err e) → AreAfterRead sorts vars h lines (Err e)
after_refused sorts vars known h lines Memory declares read = tt
after_refused sorts vars known h lines (NotUtf8 place) declares read = absurd read
after_refused sorts vars known h lines (Notation l kind) declares read = record {
  known = known;
  declares = declares;
  outcome = outcome_to files.Extension known h.name (ReadingEndsAt known (Err (Notation l kind))) (λ s end. IsExtensionEnd sorts h s (Err (Notation l kind))) (IsBadLine (Err (Notation l kind)))
      (λ number bad. bad_extension l kind ≡ Err (Notation number bad)) (λ s end k. absurd k)
      (λ number bad k. error_same l number kind bad (same_error l number kind bad (Err (Notation l kind)) refl k)) (start_after (declared_before sorts vars h.uses)) lines read;
}

-- ---- the file

-- what comes of the lines after the header comes of the file
pub extension_read : (sorts : List SortLine) (vars : List VarLine) (bytes : List ℕ) (given : ExtensionHeader) (rest : Rest) (whole : Lines) (result : Result ExtensionOutline OutlineError)
    → whole ≡ kept_lines (lines_from 1 bytes) → IsUtf8 bytes → IsAnyHeaderRead whole (Ok (given, rest)) → AreAfterRead sorts vars (header given) (kept_lines (left rest)) result
    → IsExtensionOutlined sorts vars bytes result
extension_read sorts vars bytes given rest whole result e utf8 head = by result
  where
    there : HeaderData × Lines
    there = (header given, kept_lines (left rest))

    lead : (given_result : Result ExtensionOutlineData OutlineError) → AreReadAfter sorts vars (header given) (kept_lines (left rest)) given_result
        → IsHeader (kept_lines (lines_from 1 bytes)) (λ h lines. AreReadAfter sorts vars h lines given_result) (λ number bad. given_result ≡ Err (Notation number bad))
    lead r k =
        subst (λ x. IsHeader x (λ h lines. AreReadAfter sorts vars h lines r) (λ number bad. r ≡ Err (Notation number bad))) e
        (header_to (EndsTheHeader (Ok (header given, kept_lines (left rest)))) (λ h lines. AreReadAfter sorts vars h lines r) (IsBadIn (Ok (header given, kept_lines (left rest)))) (λ number bad. r ≡ Err (Notation number bad))
        (λ h lines f. subst (λ (x : HeaderData × Lines). AreReadAfter sorts vars x.0 x.1 r) (ok_same (header given, kept_lines (left rest)) (h, lines) (Ok (header given, kept_lines (left rest))) refl f) k)
        (λ number bad f. absurd (ok_bad (header given, kept_lines (left rest)) (Notation number bad) (Ok (header given, kept_lines (left rest))) refl f)) whole head)

    by : (result : Result ExtensionOutline OutlineError) → AreAfterRead sorts vars (header given) (kept_lines (left rest)) result → IsExtensionOutlined sorts vars bytes result
    by (Ok o) k = (utf8, lead (Ok (extension_outline o)) k)
    by (Err Memory) k = tt
    by (Err (NotUtf8 place)) k = absurd k
    by (Err (Notation l kind)) k = (utf8, lead (Err (Notation l kind)) k)

pub extension_refused : (sorts : List SortLine) (vars : List VarLine) (bytes : List ℕ) (whole : Lines) (e : OutlineError) → whole ≡ kept_lines (lines_from 1 bytes) → IsUtf8 bytes → IsAnyHeaderRead whole (Err e)
    → IsExtensionOutlined sorts vars bytes (Err e)
extension_refused sorts vars bytes whole Memory is utf8 h = tt
extension_refused sorts vars bytes whole (NotUtf8 place) is utf8 h = absurd h
extension_refused sorts vars bytes whole (Notation l kind) is utf8 h = (
  utf8,
  subst (λ x. IsHeader x (λ h lines. AreReadAfter sorts vars h lines (Err (Notation l kind))) (λ number bad. bad_extension l kind ≡ Err (Notation number bad))) is
      (header_to (EndsTheHeader (Err (Notation l kind))) (λ h lines. AreReadAfter sorts vars h lines (Err (Notation l kind))) (IsBadIn (Err (Notation l kind))) (λ number bad. bad_extension l kind ≡ Err (Notation number bad))
      (λ h lines f. absurd (ok_bad (h, lines) (Notation l kind) (Err (Notation l kind)) f refl))
      (λ number bad f. ap Err (bad_same (Notation l kind) (Notation number bad) (Err (Notation l kind)) refl f)) whole h),
)

-- ---- the end

-- nothing is left open
whole_of : (at : Stage) → (at ≡ at_start → ⊥) → ((number : ℕ) → IsInside at number → ⊥) → IsWhole at
whole_of at_start n h = absurd (n refl)
whole_of at_declarations n h = tt
whole_of (at_body b) n h = absurd (h b.number refl)
whole_of at_plains n h = tt
whole_of at_rules n h = tt
whole_of (at_premises b) n h = absurd (h b.number refl)
whole_of (at_conclusion b) n h = absurd (h b.number refl)
whole_of (at_end r) n h = absurd (h r.number refl)

pub ends_whole : (at given : Stage) → given ≡ at → (at ≡ at_start → ⊥) → ((number : ℕ) → IsInside given number → ⊥) → IsWhole at
ends_whole at given e n h = whole_of at n (subst (λ x. (number : ℕ) → IsInside x number → ⊥) e h)

-- what is read whole is an outline
pub finished : (known : Declared) (s : State) (given : Stage) (h : HeaderData) (o : ExtensionOutlineData) → IsBegun s → given ≡ s.stage → ((number : ℕ) → IsInside given number → ⊥)
    → (IsWhole s.stage → s.declared ≡ known) → known.forms ≡ [] → known.mains ≡ [] → o.header ≡ h → h.uses ≡ known.uses → o.productions ≡ known.productions → o.vars ≡ known.vars
    → o.plains ≡ s.plains → o.rules ≡ s.rules → IsExtensionEnd known.sorts h s (Ok o)
finished known s given h o begun is open_none whole forms mains header uses productions vars plains rules =
    let w : IsWhole s.stage = ends_whole s.stage given is begun open_none in (
      w,
      record {
        header = header;
        declared = whole w ∙ all_same known (extension_declares known.sorts o) refl (sym productions) (sym vars) forms mains (sym uses ∙ sym (ap (λ (x : HeaderData). x.uses) header));
        plains = sym plains;
        rules = sym rules;
      },
    )

pub left_open : (sorts : List SortLine) (h : HeaderData) (s : State) (given : Stage) (number : ℕ) (e : OutlineError) → given ≡ s.stage → IsInside given number → e ≡ Notation number Unfinished
    → IsExtensionEndRead sorts h s (Err e)
left_open sorts h s given number e is inside f = subst (λ x. IsExtensionEndRead sorts h s (Err x)) (sym f) (subst (λ x. IsInside x number) is inside)

-- the reader after the header
pub reader_after : (known : Declared) (sorts : List SortLine) (vars : List VarLine) (uses : List (List ℕ)) (r : Reader) (count : ℕ) → count ≡ length vars → IsReaderAfter count r
    → IsOutlineReader known r (start_after (declared_before sorts vars uses))
reader_after known sorts vars uses r count e h = record {
  stage_is = h.stage;
  forms_are = h.forms;
  vars_are = h.vars ∙ e;
  main_is = subst (λ x. IsMainRead known x []) (sym h.main) tt;
  plains_are = ap (map plain_data) h.plains;
  rules_are = ap (map rule_data) h.rules;
}

-- what is declared after the header
pub declares_after : (base d known : Declared) (lines : Lines) → d ≡ base → Declares files.Extension false d lines known → Declares files.Extension false base lines known
declares_after base d known lines e h = subst (λ (x : Declared). Declares files.Extension false x lines known) e h

-- the sorts and the names that are used are those that were handed in
pub end_as : (k : Declared) (sorts : List SortLine) (name language : List ℕ) (uses : List (List ℕ)) (s : State) (result : Result ExtensionOutline OutlineError) → k.sorts ≡ sorts → k.uses ≡ uses
    → IsExtensionEndRead k.sorts (record { name = name; language = language; uses = k.uses }) s result → IsExtensionEndRead sorts (record { name = name; language = language; uses = uses }) s result
end_as k sorts name language uses s result e f h =
    subst (λ (x : List SortLine). IsExtensionEndRead x (record { name = name; language = language; uses = uses }) s result) e
    (subst (λ (x : List (List ℕ)). IsExtensionEndRead k.sorts (record { name = name; language = language; uses = x }) s result) f h)
