-- The rows of the outline of a language file fit, and it is no larger than its file.
use Rattle.std.proofs.Common.{◌≡◌, ℕ, ◌+◌, ◌≤◌, false, List, [], length, None, Result, Ok, Err, refl, sym, ap, subst, ◌∙◌, arith}
use Rattle.std.specs.Prelude.{IfOk}
use Rattle.std.specs.List.{AllByRecursion}
use Rattle.sx_lines.specs.Lines.{over, lines_from}
use Rattle.sx_lines.specs.declared.kind.Kind.{Kind}
use Rattle.sx_directives.specs.declared.file_kind.FileKind.TheVariants as files
use Rattle.sx_directives.specs.Spelling.{NotLexical}
use Rattle.sx_grammar.specs.declared.sort_line.SortLine.{SortLine}
use Rattle.sx_directives.specs.declared.rows.VarLine.{VarLine}
use Rattle.sx_directives.specs.declared.rows.MainLine.{MainLine}
use Rattle.sx_outline.specs.declared.outline.Outline.{Outline}
use Rattle.sx_outline.specs.declared.outline_error.OutlineError.{OutlineError}
use Rattle.sx_outline.specs.declared.outline_error.OutlineError.TheVariants.{Notation}
use Rattle.sx_outline.specs.Declarations.{Declared, nothing}
use Rattle.sx_outline.specs.Fitting.{IsKnownSort, IsMainOf}
use Rattle.sx_lines.specs.Distinct.{AreTextsDistinct}
use Rattle.sx_outline.specs.Known.{kept_lines, Declares}
use Rattle.sx_outline.specs.Stages.{RuleData, State, start, IsWhole}
use Rattle.sx_outline.specs.Outlined.{OutlineData, outline, declared_by, IsEnd, IsOutlineOf}
use Rattle.sx_outline.specs.Outlined.{IsOutlined, IsReadAs}
use Rattle.sx_outline.specs.Sized.{HasShortLines, IsSized, IsFitOutline}
use Rattle.sx_outline.proofs.AheadLaws.{whole_known}
use Rattle.sx_outline.proofs.OutcomeLaws.{bytes_in, kept_full, kept_bytes}
use Rattle.sx_outline.proofs.OutcomeSteps.{IsReached, reached, kept_to}
use Rattle.sx_outline.proofs.WeightLaws.{all_weaker, weight, weight_is, AreGood, good_levels, good_places, good_names}
use Rattle.sx_outline.proofs.KeptLaws.{AreFitting, IsKept, IsShortRule, kept_on, stems_of}

kept_start : (bytes : List ℕ) (known : Declared) → Declares files.Language false nothing (kept_lines (lines_from 1 bytes)) known
    → IsKept files.Language (length bytes) (length bytes) nothing known start (kept_lines (lines_from 1 bytes))
kept_start bytes known declares =
    let few : bytes_in (kept_lines (lines_from 1 bytes)) ≤ length bytes = kept_bytes bytes in
    let w : weight nothing ≡ 0 = weight_is nothing in
    record {
      full = kept_full (lines_from 1 bytes);
      within = few;
      weighs = omega arith;
      good = record { lines = tt; forms = tt };
      fitting = record {
        own_sorts = [];
        sorts_are = refl;
        sorts = tt;
        own_vars = [];
        vars_are = refl;
        stems_once = tt;
        stems_apart = tt;
        vars = tt;
        forms_once = tt;
        places = tt;
        subjects = tt;
      };
      stage = tt;
      plains = tt;
      rules = tt;
      ahead = declares;
    }

-- ---- the outline

pub no_error : (o : OutlineData) (n : ℕ) (kind : Kind) (r : Result OutlineData OutlineError) → r ≡ Ok o → r ≡ Err (Notation n kind) → ⊥
no_error o n kind r e f = cc

-- the last state, of which what each line keeps holds
pub record IsLast (bytes : List ℕ) (known : Declared) (o : OutlineData) : Type 0 where
  pub state : State
  pub number : ℕ
  pub holds : IsKept files.Language (length bytes) (length bytes) nothing known state (over number)
  pub whole : IsWhole state.stage
  pub is : IsOutlineOf state o

pub last_state : (name bytes : List ℕ) (o : OutlineData) (h : IsReadAs name bytes (Ok o)) → IsLast bytes h.known o
last_state name bytes o h =
    let lines = kept_lines (lines_from 1 bytes) in
    let last : IsReached files.Language h.known name start lines (λ s end. IsEnd s end (Ok o)) =
    reached files.Language h.known name (λ s end. IsEnd s end (Ok o)) (λ n kind. Ok o ≡ Err (Notation n kind)) (λ n kind e. no_error o n kind (Ok o) refl e) start lines h.outcome in
    record {
      state = last.state;
      number = last.number;
      holds = kept_to files.Language h.known name (IsKept files.Language (length bytes) (length bytes) nothing h.known)
          (kept_on files.Language (length bytes) (length bytes) nothing h.known name) start lines last.state last.number last.reaches (kept_start bytes h.known h.declares);
      whole = last.holds.0;
      is = last.holds.1;
    }

-- what is known is what the outline declares
pub known_by : (name bytes : List ℕ) (o : OutlineData) (h : IsReadAs name bytes (Ok o)) → (line : MainLine) × (h.known ≡ declared_by o line) × IsMainOf (declared_by o line) line o.main
known_by name bytes o h =
    let last = last_state name bytes o h in
    let e : last.state.declared ≡ h.known = whole_known files.Language last.state.stage last.state.declared h.known last.number last.holds.ahead last.whole in
    (last.is.line, sym e ∙ last.is.declared, subst (λ d. IsMainOf d last.is.line o.main) last.is.declared last.is.main)

pub sized_outline : (name bytes : List ℕ) (o : OutlineData) → IsReadAs name bytes (Ok o) → IsSized (length bytes) o
sized_outline name bytes o h =
    let last = last_state name bytes o h in
    let d = declared_by o last.is.line in
    let w : weight last.state.declared + bytes_in (over last.number) ≤ length bytes = last.holds.weighs in
    let w2 : weight last.state.declared ≡ weight d = ap weight last.is.declared in
    let w3 = weight_is d in
    let good : AreGood d = subst AreGood last.is.declared last.holds.good in
    record {
      many = omega arith;
      levels = good_levels d good;
      asked = good_places o.forms good.forms;
      lines = subst (AllByRecursion (HasShortLines (length bytes))) last.is.rules (all_weaker (IsShortRule files.Language (length bytes)) (HasShortLines (length bytes)) (λ r h. h.0) last.state.rules last.holds.rules);
    }

pub fit_outline : (name bytes : List ℕ) (o : OutlineData) → IsReadAs name bytes (Ok o) → IsFitOutline o
unfolding last_state known_by
fit_outline name bytes o h =
    let last = last_state name bytes o h in
    let by = known_by name bytes o h in
    let good : AreGood (declared_by o last.is.line) = subst AreGood last.is.declared last.holds.good in
    let fitting : AreFitting (declared_by o last.is.line) nothing (declared_by o last.is.line) =
    subst (λ k. AreFitting k nothing (declared_by o last.is.line)) by.1 (subst (λ d. AreFitting h.known nothing d) last.is.declared last.holds.fitting) in
    record {
      line = last.is.line;
      main = by.2;
      sorts = subst (AllByRecursion (λ (s : SortLine). NotLexical s.name)) (sym fitting.sorts_are) fitting.sorts;
      stems_once = subst (λ (x : List VarLine). AreTextsDistinct (stems_of x)) (sym fitting.vars_are) fitting.stems_once;
      vars = subst (AllByRecursion (λ (v : VarLine). IsKnownSort (declared_by o last.is.line) v.sort)) (sym fitting.vars_are) fitting.vars;
      forms_once = fitting.forms_once;
      places = fitting.places;
      named = good_names o.forms good.forms;
      subjects = fitting.subjects;
      bodies = subst (AllByRecursion (λ (r : RuleData). r.body ≡ None)) last.is.rules
          (all_weaker (IsShortRule files.Language (length bytes)) (λ (r : RuleData). r.body ≡ None) (λ r h. h.1) last.state.rules last.holds.rules);
    }

pub sized_answer : (name bytes : List ℕ) (result : Result Outline OutlineError) → IsOutlined name bytes result → IfOk result (λ o. IsSized (length bytes) (outline o))
sized_answer name bytes (Ok o) h = sized_outline name bytes (outline o) h
sized_answer name bytes (Err e) h = tt

pub fit_answer : (name bytes : List ℕ) (result : Result Outline OutlineError) → IsOutlined name bytes result → IfOk result (λ o. IsFitOutline (outline o))
fit_answer name bytes (Ok o) h = fit_outline name bytes (outline o) h
fit_answer name bytes (Err e) h = tt
