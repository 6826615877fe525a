-- The rows of the outline of an extension file fit, and it is no larger than its file.
use Rattle.std.proofs.Common.{◌≡◌, ℕ, ◌+◌, ◌≤◌, List, [], length, Result, Ok, Err, refl, sym, ap, subst, ◌∙◌, inl, inr, append-nil, arith}
use Rattle.std.specs.Prelude.{IfOk, flat_map}
use Rattle.std.specs.List.{AllByRecursion}
use Rattle.sx_lines.specs.Lines.{Lines, over, line, lines_from}
use Rattle.sx_lines.specs.declared.kind.Kind.{Kind}
use Rattle.sx_lines.specs.declared.kind.Kind.TheVariants.{Head, Shape}
use Rattle.sx_grammar.specs.Parts.{literals, symbol_literals}
use Rattle.sx_grammar.specs.declared.sort_line.SortLine.{SortLine}
use Rattle.sx_directives.specs.declared.file_kind.FileKind.TheVariants as files
use Rattle.sx_directives.specs.declared.rows.VarLine.{VarLine}
use Rattle.sx_outline.specs.declared.extension_outline.ExtensionOutline.{ExtensionOutline}
use Rattle.sx_outline.specs.declared.outline_error.OutlineError.{OutlineError}
use Rattle.sx_outline.specs.declared.outline_error.OutlineError.TheVariants.{Notation}
use Rattle.sx_outline.specs.Declarations.{Declared, declared_before}
use Rattle.sx_outline.specs.Fitting.{ArePartNames}
use Rattle.sx_lines.specs.Distinct.{AreTextsDistinct}
use Rattle.sx_outline.specs.Headers.{HeaderData, header_begun, with_use, AreUses, IsHeader}
use Rattle.sx_outline.specs.Known.{kept_lines}
use Rattle.sx_outline.specs.Stages.{PlainData, State, start_after, IsWhole}
use Rattle.sx_outline.specs.Sized.{HasShortLines}
use Rattle.sx_outline.specs.Reading.{IsDeclaredAhead}
use Rattle.sx_outline.specs.ExtensionOutlined.{ExtensionOutlineData, extension_outline}
use Rattle.sx_outline.specs.ExtensionOutlined.{extension_declares, AreReadAfter, IsExtensionEnd}
use Rattle.sx_outline.specs.ExtensionOutlined.{IsExtensionOutlineOf, IsExtensionReadAs}
use Rattle.sx_outline.specs.ExtensionOutlined.{IsExtensionOutlined}
use Rattle.sx_outline.specs.ExtensionSized.{own_parts, IsExtensionSized, IsExtensionFit}
use Rattle.sx_outline.proofs.AheadLaws.{ahead_next, whole_known}
use Rattle.sx_outline.proofs.OutcomeLaws.{bytes_in, bytes_line, AreFull, kept_full, kept_bytes}
use Rattle.sx_outline.proofs.OutcomeSteps.{IsReached, Reaches, reached, kept_to}
use Rattle.sx_outline.proofs.WeightLaws.{all_weaker, weight, weight_is, literals_many, AreGood, good_levels}
use Rattle.sx_outline.proofs.KeptLaws.{distinct_push, IsKept, IsGoodPlain, IsShortRule, kept_on}

pub no_error : (o : ExtensionOutlineData) (n : ℕ) (kind : Kind) (r : Result ExtensionOutlineData OutlineError) → r ≡ Ok o → r ≡ Err (Notation n kind) → ⊥
no_error o n kind r e f = cc

-- the last state of a file with this outline
pub record IsLastOf (sorts : List SortLine) (vars : List VarLine) (h : HeaderData) (lines : Lines) (o : ExtensionOutlineData) (r : AreReadAfter sorts vars h lines (Ok o)) : Type 0 where
  pub state : State
  pub number : ℕ
  pub reaches : Reaches files.Extension r.known h.name (start_after (declared_before sorts vars h.uses)) lines state number
  pub whole : IsWhole state.stage
  pub is : IsExtensionOutlineOf sorts h state o
  pub declared_is : state.declared ≡ r.known
  pub known_is : r.known ≡ extension_declares sorts o

pub last_of_extension : (sorts : List SortLine) (vars : List VarLine) (h : HeaderData) (lines : Lines) (o : ExtensionOutlineData) (r : AreReadAfter sorts vars h lines (Ok o)) → IsLastOf sorts vars h lines o r
last_of_extension sorts vars h lines o r =
    let first : State = start_after (declared_before sorts vars h.uses) in
    let last : IsReached files.Extension r.known h.name first lines (λ s end. IsExtensionEnd sorts h s (Ok o)) =
    reached files.Extension r.known h.name (λ s end. IsExtensionEnd sorts h s (Ok o)) (λ n bad. Ok o ≡ Err (Notation n bad)) (λ n bad e. no_error o n bad (Ok o) refl e) first lines r.outcome in
    let ahead : IsDeclaredAhead files.Extension last.state.stage last.state.declared (over last.number) r.known =
    kept_to files.Extension r.known h.name (λ s left. IsDeclaredAhead files.Extension s.stage s.declared left r.known) (λ s n text after more t steps k. ahead_next files.Extension h.name s n text after more r.known t steps k)
    first lines last.state last.number last.reaches r.declares in
    let same : last.state.declared ≡ r.known = whole_known files.Extension last.state.stage last.state.declared r.known last.number ahead last.holds.0 in
    record {
      state = last.state;
      number = last.number;
      reaches = last.reaches;
      whole = last.holds.0;
      is = last.holds.1;
      declared_is = same;
      known_is = sym same ∙ last.holds.1.declared;
    }

pub header_is : (sorts : List SortLine) (vars : List VarLine) (h : HeaderData) (lines : Lines) (o : ExtensionOutlineData) → AreReadAfter sorts vars h lines (Ok o) → o.header ≡ h
header_is sorts vars h lines o r = (last_of_extension sorts vars h lines o r).is.header

-- ---- the lines after the header

-- what of the file is left after its header
pub record IsTail (size : ℕ) (lines : Lines) : Type 0 where
  pub full : AreFull lines
  pub within : bytes_in lines ≤ size

tail_of : (size n : ℕ) (text after : List ℕ) (more : Lines) → IsTail size (line n text after more) → IsTail size more
tail_of size n text after more h =
    let e = bytes_line n text after more in
    let w : bytes_in (line n text after more) ≤ size = h.within in
    record { full = h.full.1; within = omega arith }

-- what comes after a header, of which the file has so many bytes
pub record IsAfterHeader (size : ℕ) (Next : HeaderData → Lines → Type 0) : Type 0 where
  pub last : HeaderData
  pub left : Lines
  pub tail : IsTail size left
  pub once : AreTextsDistinct last.uses
  pub holds : Next last left

uses_end : (size : ℕ) (Next : HeaderData → Lines → Type 0) (Bad : ℕ → Kind → Type 0) → ((n : ℕ) (bad : Kind) → Bad n bad → ⊥) → (h : HeaderData) (lines : Lines) → IsTail size lines → AreTextsDistinct h.uses
    → AreUses h lines Next Bad → IsAfterHeader size Next
uses_end size Next Bad n h (over end) tail once x = record { last = h; left = over end; tail = tail; once = once; holds = x }
uses_end size Next Bad n h (line number text after more) tail once (inl x) =
    uses_end size Next Bad n (with_use h x.0) more (tail_of size number text after more tail) (distinct_push h.uses x.0 once x.1.1) x.2
uses_end size Next Bad n h (line number text after more) tail once (inr (inl x)) = absurd (n number Shape x.2)
uses_end size Next Bad n h (line number text after more) tail once (inr (inr x)) = record { last = h; left = line number text after more; tail = tail; once = once; holds = x.1 }

pub after_header : (size : ℕ) (Next : HeaderData → Lines → Type 0) (Bad : ℕ → Kind → Type 0) → ((n : ℕ) (bad : Kind) → Bad n bad → ⊥) → (lines : Lines) → IsTail size lines → IsHeader lines Next Bad
    → IsAfterHeader size Next
after_header size Next Bad n (over end) tail x = absurd (n end Head x)
after_header size Next Bad n (line number text after (over end)) tail (inl x) = absurd (n end Head x.2)
after_header size Next Bad n (line number text after (line second other later more)) tail (inl (name, named, inl x)) =
    uses_end size Next Bad n (header_begun name x.0) more (tail_of size second other later more (tail_of size number text after (line second other later more) tail)) tt x.2
after_header size Next Bad n (line number text after (line second other later more)) tail (inl (name, named, inr x)) = absurd (n second Head x.1)
after_header size Next Bad n (line number text after more) tail (inr x) = absurd (n number Head x.1)

-- ---- the outline

kept_first : (size : ℕ) (sorts : List SortLine) (vars : List VarLine) (h : HeaderData) (lines : Lines) (o : ExtensionOutlineData) (r : AreReadAfter sorts vars h lines (Ok o)) → IsTail size lines
    → (let base : Declared = declared_before sorts vars h.uses in IsKept files.Extension size (size + weight base) base r.known (start_after base) lines)
kept_first size sorts vars h lines o r tail =
    let base : Declared = declared_before sorts vars h.uses in
    let w : bytes_in lines ≤ size = tail.within in
    record {
      full = tail.full;
      within = tail.within;
      weighs = omega arith;
      good = record { lines = tt; forms = tt };
      fitting = record {
        own_sorts = [];
        sorts_are = sym (append-nil sorts);
        sorts = tt;
        own_vars = [];
        vars_are = sym (append-nil vars);
        stems_once = tt;
        stems_apart = tt;
        vars = tt;
        forms_once = tt;
        places = tt;
        subjects = tt;
      };
      stage = tt;
      plains = tt;
      rules = tt;
      ahead = r.declares;
    }

pub record IsLastKept (size : ℕ) (sorts : List SortLine) (vars : List VarLine) (o : ExtensionOutlineData) : Type 0 where
  pub uses : List (List ℕ)
  pub once : AreTextsDistinct o.header.uses
  pub state : State
  pub number : ℕ
  pub kept : IsKept files.Extension size (size + weight (declared_before sorts vars uses)) (declared_before sorts vars uses) (extension_declares sorts o) state (over number)
  pub declared : state.declared ≡ extension_declares sorts o
  pub plains : state.plains ≡ o.plains
  pub rules : state.rules ≡ o.rules

last_kept : (sorts : List SortLine) (vars : List VarLine) (bytes : List ℕ) (o : ExtensionOutlineData) → IsExtensionReadAs sorts vars bytes (Ok o) → IsLastKept (length bytes) sorts vars o
last_kept sorts vars bytes o r =
    let whole : IsTail (length bytes) (kept_lines (lines_from 1 bytes)) = record { full = kept_full (lines_from 1 bytes); within = kept_bytes bytes } in
    let head : IsAfterHeader (length bytes) (λ h lines. AreReadAfter sorts vars h lines (Ok o)) =
    after_header (length bytes) (λ h lines. AreReadAfter sorts vars h lines (Ok o)) (λ n bad. Ok o ≡ Err (Notation n bad)) (λ n bad e. no_error o n bad (Ok o) refl e) (kept_lines (lines_from 1 bytes)) whole r.1 in
    let base : Declared = declared_before sorts vars head.last.uses in
    let last = last_of_extension sorts vars head.last head.left o head.holds in
    let kept : IsKept files.Extension (length bytes) (length bytes + weight base) base head.holds.known last.state (over last.number) =
    kept_to files.Extension head.holds.known head.last.name (IsKept files.Extension (length bytes) (length bytes + weight base) base head.holds.known)
    (kept_on files.Extension (length bytes) (length bytes + weight base) base head.holds.known head.last.name) (start_after base) head.left last.state last.number last.reaches
    (kept_first (length bytes) sorts vars head.last head.left o head.holds head.tail) in
    record {
      uses = head.last.uses;
      once = subst (λ (x : HeaderData). AreTextsDistinct x.uses) (sym last.is.header) head.once;
      state = last.state;
      number = last.number;
      kept = subst (λ k. IsKept files.Extension (length bytes) (length bytes + weight base) base k last.state (over last.number)) last.known_is kept;
      declared = last.is.declared;
      plains = last.is.plains;
      rules = last.is.rules;
    }

own_literals : (o : ExtensionOutlineData) → length (literals (own_parts o)) ≡ length (flat_map (λ r. flat_map symbol_literals r.symbols) o.productions)
own_literals o = refl

sized_outline : (sorts : List SortLine) (vars : List VarLine) (bytes : List ℕ) (o : ExtensionOutlineData) → IsExtensionReadAs sorts vars bytes (Ok o) → IsExtensionSized (length bytes) (length vars) o
sized_outline sorts vars bytes o r =
    let last = last_kept sorts vars bytes o r in
    let d : Declared = extension_declares sorts o in
    let base : Declared = declared_before sorts vars last.uses in
    let w : weight last.state.declared + bytes_in (over last.number) ≤ length bytes + weight base = last.kept.weighs in
    let same : weight last.state.declared ≡ weight d = ap weight last.declared in
    let wd = weight_is d in
    let wb = weight_is base in
    let ld = literals_many d in
    let lb = literals_many base in
    let lo = own_literals o in
    let good : AreGood d = subst AreGood last.declared last.kept.good in
    record {
      many = omega arith;
      levels = record { levels = (good_levels d good).levels; asked = (good_levels d good).asked };
      plains = subst (AllByRecursion (λ (p : PlainData). length p.body.text ≤ length bytes)) last.plains
          (all_weaker (IsGoodPlain d (length bytes)) (λ (p : PlainData). length p.body.text ≤ length bytes) (λ p h. h.0) last.state.plains last.kept.plains);
      lines = subst (AllByRecursion (HasShortLines (length bytes))) last.rules
          (all_weaker (IsShortRule files.Extension (length bytes)) (HasShortLines (length bytes)) (λ r h. h.0) last.state.rules last.kept.rules);
    }

fit_outline : (sorts : List SortLine) (vars : List VarLine) (bytes : List ℕ) (o : ExtensionOutlineData) → IsExtensionReadAs sorts vars bytes (Ok o) → IsExtensionFit sorts vars o
fit_outline sorts vars bytes o r =
    let last = last_kept sorts vars bytes o r in
    let fitting = last.kept.fitting in
    record {
      own = fitting.own_vars;
      vars_are = sym (ap (λ (x : Declared). x.vars) last.declared) ∙ fitting.vars_are;
      stems_once = fitting.stems_once;
      stems_apart = fitting.stems_apart;
      sorts_known = fitting.vars;
      plains = subst (AllByRecursion (λ (p : PlainData). ArePartNames (extension_declares sorts o) p.label p.names)) last.plains
          (all_weaker (IsGoodPlain (extension_declares sorts o) (length bytes)) (λ (p : PlainData). ArePartNames (extension_declares sorts o) p.label p.names) (λ p h. h.1) last.state.plains last.kept.plains);
      uses = last.once;
    }

pub sized_answer : (sorts : List SortLine) (vars : List VarLine) (bytes : List ℕ) (result : Result ExtensionOutline OutlineError) → IsExtensionOutlined sorts vars bytes result
    → IfOk result (λ o. IsExtensionSized (length bytes) (length vars) (extension_outline o))
sized_answer sorts vars bytes (Ok o) h = sized_outline sorts vars bytes (extension_outline o) h
sized_answer sorts vars bytes (Err e) h = tt

pub fit_answer : (sorts : List SortLine) (vars : List VarLine) (bytes : List ℕ) (result : Result ExtensionOutline OutlineError) → IsExtensionOutlined sorts vars bytes result
    → IfOk result (λ o. IsExtensionFit sorts vars (extension_outline o))
fit_answer sorts vars bytes (Ok o) h = fit_outline sorts vars bytes (extension_outline o) h
fit_answer sorts vars bytes (Err e) h = tt
