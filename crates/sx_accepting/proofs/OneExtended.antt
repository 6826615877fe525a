-- A language becomes one thing by extensions, or has one stop, but for the two readings that it
-- shows of a line with more than two.
use Rattle.std.proofs.Common.{◌≡◌, ◌≢◌, ℕ, ◌+◌, List, [], ◌∷◌, inl, inr, ◌⊎◌}
use Rattle.std.proofs.Common.{refl, sym, ap, ◌∙◌, subst}
use Rattle.std.specs.Prelude.{Result, Ok, Err, Some}
use Rattle.sx_grammar.specs.Told.{shapes_of}
use Rattle.sx_rewrite.specs.Accepted.{Checked, IsAccepted}
use Rattle.sx_rewrite.specs.Extensions.{with_table}
use Rattle.sx_rewrite.specs.Stored.{signature_of}
use Rattle.sx_extcheck.specs.declared.accept_error.AcceptError.{AcceptError}
use Rattle.sx_extcheck.specs.declared.accept_error.AcceptError.TheVariants.{Memory}
use Rattle.sx_extcheck.specs.declared.accept_error.AcceptError.TheVariants.{Rule as Refused}
use Rattle.sx_extcheck.specs.declared.budgets.Budgets.{Budgets}
use Rattle.sx_extcheck.specs.Agree.{Agree as OneAnswer}
use Rattle.sx_extcheck.specs.Checks.{Check}
use Rattle.sx_extension.specs.declared.extension.ReadExtension.{ReadExtension}
use Rattle.sx_extension.specs.declared.extension_error.ExtensionError.{ExtensionError}
use Rattle.sx_extension.specs.declared.extension_error.ExtensionError.TheVariants as extension
use Rattle.sx_extension.specs.Alike.{ExtensionHasThree, ShowOtherReadings}
use Rattle.sx_extension.specs.Laws.{SameExtension}
use Rattle.sx_extension.proofs.OneExtension.{one_extension}
use Rattle.sx_steps.specs.declared.stop.Stop.{Stop}
use Rattle.sx_steps.specs.Steps.{NoTries, Untried}
use Rattle.sx_steps.proofs.Ones.{IsOneBy, some_same, none_some, no_tries_one}
use Rattle.sx_steps.proofs.Ones.{trying_by, trying_same, and_then_by}
use Rattle.sx_steps.proofs.Related.{IsOneAs}
use Rattle.sx_steps.specs.declared.step_error.StepError.TheVariants as errors
use Rattle.sx_uses.specs.ExtensionFile.{Extension, extension_file}
use Rattle.sx_accepting.specs.AcceptanceStops.{acceptance_stop}
use Rattle.sx_accepting.specs.ExtensionStops.{extension_stop}
use Rattle.sx_accepting.specs.ExtendedLanguages.{BaseLanguage, ExtendedData, ground_of, unextended}
use Rattle.sx_accepting.specs.Extending.{ReadData, read_data, IsExtensionStated, HaveChecks}
use Rattle.sx_accepting.specs.Extending.{check_after, with_extension, refusing_by, ReadsAfter}
use Rattle.sx_accepting.specs.Extending.{Accepts, ExtendsBy, ExtendsLanguage}
use Rattle.sx_accepting.specs.Alike.{IsOfLine, StopsAtExtension, SameButReadings}
use Rattle.sx_accepting.specs.Laws.{IsAcceptedOver, ExtendsAgree}
use Rattle.sx_accepting.specs.ReadLanguage.{base_in}
use Rattle.sx_accepting.proofs.OneChecked.{one_checked}
use Rattle.sx_accepting.proofs.OneStop.{refused_rules_stop_alike}
use Rattle.sx_accepting.proofs.SameRefusals.{not_lacking, same_refusal, same_lines, same_so}
use Rattle.sx_accepting.proofs.AcceptedExtended.{longer_set}
pub use Rattle.sx_accepting.proofs.AcceptedExtended.{extended_is_accepted}
pub use Rattle.sx_accepting.proofs.AcceptedExtended.{accepted_begin, accepted_by}

same_stop : (IsFree : Stop → Type 0) (s : Stop) → SameButReadings IsFree s s
same_stop IsFree s = inl refl

read_same : (x y : ReadExtension) → SameExtension x y → read_data x ≡ read_data y
read_same x y same = λ i. record {
  grammar = same.grammar i;
  rule_grammar = same.rule_grammar i;
  rules = same.rules i;
  bodies = same.bodies i;
  names = same.names i;
  table = same.table i;
}

module _ (l : BaseLanguage) (x : ExtendedData) (file : Extension) where
  abbrev told_of : List ℕ
  told_of = extension_file file.header.name

  abbrev is_wanted : (e : ExtensionError) (stop : Stop) → extension_stop told_of e ≡ Some stop →
      e ≢ extension.Memory
  is_wanted e stop is = not_lacking (extension_stop told_of) extension.Memory refl e stop is

  -- the stop is about a line of the extension's file that has more than two readings
  abbrev OfLine : Stop → Type 0
  OfLine = IsOfLine told_of (ExtensionHasThree (ground_of l x) file.bytes)

  refused_same : (e d : ExtensionError) (s t : Stop) →
      (e ≡ d) ⊎ ShowOtherReadings (ground_of l x) file.bytes e d →
      extension_stop told_of e ≡ Some s → extension_stop told_of d ≡ Some t →
      SameButReadings OfLine s t
  refused_same e d s t (inl same) h k =
      inl (same_refusal (extension_stop told_of) extension.Memory refl e d s t same h k)
  refused_same e d s t (inr show) h k =
      same_lines told_of (ExtensionHasThree (ground_of l x) file.bytes) show.one show.other s t
      (inr show.shown) (sym (ap (extension_stop told_of) show.first) ∙ h)
      (sym (ap (extension_stop told_of) show.second) ∙ k)

  module _ (IsFree : Stop → Type 0)
      (so : (s : Stop) → ReadsAfter l x file (Err s) → OfLine s → IsFree s) where
    reads_as : IsOneAs (SameButReadings IsFree) (ReadsAfter l x file)
    reads_as (Ok a) (Ok b) h k f g =
        h.is ∙ read_same h.whole k.whole
        (one_extension.found (ground_of l x) file.bytes h.whole k.whole h.states k.states) ∙
        sym k.is
    reads_as (Ok a) (Err t) h k f g =
        is_wanted k.0 t k.2 (one_extension.either (ground_of l x) file.bytes h.whole k.0 h.states
        k.1)
    reads_as (Err s) (Ok b) h k f g =
        is_wanted h.0 s h.2 (one_extension.either (ground_of l x) file.bytes k.whole h.0 k.states
        h.1)
    reads_as (Err s) (Err t) h k f g =
        same_so OfLine IsFree s t (so s h)
        (refused_same h.0 k.0 s t
        (one_extension.refused (ground_of l x) file.bytes h.0 k.0 h.1 k.1 (is_wanted h.0 s h.2)
        (is_wanted k.0 t k.2)) h.2 k.2)

    reads_by : IsOneBy (SameButReadings IsFree) (Untried (ReadsAfter l x file))
    reads_by = trying_by (SameButReadings IsFree) NoTries (ReadsAfter l x file) no_tries_one
        reads_as

module _ (l : BaseLanguage) (budgets : Budgets) (file : List ℕ) (x : ExtendedData)
    (over : IsAcceptedOver l x) (bytes : List ℕ) (d : ReadData)
    (stated : IsExtensionStated (ground_of l x) bytes d) where
  abbrev pub with_these : Check
  with_these = check_after x.set d.table budgets

  pub set_is : IsAccepted with_these.sig x.set.base_shapes (shapes_of d.grammar.parts)
      with_these.set
  set_is = subst (λ (y : ReadData). IsAccepted (signature_of x.set.forms) x.set.base_shapes
      (shapes_of y.grammar.parts) (with_table x.set.kept y.table)) (sym stated.is)
      (longer_set l x over bytes d stated)

  once : (m n : ℕ) (one other : Result (List Checked) AcceptError) →
      HaveChecks with_these d m one → HaveChecks with_these d n other →
      OneAnswer (λ ss ts. ss ≡ ts) m n one other
  once m n one other h k =
      one_checked with_these x.set.base_shapes (shapes_of d.grammar.parts) set_is d m n one other h
      k

  not_stored : (m n : ℕ) (stored : List Checked) (e : AcceptError) (stop : Stop) →
      HaveChecks with_these d m (Ok stored) → HaveChecks with_these d n (Err e) →
      acceptance_stop file (refusing_by l x d) e ≡ Some stop → ⊥
  not_stored m n stored Memory stop h k is = none_some stop is
  not_stored m n stored (Refused name what) stop h k is =
      once m n (Ok stored) (Err (Refused name what)) h k

  same_stops : (m n : ℕ) (e f : AcceptError) (s t : Stop) → HaveChecks with_these d m (Err e) →
      HaveChecks with_these d n (Err f) → acceptance_stop file (refusing_by l x d) e ≡ Some s →
      acceptance_stop file (refusing_by l x d) f ≡ Some t → (s ≡ t) × (m ≡ n)
  same_stops m n Memory f s t h k is also = absurd (none_some s is)
  same_stops m n (Refused name what) Memory s t h k is also = absurd (none_some t also)
  same_stops m n (Refused name what) (Refused other why) s t h k is also =
      let same = once m n (Err (Refused name what)) (Err (Refused other why)) h k in
      let by = refusing_by l x d in
      let alike : acceptance_stop file by (Refused name what) ≡ acceptance_stop file by
      (Refused other why) =
      refused_rules_stop_alike file by name what why same.2 ∙
      ap (λ (n : List ℕ). acceptance_stop file by (Refused n why)) same.1 in
      (some_same s t (sym is ∙ alike ∙ also), same.0)

  accepts_by : (IsFree : Stop → Type 0) →
      IsOneBy (SameButReadings IsFree) (Accepts l budgets file x d)
  accepts_by IsFree (Ok a) (Ok b) m n h k p q =
      let same = once m n (Ok h.0) (Ok k.0) h.1 k.1 in
      (h.2 ∙ ap (with_extension x d) same.1 ∙ sym k.2, same.0)
  accepts_by IsFree (Ok a) (Err errors.Memory) m n h k p q = absurd q
  accepts_by IsFree (Ok a) (Err (errors.Stopped t)) m n h k p q =
      absurd (not_stored m n h.0 k.0 t h.1 k.1 k.2)
  accepts_by IsFree (Err errors.Memory) b m n h k p q = absurd p
  accepts_by IsFree (Err (errors.Stopped s)) (Ok b) m n h k p q =
      absurd (not_stored n m k.0 h.0 s k.1 h.1 h.2)
  accepts_by IsFree (Err (errors.Stopped s)) (Err errors.Memory) m n h k p q = absurd q
  accepts_by IsFree (Err (errors.Stopped s)) (Err (errors.Stopped t)) m n h k p q =
      let same = same_stops m n h.0 k.0 s t h.1 k.1 h.2 k.2 in
      (inl same.0, same.1)

module _ (l : BaseLanguage) (budgets : Budgets) where
  extends_one : (IsFree : Stop → Type 0) (file : Extension) (x : ExtendedData) →
      IsAcceptedOver l x →
      ((s : Stop) → ReadsAfter l x file (Err s) → OfLine l x file s → IsFree s) →
      IsOneBy (SameButReadings IsFree) (ExtendsBy l budgets file x)
  extends_one IsFree file x over so =
      and_then_by (SameButReadings IsFree) (Untried (ReadsAfter l x file))
      (Accepts l budgets (extension_file file.header.name) x) (reads_by l x file IsFree so)
      (λ d before h. accepts_by l budgets (extension_file file.header.name) x over file.bytes d
      h.0 IsFree)

  -- the first of some extensions is refused, or a later one
  module _ (file : Extension) (files : List Extension) (x : ExtendedData) (s : Stop) where
    at_first : ReadsAfter l x file (Err s) → OfLine l x file s →
        StopsAtExtension l budgets x (file ∷ files) s
    at_first stops line = record {
      before = [];
      this = file;
      after = files;
      parts = refl;
      so_far = x;
      tries = 0;
      extends = (refl, refl);
      stops = stops;
      line = line;
    }

    at_later : (y : ExtendedData) (made : ℕ) → ExtendsBy l budgets file x (Ok y) made →
        StopsAtExtension l budgets y files s → StopsAtExtension l budgets x (file ∷ files) s
    at_later y made extended later = record {
      before = file ∷ later.before;
      this = later.this;
      after = later.after;
      parts = ap (λ (fs : List Extension). file ∷ fs) later.parts;
      so_far = later.so_far;
      tries = made + later.tries;
      extends = record {
        given = Ok y;
        before = made;
        after = later.tries;
        begins = extended;
        goes = later.extends;
        sum = refl;
      };
      stops = later.stops;
      line = later.line;
    }

  -- extensions in order have one answer after what is accepted
  extends_by : (IsFree : Stop → Type 0) (files : List Extension) (x : ExtendedData) →
      IsAcceptedOver l x → ((s : Stop) → StopsAtExtension l budgets x files s → IsFree s) →
      IsOneBy (SameButReadings IsFree) (ExtendsLanguage l budgets files x)
  extends_by IsFree [] x over so =
      trying_same (SameButReadings IsFree) (same_stop IsFree) NoTries (λ result. result ≡ Ok x)
      no_tries_one (λ a b h k f g. h ∙ sym k)
  extends_by IsFree (file ∷ files) x over so =
      and_then_by (SameButReadings IsFree) (ExtendsBy l budgets file x) (ExtendsLanguage l budgets files)
      (extends_one IsFree file x over (λ s stops line. so s (at_first file files x s stops line)))
      (λ y before h. extends_by IsFree files y (accepted_by l budgets file x y before over h)
      (λ s later. so s (at_later file files x s y before h later)))

pub extends_agree : ExtendsAgree
extends_agree name bytes l stated budgets files a b m n h k p q =
    let start = unextended l.language in
    extends_by (base_in l) budgets (StopsAtExtension (base_in l) budgets start files) files start
    (accepted_begin name bytes l stated) (λ s at. at) a b m n h k p q
