-- The stops of two refusals.
use Rattle.std.proofs.Common.{◌≡◌, ◌≢◌, ℕ, List, refl, sym, ap, ◌∙◌, subst, inl, inr, ◌⊎◌}
use Rattle.std.specs.Prelude.{Option, Some, None}
use Rattle.sx_notation.specs.declared.unread.Unread.TheVariants as unread
use Rattle.sx_notation.specs.declared.notation_error.NotationError.{NotationError}
use Rattle.sx_notation.specs.declared.notation_error.NotationError.TheVariants as notation_error
use Rattle.sx_language.specs.Alike.{LineShowsOthers}
use Rattle.sx_steps.specs.declared.stop.Stop.{Stop}
use Rattle.sx_steps.specs.Agree.{AreReadings}
use Rattle.sx_steps.proofs.Ones.{some_same, none_some}
use Rattle.sx_accepting.specs.Alike.{IsOfLine, SameButReadings}
use Rattle.sx_accepting.specs.LanguageStops.{unread_line, language_stop}

-- both refusals have stops
module _ {E : Type 0} (stop_of : E → Option Stop) (memory : E) (none : stop_of memory ≡ None) where
  pub not_lacking : (e : E) (stop : Stop) → stop_of e ≡ Some stop → e ≢ memory
  not_lacking e stop is same = none_some stop (sym none ∙ ap stop_of (sym same) ∙ is)

  pub same_refusal : (e d : E) (s t : Stop) → e ≡ d → stop_of e ≡ Some s → stop_of d ≡ Some t →
      s ≡ t
  same_refusal e d s t same h k = some_same s t (sym h ∙ ap stop_of same ∙ k)

pub readings_as : (a b s t : Stop) → AreReadings a b → Some a ≡ Some s → Some b ≡ Some t →
    AreReadings s t
readings_as a b s t are h k =
    subst (λ (x : Stop). AreReadings x t) (some_same a s h)
    (subst (λ (x : Stop). AreReadings a x) (some_same b t k) are)

-- the stops of two refusals of a language that show other readings
line_readings : (file : List ℕ) (HasMore : ℕ → Type 0) (e d : NotationError) (s t : Stop) →
    LineShowsOthers HasMore e d → language_stop file e ≡ Some s → language_stop file d ≡ Some t →
    AreReadings s t
line_readings file HasMore e d s t show h k =
    readings_as (unread_line file show.line (unread.Ambiguous show.one show.other))
    (unread_line file show.line (unread.Ambiguous show.some show.more)) s t
    (record { file = refl; place = refl; shown = tt })
    (sym (ap (language_stop file) show.first) ∙ h) (sym (ap (language_stop file) show.second) ∙ k)

-- they are about the line
line_is : (file : List ℕ) (HasMore : ℕ → Type 0) (e d : NotationError) (s : Stop) →
    LineShowsOthers HasMore e d → language_stop file e ≡ Some s → IsOfLine file HasMore s
line_is file HasMore e d s show h =
    let told = unread_line file show.line (unread.Ambiguous show.one show.other) in
    let here : IsOfLine file HasMore told = record {
      line = show.line;
      named = refl;
      place = refl;
      three = show.three;
    } in
    subst (λ (x : Stop). IsOfLine file HasMore x)
    (some_same told s (sym (ap (language_stop file) show.first) ∙ h)) here

pub same_lines : (file : List ℕ) (HasMore : ℕ → Type 0) (e d : NotationError) (s t : Stop) →
    (e ≡ d) ⊎ LineShowsOthers HasMore e d → language_stop file e ≡ Some s →
    language_stop file d ≡ Some t → SameButReadings (IsOfLine file HasMore) s t
same_lines file HasMore e d s t (inl same) h k =
    inl (same_refusal (language_stop file) notation_error.Memory refl e d s t same h k)
same_lines file HasMore e d s t (inr show) h k =
    inr (line_readings file HasMore e d s t show h k, line_is file HasMore e d s show h)

-- so where the first stop is more
pub same_so : (P Q : Stop → Type 0) (s t : Stop) → (P s → Q s) → SameButReadings P s t →
    SameButReadings Q s t
same_so P Q s t so (inl same) = inl same
same_so P Q s t so (inr (are, is)) = inr (are, so is)
