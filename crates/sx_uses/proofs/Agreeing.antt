-- By the files there is one result of reading extensions.
use Rattle.std.proofs.Common.{◌≡◌, ◌≢◌, ℕ, List, ap, sym, ◌∙◌}
use Rattle.std.specs.Prelude.{Some, Result, Ok, Err}
use Rattle.sx_outline.specs.Headers.{HeaderData}
use Rattle.sx_outline.specs.declared.outline_error.OutlineError.{OutlineError}
use Rattle.sx_outline.specs.declared.outline_error.OutlineError.TheVariants.{Memory}
use Rattle.sx_outline.specs.Laws.{OneHeaderAnswer}
use Rattle.sx_outside.specs.Files.{Files}
use Rattle.sx_imports.specs.Walk.{Name}
use Rattle.sx_steps.specs.Agree.{IsNoReadFault, AnswersBy}
use Rattle.sx_steps.specs.Held.{Held}
use Rattle.sx_term.specs.Limits.{most_bytes}
use Rattle.sx_steps.specs.declared.stop.Stop.{Stop}
use Rattle.sx_steps.proofs.Ones.{IsOne, as_answer, then_one, held_one, ok_same, err_same}
use Rattle.sx_steps.proofs.Ones.{ok_no_err, some_same, none_some}
use Rattle.sx_walking.specs.Laws.{AnswerAlike}
use Rattle.sx_walking.proofs.Agreeing.{reaches_alike, answers_alike}
use Rattle.sx_uses.specs.ExtensionFile.{Extension, extension_file, used_names}
use Rattle.sx_uses.specs.ReadExtension.{extension_header_stop, HasExtensionHeader, HasNoHeader}
use Rattle.sx_uses.specs.ReadExtension.{StatesExtension}
use Rattle.sx_uses.specs.ReadExtension.{ReadsFile, IsFor, ReadsExtension}
use Rattle.sx_uses.specs.ReadUses.{ReadsUses}
use Rattle.sx_uses.specs.Laws.{FilesAgree, UsesAgree}

-- ---- files

module _ (one_header_answer : OneHeaderAnswer) (name bytes : List ℕ) where
  not_lacking : (e : OutlineError) (stop : Stop) →
      extension_header_stop (extension_file name) e ≡ Some stop →
      ◌≢◌ {A = Result HeaderData OutlineError} (Err e) (Err Memory)
  not_lacking e stop is same = none_some stop
      (ap (extension_header_stop (extension_file name)) (sym (err_same e Memory same)) ∙ is)

  a_header : (h : HeaderData) → ◌≢◌ {A = Result HeaderData OutlineError} (Ok h) (Err Memory)
  a_header h same = ok_no_err h Memory same

  same_header : (x y : Extension) → HasExtensionHeader name bytes x → HasExtensionHeader name bytes y → x ≡ y
  same_header x y h k =
      let head = ok_same x.header y.header
      (one_header_answer name bytes (Ok x.header) (Ok y.header) h.states k.states
      (a_header x.header) (a_header y.header)) in
      let same = h.same ∙ sym k.same in
      λ i. record { bytes = same i; header = head i }

  no_header : (x : Extension) (stop : Stop) → HasExtensionHeader name bytes x →
      HasNoHeader name bytes stop → ⊥
  no_header x stop h k = ok_no_err x.header k.error
      (one_header_answer name bytes (Ok x.header) (Err k.error) h.states k.refused
      (a_header x.header) (not_lacking k.error stop k.is))

  same_stop : (s t : Stop) → HasNoHeader name bytes s → HasNoHeader name bytes t → s ≡ t
  same_stop s t h k =
      let same = err_same h.error k.error
      (one_header_answer name bytes (Err h.error) (Err k.error) h.refused k.refused
      (not_lacking h.error s h.is) (not_lacking k.error t k.is)) in
      some_same s t (sym h.is ∙ ap (extension_header_stop (extension_file name)) same ∙ k.is)

  states_one : IsOne (StatesExtension name bytes)
  states_one (Ok x) (Ok y) h k n m = ap Ok (same_header x y h k)
  states_one (Ok x) (Err t) h k n m = absurd (no_header x t h k)
  states_one (Err s) (Ok y) h k n m = absurd (no_header y s k h)
  states_one (Err s) (Err t) h k n m = ap Err (same_stop s t h k)

file_one : (one : OneHeaderAnswer) (files : Files) (name : List ℕ) → IsOne (ReadsFile files name)
file_one one files name =
    then_one (Held most_bytes (extension_file name) files) (StatesExtension name)
    (held_one most_bytes (extension_file name) files) (λ bytes held. states_one one name bytes)

pub files_one : OneHeaderAnswer → FilesAgree
files_one one files name x y h k n m = file_one one files name x y h k n m

for_one : (language name : List ℕ) (given : Extension) → IsOne (IsFor language name given)
for_one language name given (Ok x) (Ok y) h k n m = ap Ok (h.1 ∙ sym k.1)
for_one language name given (Ok x) (Err t) h k n m = absurd (k.0 h.0)
for_one language name given (Err s) (Ok y) h k n m = absurd (h.0 k.0)
for_one language name given (Err s) (Err t) h k n m = ap Err (h.1 ∙ sym k.1)

extension_one : (one : OneHeaderAnswer) (language : List ℕ) (files : Files) (name : List ℕ) →
    IsOne (ReadsExtension language files name)
extension_one one language files name =
    then_one (ReadsFile files name) (IsFor language name) (file_one one files name)
    (λ given reads. for_one language name given)

-- so the step has one answer, read faults aside
pub uses_by : OneHeaderAnswer → (file language : List ℕ) (roots : List Name) (files : Files)
    (x y : Result (List Extension) Stop) → ReadsUses file language roots files x →
    ReadsUses file language roots files y → IsNoReadFault x → IsNoReadFault y →
    AnswersBy AnswerAlike (as_answer x) (as_answer y)
uses_by one file language roots files x y h k n m =
    reaches_alike used_names (ReadsExtension language files) (extension_one one language files) file
    roots x y h k n m

pub uses_one : OneHeaderAnswer → UsesAgree
uses_one one file language roots files x y h k n m =
    answers_alike used_names (ReadsExtension language files) (extension_one one language files) file
    roots x y h k n m
