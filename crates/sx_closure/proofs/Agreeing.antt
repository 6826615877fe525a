-- By the name and the files there is one result of reading the modules of a closure.
use Rattle.std.proofs.Common.{◌≡◌, ℕ, List, [], ◌∷◌, ap, sym, ◌∙◌, subst}
use Rattle.std.specs.Prelude.{Result, Ok, Err}
use Rattle.sx_outside.specs.Files.{Files}
use Rattle.sx_imports.specs.Walk.{Name}
use Rattle.sx_steps.specs.Agree.{IsNoReadFault, AnswersBy}
use Rattle.sx_steps.specs.Steps.{StepsGo}
use Rattle.sx_steps.specs.declared.stop.Stop.{Stop}
use Rattle.sx_steps.specs.declared.step_error.StepError.TheVariants as errors
use Rattle.sx_steps.proofs.Ones.{IsOne, as_answer, then_one, ok_same, err_same, ok_no_err}
use Rattle.sx_walking.specs.Laws.{AnswerAlike}
use Rattle.sx_walking.proofs.Agreeing.{alike_same, reaches_alike}
use Rattle.sx_headers.specs.ReadModule.{Module}
use Rattle.sx_headers.proofs.OneHeaders.{reads_module_one}
use Rattle.sx_closure.specs.Laws.{ModulesAgree}
use Rattle.sx_headers.specs.ModuleFiles.{module_file}
use Rattle.sx_closure.specs.ReadImport.{ReadsNamed, HasSameLanguage, ReadsImportedModule}
use Rattle.sx_closure.specs.ReadModules.{imports_of, ReachesModules, ReadsModules}

-- ---- the file of a module

pub named_one : (files : Files) (name : Name) → IsOne (ReadsNamed files name)
named_one files name = reads_module_one (module_file name) name files

language_one : (language : List ℕ) (name : Name) (given : Module) →
    IsOne (HasSameLanguage language name given)
language_one language name given (Ok x) (Ok y) h k n m = ap Ok (h.1 ∙ sym k.1)
language_one language name given (Ok x) (Err t) h k n m = absurd (k.0 h.0)
language_one language name given (Err s) (Ok y) h k n m = absurd (h.0 k.0)
language_one language name given (Err s) (Err t) h k n m = ap Err (h.1 ∙ sym k.1)

import_one : (language : List ℕ) (files : Files) (name : Name) →
    IsOne (ReadsImportedModule language files name)
import_one language files name =
    then_one (ReadsNamed files name) (HasSameLanguage language name) (named_one files name)
    (λ given reads. language_one language name given)

-- ---- the closure

module _ (name : Name) (files : Files) where
  abbrev Next : Module → Result (List Module) Stop → Type 0
  Next m = ReachesModules m.header.language name files

  next_alike : (root : Module) (x y : Result (List Module) Stop) → Next root x → Next root y →
      IsNoReadFault x → IsNoReadFault y → AnswersBy AnswerAlike (as_answer x) (as_answer y)
  next_alike root x y h k n m =
      reaches_alike imports_of (ReadsImportedModule root.header.language files)
      (import_one root.header.language files) (module_file name) (name ∷ []) x y h k n m

  no_fault_as : (x : Result (List Module) Stop) (s : Stop) → x ≡ Err s → IsNoReadFault x →
      IsNoReadFault {A = Module} (Err s)
  no_fault_as x s e n = subst (λ (z : Result (List Module) Stop). IsNoReadFault z) e n

  stops_alike : (x y : Result (List Module) Stop) (s t : Stop) → x ≡ Err s → y ≡ Err t → s ≡ t →
      AnswersBy AnswerAlike (as_answer x) (as_answer y)
  stops_alike (Ok xs) y s t e f same = absurd (ok_no_err xs s e)
  stops_alike (Err a) (Ok ys) s t e f same = absurd (ok_no_err ys t f)
  stops_alike (Err a) (Err b) s t e f same =
      alike_same a b (err_same a s e ∙ same ∙ sym (err_same b t f))

  by_given : (g k : Result Module Stop) (x y : Result (List Module) Stop) →
      ReadsNamed files name g → ReadsNamed files name k → StepsGo Next g x → StepsGo Next k y →
      IsNoReadFault x → IsNoReadFault y → AnswersBy AnswerAlike (as_answer x) (as_answer y)
  by_given (Ok a) (Ok b) x y f e h j n m =
      let same = ok_same a b (named_one files name (Ok a) (Ok b) f e tt tt) in
      next_alike a x y h (subst (λ (z : Module). Next z y) (sym same) j) n m
  by_given (Ok a) (Err t) x y f e h j n m = absurd
      (ok_no_err a t (named_one files name (Ok a) (Err t) f e tt (no_fault_as y t j m)))
  by_given (Err s) (Ok b) x y f e h j n m = absurd
      (ok_no_err b s (named_one files name (Ok b) (Err s) e f tt (no_fault_as x s h n)))
  by_given (Err s) (Err t) x y f e h j n m = stops_alike x y s t h j
      (err_same s t (named_one files name (Err s) (Err t) f e (no_fault_as x s h n)
      (no_fault_as y t j m)))

  read_alike : (x y : Result (List Module) Stop) → ReadsModules name files x →
      ReadsModules name files y → IsNoReadFault x → IsNoReadFault y →
      AnswersBy AnswerAlike (as_answer x) (as_answer y)
  read_alike x y h k n m = by_given h.given k.given x y h.begins k.begins h.goes k.goes n m

pub modules_alike : ModulesAgree
modules_alike name files (Ok xs) (Ok ys) h k n m = read_alike name files (Ok xs) (Ok ys) h k tt tt
modules_alike name files (Ok xs) (Err (errors.Stopped t)) h k n m =
    read_alike name files (Ok xs) (Err t) h k tt m
modules_alike name files (Err (errors.Stopped s)) (Ok ys) h k n m =
    read_alike name files (Err s) (Ok ys) h k n tt
modules_alike name files (Err (errors.Stopped s)) (Err (errors.Stopped t)) h k n m =
    read_alike name files (Err s) (Err t) h k n m
modules_alike name files (Err errors.Memory) y h k n m = absurd n
modules_alike name files (Ok xs) (Err errors.Memory) h k n m = absurd m
modules_alike name files (Err (errors.Stopped s)) (Err errors.Memory) h k n m = absurd m
