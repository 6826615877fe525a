-- What is proved of reading the modules of a closure.
use Rattle.std.specs.Prelude.{ℕ, List, Result, Ok}
use Rattle.std.specs.List.{AllByRecursion}
use Rattle.sx_outside.specs.Files.{Files}
use Rattle.sx_steps.specs.Agree.{IsSure, AnswersBy}
use Rattle.sx_steps.specs.Stop.{Gives}
use Rattle.sx_steps.specs.declared.step_error.StepError.{StepError}
use Rattle.sx_walking.specs.Laws.{AnswerAlike}
use Rattle.sx_headers.specs.ReadModule.{Module}
use Rattle.sx_closure.specs.ReadImport.{ReadsNamed}
use Rattle.sx_closure.specs.ReadModules.{module_name, ReadsModules}
use Rattle.sx_closure.specs.Closures.{IsClosure}

-- by the name and the files there is one result, but for read faults and out of memory: the same
-- modules in the same order, or stops that give the same status and the same line
abbrev pub ModulesAgree : Type 0
ModulesAgree = (name : List ℕ) (files : Files) (x y : Result (List Module) StepError) →
    Gives (λ ms. ms) (ReadsModules name files) x → Gives (λ ms. ms) (ReadsModules name files) y →
    IsSure x → IsSure y → AnswersBy AnswerAlike x y

-- each of these was read from its file
abbrev pub AreModulesRead : Files → List Module → Type 0
AreModulesRead files ms = AllByRecursion (λ m. ReadsNamed files (module_name m) (Ok m)) ms

-- the modules that were read are a closure of the one with this name, and those of their files
abbrev pub ModulesAreClosure : Type 0
ModulesAreClosure = (name : List ℕ) (files : Files) (ms : List Module) →
    ReadsModules name files (Ok ms) → IsClosure name ms × AreModulesRead files ms
