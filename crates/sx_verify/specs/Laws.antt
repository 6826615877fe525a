-- What is proved of `verify NAME`.
use Rattle.std.specs.Prelude.{◌≡◌, ◌⊎◌, ℕ, List, Ok, Err, Result}
use Rattle.sx_typing.specs.Alike.{BodyHasThree}
use Rattle.sx_term.specs.Tree.{Tree}
use Rattle.sx_outside.specs.Files.{Files}
use Rattle.sx_steps.specs.declared.step_error.StepError.{StepError}
use Rattle.sx_steps.specs.declared.stop.Stop.{Stop}
use Rattle.sx_steps.specs.Agree.{AreReadings, IsSure, AnswersBy}
use Rattle.sx_steps.specs.Steps.{Untried}
use Rattle.sx_steps.specs.TypeErrors.{IsTypeError}
use Rattle.sx_steps.specs.Unit.{base_file}
use Rattle.sx_steps.specs.Work.{Plan}
use Rattle.sx_accepting.specs.Alike.{StopsAtLanguage}
use Rattle.sx_importing.specs.Laws.{IsOfImport}
use Rattle.sx_verify.specs.Ground.{seen_alone, source_in}
use Rattle.sx_verify.specs.VerifiedModule.{HoldsFiles, IsEnvironmentOf}
use Rattle.sx_verify.specs.VerifyModule.{Written, ReadsWritten, VerifiesModule}

-- the stop is that of the language's file, about a line that has more than two readings
pub record IsOfVerifiedLanguage (name : List ℕ) (files : Files) (stop : Stop) : Type 0 where
  pub written : Written
  pub reads : ReadsWritten name files (Ok written)
  pub stops : StopsAtLanguage written.interface.language.name files stop

-- the stop names the file of one of the imports, of which a signature has more than two readings
pub record IsOfSignature (name : List ℕ) (files : Files) (stop : Stop) : Type 0 where
  pub from : HoldsFiles name files
  pub of : IsOfImport (seen_alone from.interface.language.name from.language) from.imports stop

-- the stop names the base file, whose body has more than two
pub record IsOfBody (name : List ℕ) (files : Files) (stop : Stop) : Type 0 where
  pub from : HoldsFiles name files
  pub environment : Tree
  pub around : IsEnvironmentOf from environment
  pub file : stop.file ≡ base_file name
  pub three : BodyHasThree (source_in from.language from.base environment)

-- the text of which the stop shows two readings is one that has more than two: a line of the
-- language's file, a signature, or the body
abbrev pub VerifyShowsFree : (name : List ℕ) → Files → Stop → Type 0
VerifyShowsFree name files s =
    IsOfVerifiedLanguage name files s ⊎ IsOfSignature name files s ⊎ IsOfBody name files s

-- the stops are the same, but for the two readings that they show of one such text
abbrev pub VerifiesAlikeButShown : (name : List ℕ) → Files → Stop → Stop → Type 0
VerifiesAlikeButShown name files s t = (s ≡ t) ⊎ (AreReadings s t × VerifyShowsFree name files s)

-- by the name and the files there is one result, and no try is made, but for read faults, out of
-- memory and such readings
abbrev pub VerifiesAgree : Type 0
VerifiesAgree =
    (name : List ℕ) (files : Files) (a b : Result Plan StepError) (m n : ℕ) →
    Untried (VerifiesModule name files) a m → Untried (VerifiesModule name files) b n →
    IsSure a → IsSure b → AnswersBy (VerifiesAlikeButShown name files) a b × (m ≡ n)

-- it never stops with a type error
abbrev pub VerifiesWithoutTypeErrors : Type 0
VerifiesWithoutTypeErrors =
    (name : List ℕ) (files : Files) (stop : Stop) → VerifiesModule name files (Err stop) →
    IsTypeError stop → ⊥
