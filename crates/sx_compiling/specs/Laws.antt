-- What is proved of the units of modules.
use Rattle.std.specs.Prelude.{◌≡◌, ◌⊎◌, ℕ, suc, ◌*◌, ◌≤◌, length, Result, Ok, Err, Some, slice_get}
use Rattle.sx_extcheck.specs.declared.budgets.Budgets.{Budgets}
use Rattle.sx_interface.specs.Interfaces.{InterfaceParts}
use Rattle.sx_typing.specs.Alike.{BodyHasThree}
use Rattle.sx_typing.specs.Refused.{IsUntyped}
use Rattle.sx_unit.specs.Alike.{PartHasThree}
use Rattle.sx_unit.specs.Modules.{ModuleData}
use Rattle.sx_unit.specs.Unit.{HasLowering}
use Rattle.sx_unit.specs.Written.{UnitData}
use Rattle.sx_environment.specs.Alike.{HasRowOfThree}
use Rattle.sx_outside.specs.Files.{Files}
use Rattle.sx_words.specs.declared.refusal.Defect.{Defect}
use Rattle.sx_words.specs.declared.refusal.Defect.TheVariants as defect
use Rattle.sx_words.specs.declared.print_defect.PrintDefect.TheVariants as print_defect
use Rattle.sx_words.specs.declared.text_defect.TextDefect.TheVariants as text_defect
use Rattle.sx_steps.specs.declared.stop.Stop.{Stop}
use Rattle.sx_steps.specs.declared.step_error.StepError.{StepError}
use Rattle.sx_steps.specs.declared.step_error.StepError.TheVariants as errors
use Rattle.sx_steps.specs.Agree.{AreReadings, IsSure, AnswersBy}
use Rattle.sx_steps.specs.TypeErrors.{IsTypeError}
use Rattle.sx_steps.specs.Unit.{interface_file}
use Rattle.sx_uses.specs.Laws.{AnswerAlike}
use Rattle.sx_accepting.specs.Alike.{StopsAtExtension}
use Rattle.sx_accepting.specs.ExtendedLanguages.{unextended}
use Rattle.sx_accepting.specs.Laws.{StopsAtUnsound}
use Rattle.sx_accepting.specs.ReadLanguage.{base_in}
use Rattle.sx_compiling.specs.Given.{GivenModule, interfaces_in}
use Rattle.sx_compiling.specs.MakeUnit.{MakesUnit}
use Rattle.sx_compiling.specs.Reached.{HasNamedLanguage, ReachesExtensions, HasDialect}
use Rattle.sx_compiling.specs.Reached.{HasGround, seen_over, module_over}

-- ---- one result

-- the text of which the defect shows two readings has more than two: the body of the module, or
-- what is printed of it
abbrev pub ShowsOfThree : ModuleData → Budgets → Defect → Type 0
ShowsOfThree m b (defect.Text (text_defect.Ambiguous one other)) = BodyHasThree m.source
ShowsOfThree m b (defect.Print part (print_defect.Ambiguous one other)) =
    (l : HasLowering m b) × PartHasThree m l.terms part
ShowsOfThree m b _ = ⊥

-- it is so of the stop of the module in its dialect
pub record IsOfThree (budgets : Budgets) (files : Files) (g : GivenModule)
    (stop : Stop) : Type 0 where
  pub ground : HasGround budgets files g
  pub file : stop.file ≡ g.file
  pub three : ShowsOfThree (module_over ground) budgets stop.refusal.defect

-- the stop is about a row of an import's interface, as it is seen, that has more than two readings
pub record IsOfRow (budgets : Budgets) (files : Files) (g : GivenModule)
    (stop : Stop) : Type 0 where
  pub over : HasDialect budgets files g
  pub import : ℕ
  pub it : InterfaceParts
  pub is : slice_get (interfaces_in g) import ≡ Some it
  pub file : stop.file ≡ interface_file it.name
  pub three : HasRowOfThree (seen_over over) it

-- one of the extensions is refused, which is read after those before it, and the stop is about a
-- line of its file that has more than two readings
pub record IsOfExtension (budgets : Budgets) (files : Files) (g : GivenModule)
    (stop : Stop) : Type 0
  where
    pub from : ReachesExtensions files g
    pub stops : StopsAtExtension (base_in g.language) budgets (unextended g.language.language)
        from.extensions stop

-- the text of which the stop shows two readings is one that has more than two: a text of the
-- module, a row of an import, or a line of an extension's file
abbrev pub ShowsFree : Budgets → Files → GivenModule → Stop → Type 0
ShowsFree budgets files g s = IsOfThree budgets files g s ⊎ IsOfRow budgets files g s
    ⊎ IsOfExtension budgets files g s

-- the stops give the same status and the same line, but for the two readings that they show of one
-- such text
abbrev pub SameButShown : Budgets → Files → GivenModule → Stop → Stop → Type 0
SameButShown budgets files g s t =
    AnswerAlike s t ⊎ (AreReadings s t × ShowsFree budgets files g s)

-- by what is given, the budgets and the files there is one result and one number of tries, but for
-- read faults, out of memory and such readings
abbrev pub UnitsAgree : Type 0
UnitsAgree =
    (budgets : Budgets) (files : Files) (g : GivenModule) (a b : Result UnitData StepError)
    (m n : ℕ) →
    HasNamedLanguage g → MakesUnit budgets files g a m → MakesUnit budgets files g b n →
    IsSure a → IsSure b → AnswersBy (SameButShown budgets files g) a b × (m ≡ n)

-- ---- type errors

-- the module in its dialect has a body whose goal has no derivation; the stop names its file
pub record HasNoType (budgets : Budgets) (files : Files) (g : GivenModule)
    (stop : Stop) : Type 0 where
  pub ground : HasGround budgets files g
  pub untyped : IsUntyped (module_over ground).source
  pub file : stop.file ≡ g.file

-- one of the extensions that are reached has a rule that is sound by nothing; the stop names its
-- file and the rule
pub record HasUnsoundRule (budgets : Budgets) (files : Files) (g : GivenModule)
    (stop : Stop) : Type 0
  where
    pub from : ReachesExtensions files g
    pub unsound : StopsAtUnsound (base_in g.language) budgets from.extensions stop

-- there is a type error only where the module has no type by the rules of its dialect, or a rule of
-- one of its extensions is not sound
abbrev pub TypeErrorsOfUnitsAreFinal : Type 0
TypeErrorsOfUnitsAreFinal =
    (budgets : Budgets) (files : Files) (g : GivenModule) (stop : Stop) (tries : ℕ) →
    HasNamedLanguage g →
    MakesUnit budgets files g (Err (errors.Stopped stop)) tries → IsTypeError stop →
    HasNoType budgets files g stop ⊎ HasUnsoundRule budgets files g stop

-- ---- tries

-- There is at most one walk for each rule of the extensions, which are with the language's rules at
-- most 4,096, and one for the module; and a walk makes no more tries than it may spend.
pub record UnitsWalksAreWithin : Type 0 where
  pub made : (budgets : Budgets) (files : Files) (g : GivenModule) (unit : UnitData) (tries : ℕ) →
      HasNamedLanguage g → MakesUnit budgets files g (Ok unit) tries →
      (d : HasDialect budgets files g)
      × (tries ≤ suc (length d.extended.set.kept.more) * budgets.tries)
  pub all : (budgets : Budgets) (files : Files) (g : GivenModule)
      (result : Result UnitData StepError)
      (tries : ℕ) → HasNamedLanguage g → MakesUnit budgets files g result tries →
      tries ≤ 4097 * budgets.tries
