-- The steps of `check NAME`.
use Rattle.std.specs.Prelude.{◌≡◌, ℕ, ◌-◌, List, [], ◌∷◌, length, Result, Ok}
use Rattle.sx_outside.specs.Files.{Files}
use Rattle.sx_extcheck.specs.declared.budgets.Budgets.{Budgets}
use Rattle.sx_steps.specs.declared.step_error.StepError.{StepError}
use Rattle.sx_steps.specs.Steps.{Untried, AndThen}
use Rattle.sx_steps.specs.Work.{Plan}
use Rattle.sx_uses.specs.ExtensionFile.{Extension, extension_file}
use Rattle.sx_uses.specs.ReadExtension.{ReadsFile}
use Rattle.sx_uses.specs.ReadUses.{ReadsUses}
use Rattle.sx_accepting.specs.ExtendedLanguages.{BaseLanguage, ExtendedData, SetData, unextended}
use Rattle.sx_accepting.specs.Extending.{ExtendsLanguage}
use Rattle.sx_accepting.specs.ReadLanguage.{Stated, base_in, ReadsLanguage}
use Rattle.sx_check.specs.CheckText.{Shown, check_text}

-- what is shown of an accepted set
abbrev pub shown_in : SetData → Shown
shown_in s = record { set = s.kept; base = s.base_rules; rules = s.rules }

-- the lines of so many rules of the set, the last ones, and no file
abbrev pub plan_with : List ℕ → SetData → (last : ℕ) → Plan
plan_with name s last = record {
  files = [];
  lines = check_text (shown_in s) name (length s.rules - last) last;
}

-- so of the rules of the last extension
abbrev pub check_plan : List ℕ → ExtendedData → Plan
check_plan name x = plan_with name x.set x.last

-- the extensions are read and accepted in order, and then the lines of the last of them
abbrev pub ChecksAll : List ℕ → Budgets → BaseLanguage → List Extension →
    Result Plan StepError → ℕ → Type 0
ChecksAll name budgets l xs =
    AndThen (ExtendsLanguage l budgets xs (unextended l.content))
    (λ x. Untried (λ result. result ≡ Ok (check_plan name x)))

-- the extensions that are reached by `use` lines from the one with this name, which comes last, and
-- then all of these
abbrev pub ChecksReached : List ℕ → Budgets → Files → (language : List ℕ) → BaseLanguage →
    Result Plan StepError → ℕ → Type 0
ChecksReached name budgets files language l =
    AndThen (Untried (ReadsUses (extension_file name) language (name ∷ []) files))
    (ChecksAll name budgets l)

-- so over a language that was read
abbrev pub ChecksOver : List ℕ → Budgets → Files → (language : List ℕ) → Stated →
    Result Plan StepError → ℕ → Type 0
ChecksOver name budgets files language l = ChecksReached name budgets files language (base_in l)

-- the language that the header names, and then the extensions
abbrev pub ChecksFile : List ℕ → Budgets → Files → Extension → Result Plan StepError → ℕ → Type 0
ChecksFile name budgets files x =
    AndThen (Untried (ReadsLanguage x.header.language files))
    (ChecksOver name budgets files x.header.language)

-- the steps of the command, with so many tries and nodes to spend for each rule
abbrev pub ChecksExtension : List ℕ → Budgets → Files → Result Plan StepError → ℕ → Type 0
ChecksExtension name budgets files =
    AndThen (Untried (ReadsFile files name)) (ChecksFile name budgets files)
