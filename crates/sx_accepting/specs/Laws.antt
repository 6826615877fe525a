-- Laws of languages with extensions.
use Rattle.std.specs.Prelude.{◌≡◌, ℕ, List, ◌∷◌, ◌++◌, map, Result, Ok, Err}
use Rattle.sx_grammar.specs.Told.{shapes_of}
use Rattle.sx_rules.specs.Views.{named}
use Rattle.sx_rewrite.specs.declared.ext_rule.ExtRule.{ExtRule}
use Rattle.sx_rewrite.specs.Accepted.{IsAccepted}
use Rattle.sx_rewrite.specs.Stored.{signature_of}
use Rattle.sx_extcheck.specs.declared.budgets.Budgets.{Budgets}
use Rattle.sx_extcheck.specs.Accepts.{HasUnsound}
use Rattle.sx_words.specs.declared.position.Position.TheVariants.{Rule}
use Rattle.sx_outside.specs.Files.{Files}
use Rattle.sx_steps.specs.declared.stop.Stop.{Stop}
use Rattle.sx_steps.specs.declared.step_error.StepError.{StepError}
use Rattle.sx_steps.specs.declared.step_error.StepError.TheVariants as errors
use Rattle.sx_steps.specs.Agree.{IsSure, AnswersBy}
use Rattle.sx_steps.specs.Steps.{Untried}
use Rattle.sx_steps.specs.TypeErrors.{IsTypeError}
use Rattle.sx_uses.specs.ExtensionFile.{Extension, extension_file}
use Rattle.sx_accepting.specs.ExtendedLanguages.{BaseLanguage, ExtendedData, unextended}
use Rattle.sx_accepting.specs.Extending.{ReadData, bodies_in, ReadsAfter, check_after}
use Rattle.sx_accepting.specs.Extending.{ExtendsLanguage}
use Rattle.sx_accepting.specs.Alike.{StopsAtLanguage, StopsAtExtension, SameButReadings}
use Rattle.sx_accepting.specs.ReadLanguage.{Stated, IsLanguageStated, ReadsLanguage, base_in}

-- the set is accepted over the shapes and the forms of the language
pub record IsAcceptedOver (l : BaseLanguage) (x : ExtendedData) : Type 0 where
  pub shapes : x.set.base_shapes ≡ shapes_of l.content.parts
  pub forms : x.set.forms ≡ l.content.forms
  pub accepted : IsAccepted (signature_of x.set.forms) x.set.base_shapes x.set.shapes x.set.kept

-- what a language that a text states becomes by extensions is accepted
abbrev pub ExtendedIsAccepted : Type 0
ExtendedIsAccepted = (name bytes : List ℕ) (l : Stated) → IsLanguageStated name bytes l →
    (budgets : Budgets) (files : List Extension) (x : ExtendedData) (tries : ℕ) →
    ExtendsLanguage (base_in l) budgets files (unextended l.language) (Ok x) tries →
    IsAcceptedOver (base_in l) x

-- by the name and the files a language's file states one language or has one stop, read faults
-- aside, but for the two readings that a stop shows of a line with more than two
abbrev pub LanguagesAgree : Type 0
LanguagesAgree = (name : List ℕ) (files : Files) (a b : Result Stated StepError) (m n : ℕ) →
    Untried (ReadsLanguage name files) a m → Untried (ReadsLanguage name files) b n →
    IsSure a → IsSure b → AnswersBy (SameButReadings (StopsAtLanguage name files)) a b × (m ≡ n)

-- by the language, the files and the budgets there is one result and one number of tries, out of
-- memory aside, but for the two readings that a stop shows of a line with more than two
abbrev pub ExtendsAgree : Type 0
ExtendsAgree = (name bytes : List ℕ) (l : Stated) → IsLanguageStated name bytes l →
    (budgets : Budgets) (files : List Extension) (a b : Result ExtendedData StepError) (m n : ℕ) →
    ExtendsLanguage (base_in l) budgets files (unextended l.language) a m →
    ExtendsLanguage (base_in l) budgets files (unextended l.language) b n →
    IsSure a → IsSure b →
    AnswersBy (SameButReadings (StopsAtExtension (base_in l) budgets (unextended l.language) files))
    a b × (m ≡ n)

-- One of these extensions, which is read after those before it, has a rule that is sound by
-- nothing, and the stop is about this rule, in the file of that extension.
pub record StopsAtUnsound (l : BaseLanguage) (budgets : Budgets) (files : List Extension)
    (stop : Stop) : Type 0 where
  pub before : List Extension
  pub this : Extension
  pub after : List Extension
  pub parts : files ≡ before ++ this ∷ after
  pub so_far : ExtendedData
  pub tries : ℕ
  pub extends : ExtendsLanguage l budgets before (unextended l.content) (Ok so_far) tries
  pub read : ReadData
  pub reads : ReadsAfter l so_far this (Ok read)
  pub rules : List ExtRule
  pub rules_are : map (λ e. named e.rule) rules ≡ read.rules
  pub bodies_are : bodies_in rules ≡ read.bodies
  pub rule : List ℕ
  pub unsound : HasUnsound (check_after so_far.set read.table budgets) rules rule
  pub file : stop.file ≡ extension_file this.header.name
  pub place : stop.refusal.place ≡ Rule rule

-- extensions are refused for a type error only where the rule that the stop is about is not sound
abbrev pub UnsoundIsFinal : Type 0
UnsoundIsFinal = (name bytes : List ℕ) (l : Stated) → IsLanguageStated name bytes l →
    (budgets : Budgets) (files : List Extension) (stop : Stop) (tries : ℕ) →
    ExtendsLanguage (base_in l) budgets files (unextended l.language) (Err
    (errors.Stopped stop)) tries →
    IsTypeError stop → StopsAtUnsound (base_in l) budgets files stop
