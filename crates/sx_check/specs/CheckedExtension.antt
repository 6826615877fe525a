-- What `check NAME` promises.
use Rattle.std.specs.Prelude.{◌≡◌, ℕ, ◌-◌, ◌<◌, ◌≤◌, List, [], ◌∷◌, ◌++◌, Some, Ok, length, map}
use Rattle.sx_rules.specs.Derivations.{Proof}
use Rattle.sx_rules.specs.Views.{named, subjects_in}
use Rattle.sx_rewrite.specs.declared.ext_rule.ExtRule.{ExtRule}
use Rattle.sx_rewrite.specs.Accepted.{Checked}
use Rattle.sx_rewrite.specs.Extensions.{with_table}
use Rattle.sx_rewrite.specs.ExtensionView.{ext_rule}
use Rattle.sx_rewrite.specs.Sound.{AreSoundBy}
use Rattle.sx_rewrite.specs.Stored.{certificate_at}
use Rattle.sx_extcheck.specs.declared.budgets.Budgets.{Budgets}
use Rattle.sx_outline.specs.Headers.{IsHeaderAnswer}
use Rattle.sx_outside.specs.Files.{Files, after_writes}
use Rattle.sx_steps.specs.Work.{Plan}
use Rattle.sx_uses.specs.ExtensionFile.{Extension, extension_file}
use Rattle.sx_uses.specs.ReadUses.{ReadsUses}
use Rattle.sx_accepting.specs.ExtendedLanguages.{BaseLanguage, ExtendedData, SetData, unextended}
use Rattle.sx_accepting.specs.Extending.{ReadData, bodies_in, ReadsAfter, ExtendsLanguage}
use Rattle.sx_accepting.specs.LanguageFiles.{language_file}
use Rattle.sx_accepting.specs.Laws.{IsAcceptedOver}
use Rattle.sx_accepting.specs.ReadLanguage.{Stated, IsLanguageStated, base_in}
use Rattle.sx_check.specs.CheckExtension.{ChecksExtension, shown_in}
use Rattle.sx_check.specs.CheckText.{check_text}

-- each of so many rules of the set, the last ones, has a certificate
abbrev pub HaveCertificates : SetData → (last : ℕ) → Type 0
HaveCertificates s last =
    (number : ℕ) → length s.rules - last ≤ number → number < length s.rules →
    (p : Proof) × (certificate_at s.kept number ≡ Some p)

-- The rules that were read, each with its body, are sound after the extensions so far, by what is
-- stored of them: the flat body of each and its certificate.
pub record LastAreSound (so_far : ExtendedData) (read : ReadData) (x : ExtendedData) : Type 0 where
  pub rules : List ExtRule
  pub rules_are : map (λ e. named e.rule) rules ≡ read.rules
  pub bodies_are : bodies_in rules ≡ read.bodies
  pub stored : List Checked
  pub stored_are : x.set.kept.more ≡ so_far.set.kept.more ++ stored
  pub sound : AreSoundBy (subjects_in so_far.set.forms) (length so_far.set.base_shapes)
      (with_table so_far.set.kept read.table) (map ext_rule rules) stored

-- This extension comes last. It is read after all others, the last rules are those that its file
-- states, and these are sound.
pub record ComesLast (l : BaseLanguage) (budgets : Budgets) (own : Extension)
    (extensions : List Extension) (x : ExtendedData) : Type 0 where
  pub before : List Extension
  pub parts : extensions ≡ before ++ own ∷ []
  pub so_far : ExtendedData
  pub tries : ℕ
  pub extends : ExtendsLanguage l budgets before (unextended l.content) (Ok so_far) tries
  pub read : ReadData
  pub reads : ReadsAfter l so_far own (Ok read)
  pub rules : x.set.rules ≡ so_far.set.rules ++ read.rules
  pub count : x.last ≡ length read.rules
  pub sound : LastAreSound so_far read x

-- The extension in the file NAME.ext and those that are reached by its `use` lines, each after all
-- that it uses and NAME last, are accepted in order over the language that its header names, as
-- that file states it: each rule of each has a certificate, by which its flat conclusion follows
-- from its flat premises by the rules of the language alone. The rules that the file of NAME states
-- are sound after all others. All files are as before, and the lines tell the certificates of these
-- rules, and how many they are.
pub record CheckedExtension (name : List ℕ) (budgets : Budgets) (old new : Files)
    (text : List ℕ) : Type 0 where
  pub own : Extension
  pub language_bytes : List ℕ
  pub language : Stated
  pub extensions : List Extension
  pub extended : ExtendedData
  pub tries : ℕ
  pub held : old (extension_file name) ≡ Some own.bytes
  pub headed : IsHeaderAnswer name own.bytes (Ok own.header)
  pub language_held : old (language_file own.header.language) ≡ Some language_bytes
  pub stated : IsLanguageStated own.header.language language_bytes language
  pub reached :
      ReadsUses (extension_file name) own.header.language (name ∷ []) old (Ok extensions)
  pub extends : ExtendsLanguage (base_in language) budgets extensions (unextended language.language)
      (Ok extended) tries
  pub accepted : IsAcceptedOver (base_in language) extended
  pub last : ComesLast (base_in language) budgets own extensions extended
  pub certified : HaveCertificates extended.set extended.last
  pub same : new ≡ old
  pub lines : text ≡ check_text (shown_in extended.set) name
      (length extended.set.rules - extended.last) extended.last

-- where the check ends with lines, and the files are as it leaves them, it promises this
abbrev pub ChecksKeepPromise : Type 0
ChecksKeepPromise =
    (name : List ℕ) (budgets : Budgets) (old new : Files) (plan : Plan) (tries : ℕ) →
    ChecksExtension name budgets old (Ok plan) tries → new ≡ after_writes plan.files old →
    CheckedExtension name budgets old new plan.lines
