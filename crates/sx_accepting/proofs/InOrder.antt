-- Extensions are read and accepted in order.
use Rattle.std.proofs.Common.{◌≡◌, ℕ, zero, suc, ◌+◌, ◌-◌, ◌<◌, ◌≤◌, List, [], ◌∷◌, map, length}
use Rattle.std.proofs.Common.{drop, get_or, refl, sym, ap, ◌∙◌, subst, arith}
use Rattle.std.proofs.lemmas.List.{drop_more, drop_all}
use Rattle.std.specs.List.{AllByRecursion}
use Rattle.std.specs.Prelude.{Result, Ok, Err}
use Rattle.sx_extcheck.specs.declared.budgets.Budgets.{Budgets}
use Rattle.sx_notation.specs.declared.language.Language.{Language}
use Rattle.sx_notation.specs.Language.{language_data}
use Rattle.sx_steps.specs.declared.step_error.StepError.{StepError}
use Rattle.sx_steps.specs.declared.step_error.StepError.TheVariants as errors
use Rattle.sx_steps.specs.Steps.{NoTries}
use Rattle.sx_steps.specs.Stop.{Does}
use Rattle.sx_steps.proofs.StepsOn.{goes_from, stops_at, untried, lacks_first}
use Rattle.sx_uses.specs.declared.extension_file.ExtensionFile.{ExtensionFile}
use Rattle.sx_uses.specs.ExtensionFile.{Extension, extension_of, extension_file, IsHeaderStated}
use Rattle.sx_accepting.specs.declared.extended.Extended.{Extended}
use Rattle.sx_accepting.specs.ExtendedLanguages.{ExtendedData, base_of, extended_data, unextended}
use Rattle.sx_accepting.specs.ExtendedLanguages.{CanExtendBy}
use Rattle.sx_accepting.specs.Extending.{ReadsAfter, Accepts, ExtendsBy, ExtendsLanguage, GoesOnBy}

module _ (l : Language) (budgets : Budgets) where
  -- memory may lack before any extension is read
  pub extends_nothing : (file : Extension) (so_far : ExtendedData) (steps : ℕ) →
      Does (extended_data l) (ExtendsBy (base_of l) budgets file so_far) (Err errors.Memory) steps
      steps
  extends_nothing file so_far steps =
      lacks_first (extended_data l) NoTries (ReadsAfter (base_of l) so_far file)
      (Accepts (base_of l) budgets (extension_file file.header.name) so_far) steps

  pub nothing_extends : (files : List Extension) (so_far : ExtendedData) (steps : ℕ) →
      Does (extended_data l) (ExtendsLanguage (base_of l) budgets files so_far) (Err errors.Memory) steps
      steps
  nothing_extends [] so_far steps =
      untried (extended_data l) (λ result. result ≡ Ok so_far) (Err errors.Memory) steps tt
  nothing_extends (file ∷ files) so_far steps =
      stops_at (extended_data l) (extended_data l) (ExtendsBy (base_of l) budgets file so_far)
      (ExtendsLanguage (base_of l) budgets files) errors.Memory steps steps
      (extends_nothing file so_far steps)

  -- what the extensions that are left do after those so far, all of them do
  abbrev pub LeadsOn : (files rest : List Extension) → (first now : ℕ) → Extended → Type 0
  LeadsOn files rest first now so_far =
      (result : Result Extended StepError) (after : ℕ) →
      Does (extended_data l) (ExtendsLanguage (base_of l) budgets rest (extended_data l so_far)) result
      now after →
      Does (extended_data l) (ExtendsLanguage (base_of l) budgets files (unextended (language_data l)))
      result first after

  module _ (files : List Extension) (first : ℕ) where
    pub leads_first : (begun : Extended) → extended_data l begun ≡ unextended (language_data l) →
        LeadsOn files files first first begun
    leads_first begun is result after does =
        subst (λ (x : ExtendedData). Does (extended_data l) (ExtendsLanguage (base_of l) budgets files x)
        result first after) is does

    module _ (now : ℕ) (so_far : Extended) where
      pub leads_next : (file : Extension) (rest : List Extension) (between : ℕ) (next : Extended) →
          LeadsOn files (file ∷ rest) first now so_far →
          Does (extended_data l) (ExtendsBy (base_of l) budgets file (extended_data l so_far))
          (Ok next) now between → LeadsOn files rest first between next
      leads_next file rest between next leads does result after more =
          leads result after (goes_from (extended_data l)
          (ExtendsBy (base_of l) budgets file (extended_data l so_far))
          (ExtendsLanguage (base_of l) budgets rest) (extended_data l next) result now between after
          does more)

      pub leads_stop : (file : Extension) (rest : List Extension) (after : ℕ) (e : StepError) →
          LeadsOn files (file ∷ rest) first now so_far →
          Does (extended_data l) (ExtendsBy (base_of l) budgets file (extended_data l so_far))
          (Err e) now after → Does (extended_data l)
          (ExtendsLanguage (base_of l) budgets files (unextended (language_data l))) (Err e) first
          after
      leads_stop file rest after e leads does =
          leads (Err e) after (stops_at (extended_data l) (extended_data l)
          (ExtendsBy (base_of l) budgets file (extended_data l so_far))
          (ExtendsLanguage (base_of l) budgets rest) e now after does)

      pub leads_end : LeadsOn files [] first now so_far →
          Does (extended_data l) (ExtendsLanguage (base_of l) budgets files (unextended (language_data l)))
          (Ok so_far) first now
      leads_end leads = leads (Ok so_far) now (untried (extended_data l) (λ result. result ≡ Ok
          (extended_data l so_far)) (Ok so_far) now refl)

-- ---- files

-- the files from a place on
pub rest_is : (files : List ExtensionFile) (i : ℕ) (file : ExtensionFile) → i < length files →
    file ≡ get_or files i file → map extension_of (drop i files) ≡ extension_of file ∷ map
    extension_of (drop (i + 1) files)
rest_is files i file below is =
    ap (λ (l : List ExtensionFile). map extension_of l) (drop_more files i file below) ∙
    ap (λ (f : ExtensionFile). extension_of f ∷ map extension_of (drop (i + 1) files)) (sym is)

pub none_left : (files : List ExtensionFile) (i : ℕ) → length files ≤ i →
    map extension_of (drop i files) ≡ []
none_left files i all = ap (λ (l : List ExtensionFile). map extension_of l) (drop_all i files all)

-- none of them is too long
pub short_at : (files : List ExtensionFile) → AllByRecursion IsHeaderStated (map extension_of files) →
    (i : ℕ) (file : ExtensionFile) → i < length files → file ≡ get_or files i file →
    length file.bytes.items ≤ 262144
short_at [] h i file below is = absurd (omega (arith, below))
short_at (f ∷ fs) h zero file below is =
    subst (λ (x : ExtensionFile). length x.bytes.items ≤ 262144) (sym is) h.0.short
short_at (f ∷ fs) h (suc i) file below is = short_at fs h.1 i file (omega (arith, below)) is

-- one file less is left
pub one_less : (l : Language) (so_far next : Extended) (many i : ℕ) → i < many →
    GoesOnBy l so_far next → CanExtendBy l so_far (many - i) → CanExtendBy l next (many - (i + 1))
one_less l so_far next many i below goes can =
    let same : many - i ≡ suc (many - (i + 1)) = omega arith in
    goes (many - (i + 1)) (subst (λ (n : ℕ). CanExtendBy l so_far n) same can)
