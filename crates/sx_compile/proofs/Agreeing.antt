-- `compile NAME` has one result, but for read faults and for two readings that a stop shows of a
-- text that has more.
use Rattle.std.proofs.Common.{◌≡◌, ℕ, List, [], ◌∷◌, ◌++◌, refl, sym, ap, ◌∙◌, inl, inr, arith}
use Rattle.std.specs.Prelude.{Result, Ok, Err, codes}
use Rattle.sx_words.specs.Lines.{line_text}
use Rattle.sx_words.specs.RefusalText.{joined, names_text}
use Rattle.sx_rules.specs.Views.{NamedRule}
use Rattle.sx_audit.specs.Meaning.{Meaning}
use Rattle.sx_extcheck.specs.declared.budgets.Budgets.{Budgets}
use Rattle.sx_interface.specs.Headers.{HeaderParts}
use Rattle.sx_unit.specs.Written.{UnitData}
use Rattle.sx_outside.specs.Files.{Files}
use Rattle.sx_steps.specs.declared.stop.Stop.{Stop}
use Rattle.sx_steps.specs.Agree.{AnswersBy}
use Rattle.sx_steps.specs.Refusal.{status_of, line_of}
use Rattle.sx_steps.specs.Steps.{NoTries, Untried}
use Rattle.sx_steps.proofs.Ones.{IsOne, IsOneBy, then_one, and_then_by, as_answer, answers_so}
use Rattle.sx_steps.proofs.Ones.{trying_by, trying_same, no_tries_one}
use Rattle.sx_uses.specs.Laws.{AnswerAlike}
use Rattle.sx_walking.specs.Reached.{TellsCycle}
use Rattle.sx_accepting.specs.ReadLanguage.{Stated, ReadsLanguage}
use Rattle.sx_accepting.specs.Alike.{StopsAtLanguage, SameButReadings}
use Rattle.sx_accepting.proofs.OneLanguageFile.{languages_agree}
use Rattle.sx_auditing.specs.Laws.{ShowsOnce}
use Rattle.sx_auditing.specs.Shows.{Shows}
use Rattle.sx_headers.specs.ReadModule.{Module, ReadsModule}
use Rattle.sx_headers.proofs.OneHeaders.{reads_module_one}
use Rattle.sx_importing.specs.ReadImports.{ReadsImports}
use Rattle.sx_importing.proofs.OneImports.{reads_imports_one}
use Rattle.sx_compiling.specs.Laws.{UnitsAgree}
use Rattle.sx_compiling.specs.Laws.{SameButShown as UnitShown}
use Rattle.sx_compiling.specs.MakeUnit.{MakesUnit}
use Rattle.sx_headers.specs.ModuleFiles.{module_file}
use Rattle.sx_compile.specs.AuditedPlans.{audited_plan, AuditsUnit}
use Rattle.sx_compile.specs.CompileModule.{given_to_compile, CompilesGiven, CompilesOver, CompilesFew}
use Rattle.sx_compile.specs.CompileModule.{CompilesOthers, CompilesRead}
use Rattle.sx_compile.specs.Found.{IsModule, IsModuleFound, given_from}
use Rattle.sx_compile.specs.Imports.{ImportsOthers, ImportsFew}
use Rattle.sx_compile.specs.Laws.{CompilesAlikeButShown, CompilesAgree}
use Rattle.sx_compile.proofs.FoundModules.{language_of}

-- ---- steps

cycles_alike : (file : List ℕ) (names : List (List ℕ)) (s t : Stop) → TellsCycle file names s →
    TellsCycle file names t → AnswerAlike s t
cycles_alike file names s t h k = record {
  status = ap status_of h.is ∙ sym (ap status_of k.is);
  line = ap line_of h.is
      ∙ ap (λ (l : List (List ℕ)). line_text file (joined (codes "cycle" ∷ []) ++ names_text l))
      (h.same ∙ sym k.same) ∙ sym (ap line_of k.is);
}

few_one : (file : List ℕ) (header : HeaderParts) → IsOne (ImportsFew file header)
few_one file header (Ok a) (Ok b) h k f g = refl
few_one file header (Ok a) (Err t) h k f g = let more = k.0 in absurd (omega (arith, h, more))
few_one file header (Err s) (Ok b) h k f g = let more = h.0 in absurd (omega (arith, more, k))
few_one file header (Err s) (Err t) h k f g = ap Err (h.1 ∙ sym k.1)

audits_one : ShowsOnce → (name : List ℕ) (rules : List NamedRule) (auditors : List Meaning)
    (unit : UnitData) → IsOne (AuditsUnit name rules auditors unit)
audits_one once name rules auditors unit =
    then_one (Shows (module_file name) rules auditors unit.list)
    (λ kept result. result ≡ Ok (audited_plan name unit kept))
    (λ x y h k f g. once (module_file name) rules auditors unit.list x y h k)
    (λ kept shown x y h k f g. h ∙ sym k)

-- ---- the command

module _ (units : UnitsAgree) (once : ShowsOnce) (name : List ℕ) (budgets : Budgets)
    (auditors : List Meaning) (files : Files) where
  abbrev Related : Stop → Stop → Type 0
  Related = CompilesAlikeButShown name budgets files

  same_alike : (s t : Stop) → s ≡ t → Related s t
  same_alike s t e = inl (record { status = ap status_of e; line = ap line_of e })

  alike : (s : Stop) → Related s s
  alike s = same_alike s s refl

  -- the unit
  module _ (f : IsModuleFound name files) where
    of_unit : (s t : Stop) → UnitShown budgets files (given_from f) s t → Related s t
    of_unit s t (inl same) = inl same
    of_unit s t (inr (are, free)) = inr (are, inr (f, free))

    given_by : IsOneBy Related (CompilesGiven name budgets auditors files (given_from f))
    given_by =
        and_then_by Related (MakesUnit budgets files (given_from f))
        (λ unit. Untried (AuditsUnit name f.language.language.rules auditors unit))
        (λ a b m n h k p q.
        let one = units budgets files (given_from f) a b m n (language_of name files f) h k p q in
        (answers_so (UnitShown budgets files (given_from f)) Related of_unit a b one.0, one.1))
        (λ unit before made. trying_same Related alike NoTries
        (AuditsUnit name f.language.language.rules auditors unit) no_tries_one
        (audits_one once name f.language.language.rules auditors unit))

  -- the files
  module _ (m : IsModule name files) where
    over_by : (l : Stated) → ReadsLanguage m.read.header.language files (Ok l) →
        IsOneBy Related (CompilesOver name budgets auditors files m.read l)
    over_by l states =
        and_then_by Related (Untried (ReadsImports files m.read.header.imports))
        (λ imports. CompilesGiven name budgets auditors files (given_to_compile name m.read l imports))
        (trying_same Related alike NoTries (ReadsImports files m.read.header.imports) no_tries_one
        (reads_imports_one files m.read.header.imports))
        (λ imports before h. given_by (record {
          from = m;
          language = l;
          states = states;
          imports = imports;
          imported = h.0;
        }))

    abbrev SameLanguages : Stop → Stop → Type 0
    SameLanguages = SameButReadings (StopsAtLanguage m.read.header.language files)

    of_language : (s t : Stop) → SameLanguages s t → Related s t
    of_language s t (inl same) = same_alike s t same
    of_language s t (inr (are, stops)) = inr (are, inl (record { from = m; stops = stops }))

    few_by : IsOneBy Related (CompilesFew name budgets auditors files m.read)
    few_by =
        and_then_by Related (Untried (ReadsLanguage m.read.header.language files))
        (CompilesOver name budgets auditors files m.read)
        (λ a b i j h k p q.
        let one = languages_agree m.read.header.language files a b i j h k p q in
        (answers_so SameLanguages Related of_language a b one.0, one.1))
        (λ l before h. over_by l h.0)

  module _ (m : Module) (reads : ReadsModule (module_file name) name files (Ok m)) where
    others_by : ImportsOthers (module_file name) name m.header (Ok tt) →
        IsOneBy Related (CompilesOthers name budgets auditors files m)
    others_by others =
        and_then_by Related (Untried (ImportsFew (module_file name) m.header))
        (λ done. CompilesFew name budgets auditors files m)
        (trying_same Related alike NoTries (ImportsFew (module_file name) m.header) no_tries_one
        (few_one (module_file name) m.header))
        (λ done before h. few_by (record {
          read = m;
          reads = reads;
          others = others;
          few = h.0;
        }))

    cycle_by : (x y : Result (Unit {0}) Stop) →
        ImportsOthers (module_file name) name m.header x →
        ImportsOthers (module_file name) name m.header y →
        AnswersBy Related (as_answer x) (as_answer y)
    cycle_by (Ok a) (Ok b) h k = refl
    cycle_by (Ok a) (Err t) h k = absurd (h k.0)
    cycle_by (Err s) (Ok b) h k = absurd (k h.0)
    cycle_by (Err s) (Err t) h k =
        inl (cycles_alike (module_file name) (name ∷ name ∷ []) s t h.1 k.1)

    read_by : IsOneBy Related (CompilesRead name budgets auditors files m)
    read_by =
        and_then_by Related (Untried (ImportsOthers (module_file name) name m.header))
        (λ done. CompilesOthers name budgets auditors files m)
        (trying_by Related NoTries (ImportsOthers (module_file name) name m.header) no_tries_one
        (λ x y h k f g. cycle_by x y h k))
        (λ done before h. others_by h.0)

pub compiles_agree : UnitsAgree → ShowsOnce → CompilesAgree
compiles_agree units once name budgets auditors files =
    and_then_by (CompilesAlikeButShown name budgets files)
    (Untried (ReadsModule (module_file name) name files)) (CompilesRead name budgets auditors files)
    (trying_same (CompilesAlikeButShown name budgets files) (alike units once name budgets auditors files)
    NoTries (ReadsModule (module_file name) name files) no_tries_one
    (reads_module_one (module_file name) name files))
    (λ m before h. read_by units once name budgets auditors files m h.0)
