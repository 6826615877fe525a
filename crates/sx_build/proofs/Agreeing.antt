-- `build NAME` has one result, but for read faults and for two readings that a stop shows of a text
-- that has more.
use Rattle.std.proofs.Common.{◌≡◌, ℕ, List, [], ◌∷◌, refl, ap, inl, inr}
use Rattle.std.specs.Prelude.{Result, Ok, Err}
use Rattle.sx_audit.specs.Meaning.{Meaning}
use Rattle.sx_extcheck.specs.declared.budgets.Budgets.{Budgets}
use Rattle.sx_unit.specs.Written.{UnitData}
use Rattle.sx_outside.specs.Files.{Files}
use Rattle.sx_steps.specs.declared.stop.Stop.{Stop}
use Rattle.sx_steps.specs.Agree.{IsNoReadFault, IsSure, AnswersBy}
use Rattle.sx_steps.specs.Refusal.{status_of, line_of}
use Rattle.sx_steps.specs.Steps.{NoTries, Untried}
use Rattle.sx_steps.specs.Stop.{Gives}
use Rattle.sx_steps.proofs.Ones.{IsOne, IsOneBy, then_one, and_then_by, as_answer, answers_so}
use Rattle.sx_steps.proofs.Ones.{trying_by, trying_same, no_tries_one}
use Rattle.sx_walking.specs.Laws.{AnswerAlike}
use Rattle.sx_accepting.specs.ReadLanguage.{Stated, ReadsLanguage}
use Rattle.sx_accepting.specs.Alike.{StopsAtLanguage, SameButReadings}
use Rattle.sx_accepting.proofs.OneLanguageFile.{languages_agree}
use Rattle.sx_auditing.specs.Laws.{ShowsOnce}
use Rattle.sx_auditing.specs.Shows.{Shows}
use Rattle.sx_headers.specs.ReadModule.{Module}
use Rattle.sx_importing.specs.ReadImports.{ReadsImports}
use Rattle.sx_importing.proofs.EachLoops.{is_given}
use Rattle.sx_importing.proofs.OneImports.{reads_imports_one}
use Rattle.sx_compiling.specs.Laws.{UnitsAgree}
use Rattle.sx_compiling.specs.Laws.{SameButShown as UnitShown}
use Rattle.sx_compiling.specs.MakeUnit.{MakesUnit}
use Rattle.sx_compiling.specs.Reached.{HasNamedLanguage}
use Rattle.sx_closure.specs.Closures.{HaveLanguage}
use Rattle.sx_headers.specs.ModuleFiles.{module_file}
use Rattle.sx_closure.specs.ReadModules.{ReadsModules}
use Rattle.sx_closure.proofs.Agreeing.{modules_alike}
use Rattle.sx_build.specs.BuildModules.{BuildProgress, none_made, with_unit, ShowsUnit, MakesWith}
use Rattle.sx_build.specs.BuildModules.{MakesNext, MakesAfter, whole_plan, language_in, BuildsOver}
use Rattle.sx_build.specs.BuildModules.{BuildsRead, BuildsModule}
use Rattle.sx_build.specs.Laws.{IsClosureFound, IsTurnOf, given_at, BuildsAlikeButShown, BuildsAgree}
use Rattle.sx_build.specs.MadeModules.{with_made}
use Rattle.sx_build.proofs.Languages.{HasBytes, have_language, has_bytes, given_language}
use Rattle.sx_build.proofs.Turns.{IsAt, at_begin, at_next, turn_of}

-- ---- steps

shows_one : ShowsOnce → (l : Stated) (before : BuildProgress) (m : Module) (unit : UnitData) →
    IsOne (ShowsUnit l before m unit)
shows_one once l before m unit =
    then_one (Shows (module_file m.header.name) l.language.rules before.auditors unit.list)
    (λ auditors result. result ≡ Ok (with_unit before m unit auditors))
    (λ x y h k f g. once (module_file m.header.name) l.language.rules before.auditors unit.list x y
    h k)
    (λ auditors shown. is_given (Ok (with_unit before m unit auditors)))

module _ (name : List ℕ) (files : Files) where
  answer_gives : (x : Result (List Module) Stop) → ReadsModules name files x →
      Gives (λ ms. ms) (ReadsModules name files) (as_answer x)
  answer_gives (Ok ms) h = h
  answer_gives (Err stop) h = h

  answer_sure : (x : Result (List Module) Stop) → IsNoReadFault x → IsSure (as_answer x)
  answer_sure (Ok ms) sure = tt
  answer_sure (Err stop) sure = sure

  modules_by : (x y : Result (List Module) Stop) → ReadsModules name files x →
      ReadsModules name files y → IsNoReadFault x → IsNoReadFault y →
      AnswersBy AnswerAlike (as_answer x) (as_answer y)
  modules_by x y h k f g =
      modules_alike name files (as_answer x) (as_answer y) (answer_gives x h) (answer_gives y k)
      (answer_sure x f) (answer_sure y g)

-- ---- the command

module _ (units : UnitsAgree) (once : ShowsOnce) (name : List ℕ) (budgets : Budgets)
    (auditors : List Meaning) (files : Files) where
  abbrev Related : Stop → Stop → Type 0
  Related = BuildsAlikeButShown name budgets auditors files

  same_alike : (s r : Stop) → s ≡ r → Related s r
  same_alike s r e = inl (record { status = ap status_of e; line = ap line_of e })

  alike : (s : Stop) → Related s s
  alike s = same_alike s s refl

  -- one module
  module _ (t : IsTurnOf name budgets auditors files) (language : HasNamedLanguage (given_at t)) where
    of_unit : (s r : Stop) → UnitShown budgets files (given_at t) s r → Related s r
    of_unit s r (inl same) = inl same
    of_unit s r (inr (are, free)) = inr (are, inr (t, free))

    with_by : IsOneBy Related (MakesWith budgets files t.found.language t.progress t.own t.imports)
    with_by =
        and_then_by Related (MakesUnit budgets files (given_at t))
        (λ unit. Untried (ShowsUnit t.found.language t.progress t.own unit))
        (λ a b m n h k p q.
        let one = units budgets files (given_at t) a b m n language h k p q in
        (answers_so (UnitShown budgets files (given_at t)) Related of_unit a b one.0, one.1))
        (λ unit before made. trying_same Related alike NoTries
        (ShowsUnit t.found.language t.progress t.own unit) no_tries_one
        (shows_one once t.found.language t.progress t.own unit))

  -- all modules
  module _ (f : IsClosureFound name files) where
    bytes : HasBytes (language_in f.modules) f.language
    bytes = has_bytes (language_in f.modules) files f.language f.states

    next_by : (m : Module) (ms : List Module) (progress : BuildProgress) →
        m.header.language ≡ language_in f.modules →
        IsAt name budgets auditors files f (m ∷ ms) progress →
        IsOneBy Related (MakesNext budgets files f.language progress m)
    next_by m ms progress same at =
        and_then_by Related
        (Untried (ReadsImports (with_made progress.made files) m.header.imports))
        (MakesWith budgets files f.language progress m)
        (trying_same Related alike NoTries
        (ReadsImports (with_made progress.made files) m.header.imports) no_tries_one
        (reads_imports_one (with_made progress.made files) m.header.imports))
        (λ imports before h. with_by
        (turn_of name budgets auditors files f m ms progress at imports h.0)
        (given_language (language_in f.modules) f.language bytes m same imports))

    after_by : (ms : List Module) (progress : BuildProgress) →
        HaveLanguage (language_in f.modules) ms →
        IsAt name budgets auditors files f ms progress →
        IsOneBy Related (MakesAfter budgets files f.language progress ms)
    after_by [] progress same at =
        trying_same Related alike NoTries (λ result. result ≡ Ok progress) no_tries_one
        (is_given (Ok progress))
    after_by (m ∷ ms) progress same at =
        and_then_by Related (MakesNext budgets files f.language progress m)
        (λ next. MakesAfter budgets files f.language next ms)
        (next_by m ms progress same.0 at)
        (λ next one made. after_by ms next same.1
        (at_next name budgets auditors files f m ms progress next one at made))

    over_by : IsOneBy Related (BuildsOver budgets auditors files f.modules f.language)
    over_by =
        and_then_by Related (MakesAfter budgets files f.language (none_made auditors) f.modules)
        (λ end. Untried (λ result. result ≡ Ok (whole_plan end)))
        (after_by f.modules (none_made auditors) (have_language name files f.modules f.reads)
        (at_begin name budgets auditors files f))
        (λ end tries made. trying_same Related alike NoTries
        (λ result. result ≡ Ok (whole_plan end)) no_tries_one (is_given (Ok (whole_plan end))))

  -- the files
  module _ (ms : List Module) (reads : ReadsModules name files (Ok ms)) where
    abbrev SameLanguages : Stop → Stop → Type 0
    SameLanguages = SameButReadings (StopsAtLanguage (language_in ms) files)

    of_language : (s r : Stop) → SameLanguages s r → Related s r
    of_language s r (inl same) = same_alike s r same
    of_language s r (inr (are, stops)) =
        inr (are, inl (record { modules = ms; reads = reads; stops = stops }))

    read_by : IsOneBy Related (BuildsRead budgets auditors files ms)
    read_by =
        and_then_by Related (Untried (ReadsLanguage (language_in ms) files))
        (BuildsOver budgets auditors files ms)
        (λ a b m n h k p q.
        let one = languages_agree (language_in ms) files a b m n h k p q in
        (answers_so SameLanguages Related of_language a b one.0, one.1))
        (λ l before h. over_by (record {
          modules = ms;
          reads = reads;
          language = l;
          states = h.0;
        }))

  modules_so : (s r : Stop) → AnswerAlike s r → Related s r
  modules_so s r same = inl same

  builds_by : IsOneBy Related (BuildsModule name budgets auditors files)
  builds_by =
      and_then_by Related (Untried (ReadsModules name files)) (BuildsRead budgets auditors files)
      (trying_by Related NoTries (ReadsModules name files) no_tries_one
      (λ x y h k f g. answers_so AnswerAlike Related modules_so (as_answer x) (as_answer y)
      (modules_by name files x y h k f g)))
      (λ ms before h. read_by ms h.0)

pub builds_agree : UnitsAgree → ShowsOnce → BuildsAgree
builds_agree units once name budgets auditors files =
    builds_by units once name budgets auditors files
