-- What a build that ended with a plan read and made, and the turn of one of its modules.
use Rattle.std.proofs.Common.{◌≡◌, ℕ, List, [], refl, ap, ◌∙◌, subst}
use Rattle.std.specs.Prelude.{Ok, Contains}
use Rattle.sx_audit.specs.Meaning.{Meaning}
use Rattle.sx_extcheck.specs.declared.budgets.Budgets.{Budgets}
use Rattle.sx_outside.specs.Files.{Files, after_writes}
use Rattle.sx_steps.specs.Steps.{Untried}
use Rattle.sx_steps.specs.Work.{Plan}
use Rattle.sx_steps.proofs.Ones.{ok_same}
use Rattle.sx_steps.proofs.StepsOn.{went_on}
use Rattle.sx_accepting.specs.ReadLanguage.{Stated, ReadsLanguage}
use Rattle.sx_headers.specs.ReadModule.{Module}
use Rattle.sx_closure.specs.ReadModules.{ReadsModules}
use Rattle.sx_closure.proofs.Agreeing.{modules_alike}
use Rattle.sx_build.specs.BuildModules.{BuildProgress, none_made, MakesAfter, whole_plan, language_in}
use Rattle.sx_build.specs.BuildModules.{BuildsOver, BuildsRead, BuildsModule}
use Rattle.sx_build.specs.MadeModules.{with_made}
use Rattle.sx_rebuilding.proofs.Turns.{Turn, turn_of}

-- the modules with this one among them, the language, the end of the making, and the turn
pub record EndedBuild (name : List ℕ) (budgets : Budgets) (auditors : List Meaning)
    (old new : Files) (m : Module) : Type 0 where
  pub modules : List Module
  pub reads : ReadsModules name old (Ok modules)
  pub among : Contains modules m
  pub language : Stated
  pub states : ReadsLanguage (language_in modules) old (Ok language)
  pub end : BuildProgress
  pub is : new ≡ with_made end.made old
  pub turn : Turn budgets old language auditors modules end m

pub build_ended : (name : List ℕ) (budgets : Budgets) (auditors : List Meaning) (old new : Files)
    (plan : Plan) (tries : ℕ) → BuildsModule name budgets auditors old (Ok plan) tries →
    new ≡ after_writes plan.files old → (modules : List Module) → ReadsModules name old (Ok modules) →
    (m : Module) → Contains modules m → EndedBuild name budgets auditors old new m
build_ended name budgets auditors old new plan n builds files_are modules reads m among =
    let read = went_on (Untried (ReadsModules name old)) (BuildsRead budgets auditors old) plan n
    builds in
    let ms = read.given in
    let same : modules ≡ ms =
    modules_alike name old (Ok modules) (Ok ms) reads read.begins.0 tt tt in
    let here = subst (λ (list : List Module). Contains list m) same among in
    let language = went_on (Untried (ReadsLanguage (language_in ms) old))
    (BuildsOver budgets auditors old ms) plan read.after read.goes in
    let l = language.given in
    let all = went_on (MakesAfter budgets old l (none_made auditors) ms)
    (λ end. Untried (λ result. result ≡ Ok (whole_plan end))) plan language.after
    language.goes in
    let planned : plan ≡ whole_plan all.given = ok_same plan (whole_plan all.given) all.goes.0 in
    record {
      modules = ms;
      reads = read.begins.0;
      among = here;
      language = l;
      states = language.begins.0;
      end = all.given;
      is = files_are ∙ ap (λ (p : Plan). after_writes p.files old) planned;
      turn = turn_of budgets old l auditors ms all.given [] ms (none_made auditors) all.before refl
          (λ none. none) all.begins m here;
    }
