use Rattle.std.proofs.Common.{ℕ, List, map, refl, ◌∙◌, subst, arith}
use Rattle.std.specs.Prelude.{Ok, Err}
use Rattle.sx_steps.specs.Steps.{Untried}
use Rattle.sx_steps.specs.Stop.{Gives}
use Rattle.sx_steps.specs.Work.{plan_of}
use Rattle.sx_steps.proofs.StepsOn.{goes_from, stops_at, untried}
use Rattle.sx_accepting.specs.ReadLanguage.{stated_of, ReadsLanguage, HasText}
use Rattle.sx_headers.specs.ReadModule.{module_of}
use Rattle.sx_build.specs.BuildModules.{language_in, BuildsOver}
use Rattle.sx_build.proofs.Ordered.{have_first, first_language}
use Rattle.sx_build.proofs.build_module.build_read.Goals as goal

pub build_over-work-requires : goal.build_over-work-requires
build_over-work-requires g c =
    let sources = c.args.sources.now in
    let closure = c.requires.closure in
    record {
      stated = c.requires.stated;
      order = closure.1.order;
      fit = c.in-Ok.ensures.fit;
      text = subst (λ (n : List ℕ). HasText n c.in-Ok.language.language)
          (first_language closure.0 sources c.index-sources-0.result closure.1)
          c.in-Ok.ensures.text;
      same = have_first closure.0 (map module_of sources) closure.1;
    }

pub returns-in-Ok-clause-step : goal.returns-in-Ok-clause-step
returns-in-Ok-clause-step g c = λ files told.
    let sources = c.args.sources.now in
    let closure = c.requires.closure in
    let ms = map module_of sources in
    let auditors = map (λ b. (goal.Auditor-dyn g (b.vtable, b.value)).meaning b.value)
    c.args.auditors.items in
    let l = stated_of c.in-Ok.language in
    goes_from plan_of (Untried (ReadsLanguage (language_in ms) files))
    (BuildsOver c.args.given.now.budgets auditors files ms) l c.build_over-work.result
    c.args.steps.now c.args.steps.now c.build_over-work.new.steps (
      0,
      (
        subst (λ (n : List ℕ). ReadsLanguage n files (Ok l))
            (first_language closure.0 sources c.index-sources-0.result closure.1)
            (c.in-Ok.ensures.step files told),
        refl,
      ),
      omega arith,
    )
    (c.build_over-work.ensures.step files (c.in-Ok.ensures.reads.content ∙ told))

pub returns-in-Err-clause-step : goal.returns-in-Err-clause-step
returns-in-Err-clause-step g c = λ files told.
    let sources = c.args.sources.now in
    let closure = c.requires.closure in
    let ms = map module_of sources in
    let auditors = map (λ b. (goal.Auditor-dyn g (b.vtable, b.value)).meaning b.value)
    c.args.auditors.items in
    stops_at stated_of plan_of (Untried (ReadsLanguage (language_in ms) files))
    (BuildsOver c.args.given.now.budgets auditors files ms) c.in-Err.e c.args.steps.now
    c.args.steps.now
    (untried stated_of (ReadsLanguage (language_in ms) files) (Err c.in-Err.e) c.args.steps.now
    (subst (λ (n : List ℕ). Gives stated_of (ReadsLanguage n files) (Err c.in-Err.e))
    (first_language closure.0 sources c.index-sources-0.result closure.1)
    (c.in-Err.ensures.step files told)))
