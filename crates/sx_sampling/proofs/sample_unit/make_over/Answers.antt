use Rattle.std.proofs.Common.{◌∙◌, ℕ, List, map, refl, sym, ap, subst, arith}
use Rattle.std.specs.List.{AllByRecursion}
use Rattle.std.specs.Prelude.{Ok, Err}
use Rattle.sx_interface.specs.declared.import.Import.{Import}
use Rattle.sx_unit.specs.Written.{unit_of}
use Rattle.sx_environment.specs.SeenFrom.{IsShort, interfaces_of}
use Rattle.sx_steps.specs.Steps.{Untried}
use Rattle.sx_steps.specs.Stop.{Gives, Does}
use Rattle.sx_steps.proofs.StepsOn.{goes_from, stops_at, untried}
use Rattle.sx_accepting.specs.ReadLanguage.{stated_of}
use Rattle.sx_headers.specs.ReadModule.{module_of}
use Rattle.sx_importing.specs.ReadImports.{import_of, ReadsImports}
use Rattle.sx_compiling.specs.Given.{GivenModule}
use Rattle.sx_compiling.specs.MakeUnit.{MakesUnit}
use Rattle.sx_sampling.specs.SampleSteps.{sample_file, sample_budgets, given_for_sample}
use Rattle.sx_compiling.proofs.GivenAlike.{imports_of, given_same}
use Rattle.sx_sampling.proofs.sample_unit.make_over.Goals as goal

pub make_unit-unit-requires : goal.make_unit-unit-requires
make_unit-unit-requires g c =
    let same = c.deref-in-Ok.ensures.value in
    record {
      headed = c.requires.headed;
      short = c.requires.short;
      language = c.requires.language;
      text = c.requires.text;
      named = ap (λ (is : List Import). map (λ it. it.name) (interfaces_of is)) same
          ∙ c.in-Ok.ensures.names ∙ c.deref.ensures.value;
      within = subst (λ (is : List Import). AllByRecursion IsShort (interfaces_of is)) (sym same)
          c.in-Ok.ensures.short;
    }

pub returns-in-Ok-clause-step : goal.returns-in-Ok-clause-step
returns-in-Ok-clause-step g c = λ files told.
    let m = module_of c.args.source.now in
    let l = stated_of c.args.language.now in
    let its = map import_of c.in-Ok.imports.items in
    goes_from unit_of (Untried (ReadsImports files m.header.imports))
    (λ is. MakesUnit sample_budgets files (given_for_sample m l is)) its c.make_unit-unit.result
    c.args.steps.now c.args.steps.now c.make_unit-unit.new.steps (
      0,
      (
        subst (λ (names : List (List ℕ)). ReadsImports files names (Ok its))
            c.deref.ensures.value (c.in-Ok.ensures.step files told),
        refl,
      ),
      omega arith,
    )
    (subst (λ (given : GivenModule). Does unit_of (MakesUnit sample_budgets files given)
    c.make_unit-unit.result c.args.steps.now c.make_unit-unit.new.steps)
    (given_same m l c.args.file.now sample_file c.deref-in-Ok.result.now c.in-Ok.imports.items
    c.requires.file c.deref-in-Ok.ensures.value)
    (c.make_unit-unit.ensures.step files (c.in-Ok.ensures.reads.content ∙ told)))

pub returns-in-Err-clause-step : goal.returns-in-Err-clause-step
returns-in-Err-clause-step g c = λ files told.
    let m = module_of c.args.source.now in
    let l = stated_of c.args.language.now in
    stops_at imports_of unit_of (Untried (ReadsImports files m.header.imports))
    (λ is. MakesUnit sample_budgets files (given_for_sample m l is)) c.in-Err.e c.args.steps.now
    c.args.steps.now
    (untried imports_of (ReadsImports files m.header.imports) (Err c.in-Err.e) c.args.steps.now
    (subst (λ (names : List (List ℕ)). Gives imports_of (ReadsImports files names)
    (Err c.in-Err.e)) c.deref.ensures.value (c.in-Err.ensures.step files told)))
