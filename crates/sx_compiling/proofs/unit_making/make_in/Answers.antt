use Rattle.std.proofs.Common.{◌≤◌, ℕ, List, length, sym, subst}
use Rattle.sx_term.specs.Term.{tree}
use Rattle.sx_unit.specs.Modules.{ModuleData, mark}
use Rattle.sx_unit.specs.Written.{unit_of}
use Rattle.sx_environment.specs.SeenFrom.{seen_from}
use Rattle.sx_steps.specs.Stop.{Does}
use Rattle.sx_compiling.specs.CompileModule.{CompilesTrying}
use Rattle.sx_importing.specs.ReadImports.{import_of, import_mark}
use Rattle.std.proofs.Common.{map}
use Rattle.sx_compiling.proofs.ImportsGiven.{marks_same}
use Rattle.sx_compiling.proofs.SeenGiven.{module_same}
use Rattle.sx_compiling.proofs.unit_making.make_in.Goals as goal

pub compile_module-requires : goal.compile_module-requires
compile_module-requires g c = record {
  dialect = c.requires.dialect;
  short = subst (λ (bytes : List ℕ). length bytes ≤ 262144) (sym c.deref.ensures.value)
      c.requires.short;
  environment = c.requires.environment;
}

pub returns-clause-step : goal.returns-clause-step
returns-clause-step g c =
    let given = c.args.given.now in
    subst (λ (m : ModuleData). Does unit_of (CompilesTrying given.file.now c.args.budgets m)
    c.compile_module.result c.args.steps.now c.compile_module.new.steps)
    (module_same (seen_from c.args.seen.now) c.deref.result.now given.source.now.bytes.items
    given.source.now.header (tree c.args.environment.now) (map mark given.imports.now)
    (map import_mark (map import_of given.imports.now)) c.deref.ensures.value
    (marks_same given.imports.now))
    c.compile_module.ensures.step
