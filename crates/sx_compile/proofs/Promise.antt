-- `compile NAME` keeps its promise.
use Rattle.std.proofs.Common.{◌≡◌, ℕ, List, ap, ◌∙◌}
use Rattle.std.specs.Prelude.{Ok}
use Rattle.sx_audit.specs.Meaning.{Meaning}
use Rattle.sx_extcheck.specs.declared.budgets.Budgets.{Budgets}
use Rattle.sx_unit.specs.Written.{UnitData}
use Rattle.sx_outside.specs.Files.{Files, after_writes}
use Rattle.sx_steps.specs.Steps.{Untried}
use Rattle.sx_steps.specs.Unit.{base_file, list_file, interface_file}
use Rattle.sx_steps.specs.Work.{Plan}
use Rattle.sx_steps.proofs.Ones.{ok_same}
use Rattle.sx_steps.proofs.StepsOn.{went, went_on}
use Rattle.sx_steps.proofs.Units.{written}
use Rattle.sx_accepting.specs.ReadLanguage.{ReadsLanguage}
use Rattle.sx_headers.specs.ReadModule.{ReadsModule}
use Rattle.sx_auditing.specs.Shows.{Shows}
use Rattle.sx_importing.specs.ReadImports.{ReadsImports}
use Rattle.sx_compiling.specs.Headline.{HasUnit, UnitsHaveHeadline}
use Rattle.sx_compiling.specs.MakeUnit.{MakesUnit}
use Rattle.sx_headers.specs.ModuleFiles.{module_file}
use Rattle.sx_compiling.proofs.MadeUnits.{units_keep_promise}
use Rattle.sx_compile.specs.AuditedPlans.{audited_plan, AuditsUnit}
use Rattle.sx_compile.specs.CompiledModule.{CompiledModule, CompilesKeepPromise}
use Rattle.sx_compile.specs.CompiledModule.{CompiledHasHeadline}
use Rattle.sx_compile.specs.CompileModule.{given_to_compile, CompilesGiven, CompilesOver, CompilesFew}
use Rattle.sx_compile.specs.CompileModule.{CompilesOthers, CompilesRead}
use Rattle.sx_compile.specs.Found.{IsModuleFound, given_from}
use Rattle.sx_compile.specs.Imports.{ImportsOthers, ImportsFew}
use Rattle.sx_compile.proofs.FoundModules.{language_of, module_of}

module _ (name : List ℕ) (budgets : Budgets) (auditors : List Meaning) (old new : Files) where
  -- where the plan is that of the unit, to which no auditor objects
  kept_by : (plan : Plan) (f : IsModuleFound name old) (unit : UnitData) (kept : List Meaning) →
      HasUnit budgets old (given_from f) unit →
      Shows (module_file name) f.language.language.rules auditors unit.list (Ok kept) →
      plan ≡ audited_plan name unit kept → new ≡ after_writes plan.files old →
      CompiledModule name budgets auditors old new plan.lines
  kept_by plan f unit kept compiled shown made files_are =
      let stands = written name unit.base unit.derivation unit.interface old in
      let files : new ≡ after_writes ((audited_plan name unit kept).files) old =
      files_are ∙ ap (λ (p : Plan). after_writes p.files old) made in
      record {
        found = f;
        unit = unit;
        compiled = compiled;
        kept = kept;
        shown = shown;
        base = ap (λ (fs : Files). fs (base_file name)) files ∙ stands.0;
        list = ap (λ (fs : Files). fs (list_file name)) files ∙ stands.1;
        interface = ap (λ (fs : Files). fs (interface_file name)) files ∙ stands.2;
        others = λ other a b c. ap (λ (fs : Files). fs other) files ∙ stands.3 other a b c;
        told = ap (λ (p : Plan). p.lines) made;
      }

pub compiles_keep_promise : CompilesKeepPromise
compiles_keep_promise name budgets auditors old new plan tries compiled files_are =
    let file = module_file name in
    let read = went_on (Untried (ReadsModule file name old))
    (CompilesRead name budgets auditors old)
    plan tries compiled in
    let m = read.given in
    let others = went_on (Untried (ImportsOthers file name m.header))
    (λ done. CompilesOthers name budgets auditors old m) plan read.after read.goes in
    let few = went_on (Untried (ImportsFew file m.header))
    (λ done. CompilesFew name budgets auditors old m) plan others.after others.goes in
    let over = went_on (Untried (ReadsLanguage m.header.language old))
    (CompilesOver name budgets auditors old m) plan few.after few.goes in
    let l = over.given in
    let imports = went_on (Untried (ReadsImports old m.header.imports))
    (λ imports. CompilesGiven name budgets auditors old (given_to_compile name m l imports)) plan over.after
    over.goes in
    let g = given_to_compile name m l imports.given in
    let made = went_on (MakesUnit budgets old g)
    (λ unit. Untried (AuditsUnit name l.language.rules auditors unit)) plan imports.after
    imports.goes in
    let shown = went (Shows file l.language.rules auditors made.given.list)
    (λ kept result. result ≡ Ok (audited_plan name made.given kept)) plan made.goes.0 in
    let f : IsModuleFound name old = record {
      from = record {
        read = m;
        reads = read.begins.0;
        others = others.begins.0;
        few = few.begins.0;
      };
      language = l;
      states = over.begins.0;
      imports = imports.given;
      imported = imports.begins.0;
    } in
    kept_by name budgets auditors old new plan f made.given shown.given
    (units_keep_promise budgets old g made.given made.before (language_of name old f) made.begins)
    shown.begins (ok_same plan (audited_plan name made.given shown.given) shown.goes) files_are

pub compiled_has_headline : UnitsHaveHeadline → CompiledHasHeadline
compiled_has_headline units name budgets auditors old new lines is_a_name c =
    units name budgets old (given_from c.found) c.unit is_a_name (language_of name old c.found)
    (module_of name old c.found) c.compiled
