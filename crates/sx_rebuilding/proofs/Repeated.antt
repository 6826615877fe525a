-- `compile` of a module that was built, over the files that the build leaves.
use Rattle.std.proofs.Common.{◌≡◌, ℕ, List, [], refl, ap}
use Rattle.std.specs.Prelude.{Ok}
use Rattle.sx_extcheck.specs.declared.budgets.Budgets.{Budgets}
use Rattle.sx_outside.specs.Files.{Files, after_writes}
use Rattle.sx_steps.specs.Work.{Plan}
use Rattle.sx_accepting.specs.ReadLanguage.{Stated, ReadsLanguage}
use Rattle.sx_headers.specs.ModuleFiles.{module_file}
use Rattle.sx_headers.specs.ReadModule.{Module, ReadsModule}
use Rattle.sx_importing.specs.ReadImports.{ReadsImports}
use Rattle.sx_compiling.specs.Given.{GivenModule}
use Rattle.sx_compiling.specs.MakeUnit.{MakesUnit}
use Rattle.sx_closure.specs.Closures.{IsClosure}
use Rattle.sx_closure.specs.ReadImport.{ReadsNamed}
use Rattle.sx_closure.proofs.Closing.{are_closure}
use Rattle.sx_compile.specs.AuditedPlans.{audited_plan, AuditsUnit}
use Rattle.sx_compile.specs.CompileModule.{given_to_compile, CompilesGiven, CompilesOver, CompilesFew}
use Rattle.sx_compile.specs.CompileModule.{CompilesOthers, CompilesRead, CompilesModule}
use Rattle.sx_compile.specs.Imports.{ImportsOthers, ImportsFew}
use Rattle.sx_compile.specs.Laws.{CompilesAlikeButShown, CompilesAgree}
use Rattle.sx_build.specs.MadeModules.{made_of}
use Rattle.sx_rebuilding.specs.Again.{CompilesAsBefore, CompilingRepeatsBuilding}
use Rattle.sx_rebuilding.proofs.EndedBuilds.{EndedBuild, build_ended}
use Rattle.sx_rebuilding.proofs.FewImports.{imports_others, imports_few}
use Rattle.sx_rebuilding.proofs.OtherFiles.{no_module, no_extension, same_one}
use Rattle.sx_build.proofs.NamedModules.{header_stated}
use Rattle.sx_rebuilding.proofs.OwnFiles.{holds, unchanged, read_old, states_new, imported}
use Rattle.sx_rebuilding.proofs.SameFiles.{module_as}
use Rattle.sx_compiling.proofs.SameSteps.{after_step, before_step, sure_value}
use Rattle.sx_rebuilding.proofs.SameUnits.{unit_as}
use Rattle.sx_rebuilding.proofs.Turns.{Turn, shown_none}

-- ---- one module

module _ (name : List ℕ) (budgets : Budgets) (old new : Files) (m : Module)
    (b : EndedBuild name budgets [] old new m) where
  abbrev file : List ℕ
  file = module_file m.header.name

  abbrev l : Stated
  l = b.language

  abbrev t : Turn budgets old l [] b.modules b.end m
  t = b.turn

  abbrev g : GivenModule
  g = given_to_compile m.header.name m l t.one.imports

  closure : IsClosure name b.modules
  closure = (are_closure name old b.modules b.reads).0

  -- its file
  read_before : ReadsNamed old m.header.name (Ok m)
  read_before = read_old name budgets [] old new m b

  read_new : ReadsModule file m.header.name new (Ok m)
  read_new =
      module_as old new file m.header.name
      (unchanged name budgets [] old new m b file (no_module m.header.name)) (Ok m) read_before

  -- its unit
  makes_new : MakesUnit budgets new g (Ok t.one.unit) t.one.tries
  makes_new =
      unit_as budgets old new (λ n. unchanged name budgets [] old new m b _ (no_extension n)) g
      (Ok t.one.unit) t.one.tries t.one.makes

  -- its plan
  abbrev again : Plan
  again = audited_plan m.header.name t.one.unit []

  audits : AuditsUnit m.header.name l.language.rules [] t.one.unit (Ok again)
  audits = record {
    given = Ok [];
    begins = shown_none budgets old l b.modules b.end m t;
    goes = refl;
  }

  changes_nothing : (other : List ℕ) → after_writes again.files new other ≡ new other
  changes_nothing other =
      let texts = holds name budgets [] old new m b in
      ap (λ (fs : Files). fs other)
      (same_one (made_of m.header.name t.one.unit) new texts.base texts.list texts.interface)

  compiled : CompilesModule m.header.name budgets [] new (Ok again) t.one.tries
  compiled =
      after_step (ReadsModule file m.header.name new) (CompilesRead m.header.name budgets [] new)
      m (Ok again) t.one.tries read_new
      (after_step (ImportsOthers file m.header.name m.header)
      (λ done. CompilesOthers m.header.name budgets [] new m) tt (Ok again) t.one.tries
      (imports_others name b.modules closure t.before t.behind m t.stands)
      (after_step (ImportsFew file m.header)
      (λ done. CompilesFew m.header.name budgets [] new m) tt (Ok again) t.one.tries
      (imports_few name b.modules closure t.before t.behind m t.stands
      (header_stated old m.header.name m read_before).distinct_imports)
      (after_step (ReadsLanguage m.header.language new)
      (CompilesOver m.header.name budgets [] new m) l (Ok again) t.one.tries
      (states_new name budgets [] old new m b)
      (after_step (ReadsImports new m.header.imports)
      (λ imports. CompilesGiven m.header.name budgets [] new
      (given_to_compile m.header.name m l imports)) t.one.imports (Ok again) t.one.tries
      (imported name budgets [] old new m b)
      (before_step (MakesUnit budgets new g) (AuditsUnit m.header.name l.language.rules [])
      t.one.unit again t.one.tries makes_new audits)))))

  as_built : CompilesAgree → CompilesAsBefore m.header.name budgets new
  as_built agree result tries h sure = (
    again,
    sure_value (CompilesAlikeButShown m.header.name budgets new) result again sure
        (agree m.header.name budgets [] new result (Ok again) tries t.one.tries h compiled sure
        tt).0,
    changes_nothing,
  )

-- ---- the command

pub compiling_repeats_building : CompilesAgree → CompilingRepeatsBuilding
compiling_repeats_building agree name budgets old new plan n builds files_are modules reads m
    among =
    as_built name budgets old new m
    (build_ended name budgets [] old new plan n builds files_are modules reads m among) agree
