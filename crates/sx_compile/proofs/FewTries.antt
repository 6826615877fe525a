-- How many tries `compile NAME` makes at most.
use Rattle.std.proofs.Common.{ℕ, suc, ◌*◌, ◌≤◌, List, length}
use Rattle.std.specs.Prelude.{Ok}
use Rattle.sx_audit.specs.Meaning.{Meaning}
use Rattle.sx_extcheck.specs.declared.budgets.Budgets.{Budgets}
use Rattle.sx_outside.specs.Files.{Files}
use Rattle.sx_steps.specs.Work.{Plan}
use Rattle.sx_accepting.specs.ReadLanguage.{Stated, ReadsLanguage}
use Rattle.sx_headers.specs.ReadModule.{ReadsModule}
use Rattle.sx_importing.specs.ReadImports.{ImportData, ReadsImports}
use Rattle.sx_compiling.specs.Laws.{UnitsWalksAreWithin as UnitsWithin}
use Rattle.sx_compiling.specs.MakeUnit.{MakesUnit}
use Rattle.sx_headers.specs.ModuleFiles.{module_file}
use Rattle.sx_compiling.specs.Reached.{HasDialect}
use Rattle.sx_compiling.proofs.StepTries.{Most, untried_most, most_untried, passed}
use Rattle.sx_compiling.proofs.StepTries.{began}
use Rattle.sx_compile.specs.AuditedPlans.{AuditsUnit}
use Rattle.sx_compile.specs.CompileModule.{given_to_compile, CompilesGiven, CompilesOver, CompilesFew}
use Rattle.sx_compile.specs.CompileModule.{CompilesOthers, CompilesRead, CompilesModule}
use Rattle.sx_compile.specs.Found.{IsModule, IsModuleFound, given_from}
use Rattle.sx_compile.specs.Imports.{ImportsOthers, ImportsFew}
use Rattle.sx_compile.specs.Laws.{CompileWalksAreWithin}
use Rattle.sx_compile.proofs.FoundModules.{language_of}

module _ (units : UnitsWithin) (name : List ℕ) (budgets : Budgets) (auditors : List Meaning)
    (files : Files) where
  abbrev most : ℕ
  most = 4097 * budgets.tries

  given_most : (f : IsModuleFound name files) →
      Most (CompilesGiven name budgets auditors files (given_from f)) most
  given_most f =
      most_untried (MakesUnit budgets files (given_from f))
      (λ unit. AuditsUnit name f.language.language.rules auditors unit) most
      (λ result tries h. units.all budgets files (given_from f) result tries
      (language_of name files f) h)

  -- what is found so
  abbrev found_so : (m : IsModule name files) (l : Stated) →
      ReadsLanguage m.read.header.language files (Ok l) → (imports : List ImportData) →
      ReadsImports files m.read.header.imports (Ok imports) → IsModuleFound name files
  found_so m l states imports imported = record {
    from = m;
    language = l;
    states = states;
    imports = imports;
    imported = imported;
  }

  few_most : (m : IsModule name files) → Most (CompilesFew name budgets auditors files m.read) most
  few_most m =
      untried_most (ReadsLanguage m.read.header.language files)
      (CompilesOver name budgets auditors files m.read) most
      (λ l states. untried_most (ReadsImports files m.read.header.imports)
      (λ imports. CompilesGiven name budgets auditors files (given_to_compile name m.read l imports)) most
      (λ imports imported. given_most (found_so m l states imports imported)))

  all_most : Most (CompilesModule name budgets auditors files) most
  all_most =
      untried_most (ReadsModule (module_file name) name files)
      (CompilesRead name budgets auditors files) most
      (λ m reads. untried_most (ImportsOthers (module_file name) name m.header)
      (λ done. CompilesOthers name budgets auditors files m) most
      (λ done others. untried_most (ImportsFew (module_file name) m.header)
      (λ done. CompilesFew name budgets auditors files m) most
      (λ done few. few_most (record { read = m; reads = reads; others = others; few = few }))))

  compiled_within : (plan : Plan) (tries : ℕ) →
      CompilesModule name budgets auditors files (Ok plan) tries →
      (f : IsModuleFound name files) × (d : HasDialect budgets files (given_from f))
      × (tries ≤ suc (length d.extended.set.kept.more) * budgets.tries)
  compiled_within plan tries compiled =
      let read = passed (ReadsModule (module_file name) name files)
      (CompilesRead name budgets auditors files) plan tries compiled in
      let m = read.given in
      let others = passed (ImportsOthers (module_file name) name m.header)
      (λ done. CompilesOthers name budgets auditors files m) plan tries read.goes in
      let few = passed (ImportsFew (module_file name) m.header)
      (λ done. CompilesFew name budgets auditors files m) plan tries others.goes in
      let over = passed (ReadsLanguage m.header.language files)
      (CompilesOver name budgets auditors files m) plan tries few.goes in
      let l = over.given in
      let imports = passed (ReadsImports files m.header.imports)
      (λ imports. CompilesGiven name budgets auditors files (given_to_compile name m l imports)) plan tries
      over.goes in
      let f : IsModuleFound name files = record {
        from = record {
          read = m;
          reads = read.begins;
          others = others.begins;
          few = few.begins;
        };
        language = l;
        states = over.begins;
        imports = imports.given;
        imported = imports.begins;
      } in
      let made = began (MakesUnit budgets files (given_from f))
      (λ unit. AuditsUnit name l.language.rules auditors unit) plan tries imports.goes in
      let within = units.made budgets files (given_from f) made.given tries
      (language_of name files f) made.begins in
      (f, within.0, within.1)

pub compile_walks_are_within : UnitsWithin → CompileWalksAreWithin
compile_walks_are_within units = record {
  compiled = compiled_within units;
  all = all_most units;
}
