use Rattle.std.proofs.Common.{List, ℕ, sym, subst}
use Rattle.sx_steps.specs.Stop.{Gives}
use Rattle.sx_importing.specs.ReadImports.{import_of, ReadsImport}
use Rattle.sx_build.specs.Buildings.{made_view, mades_view}
use Rattle.sx_build.specs.MadeModules.{with_made}
use Rattle.sx_build.specs.Remembering.{remembered_imports}
use Rattle.sx_build.proofs.MadeFiles.{interface_stands}
use Rattle.sx_build.proofs.Recalled.{recalled, read_own, remembers_left}
use Rattle.sx_build.proofs.imports_made.import_named.Goals as goal

pub returns-in-Some-clause-step : goal.returns-in-Some-clause-step
returns-in-Some-clause-step c = λ files.
    recalled (mades_view c.args.mades.now) c.args.name.now c.in-Some.import c.requires.distinct
    (c.requires.remembers c.args.name.now c.in-Some.import (sym c.in-Some.ensures.value)) files

pub returns-in-Some-clause-is : goal.returns-in-Some-clause-is
returns-in-Some-clause-is c =
    c.requires.remembers c.args.name.now c.in-Some.import (sym c.in-Some.ensures.value)

pub returns-in-Some-clause-remembers : goal.returns-in-Some-clause-remembers
returns-in-Some-clause-remembers c =
    remembers_left (mades_view c.args.mades.now) c.args.name.now
    (remembered_imports c.args.remembered.now) (remembered_imports c.take.new.self) c.in-Some.ensures.others
    c.requires.remembers

pub returns-in-None-clause-step : goal.returns-in-None-clause-step
returns-in-None-clause-step c = λ files.
    let all = with_made (mades_view c.args.mades.now) files in
    subst (λ (name : List ℕ). Gives import_of (ReadsImport all name) c.import_made.result)
    c.find.ensures.named
    (c.import_made.ensures.step all
    (interface_stands (mades_view c.args.mades.now) files (made_view c.find.result.now)
    c.requires.distinct c.find.ensures.found))

pub returns-in-None-clause-is : goal.returns-in-None-clause-is
returns-in-None-clause-is c =
    read_own (mades_view c.args.mades.now) (made_view c.find.result.now) c.args.name.now
    c.find.ensures.found c.find.ensures.named c.import_made.result c.import_made.ensures.step
    c.import_made.ensures.short c.import_made.ensures.name

pub returns-in-None-clause-remembers : goal.returns-in-None-clause-remembers
returns-in-None-clause-remembers c =
    remembers_left (mades_view c.args.mades.now) c.args.name.now
    (remembered_imports c.args.remembered.now) (remembered_imports c.take.new.self) c.in-None.ensures.others
    c.requires.remembers
