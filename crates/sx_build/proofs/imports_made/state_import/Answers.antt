use Rattle.std.proofs.Common.{◌≡◌, ℕ, List, sym, ap, ◌∙◌, subst, refl}
use Rattle.std.specs.Prelude.{Ok, Err}
use Rattle.sx_interface.specs.InterfaceView.{interface_view}
use Rattle.sx_steps.specs.Stops.{too_long}
use Rattle.sx_steps.specs.Unit.{interface_file}
use Rattle.sx_steps.specs.declared.stop.Stop.{Stop}
use Rattle.sx_headers.specs.ReadInterface.{StatesParts}
use Rattle.sx_importing.specs.ReadImports.{ImportData, ReadsImport}
use Rattle.sx_headers.proofs.HeaderAnswers.{bad_parts}
use Rattle.sx_build.proofs.Imported.{too_long_import, read_import, refused_import}
use Rattle.sx_build.proofs.imports_made.state_import.Goals as goal

pub returns-in-Ok-clause-step : goal.returns-in-Ok-clause-step
returns-in-Ok-clause-step c = λ files held.
    let name = c.args.name.now in
    let is : c.in-Ok.stop ≡ too_long (interface_file name) =
    c.in-Ok.ensures ∙ ap too_long c.requires in
    subst (λ (s : Stop). ReadsImport files name (Err s)) (sym is)
    (too_long_import files name c.args.text.now held c.if-text.true)

pub returns-in-Ok-read_interface-clause-step : goal.returns-in-Ok-read_interface-clause-step
returns-in-Ok-read_interface-clause-step c = λ files held.
    let name = c.args.name.now in
    let parts = interface_view c.in-Ok-read_interface.interface in
    subst (λ (d : List ℕ). ReadsImport files name (Ok (let i : ImportData =
    record { parts = parts; digest = d } in i))) (sym c.digest.ensures)
    (read_import files name c.args.text.now held
    c.if-text.false parts
    (record {
      same = refl;
      utf8 = c.in-Ok-read_interface.ensures.text;
      states = c.in-Ok-read_interface.ensures.found;
    }))

pub returns-in-Ok-read_interface-clause-short : goal.returns-in-Ok-read_interface-clause-short
returns-in-Ok-read_interface-clause-short c =
    c.interfaces_are_within.ensures 262144 c.args.name.now c.args.text.now
    (interface_view c.in-Ok-read_interface.interface)
    c.if-text.false c.in-Ok-read_interface.ensures.found

pub returns-in-Ok-bad_header-clause-step : goal.returns-in-Ok-bad_header-clause-step
returns-in-Ok-bad_header-clause-step c = λ files held.
    let name = c.args.name.now in
    let stop = c.in-Ok-bad_header.stop in
    refused_import files name c.args.text.now held
    c.if-text.false stop
    (subst (λ (file : List ℕ). StatesParts file name c.args.text.now (Err stop)) c.requires
    (bad_parts c.args.file.now name c.args.text.now stop c.in-Err-read_interface.error
    c.in-Err-read_interface.ensures.exact c.in-Err-read_interface.ensures.refused
    c.in-Ok-bad_header.ensures))
