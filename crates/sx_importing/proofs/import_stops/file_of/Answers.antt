use Rattle.std.proofs.Common.{◌≡◌, ℕ, List, subst}
use Rattle.std.specs.Prelude.{IfOk}
use Rattle.sx_steps.specs.Unit.{interface_file}
use Rattle.sx_importing.proofs.Names.{name_at}
use Rattle.sx_importing.proofs.import_stops.file_of.Goals as goal

pub returns : goal.returns
returns c =
    subst (λ (name : List ℕ). IfOk c.with_suffix.result (λ file. file ≡ interface_file name))
    (name_at c.args.imports.now c.args.import c.index-imports-import.result c.requires)
    c.with_suffix.ensures
