use Rattle.std.proofs.Common.{◌∷◌, []}
use Rattle.sx_compile.proofs.Stops.{tells_cycle}
use Rattle.sx_compile.proofs.import_names.own_cycle.Goals as goal

pub returns : goal.returns
returns c =
    let name = c.args.asked.now.name.now in
    tells_cycle c.args.asked.now.file.now (name ∷ name ∷ []) c.in_ok-names.names c.refused.result
    c.in_ok-names.ensures c.refused.ensures
