use Rattle.sx_uses.specs.ExtensionFile.{extensions_of}
use Rattle.sx_uses.proofs.Walks.{uses_as}
use Rattle.sx_uses.proofs.uses_reading.read_uses.Goals as goal

pub returns-clause-step : goal.returns-clause-step
returns-clause-step g c = λ files told.
    uses_as c.args.language.now extensions_of c.args.file.now c.args.roots.items files
    c.read_reached.result (c.read_reached.ensures.step files told)
