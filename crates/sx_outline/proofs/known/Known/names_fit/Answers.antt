use Rattle.sx_outline.specs.Fitting.{NamesFit, parts_of_symbols}
use Rattle.sx_outline.specs.View.{known}
use Rattle.sx_outline.proofs.NameLaws.{names_left}
use Rattle.sx_outline.proofs.known.Known.names_fit.Goals as goal

pub returns-in-None : goal.returns-in-None
returns-in-None c =
    let d = known c.args.self.now in
    names_left d c.args.names.now c.loop-i.i (parts_of_symbols c.loop-i.rest.now) (NamesFit d c.args.names.now (parts_of_symbols c.args.symbols.now)) c.loop-i-test.true c.in-None.ensures c.loop-i.invariant
