use Rattle.sx_outline.specs.Fitting.{stems}
use Rattle.sx_outline.specs.View.{known}
use Rattle.sx_outline.proofs.BeforeLaws.{stands_before, stands_first}
use Rattle.sx_outline.proofs.known.Known.var_fits.Goals as goal

pub returns-then-is_before : goal.returns-then-is_before
returns-then-is_before c =
    let k = c.args.self.now in
    stands_before c.is_before.result (c.is_before.ensures (stems (known k)) k.tabled.stems_found) c.if-is_before.true

pub returns : goal.returns
returns c =
    let k = c.args.self.now in
    stands_first c.is_before.result (c.is_before.ensures (stems (known k)) k.tabled.stems_found) c.is_known_sort.result c.if-is_before.false c.is_known_sort.ensures
