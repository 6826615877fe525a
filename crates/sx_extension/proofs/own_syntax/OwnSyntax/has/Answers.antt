use Rattle.std.proofs.Common.{◌≤◌, ◌<◌, length, arith}
use Rattle.sx_extension.proofs.Owned.{own_at}
use Rattle.sx_extension.proofs.own_syntax.OwnSyntax.has.Goals as goal

pub returns : goal.returns
returns c =
    let cons = c.args.self.now.shapes.now.cons.items in
    let low : c.args.self.now.first ≤ c.args.label = omega arith in
    let small : c.args.label < length cons = omega arith in
    own_at cons c.args.self.now.first c.args.label c.index.result.now c.is_typed.result low small c.index.ensures c.is_typed.ensures
