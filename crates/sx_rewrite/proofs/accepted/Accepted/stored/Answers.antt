use Rattle.std.proofs.Common.{arith, ◌-◌}
use Rattle.sx_rewrite.proofs.ShallowFlats.{shallow-at, flat-past}
use Rattle.sx_rewrite.proofs.accepted.Accepted.stored.Goals as goal

pub returns-then-place-len-clause-shallow : goal.returns-then-place-len-clause-shallow
returns-then-place-len-clause-shallow c =
    let l = c.if-place-len.true in
    let e = c.len.ensures in
    shallow-at c.args.self.now.flats.items (c.args.rule - c.args.self.now.first) c.index.result.now c.args.self.now.shallow (omega arith) c.index.ensures

pub returns-clause-value : goal.returns-clause-value
returns-clause-value c =
    let m = c.if-place-len.false in
    let e = c.len.ensures in
    flat-past c.args.self.now.flats.items c.args.self.now.first c.args.rule c.if-rule-self.false (omega arith)
