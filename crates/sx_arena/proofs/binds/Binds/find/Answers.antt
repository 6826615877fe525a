use Rattle.std.proofs.Common.{arith, ◌∙◌}
use Rattle.sx_arena.proofs.binds.Binds.find.Goals as goal
use Rattle.sx_arena.proofs.BindChains.{bind_read, found_here, found_before}

pub returns-then-bind-variable : goal.returns-then-bind-variable
returns-then-bind-variable c = λ ts h.
    let p = found_here ts c.args.self.now h c.loop-here.here c.args.variable c.index-bind.result.now c.loop-here-test.true c.loop-here.invariant.within c.index-bind.ensures c.if-bind-variable.true in
    (p.0, c.loop-here.invariant.same ts h ∙ p.1)

pub loop-here-smaller : goal.loop-here-smaller
loop-here-smaller c =
    let b = c.requires.binds in
    let r = bind_read b.0 c.args.self.now b.1 c.loop-here.here c.index-bind.result.now c.loop-here-test.true c.loop-here.invariant.within c.index-bind.ensures in
    r.before

pub loop-here-preserved : goal.loop-here-preserved
loop-here-preserved c =
    let b = c.requires.binds in
    let r = bind_read b.0 c.args.self.now b.1 c.loop-here.here c.index-bind.result.now c.loop-here-test.true c.loop-here.invariant.within c.index-bind.ensures in
    let p = r.before in
    let w = c.loop-here.invariant.within in
    record {
      within = (omega arith);
      same = λ ts h. c.loop-here.invariant.same ts h ∙ found_before ts c.args.self.now h c.loop-here.here c.args.variable c.index-bind.result.now c.loop-here-test.true c.loop-here.invariant.within c.index-bind.ensures c.if-bind-variable.false;
    }
