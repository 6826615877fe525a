use Rattle.std.proofs.Common.{◌≡◌, true, false, refl}
use Rattle.sx_arena.proofs.Placed.{get_at}
use Rattle.sx_accepting.proofs.NamedVars.{found-vars, later-vars, short-vars, ended-vars}
use Rattle.sx_accepting.proofs.acceptance_stops.vars_of.Goals as goal

pub returns-then-i-vars : goal.returns-then-i-vars
returns-then-i-vars c =
    short-vars c.args.names.now c.args.vars.now c.args.name.now c.loop-i.i c.loop-i.invariant
    c.if-i-vars.true

pub returns-then-same : goal.returns-then-same
returns-then-same c =
    found-vars c.args.names.now c.args.vars.now c.args.name.now c.loop-i.i c.loop-i.invariant
    c.index-names-i.result c.index-vars-i.result c.loop-i-test.true c.if-i-vars.false
    c.index-names-i.is c.index-vars-i.is
    (c.if-same.ensures.0 refl)

pub loop-i-preserved : goal.loop-i-preserved
loop-i-preserved c =
    let v = get_at c.args.vars.now c.loop-i.i c.if-i-vars.false in
    later-vars c.args.names.now c.args.vars.now c.args.name.now c.loop-i.i c.loop-i.invariant
    c.index-names-i.result v.0 c.loop-i-test.true c.if-i-vars.false c.index-names-i.is v.1
    (λ e. let q : false ≡ true = c.if-same.ensures.1 e in cc)

pub returns : goal.returns
returns c = ended-vars c.args.names.now c.args.vars.now c.args.name.now c.loop-i.i
    c.loop-i.invariant c.loop-i-test.false
