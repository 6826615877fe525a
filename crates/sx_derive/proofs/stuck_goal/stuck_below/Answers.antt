use Rattle.std.proofs.Common.{arith, subst}
use Rattle.sx_arena.specs.Views.{rules_of, set_modes}
use Rattle.sx_arena.proofs.Patterns.{ok_weaker}
use Rattle.sx_derive.specs.Ways.{subject_modes}
use Rattle.sx_derive.specs.declared.descent.Descent.TheVariants.{Stuck}
use Rattle.sx_derive.proofs.Sunk.{sinking_first, sink_quiet, sink_descent, sink_ends, sink_goes, sunk, From}
use Rattle.sx_derive.proofs.stuck_goal.stuck_below.Goals as goal
use Rattle.sx_derive.proofs.stuck_goal.stuck_below.Goals.{In-Stuck}

-- the descent is to a stuck goal
ended : (c : In-Stuck) → From (set_modes c.args.given.now.rules.now) (subject_modes c.args.given.now.rules.now) (rules_of c.args.given.now.rules.now) c.loop-left.invariant.0 c.args.bounds.budget c.args.bounds.levels c.args.store.now c.args.given.now.facts.now c.args.given.now.pairs.now c.args.first c.loop-left.store c.loop-left.left c.loop-left.notes.items c.loop-left.here c.loop-left-test.true c.loop-left.invariant.1 c.descend.new.store c.descend.new.notes.items (Stuck c.in-Stuck.spot c.in-Stuck.reason)
ended c = subst (λ d. From (set_modes c.args.given.now.rules.now) (subject_modes c.args.given.now.rules.now) (rules_of c.args.given.now.rules.now) c.loop-left.invariant.0 c.args.bounds.budget c.args.bounds.levels c.args.store.now c.args.given.now.facts.now c.args.given.now.pairs.now c.args.first c.loop-left.store c.loop-left.left c.loop-left.notes.items c.loop-left.here c.loop-left-test.true c.loop-left.invariant.1 c.descend.new.store c.descend.new.notes.items d) c.in-Stuck.is c.in_ok-spot.ensures.descent

pub loop-left-init : goal.loop-left-init
loop-left-init c =
    let q = c.requires.quiet in
    (q.0, sinking_first (set_modes c.args.given.now.rules.now) (subject_modes c.args.given.now.rules.now) (rules_of c.args.given.now.rules.now) q.0 c.args.bounds.budget c.args.bounds.levels c.args.store.now c.args.given.now.facts.now c.args.given.now.pairs.now c.args.first c.requires.store c.requires.terms q.1 q.2 c.args.noted.items q.3)

pub descend-requires-clause-levels : goal.descend-requires-clause-levels
descend-requires-clause-levels c =
    let l = c.loop-left.invariant.1.few in
    let m = c.requires.levels in
    let p = c.loop-left-test.true in
    omega arith

pub descend-requires-clause-quiet : goal.descend-requires-clause-quiet
descend-requires-clause-quiet c =
    sink_quiet (set_modes c.args.given.now.rules.now) (subject_modes c.args.given.now.rules.now) (rules_of c.args.given.now.rules.now) c.loop-left.invariant.0 c.args.bounds.budget c.args.bounds.levels c.args.store.now c.args.given.now.facts.now c.args.given.now.pairs.now c.args.first
    c.loop-left.store c.loop-left.left c.loop-left.notes.items c.loop-left.here c.loop-left-test.true c.loop-left.invariant.1

pub export_blame-requires-clause-terms : goal.export_blame-requires-clause-terms
export_blame-requires-clause-terms c =
    (sink_descent (set_modes c.args.given.now.rules.now) (subject_modes c.args.given.now.rules.now) (rules_of c.args.given.now.rules.now) c.loop-left.invariant.0 c.args.bounds.budget c.args.bounds.levels c.args.store.now c.args.given.now.facts.now c.args.given.now.pairs.now c.args.first c.loop-left.store c.loop-left.left c.loop-left.notes.items c.loop-left.here c.loop-left-test.true c.loop-left.invariant.1 c.descend.new.store c.descend.new.notes.items (Stuck c.in-Stuck.spot c.in-Stuck.reason) (ended (goal.at.export_blame-requires-clause-terms c).In-Stuck)).0

pub export_blame-requires-clause-reason : goal.export_blame-requires-clause-reason
export_blame-requires-clause-reason c =
    (sink_descent (set_modes c.args.given.now.rules.now) (subject_modes c.args.given.now.rules.now) (rules_of c.args.given.now.rules.now) c.loop-left.invariant.0 c.args.bounds.budget c.args.bounds.levels c.args.store.now c.args.given.now.facts.now c.args.given.now.pairs.now c.args.first c.loop-left.store c.loop-left.left c.loop-left.notes.items c.loop-left.here c.loop-left-test.true c.loop-left.invariant.1 c.descend.new.store c.descend.new.notes.items (Stuck c.in-Stuck.spot c.in-Stuck.reason) (ended (goal.at.export_blame-requires-clause-reason c).In-Stuck)).1

pub returns-in-Stuck : goal.returns-in-Stuck
returns-in-Stuck c =
    ok_weaker _ _ (λ b e. sink_ends (set_modes c.args.given.now.rules.now) (subject_modes c.args.given.now.rules.now) (rules_of c.args.given.now.rules.now) c.loop-left.invariant.0 c.args.bounds.budget c.args.bounds.levels c.args.store.now c.args.given.now.facts.now c.args.given.now.pairs.now c.args.first c.loop-left.store c.loop-left.left c.loop-left.notes.items c.loop-left.here c.loop-left-test.true c.loop-left.invariant.1 c.descend.new.store c.descend.new.notes.items
    c.in-Stuck.spot c.in-Stuck.reason b (ended (goal.at.returns-in-Stuck c).In-Stuck) e) c.export_blame.result c.export_blame.ensures

pub loop-left-preserved : goal.loop-left-preserved
loop-left-preserved c =
    let m = set_modes c.args.given.now.rules.now in
    let su = subject_modes c.args.given.now.rules.now in
    let rs = rules_of c.args.given.now.rules.now in
    let x = c.loop-left.invariant.0 in
    let f = subst (λ d. From m su rs x c.args.bounds.budget c.args.bounds.levels c.args.store.now c.args.given.now.facts.now c.args.given.now.pairs.now c.args.first c.loop-left.store c.loop-left.left c.loop-left.notes.items c.loop-left.here c.loop-left-test.true c.loop-left.invariant.1 c.descend.new.store c.descend.new.notes.items d) c.in-Below.is c.in_ok-spot.ensures.descent in (
      x,
      sink_goes m su rs x c.args.bounds.budget c.args.bounds.levels c.args.store.now c.args.given.now.facts.now c.args.given.now.pairs.now c.args.first c.loop-left.store c.loop-left.left c.loop-left.notes.items c.loop-left.here c.loop-left-test.true c.loop-left.invariant.1 c.descend.new.store c.descend.new.notes.items
          c.in_ok-spot.ensures.grows c.in-Below.next f,
    )

pub unreachable-requires : goal.unreachable-requires
unreachable-requires c =
    sunk (set_modes c.args.given.now.rules.now) (subject_modes c.args.given.now.rules.now) (rules_of c.args.given.now.rules.now) c.loop-left.invariant.0 c.args.bounds.budget c.args.bounds.levels c.args.store.now c.args.given.now.facts.now c.args.given.now.pairs.now c.args.first
    c.loop-left.store c.loop-left.left c.loop-left.notes.items c.loop-left.here c.loop-left-test.false c.loop-left.invariant.1
