use Rattle.sx_extcheck.proofs.Ready.{can-measure, premises-ready, places-ready, body-ready, flat-ready}
use Rattle.sx_extcheck.proofs.rule_checking.check_rule.Goals as goal

pub measure_rule-requires : goal.measure_rule-requires
measure_rule-requires g c = can-measure c.args.checking.now c.args.ext.now c.requires

pub plain_premises-requires : goal.plain_premises-requires
plain_premises-requires g c =
    rw c.deref.ensures.value (premises-ready c.args.checking.now c.args.ext.now c.requires (rw c.base_rules-base.ensures at c.in-Ok.ensures.0))

pub flat_goal-requires-clause-places : goal.flat_goal-requires-clause-places
flat_goal-requires-clause-places g c = places-ready c.args.checking.now c.args.ext.now c.requires (rw c.base_rules-base.ensures at c.in-Ok.ensures.0)

pub flat_goal-requires-clause-body : goal.flat_goal-requires-clause-body
flat_goal-requires-clause-body g c = body-ready c.args.checking.now c.args.ext.now c.requires (rw c.base_rules-base.ensures at c.in-Ok.ensures.0)

pub check_flat-flat-requires : goal.check_flat-flat-requires
check_flat-flat-requires g c =
    flat-ready c.args.checking.now c.args.ext.now c.requires (rw c.base_rules-base.ensures at c.in-Ok.ensures.0) c.in_ok-given-in-Ok.given c.in-Ok-flat_goal.goal
    (rw c.deref.ensures.value at c.in_ok-given-in-Ok.ensures) (rw c.base_rules-base.ensures at c.in-Ok-flat_goal.ensures.goal) (rw c.base_rules-base.ensures at c.in-Ok-flat_goal.ensures.wanted)
