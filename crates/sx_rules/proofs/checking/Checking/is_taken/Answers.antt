use Rattle.sx_rules.proofs.NameLaws.{taken_before, not_before, taken_after}
use Rattle.sx_rules.proofs.checking.Checking.is_taken.Goals as goal

pub returns-then-has : goal.returns-then-has
returns-then-has c = taken_before c.args.self.now.before.now c.args.seen.now c.args.name.now c.has.result c.if-has.true c.has.ensures

pub returns-else-has : goal.returns-else-has
returns-else-has c =
    let before = c.args.self.now.before.now in
    taken_after before c.args.seen.now c.args.name.now c.has-else-has.result
    (not_before before c.args.seen.now c.args.name.now c.has.result c.if-has.false c.has.ensures) c.has-else-has.ensures
