use Rattle.std.proofs.Common.{◌≡◌, ◌+◌, ◌-◌, ◌<◌, length, arith}
use Rattle.sx_arena.specs.Views.{rules_of, set_modes}
use Rattle.sx_derive.specs.Store.{store_trees}
use Rattle.sx_arena.proofs.Patterns.{ok_weaker}
use Rattle.sx_derive.proofs.Tasked.{fact_at, facts_length, given_is_next, rule_is_next, rule_there}
use Rattle.sx_derive.proofs.tasks.try_next.Goals as goal

pub try_given-requires-clause-fact : goal.try_given-requires-clause-fact
try_given-requires-clause-fact c =
    let b = c.requires.facts in
    let f = fact_at _ _ b.0 c.args.given.now.facts.now b.1 c.args.task.now.next c.index-given-task.result c.if-task-given.true in
    (f.0, f.2)

pub returns-then-task-given : goal.returns-then-task-given
returns-then-task-given c =
    let m = set_modes c.args.given.now.rules.now in
    let s = c.args.store.now in
    ok_weaker _ _ (λ step h js a.
    let f = fact_at m (store_trees s) js c.args.given.now.facts.now a c.args.task.now.next c.index-given-task.result c.if-task-given.true in
    let l : c.args.task.now.next < length js = (let k = facts_length m (store_trees s) js c.args.given.now.facts.now a in let z = c.if-task-given.true in omega arith) in
    given_is_next m (rules_of c.args.given.now.rules.now) c.args.given.now.pairs.now js s c.try_given.new.store c.args.task.now step f.0 f.1 l
    (h f.0 f.2)) c.try_given.result c.try_given.ensures

pub returns : goal.returns
returns c =
    let m = set_modes c.args.given.now.rules.now in
    let s = c.args.store.now in
    ok_weaker _ _ (λ step h js a.
    let r = c.args.task.now.next - length c.args.given.now.facts.now in
    let k = facts_length m (store_trees s) js c.args.given.now.facts.now a in
    let z = c.if-task-given.false in
    let y = c.requires.next in
    let l : r < length (rules_of c.args.given.now.rules.now) = omega arith in
    let f = rule_there (rules_of c.args.given.now.rules.now) r l in
    let n : c.args.task.now.next ≡ length js + r = omega arith in
    rule_is_next m (rules_of c.args.given.now.rules.now) c.args.given.now.pairs.now js s c.try_rule.new.store c.args.task.now step r f.0 n f.1
    (h f.0 f.1)) c.try_rule.result c.try_rule.ensures
