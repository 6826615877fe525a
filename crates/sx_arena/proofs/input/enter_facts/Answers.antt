use Rattle.sx_arena.specs.Views.{set_modes}
use Rattle.sx_arena.proofs.EnteredRows.{judgement_shallow, facts_more}
use Rattle.sx_arena.proofs.input.enter_facts.Goals as goal

pub enter_fact-requires-clause-shallow : goal.enter_fact-requires-clause-shallow
enter_fact-requires-clause-shallow c = judgement_shallow c.args.holds.now c.requires.shallow c.loop-i.i c.index-holds-i.result c.loop-i-test.true c.index-holds-i.is

pub loop-i-preserved : goal.loop-i-preserved
loop-i-preserved c = facts_more (set_modes c.args.rules.now) c.args.arena.now c.loop-i.arena c.enter_fact.new.arena c.args.holds.now c.loop-i.facts.items c.push.new.self.items c.loop-i.i c.index-holds-i.result c.in_ok-enter_fact.field-0
    c.loop-i.invariant c.loop-i-test.true c.index-holds-i.is c.in_ok-enter_fact.ensures c.in_ok-push.ensures.items
