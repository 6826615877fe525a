use Rattle.sx_arena.proofs.EnteredRows.{pair_shallow, pairs_more}
use Rattle.sx_arena.proofs.input.enter_pairs.Goals as goal

pub enter_pair-requires-clause-first : goal.enter_pair-requires-clause-first
enter_pair-requires-clause-first c = (pair_shallow c.args.apart.now c.requires.shallow c.loop-i.i c.index-apart-i.result c.loop-i-test.true c.index-apart-i.is).0

pub enter_pair-requires-clause-second : goal.enter_pair-requires-clause-second
enter_pair-requires-clause-second c = (pair_shallow c.args.apart.now c.requires.shallow c.loop-i.i c.index-apart-i.result c.loop-i-test.true c.index-apart-i.is).1

pub loop-i-preserved : goal.loop-i-preserved
loop-i-preserved c = pairs_more c.args.arena.now c.loop-i.arena c.enter_pair.new.arena c.args.apart.now c.loop-i.pairs.items c.push.new.self.items c.loop-i.i c.index-apart-i.result c.in_ok-enter_pair.field-0
    c.loop-i.invariant c.loop-i-test.true c.index-apart-i.is c.in_ok-enter_pair.ensures c.in_ok-push.ensures.items
