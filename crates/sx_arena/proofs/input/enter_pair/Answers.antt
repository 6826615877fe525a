use Rattle.sx_arena.proofs.EnteredRows.{pair_in}
use Rattle.sx_arena.proofs.input.enter_pair.Goals as goal

pub returns : goal.returns
returns c = pair_in c.args.arena.now c.enter.new.arena c.enter-2.new.arena c.in_ok-first.first c.in_ok-second.second _ _ c.in_ok-first.ensures c.in_ok-second.ensures
