use Rattle.sx_arena.proofs.Kept.{limit_shallow}
use Rattle.sx_arena.proofs.arena_cut.is_worth.Goals as goal

pub returns-in-None : goal.returns-in-None
returns-in-None c = λ e. limit_shallow _ c.in-None.ensures
