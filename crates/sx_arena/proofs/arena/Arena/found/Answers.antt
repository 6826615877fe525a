use Rattle.sx_arena.proofs.Arenas.{place_of_cell}
use Rattle.sx_arena.proofs.arena.Arena.found.Goals as goal

pub returns : goal.returns
returns c = place_of_cell _ c.requires.arena _ c.requires.cell _ c.find.ensures
