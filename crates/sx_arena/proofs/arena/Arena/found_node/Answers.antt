use Rattle.sx_arena.proofs.Arenas.{place_of_node}
use Rattle.sx_arena.proofs.arena.Arena.found_node.Goals as goal

pub returns : goal.returns
returns c = place_of_node _ c.requires.arena _ _ c.requires.kids _ c.find_node.ensures
