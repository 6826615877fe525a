use Rattle.sx_arena.specs.Arena.{cell_tree, IsNewCell}
use Rattle.sx_arena.proofs.Growing.{grown-take, fits-take}
use Rattle.sx_arena.proofs.arena.Arena.cut.Goals as goal

pub returns-clause-trees : goal.returns-clause-trees
returns-clause-trees c = grown-take cell_tree c.args.length _ _ c.truncate.ensures

pub returns-clause-arena : goal.returns-clause-arena
returns-clause-arena c = fits-take cell_tree IsNewCell c.args.length _ _ c.truncate.ensures
