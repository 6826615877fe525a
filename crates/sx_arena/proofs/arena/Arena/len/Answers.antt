use Rattle.std.proofs.Common.{sym, ◌∙◌}
use Rattle.sx_arena.specs.Arena.{cell_tree}
use Rattle.sx_arena.proofs.Growing.{grown-length}
use Rattle.sx_arena.proofs.arena.Arena.len.Goals as goal

pub returns : goal.returns
returns c = c.len.ensures ∙ sym (grown-length cell_tree _)
