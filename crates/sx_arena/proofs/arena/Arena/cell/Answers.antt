use Rattle.std.proofs.Common.{arith}
use Rattle.sx_arena.specs.Arena.{cell_tree}
use Rattle.sx_arena.proofs.Growing.{grown-length}
use Rattle.sx_arena.proofs.Arenas.{cell_read}
use Rattle.sx_arena.proofs.arena.Arena.cell.Goals as goal

pub get-requires : goal.get-requires
get-requires c =
    let l = c.requires.within in
    let e = grown-length cell_tree c.args.self.now.cells in
    omega arith

pub returns : goal.returns
returns c =
    let l = c.requires.within in
    let e = grown-length cell_tree c.args.self.now.cells in
    cell_read _ c.requires.arena _ _ (omega arith) c.get.ensures
