use Rattle.sx_arena.proofs.Arenas.{add_new}
use Rattle.sx_arena.proofs.arena.Arena.add.Goals as goal

pub returns : goal.returns
returns c =
    let p = add_new _ _ _ _ c.requires.arena c.requires.cell c.in_ok-push.ensures c.len-index.ensures in
    record { arena = p.arena; extends = p.extends; within = p.within; is = p.is }
