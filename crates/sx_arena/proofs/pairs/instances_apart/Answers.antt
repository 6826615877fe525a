use Rattle.sx_arena.proofs.Growing.{extends-then, extends-length}
use Rattle.sx_arena.proofs.BindChains.{envs_stay}
use Rattle.sx_arena.proofs.Parted.{pairs_more_terms, told}
use Rattle.sx_arena.proofs.pairs.instances_apart.Goals as goal

pub made-requires-2-clause-binds : goal.made-requires-2-clause-binds
made-requires-2-clause-binds c =
    let v = envs_stay _ _ c.in_ok-left.ensures.extends c.args.chain.now.binds.now c.requires.binds in
    v.1

pub apart-requires-clause-pairs : goal.apart-requires-clause-pairs
apart-requires-clause-pairs c = pairs_more_terms _ _ (extends-length _ _ (extends-then _ _ _ c.in_ok-left.ensures.extends c.in_ok-right.ensures.extends)) _ c.requires.pairs

pub returns : goal.returns
returns c = told _ _ _ c.args.chain.now.binds.now _ _ _ _ _ _ _ c.requires.binds c.requires.pairs c.in_ok-left.ensures c.in_ok-right.ensures c.apart.ensures
