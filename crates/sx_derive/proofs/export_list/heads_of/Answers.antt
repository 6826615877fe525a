use Rattle.std.proofs.Common.{◌≡◌, ◌≤◌, length, arith}
use Rattle.sx_derive.specs.Chains.{kid_step}
use Rattle.sx_derive.specs.Store.{store_envs, store_kids}
use Rattle.sx_arena.proofs.Growing.{grown-length}
use Rattle.sx_derive.proofs.Proved.{kid_read}
use Rattle.sx_derive.proofs.HeadLists.{heading_first, heading_more, heading_end}
use Rattle.sx_derive.proofs.export_list.heads_of.Goals as goal

pub loop-here-init : goal.loop-here-init
loop-here-init c = heading_first _ _ _ _ c.new-heads.ensures.items

pub index-kid-requires : goal.index-kid-requires
index-kid-requires c =
    let s = c.args.store.now in
    let m = grown-length (kid_step (store_envs s)) s.kids.items in
    let z = c.requires.within in
    let w = c.loop-here.invariant.within in
    let p = c.loop-here-test.true in
    let k = s.kids.ok in
    omega arith

pub loop-here-smaller : goal.loop-here-smaller
loop-here-smaller c =
    let s = c.args.store.now in
    let m = grown-length (kid_step (store_envs s)) s.kids.items in
    let z = c.requires.within in
    let w = c.loop-here.invariant.within in
    let l : c.loop-here.here ≤ length s.kids.items = omega arith in
    (kid_read (store_envs s) s.kids.items c.requires.kids c.loop-here.here c.index-kid.result.now c.loop-here-test.true l c.index-kid.ensures).before

pub loop-here-preserved : goal.loop-here-preserved
loop-here-preserved c =
    let s = c.args.store.now in
    let m = grown-length (kid_step (store_envs s)) s.kids.items in
    let z = c.requires.within in
    let w = c.loop-here.invariant.within in
    let l : c.loop-here.here ≤ length s.kids.items = omega arith in
    let r = kid_read (store_envs s) s.kids.items c.requires.kids c.loop-here.here c.index-kid.result.now c.loop-here-test.true l c.index-kid.ensures in
    heading_more (store_envs s) (store_kids s) _ _ _ _ c.index-kid.result.now c.loop-here.invariant r c.in_ok-push.ensures.items

pub returns : goal.returns
returns c =
    let s = c.args.store.now in
    let z : c.loop-here.here ≡ 0 = (let p = c.loop-here-test.false in omega arith) in
    heading_end (store_envs s) (store_kids s) c.args.kids c.loop-here.here c.loop-here.heads.items c.reverse.new.self.items c.loop-here.invariant z c.reverse.ensures.items
