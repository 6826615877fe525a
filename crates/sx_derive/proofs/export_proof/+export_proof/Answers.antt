use Rattle.std.proofs.Common.{◌≡◌, ◌<◌, ◌≤◌, length, ap, arith, subst, rules}
use Rattle.sx_arena.specs.Binds.{bind_step}
use Rattle.sx_derive.specs.Chains.{HeadFits, kid_step}
use Rattle.sx_derive.specs.Store.{store_trees, store_envs, store_kids}
use Rattle.sx_arena.proofs.Growing.{grown-length}
use Rattle.sx_derive.specs.Listing.{head_kids}
use Rattle.sx_derive.proofs.Proved.{kid_read, proving_first, proving_more, proving_end}
use Rattle.sx_derive.proofs.export_proof.+export_proof.Goals as goal
use Rattle.sx_derive.proofs.export_proof.+export_proof.Goals.{At-loop-here}

-- the kid at hand is in the store
within : (t : _) (c : At-loop-here t) → c.loop-here.here ≤ length c.args.store.now.kids.items
within t c =
    let s = c.args.store.now in
    let h = subst (HeadFits (length (store_envs s)) (length (store_kids s))) c.in-By.is c.requires.head in
    let m = grown-length (kid_step (store_envs s)) s.kids.items in
    let z = h.1 in
    let w = c.loop-here.invariant.within in
    omega arith

pub export_binds-requires-clause-env : goal.export_binds-requires-clause-env
export_binds-requires-clause-env t c =
    let s = c.args.store.now in
    let h = subst (HeadFits (length (store_envs s)) (length (store_kids s))) c.in-By.is c.requires.head in
    let m = grown-length (bind_step (store_trees s)) s.binds.cells.items in
    let z = h.0 in
    omega arith

pub loop-here-init : goal.loop-here-init
loop-here-init t c = proving_first _ _ _ c.new-proofs.ensures.items

pub index-kid-requires : goal.index-kid-requires
index-kid-requires t c =
    let l = within t (goal.at.index-kid-requires t c).At-loop-here in
    let p = c.loop-here-test.true in
    let k = c.args.store.now.kids.ok in
    omega arith

pub export_proof-requires : goal.export_proof-requires
export_proof-requires t c =
    let s = c.args.store.now in
    let l = within t (goal.at.export_proof-requires t c).At-loop-here in
    let r = kid_read (store_envs s) s.kids.items c.requires.kids c.loop-here.here c.index-kid.result.now c.loop-here-test.true l c.index-kid.ensures in
    let f = r.head in
    let n : head_kids c.args.head ≡ c.in-By.kids = ap head_kids c.in-By.is in
    let y = r.less in
    let less : head_kids c.index-kid.result.now.head < head_kids c.args.head = omega arith in
    let a = c.requires.arena in
    let b = c.requires.binds in
    let k = c.requires.kids in
    let d = c.decreases in
    search rules

pub loop-here-smaller : goal.loop-here-smaller
loop-here-smaller t c =
    let s = c.args.store.now in
    let l = within t (goal.at.loop-here-smaller t c).At-loop-here in
    (kid_read (store_envs s) s.kids.items c.requires.kids c.loop-here.here c.index-kid.result.now c.loop-here-test.true l c.index-kid.ensures).before

pub loop-here-preserved : goal.loop-here-preserved
loop-here-preserved t c =
    let s = c.args.store.now in
    let l = within t (goal.at.loop-here-preserved t c).At-loop-here in
    let r = kid_read (store_envs s) s.kids.items c.requires.kids c.loop-here.here c.index-kid.result.now c.loop-here-test.true l c.index-kid.ensures in
    proving_more (store_envs s) (store_kids s) _ _ _ _ c.index-kid.result.now c.in_ok-new-in-By.field-0 c.in_ok-made-in-By.made c.loop-here.invariant r c.in_ok-made-in-By.ensures c.in_ok-new-in-By.ensures.ok c.in_ok-push-in-By.ensures.items

pub returns-after-loop-here : goal.returns-after-loop-here
returns-after-loop-here t c =
    let s = c.args.store.now in
    let z : c.loop-here.here ≡ 0 = (let p = c.loop-here-test.false in omega arith) in
    proving_end (store_envs s) (store_kids s) c.in-By.kids c.loop-here.here c.in-By.number c.in-By.variables c.in-By.env c.loop-here.proofs.items c.args.head c.in_ok-binds-in-By.binds c.reverse.new.self c.loop-here.invariant z c.in-By.is c.in_ok-binds-in-By.ensures c.reverse.ensures.items
