use Rattle.std.proofs.Common.{◌≡◌, ◌<◌, length, get_or, ap, sym, refl, subst, arith, rules}
use Rattle.sx_derive.specs.Chains.{HeadFits}
use Rattle.sx_derive.specs.Store.{store_envs, store_kids}
use Rattle.sx_derive.specs.Listing.{HeadsFit, head_kids}
use Rattle.sx_derive.specs.declared.chains.Head.TheVariants.{Given}
use Rattle.sx_derive.proofs.HeadLists.{head_at, list_opens, list_on, list_ends}
use Rattle.sx_derive.proofs.export_list.+put_list.Goals as goal

pub heads_of-requires-clause-within : goal.heads_of-requires-clause-within
heads_of-requires-clause-within t c =
    let s = c.args.store.now in
    (subst (HeadFits (length (store_envs s)) (length (store_kids s))) c.in-By.is c.requires.head).1

pub loop-kid-init : goal.loop-kid-init
loop-kid-init t c =
    let s = c.args.store.now in
    list_opens (store_envs s) (store_kids s) c.args.head c.in-By.number c.in-By.variables c.in-By.env c.in-By.kids c.in_ok-heads-in-By.heads.items c.deref-kid-items.result.now c.args.into.now.items c.push-in-By.new.self.items c.in-By.is c.in_ok-heads-in-By.ensures c.deref-kid-items.ensures.value c.in_ok-push-in-By.ensures.items

pub put_list-requires : goal.put_list-requires
put_list-requires t c =
    let s = c.args.store.now in
    let items = c.deref-kid-items.result.now in
    let kid = get_or items c.loop-kid.kid-index (Given 0) in
    let fits = subst (HeadsFit (length (store_envs s)) (length (store_kids s)) c.in-By.kids) (sym c.deref-kid-items.ensures.value) c.in_ok-heads-in-By.ensures.fit in
    let at = head_at (length (store_envs s)) (length (store_kids s)) c.in-By.kids items c.loop-kid.kid-index kid (Given 0) fits c.loop-kid-test.true refl in
    let f = at.0 in
    let n : head_kids c.args.head ≡ c.in-By.kids = ap head_kids c.in-By.is in
    let y = at.1 in
    let less : head_kids kid < head_kids c.args.head = omega arith in
    let k = c.requires.kids in
    let d = c.decreases in
    search rules

pub loop-kid-preserved : goal.loop-kid-preserved
loop-kid-preserved t c =
    let s = c.args.store.now in
    let items = c.deref-kid-items.result.now in
    list_on (store_envs s) (store_kids s) items c.loop-kid.kid-index (get_or items c.loop-kid.kid-index (Given 0)) (Given 0) c.loop-kid.into.items c.put_list.new.into.items _ c.loop-kid-test.true refl c.in_ok-put_list-in-By.ensures c.loop-kid.invariant

pub returns-after-loop-kid : goal.returns-after-loop-kid
returns-after-loop-kid t c =
    let s = c.args.store.now in
    list_ends (store_envs s) (store_kids s) c.deref-kid-items.result.now c.loop-kid.kid-index c.loop-kid.into.items _ c.loop-kid-test.false c.loop-kid.invariant
