use Rattle.std.proofs.Common.{arith, ℕ, ap, ◌∙◌, ◌+◌, ◌<◌, length}
use Rattle.sx_rewrite.proofs.Taking.{below-at, read-any, counted-step}
use Rattle.sx_rewrite.proofs.placed_kids.places_left.Goals as goal
use Rattle.sx_rewrite.proofs.placed_kids.places_left.Goals.{After-index}

-- the place is in the list
given_is_there : (c : After-index) → c.loop-i.i < length c.args.givens.now.items
given_is_there c = omega (arith, c.loop-i-test.true, c.args.givens.now.ok.0)

-- there is a kid for it
given_is_below : (c : After-index) → c.index.result.now < c.args.many
given_is_below c = below-at c.args.many c.args.givens.now.items c.loop-i.i c.index.result.now c.requires (given_is_there c) c.index.ensures

pub index_mut-requires : goal.index_mut-requires
index_mut-requires c =
    let b = given_is_below (goal.at.index_mut-requires c).After-index in
    let m = c.loop-i.invariant.many_are in
    let k = c.loop-i.left.ok.0 in
    omega (arith, b, m, k)

pub overflow_add-index_mut : goal.overflow_add-index_mut
overflow_add-index_mut c =
    let k = c.args.givens.now.ok in
    let b = given_is_below (goal.at.overflow_add-index_mut c).After-index in
    let f = c.loop-i.invariant.few c.index.result.now b in
    let m = c.loop-i.invariant.many_are in
    let v = c.index_mut.ensures.value ∙ read-any c.loop-i.left.items c.index.result.now c.index_mut.result.now 0 (omega (arith, b, m)) in
    omega arith

pub loop-i-preserved : goal.loop-i-preserved
loop-i-preserved c =
    let l = given_is_there (goal.at.loop-i-preserved c).After-index in
    let b = given_is_below (goal.at.loop-i-preserved c).After-index in
    let m = c.loop-i.invariant.many_are in
    let v = c.index_mut.ensures.value ∙ read-any c.loop-i.left.items c.index.result.now c.index_mut.result.now 0 (omega (arith, b, m)) in
    counted-step c.args.many c.args.givens.now.items c.loop-i.i c.loop-i.left.items c.index.result.now _ c.loop-i.invariant l c.index.ensures b (ap (λ (x : ℕ). x + 1) v)
