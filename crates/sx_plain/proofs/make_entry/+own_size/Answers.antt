use Rattle.std.proofs.Common.{ap, arith, rules, List}
use Rattle.sx_term.specs.declared.term.Term.TheViews.{the_lemmas}
use Rattle.sx_term.specs.declared.term.Term.{Term}
use Rattle.sx_term.specs.Tree.{size_of, total_size}
use Rattle.sx_term.proofs.Kids.{trees, tree-at_node, trees-drop, trees-drop_all, depth_of-kid}
use Rattle.sx_plain.specs.Uses.{own_size, own_sizes}
use Rattle.sx_plain.proofs.UseLaws.{all_own-within, size-kid}
use Rattle.sx_plain.proofs.make_entry.+own_size.Goals as goal

pub own_size-all-requires : goal.own_size-all-requires
own_size-all-requires t c =
    let k = depth_of-kid _ _ _ _ _ _ c.in-Node.is c.deref-kid-items.ensures.value c.loop-kid-test.true c.kid-item.is in
    let s = size-kid _ _ _ _ _ _ c.in-Node.is c.deref-kid-items.ensures.value c.loop-kid-test.true c.kid-item.is in
    search (rules, the_lemmas)

pub overflow_add-all : goal.overflow_add-all
overflow_add-all t c =
    let d = ap own_sizes (trees-drop _ _ _ c.loop-kid-test.true c.kid-item.is) in
    let e = ap size_of (tree-at_node _ _ _ c.in-Node.is) in
    let s = ap (λ (ts : List Term). total_size (trees ts)) c.deref-kid-items.ensures.value in
    let a = all_own-within (trees c.deref-kid-items.result.now) in
    let i = c.loop-kid.invariant in
    let r = c.requires.small in
    let q = c.own_size-all.ensures in
    grind arith

pub loop-kid-preserved : goal.loop-kid-preserved
loop-kid-preserved t c =
    let d = ap own_sizes (trees-drop _ _ _ c.loop-kid-test.true c.kid-item.is) in
    let i = c.loop-kid.invariant in
    let q = c.own_size-all.ensures in
    omega arith

pub returns-after-loop-kid : goal.returns-after-loop-kid
returns-after-loop-kid t c =
    let e = ap own_size (tree-at_node _ _ _ c.in-Node.is) in
    let s = ap (λ (ts : List Term). own_sizes (trees ts)) c.deref-kid-items.ensures.value in
    let d = ap own_sizes (trees-drop_all c.deref-kid-items.result.now c.loop-kid.kid-index c.loop-kid-test.false) in
    let i = c.loop-kid.invariant in
    omega arith
