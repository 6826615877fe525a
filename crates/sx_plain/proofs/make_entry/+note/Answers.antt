use Rattle.std.proofs.Common.{ap, arith, rules, refl, sym, drop, set, get_or, length, ◌≤◌, ◌<◌, ◌+◌, ◌∙◌, List}
use Rattle.sx_term.specs.declared.term.Term.TheViews.{the_lemmas}
use Rattle.sx_term.specs.declared.term.Term.{Term}
use Rattle.sx_term.specs.Term.{tree}
use Rattle.sx_term.specs.Tree.{depth_of, size_of, total_size, Tree, Trees}
use Rattle.sx_term.proofs.Kids.{trees, tree-at_node, trees-drop, trees-drop_all, depth_of-kid}
use Rattle.sx_plain.specs.declared.part_use.PartUse.{PartUse}
use Rattle.sx_plain.specs.Uses.{noted, noted_all, most_times}
use Rattle.sx_plain.proofs.UseLaws.{times-noted, times-at, noted-set, noted-past}
use Rattle.sx_plain.proofs.make_entry.+note.Goals as goal

pub note-requires : goal.note-requires
note-requires t c =
    let k = depth_of-kid _ _ _ _ _ _ c.in-Node.is c.deref-kid-items.ensures.value c.loop-kid-test.true c.kid-item.is in
    let e = ap total_size (trees-drop _ _ _ c.loop-kid-test.true c.kid-item.is) in
    let f = c.loop-kid.invariant.few in
    let s = c.requires.shallow in
    let a : c.args.above + 1 + depth_of (tree c.kid-item.result) ≤ 1001 = omega arith in
    let b : most_times c.loop-kid.uses.items + size_of (tree c.kid-item.result) ≤ 1000000 = omega arith in
    search (rules, the_lemmas)

pub loop-kid-init : goal.loop-kid-init
loop-kid-init t c =
    let f = c.requires.few in
    let e = ap size_of (tree-at_node _ _ _ c.in-Node.is) in
    let s = ap (λ (ts : List Term). total_size (trees ts)) c.deref-kid-items.ensures.value in
    record { so_far = refl; few = omega arith }

pub loop-kid-preserved : goal.loop-kid-preserved
loop-kid-preserved t c =
    let d = trees-drop _ _ _ c.loop-kid-test.true c.kid-item.is in
    let e = ap total_size d in
    let f = c.loop-kid.invariant.few in
    let n = times-noted (c.args.above + 1) (tree c.kid-item.result) c.loop-kid.uses.items in
    let m = ap most_times c.note.ensures in
    record {
      so_far = ap (λ (us : List PartUse). noted_all (c.args.above + 1) (trees (drop (c.loop-kid.kid-index + 1) c.deref-kid-items.result.now)) us) c.note.ensures ∙ sym (ap (λ (ts : Trees). noted_all (c.args.above + 1) ts c.loop-kid.uses.items) d) ∙ c.loop-kid.invariant.so_far;
      few = omega arith;
    }

pub returns-after-loop-kid : goal.returns-after-loop-kid
returns-after-loop-kid t c =
    sym (ap (λ (ts : Trees). noted_all (c.args.above + 1) ts c.loop-kid.uses.items) (trees-drop_all _ _ c.loop-kid-test.false))
    ∙ c.loop-kid.invariant.so_far
    ∙ ap (λ (ts : List Term). noted_all (c.args.above + 1) (trees ts) c.args.uses.now.items) c.deref-kid-items.ensures.value
    ∙ sym (ap (λ (x : Tree). noted c.args.above x c.args.uses.now.items) (tree-at_node _ _ _ c.in-Node.is))

pub once_more-requires : goal.once_more-requires
once_more-requires t c =
    let l : c.in-Var.variable < length c.deref.result.now = (let a = c.if-i-len.true in let b = c.len.ensures in let d = c.deref.ensures.len in omega arith) in
    let m = times-at _ _ _ l c.use_at-part.ensures in
    let e = ap (λ (x : Term). size_of (tree x)) c.in-Var.is in
    let v = ap most_times c.deref.ensures.value in
    let f = c.requires.few in
    omega arith

pub returns-then-i-len : goal.returns-then-i-len
returns-then-i-len t c =
    let l : c.in-Var.variable < length c.args.uses.now.items = (let a = c.if-i-len.true in let b = c.len.ensures in omega arith) in
    let g = c.use_at-part.ensures ∙ ap (λ (us : List PartUse). get_or us c.in-Var.variable c.use_at-part.result) c.deref.ensures.value in
    ap (λ (u : PartUse). set c.args.uses.now.items c.in-Var.variable u) c.once_more.ensures
    ∙ noted-set c.args.above c.in-Var.variable c.args.uses.now.items c.use_at-part.result l g
    ∙ sym (ap (λ (x : Term). noted c.args.above (tree x) c.args.uses.now.items) c.in-Var.is)

pub returns-else-i-len : goal.returns-else-i-len
returns-else-i-len t c =
    let l : length c.args.uses.now.items ≤ c.in-Var.variable = (let a = c.if-i-len.false in let b = c.len.ensures in omega arith) in
    sym (noted-past c.args.above c.in-Var.variable c.args.uses.now.items l)
    ∙ sym (ap (λ (x : Term). noted c.args.above (tree x) c.args.uses.now.items) c.in-Var.is)
