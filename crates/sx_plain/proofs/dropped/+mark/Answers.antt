use Rattle.std.proofs.Common.{ap, arith, rules, sym, drop, length, ◌≤◌, ◌+◌, ◌∙◌, List, Bool}
use Rattle.sx_term.specs.declared.term.Term.TheViews.{the_lemmas}
use Rattle.sx_term.specs.declared.term.Term.{Term}
use Rattle.sx_term.specs.Term.{tree}
use Rattle.sx_term.specs.Tree.{Tree, Trees}
use Rattle.sx_term.proofs.Kids.{trees, tree-at_node, trees-drop, trees-drop_all, depth_of-kid}
use Rattle.sx_plain.specs.Marks.{marked, marked_all}
use Rattle.sx_plain.proofs.MarkLaws.{marked-set, marked-past}
use Rattle.sx_plain.proofs.dropped.+mark.Goals as goal

pub mark-requires : goal.mark-requires
mark-requires t c =
    let k = depth_of-kid _ _ _ _ _ _ c.in-Node.is c.deref-kid-items.ensures.value c.loop-kid-test.true c.kid-item.is in
    search (rules, the_lemmas)

pub loop-kid-preserved : goal.loop-kid-preserved
loop-kid-preserved t c =
    ap (λ (ms : List Bool). marked_all (trees (drop (c.loop-kid.kid-index + 1) c.deref-kid-items.result.now)) ms) c.mark.ensures
    ∙ sym (ap (λ (ts : Trees). marked_all ts c.loop-kid.marks.items) (trees-drop _ _ _ c.loop-kid-test.true c.kid-item.is)) ∙ c.loop-kid.invariant

pub returns-after-loop-kid : goal.returns-after-loop-kid
returns-after-loop-kid t c =
    sym (ap (λ (ts : Trees). marked_all ts c.loop-kid.marks.items) (trees-drop_all _ _ c.loop-kid-test.false))
    ∙ c.loop-kid.invariant
    ∙ ap (λ (ts : List Term). marked_all (trees ts) c.args.marks.now.items) c.deref-kid-items.ensures.value
    ∙ sym (ap (λ (x : Tree). marked x c.args.marks.now.items) (tree-at_node _ _ _ c.in-Node.is))

pub returns-then-i-len : goal.returns-then-i-len
returns-then-i-len t c =
    marked-set c.in-Var.variable c.args.marks.now.items
    ∙ sym (ap (λ (x : Term). marked (tree x) c.args.marks.now.items) c.in-Var.is)

pub returns-else-i-len : goal.returns-else-i-len
returns-else-i-len t c =
    let l : length c.args.marks.now.items ≤ c.in-Var.variable = (let a = c.if-i-len.false in let b = c.len.ensures in omega arith) in
    sym (marked-past c.in-Var.variable c.args.marks.now.items l)
    ∙ sym (ap (λ (x : Term). marked (tree x) c.args.marks.now.items) c.in-Var.is)
