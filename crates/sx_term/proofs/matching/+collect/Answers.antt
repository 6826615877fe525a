use Rattle.std.proofs.Common.{◌<◌, length, refl, ap, ◌∙◌, sym, ◌++◌, arith, rules}
use Rattle.sx_term.specs.Bindings.{lookup}
use Rattle.sx_term.specs.Bound.{bindings}
use Rattle.sx_term.specs.Candidates.{candidates}
use Rattle.sx_term.specs.Term.{tree}
use Rattle.sx_term.specs.declared.term.Term.TheViews.{the_lemmas}
use Rattle.sx_term.proofs.Kids.{tree-at_node, depth_of-kid}
use Rattle.sx_term.proofs.Matches.{lengths_clash, SameFrom-more, SameFrom-clash, SameFrom-done, AddsOnlyOf-kid, fresh_least, fresh_adds}
use Rattle.sx_term.proofs.CandidateLemmas.{candidates-push}
use Rattle.sx_term.proofs.matching.+collect.Goals as goal

pub returns-then-len : goal.returns-then-len
returns-then-len t c =
    lengths_clash _ _ _ _ _ c.in-Node.kids.items c.in-Node-term.other_kids.items (tree-at_node _ _ _ c.in-Node.is) (tree-at_node _ _ _ c.in-Node-term.is) (λ e. c.if-len.true (omega arith))

pub collect-requires : goal.collect-requires
collect-requires t c =
    let h : c.loop-i.i < length c.in-Node.kids.items = omega arith in
    let k : c.loop-i.i < length c.in-Node-term.other_kids.items = omega arith in
    let a = depth_of-kid _ _ _ _ _ _ c.in-Node.is refl h c.index.ensures in
    let b = depth_of-kid _ _ _ _ _ _ c.in-Node-term.is refl k c.index-in-loop-i.ensures in
    search (rules, the_lemmas)

pub returns-then-not-branch : goal.returns-then-not-branch
returns-then-not-branch t c =
    SameFrom-clash _ _ _ _ _ _ _ _ _ _ _ c.in-Node.is c.in-Node-term.is c.if-label-other_label.false (omega arith) c.loop-i.invariant.long c.index.ensures c.index-in-loop-i.ensures c.loop-i.invariant.same
    (rw c.if-not-branch.true at c.in_ok-collect-in-Node-term.ensures)

pub loop-i-preserved : goal.loop-i-preserved
loop-i-preserved t c =
    let h : c.loop-i.i < length c.in-Node.kids.items = omega arith in
    let fit = rw c.if-not-branch.false at c.in_ok-collect-in-Node-term.ensures in
    record {
      long = c.loop-i.invariant.long;
      same = SameFrom-more _ _ _ _ _ _ _ _ h c.loop-i.invariant.long c.index.ensures c.index-in-loop-i.ensures c.loop-i.invariant.same fit.0;
      adds = AddsOnlyOf-kid _ _ _ _ _ _ _ _ c.in-Node.is h c.index.ensures c.loop-i.invariant.adds fit.1;
    }

pub returns-after-loop-i : goal.returns-after-loop-i
returns-after-loop-i t c =
    (SameFrom-done _ _ _ _ _ _ _ _ _ c.in-Node.is c.in-Node-term.is c.if-label-other_label.false (omega arith) c.loop-i.invariant.long c.loop-i.invariant.same, c.loop-i.invariant.adds)

pub returns-in_ok-push-in-None : goal.returns-in_ok-push-in-None
returns-in_ok-push-in-None t c =
    let p = ap tree c.in-Var.is in
    let g = candidates-push (bindings c.args.bound.now) c.args.parts.now.items _ _ c.in_ok-push-in-None.ensures.items in
    let n = ap (λ xs. lookup (bindings c.args.bound.now ++ candidates xs) c.in-Var.variable) (sym c.deref.ensures.value) ∙ c.in-None.ensures.value in
    (fresh_least _ _ _ _ _ p n g, fresh_adds _ _ _ (tree c.args.term.now) _ p n g)
