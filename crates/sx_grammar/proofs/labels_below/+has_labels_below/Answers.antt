use Rattle.std.proofs.Common.{◌≡◌, ℕ, List, ◌<◌, ◌+◌, ◌↔◌, length, get_or, drop, ap, ◌∙◌, sym, subst, arith, IsTrue, true, refl}
use Rattle.std.proofs.lemmas.Bool.{false≢true}
use Rattle.sx_term.specs.declared.term.Term.{Term}
use Rattle.sx_term.specs.Term.{tree}
use Rattle.sx_term.specs.Tree.{node}
use Rattle.sx_term.proofs.Kids.{trees, trees-drop, tree-at_node, depth_of-kid}
use Rattle.sx_grammar.specs.Told.{HasLabelsBelow, HaveLabelsBelow}
use Rattle.sx_grammar.proofs.TableLaws.{kid_above, all_below}
use Rattle.sx_grammar.proofs.labels_below.+has_labels_below.Goals as goal

kid_passed : (bound : ℕ) (ts : List Term) (i : ℕ) (k : Term) → i < length ts → k ≡ get_or ts i k → HasLabelsBelow bound (tree k)
    → (HaveLabelsBelow bound (trees (drop i ts)) ↔ HaveLabelsBelow bound (trees ts)) → HaveLabelsBelow bound (trees (drop (i + 1) ts)) ↔ HaveLabelsBelow bound (trees ts)
kid_passed bound ts i k lt at has same = (
  λ rest. same.0 (subst (HaveLabelsBelow bound) (sym (trees-drop ts i k lt at)) (has, rest)),
  λ all. (subst (HaveLabelsBelow bound) (trees-drop ts i k lt at) (same.1 all)).1,
)

pub has_labels_below-requires : goal.has_labels_below-requires
has_labels_below-requires t c =
    let less = depth_of-kid _ _ _ _ _ _ c.in-Node.is c.deref-kid-items.ensures.value c.loop-kid-test.true c.kid-item.is in
    (omega (arith, less, c.decreases), omega (arith, less, c.requires))

pub returns-then-not-has_labels_below : goal.returns-then-not-has_labels_below
returns-then-not-has_labels_below t c =
    kid_above c.args.bound (tree c.args.term.now) c.in-Node.label c.deref-kid-items.result.now c.loop-kid.kid-index c.kid-item.result c.has_labels_below.result
    (tree-at_node _ _ _ c.in-Node.is ∙ ap (λ x. node c.in-Node.label (trees x)) (sym c.deref-kid-items.ensures.value))
    c.loop-kid-test.true c.kid-item.is c.loop-kid.invariant c.if-not-has_labels_below.true c.has_labels_below.ensures

pub loop-kid-preserved : goal.loop-kid-preserved
loop-kid-preserved t c =
    kid_passed c.args.bound c.deref-kid-items.result.now c.loop-kid.kid-index c.kid-item.result c.loop-kid-test.true c.kid-item.is
    (c.has_labels_below.ensures.0 c.if-not-has_labels_below.false) c.loop-kid.invariant

pub returns-after-loop-kid : goal.returns-after-loop-kid
returns-after-loop-kid t c =
    all_below c.args.bound (tree c.args.term.now) c.in-Node.label c.deref-kid-items.result.now c.loop-kid.kid-index
    (tree-at_node _ _ _ c.in-Node.is ∙ ap (λ x. node c.in-Node.label (trees x)) (sym c.deref-kid-items.ensures.value))
    c.if-label-bound.false c.loop-kid-test.false c.loop-kid.invariant

pub returns-then-label-bound : goal.returns-then-label-bound
returns-then-label-bound t c = (
  λ f. absurd (false≢true f),
  λ has.
      let all : HasLabelsBelow c.args.bound (node c.in-Node.label (trees c.in-Node.kids.items)) = subst (HasLabelsBelow c.args.bound) (tree-at_node _ _ _ c.in-Node.is) has in
      absurd (omega (arith, all.0, c.if-label-bound.true)),
)

pub returns-in-Lex : goal.returns-in-Lex
returns-in-Lex t c = subst (λ (x : Term). IsTrue true ↔ HasLabelsBelow c.args.bound (tree x)) (sym c.in-Lex.is) (λ h. tt, λ h. refl)

pub returns-in-Var : goal.returns-in-Var
returns-in-Var t c = subst (λ (x : Term). IsTrue true ↔ HasLabelsBelow c.args.bound (tree x)) (sym c.in-Var.is) (λ h. tt, λ h. refl)
