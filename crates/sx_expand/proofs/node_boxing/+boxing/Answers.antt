use Rattle.std.proofs.Common.{rules, arith, ℕ, ◌+◌, List, ◌∷◌, length, map, refl, sym, ap, ◌∙◌, subst}
use Rattle.std.proofs.lemmas.Result.{IfOk-weaker}
use Rattle.sx_rules.specs.declared.rule.Premise.{Premise as PremiseOf}
use Rattle.sx_rules.specs.Deep.{PremisesAreShallow}
use Rattle.sx_rules.specs.Instances.{bound_by}
use Rattle.sx_rules.specs.ProofView.{proof}
use Rattle.sx_rules.specs.Rules.{holds, Rule, judgement_instance}
use Rattle.sx_rules.specs.Sets.{bare_rules_in}
use Rattle.sx_rules.specs.Views.{premise, judgement, rule}
use Rattle.sx_arena.specs.Arena.{trees, tree_at, AreBelow}
use Rattle.sx_arena.specs.Matching.{Assignment}
use Rattle.sx_arena.proofs.Growing.{extends-same, extends-then}
use Rattle.sx_expand.specs.Boxes.{cursor_terms, rules_from, IsFollowed}
use Rattle.sx_expand.specs.Followed.{bindings_of}
use Rattle.sx_expand.proofs.Bindings.{number-within, rule-same, work-stays, bindings-stay}
use Rattle.sx_expand.proofs.BoxNodes.{kid-inputs, kid-matches, kid-matched, box-within, box-hypothesis, box-rule, ends_with, boxed-by, boxed-given}
use Rattle.sx_expand.proofs.BoxedKids.{advances-then, boxes-start, boxes-end, boxes-apart, box-data, box-kid, boxes-next, boxing-is}
use Rattle.sx_expand.proofs.KidSteps.{premise-shallow}
use Rattle.sx_expand.proofs.NodeLowering.{rule-shallow}
use Rattle.sx_expand.proofs.node_boxing.+boxing.Goals.{box_kids-in-Holds+in_ok-box_kid-in-Holds+in_ok-push-in-Holds, box_kids-in-Apart}
use Rattle.sx_expand.proofs.node_boxing.+boxing.Goals as goal

pub box_node-entry_at-entry-requires : goal.box_node-entry_at-entry-requires
box_node-entry_at-entry-requires t c =
    let q = c.requires.derived in box-within c.args.origin.now c.args.cursor.now.next q.0 q.1 q.2

pub box_node-box_by_rule-requires : goal.box_node-box_by_rule-requires
box_node-box_by_rule-requires t c =
    let o = c.args.origin.now in
    let at = c.args.cursor.now.next in
    let q = c.requires.derived in
    let w = box-within o at q.0 q.1 q.2 in
    let e = box-rule o at q.0 q.1 q.2 c.entry_at-entry.result c.entry_at-entry.ensures c.in-Rule.number c.in-Rule.is in
    (search rules, (c.requires.shallow, (c.requires.arena, (c.requires.below, (ends_with e, e.node, q.3)))))

pub box_node-box_given-requires-clause-given : goal.box_node-box_given-requires-clause-given
box_node-box_given-requires-clause-given t c =
    let q = c.requires.derived in
    (q.0, (box-hypothesis c.args.origin.now c.args.cursor.now.next q.0 q.1 q.2 c.entry_at-entry.result c.entry_at-entry.ensures c.in-Given.number c.in-Given.is).found)

pub box_node-returns-in-Rule-clause-made : goal.box_node-returns-in-Rule-clause-made
box_node-returns-in-Rule-clause-made t c =
    let o = c.args.origin.now in
    let at = c.args.cursor.now.next in
    IfOk-weaker c.box_by_rule.result _ _ (λ m h j p can ins.
    let e = box-rule o at j p can c.entry_at-entry.result c.entry_at-entry.ensures c.in-Rule.number c.in-Rule.is in
    boxed-by o (cursor_terms c.box_by_rule.new.cursor) at c.box_by_rule.new.cursor.next j p m c.in-Rule.number e (h (ends_with e) e.node ins))
    c.box_by_rule.ensures.made

pub box_node-returns-in-Given-clause-made : goal.box_node-returns-in-Given-clause-made
box_node-returns-in-Given-clause-made t c =
    let o = c.args.origin.now in
    let at = c.args.cursor.now.next in
    IfOk-weaker c.box_given.result _ _ (λ m h j p can ins.
    let e = box-hypothesis o at j p can c.entry_at-entry.result c.entry_at-entry.ensures c.in-Given.number c.in-Given.is in
    boxed-given o (trees c.box_given.new.arena) at (at + 1) j p m c.in-Given.number e.is (h j e.found) refl)
    c.box_given.ensures.made

pub box_by_rule-box_kids-requires : goal.box_by_rule-box_kids-requires
box_by_rule-box_kids-requires t c =
    let n = c.requires.node in
    (search rules, (c.requires.shallow, (c.requires.arena, (c.in_ok-work.ensures.work, (n.0, n.1, c.in_ok-work.ensures.followed c.args.cursor.now.next n.0 n.1 n.2)))))

pub box_by_rule-returns-in-Ok-clause-made : goal.box_by_rule-returns-in-Ok-clause-made
box_by_rule-returns-in-Ok-clause-made t c =
    let at = c.args.cursor.now.next in
    IfOk-weaker c.close_node-made.result _ _ (λ m h d is ins.
    let kids = c.in-Ok.ensures.made d is (c.in_ok-work.ensures.followed at d is ins) in
    (h at d is kids.2 kids.0, kids.1))
    c.close_node-made.ensures.made

pub box_kid-box_node-requires : goal.box_kid-box_node-requires
box_kid-box_node-requires t c =
    let o = c.args.origin.now in
    let j = c.args.premise.now in
    let k = c.requires.kid in
    let h = c.in_ok-inputs.ensures in
    let terms = trees c.places_under.new.arena in
    let env = bindings_of (cursor_terms c.args.cursor.now) c.args.work.now in
    let ins = kid-inputs o j k.0 env k.1.followed terms c.deref.result.now c.in_ok-inputs.inputs.items c.deref.ensures.value h.are in
    let below = subst (λ (ns : List ℕ). AreBelow (length terms) ns) (sym c.deref.ensures.value) h.within in
    (search rules, (c.requires.shallow, (h.arena, (below, (judgement_instance (bound_by k.0.binds) (judgement j), k.0.proof, k.1.can, ins)))))

pub box_kid-take_outputs-requires-clause-work : goal.box_kid-take_outputs-requires-clause-work
box_kid-take_outputs-requires-clause-work t c =
    let old = cursor_terms c.args.cursor.now in
    let new = cursor_terms c.box_node.new.cursor in
    let x = extends-then old (trees c.places_under.new.arena) new c.in_ok-inputs.ensures.extends c.in_ok-made.ensures.on.extends in
    work-stays old new c.args.work.now x c.requires.work

pub box_kid-take_outputs-requires-clause-below : goal.box_kid-take_outputs-requires-clause-below
box_kid-take_outputs-requires-clause-below t c =
    let o = c.args.origin.now in
    let j = c.args.premise.now in
    let h = c.in_ok-inputs.ensures in
    let mid = trees c.places_under.new.arena in
    let old = cursor_terms c.args.cursor.now in
    let new = cursor_terms c.box_node.new.cursor in
    let env = bindings_of old c.args.work.now in
    let k = c.requires.kid in
    let ins = kid-inputs o j k.0 env k.1.followed mid c.deref.result.now c.in_ok-inputs.inputs.items c.deref.ensures.value h.are in
    let made = c.in_ok-made.ensures.made (judgement_instance (bound_by k.0.binds) (judgement j)) k.0.proof k.1.can ins in
    subst (λ (ns : List ℕ). AreBelow (length new) ns) (sym c.deref-2.ensures.value) made.0.below

pub box_kid-take_outputs-requires-clause-matches : goal.box_kid-take_outputs-requires-clause-matches
box_kid-take_outputs-requires-clause-matches t c =
    let o = c.args.origin.now in
    let j = c.args.premise.now in
    let h = c.in_ok-inputs.ensures in
    let mid = trees c.places_under.new.arena in
    let old = cursor_terms c.args.cursor.now in
    let new = cursor_terms c.box_node.new.cursor in
    let env = bindings_of old c.args.work.now in
    let k = c.requires.kid in
    let ins = kid-inputs o j k.0 env k.1.followed mid c.deref.result.now c.in_ok-inputs.inputs.items c.deref.ensures.value h.are in
    let made = c.in_ok-made.ensures.made (judgement_instance (bound_by k.0.binds) (judgement j)) k.0.proof k.1.can ins in
    let x = extends-then old mid new h.extends c.in_ok-made.ensures.on.extends in
    let stay = bindings-stay old new c.args.work.now x c.requires.work in
    let f = subst (λ (e : Assignment). IsFollowed o k.0.rule k.0.binds (holds (judgement j) ∷ k.0.rest) e) (sym stay) k.1.followed in
    let outs = ap (λ (ns : List ℕ). map (tree_at new) ns) c.deref-2.ensures.value ∙ made.0.outputs in
    kid-matches o j k.0 (bindings_of new c.args.work.now) f (map (tree_at new) c.deref-2.result.now) outs

pub box_kid-returns-clause-made : goal.box_kid-returns-clause-made
box_kid-returns-clause-made t c = λ d is.
    let o = c.args.origin.now in
    let j = c.args.premise.now in
    let h = c.in_ok-inputs.ensures in
    let mid = trees c.places_under.new.arena in
    let old = cursor_terms c.args.cursor.now in
    let new = cursor_terms c.box_node.new.cursor in
    let env = bindings_of old c.args.work.now in
    let ins = kid-inputs o j d env is.followed mid c.deref.result.now c.in_ok-inputs.inputs.items c.deref.ensures.value h.are in
    let made = c.in_ok-made.ensures.made (judgement_instance (bound_by d.binds) (judgement j)) d.proof is.can ins in
    let x = extends-then old mid new h.extends c.in_ok-made.ensures.on.extends in
    let stay = bindings-stay old new c.args.work.now x c.requires.work in
    let f = subst (λ (e : Assignment). IsFollowed o d.rule d.binds (holds (judgement j) ∷ d.rest) e) (sym stay) is.followed in
    let outs = ap (λ (ns : List ℕ). map (tree_at new) ns) c.deref-2.ensures.value ∙ made.0.outputs in (
      ap proof c.in_ok-new.ensures.ok ∙ made.0.is,
      made.1,
      kid-matched o j d (bindings_of new c.args.work.now) f (map (tree_at new) c.deref-2.result.now) outs (bindings_of new c.take_outputs.new.work) c.in_ok-take_outputs.ensures.1,
    )

pub box_kids-loop-premise-init : goal.box_kids-loop-premise-init
box_kids-loop-premise-init t c = record {
  on = record { arena = c.requires.arena; extends = extends-same (cursor_terms c.args.cursor.now) };
  work = c.requires.work;
  after = omega arith;
  kids = λ d is f.
      let o = c.args.origin.now in
      let ps = c.deref-premise-items.result.now in
      let premises_are = ap (map premise) c.deref-premise-items.ensures.value ∙ ap (λ (x : Rule). x.premises) (rule-same (rules_from o) (rules_from o) refl c.args.number d.rule is.found (rule c.rule_at-rule.result.now) c.rule_at-rule.ensures) in
      boxes-start o d ps c.args.number c.args.cursor.now.next is premises_are (cursor_terms c.args.cursor.now) c.args.work.now c.new-kids.result.items c.new-kids.ensures.items f;
}

pub box_kids-rule_at-rule-requires : goal.box_kids-rule_at-rule-requires
box_kids-rule_at-rule-requires t c =
    let n = c.requires.node in number-within _ _ refl c.args.number n.0.rule n.1.found

pub box_kids-box_kid-requires : goal.box_kids-box_kid-requires
box_kids-box_kid-requires t c =
    let o = c.args.origin.now in
    let ps = c.deref-premise-items.result.now in
    let i = c.loop-premise.premise-index in
    let inv = c.loop-premise.invariant in
    let r = c.requires.node in
    let so = inv.kids r.0 r.1 r.2 in
    let first = c.args.cursor.now.next in
    let at = c.loop-premise.cursor.next in
    let terms = cursor_terms c.loop-premise.cursor in
    let made = c.loop-premise.kids.items in
    let later = inv.after in
    let shallow = (rule-shallow (bare_rules_in o.rules.now) c.args.number (rule c.rule_at-rule.result.now) c.facts.ensures.shallow c.rule_at-rule.ensures).1 in
    let low = premise-shallow ps i c.premise-item.result c.in-Holds.it (subst (λ (xs : List PremiseOf). PremisesAreShallow (map premise xs)) (sym c.deref-premise-items.ensures.value) shallow) c.loop-premise-test.true c.premise-item.is c.in-Holds.is in (
      search rules,
      (
        c.requires.shallow,
        (
          inv.on.arena,
          (
            inv.work,
            (
              low,
              (
                box-data o r.0 ps i first at terms c.loop-premise.work made so c.premise-item.result c.loop-premise-test.true c.premise-item.is c.in-Holds.it c.in-Holds.is,
                box-kid o r.0 ps i first at terms c.loop-premise.work made so c.premise-item.result c.loop-premise-test.true c.premise-item.is c.in-Holds.it c.in-Holds.is,
              ),
            ),
          ),
        ),
      ),
    )

pub box_kids-loop-premise-preserved : goal.box_kids-loop-premise-preserved
box_kids-loop-premise-preserved t c =
    let o = c.args.origin.now in
    let ps = c.deref-premise-items.result.now in
    let i = c.loop-premise.premise-index in
    let inv = c.loop-premise.invariant in
    let start = c.args.cursor.now in
    let here = c.loop-premise.cursor in
    let terms = cursor_terms here in
    let work = c.loop-premise.work in
    let kids = c.loop-premise.kids.items in
    let p = c.premise-item.result in
    let within = c.loop-premise-test.true in
    let at_i = c.premise-item.is in
    let m = c.match-premise in
    elim c.match-premise.branch [
      | box_kids-in-Holds+in_ok-box_kid-in-Holds+in_ok-push-in-Holds w ↦
          let r = c.requires.node in
          let so = inv.kids r.0 r.1 r.2 in
          let step = w.in_ok-box_kid-in-Holds.ensures in
          let new = w.box_kid.new.cursor in
          let first = step.made (box-data o r.0 ps i start.next here.next terms work kids so p within at_i w.in-Holds.it w.in-Holds.is)
          (box-kid o r.0 ps i start.next here.next terms work kids so p within at_i w.in-Holds.it w.in-Holds.is) in
          let to = first.1 in
          let after = inv.after in
          boxing-is o c.args.number ps (i + 1) start c.args.work.now m.cursor new m.work w.box_kid.new.work m.kids.items w.push.new.self.items w.cursor-is w.work-is (ap (λ x. x.items) w.kids-is) (record {
            on = advances-then start here new inv.on step.on;
            work = step.work;
            after = omega (arith, to, after);
            kids = λ d is f.
                let so = inv.kids d is f in
                let made = step.made (box-data o d ps i start.next here.next terms work kids so p within at_i w.in-Holds.it w.in-Holds.is)
                (box-kid o d ps i start.next here.next terms work kids so p within at_i w.in-Holds.it w.in-Holds.is) in
                boxes-next o d ps i start.next here.next terms work kids so p within at_i w.in-Holds.it w.in-Holds.is (cursor_terms new) w.box_kid.new.work w.in_ok-box_kid-in-Holds.field-0 w.push.new.self.items new.next
                w.in_ok-push-in-Holds.ensures.items made.0 made.1 made.2;
          })
      | box_kids-in-Apart w ↦
          boxing-is o c.args.number ps (i + 1) start c.args.work.now m.cursor here m.work work m.kids.items kids w.cursor-is w.work-is (ap (λ x. x.items) w.kids-is) (record {
            on = inv.on;
            work = inv.work;
            after = inv.after;
            kids = λ d is f. boxes-apart o d ps i start.next here.next terms work kids (inv.kids d is f) p within at_i _ _ w.in-Apart.is;
          })
    ]

pub box_kids-returns-clause-made : goal.box_kids-returns-clause-made
box_kids-returns-clause-made t c = λ d is f.
    let e = boxes-end c.args.origin.now d c.deref-premise-items.result.now c.loop-premise.premise-index c.args.cursor.now.next c.loop-premise.cursor.next (cursor_terms c.loop-premise.cursor) c.loop-premise.work c.loop-premise.kids.items (c.loop-premise.invariant.kids d is f) c.loop-premise-test.false in
    (e.kids_are, e.end, e.followed)
