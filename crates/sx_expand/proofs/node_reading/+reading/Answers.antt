use Rattle.std.proofs.Common.{rules, arith, ◌≡◌, ℕ, ◌+◌, ◌&&◌, List, length, map, Option, refl, sym, ap, ◌∙◌, subst}
use Rattle.sx_rules.specs.declared.rule.Premise.{Premise as PremiseOf}
use Rattle.sx_rules.specs.Deep.{PremisesAreShallow}
use Rattle.sx_rules.specs.Instances.{bound_by}
use Rattle.sx_rules.specs.Rules.{Rule, judgement_instance}
use Rattle.sx_rules.specs.Sets.{bare_rules_in}
use Rattle.sx_rules.specs.Views.{premise, judgement, rule}
use Rattle.sx_arena.specs.Arena.{tree_at}
use Rattle.sx_arena.specs.Matching.{Assignment}
use Rattle.sx_arena.proofs.Growing.{extends-same}
use Rattle.sx_rewrite.specs.declared.rewrite_error.RewriteError.{RewriteError}
use Rattle.sx_rewrite.specs.Needed.{needed}
use Rattle.sx_rewrite.specs.Stored.{certificate_at}
use Rattle.sx_rewrite.proofs.Instanced.{err_is}
use Rattle.sx_expand.specs.Listed.{set_in}
use Rattle.sx_expand.specs.Readings.{set_by}
use Rattle.sx_expand.specs.ReadDerivations.{AreInputs, IsDerivationRead, IsReadRefused}
use Rattle.sx_expand.specs.ReadNodes.{proof_by, IsNodeRead, AreRead, IsKidIn}
use Rattle.sx_expand.specs.Readers.{terms_in}
use Rattle.sx_expand.proofs.Bindings.{rule-same, work-stays, bindings-stay, goes-then}
use Rattle.sx_expand.proofs.EndsAt.{listed-within}
use Rattle.sx_expand.proofs.KidSteps.{kids-start, kids-end, apart-next, next-kid, kid-data, kid-in, kid-next, kid-refuses, kid-after, looping-is, premise-shallow}
use Rattle.sx_expand.proofs.NodeLowering.{rule-shallow}
use Rattle.sx_expand.proofs.ReadNodes.{data_of, can-within, node-for, read-for, entry-rule, entry-given, given-read, memory-refused}
use Rattle.sx_expand.proofs.node_reading.+reading.Goals.{read_kids-in-Holds+in_ok-read_kid-in-Holds+in_ok-push-in-Holds, read_kids-in-Apart}
use Rattle.sx_expand.proofs.node_reading.+reading.Goals as goal

pub read_kid-follow_kid-requires-clause-work : goal.read_kid-follow_kid-requires-clause-work
read_kid-follow_kid-requires-clause-work t c =
    let on = goes-then (set_by c.args.reading.now).table c.args.reader.now c.kid_inputs.new.reader c.read_node.new.reader c.in_ok-inputs.ensures.on c.in_ok-read.ensures.on in
    work-stays (terms_in c.args.reader.now) (terms_in c.read_node.new.reader) c.args.work.now on.extends c.requires.work

pub read_kid-follow_kid-requires-clause-kid : goal.read_kid-follow_kid-requires-clause-kid
read_kid-follow_kid-requires-clause-kid t c =
    let l = c.args.reading.now in
    let k = c.args.kid.now in
    let d = c.requires.kid.0 in
    let is = c.requires.kid.1 in
    let on = goes-then (set_by l).table c.args.reader.now c.kid_inputs.new.reader c.read_node.new.reader c.in_ok-inputs.ensures.on c.in_ok-read.ensures.on in
    let j = judgement_instance (bound_by d.binds) (judgement k.premise.now) in
    let ins = subst (λ (ns : List ℕ). AreInputs l (terms_in c.kid_inputs.new.reader) ns j) (sym c.deref.ensures.value) (c.in_ok-inputs.ensures.inputs d is) in
    let read = c.in_ok-read.ensures.read j d.proof is.can ins in (
      d,
      subst (λ (env : Assignment). IsKidIn l k env d) (sym (bindings-stay (terms_in c.args.reader.now) (terms_in c.read_node.new.reader) c.args.work.now on.extends c.requires.work)) is,
      ap (λ (ns : List ℕ). map (tree_at (terms_in c.read_node.new.reader)) ns) c.deref-2.ensures.value ∙ read.1,
    )

pub read_kid-returns-clause-read : goal.read_kid-returns-clause-read
read_kid-returns-clause-read t c = λ d is.
    let l = c.args.reading.now in
    let k = c.args.kid.now in
    let on = goes-then (set_by l).table c.args.reader.now c.kid_inputs.new.reader c.read_node.new.reader c.in_ok-inputs.ensures.on c.in_ok-read.ensures.on in
    let j = judgement_instance (bound_by d.binds) (judgement k.premise.now) in
    let ins = subst (λ (ns : List ℕ). AreInputs l (terms_in c.kid_inputs.new.reader) ns j) (sym c.deref.ensures.value) (c.in_ok-inputs.ensures.inputs d is) in
    let read = c.in_ok-read.ensures.read j d.proof is.can ins in (
      c.in_ok-follow_kid.ensures.followed d
          (subst (λ (env : Assignment). IsKidIn l k env d) (sym (bindings-stay (terms_in c.args.reader.now) (terms_in c.read_node.new.reader) c.args.work.now on.extends c.requires.work)) is)
          (ap (λ (ns : List ℕ). map (tree_at (terms_in c.read_node.new.reader)) ns) c.deref-2.ensures.value ∙ read.1),
      read.2,
    )

pub read_kids-loop-premise-init : goal.read_kids-loop-premise-init
read_kids-loop-premise-init t c = record {
  on = record { reader = c.requires.reader; extends = extends-same (terms_in c.args.reader.now) };
  work = c.requires.work;
  after = omega arith;
  kids = λ d is f.
      let l = c.args.reading.now in
      let ps = c.deref-premise-items.result.now in
      let premises_are = ap (map premise) c.deref-premise-items.ensures.value ∙ ap (λ (x : Rule). x.premises) (rule-same _ _ c.requires.reading.rules.rules_are c.args.node.now.number d.rule is.found (rule c.rule_at-rule.result.now) c.rule_at-rule.ensures) in
      kids-start l c.requires.reading c.args.node.now d is ps premises_are (c.args.node.now.at + 1) (terms_in c.args.reader.now) c.args.work.now c.new-subjects.result.items refl c.new-subjects.ensures.items f;
}

pub read_kids-read_kid-requires : goal.read_kids-read_kid-requires
read_kids-read_kid-requires t c =
    let l = c.args.reading.now in
    let n = c.args.node.now in
    let ps = c.deref-premise-items.result.now in
    let i = c.loop-premise.premise-index in
    let inv = c.loop-premise.invariant in
    let r = c.requires.node in
    let so = inv.kids r.0 r.1 r.2 in
    let terms = terms_in c.loop-premise.reader in
    let numbers = c.loop-premise.subjects.items in
    let next = next-kid l c.requires.reading n r.0 r.1 ps i c.loop-premise.at terms c.loop-premise.work numbers so c.premise-item.result c.loop-premise-test.true c.premise-item.is c.in-Holds.it c.in-Holds.is in
    let w = listed-within (set_in l.listing) l.listing.list.now c.loop-premise.at next.first next.listed in
    let o = inv.after in
    let v = c.loop-premise.subjects.ok.0 in
    let e = c.len.ensures in
    let count : c.len.result ≡ length numbers = omega (arith, v, e) in
    let needs = c.is_kid_needed.ensures ∙ ap (λ (m : ℕ). n.is_needed && needed (certificate_at (set_by l) n.number) m) count in
    let shallow = (rule-shallow (bare_rules_in c.args.reading.now.rules.now) n.number (rule c.rule_at-rule.result.now) c.facts.ensures.shallow c.rule_at-rule.ensures).1 in
    let low = premise-shallow ps i c.premise-item.result c.in-Holds.it (subst (λ (xs : List PremiseOf). PremisesAreShallow (map premise xs)) (sym c.deref-premise-items.ensures.value) shallow) c.loop-premise-test.true c.premise-item.is c.in-Holds.is in (
      search rules,
      (
        c.requires.reading,
        (
          inv.on.reader,
          (
            inv.work,
            (
              low,
              (
                kid-data l c.requires.reading n r.0 r.1 ps i c.loop-premise.at terms c.loop-premise.work numbers so c.premise-item.result c.loop-premise-test.true c.premise-item.is c.in-Holds.it c.in-Holds.is,
                kid-in l c.requires.reading n r.0 r.1 ps i c.loop-premise.at terms c.loop-premise.work numbers so c.premise-item.result c.loop-premise-test.true c.premise-item.is c.in-Holds.it c.in-Holds.is _ refl refl needs,
              ),
            ),
          ),
        ),
      ),
    )

pub read_kids-returns-in_err-read_kid-in-Holds-clause-read : goal.read_kids-returns-in_err-read_kid-in-Holds-clause-read
read_kids-returns-in_err-read_kid-in-Holds-clause-read t c = λ d is f.
    let l = c.args.reading.now in
    let n = c.args.node.now in
    let ps = c.deref-premise-items.result.now in
    let i = c.loop-premise.premise-index in
    let so = c.loop-premise.invariant.kids d is f in
    let terms = terms_in c.loop-premise.reader in
    let numbers = c.loop-premise.subjects.items in
    let v = c.loop-premise.subjects.ok.0 in
    let e = c.len.ensures in
    let count : c.len.result ≡ length numbers = omega (arith, v, e) in
    let needs = c.is_kid_needed.ensures ∙ ap (λ (m : ℕ). n.is_needed && needed (certificate_at (set_by l) n.number) m) count in
    err_is (λ r. AreRead l n (terms_in c.read_kid.new.reader) c.read_kid.new.work d r) c.from_residual.result _ c.from_residual.ensures.1
    (λ e same. subst (λ (x : RewriteError). IsReadRefused l n.is_needed (proof_by n d) x) (sym same)
    (kid-refuses l c.requires.reading n d is ps i c.loop-premise.at terms c.loop-premise.work numbers so c.premise-item.result c.loop-premise-test.true c.premise-item.is c.in-Holds.it c.in-Holds.is c.is_kid_needed.result needs _
    (c.in_err-read_kid-in-Holds.ensures.read
    (kid-data l c.requires.reading n d is ps i c.loop-premise.at terms c.loop-premise.work numbers so c.premise-item.result c.loop-premise-test.true c.premise-item.is c.in-Holds.it c.in-Holds.is)
    (kid-in l c.requires.reading n d is ps i c.loop-premise.at terms c.loop-premise.work numbers so c.premise-item.result c.loop-premise-test.true c.premise-item.is c.in-Holds.it c.in-Holds.is _ refl refl needs))))

pub read_kids-loop-premise-preserved : goal.read_kids-loop-premise-preserved
read_kids-loop-premise-preserved t c =
    let l = c.args.reading.now in
    let n = c.args.node.now in
    let ps = c.deref-premise-items.result.now in
    let i = c.loop-premise.premise-index in
    let inv = c.loop-premise.invariant in
    let here = c.loop-premise.at in
    let terms = terms_in c.loop-premise.reader in
    let work = c.loop-premise.work in
    let numbers = c.loop-premise.subjects.items in
    let good = c.requires.reading in
    let p = c.premise-item.result in
    let within = c.loop-premise-test.true in
    let at_i = c.premise-item.is in
    let m = c.match-premise in
    elim c.match-premise.branch [
      | read_kids-in-Holds+in_ok-read_kid-in-Holds+in_ok-push-in-Holds w ↦
          let r = c.requires.node in
          let v = c.loop-premise.subjects.ok.0 in
          let e = w.len.ensures in
          let count : w.len.result ≡ length numbers = omega (arith, v, e) in
          let needs = w.is_kid_needed.ensures ∙ ap (λ (x : ℕ). n.is_needed && needed (certificate_at (set_by l) n.number) x) count in
          let later = kid-after l good n r.0 r.1 ps i here terms work numbers (inv.kids r.0 r.1 r.2) p within at_i w.in-Holds.it w.in-Holds.is w.number_at-at.result w.number_at-at.ensures in
          let o = inv.after in
          looping-is l n ps (i + 1) c.args.reader.now c.args.work.now m.at w.number_at-at.result m.reader w.read_kid.new.reader m.work w.read_kid.new.work m.subjects.items w.push.new.self.items w.at-is w.reader-is w.work-is (ap (λ x. x.items) w.subjects-is) (record {
            on = goes-then (set_by l).table c.args.reader.now c.loop-premise.reader w.read_kid.new.reader inv.on w.in_ok-read_kid-in-Holds.ensures.on;
            work = w.in_ok-read_kid-in-Holds.ensures.work;
            after = omega (arith, later, o);
            kids = λ d is f.
                let so = inv.kids d is f in
                kid-next l good n d is ps i here terms work numbers so p within at_i w.in-Holds.it w.in-Holds.is w.is_kid_needed.result needs (terms_in w.read_kid.new.reader) w.read_kid.new.work w.in_ok-read_kid-in-Holds.field-0 w.push.new.self.items w.number_at-at.result
                w.in_ok-read_kid-in-Holds.ensures.on.extends w.in_ok-push-in-Holds.ensures.items w.number_at-at.ensures
                (w.in_ok-read_kid-in-Holds.ensures.read (kid-data l good n d is ps i here terms work numbers so p within at_i w.in-Holds.it w.in-Holds.is)
                (kid-in l good n d is ps i here terms work numbers so p within at_i w.in-Holds.it w.in-Holds.is _ refl refl needs));
          })
      | read_kids-in-Apart w ↦
          looping-is l n ps (i + 1) c.args.reader.now c.args.work.now m.at here m.reader c.loop-premise.reader m.work work m.subjects.items numbers w.at-is w.reader-is w.work-is (ap (λ x. x.items) w.subjects-is) (record {
            on = inv.on;
            work = inv.work;
            after = inv.after;
            kids = λ d is f. apart-next l good n d is ps i here terms work numbers (inv.kids d is f) p within at_i _ _ w.in-Apart.is;
          })
    ]

pub read_kids-returns-clause-read : goal.read_kids-returns-clause-read
read_kids-returns-clause-read t c = λ d is f.
    let l = c.args.reading.now in
    kids-end l c.requires.reading c.args.node.now d is c.deref-premise-items.result.now c.loop-premise.premise-index c.loop-premise.at (terms_in c.loop-premise.reader) c.loop-premise.work
    c.loop-premise.subjects.items (c.loop-premise.invariant.kids d is f) c.loop-premise-test.false

pub read_by_rule-read_kids-requires : goal.read_by_rule-read_kids-requires
read_by_rule-read_kids-requires t c =
    let d = c.requires.node in
    (search rules, (c.requires.reading, (c.requires.reader, (c.in_ok-work.ensures.work, (d.0, d.1, c.in_ok-work.ensures.followed d.0 d.1 d.2)))))

pub read_by_rule-finish_node-read-requires-clause-node : goal.read_by_rule-finish_node-read-requires-clause-node
read_by_rule-finish_node-read-requires-clause-node t c =
    let d = c.requires.node in
    let read = c.in-Ok.ensures.read d.0 d.1 (c.in_ok-work.ensures.followed d.0 d.1 d.2) in
    (d.0, d.1, subst (λ (ns : List (Option ℕ)). IsNodeRead c.args.reading.now c.args.node.now (terms_in c.read_kids.new.reader) c.read_kids.new.work ns d.0) (sym c.deref.ensures.value) read)

pub read_by_rule-returns-in-Ok-clause-read : goal.read_by_rule-returns-in-Ok-clause-read
read_by_rule-returns-in-Ok-clause-read t c = λ d is ins.
    let read = c.in-Ok.ensures.read d is (c.in_ok-work.ensures.followed d is ins) in
    c.finish_node-read.ensures.read d is
    (subst (λ (ns : List (Option ℕ)). IsNodeRead c.args.reading.now c.args.node.now (terms_in c.read_kids.new.reader) c.read_kids.new.work ns d) (sym c.deref.ensures.value) read)

pub read_by_rule-returns-in-Err-clause-read : goal.read_by_rule-returns-in-Err-clause-read
read_by_rule-returns-in-Err-clause-read t c = λ d is ins. c.in-Err.ensures.read d is (c.in_ok-work.ensures.followed d is ins)

pub read_node-entry_at-requires : goal.read_node-entry_at-requires
read_node-entry_at-requires t c =
    let q = c.requires.derived in
    can-within c.args.reading.now c.args.at c.args.is_needed q.0 q.1 q.2

pub read_node-read_by_rule-requires : goal.read_node-read_by_rule-requires
read_node-read_by_rule-requires t c =
    let q = c.requires.derived in
    let b = entry-rule c.args.reading.now c.args.at c.args.is_needed q.0 q.1 q.2 c.entry_at.result c.entry_at.ensures c.in-Rule.number c.in-Rule.is in
    let f = node-for c.args.reading.now c.args.at c.args.is_needed q.0 q.1 q.2 c.in-Rule.number b.binds b.kids b.is in
    let w = can-within c.args.reading.now c.args.at c.args.is_needed q.0 q.1 q.2 in
    (search rules, (c.requires.reading, (c.requires.reader, (c.requires.below, (data_of f, f.is, q.3)))))

pub read_node-returns-in-Rule-clause-read : goal.read_node-returns-in-Rule-clause-read
read_node-returns-in-Rule-clause-read t c = λ j p can ins.
    let l = c.args.reading.now in
    let b = entry-rule l c.args.at c.args.is_needed j p can c.entry_at.result c.entry_at.ensures c.in-Rule.number c.in-Rule.is in
    let f = node-for l c.args.at c.args.is_needed j p can c.in-Rule.number b.binds b.kids b.is in
    read-for l c.args.at c.args.is_needed j p can c.in-Rule.number b.binds b.kids b.is (terms_in c.read_by_rule.new.reader) c.read_by_rule.result (c.read_by_rule.ensures.read (data_of f) f.is ins)

pub read_node-read_given-requires-clause-given : goal.read_node-read_given-requires-clause-given
read_node-read_given-requires-clause-given t c =
    let q = c.requires.derived in
    (q.0, (entry-given c.args.reading.now c.args.at c.args.is_needed q.0 q.1 q.2 c.entry_at.result c.entry_at.ensures c.in-Given.number c.in-Given.is).found)

pub read_node-returns-in_ok-read_given-in-Given-clause-read : goal.read_node-returns-in_ok-read_given-in-Given-clause-read
read_node-returns-in_ok-read_given-in-Given-clause-read t c = λ j p can ins.
    let l = c.args.reading.now in
    let b = entry-given l c.args.at c.args.is_needed j p can c.entry_at.result c.entry_at.ensures c.in-Given.number c.in-Given.is in
    let h = c.in_ok-read_given-in-Given.ensures in
    given-read l c.args.at c.args.is_needed j p can c.in-Given.number b (terms_in c.read_given.new.reader) c.in_ok-read_given-in-Given.field-0 h.below (h.outputs j b.found) (h.subject j b.found)

pub read_node-returns-in_err-read_given-in-Given-clause-read : goal.read_node-returns-in_err-read_given-in-Given-clause-read
read_node-returns-in_err-read_given-in-Given-clause-read t c = λ j p can ins.
    let l = c.args.reading.now in
    err_is (λ r. IsDerivationRead l (terms_in c.read_given.new.reader) c.args.is_needed j p r) c.from_residual.result _ c.from_residual.ensures.1
    (λ e same. memory-refused l c.args.at c.args.is_needed j p can e same)
