use Rattle.std.proofs.Common.{ap, arith, rules, sym, drop, get_or, length, max, ◌≡◌, ◌≤◌, ◌<◌, ◌+◌, ◌∙◌, List}
use Rattle.std.proofs.lemmas.List.{drop_all}
use Rattle.sx_rules.specs.declared.proof.Proof.TheViews.{the_lemmas}
use Rattle.sx_rules.specs.declared.proof.Proof.{Proof as ProofOf}
use Rattle.sx_rules.specs.Derivations.{Proofs, height_of}
use Rattle.sx_rules.specs.ProofView.{proof, boxed}
use Rattle.sx_rules.proofs.ProofRows.{height_of-kid}
use Rattle.sx_rewrite.specs.declared.given_use.GivenUse.{GivenUse}
use Rattle.sx_rewrite.specs.Counts.{own_nodes_of, own_height_of}
use Rattle.sx_rewrite.proofs.SizeLaws.{all_own_height-within}
use Rattle.sx_rewrite.proofs.Noted.{noted_in, noted_by, noted-more, noted-none, noted-at, noted-past, kids-drop, noted-height, noted-own_nodes, noted-own_height, noted-node}
use Rattle.sx_rewrite.proofs.sizing.+note.Goals as goal

pub note-own-requires : goal.note-own-requires
note-own-requires t c =
    let k = height_of-kid _ _ _ _ _ c.in-By.is c.deref-kid-items.ensures.value _ _ _ c.loop-kid-test.true c.kid-item.is c.deref.ensures in
    let s = c.requires.shallow in
    let l : c.args.above + 1 + height_of (proof c.deref.result.now) ≤ 3001 = omega arith in
    search (rules, the_lemmas)

pub loop-kid-preserved : goal.loop-kid-preserved
loop-kid-preserved t c =
    let d = kids-drop _ _ _ _ c.loop-kid-test.true c.kid-item.is c.deref.ensures in
    let v = c.loop-kid.invariant in
    let vn = v.nodes in
    let vh = v.height in
    let e = c.note-own.ensures in
    let en = e.nodes in
    let eh = e.height in
    let a = ap own_nodes_of d in
    let b = ap own_height_of d in
    let s = c.saturating_add-nodes.ensures in
    let m : c.max-height.result ≡ max c.loop-kid.height c.note-own.result.height = c.max-height.ensures in
    record {
      nodes = omega arith;
      within = omega arith;
      height = omega arith;
      uses = ap (λ (us : List GivenUse). noted_in (boxed (drop (c.loop-kid.kid-index + 1) c.deref-kid-items.result.now)) (c.args.above + 1) 0 us) e.uses
          ∙ sym (noted-more (proof c.deref.result.now) (boxed (drop (c.loop-kid.kid-index + 1) c.deref-kid-items.result.now)) (c.args.above + 1) 0 c.loop-kid.uses.items)
          ∙ sym (ap (λ (ps : Proofs). noted_in ps (c.args.above + 1) 0 c.loop-kid.uses.items) d)
          ∙ v.uses;
    }

pub overflow_add-result : goal.overflow_add-result
overflow_add-result t c =
    let v = c.loop-kid.invariant.height in
    let w = all_own_height-within (boxed c.deref-kid-items.result.now) in
    let h = noted-height _ _ _ _ _ c.in-By.is c.deref-kid-items.ensures.value in
    let s = c.requires.shallow in
    grind arith

pub returns-after-loop-kid-clause-nodes : goal.returns-after-loop-kid-clause-nodes
returns-after-loop-kid-clause-nodes t c =
    let z = ap (λ x. own_nodes_of (boxed x)) (drop_all c.loop-kid.kid-index c.deref-kid-items.result.now c.loop-kid-test.false) in
    let n = noted-own_nodes _ _ _ _ _ c.in-By.is c.deref-kid-items.ensures.value in
    let v = c.loop-kid.invariant.nodes in
    let w = c.loop-kid.invariant.within in
    omega arith

pub returns-after-loop-kid-clause-height : goal.returns-after-loop-kid-clause-height
returns-after-loop-kid-clause-height t c =
    let z = ap (λ x. own_height_of (boxed x)) (drop_all c.loop-kid.kid-index c.deref-kid-items.result.now c.loop-kid-test.false) in
    let n = noted-own_height _ _ _ _ _ c.in-By.is c.deref-kid-items.ensures.value in
    let v = c.loop-kid.invariant.height in
    omega arith

pub returns-after-loop-kid-clause-uses : goal.returns-after-loop-kid-clause-uses
returns-after-loop-kid-clause-uses t c =
    sym (noted-none (c.args.above + 1) 0 c.loop-kid.uses.items)
    ∙ sym (ap (λ x. noted_in (boxed x) (c.args.above + 1) 0 c.loop-kid.uses.items) (drop_all c.loop-kid.kid-index c.deref-kid-items.result.now c.loop-kid-test.false))
    ∙ c.loop-kid.invariant.uses
    ∙ noted-node _ _ _ _ _ c.in-By.is c.deref-kid-items.ensures.value c.args.above c.args.uses.now.items

pub returns-then-i-len-clause-uses : goal.returns-then-i-len-clause-uses
returns-then-i-len-clause-uses t c =
    let us = c.args.uses.now.items in
    let n = c.in-Given.number in
    let l : n < length us = (let a = c.if-i-len.true in let b = c.len.ensures in omega arith) in
    let g = c.use_at-given.ensures ∙ ap (λ (x : List GivenUse). get_or x n c.use_at-given.result) c.deref-then-i-len.ensures.value in
    sym (noted-at n c.args.above 0 n us c.use_at-given.result c.once_more.result (omega arith) l g c.once_more.ensures)
    ∙ sym (ap (λ (x : ProofOf). noted_by (proof x) c.args.above 0 us) c.in-Given.is)

pub returns-else-i-len-clause-uses : goal.returns-else-i-len-clause-uses
returns-else-i-len-clause-uses t c =
    let us = c.args.uses.now.items in
    let n = c.in-Given.number in
    let l : 0 + length us ≤ n = (let a = c.if-i-len.false in let b = c.len.ensures in omega arith) in
    sym (noted-past n c.args.above 0 us l) ∙ sym (ap (λ (x : ProofOf). noted_by (proof x) c.args.above 0 us) c.in-Given.is)
