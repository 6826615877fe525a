use Rattle.std.proofs.Common.{rules, arith, List, Box, ◌+◌, refl, sym, subst}
use Rattle.std.specs.declared.alloc.Global.{Global}
use Rattle.std.specs.Prelude.{MatchResult}
use Rattle.sx_rules.specs.declared.proof.Proof.{Proof as ProofOf}
use Rattle.sx_rules.specs.ProofView.{proof, boxed}
use Rattle.sx_rules.specs.Sets.{forms_in}
use Rattle.sx_rules.specs.Views.{hypotheses, subjects_in}
use Rattle.sx_rewrite.specs.AcceptedView.{accepted}
use Rattle.sx_rewrite.specs.Lowering.{IsLoweredTo, AreLoweredTo, IsLoweringRefused, AreRefused}
use Rattle.sx_rewrite.specs.Needed.{needed}
use Rattle.sx_rewrite.specs.SourceView.{set_of}
use Rattle.sx_rewrite.specs.Stored.{certificate_at}
use Rattle.sx_rewrite.proofs.Instanced.{err_is}
use Rattle.sx_rewrite.proofs.KidInstances.{kid-high, node-low, node-lower, node-binds}
use Rattle.sx_rewrite.proofs.PutEach.{boxed-at}
use Rattle.sx_rewrite.proofs.LoweringKids.{LoweredSoFar, none-lowered, one-lowered, one-refused, all-lowered}
use Rattle.sx_rewrite.proofs.LoweringNode.{here-can, here-refuse, here-high, here-binds, here-graft, here-ready, here-node, here-lowers}
use Rattle.sx_rewrite.proofs.lowering.+lowering.Goals as goal

pub lower_proof-lower_kids-requires : goal.lower_proof-lower_kids-requires
lower_proof-lower_kids-requires t c =
    let less = node-lower _ _ _ _ c.in-By.is c.in-By.binds.items _ refl c.deref.ensures.value in
    (search rules, (node-low _ _ _ _ c.in-By.is c.in-By.binds.items _ refl c.deref.ensures.value c.requires.shallow, (c.requires.source, here-can c.args.source.now c.requires.source c.args.proof.now c.in-By.rule c.in-By.binds c.in-By.kids c.in-By.is c.requires.derived c.deref.result.now c.deref.ensures.value)))

pub lower_kids-lower_kid-requires : goal.lower_kids-lower_kid-requires
lower_kids-lower_kid-requires t c =
    let h = kid-high _ _ _ _ c.loop-i-test.true c.index-kids-i.is c.deref.ensures in
    let s = c.requires.shallow in
    (search rules, (omega (arith, h, s), (c.requires.source, λ n. c.requires.derived c.loop-i.i _ n (boxed-at c.args.kids.now c.loop-i.i _ c.deref.result.now c.loop-i-test.true c.index-kids-i.is c.deref.ensures))))

pub lower_kid-lower_proof-requires : goal.lower_kid-lower_proof-requires
lower_kid-lower_proof-requires t c = let s = c.requires.shallow in (search rules, (omega (arith, s), (c.requires.source, c.requires.derived (sym c.if-is_needed.ensures))))

pub lower_kids-loop-i-init : goal.lower_kids-loop-i-init
lower_kids-loop-i-init t c = none-lowered (set_of c.args.source.now) (subjects_in (forms_in c.args.source.now.set.now.base)) (hypotheses c.args.source.now.given.now) (needed (certificate_at (accepted c.args.source.now.set.now) c.args.rule)) c.args.kids.now c.in_ok-lowered.lowered.items c.in_ok-lowered.ensures.items

pub lower_kids-loop-i-preserved : goal.lower_kids-loop-i-preserved
lower_kids-loop-i-preserved t c =
    subst (λ (xs : List (Box ProofOf Global)). LoweredSoFar (set_of c.args.source.now) (subjects_in (forms_in c.args.source.now.set.now.base)) (hypotheses c.args.source.now.given.now) (needed (certificate_at (accepted c.args.source.now.set.now) c.args.rule)) c.args.kids.now (c.loop-i.i + 1) xs) (sym c.in_ok-push.ensures.items)
    (one-lowered (set_of c.args.source.now) (subjects_in (forms_in c.args.source.now.set.now.base)) (hypotheses c.args.source.now.given.now) (needed (certificate_at (accepted c.args.source.now.set.now) c.args.rule)) c.args.kids.now c.loop-i.i c.loop-i.lowered.items c.loop-i.invariant _ c.deref.result.now c.loop-i-test.true c.index-kids-i.is c.deref.ensures c.in_ok-lower_kid.field-0 c.in_ok-lower_kid.ensures)

pub lower_kids-returns : goal.lower_kids-returns
lower_kids-returns t c = all-lowered (set_of c.args.source.now) (subjects_in (forms_in c.args.source.now.set.now.base)) (hypotheses c.args.source.now.given.now) (needed (certificate_at (accepted c.args.source.now.set.now) c.args.rule)) c.args.kids.now c.loop-i.i c.loop-i.lowered.items c.loop-i.invariant c.loop-i-test.false c.loop-i.auto.i-end

pub lower_kids-returns-in_err-lower_kid : goal.lower_kids-returns-in_err-lower_kid
lower_kids-returns-in_err-lower_kid t c =
    let need = needed (certificate_at (accepted c.args.source.now.set.now) c.args.rule) in
    err_is (λ r. MatchResult r (λ x. AreLoweredTo (set_of c.args.source.now) (subjects_in (forms_in c.args.source.now.set.now.base)) (hypotheses c.args.source.now.given.now) need (boxed c.args.kids.now) (boxed x.items)) (AreRefused (set_of c.args.source.now) (subjects_in (forms_in c.args.source.now.set.now.base)) (hypotheses c.args.source.now.given.now) need (boxed c.args.kids.now)))
    c.from_residual-in_err-lower_kid.result _ c.from_residual-in_err-lower_kid.ensures.1
    (λ e same. subst (AreRefused (set_of c.args.source.now) (subjects_in (forms_in c.args.source.now.set.now.base)) (hypotheses c.args.source.now.given.now) need (boxed c.args.kids.now)) (sym same)
    (one-refused (set_of c.args.source.now) (subjects_in (forms_in c.args.source.now.set.now.base)) (hypotheses c.args.source.now.given.now) (needed (certificate_at (accepted c.args.source.now.set.now) c.args.rule)) c.args.kids.now c.loop-i.i c.loop-i.lowered.items c.loop-i.invariant _ c.deref.result.now c.loop-i-test.true c.index-kids-i.is c.deref.ensures _ c.in_err-lower_kid.ensures))

pub lower_proof-returns-in_err-lowered-in-By : goal.lower_proof-returns-in_err-lowered-in-By
lower_proof-returns-in_err-lowered-in-By t c =
    err_is (λ r. MatchResult r (λ x. IsLoweredTo (set_of c.args.source.now) (subjects_in (forms_in c.args.source.now.set.now.base)) (hypotheses c.args.source.now.given.now) (proof c.args.proof.now) (proof x.value)) (IsLoweringRefused (set_of c.args.source.now) (subjects_in (forms_in c.args.source.now.set.now.base)) (hypotheses c.args.source.now.given.now) (proof c.args.proof.now)))
    c.from_residual.result _ c.from_residual.ensures.1
    (λ e same. subst (IsLoweringRefused (set_of c.args.source.now) (subjects_in (forms_in c.args.source.now.set.now.base)) (hypotheses c.args.source.now.given.now) (proof c.args.proof.now)) (sym same) (here-refuse c.args.source.now c.requires.source c.args.proof.now c.in-By.rule c.in-By.binds c.in-By.kids c.in-By.is c.requires.derived c.deref.result.now c.deref.ensures.value _ c.in_err-lowered-in-By.ensures))

pub lower_proof-put_terms-requires-clause-ready : goal.lower_proof-put_terms-requires-clause-ready
lower_proof-put_terms-requires-clause-ready t c = here-ready c.args.source.now c.requires.source c.args.proof.now c.in-By.rule c.in-By.binds c.in-By.kids c.in-By.is c.requires.derived c.deref.result.now c.deref.ensures.value c.in_ok-lowered-in-By.lowered.items c.in_ok-lowered-in-By.ensures c.deref-in-By.result.now c.deref-in-By.ensures.value c.deref-in-By-2.result.now c.deref-in-By-2.ensures.value

pub lower_proof-put_terms-requires-clause-node : goal.lower_proof-put_terms-requires-clause-node
lower_proof-put_terms-requires-clause-node t c = here-node c.args.source.now c.requires.source c.args.proof.now c.in-By.rule c.in-By.binds c.in-By.kids c.in-By.is c.requires.derived c.deref.result.now c.deref.ensures.value c.in_ok-lowered-in-By.lowered.items c.in_ok-lowered-in-By.ensures c.deref-in-By.result.now c.deref-in-By.ensures.value c.deref-in-By-2.result.now c.deref-in-By-2.ensures.value

pub lower_proof-put_terms-requires-clause-shallow : goal.lower_proof-put_terms-requires-clause-shallow
lower_proof-put_terms-requires-clause-shallow t c = node-binds _ _ _ _ c.in-By.is _ c.in-By.kids.items c.deref-in-By.ensures.value refl c.requires.derived.binds

pub lower_proof-lowered_node-requires-clause-graft : goal.lower_proof-lowered_node-requires-clause-graft
lower_proof-lowered_node-requires-clause-graft t c = here-graft c.args.source.now c.requires.source c.args.proof.now c.in-By.rule c.in-By.binds c.in-By.kids c.in-By.is c.requires.derived c.deref.result.now c.deref.ensures.value c.in_ok-lowered-in-By.lowered.items c.in_ok-lowered-in-By.ensures

pub lower_proof-lowered_node-requires-clause-height : goal.lower_proof-lowered_node-requires-clause-height
lower_proof-lowered_node-requires-clause-height t c = here-high c.args.source.now c.requires.source c.args.proof.now c.in-By.rule c.in-By.binds c.in-By.kids c.in-By.is c.requires.derived c.deref.result.now c.deref.ensures.value c.in_ok-lowered-in-By.lowered.items c.in_ok-lowered-in-By.ensures

pub lower_proof-lowered_node-requires-clause-binds : goal.lower_proof-lowered_node-requires-clause-binds
lower_proof-lowered_node-requires-clause-binds t c = here-binds c.args.source.now c.requires.source c.args.proof.now c.in-By.rule c.in-By.binds c.in-By.kids c.in-By.is c.requires.derived c.deref.result.now c.deref.ensures.value c.in_ok-lowered-in-By.lowered.items c.in_ok-lowered-in-By.ensures

pub lower_proof-returns-in_ok-puts-in-By : goal.lower_proof-returns-in_ok-puts-in-By
lower_proof-returns-in_ok-puts-in-By t c = here-lowers c.args.source.now c.requires.source c.args.proof.now c.in-By.rule c.in-By.binds c.in-By.kids c.in-By.is c.requires.derived c.deref.result.now c.deref.ensures.value c.in_ok-lowered-in-By.lowered.items c.in_ok-lowered-in-By.ensures c.deref-in-By.result.now c.deref-in-By.ensures.value c.deref-in-By-2.result.now c.deref-in-By-2.ensures.value c.in_ok-puts-in-By.puts c.in_ok-puts-in-By.ensures c.lowered_node.result c.lowered_node.ensures
