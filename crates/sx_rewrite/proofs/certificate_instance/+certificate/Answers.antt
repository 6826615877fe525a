use Rattle.std.proofs.Common.{rules, arith, List, Box, ◌≡◌, ◌+◌, length, map, refl, sym, subst}
use Rattle.std.specs.declared.alloc.Global.{Global}
use Rattle.sx_term.specs.Term.{tree}
use Rattle.sx_term.specs.Instances.{bound_by}
use Rattle.sx_rules.specs.declared.proof.Proof.{Proof as ProofOf}
use Rattle.sx_rules.specs.Derivations.{proof_instance, proof_instances}
use Rattle.sx_rules.specs.ProofView.{proof, boxed}
use Rattle.sx_rules.specs.Sets.{bare_rules_in}
use Rattle.sx_rewrite.specs.Givens.{numbered_proof, all_numbered}
use Rattle.sx_rewrite.specs.Rewriting.{first_over}
use Rattle.sx_rewrite.specs.Measured.{certificate_terms, certificate_terms_of}
use Rattle.sx_rewrite.specs.Puts.{Tells, Answers}
use Rattle.sx_rewrite.proofs.Instanced.{err_is}
use Rattle.sx_rewrite.proofs.KidInstances.{KidsSoFar, kids-tell, kids-step, kids-end, kid-high, kid-shallow, node-low, node-lower, node-binds, node-kids, node-givens, node-tells, later-tells, node-answers, any-ok}
use Rattle.sx_rewrite.proofs.certificate_instance.+certificate.Goals as goal

pub certificate_instance-node_instance-requires-clause-shallow : goal.certificate_instance-node_instance-requires-clause-shallow
certificate_instance-node_instance-requires-clause-shallow t c =
    node-binds _ _ _ _ c.in-By.is _ c.in-By.kids.items c.deref.ensures.value refl c.requires.binds

pub certificate_instance-returns-in_err-terms-in-By-clause-body : goal.certificate_instance-returns-in_err-terms-in-By-clause-body
certificate_instance-returns-in_err-terms-in-By-clause-body t c = λ more q.
    let rs = bare_rules_in c.args.base.now in
    let p = proof c.args.certificate.now in
    let over = first_over (certificate_terms rs (bound_by more) p) in
    err_is (Answers over (λ x. proof x.value ≡ numbered_proof (length c.args.givens.now.items) (proof_instance (bound_by more) p))) c.from_residual.result _ c.from_residual.ensures.1
    (λ e same. subst (Tells over) (sym same)
    (node-tells _ _ _ _ c.in-By.is _ c.in-By.kids.items c.deref.ensures.value refl rs (bound_by more) _ (c.in_err-terms-in-By.ensures more q)))

pub certificate_instance-kid_instances-requires : goal.certificate_instance-kid_instances-requires
certificate_instance-kid_instances-requires t c =
    let less = node-lower _ _ _ _ c.in-By.is c.in-By.binds.items _ refl c.deref-in-By.ensures.value in
    (search rules, (node-low _ _ _ _ c.in-By.is c.in-By.binds.items _ refl c.deref-in-By.ensures.value c.requires.height, (node-kids _ _ _ _ c.in-By.is c.in-By.binds.items _ refl c.deref-in-By.ensures.value c.requires.binds, c.requires.put)))

pub certificate_instance-returns-in_err-made-in-By-clause-body : goal.certificate_instance-returns-in_err-made-in-By-clause-body
certificate_instance-returns-in_err-made-in-By-clause-body t c = λ more q.
    let rs = bare_rules_in c.args.base.now in
    let p = proof c.args.certificate.now in
    let over = first_over (certificate_terms rs (bound_by more) p) in
    err_is (Answers over (λ x. proof x.value ≡ numbered_proof (length c.args.givens.now.items) (proof_instance (bound_by more) p))) c.from_residual-in_err-made-in-By.result _ c.from_residual-in_err-made-in-By.ensures.1
    (λ e same. subst (Tells over) (sym same)
    (later-tells _ _ _ _ c.in-By.is _ _ c.deref.ensures.value c.deref-in-By.ensures.value rs (bound_by more) _ (c.in_ok-terms-in-By.ensures more q).0 (c.in_err-made-in-By.ensures.bodies more q)))

pub certificate_instance-returns-in_ok-made-in-By-clause-body : goal.certificate_instance-returns-in_ok-made-in-By-clause-body
certificate_instance-returns-in_ok-made-in-By-clause-body t c = λ more q.
    node-answers _ _ _ _ c.in-By.is _ _ c.deref.ensures.value c.deref-in-By.ensures.value (bare_rules_in c.args.base.now) (bound_by more) (length c.args.givens.now.items)
    (map tree c.in_ok-terms-in-By.terms.items) (boxed c.in_ok-made-in-By.made.items) c.by_rule.result (c.in_ok-terms-in-By.ensures more q) (c.in_ok-made-in-By.ensures.bodies more q) c.by_rule.ensures

pub certificate_instance-returns-in_ok-made-in-By-clause-givens : goal.certificate_instance-returns-in_ok-made-in-By-clause-givens
certificate_instance-returns-in_ok-made-in-By-clause-givens t c =
    any-ok c.by_rule.result _ (node-givens _ _ _ _ c.in-By.is c.in-By.binds.items _ refl c.deref-in-By.ensures.value _ _ c.in_ok-made-in-By.ensures.givens)

pub kid_instances-certificate_instance-requires : goal.kid_instances-certificate_instance-requires
kid_instances-certificate_instance-requires t c =
    let h = kid-high _ _ _ _ c.loop-i-test.true c.index-kids-i.is c.deref.ensures in
    let s = c.requires.height in
    (search rules, (omega (arith, h, s), (kid-shallow _ _ _ _ c.loop-i-test.true c.index-kids-i.is c.deref.ensures c.requires.binds, c.requires.put)))

pub kid_instances-returns-in_err-certificate_instance-clause-bodies : goal.kid_instances-returns-in_err-certificate_instance-clause-bodies
kid_instances-returns-in_err-certificate_instance-clause-bodies t c = λ more q.
    let rs = bare_rules_in c.args.base.now in
    let ps = boxed c.args.kids.now in
    let over = first_over (certificate_terms_of rs (bound_by more) ps) in
    err_is (Answers over (λ x. boxed x.items ≡ all_numbered (length c.args.givens.now.items) (proof_instances (bound_by more) ps))) c.from_residual-in_err-certificate_instance.result _ c.from_residual-in_err-certificate_instance.ensures.1
    (λ e same. subst (Tells over) (sym same)
    (kids-tell rs c.args.puts.now c.args.kids.now c.loop-i.i c.args.givens.now.items c.loop-i.givens.items c.loop-i.made.items c.loop-i.invariant _ _ c.loop-i-test.true c.index-kids-i.is c.deref.ensures
    _ more q (c.in_err-certificate_instance.ensures.body more q)))

pub kid_instances-loop-i-preserved : goal.kid_instances-loop-i-preserved
kid_instances-loop-i-preserved t c =
    let rs = bare_rules_in c.args.base.now in
    let step = kids-step rs c.args.puts.now c.args.kids.now c.loop-i.i c.args.givens.now.items c.loop-i.givens.items c.loop-i.made.items c.loop-i.invariant _ _ c.loop-i-test.true c.index-kids-i.is c.deref.ensures
    c.in_ok-certificate_instance.field-0 c.certificate_instance.new.givens.items c.in_ok-certificate_instance.ensures.givens c.in_ok-certificate_instance.ensures.body in
    subst (λ (xs : List (Box ProofOf Global)). KidsSoFar rs c.args.puts.now c.args.kids.now (c.loop-i.i + 1) c.args.givens.now.items c.certificate_instance.new.givens.items xs) (sym c.in_ok-push.ensures.items) step

pub kid_instances-returns-clause-bodies : goal.kid_instances-returns-clause-bodies
kid_instances-returns-clause-bodies t c = λ more q.
    kids-end (bare_rules_in c.args.base.now) c.args.puts.now c.args.kids.now c.loop-i.i c.args.givens.now.items c.loop-i.givens.items c.loop-i.made.items c.loop-i.invariant c.loop-i-test.false more q
