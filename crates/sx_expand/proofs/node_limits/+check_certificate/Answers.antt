use Rattle.std.proofs.Common.{rules, List, map, arith, refl, sym, subst}
use Rattle.sx_term.specs.Term.{tree}
use Rattle.sx_term.specs.Instances.{instance, bound_by}
use Rattle.sx_rules.specs.declared.proof.Proof.TheViews.{the_lemmas}
use Rattle.sx_rules.specs.ProofView.{proof}
use Rattle.sx_rules.specs.Sets.{bare_rules_in}
use Rattle.sx_rules.proofs.ProofRows.{height_of-kid}
use Rattle.sx_plain.specs.declared.measure.Measure.{Measure}
use Rattle.sx_rewrite.specs.Measured.{certificate_terms}
use Rattle.sx_rewrite.specs.Rewriting.{first_over}
use Rattle.sx_rewrite.specs.Puts.{AreMeasuresOf, Tells, Answers}
use Rattle.sx_rewrite.proofs.Instanced.{err_is}
use Rattle.sx_rewrite.proofs.KidInstances.{node-binds, node-kids, kid-shallow}
use Rattle.sx_expand.proofs.NodeTerms.{binds-tell, conclusion-tells, kids-follow, kid-tells, kid-passes}
use Rattle.sx_expand.proofs.node_limits.+check_certificate.Goals as goal

pub instance_measures-requires-clause-shallow : goal.instance_measures-requires-clause-shallow
instance_measures-requires-clause-shallow t c = node-binds _ _ _ _ c.in-By.is _ c.in-By.kids.items c.deref.ensures.value refl c.requires.binds

pub returns-in_err-measures-in-By : goal.returns-in_err-measures-in-By
returns-in_err-measures-in-By t c = λ more h.
    let base = bare_rules_in c.args.base.now in
    let over = first_over (certificate_terms base (bound_by more) (proof c.args.certificate.now)) in
    err_is (Answers over (λ x. Unit {0})) c.from_residual.result _ c.from_residual.ensures.1
    (λ e same. subst (Tells over) (sym same)
    (binds-tell base (bound_by more) c.args.certificate.now c.in-By.rule c.in-By.binds c.in-By.kids c.in-By.is c.deref.result.now c.deref.ensures.value _ (c.in_err-measures-in-By.ensures.measures more h)))

pub returns-in_err-check_conclusion-in-By : goal.returns-in_err-check_conclusion-in-By
returns-in_err-check_conclusion-in-By t c = λ more h.
    let base = bare_rules_in c.args.base.now in
    let over = first_over (certificate_terms base (bound_by more) (proof c.args.certificate.now)) in
    let terms = map (instance (bound_by more)) (map tree c.deref.result.now) in
    let made = c.in_ok-measures-in-By.ensures.measures more h in
    let measures = subst (λ (ms : List Measure). AreMeasuresOf terms ms) (sym c.deref-in-By.ensures.value) made.1 in
    err_is (Answers over (λ x. Unit {0})) c.from_residual-in_err-check_conclusion-in-By.result _ c.from_residual-in_err-check_conclusion-in-By.ensures.1
    (λ e same. subst (Tells over) (sym same)
    (conclusion-tells base (bound_by more) c.args.certificate.now c.in-By.rule c.in-By.binds c.in-By.kids c.in-By.is c.deref.result.now c.deref.ensures.value _ made.0 (c.in_err-check_conclusion-in-By.ensures terms measures)))

pub loop-kid-init : goal.loop-kid-init
loop-kid-init t c = λ more h.
    let base = bare_rules_in c.args.base.now in
    let terms = map (instance (bound_by more)) (map tree c.deref.result.now) in
    let made = c.in_ok-measures-in-By.ensures.measures more h in
    let measures = subst (λ (ms : List Measure). AreMeasuresOf terms ms) (sym c.deref-in-By.ensures.value) made.1 in
    kids-follow base (bound_by more) c.args.certificate.now c.in-By.rule c.in-By.binds c.in-By.kids c.in-By.is c.deref.result.now c.deref.ensures.value
    c.deref-kid-items.result.now c.deref-kid-items.ensures.value made.0 (c.in_ok-check_conclusion-in-By.ensures terms measures).0

pub check_certificate-requires : goal.check_certificate-requires
check_certificate-requires t c =
    let k = height_of-kid _ _ _ _ _ c.in-By.is c.deref-kid-items.ensures.value _ _ _ c.loop-kid-test.true c.kid-item.is c.deref-in-loop-kid.ensures in
    let h = c.requires.height in
    let kids = node-kids _ _ _ _ c.in-By.is c.in-By.binds.items _ refl c.deref-kid-items.ensures.value c.requires.binds in
    (search (rules, the_lemmas), (omega (arith, k, h), (kid-shallow _ _ _ _ c.loop-kid-test.true c.kid-item.is c.deref-in-loop-kid.ensures kids, c.requires.parts)))

pub returns-in_err-check_certificate-in-By : goal.returns-in_err-check_certificate-in-By
returns-in_err-check_certificate-in-By t c = λ more h.
    let base = bare_rules_in c.args.base.now in
    let all = proof c.args.certificate.now in
    let over = first_over (certificate_terms base (bound_by more) all) in
    err_is (Answers over (λ x. Unit {0})) c.from_residual-in_err-check_certificate-in-By.result _ c.from_residual-in_err-check_certificate-in-By.ensures.1
    (λ e same. subst (Tells over) (sym same)
    (kid-tells base (bound_by more) all c.deref-kid-items.result.now c.loop-kid.kid-index c.kid-item.result c.deref-in-loop-kid.result.now c.loop-kid-test.true c.kid-item.is c.deref-in-loop-kid.ensures (c.loop-kid.invariant more h) _ (c.in_err-check_certificate-in-By.ensures more h)))

pub loop-kid-preserved : goal.loop-kid-preserved
loop-kid-preserved t c = λ more h.
    kid-passes (bare_rules_in c.args.base.now) (bound_by more) (proof c.args.certificate.now) c.deref-kid-items.result.now c.loop-kid.kid-index c.kid-item.result c.deref-in-loop-kid.result.now c.loop-kid-test.true c.kid-item.is c.deref-in-loop-kid.ensures
    (c.loop-kid.invariant more h) (c.in_ok-check_certificate-in-By.ensures more h).0
