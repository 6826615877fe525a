use Rattle.std.proofs.Common.{rules, refl, ◌+◌, ◌≤◌, ◌∷◌, [], arith}
use Rattle.sx_rules.specs.Derivations.{height_of}
use Rattle.sx_rules.specs.declared.proof.Proof.TheViews.{the_lemmas}
use Rattle.sx_rules.specs.ProofView as view
use Rattle.sx_rules.proofs.ProofRows.{height_of-kid}
use Rattle.sx_audit.specs.Meaning.{node}
use Rattle.sx_audit.proofs.Carrying.{carries-all, carries-on, carries-stop, carries-end}
use Rattle.sx_audit.proofs.ProofNodes.{own-rule, kid-by-rules, node-first, kids-on, kids-end}
use Rattle.sx_audit.proofs.showing.+show_from.Goals as goal

pub rule_at-requires : goal.rule_at-requires
rule_at-requires g t c = own-rule _ _ _ _ c.in-By.is _ c.requires.rules

pub loop-kid-init : goal.loop-kid-init
loop-kid-init g t c =
    carries-on _ _ _ _ _ _ (carries-all _ _ _ (omega arith)) _ _
    (node c.rule_at.result.now.name c.args.depth ∷ []) _
    (node-first _ _ _ _ c.in-By.is _ c.deref-kid-items.ensures.value _ _ _ c.rule_at.ensures)
    c.in_ok-first-in-By.ensures

pub returns-in_err-first-in-By : goal.returns-in_err-first-in-By
returns-in_err-first-in-By g t c =
    carries-stop _ _ _ _ _ _ (carries-all _ _ _ (omega arith)) _ _
    (node c.rule_at.result.now.name c.args.depth ∷ []) _ _ c.from_residual.ensures.1
    (node-first _ _ _ _ c.in-By.is _ refl _ _ _ c.rule_at.ensures)
    c.in_err-first-in-By.ensures

pub show_from-requires : goal.show_from-requires
show_from-requires g t c =
    let k = height_of-kid _ _ _ _ _ c.in-By.is c.deref-kid-items.ensures.value _ _ _
    c.loop-kid-test.true c.kid-item.is c.deref.ensures in
    let e : height_of (view.proof c.deref.result.now) + (c.args.depth + 1) ≤ 3001 =
    omega (arith, k, c.requires.height) in
    let b = kid-by-rules _ _ _ _ c.in-By.is _ c.deref-kid-items.ensures.value _ _ _ _
    c.loop-kid-test.true c.kid-item.is c.deref.ensures c.requires.rules in
    (search (rules, the_lemmas), (e, b))

pub loop-kid-preserved : goal.loop-kid-preserved
loop-kid-preserved g t c =
    carries-on _ _ _ _ _ _ c.loop-kid.invariant _ _ _ _
    (kids-on _ _ _ _ _ _ c.loop-kid-test.true c.kid-item.is c.deref.ensures)
    c.in_ok-shown-in-By.ensures

pub returns-in_err-shown-in-By : goal.returns-in_err-shown-in-By
returns-in_err-shown-in-By g t c =
    carries-stop _ _ _ _ _ _ c.loop-kid.invariant _ _ _ _ _
    c.from_residual-in_err-shown-in-By.ensures.1
    (kids-on _ _ _ _ _ _ c.loop-kid-test.true c.kid-item.is c.deref.ensures)
    c.in_err-shown-in-By.ensures

pub returns : goal.returns
returns g t c =
    carries-end _ _ _ _ _ _ c.loop-kid.invariant (kids-end _ _ _ _ c.loop-kid-test.false)
