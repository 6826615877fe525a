use Rattle.std.proofs.Common.{map, refl, ◌∙◌}
use Rattle.sx_rules.specs.Views.{judgement, hypotheses}
use Rattle.sx_rewrite.proofs.Instanced.{conclusion-shallow}
use Rattle.sx_rewrite.proofs.KidInstances.{node-binds}
use Rattle.sx_rewrite.proofs.SubjectTerms.{ok-as, given-places}
use Rattle.sx_rewrite.proofs.Judged.{rule-judges, never-ruleless, given-judges}
use Rattle.sx_rewrite.proofs.lowered_judgement.lowered_judgement.Goals as goal

pub instance_judgement-requires-clause-places : goal.instance_judgement-requires-clause-places
instance_judgement-requires-clause-places c = conclusion-shallow c.args.base.now.rules.items c.in-By.rule c.in-Some.found.now c.facts.ensures.shallow c.in-Some.ensures

pub instance_judgement-requires-clause-binds : goal.instance_judgement-requires-clause-binds
instance_judgement-requires-clause-binds c = node-binds _ _ _ _ c.in-By.is _ c.in-By.kids.items c.deref.ensures.value refl c.requires.binds

pub copy-requires : goal.copy-requires
copy-requires c = given-places (map judgement c.args.given.now.holds.items) c.in-Given.number _ c.requires.near c.in-Some-hypothesis.ensures

pub unreachable-requires : goal.unreachable-requires
unreachable-requires c =
    never-ruleless c.args.base.now.rules.items (hypotheses c.args.given.now) c.args.proof.now c.requires.derives.0 c.requires.derives.1 c.in-By.rule c.in-By.binds c.in-By.kids c.in-By.is c.in-None.ensures

pub returns-in-Some : goal.returns-in-Some
returns-in-Some c =
    ok-as c.instance_judgement.result _ _
    (λ j h k d. h ∙ rule-judges c.args.base.now.rules.items (hypotheses c.args.given.now) c.args.proof.now k d c.in-By.rule c.in-By.binds c.in-By.kids c.in-By.is
    c.deref.result.now c.in-Some.found.now c.deref.ensures.value c.in-Some.ensures) c.instance_judgement.ensures

pub returns-in-Some-hypothesis : goal.returns-in-Some-hypothesis
returns-in-Some-hypothesis c =
    ok-as c.copy.result _ _
    (λ j h k d. h ∙ given-judges c.args.base.now.rules.items (hypotheses c.args.given.now) c.args.proof.now k d c.in-Given.number c.in-Given.is
    (judgement c.in-Some-hypothesis.found.now) c.in-Some-hypothesis.ensures) c.copy.ensures
