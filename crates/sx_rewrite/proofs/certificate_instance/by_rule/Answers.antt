use Rattle.std.proofs.Common.{ap, ◌∙◌, refl}
use Rattle.sx_rules.specs.ProofView.{proof}
use Rattle.sx_rules.specs.declared.proof.Proof.{By}
use Rattle.sx_rules.proofs.ProofRows.{proof-at_by}
use Rattle.sx_rewrite.proofs.certificate_instance.by_rule.Goals as goal

pub returns : goal.returns
returns c = ap proof c.in_ok-new.ensures.ok ∙ proof-at_by (By c.args.rule c.args.binds c.args.kids) c.args.rule c.args.binds c.args.kids refl
