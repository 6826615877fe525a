use Rattle.std.proofs.Common.{Option, Some, sym, ap, ◌∙◌, ◌≤◌, subst}
use Rattle.sx_rules.specs.Derivations.{Proof as ProofData, height_of, HasShallowBinds}
use Rattle.sx_rules.specs.ProofView.{proof}
use Rattle.sx_rules.specs.declared.proof.Proof.{Proof}
use Rattle.sx_rules.specs.Sets.{bare_rules_in}
use Rattle.sx_plain.specs.Views.{table_of}
use Rattle.sx_rewrite.proofs.StoredAt.{certificate-some, certificate-none}
use Rattle.sx_rewrite.proofs.accepted.Accepted.certificate.Goals as goal

pub returns-in-Some-clause-value : goal.returns-in-Some-clause-value
returns-in-Some-clause-value c =
    let a = c.args.self.now in
    let e = certificate-some (bare_rules_in a.base) (bare_rules_in a.rules) a.flats.items (table_of a.plain) a.first c.args.rule a.counted a.many c.in-Some.flat.now c.in-Some.ensures.value in
    e ∙ ap (λ (p : Proof). let o : Option ProofData = Some (proof p) in o) (sym c.deref.ensures)

pub returns-in-None-clause-value : goal.returns-in-None-clause-value
returns-in-None-clause-value c =
    let a = c.args.self.now in
    certificate-none (bare_rules_in a.base) (bare_rules_in a.rules) a.flats.items (table_of a.plain) a.first c.args.rule a.counted a.many c.in-None.ensures.value

pub returns-in-Some-clause-shallow : goal.returns-in-Some-clause-shallow
returns-in-Some-clause-shallow c = subst (λ (p : Proof). (height_of (proof p) ≤ 3000) × HasShallowBinds (proof p)) (sym c.deref.ensures) (c.in-Some.ensures.shallow.1, c.in-Some.ensures.shallow.2)
