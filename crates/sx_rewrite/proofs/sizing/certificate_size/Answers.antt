use Rattle.std.proofs.Common.{List, length, map, ap, sym, subst, ◌∙◌}
use Rattle.sx_rules.specs.Rules.{judgements_of}
use Rattle.sx_rules.specs.Views.{premise}
use Rattle.sx_rules.specs.ProofView.{proof}
use Rattle.sx_rewrite.specs.declared.given_use.GivenUse.{GivenUse}
use Rattle.sx_rewrite.specs.Sizes.{AreUsesOf}
use Rattle.sx_rewrite.proofs.Noted.{noted_by, many-noted, many-unused, uses-noted}
use Rattle.sx_rewrite.proofs.sizing.certificate_size.Goals as goal

pub returns-clause-many : goal.returns-clause-many
returns-clause-many c =
    let n = length (judgements_of (map premise c.args.premises.now)) in
    ap (λ (x : List GivenUse). length x) c.note-own.ensures.uses ∙ many-noted (proof c.args.certificate.now) 0 0 c.in_ok-uses.uses.items
    ∙ ap (λ (x : List GivenUse). length x) c.in_ok-uses.ensures ∙ many-unused n

pub returns-clause-uses : goal.returns-clause-uses
returns-clause-uses c =
    let p = proof c.args.certificate.now in
    let n = length (judgements_of (map premise c.args.premises.now)) in
    subst (λ (x : List GivenUse). AreUsesOf 0 p x) (sym (c.note-own.ensures.uses ∙ ap (noted_by p 0 0) c.in_ok-uses.ensures)) (uses-noted p 0 n)
