use Rattle.std.proofs.Common.{ap, sym, subst, ◌∙◌}
use Rattle.std.proofs.lemmas.Result.{IfOk-from_err}
use Rattle.sx_rules.specs.declared.rule.Premise.{Premise}
use Rattle.sx_rules.specs.Deep.{PremiseIsShallow}
use Rattle.sx_rules.specs.Rules.{holds, apart}
use Rattle.sx_rules.specs.Views.{premise}
use Rattle.sx_rules.proofs.rule.Premise.copy.Goals as goal

pub copy-requires : goal.copy-requires
copy-requires c = subst (λ (p : Premise). PremiseIsShallow (premise p)) c.in-Holds.is c.requires

pub returns-in_err-copy-in-Holds : goal.returns-in_err-copy-in-Holds
returns-in_err-copy-in-Holds c = IfOk-from_err _ _ c.from_residual.ensures.0

pub copy-requires-in-Apart : goal.copy-requires-in-Apart
copy-requires-in-Apart c = (subst (λ (p : Premise). PremiseIsShallow (premise p)) c.in-Apart.is c.requires).0

pub returns-in_err-copy-in-Apart : goal.returns-in_err-copy-in-Apart
returns-in_err-copy-in-Apart c = IfOk-from_err _ _ c.from_residual-in_err-copy-in-Apart.ensures.0

pub copy-requires-in-Apart-2 : goal.copy-requires-in-Apart-2
copy-requires-in-Apart-2 c = (subst (λ (p : Premise). PremiseIsShallow (premise p)) c.in-Apart.is c.requires).1

pub returns-in_err-copy-in-Apart-2 : goal.returns-in_err-copy-in-Apart-2
returns-in_err-copy-in-Apart-2 c = IfOk-from_err _ _ c.from_residual-in_err-copy-in-Apart-2.ensures.0

pub returns-in_ok-copy-in-Holds : goal.returns-in_ok-copy-in-Holds
returns-in_ok-copy-in-Holds c = ap holds c.in_ok-copy-in-Holds.ensures ∙ ap premise (sym c.in-Holds.is)

pub returns-in_ok-copy-in-Apart-2 : goal.returns-in_ok-copy-in-Apart-2
returns-in_ok-copy-in-Apart-2 c =
    let left = c.in_ok-copy-in-Apart.ensures in
    let right = c.in_ok-copy-in-Apart-2.ensures in
    (λ i. apart (left i) (right i)) ∙ ap premise (sym c.in-Apart.is)
