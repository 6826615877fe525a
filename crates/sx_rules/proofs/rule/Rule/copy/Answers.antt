use Rattle.std.proofs.Common.{List, map, ap, sym, subst, ◌∙◌}
use Rattle.std.proofs.lemmas.Result.{IfOk-from_err}
use Rattle.sx_rules.specs.declared.rule.Premise.{Premise}
use Rattle.sx_rules.specs.Deep.{PremisesAreShallow}
use Rattle.sx_rules.specs.Views.{premise}
use Rattle.sx_rules.proofs.rule.Rule.copy.Goals as goal

pub returns-in_err-copy : goal.returns-in_err-copy
returns-in_err-copy c = IfOk-from_err _ _ c.from_residual.ensures.0

pub returns-in_err-from_slice : goal.returns-in_err-from_slice
returns-in_err-from_slice c = IfOk-from_err _ _ c.from_residual-in_err-from_slice.ensures.0

pub copy_premises-requires : goal.copy_premises-requires
copy_premises-requires c = subst (λ (ps : List Premise). PremisesAreShallow (map premise ps)) (sym c.deref-2.ensures.value) c.requires.1

pub returns-in_err-copy_premises : goal.returns-in_err-copy_premises
returns-in_err-copy_premises c = IfOk-from_err _ _ c.from_residual-in_err-copy_premises.ensures.0

pub copy-requires-2 : goal.copy-requires-2
copy-requires-2 c = c.requires.0

pub returns-in_err-copy-2 : goal.returns-in_err-copy-2
returns-in_err-copy-2 c = IfOk-from_err _ _ c.from_residual-in_err-copy-2.ensures.0

pub returns : goal.returns
returns c =
    let name = c.in_ok-copy.ensures in
    let sorts = c.in_ok-from_slice.ensures.items ∙ c.deref.ensures.value in
    let premises = c.in_ok-copy_premises.ensures ∙ ap (map premise) c.deref-2.ensures.value in
    let conclusion = c.in_ok-copy-2.ensures in
    λ i. record { name = name i; rule = record { sorts = sorts i; premises = premises i; conclusion = conclusion i } }
