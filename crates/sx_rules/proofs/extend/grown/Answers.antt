use Rattle.std.proofs.Common.{◌++◌, ◌∙◌, ap, sym, List}
use Rattle.sx_rules.specs.declared.rule.Rule.{Rule}
use Rattle.sx_rules.specs.Good.{names_of}
use Rattle.sx_rules.specs.Sets.{names_in}
use Rattle.sx_rules.proofs.AdmitLaws.{names_joined}
use Rattle.sx_rules.proofs.extend.grown.Goals as goal

pub good_set-requires-clause-named : goal.good_set-requires-clause-named
good_set-requires-clause-named c =
    let base = c.args.base.now in
    c.in-Ok.ensures.names
    ∙ ap (λ (more : List Rule). names_in base ++ names_of more) c.deref.ensures.value
    ∙ sym (names_joined c.in-Ok-joined.rules.items base.rules.items c.args.more.items c.in-Ok-joined.ensures.rules)
