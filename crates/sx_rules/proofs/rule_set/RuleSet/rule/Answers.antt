use Rattle.std.proofs.Common.{◌<◌, ◌≤◌, ◌∙◌, ap, length, refl, arith}
use Rattle.std.specs.Prelude.{option_map}
use Rattle.std.proofs.lemmas.Option.{slice_get_past, slice_get_read, slice_get-map}
use Rattle.sx_rules.specs.Views.{named}
use Rattle.sx_rules.proofs.rule_set.RuleSet.rule.Goals as goal

pub returns-then-i-len : goal.returns-then-i-len
returns-then-i-len c =
    let rules = c.args.self.now.rules.items in
    let within : c.args.number < length rules = omega (arith, c.if-i-len.true, c.len.ensures) in
    slice_get-map named rules c.args.number ∙ ap (option_map named) (slice_get_read rules (length rules) c.args.number c.index.result.now refl within c.index.ensures)

pub returns : goal.returns
returns c =
    let rules = c.args.self.now.rules.items in
    let past : length rules ≤ c.args.number = omega (arith, c.if-i-len.false, c.len.ensures) in
    slice_get-map named rules c.args.number ∙ ap (option_map named) (slice_get_past rules c.args.number past)
