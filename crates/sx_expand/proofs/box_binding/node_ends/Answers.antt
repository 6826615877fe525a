use Rattle.std.proofs.Common.{◌≡◌, arith, ℕ, length, ap, ◌∙◌, refl}
use Rattle.sx_rules.specs.Sets.{bare_rules_in}
use Rattle.sx_rules.specs.Views.{rule}
use Rattle.sx_arena.specs.Arena.{trees}
use Rattle.sx_arena.specs.Limits.{first_values}
use Rattle.sx_arena.specs.Matching.{filled}
use Rattle.sx_expand.specs.Followed.{bindings_of}
use Rattle.sx_expand.proofs.Bindings.{number-within}
use Rattle.sx_expand.proofs.BoxNodes.{box-binds, box-outputs}
use Rattle.sx_expand.proofs.NodeLowering.{rule-shallow}
use Rattle.sx_expand.proofs.box_binding.node_ends.Goals as goal

pub rule_at-rule-requires : goal.rule_at-rule-requires
rule_at-rule-requires c =
    let n = c.requires.node in number-within _ _ refl c.args.number n.1.rule n.2.found

pub places_under-requires-clause-shallow : goal.places_under-requires-clause-shallow
places_under-requires-clause-shallow c =
    (rule-shallow (bare_rules_in c.args.origin.now.rules.now) c.args.number
    (rule c.rule_at-rule.result.now) c.facts.ensures.shallow c.rule_at-rule.ensures).0

pub returns-in-Ok-clause-ends : goal.returns-in-Ok-clause-ends
returns-in-Ok-clause-ends c = λ at d is f.
    let o = c.args.origin.now in
    let env = bindings_of (trees c.args.arena.now) c.args.work.now in
    let code = rule c.rule_at-rule.result.now in
    let v = c.rule_at-rule.result.now.vars.ok.0 in
    let e = c.len.ensures in
    let count : c.len.result ≡ length code.sorts = omega (arith, v, e) in (
      c.in_ok-binds.ensures ∙ ap (λ (n : ℕ). first_values n (filled env)) count
          ∙ box-binds o c.facts.ensures.moded code c.args.number at c.rule_at-rule.ensures d is env f,
      c.in-Ok.ensures.are ∙ box-outputs o c.facts.ensures.moded code c.args.number at c.rule_at-rule.ensures d is env f,
    )
