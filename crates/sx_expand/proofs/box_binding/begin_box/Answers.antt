use Rattle.std.proofs.Common.{map, refl}
use Rattle.std.proofs.lemmas.Result.{IfOk-weaker}
use Rattle.sx_rules.specs.Sets.{bare_rules_in}
use Rattle.sx_rules.specs.Views.{rule}
use Rattle.sx_arena.specs.Arena.{trees, tree_at}
use Rattle.sx_expand.specs.Followed.{bindings_of}
use Rattle.sx_expand.proofs.Bindings.{number-within}
use Rattle.sx_expand.proofs.BoxNodes.{box-begins, box-begun}
use Rattle.sx_expand.proofs.NodeLowering.{rule-shallow}
use Rattle.sx_expand.proofs.box_binding.begin_box.Goals as goal

pub rule_at-rule-requires : goal.rule_at-rule-requires
rule_at-rule-requires c =
    let n = c.requires.node in number-within _ _ refl c.args.number n.1.rule n.2.found

pub input_work-requires-clause-shallow : goal.input_work-requires-clause-shallow
input_work-requires-clause-shallow c =
    (rule-shallow (bare_rules_in c.args.origin.now.rules.now) c.args.number
    (rule c.rule_at-rule.result.now) c.facts.ensures.shallow c.rule_at-rule.ensures).0

pub input_work-requires-clause-matches : goal.input_work-requires-clause-matches
input_work-requires-clause-matches c =
    let n = c.requires.node in
    box-begins c.args.origin.now c.facts.ensures.moded (rule c.rule_at-rule.result.now)
    c.args.number n.0 c.rule_at-rule.ensures n.1 n.2
    (map (tree_at (trees c.args.arena.now)) c.args.inputs.now) n.3

pub returns-clause-followed : goal.returns-clause-followed
returns-clause-followed c =
    IfOk-weaker c.input_work.result _ _ (λ w h at d is ins.
    box-begun c.args.origin.now c.facts.ensures.moded (rule c.rule_at-rule.result.now)
    c.args.number at c.rule_at-rule.ensures d is
    (map (tree_at (trees c.args.arena.now)) c.args.inputs.now) ins
    (bindings_of (trees c.args.arena.now) w) h.1)
    c.input_work.ensures
