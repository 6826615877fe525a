use Rattle.std.proofs.Common.{map, ap}
use Rattle.std.proofs.lemmas.Result.{IfOk-weaker}
use Rattle.sx_rules.specs.Sets.{bare_rules_in}
use Rattle.sx_rules.specs.Views.{rule, modes_of as modes_by}
use Rattle.sx_arena.specs.Arena.{tree_at}
use Rattle.sx_arena.specs.Views.{set_modes}
use Rattle.sx_rewrite.specs.Accepted.{extended_rules}
use Rattle.sx_expand.specs.Followed.{bindings_of}
use Rattle.sx_expand.specs.Readings.{set_by, signature_by, hyps_by}
use Rattle.sx_expand.specs.Readers.{terms_in}
use Rattle.sx_expand.proofs.Bindings.{number-within, rule-same, begins, begins-followed}
use Rattle.sx_expand.proofs.NodeLowering.{rule-shallow}
use Rattle.sx_expand.proofs.node_binding.begin_node.Goals as goal

pub rule_at-rule-requires : goal.rule_at-rule-requires
rule_at-rule-requires c =
    let d = c.requires.node in number-within _ _ c.requires.reading.rules.rules_are c.args.node.now.number d.0.rule d.1.found

pub input_work-requires-clause-shallow : goal.input_work-requires-clause-shallow
input_work-requires-clause-shallow c =
    (rule-shallow (bare_rules_in c.args.reading.now.rules.now) c.args.node.now.number (rule c.rule_at-rule.result.now) c.facts.ensures.shallow c.rule_at-rule.ensures).0

pub input_work-requires-clause-matches : goal.input_work-requires-clause-matches
input_work-requires-clause-matches c =
    let d = c.requires.node.0 in
    let is = c.requires.node.1 in
    let l = c.args.reading.now in
    begins (signature_by l).modes (set_modes c.args.reading.now.rules.now) (ap modes_by c.requires.reading.rules.forms_are) (extended_rules (set_by l)) (hyps_by l) c.requires.reading.rules.accepted_with.moded c.args.node.now.number d.rule (rule c.rule_at-rule.result.now) (rule-same _ _ c.requires.reading.rules.rules_are c.args.node.now.number d.rule is.found (rule c.rule_at-rule.result.now) c.rule_at-rule.ensures) is.found d.judgement d.binds d.kids is.can.derives
    (map (tree_at (terms_in c.args.reader.now)) c.args.inputs.now) c.requires.node.2

pub returns-clause-followed : goal.returns-clause-followed
returns-clause-followed c =
    let l = c.args.reading.now in
    IfOk-weaker c.input_work.result _ _ (λ w h d is ins.
    begins-followed (signature_by l).modes (set_modes c.args.reading.now.rules.now) (ap modes_by c.requires.reading.rules.forms_are) (extended_rules (set_by l)) (hyps_by l) c.requires.reading.rules.accepted_with.moded c.args.node.now.number d.rule (rule c.rule_at-rule.result.now) (rule-same _ _ c.requires.reading.rules.rules_are c.args.node.now.number d.rule is.found (rule c.rule_at-rule.result.now) c.rule_at-rule.ensures) is.found d.judgement d.binds d.kids is.can.derives
    (map (tree_at (terms_in c.args.reader.now)) c.args.inputs.now) ins (bindings_of (terms_in c.args.reader.now) w) h.1)
    c.input_work.ensures
