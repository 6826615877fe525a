use Rattle.std.proofs.Common.{ap, ◌∙◌}
use Rattle.std.proofs.lemmas.Result.{IfOk-weaker}
use Rattle.sx_rules.specs.Sets.{bare_rules_in}
use Rattle.sx_rules.specs.Views.{rule, modes_of as modes_by}
use Rattle.sx_arena.specs.Views.{set_modes}
use Rattle.sx_rewrite.specs.Accepted.{extended_rules}
use Rattle.sx_expand.specs.Followed.{bindings_of}
use Rattle.sx_expand.specs.Readings.{set_by, signature_by, hyps_by}
use Rattle.sx_expand.specs.Readers.{terms_in}
use Rattle.sx_expand.proofs.Bindings.{number-within, rule-same, ends-concluded, made-goes}
use Rattle.sx_expand.proofs.NodeLowering.{rule-shallow}
use Rattle.sx_expand.proofs.node_binding.node_outputs.Goals as goal

pub rule_at-rule-requires : goal.rule_at-rule-requires
rule_at-rule-requires c =
    let d = c.requires.node in number-within _ _ c.requires.reading.rules.rules_are c.args.node.now.number d.0.rule d.1.found

pub places_under-requires-clause-shallow : goal.places_under-requires-clause-shallow
places_under-requires-clause-shallow c =
    (rule-shallow (bare_rules_in c.args.reading.now.rules.now) c.args.node.now.number (rule c.rule_at-rule.result.now) c.facts.ensures.shallow c.rule_at-rule.ensures).0

pub returns-clause-on : goal.returns-clause-on
returns-clause-on c = made-goes (set_by c.args.reading.now).table c.args.reader.now c.places_under.new.arena c.places_under.result _ c.requires.reader c.places_under.ensures

pub returns-clause-outputs : goal.returns-clause-outputs
returns-clause-outputs c =
    let l = c.args.reading.now in
    let code = rule c.rule_at-rule.result.now in
    let env = bindings_of (terms_in c.args.reader.now) c.args.work.now in
    let modes_are = ap modes_by c.requires.reading.rules.forms_are in
    let rules_are = c.requires.reading.rules.rules_are in
    IfOk-weaker c.places_under.result _ _ (λ x h d is f.
    let same = rule-same _ _ rules_are c.args.node.now.number d.rule is.found code c.rule_at-rule.ensures in
    h.are
    ∙ ends-concluded (signature_by l).modes (set_modes c.args.reading.now.rules.now) modes_are (extended_rules (set_by l)) (hyps_by l) c.requires.reading.rules.accepted_with.moded c.args.node.now.number d.rule code same is.found d.judgement d.binds d.kids is.can.derives env f)
    c.places_under.ensures
