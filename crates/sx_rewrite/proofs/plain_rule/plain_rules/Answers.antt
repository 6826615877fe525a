use Rattle.sx_rules.specs.Views.{rule}
use Rattle.sx_plain.specs.Views.{table_of}
use Rattle.sx_rewrite.specs.PlainRules.{RuleHasImage}
use Rattle.sx_rewrite.proofs.PlainGood.{held-in}
use Rattle.sx_rewrite.proofs.plain_rule.plain_rules.Goals as goal

pub plain_rule-requires : goal.plain_rule-requires
plain_rule-requires c =
    held-in (λ e. RuleHasImage (table_of c.args.table.now) (rule e.rule)) c.args.rules.now c.loop-ext.ext-index c.ext-item.result c.requires c.loop-ext-test.true c.ext-item.is
