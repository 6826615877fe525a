use Rattle.sx_term.specs.Term.{tree}
use Rattle.sx_plain.specs.Views.{table_of}
use Rattle.sx_rewrite.specs.PlainRules.{HasImage}
use Rattle.sx_rewrite.proofs.PlainGood.{held-at}
use Rattle.sx_rewrite.proofs.plain_rule.plain_terms.Goals as goal

pub plain_term-requires : goal.plain_term-requires
plain_term-requires c = held-at (HasImage (table_of c.args.table.now)) tree c.args.terms.now c.loop-term.term-index c.term-item.result c.requires c.loop-term-test.true c.term-item.is
