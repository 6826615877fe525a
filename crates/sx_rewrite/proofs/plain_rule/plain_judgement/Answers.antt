use Rattle.std.proofs.Common.{rules}
use Rattle.sx_rewrite.proofs.plain_rule.plain_judgement.Goals as goal

pub returns : goal.returns
returns c = search rules
