use Rattle.std.proofs.Common.{rules}
use Rattle.sx_extcheck.proofs.rewrite_defect.rewrite_defect.Goals as goal

pub returns-in-RewriteSpent : goal.returns-in-RewriteSpent
returns-in-RewriteSpent c = search rules

pub returns-in-RewriteDeep : goal.returns-in-RewriteDeep
returns-in-RewriteDeep c = search rules
