use Rattle.std.proofs.Common.{rules}
use Rattle.sx_rules.specs.ListText.{given_number}
use Rattle.sx_rules.proofs.list_reading.given_of.Goals as goal

pub returns-then-number-eq0 : goal.returns-then-number-eq0
unfolding given_number
returns-then-number-eq0 c = search rules
