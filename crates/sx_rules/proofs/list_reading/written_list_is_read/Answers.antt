use Rattle.sx_rules.proofs.ListLaws.{list_round}
use Rattle.sx_rules.proofs.list_reading.written_list_is_read.Goals as goal

pub returns : goal.returns
returns c = λ names list named distinct entries. list_round names list (record { named = named; distinct = distinct }) entries
