use Rattle.std.proofs.Common.{tests, rules}
use Rattle.sx_grammar.proofs.make.good_names.Goals as goal

pub good_labels-requires : goal.good_labels-requires
good_labels-requires c = search (tests, rules)
