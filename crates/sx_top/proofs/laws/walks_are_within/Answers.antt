use Rattle.sx_top.proofs.Searching.{within_budget}
use Rattle.sx_top.proofs.laws.walks_are_within.Goals as goal

pub returns : goal.returns
returns c = within_budget
