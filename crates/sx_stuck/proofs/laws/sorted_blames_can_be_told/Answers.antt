use Rattle.sx_stuck.proofs.CanTell.{sorted_blames_can_be_told}
use Rattle.sx_stuck.proofs.laws.sorted_blames_can_be_told.Goals as goal

pub returns : goal.returns
returns c = sorted_blames_can_be_told
