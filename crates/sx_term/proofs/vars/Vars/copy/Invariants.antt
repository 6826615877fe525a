use Rattle.std.proofs.Common.{◌≡◌, ◌-◌, length, take}
use Rattle.sx_term.proofs.vars.Vars.copy.Given as goal

abbrev pub invariant-loop-name : goal.invariant-loop-name
invariant-loop-name l = l.copies ≡ take l.number l.self

abbrev pub decreases-loop-name : goal.decreases-loop-name
decreases-loop-name l = length l.self - l.number
