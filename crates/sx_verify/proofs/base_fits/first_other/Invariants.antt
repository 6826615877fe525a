use Rattle.std.proofs.Common.{map}
use Rattle.sx_interface.specs.InterfaceView.{mark_view}
use Rattle.sx_verify.specs.BaseFits.{mark_names}
use Rattle.sx_verify.proofs.BaseNames.{AreSameTo}
use Rattle.sx_verify.proofs.base_fits.first_other.Given as goal

-- the names so far are those of the imports
abbrev pub invariant-loop-i : goal.invariant-loop-i
invariant-loop-i l = AreSameTo l.names (mark_names (map mark_view l.marks)) l.i
