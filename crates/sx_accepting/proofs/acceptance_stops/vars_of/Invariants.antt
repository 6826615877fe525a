use Rattle.std.proofs.Common.{◌≡◌, drop}
use Rattle.sx_accepting.specs.AcceptanceStops.{vars_named}
use Rattle.sx_accepting.proofs.acceptance_stops.vars_of.Given as goal

abbrev pub invariant-loop-i : goal.invariant-loop-i
invariant-loop-i l = vars_named (drop l.i l.names) (drop l.i l.vars) l.name ≡ vars_named l.names
    l.vars l.name
