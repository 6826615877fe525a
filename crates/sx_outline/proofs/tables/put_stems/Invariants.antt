use Rattle.std.proofs.Common.{map, take}
use Rattle.sx_directives.specs.declared.rows.VarLine.{VarLine}
use Rattle.sx_outline.specs.Tables.{ArePlaces}
use Rattle.sx_outline.proofs.tables.put_stems.Given as goal

abbrev pub invariant-loop-i : goal.invariant-loop-i
invariant-loop-i l = ArePlaces (map (λ (v : VarLine). v.stem) (take l.i l.vars)) l.places
