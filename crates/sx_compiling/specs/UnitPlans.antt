-- What is left to do for a unit that was made.
use Rattle.std.specs.Prelude.{ℕ, List}
use Rattle.sx_unit.specs.Written.{UnitData}
use Rattle.sx_steps.specs.Unit.{built_plan}
use Rattle.sx_steps.specs.Work.{Plan}

-- the three files and the line
abbrev pub unit_plan : (name : List ℕ) → UnitData → Plan
unit_plan name unit = built_plan name unit.base unit.derivation unit.interface unit.nodes
