-- What a verified name leaves to do: the line.
use Rattle.std.specs.Prelude.{ℕ, List, [], codes}
use Rattle.sx_steps.specs.Unit.{nodes_line}
use Rattle.sx_steps.specs.Work.{Plan}

-- the line that tells how many entries the list has
abbrev pub verified_line : List ℕ → ℕ → List ℕ
verified_line name nodes = nodes_line (codes "verified") name nodes

-- no file, and the line
abbrev pub verified_plan : List ℕ → ℕ → Plan
verified_plan name nodes = record { files = []; lines = verified_line name nodes }
