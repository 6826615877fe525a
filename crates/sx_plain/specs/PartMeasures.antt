-- Measures of the parts of a node.
use Rattle.std.specs.Prelude.{ℕ, List, map}
use Rattle.sx_plain.specs.declared.measure.Measure.{Measure}

-- the depths that are measured
abbrev pub depths_of : List Measure → List ℕ
depths_of ms = map (λ m. m.depth) ms

-- the sizes that are measured
abbrev pub sizes_of : List Measure → List ℕ
sizes_of ms = map (λ m. m.size) ms
