-- The shapes of constructors as plain data.
use Rattle.std.specs.Prelude.{List, map}
use Rattle.sx_term.specs.declared.con.Con.{Con}
use Rattle.sx_term.specs.declared.shapes.Shapes.{Shapes}
use Rattle.sx_term.specs.Sorts.{Shape}

-- a constructor as plain data
abbrev pub shape : Con → Shape
shape c = record { sort = c.sort; kids = c.kids.items }

-- the constructors of the labels 0, 1, 2 and so on
abbrev pub shapes : Shapes → List Shape
shapes s = map shape s.cons.items
