-- The three files of a unit that was built, and its line.
use Rattle.std.specs.Prelude.{ℕ, List, [], ◌∷◌, ◌++◌, codes, decimal}
use Rattle.sx_steps.specs.Work.{Plan}

-- the files of a unit
abbrev pub base_file : List ℕ → List ℕ
base_file name = name ++ codes ".base"

abbrev pub list_file : List ℕ → List ℕ
list_file name = name ++ codes ".der"

abbrev pub interface_file : List ℕ → List ℕ
interface_file name = name ++ codes ".int"

-- the line that says of a name what was done, and with how many nodes
abbrev pub nodes_line : (word name : List ℕ) → ℕ → List ℕ
nodes_line word name nodes =
    word ++ codes " " ++ name ++ codes ": " ++ decimal nodes ++ codes " nodes" ++ 10 ∷ []

-- the line that tells how many nodes the derivation has
abbrev pub built_line : List ℕ → ℕ → List ℕ
built_line name nodes = nodes_line (codes "built") name nodes

-- the three files, with these bytes, and the line
abbrev pub built_plan : List ℕ → List ℕ → List ℕ → List ℕ → ℕ → Plan
built_plan name base list interface nodes = record {
  files =
      record { name = base_file name; bytes = base } ∷
      record { name = list_file name; bytes = list } ∷
      record { name = interface_file name; bytes = interface } ∷ [];
  lines = built_line name nodes;
}
