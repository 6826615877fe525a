-- Modules that were made.
use Rattle.std.specs.Prelude.{ℕ, List}
use Rattle.std.specs.List.{flat_map}
use Rattle.sx_unit.specs.Written.{UnitData}
use Rattle.sx_outside.specs.Files.{Files, File, after_writes}
use Rattle.sx_steps.specs.Unit.{built_plan}
use Rattle.sx_steps.specs.Work.{Plan}

-- what is kept of a module that was made: its name, its three texts, and the number of its nodes
pub record Made : Type 0 where
  pub name : List ℕ
  pub base : List ℕ
  pub list : List ℕ
  pub interface : List ℕ
  pub nodes : ℕ

-- so much is kept of the unit of the module with this name
abbrev pub made_of : List ℕ → UnitData → Made
made_of name unit = record {
  name = name;
  base = unit.base;
  list = unit.derivation;
  interface = unit.interface;
  nodes = unit.nodes;
}

-- the three files of such a module, and its line
abbrev pub made_plan : Made → Plan
made_plan m = built_plan m.name m.base m.list m.interface m.nodes

-- the files of all of these, in order
abbrev pub made_files : List Made → List File
made_files mades = flat_map (λ m. (made_plan m).files) mades

-- the files as they are once those of these modules were written
abbrev pub with_made : List Made → Files → Files
with_made mades files = after_writes (made_files mades) files
