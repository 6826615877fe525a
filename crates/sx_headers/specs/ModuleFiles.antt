-- The file of a module.
use Rattle.std.specs.Prelude.{ℕ, List, ◌++◌, codes}

-- the file of the module with this name
abbrev pub module_file : List ℕ → List ℕ
module_file name = name ++ codes ".mod"
