-- What a module is compiled from.
use Rattle.std.specs.Prelude.{ℕ, ◌≤◌, List, length, Contains, Ok}
use Rattle.sx_outside.specs.Files.{Files}
use Rattle.sx_accepting.specs.ReadLanguage.{Stated, ReadsLanguage}
use Rattle.sx_headers.specs.ReadModule.{Module, ReadsModule}
use Rattle.sx_importing.specs.ReadImports.{ImportData, ReadsImports}
use Rattle.sx_compiling.specs.Given.{GivenModule}
use Rattle.sx_headers.specs.ModuleFiles.{module_file}
use Rattle.sx_compile.specs.CompileModule.{given_to_compile}

-- the module in its file, which imports at most 255 others
pub record IsModule (name : List ℕ) (files : Files) : Type 0 where
  pub read : Module
  pub reads : ReadsModule (module_file name) name files (Ok read)
  pub others : ¬ (Contains read.header.imports name)
  pub few : length read.header.imports ≤ 255

-- the language that its header names, and the interfaces of its imports, in the order of its header
pub record IsModuleFound (name : List ℕ) (files : Files) : Type 0 where
  pub from : IsModule name files
  pub language : Stated
  pub states : ReadsLanguage from.read.header.language files (Ok language)
  pub imports : List ImportData
  pub imported : ReadsImports files from.read.header.imports (Ok imports)

-- what its unit is made from
abbrev pub given_from : {name : List ℕ} {files : Files} → IsModuleFound name files → GivenModule
given_from {name = name} f = given_to_compile name f.from.read f.language f.imports
