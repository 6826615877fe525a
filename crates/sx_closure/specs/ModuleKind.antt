-- What a walk takes from modules.
use Rattle.std.specs.Prelude.{ℕ, List}
use Rattle.std.specs.Str.{bytes_eq}
use Rattle.sx_walking.specs.Kinds.{WalkKind}
use Rattle.sx_headers.specs.ReadModule.{Module}
use Rattle.sx_headers.specs.ModuleFiles.{module_file}
use Rattle.sx_closure.specs.ReadImport.{language_differs, ReadsNamed}
use Rattle.sx_closure.specs.ReadModules.{module_name, imports_of, IsModuleStated}

-- the modules with the language
abbrev pub modules_with : List ℕ → WalkKind Module
modules_with language = record {
  name_of = module_name;
  stands_on = imports_of;
  Reads = ReadsNamed;
  fits = λ m. bytes_eq m.header.language language;
  misfit = λ name m. language_differs (module_file name) m.header.language;
  IsStated = IsModuleStated;
}
