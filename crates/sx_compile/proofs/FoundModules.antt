-- What is found for a module is what its unit is made from.
use Rattle.std.proofs.Common.{ℕ, List, sym, subst}
use Rattle.sx_lines.specs.Lines.{lines_from}
use Rattle.sx_lines.specs.Reading.{kept}
use Rattle.sx_interface.specs.StatedHeader.{StatesHeader}
use Rattle.sx_outside.specs.Files.{Files}
use Rattle.sx_steps.specs.Held.{Held}
use Rattle.sx_term.specs.Limits.{most_bytes}
use Rattle.sx_steps.proofs.StepsOn.{went}
use Rattle.sx_accepting.specs.LanguageFiles.{language_file}
use Rattle.sx_accepting.specs.ReadLanguage.{StatesLanguage}
use Rattle.sx_headers.specs.ReadModule.{StatesModule}
use Rattle.sx_headers.specs.ModuleFiles.{module_file}
use Rattle.sx_compiling.specs.Reached.{HasNamedLanguage, HasModule}
use Rattle.sx_compiling.proofs.NamedImports.{imports_named}
use Rattle.sx_compile.specs.Found.{IsModuleFound, given_from}

-- ---- the module and its language

module _ (name : List ℕ) (files : Files) (f : IsModuleFound name files) where
  pub language_of : HasNamedLanguage (given_from f)
  language_of =
      let stated = went (Held most_bytes (language_file f.from.read.header.language) files)
      (StatesLanguage f.from.read.header.language) f.language f.states in
      record { bytes = stated.given; states = stated.goes }

  pub module_of : HasModule name (given_from f)
  module_of =
      let held = went (Held most_bytes (module_file name) files)
      (StatesModule (module_file name) name) f.from.read f.from.reads in
      let named = imports_named files f.from.read.header.imports f.imports f.imported in
      record {
        states = subst
            (λ (b : List ℕ). StatesHeader name (kept (lines_from 1 b)) f.from.read.header)
            (sym held.goes.same) held.goes.states;
        imports = named.same;
        digests = named.digests;
      }
