-- What is found for a sample is what its unit is made from.
use Rattle.std.proofs.Common.{ℕ, List, sym, subst}
use Rattle.sx_lines.specs.Lines.{lines_from}
use Rattle.sx_lines.specs.Reading.{kept}
use Rattle.sx_interface.specs.StatedHeader.{StatesHeader}
use Rattle.sx_steps.specs.Held.{Held}
use Rattle.sx_term.specs.Limits.{most_bytes}
use Rattle.sx_steps.proofs.StepsOn.{went}
use Rattle.sx_accepting.specs.LanguageFiles.{language_file}
use Rattle.sx_accepting.specs.ReadLanguage.{StatesLanguage}
use Rattle.sx_headers.specs.ReadModule.{StatesModule}
use Rattle.sx_compiling.specs.Reached.{HasNamedLanguage, HasModule}
use Rattle.sx_compiling.proofs.NamedImports.{imports_named}
use Rattle.sx_sample.specs.Holding.{sample_files}
use Rattle.sx_sampling.specs.SampleSteps.{sample_name, sample_file}
use Rattle.sx_sampling.specs.Found.{IsSampleFound, sample_given}

-- ---- the module and its language

module _ (number : ℕ) (f : IsSampleFound number) where
  pub language_of : HasNamedLanguage (sample_given f)
  language_of =
      let stated = went (Held most_bytes (language_file f.read.header.language) (sample_files number))
      (StatesLanguage f.read.header.language) f.language f.states in
      record { bytes = stated.given; states = stated.goes }

  pub module_of : HasModule sample_name (sample_given f)
  module_of =
      let held = went (Held most_bytes sample_file (sample_files number))
      (StatesModule sample_file sample_name) f.read f.reads in
      let named = imports_named (sample_files number) f.read.header.imports f.imports f.imported in
      record {
        states = subst
            (λ (b : List ℕ). StatesHeader sample_name (kept (lines_from 1 b)) f.read.header)
            (sym held.goes.same) held.goes.states;
        imports = named.same;
        digests = named.digests;
      }
