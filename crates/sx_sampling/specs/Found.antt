-- What the unit of a sample is made from.
use Rattle.std.specs.Prelude.{ℕ, List, Ok}
use Rattle.sx_accepting.specs.ReadLanguage.{Stated, ReadsLanguage}
use Rattle.sx_headers.specs.ReadModule.{Module, ReadsModule}
use Rattle.sx_importing.specs.ReadImports.{ImportData, ReadsImports}
use Rattle.sx_compiling.specs.Given.{GivenModule}
use Rattle.sx_sample.specs.Holding.{sample_files}
use Rattle.sx_sampling.specs.SampleSteps.{sample_name, sample_file, given_for_sample}

-- the module Sample in its file, the language that its header names, and the interfaces of its
-- imports, in the order of its header
pub record IsSampleFound (number : ℕ) : Type 0 where
  pub read : Module
  pub reads : ReadsModule sample_file sample_name (sample_files number) (Ok read)
  pub language : Stated
  pub states : ReadsLanguage read.header.language (sample_files number) (Ok language)
  pub imports : List ImportData
  pub imported : ReadsImports (sample_files number) read.header.imports (Ok imports)

-- what its unit is made from
abbrev pub sample_given : {number : ℕ} → IsSampleFound number → GivenModule
sample_given f = given_for_sample f.read f.language f.imports
