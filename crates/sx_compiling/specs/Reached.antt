-- What the unit of a module is made in.
use Rattle.std.specs.Prelude.{◌≡◌, ℕ, ◌≤◌, List, map, Result, Ok}
use Rattle.std.specs.List.{AllByRecursion}
use Rattle.sx_term.specs.Tree.{Tree, depth_of}
use Rattle.sx_lines.specs.Lines.{lines_from}
use Rattle.sx_lines.specs.Reading.{kept}
use Rattle.sx_grammar.specs.Tables.{literals_of}
use Rattle.sx_extcheck.specs.declared.budgets.Budgets.{Budgets}
use Rattle.sx_interface.specs.Stated.{IsDigest}
use Rattle.sx_interface.specs.StatedHeader.{StatesHeader}
use Rattle.sx_interface.specs.FreeNames.{AreFree}
use Rattle.sx_unit.specs.Modules.{ModuleData}
use Rattle.sx_environment.specs.Environments.{IsEnvironment}
use Rattle.sx_environment.specs.SeenFrom.{SeenFrom}
use Rattle.sx_outside.specs.Files.{Files}
use Rattle.sx_steps.specs.declared.step_error.StepError.{StepError}
use Rattle.sx_uses.specs.ExtensionFile.{Extension}
use Rattle.sx_uses.specs.ReadUses.{ReadsUses}
use Rattle.sx_accepting.specs.ExtendedLanguages.{ExtendedData, unextended}
use Rattle.sx_accepting.specs.Extending.{ExtendsLanguage}
use Rattle.sx_accepting.specs.Laws.{IsAcceptedOver}
use Rattle.sx_accepting.specs.ReadLanguage.{IsLanguageStated, base_in}
use Rattle.sx_compiling.specs.Given.{GivenModule, interfaces_in, seen_in, module_in}
use Rattle.sx_term.specs.Limits.{most_depth}

-- ---- what is given

-- some text states the language under the name that the header has for it
pub record HasNamedLanguage (g : GivenModule) : Type 0 where
  pub bytes : List ℕ
  pub states : IsLanguageStated g.read.header.language bytes g.language

-- The bytes state the header of a module with this name; the imports are those that it names, in
-- its order, each with the digest of its file.
pub record HasModule (name : List ℕ) (g : GivenModule) : Type 0 where
  pub states : StatesHeader name (kept (lines_from 1 g.read.bytes)) g.read.header
  pub imports : map (λ i. i.parts.name) g.imports ≡ g.read.header.imports
  pub digests : AllByRecursion (λ i. IsDigest i.digest) g.imports

-- ---- the extensions

-- no import has a literal of the language as its name; and these extensions are reached by the
-- `use` lines of the header, each once and after those that it uses
pub record ReachesExtensions (files : Files) (g : GivenModule) : Type 0 where
  pub free : AreFree (literals_of g.language.language.parts) g.read.header.imports
  pub extensions : List Extension
  pub reached : ReadsUses g.file g.read.header.language g.read.header.uses files (Ok extensions)

-- these are read and accepted with this answer, and so many tries
abbrev pub ExtendsReached : (budgets : Budgets) (files : Files) (g : GivenModule) →
    ReachesExtensions files g →
    Result ExtendedData StepError → ℕ → Type 0
ExtendsReached budgets files g r answer tries =
    ExtendsLanguage (base_in g.language) budgets r.extensions
    (unextended g.language.language) answer tries

-- They are read and accepted in order, each after all before it, and this is what the language
-- becomes by them: each of their rules has a certificate by the language's rules alone.
pub record HasDialect (budgets : Budgets) (files : Files) (g : GivenModule) : Type 0 where
  pub from : ReachesExtensions files g
  pub extended : ExtendedData
  pub tries : ℕ
  pub extends : ExtendsReached budgets files g from (Ok extended) tries
  pub accepted : IsAcceptedOver (base_in g.language) extended

-- ---- the environment

-- what the imports are seen from in that dialect
abbrev pub seen_over : {budgets : Budgets} {files : Files} {g : GivenModule} →
    HasDialect budgets files g → SeenFrom
seen_over {g = g} d = seen_in g d.from.extensions d.extended

-- the imports have this environment there, which is at most 1,000 deep
pub record HasGround (budgets : Budgets) (files : Files) (g : GivenModule) : Type 0 where
  pub over : HasDialect budgets files g
  pub environment : Tree
  pub sees : IsEnvironment (seen_over over) (interfaces_in g) environment
  pub depth : depth_of environment ≤ most_depth

-- the module in its dialect, with this environment
abbrev pub module_over : {budgets : Budgets} {files : Files} {g : GivenModule} →
    HasGround budgets files g → ModuleData
module_over {g = g} d =
    module_in g d.over.from.extensions d.over.extended d.environment
