-- The steps that make the unit of one module.
use Rattle.std.specs.Prelude.{ℕ, List, Result}
use Rattle.sx_term.specs.Tree.{Tree}
use Rattle.sx_grammar.specs.Tables.{literals_of}
use Rattle.sx_extcheck.specs.declared.budgets.Budgets.{Budgets}
use Rattle.sx_unit.specs.Written.{UnitData}
use Rattle.sx_environment.specs.SeenFrom.{SeenFrom}
use Rattle.sx_outside.specs.Files.{Files}
use Rattle.sx_steps.specs.declared.step_error.StepError.{StepError}
use Rattle.sx_steps.specs.Steps.{Untried, AndThen}
use Rattle.sx_uses.specs.ExtensionFile.{Extension}
use Rattle.sx_uses.specs.ReadUses.{ReadsUses}
use Rattle.sx_accepting.specs.ExtendedLanguages.{unextended}
use Rattle.sx_accepting.specs.Extending.{ExtendsLanguage}
use Rattle.sx_accepting.specs.ReadLanguage.{base_in}
use Rattle.sx_headers.specs.FreeImports.{HasFreeImports}
use Rattle.sx_importing.specs.MakeEnvironment.{SeesImports}
use Rattle.sx_compiling.specs.CompileModule.{CompilesTrying}
use Rattle.sx_compiling.specs.Given.{GivenModule, interfaces_in, seen_in, module_seen}

-- the module is compiled in the dialect from which its imports are seen, with this environment
abbrev pub MakesIn : Budgets → GivenModule → SeenFrom → (environment : Tree) →
    Result UnitData StepError → ℕ → Type 0
MakesIn budgets g s environment = CompilesTrying g.file budgets (module_seen g s environment)

-- the environment of the imports, as they are seen from there, and then the unit
abbrev pub MakesSeeing : Budgets → GivenModule → SeenFrom → Result UnitData StepError → ℕ → Type 0
MakesSeeing budgets g s =
    AndThen (Untried (SeesImports g.file s (interfaces_in g))) (MakesIn budgets g s)

-- the extensions are read and accepted in order, each after all before it, and then the environment
abbrev pub MakesExtended : Budgets → GivenModule → List Extension → Result UnitData StepError →
    ℕ → Type 0
MakesExtended budgets g xs =
    AndThen (ExtendsLanguage (base_in g.language) budgets xs (unextended g.language.language))
    (λ x. MakesSeeing budgets g (seen_in g xs x))

-- the extensions that are reached by the `use` lines of the header, and then all of these
abbrev pub MakesReached : Budgets → Files → GivenModule → Result UnitData StepError → ℕ → Type 0
MakesReached budgets files g =
    AndThen (Untried (ReadsUses g.file g.read.header.language g.read.header.uses files))
    (MakesExtended budgets g)

-- the unit of the module, or the first refusal, with so many tries to spend for each walk, and so
-- many nodes for each derivation that is lowered: no import has a literal of the language as its
-- name, and then the extensions
abbrev pub MakesUnit : Budgets → Files → GivenModule → Result UnitData StepError → ℕ → Type 0
MakesUnit budgets files g =
    AndThen (Untried (HasFreeImports g.file (literals_of g.language.language.parts) g.read))
    (λ done. MakesReached budgets files g)
