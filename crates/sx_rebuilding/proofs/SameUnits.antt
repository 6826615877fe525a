-- The unit of a module is made over other files too, where these hold the same extensions.
use Rattle.std.proofs.Common.{List}
use Rattle.std.specs.Prelude.{Result}
use Rattle.sx_grammar.specs.Tables.{literals_of}
use Rattle.sx_extcheck.specs.declared.budgets.Budgets.{Budgets}
use Rattle.sx_outside.specs.Files.{Files}
use Rattle.sx_steps.specs.Steps.{Untried}
use Rattle.sx_steps.specs.declared.stop.Stop.{Stop}
use Rattle.sx_uses.specs.ExtensionFile.{Extension}
use Rattle.sx_uses.specs.ReadUses.{ReadsUses}
use Rattle.sx_headers.specs.FreeImports.{HasFreeImports}
use Rattle.sx_compiling.specs.Given.{GivenModule}
use Rattle.sx_compiling.specs.MakeUnit.{MakesExtended, MakesReached, MakesUnit}
use Rattle.sx_compiling.proofs.SameSteps.{IsAlsoTrying, untried_as, and_then_as}
use Rattle.sx_rebuilding.proofs.SameFiles.{HoldSameExtensions, uses_as}

module _ (budgets : Budgets) (files others : Files) (same : HoldSameExtensions files others)
    (g : GivenModule) where
  -- the extensions that the header uses
  abbrev Uses : Files → Result (List Extension) Stop → Type 0
  Uses fs = ReadsUses g.file g.read.header.language g.read.header.uses fs

  reached_as : IsAlsoTrying (MakesReached budgets files g) (MakesReached budgets others g)
  reached_as =
      and_then_as (Untried (Uses files)) (Untried (Uses others)) (MakesExtended budgets g)
      (MakesExtended budgets g)
      (untried_as (Uses files) (Uses others)
      (uses_as files others same g.file g.read.header.language g.read.header.uses))
      (λ xs r tries h. h)

  pub unit_as : IsAlsoTrying (MakesUnit budgets files g) (MakesUnit budgets others g)
  unit_as =
      and_then_as (Untried (HasFreeImports g.file (literals_of g.language.language.parts) g.read))
      (Untried (HasFreeImports g.file (literals_of g.language.language.parts) g.read))
      (λ done. MakesReached budgets files g) (λ done. MakesReached budgets others g)
      (λ r tries h. h) (λ done. reached_as)
