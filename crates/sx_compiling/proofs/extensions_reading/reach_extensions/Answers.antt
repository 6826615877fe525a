use Rattle.std.proofs.Common.{List, ℕ, ◌∙◌, subst}
use Rattle.sx_outside.specs.Views.{clean_files_of}
use Rattle.sx_steps.specs.Stop.{Gives}
use Rattle.sx_uses.specs.ExtensionFile.{extensions_of}
use Rattle.sx_uses.specs.ReadUses.{ReadsUses}
use Rattle.sx_compiling.proofs.KeptReads.{uses_beside}
use Rattle.sx_compiling.proofs.extensions_reading.reach_extensions.Goals as goal

pub returns-in-Ok-clause-step : goal.returns-in-Ok-clause-step
returns-in-Ok-clause-step g c = λ files told.
    let given = c.args.given.now in
    let header = given.source.now.header in
    subst (λ (roots : List (List ℕ)). Gives extensions_of
    (ReadsUses given.file.now header.language roots files) c.read_reached.result)
    (c.in-Ok.ensures ∙ c.deref.ensures.value)
    (uses_beside extensions_of (clean_files_of c.args.kept.now) files header.language
    given.file.now c.in-Ok.roots.items c.read_reached.result (c.requires files told)
    (c.read_reached.ensures.step files told))
