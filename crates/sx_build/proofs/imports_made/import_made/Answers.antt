use Rattle.std.proofs.Common.{sym, ap, ◌∙◌}
use Rattle.std.specs.Prelude.{Some}
use Rattle.sx_build.proofs.imports_made.import_made.Goals as goal

pub returns-clause-step : goal.returns-clause-step
returns-clause-step c = λ files held.
    c.state_import-import.ensures.step files (held ∙ ap Some (sym c.deref.ensures.value))
