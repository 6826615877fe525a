use Rattle.std.proofs.Common.{ℕ, List, subst}
use Rattle.std.specs.Prelude.{Err}
use Rattle.sx_headers.specs.ReadInterface.{StatesParts}
use Rattle.sx_headers.proofs.HeaderAnswers.{bad_parts}
use Rattle.sx_headers.proofs.interface_file.state_interface.Goals as goal

pub returns-in-Ok-bad_header-clause-step : goal.returns-in-Ok-bad_header-clause-step
returns-in-Ok-bad_header-clause-step c =
    let file = c.args.file.now in
    let name = c.args.name.now in
    let stop = c.in-Ok-bad_header.stop in
    subst (λ (bytes : List ℕ). StatesParts file name bytes (Err stop)) c.deref.ensures.value
    (bad_parts file name c.deref.result.now stop c.in-Err.error c.in-Err.ensures.exact
    c.in-Err.ensures.refused c.in-Ok-bad_header.ensures)
