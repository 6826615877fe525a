use Rattle.sx_audit.proofs.Carrying.{refused-first}
use Rattle.sx_audit.proofs.showing.show.Goals as goal

pub returns-in_err-show_from : goal.returns-in_err-show_from
returns-in_err-show_from g c =
    refused-first _ _ _ _ _ c.from_residual.ensures.1 c.in_err-show_from.ensures
