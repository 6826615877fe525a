use Rattle.std.proofs.Common.{[]}
use Rattle.sx_audit.proofs.Carrying.{refused-first}
use Rattle.sx_audit.proofs.ListNodes.{list-stands}
use Rattle.sx_audit.proofs.listed.show_list.Goals as goal

pub show_at-requires : goal.show_at-requires
show_at-requires g c = (c.requires.0, [], list-stands _ _ c.requires.0 c.requires.1)

pub returns-in_err-show_at : goal.returns-in_err-show_at
returns-in_err-show_at g c p is =
    refused-first _ _ _ _ _ c.from_residual.ensures.1
    (c.in_err-show_at.ensures.shown p [] (list-stands _ _ p is))

pub returns : goal.returns
returns g c p is =
    let s = c.in_ok-show_at.ensures.shown p [] (list-stands _ _ p is) in (s.0, s.1)
