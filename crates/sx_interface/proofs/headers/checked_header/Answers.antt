use Rattle.std.proofs.Common.{◌∙◌}
use Rattle.sx_interface.proofs.HeaderLaws.{body_place}
use Rattle.sx_interface.proofs.headers.checked_header.Goals as goal

pub overflow_sub-body : goal.overflow_sub-body
overflow_sub-body c = (body_place c.args.name.now c.args.bytes.now _ c.in_ok-parts-in-Ok.ensures).0

pub returns-in-Ok-copy-clause-exact : goal.returns-in-Ok-copy-clause-exact
returns-in-Ok-copy-clause-exact c =
    let place = body_place c.args.name.now c.args.bytes.now _ c.in_ok-parts-in-Ok.ensures in
    rw (place.1, c.in-Ok-copy.ensures) c.in_ok-parts-in-Ok.ensures

pub returns-in-Err-clause-exact : goal.returns-in-Err-clause-exact
returns-in-Err-clause-exact c = (c.in-Err.ensures.cases.0, c.valid_up_to.ensures ∙ c.in-Err.ensures.valid_len)
