use Rattle.sx_typing.specs.BodySource.{source_of}
use Rattle.sx_verify.proofs.body_reading.read_subject.Goals as goal

pub bad_body-requires : goal.bad_body-requires
bad_body-requires c =
    (source_of c.args.source.now, c.in-Err.ensures.refused 0, c.in-Err.ensures.none)

pub returns-in-Ok-bad_body-clause-step : goal.returns-in-Ok-bad_body-clause-step
returns-in-Ok-bad_body-clause-step c =
    (c.in-Err.error, c.in-Err.ensures.refused 0, c.in-Ok-bad_body.ensures)
