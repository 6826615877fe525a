use Rattle.sx_accepting.proofs.Stating.{stated, stopped}
use Rattle.sx_accepting.proofs.read_language.state_language.Goals as goal

pub returns-in-Ok-clause-step : goal.returns-in-Ok-clause-step
returns-in-Ok-clause-step c =
    stated c.args.name.now c.args.bytes.now c.in-Ok.language c.digest.result c.in-Ok.ensures.stated
    c.in-Ok.ensures.fit c.digest.ensures

pub returns-in-Ok-bad_language-clause-step : goal.returns-in-Ok-bad_language-clause-step
returns-in-Ok-bad_language-clause-step c =
    stopped c.args.file.now c.args.name.now c.args.bytes.now c.in-Err.error
    c.in-Ok-bad_language.stop c.requires.file c.in-Err.ensures.refused
    c.in-Ok-bad_language.ensures
