use Rattle.std.proofs.Common.{refl}
use Rattle.sx_language.proofs.Stating.{line_refused}
use Rattle.sx_language.proofs.language_reading.read_language.Goals as goal

pub returns-in-Err-read_prepared-clause-refused : goal.returns-in-Err-read_prepared-clause-refused
returns-in-Err-read_prepared-clause-refused c =
    line_refused c.args.name.now c.args.bytes.now c.in-Ok.prepared c.in-Ok.ensures.prepared c.in-Ok.prepared.rules.items refl c.in-Err-read_prepared.error c.in-Err-read_prepared.ensures.refused
