use Rattle.std.proofs.Common.{refl}
use Rattle.sx_words.specs.declared.print_defect.PrintDefect.TheVariants.{Bytes}
use Rattle.sx_unit.specs.declared.print_check.PrintRefusal.TheVariants.{Defect}
use Rattle.sx_unit.proofs.known_reading.check_known.Goals as goal

pub returns-then-size-gt-MOST_BYTES-clause-refused : goal.returns-then-size-gt-MOST_BYTES-clause-refused
returns-then-size-gt-MOST_BYTES-clause-refused c = λ d shown t.
    (Defect (Bytes c.args.size), refl, (c.if-size-gt-MOST_BYTES.true, refl))
