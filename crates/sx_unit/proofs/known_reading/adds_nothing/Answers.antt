use Rattle.std.proofs.lemmas.Bool.{eqb-true}
use Rattle.sx_typing.specs.Dialects.{dialect_of}
use Rattle.sx_unit.proofs.KnownTexts.{same_parts}
use Rattle.sx_unit.proofs.known_reading.adds_nothing.Goals as goal

pub returns : goal.returns
returns c = λ is. same_parts (dialect_of c.args.dialect.now) c.requires.is
    c.productions-own.result.now c.productions-all.result.now c.productions-own.ensures.same
    c.productions-all.ensures.same (eqb-true _ _ is)
