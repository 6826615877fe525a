use Rattle.std.proofs.Common.{ap}
use Rattle.sx_grammar.specs.Told.{shapes_of}
use Rattle.sx_unit.proofs.TypedAlone.{no_bodies}
use Rattle.sx_unit.proofs.base_writing.adds_no_rule.Goals as goal

pub returns-then-is_base_alone : goal.returns-then-is_base_alone
returns-then-is_base_alone c = λ is.
    let accepted = c.requires.is.accepted in
    record {
      rules = c.is_base_alone.ensures.yes c.if-is_base_alone.true;
      table = no_bodies _ _ _ accepted.desugars (ap shapes_of (c.adds_nothing.ensures is));
    }
