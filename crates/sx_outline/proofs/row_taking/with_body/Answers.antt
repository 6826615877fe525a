use Rattle.std.proofs.Common.{refl, ap}
use Rattle.std.specs.Prelude.{option_map}
use Rattle.sx_outline.specs.Stages.{numbered_rule_line, rule_data}
use Rattle.sx_outline.specs.Reading.{stage}
use Rattle.sx_outline.proofs.row_taking.with_body.Goals as goal

pub returns-in-None : goal.returns-in-None
returns-in-None c = (rule_data c.in-End.rule, ap stage c.in-End.is, ap (option_map numbered_rule_line) c.in-None.is, refl)
