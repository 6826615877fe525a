use Rattle.std.proofs.Common.{refl, ap, map, ◌∙◌}
use Rattle.sx_rules.specs.Views.{named}
use Rattle.sx_core.proofs.Wording.{map_last}
use Rattle.sx_core.proofs.reader.Reader.take_end.Goals as goal

pub returns-in-Ok : goal.returns-in-Ok
returns-in-Ok c = λ n. (c.in-Concluded.open, c.in-Concluded.conclusion, c.in-Concluded.is, refl, refl, ap (map named) c.in-Ok.ensures.items ∙ map_last named c.args.self.rules.items _)
