use Rattle.std.proofs.Common.{◌∙◌, Some}
use Rattle.std.specs.Prelude.{string_bytes}
use Rattle.sx_imports.proofs.Moving.{updates_as}
use Rattle.sx_imports.proofs.state.mark.Goals as goal

pub returns : goal.returns
returns c = updates_as c.args.marks.now c.insert.new.self (string_bytes c.in_ok-key.key) c.args.name.now (Some c.args.is_left) (c.in_ok-key.ensures.ok ∙ c.as_str.ensures) c.in_ok-insert.ensures.updates
