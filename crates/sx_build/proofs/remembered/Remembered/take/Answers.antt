use Rattle.sx_walking.proofs.Tables.{got_held}
use Rattle.sx_build.proofs.Recalled.{gone_held}
use Rattle.sx_build.proofs.remembered.Remembered.take.Goals as goal

pub returns-clause-value : goal.returns-clause-value
returns-clause-value c =
    got_held c.args.self.now.imports c.as_str.result.now c.args.name.now c.remove.result
    c.as_str.ensures c.remove.ensures.value

pub returns-clause-others : goal.returns-clause-others
returns-clause-others c =
    gone_held c.args.self.now.imports c.remove.new.self c.as_str.result.now c.args.name.now
    c.as_str.ensures c.remove.ensures.updates
