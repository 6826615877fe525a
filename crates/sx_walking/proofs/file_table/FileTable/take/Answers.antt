use Rattle.sx_walking.proofs.Tables.{got_held, taken_others}
use Rattle.sx_walking.proofs.file_table.FileTable.take.Goals as goal

pub returns-clause-value : goal.returns-clause-value
returns-clause-value g c =
    got_held c.args.self.now.files c.as_str.result.now c.args.name.now c.remove.result
    c.as_str.ensures c.remove.ensures.value

pub returns-clause-others : goal.returns-clause-others
returns-clause-others g c =
    taken_others c.args.self.now.files c.remove.new.self c.as_str.result.now c.args.name.now
    c.as_str.ensures c.remove.ensures.updates
