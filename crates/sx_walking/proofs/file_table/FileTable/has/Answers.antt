use Rattle.sx_walking.proofs.Tables.{is_held}
use Rattle.sx_walking.proofs.file_table.FileTable.has.Goals as goal

pub returns : goal.returns
returns g c =
    is_held c.args.self.now.files c.as_str.result.now c.args.name.now c.contains_key.result
    c.as_str.ensures c.contains_key.ensures
