use Rattle.std.specs.Option.{option_copied}
use Rattle.sx_walking.proofs.Tables.{got_held}
use Rattle.sx_walking.proofs.file_table.FileTable.get.Goals as goal

pub returns : goal.returns
returns g c =
    got_held c.args.self.now.files c.as_str.result.now c.args.name.now
    (option_copied c.get.result) c.as_str.ensures c.get.ensures.value
