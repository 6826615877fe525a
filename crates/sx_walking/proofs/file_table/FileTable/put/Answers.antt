use Rattle.std.proofs.Common.{◌∙◌}
use Rattle.std.specs.Prelude.{string_bytes}
use Rattle.sx_walking.proofs.Tables.{put_held}
use Rattle.sx_walking.proofs.file_table.FileTable.put.Goals as goal

pub returns : goal.returns
returns g c =
    put_held c.args.self.now.files c.insert.new.self (string_bytes c.in_ok-key.key) c.args.name.now
    c.args.file (c.in_ok-key.ensures.ok ∙ c.as_str.ensures) c.in_ok-insert.ensures.updates
