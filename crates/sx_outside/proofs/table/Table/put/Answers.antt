use Rattle.std.proofs.Common.{ℕ, List, ap, ◌∙◌}
use Rattle.std.specs.Prelude.{string_bytes}
use Rattle.sx_outside.specs.Files.{put}
use Rattle.sx_outside.specs.Views.{files_of}
use Rattle.sx_outside.proofs.Puts.{files_in-put}
use Rattle.sx_outside.proofs.table.Table.put.Goals as goal

pub returns-clause-ok : goal.returns-clause-ok
returns-clause-ok c =
    files_in-put c.args.self.now.entries c.insert.new.self (string_bytes c.in_ok-key.key) c.args.bytes c.in_ok-insert.ensures.updates
    ∙ ap (λ (name : List ℕ). put (files_of c.args.self.now) name c.args.bytes.items) (c.in_ok-key.ensures.ok ∙ c.as_str.ensures)
