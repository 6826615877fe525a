-- A walk from one root leaves the root last.
use Rattle.sx_walking.proofs.Lasting.{reached_last}
use Rattle.sx_uses.specs.ExtensionFile.{used_names}
use Rattle.sx_uses.specs.ExtensionKind.{extension_name}
use Rattle.sx_uses.specs.ReadExtension.{ReadsExtension}
use Rattle.sx_uses.specs.Laws.{RootComesLast}
use Rattle.sx_uses.proofs.Coming.{read_named}

pub come_last : RootComesLast
come_last file language root files xs reads =
    reached_last extension_name used_names (ReadsExtension language files) (read_named language files) file
    root xs reads
