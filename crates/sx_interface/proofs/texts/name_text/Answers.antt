use Rattle.std.proofs.Common.{false}
use Rattle.sx_lines.proofs.Utf8Laws.{name_utf8}
use Rattle.sx_interface.proofs.texts.name_text.Goals as goal

pub of_utf8-requires : goal.of_utf8-requires
of_utf8-requires c = name_utf8 false c.args.name.now c.requires
