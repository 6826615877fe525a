use Rattle.std.proofs.Common.{subst, arith}
use Rattle.sx_interface.specs.InterfaceView.{interface_view}
use Rattle.sx_typing.specs.Unread.{IsUnreadText}
use Rattle.sx_typing.proofs.OneBody.{unread_within}
use Rattle.sx_environment.specs.Seen.{row_parts, row_sort, import_row_text}
use Rattle.sx_environment.proofs.Rows.{row_is_short}
use Rattle.sx_environment.proofs.row_reading.refusal.Goals as goal

pub overflow_add-result-in-Read : goal.overflow_add-result-in-Read
overflow_add-result-in-Read c =
    let it = interface_view c.args.import.now.interface.now in
    let s = c.requires.unread.0 in
    let p = row_parts s c.args.row in
    let text = import_row_text it c.args.row in
    let h = subst (IsUnreadText p (row_sort s) text) c.in-Read.is c.requires.unread.1 in
    let w = unread_within p (row_sort s) text h.0 c.in-Read.error h.1 h.2 in
    let short = row_is_short it c.args.row c.requires.short in
    omega (arith, w, short, c.unread_place.ensures)
