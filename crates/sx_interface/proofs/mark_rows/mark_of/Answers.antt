use Rattle.std.proofs.Common.{sym}
use Rattle.sx_interface.proofs.MarkLaws.{mark_good, mark_unnamed, mark_undigested}
use Rattle.sx_interface.proofs.mark_rows.mark_of.Goals as goal

pub returns-then-not-is_name-clause-value : goal.returns-then-not-is_name-clause-value
returns-then-not-is_name-clause-value c = mark_unnamed c.args.text.now _ _ c.split_word.ensures.first c.split_word.ensures.rest _ c.in-Some.ensures.value (sym c.if-not-is_name.ensures)

pub returns-else-not-is_name-clause-value : goal.returns-else-not-is_name-clause-value
returns-else-not-is_name-clause-value c = mark_good c.args.text.now _ _ c.split_word.ensures.first c.split_word.ensures.rest _ c.in-Some.ensures.value (sym c.if-not-is_name.ensures)

pub returns-in-None-clause-value : goal.returns-in-None-clause-value
returns-in-None-clause-value c = mark_undigested c.args.text.now _ _ c.split_word.ensures.first c.split_word.ensures.rest c.in-None.ensures.value
