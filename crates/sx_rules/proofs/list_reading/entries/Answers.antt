use Rattle.std.proofs.Common.{sym}
use Rattle.sx_lines.proofs.EachLaws.{goes_on, stops, is_done}
use Rattle.sx_rules.specs.Sets.{names_in}
use Rattle.sx_rules.specs.ListText.{entry_of}
use Rattle.sx_rules.proofs.list_reading.entries.Goals as goal

pub returns-in-None : goal.returns-in-None
returns-in-None c = stops (entry_of (names_in c.args.rules.now)) c.lines.list.items _ _ c.lines.invariant _ _ _ _ c.in-Ok.ensures.first (sym c.in-None.ensures)

pub lines-preserved : goal.lines-preserved
lines-preserved c =
    rw c.in_ok-push-in-Some.ensures.items
    (goes_on (entry_of (names_in c.args.rules.now)) c.lines.list.items _ _ c.lines.invariant _ _ _ _ c.in-Some.entry c.in-Ok.ensures.first (sym c.in-Some.ensures))

pub returns : goal.returns
returns c = is_done (entry_of (names_in c.args.rules.now)) c.lines.list.items _ _ c.lines.invariant _ c.in_default.ensures.first
