use Rattle.std.proofs.Common.{sym, ◌∙◌}
use Rattle.sx_outline.proofs.LineLaws.{blank_off, all_off, front_found}
use Rattle.sx_outline.proofs.kept.is_dropped.Goals as goal

pub loop-at-preserved : goal.loop-at-preserved
loop-at-preserved c = blank_off c.args.text.now c.loop-at.at c.loop-at-test.true (sym c.is_blank.ensures ∙ c.if-not-is_blank.false) c.loop-at.invariant

pub returns-then-not-is_blank : goal.returns-then-not-is_blank
returns-then-not-is_blank c =
    front_found c.args.text.now c.split_at.result.1.now c.loop-at.at c.after.result c.is_some.result c.loop-at-test.true (sym c.is_blank.ensures ∙ c.if-not-is_blank.true) c.loop-at.invariant c.split_at.ensures.back c.after.ensures c.is_some.ensures

pub returns : goal.returns
returns c = sym (all_off c.args.text.now c.loop-at.at c.loop-at-test.false c.loop-at.invariant)
