use Rattle.std.proofs.Common.{refl, sym, ap, ◌∙◌}
use Rattle.std.proofs.lemmas.Bool.{false≢true}
use Rattle.sx_core.specs.Order.{phase_of}
use Rattle.sx_core.specs.declared.line_read.LineRead.TheVariants as read
use Rattle.sx_core.proofs.next_line.first_line.Goals as goal

pub returns-then-not-is_head : goal.returns-then-not-is_head
returns-then-not-is_head c = (refl, (ap phase_of c.requires, λ h. false≢true (sym c.if-not-is_head.true ∙ c.is_head.ensures.1 h)))

pub returns : goal.returns
returns c = (read.Head, (c.is_head.ensures.0 c.if-not-is_head.false, tt), (c.requires, refl, (refl, refl)))
