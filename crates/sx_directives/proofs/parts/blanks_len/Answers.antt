use Rattle.std.proofs.Common.{rules, arith}
use Rattle.sx_directives.proofs.PartLaws.{blank_front, blank_all}
use Rattle.sx_directives.proofs.parts.blanks_len.Goals as goal

pub returns-then-not-is_blank : goal.returns-then-not-is_blank
returns-then-not-is_blank c = blank_front c.args.text.now c.loop-at.at c.loop-at.invariant (omega arith) (search rules)

pub returns : goal.returns
returns c = blank_all c.args.text.now (λ k lt. c.loop-at.invariant k (omega arith))
