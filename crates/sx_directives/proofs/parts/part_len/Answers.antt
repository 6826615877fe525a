use Rattle.std.proofs.Common.{rules, arith}
use Rattle.sx_directives.proofs.PartLaws.{part_end, part_whole}
use Rattle.sx_directives.proofs.parts.part_len.Goals as goal

pub returns-then-is_blank : goal.returns-then-is_blank
returns-then-is_blank c = part_end c.args.text.now c.loop-at.at c.loop-at.invariant (omega arith) (search rules)

pub returns : goal.returns
returns c = part_whole c.args.text.now (λ k lt. c.loop-at.invariant k (omega arith))
