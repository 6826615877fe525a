use Rattle.std.proofs.Common.{rules, arith}
use Rattle.sx_directives.proofs.SpellingLaws.{cut_at_sign, no_at-all}
use Rattle.sx_directives.proofs.sorts.split_level.Goals as goal

pub returns-then-b-eq64 : goal.returns-then-b-eq64
returns-then-b-eq64 c = cut_at_sign c.args.part.now c.loop-at.at _ _ _ c.loop-at.invariant (omega arith) (search rules) c.split_at.ensures.front c.split_at.ensures.back c.split_at-then-b-eq64.ensures.back

pub returns : goal.returns
returns c = no_at-all c.args.part.now (λ k lt. c.loop-at.invariant k (omega arith))
