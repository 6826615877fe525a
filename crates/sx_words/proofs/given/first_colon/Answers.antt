use Rattle.std.proofs.Common.{arith, rules}
use Rattle.sx_words.proofs.ColonLaws.{is_first_colon, no_colon-all}
use Rattle.sx_words.proofs.given.first_colon.Goals as goal

pub returns-then-b-eq58 : goal.returns-then-b-eq58
returns-then-b-eq58 c = is_first_colon c.args.text.now c.loop-at.at c.loop-at.invariant (omega arith) (search rules)

pub returns : goal.returns
returns c = no_colon-all c.args.text.now (λ k lt. c.loop-at.invariant k (omega arith))
