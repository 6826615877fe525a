use Rattle.std.proofs.Common.{arith, rules}
use Rattle.sx_core.proofs.Wording.{word_end, word_end_all}
use Rattle.sx_core.proofs.words.word_len.Goals as goal

pub returns-then-b-eq32 : goal.returns-then-b-eq32
returns-then-b-eq32 c = word_end c.args.text.now c.loop-at.at c.loop-at.invariant (omega arith) (search rules)

pub returns : goal.returns
returns c = word_end_all c.args.text.now (λ k lt. c.loop-at.invariant k (omega arith))
