use Rattle.std.proofs.Common.{length}
use Rattle.sx_token.specs.Tokens.{pieces}
use Rattle.sx_token.proofs.CutLemmas.{CutBefore}
use Rattle.sx_token.proofs.cut.cut.Given as goal

abbrev pub invariant-loop-rest : goal.invariant-loop-rest
invariant-loop-rest l = CutBefore l.table.literals.now l.metas l.text (pieces l.out.items) l.rest

abbrev pub decreases-loop-rest : goal.decreases-loop-rest
decreases-loop-rest l = length l.rest
