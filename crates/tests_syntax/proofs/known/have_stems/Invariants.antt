use Rattle.std.proofs.Common.{drop}
use Rattle.sx_earley.specs.Tokens.{Stems}
use Rattle.sx_earley.specs.Unknown.{HaveStems}
use Rattle.tests_syntax.proofs.known.have_stems.Given as goal

abbrev pub invariant-loop-token : goal.invariant-loop-token
invariant-loop-token l = (stems : Stems) → HaveStems stems (drop l.token-index l.tokens) → HaveStems stems l.tokens
