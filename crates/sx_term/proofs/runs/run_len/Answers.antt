use Rattle.std.proofs.Common.{rules}
use Rattle.std.proofs.lemmas.Fn.{always_returns_same}
use Rattle.sx_term.specs.Run.{passes}
use Rattle.sx_term.proofs.RunLemmas.{found}
use Rattle.sx_term.proofs.runs.run_len.Goals as goal

pub returns-clause-run : goal.returns-clause-run
returns-clause-run c = found (passes c.args.run) _ c.args.text.now c.find.result c.unwrap_or.result (always_returns_same _ _ _ (λ a r g called. search rules)) c.find.ensures.cases c.unwrap_or.ensures
