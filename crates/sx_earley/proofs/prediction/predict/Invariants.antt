use Rattle.std.proofs.Common.{take}
use Rattle.sx_earley.specs.Shown.{tokens_of}
use Rattle.sx_earley.proofs.Predicting.{Progress}
use Rattle.sx_earley.proofs.prediction.predict.Given as goal

abbrev pub invariant-loop-opening : goal.invariant-loop-opening
invariant-loop-opening l = Progress l.given.grammar.now (tokens_of l.given.grammar.now l.given.shown.now) l.ask l.before
    (take l.opening-index l.openings) l.opening-index l.fn.found l.found l.idle
