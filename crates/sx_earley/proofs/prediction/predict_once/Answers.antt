use Rattle.std.proofs.Common.{sym, subst}
use Rattle.sx_earley.specs.Shown.{plain, tokens_of}
use Rattle.sx_earley.specs.Chart.{IsPredicted}
use Rattle.sx_earley.specs.Counted.{IsBusy, IsNewlyAsked}
use Rattle.sx_earley.specs.Openings.{HasOpenings}
use Rattle.sx_earley.proofs.Growth.{only_more}
use Rattle.sx_earley.proofs.Asking.{asks_none, asks_one, asked_more}
use Rattle.sx_earley.proofs.prediction.predict_once.Goals as goal

pub returns-then-is_reached-clause-asks : goal.returns-then-is_reached-clause-asks
returns-then-is_reached-clause-asks c =
    let d = c.args.given.grammar.now in
    asks_none (plain d) c.args.asked.now c.args.ask c.least-before.result c.least-before.ensures (tokens_of d c.args.given.shown.now) (c.is_reached.ensures.0 c.if-is_reached.true)

pub returns-clause-only : goal.returns-clause-only
returns-clause-only c =
    let d = c.args.given.grammar.now in let g = plain d in let ts = tokens_of d c.args.given.shown.now in let ask = c.args.ask in
    only_more c.args.found.now c.predict.new.found (IsBusy g ts (IsNewlyAsked g ask c.least-before.result)) (IsBusy g ts (IsPredicted g ask.sort ask.least ask.place))
    (λ i p. (p.0.0, p.1)) c.in_ok-idle.ensures.only

pub returns-clause-asked : goal.returns-clause-asked
returns-clause-asked c =
    let d = c.args.given.grammar.now in
    asked_more (plain d) c.args.asked.now c.args.ask c.least-before.result c.least-before.ensures (tokens_of d c.args.given.shown.now) c.push.new.self c.in_ok-push.ensures.ok
    c.args.found.now c.predict.new.found c.in_ok-idle.ensures.extends c.requires.asked c.in_ok-idle.ensures.every

pub returns-clause-asks : goal.returns-clause-asks
returns-clause-asks c =
    let d = c.args.given.grammar.now in
    asks_one (plain d) c.args.asked.now c.args.ask c.least-before.result c.least-before.ensures (tokens_of d c.args.given.shown.now) c.push.new.self c.in_ok-push.ensures.ok
    c.in_ok-idle.idle c.in_ok-idle.ensures.small c.in_ok-idle.ensures.idle

pub predict-requires-clause-openings : goal.predict-requires-clause-openings
predict-requires-clause-openings c = subst (HasOpenings c.args.given.grammar.now c.args.ask.sort) (sym c.row-row.ensures) (c.requires.openings c.args.ask.sort)
