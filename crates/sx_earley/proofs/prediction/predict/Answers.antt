use Rattle.std.proofs.Common.{◌<◌, length, take, arith}
use Rattle.sx_earley.specs.Shown.{tokens_of}
use Rattle.sx_earley.proofs.Closing.{empty_front}
use Rattle.sx_earley.proofs.Predicting.{progress_none, progress_at, progress_all, row_below}
use Rattle.sx_earley.proofs.prediction.predict.Goals as goal

pub loop-opening-init : goal.loop-opening-init
loop-opening-init c =
    progress_none c.args.given.grammar.now (tokens_of c.args.given.grammar.now c.args.given.shown.now) c.args.ask c.args.before (take 0 c.args.openings.now) c.args.found.now
    (empty_front c.args.openings.now)

pub loop-opening-preserved : goal.loop-opening-preserved
loop-opening-preserved c =
    let d = c.args.given.grammar.now in
    let row = c.args.openings.now in let k = c.loop-opening.opening-index in
    let low : k < length row = omega arith in
    progress_at d (tokens_of d c.args.given.shown.now) c.args.ask c.args.before row k c.args.found.now c.loop-opening.found c.predict_opening.new.found c.loop-opening.idle
    c.in_ok-idle.field-0 c.requires.openings low c.loop-opening.invariant c.in_ok-idle.ensures

pub returns : goal.returns
returns c =
    let d = c.args.given.grammar.now in
    progress_all d (tokens_of d c.args.given.shown.now) c.args.ask c.args.before c.args.openings.now c.loop-opening.opening-index c.args.found.now c.loop-opening.found c.loop-opening.idle
    c.requires.openings (omega arith) (omega arith) c.loop-opening.invariant

pub predict_opening-requires-clause-first : goal.predict_opening-requires-clause-first
predict_opening-requires-clause-first c =
    let low : c.loop-opening.opening-index < length c.args.openings.now = omega arith in
    row_below c.args.given.grammar.now (tokens_of c.args.given.grammar.now c.args.given.shown.now) c.args.ask c.args.before c.args.openings.now c.loop-opening.opening-index c.requires.openings low
