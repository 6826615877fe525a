use Rattle.std.proofs.lemmas.Option.{slice_get_within}
use Rattle.sx_grammar.proofs.Settling.{goes_first, goes_more, goes_last, fewer_wait, taken_sound, taken_waits, taken_place}
use Rattle.sx_grammar.proofs.follow.release.Goals as goal

pub loop-waiting-init : goal.loop-waiting-init
loop-waiting-init c = goes_first c.args.rules.now c.args.progress.now c.requires.sound

pub settle-requires-clause-index : goal.settle-requires-clause-index
settle-requires-clause-index c =
    let rules = c.args.rules.now in
    let waits = taken_waits rules c.loop-waiting.progress c.take_waiting.new.progress c.args.number c.in-Some.waiting c.loop-waiting.invariant.sound c.in-Some.ensures in
    slice_get_within rules c.in-Some.waiting.rule waits.0 waits.1

pub settle-requires-clause-sound : goal.settle-requires-clause-sound
settle-requires-clause-sound c = taken_sound c.args.rules.now c.loop-waiting.progress c.take_waiting.new.progress c.args.number c.in-Some.waiting c.loop-waiting.invariant.sound c.in-Some.ensures

pub settle-requires-clause-place : goal.settle-requires-clause-place
settle-requires-clause-place c = taken_place c.args.rules.now c.loop-waiting.progress c.take_waiting.new.progress c.args.number c.in-Some.waiting c.loop-waiting.invariant.sound c.in-Some.ensures

pub loop-waiting-preserved : goal.loop-waiting-preserved
loop-waiting-preserved c =
    goes_more c.args.rules.now c.args.progress.now c.loop-waiting.progress c.take_waiting.new.progress c.settle.new.progress c.args.number c.in-Some.waiting c.requires.ranked c.loop-waiting.invariant c.in-Some.ensures c.in_ok-settle.ensures

pub loop-waiting-smaller : goal.loop-waiting-smaller
loop-waiting-smaller c =
    fewer_wait c.args.rules.now c.args.progress.now c.loop-waiting.progress c.take_waiting.new.progress c.settle.new.progress c.args.number c.in-Some.waiting c.requires.ranked c.loop-waiting.invariant c.in-Some.ensures c.in_ok-settle.ensures

pub returns-clause-goes : goal.returns-clause-goes
returns-clause-goes c = goes_last c.args.rules.now c.args.progress.now c.loop-waiting.progress c.take_waiting.new.progress c.args.number c.loop-waiting.invariant c.in_default.ensures
