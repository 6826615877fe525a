use Rattle.std.proofs.Common.{ℕ, List, length, subst, sym}
use Rattle.sx_arena.specs.Arena.{trees, AreBelow}
use Rattle.sx_arena.specs.Views.{rules_of, set_modes}
use Rattle.sx_replay.specs.Reader.{IsReplayResumed}
use Rattle.sx_replay.proofs.Handed.{popped, popped_reader, pairs_here, handing_more, fewer_wait, handed_stop}
use Rattle.sx_replay.proofs.handing.hand_on.Goals as goal
use Rattle.sx_replay.proofs.handing.hand_on.Goals.{In_ok-other}

-- what came of the outputs at the rule that waits
waiting_resumed : (c : In_ok-other) → IsReplayResumed (set_modes c.args.given.now.rules.now) (rules_of c.args.given.now.rules.now) c.args.given.now.pairs.now (popped c.loop-waiting.reader c.pop.new.self c.cut.new.self c.keep.new.arena) c.resume.new.reader c.in-Some.waiting c.in_ok-outputs.outputs.items c.in_ok-other.other
waiting_resumed c = subst (λ (os : List ℕ). IsReplayResumed (set_modes c.args.given.now.rules.now) (rules_of c.args.given.now.rules.now) c.args.given.now.pairs.now (popped c.loop-waiting.reader c.pop.new.self c.cut.new.self c.keep.new.arena) c.resume.new.reader c.in-Some.waiting os c.in_ok-other.other) c.deref.ensures.value c.in_ok-other.ensures

pub keep-requires-clause-numbers : goal.keep-requires-clause-numbers
keep-requires-clause-numbers c = c.loop-waiting.invariant.below

pub resume-requires-clause-reader : goal.resume-requires-clause-reader
resume-requires-clause-reader c =
    (popped_reader (rules_of c.args.given.now.rules.now) c.loop-waiting.reader c.pop.new.self c.in-Some.waiting c.cut.new.self c.keep.new.arena c.loop-waiting.outputs.items c.in_ok-outputs.outputs.items
    c.loop-waiting.invariant.grows.reader c.in-Some.ensures.items (record { items = c.cut.ensures.items; binds = c.cut.ensures.binds }) c.in_ok-outputs.ensures).0

pub resume-requires-clause-waits : goal.resume-requires-clause-waits
resume-requires-clause-waits c =
    (popped_reader (rules_of c.args.given.now.rules.now) c.loop-waiting.reader c.pop.new.self c.in-Some.waiting c.cut.new.self c.keep.new.arena c.loop-waiting.outputs.items c.in_ok-outputs.outputs.items
    c.loop-waiting.invariant.grows.reader c.in-Some.ensures.items (record { items = c.cut.ensures.items; binds = c.cut.ensures.binds }) c.in_ok-outputs.ensures).1

pub resume-requires-clause-pairs : goal.resume-requires-clause-pairs
resume-requires-clause-pairs c =
    let m = set_modes c.args.given.now.rules.now in
    let rs = rules_of c.args.given.now.rules.now in
    pairs_here m rs c.args.given.now.pairs.now c.args.reader.now c.loop-waiting.reader c.loop-waiting.reader c.args.outputs.items c.loop-waiting.outputs.items c.in_ok-outputs.outputs.items c.pop.new.self c.in-Some.waiting c.cut.new.self c.keep.new.arena (record { items = c.cut.ensures.items; binds = c.cut.ensures.binds })
    c.requires.pairs c.loop-waiting.invariant c.in-Some.ensures.items c.in_ok-outputs.ensures

pub resume-requires-clause-outputs : goal.resume-requires-clause-outputs
resume-requires-clause-outputs c = subst (λ (os : List ℕ). AreBelow (length (trees c.keep.new.arena)) os) (sym c.deref.ensures.value) c.in_ok-outputs.ensures.within

pub loop-waiting-smaller : goal.loop-waiting-smaller
loop-waiting-smaller c =
    let m = set_modes c.args.given.now.rules.now in
    let rs = rules_of c.args.given.now.rules.now in
    let h = waiting_resumed (goal.at.loop-waiting-smaller c).In_ok-other in
    let r = rw c.in-Done.is at h in
    fewer_wait m rs c.args.given.now.pairs.now c.args.reader.now c.loop-waiting.reader c.resume.new.reader c.args.outputs.items c.loop-waiting.outputs.items c.in_ok-outputs.outputs.items c.pop.new.self c.in-Some.waiting c.cut.new.self c.keep.new.arena (record { items = c.cut.ensures.items; binds = c.cut.ensures.binds })
    c.requires.pairs c.loop-waiting.invariant c.in-Some.ensures.items c.in_ok-outputs.ensures c.in-Done.made r

pub loop-waiting-preserved : goal.loop-waiting-preserved
loop-waiting-preserved c =
    let m = set_modes c.args.given.now.rules.now in
    let rs = rules_of c.args.given.now.rules.now in
    let h = waiting_resumed (goal.at.loop-waiting-preserved c).In_ok-other in
    let r = rw c.in-Done.is at h in
    handing_more m rs c.args.given.now.pairs.now c.args.reader.now c.loop-waiting.reader c.resume.new.reader c.args.outputs.items c.loop-waiting.outputs.items c.in_ok-outputs.outputs.items c.pop.new.self c.in-Some.waiting c.cut.new.self c.keep.new.arena (record { items = c.cut.ensures.items; binds = c.cut.ensures.binds })
    c.requires.pairs c.loop-waiting.invariant c.in-Some.ensures.items c.in_ok-outputs.ensures c.in-Done.made r

pub returns-in_default-2 : goal.returns-in_default-2
returns-in_default-2 c =
    let m = set_modes c.args.given.now.rules.now in
    let rs = rules_of c.args.given.now.rules.now in
    handed_stop m rs c.args.given.now.pairs.now c.args.reader.now c.loop-waiting.reader c.resume.new.reader c.args.outputs.items c.loop-waiting.outputs.items c.in_ok-outputs.outputs.items c.pop.new.self c.in-Some.waiting c.cut.new.self c.keep.new.arena (record { items = c.cut.ensures.items; binds = c.cut.ensures.binds })
    c.requires.pairs c.loop-waiting.invariant c.in-Some.ensures.items c.in_ok-outputs.ensures
    c.in_ok-other.other (λ o e. c.in_default-2.not-Done o e) (waiting_resumed (goal.at.returns-in_default-2 c).In_ok-other)
