use Rattle.std.proofs.Common.{subst}
use Rattle.sx_arena.specs.Views.{rules_of, set_modes}
use Rattle.sx_derive.specs.Handing.{IsResumed}
use Rattle.sx_derive.specs.declared.step.Step.TheVariants.{Done}
use Rattle.sx_arena.proofs.Growing.{extends-length}
use Rattle.sx_arena.proofs.Parted.{pairs_more_terms}
use Rattle.sx_derive.proofs.Handed.{FrameRead, frame_read, handing_more, handed_stop, handed_done}
use Rattle.sx_derive.proofs.handing.hand_on.Goals as goal
use Rattle.sx_derive.proofs.handing.hand_on.Goals.{After-index-frame}

-- what the frame at hand reads as
read_frame : (c : After-index-frame) → FrameRead (set_modes c.args.given.now.rules.now) (rules_of c.args.given.now.rules.now) c.loop-store.store c.loop-store.waiting c.index-frame.result.now
read_frame c =
    frame_read (set_modes c.args.given.now.rules.now) (rules_of c.args.given.now.rules.now) c.loop-store.store c.loop-store.invariant.grows.store c.loop-store.waiting c.index-frame.result.now c.loop-store-test.true c.loop-store.invariant.within c.index-frame.ensures

pub resume-requires-clause-pairs : goal.resume-requires-clause-pairs
resume-requires-clause-pairs c = pairs_more_terms _ _ (extends-length _ _ c.loop-store.invariant.grows.trees) _ c.requires.pairs

pub resume-requires-clause-frame : goal.resume-requires-clause-frame
resume-requires-clause-frame c =
    let r = read_frame (goal.at.resume-requires-clause-frame c).After-index-frame in
    r.waits

pub loop-store-smaller : goal.loop-store-smaller
loop-store-smaller c =
    let r = read_frame (goal.at.loop-store-smaller c).After-index-frame in
    r.before

pub loop-store-preserved : goal.loop-store-preserved
loop-store-preserved c =
    let r = read_frame (goal.at.loop-store-preserved c).After-index-frame in
    let m = subst (IsResumed (set_modes c.args.given.now.rules.now) (rules_of c.args.given.now.rules.now) c.args.given.now.pairs.now c.loop-store.store c.resume.new.store c.index-frame.result.now c.loop-store.head c.deref.result.now) c.in-Done.is c.in_ok-other.ensures in
    handing_more (set_modes c.args.given.now.rules.now) (rules_of c.args.given.now.rules.now) c.args.given.now.pairs.now c.args.store.now c.loop-store.store c.resume.new.store c.args.frames c.args.head c.args.outputs.items c.loop-store.waiting c.loop-store.head c.loop-store.outputs.items c.index-frame.result.now
    c.requires.pairs c.loop-store.invariant r c.in-Done.next c.in-Done.made
    (subst (λ outs. IsResumed (set_modes c.args.given.now.rules.now) (rules_of c.args.given.now.rules.now) c.args.given.now.pairs.now c.loop-store.store c.resume.new.store c.index-frame.result.now c.loop-store.head outs (Done c.in-Done.next c.in-Done.made)) c.deref.ensures.value m)

pub returns-in_default : goal.returns-in_default
returns-in_default c =
    let r = read_frame (goal.at.returns-in_default c).After-index-frame in
    handed_stop (set_modes c.args.given.now.rules.now) (rules_of c.args.given.now.rules.now) c.args.given.now.pairs.now c.args.store.now c.loop-store.store c.resume.new.store c.args.frames c.args.head c.args.outputs.items c.loop-store.waiting c.loop-store.head c.loop-store.outputs.items c.index-frame.result.now
    c.requires.pairs c.loop-store.invariant r c.in_ok-other.other (λ h o e. c.in_default.not-Done h o e)
    (subst (λ outs. IsResumed (set_modes c.args.given.now.rules.now) (rules_of c.args.given.now.rules.now) c.args.given.now.pairs.now c.loop-store.store c.resume.new.store c.index-frame.result.now c.loop-store.head outs c.in_ok-other.other) c.deref.ensures.value c.in_ok-other.ensures)

pub returns : goal.returns
returns c =
    handed_done (set_modes c.args.given.now.rules.now) (rules_of c.args.given.now.rules.now) c.args.given.now.pairs.now c.args.store.now c.loop-store.store c.args.frames c.args.head c.args.outputs.items c.loop-store.waiting c.loop-store.head c.loop-store.outputs c.loop-store.invariant c.loop-store-test.false
