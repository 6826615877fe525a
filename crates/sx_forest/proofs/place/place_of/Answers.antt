use Rattle.std.proofs.Common.{ap, sym, ◌∙◌, drop, ◌+◌, arith}
use Rattle.std.proofs.lemmas.Grind.{common_steps}
use Rattle.sx_forest.specs.Readings.{plain_reading}
use Rattle.sx_forest.specs.Places.{place_at}
use Rattle.sx_forest.proofs.Placing.{bared, place_at-bared, place_at-leaf, place_at-past, place_at-kid}
use Rattle.sx_forest.proofs.place.place_of.Goals as goal

pub loop-step-init : goal.loop-step-init
loop-step-init c = record {
  is_bare = bared _ (plain_reading c.args.reading.now) c.unbracketed-here.ensures;
  place = place_at-bared _ (plain_reading c.args.reading.now) c.deref-step-items.result.now c.unbracketed-here.ensures ∙ ap (place_at (plain_reading c.args.reading.now)) c.deref-step-items.ensures.value;
}

pub returns-in-None : goal.returns-in-None
returns-in-None c = sym (place_at-past _ _ _ _ _ _ _ _ c.loop-step-test.true c.in-Node.is c.deref.ensures.value c.in-None.ensures.lookup.3) ∙ c.loop-step.invariant.place

pub returns-in_default : goal.returns-in_default
returns-in_default c = sym (place_at-leaf _ _ _ c.loop-step-test.true c.in_default.not-Node c.loop-step.invariant.is_bare) ∙ c.loop-step.invariant.place

pub loop-step-preserved : goal.loop-step-preserved
loop-step-preserved c = record {
  is_bare = bared _ (plain_reading c.in-Some.kid.now) c.unbracketed-here-in-Some.ensures;
  place = place_at-bared _ (plain_reading c.in-Some.kid.now) (drop (c.loop-step.step-index + 1) c.deref-step-items.result.now) c.unbracketed-here-in-Some.ensures
      ∙ sym (place_at-kid _ _ _ _ _ _ _ _ _ c.loop-step-test.true c.in-Node.is c.deref.ensures.value c.in-Some.ensures.lookup.3.0 c.in-Some.ensures.lookup.1) ∙ c.loop-step.invariant.place;
}

pub returns : goal.returns
returns c = grind (arith, common_steps)
