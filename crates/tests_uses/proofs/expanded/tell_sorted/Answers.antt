use Rattle.std.proofs.Common.{refl}
use Rattle.tests_uses.proofs.Compared.{one-counted, shown-sorted}
use Rattle.tests_uses.proofs.expanded.tell_sorted.Goals as goal

pub tell-requires-clause-one : goal.tell-requires-clause-one
tell-requires-clause-one g c =
    one-counted c.args.set.now c.base_rules.result.now c.base_rules.ensures c.args.asked.goal.now.form c.places_of-places.result.now c.places_of-places.ensures.places c.subject_count.result c.subject_count.ensures c.if-subject_count-gt1.false

pub tell-requires-clause-sorted : goal.tell-requires-clause-sorted
tell-requires-clause-sorted g c =
    shown-sorted c.args.set.now c.base_rules.result.now c.base_rules.ensures c.args.asked.goal.now.form c.places_of-places.result.now c.places_of-places.ensures.places c.rules.result.now c.rules.ensures c.shapes.result.now c.shapes.ensures
    c.args.asked.goal.now c.deref.result.now refl c.deref.ensures.value c.inputs_fit.result c.inputs_fit.ensures c.if-not-inputs_fit.false

pub tell_open-requires-clause-one : goal.tell_open-requires-clause-one
tell_open-requires-clause-one g c =
    one-counted c.args.set.now c.base_rules.result.now c.base_rules.ensures c.args.asked.goal.now.form c.places_of-places.result.now c.places_of-places.ensures.places c.subject_count.result c.subject_count.ensures c.if-subject_count-gt1.false

pub tell_open-requires-clause-sorted : goal.tell_open-requires-clause-sorted
tell_open-requires-clause-sorted g c =
    shown-sorted c.args.set.now c.base_rules.result.now c.base_rules.ensures c.args.asked.goal.now.form c.places_of-places.result.now c.places_of-places.ensures.places c.rules.result.now c.rules.ensures c.shapes.result.now c.shapes.ensures
    c.args.asked.goal.now c.deref.result.now refl c.deref.ensures.value c.inputs_fit.result c.inputs_fit.ensures c.if-not-inputs_fit.false
