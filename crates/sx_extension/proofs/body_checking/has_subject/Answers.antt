use Rattle.sx_rules.specs.Views.{forms, places_at}
use Rattle.std.specs.Prelude.{true, false}
use Rattle.sx_extension.proofs.Subjected.{subject_here, subject_on, no_subject, told}
use Rattle.sx_extension.proofs.body_checking.has_subject.Goals as goal

pub returns-then-is_subject : goal.returns-then-is_subject
returns-then-is_subject c =
    let places = c.places_of-places.result.now in
    told true places (places_at (forms c.args.forms.now) c.args.form) c.places_of-places.ensures
    (subject_here places c.loop-i.i c.is_subject.result c.loop-i-test.true c.is_subject.ensures c.if-is_subject.true c.loop-i.invariant)

pub loop-i-preserved : goal.loop-i-preserved
loop-i-preserved c =
    subject_on c.places_of-places.result.now c.loop-i.i c.is_subject.result c.loop-i-test.true c.is_subject.ensures c.if-is_subject.false c.loop-i.invariant

pub returns : goal.returns
returns c =
    let places = c.places_of-places.result.now in
    told false places (places_at (forms c.args.forms.now) c.args.form) c.places_of-places.ensures
    (no_subject places c.loop-i.i c.loop-i-test.false c.loop-i.invariant)
