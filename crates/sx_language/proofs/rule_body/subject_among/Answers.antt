use Rattle.std.proofs.Common.{◌∙◌, sym, arith}
use Rattle.sx_language.proofs.Subjects.{subject_here, subject_past}
use Rattle.sx_language.proofs.rule_body.subject_among.Goals as goal

pub returns-then-is_subject : goal.returns-then-is_subject
returns-then-is_subject c =
    subject_here c.args.places.now c.loop-i.i c.place_at-place.result (omega arith) c.place_at-place.ensures c.loop-i.invariant (sym c.is_subject.ensures ∙ c.if-is_subject.true)

pub loop-i-preserved : goal.loop-i-preserved
loop-i-preserved c =
    subject_past c.args.places.now c.loop-i.i c.place_at-place.result (omega arith) c.place_at-place.ensures c.loop-i.invariant (sym c.is_subject.ensures ∙ c.if-is_subject.false)
