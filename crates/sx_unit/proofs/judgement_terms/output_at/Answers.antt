use Rattle.std.proofs.Common.{sym}
use Rattle.sx_rules.proofs.SubjectTerms.{subject_found, subject_later, subject_none}
use Rattle.sx_rules.specs.SubjectTerms.{output_mask}
use Rattle.sx_unit.proofs.judgement_terms.output_at.Goals as goal

pub returns-then-is_output : goal.returns-then-is_output
returns-then-is_output c =
    subject_found (output_mask c.args.places.now) c.args.terms.now c.loop-i.i c.loop-i.invariant
    c.index-terms-i.result c.loop-i-test.true c.index-terms-i.is (sym c.if-is_output.ensures)

pub loop-i-preserved : goal.loop-i-preserved
loop-i-preserved c =
    subject_later (output_mask c.args.places.now) c.args.terms.now c.loop-i.i c.loop-i.invariant
    c.loop-i-test.true (sym c.if-is_output.ensures)

pub returns : goal.returns
returns c = subject_none (output_mask c.args.places.now) c.args.terms.now c.loop-i.i
    c.loop-i.invariant c.loop-i-test.false
