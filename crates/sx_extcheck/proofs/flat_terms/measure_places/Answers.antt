use Rattle.std.proofs.Common.{sym, ◌∙◌, arith}
use Rattle.sx_term.specs.Term.{tree}
use Rattle.sx_plain.specs.Views.{table_of}
use Rattle.sx_rewrite.specs.Rewriting.{first_over}
use Rattle.sx_rules.specs.SubjectTerms.{subject_mask}
use Rattle.sx_rewrite.proofs.PlainGood.{held-at}
use Rattle.sx_extcheck.specs.FlatTerms.{CanMeasure}
use Rattle.sx_extcheck.proofs.Measuring.{told, picked_from, picked-tell, picked-pass, picked-skip, picked-done}
use Rattle.sx_extcheck.proofs.flat_terms.measure_places.Goals.{then-is_subject-subjects+in_ok-measure_term, else-is_subject-subjects}
use Rattle.sx_extcheck.proofs.flat_terms.measure_places.Goals as goal

pub measure_term-requires : goal.measure_term-requires
measure_term-requires c = held-at (CanMeasure (table_of c.args.plain.now)) tree c.args.terms.now c.loop-i.i c.index-terms-i.result c.requires c.loop-i-test.true c.index-terms-i.is

pub returns-in_err-measure_term : goal.returns-in_err-measure_term
returns-in_err-measure_term c =
    told (first_over (picked_from (table_of c.args.plain.now) c.args.subjects (subject_mask c.args.places.now) c.args.terms.now 0)) c.from_residual.result _ c.from_residual.ensures.1
    (picked-tell (table_of c.args.plain.now) c.args.subjects (subject_mask c.args.places.now) c.args.terms.now c.loop-i.i c.loop-i.invariant c.index-terms-i.result c.loop-i-test.true c.index-terms-i.is
    (sym c.is_subject.ensures ∙ grind (arith, c.if-is_subject-subjects.true)) _ c.in_err-measure_term.ensures)

pub loop-i-preserved : goal.loop-i-preserved
loop-i-preserved c = elim c.if-is_subject-subjects.branch [
  | then-is_subject-subjects+in_ok-measure_term w ↦
      picked-pass (table_of c.args.plain.now) c.args.subjects (subject_mask c.args.places.now) c.args.terms.now c.loop-i.i c.loop-i.invariant w.index-terms-i.result c.loop-i-test.true w.index-terms-i.is
      (sym c.is_subject.ensures ∙ grind (arith, w.if-is_subject-subjects.true)) w.in_ok-measure_term.ensures.0
  | else-is_subject-subjects w ↦
      picked-skip (table_of c.args.plain.now) c.args.subjects (subject_mask c.args.places.now) c.args.terms.now c.loop-i.i c.loop-i.invariant c.loop-i-test.true (λ m. grind (arith, m, c.is_subject.ensures, w.if-is_subject-subjects.false))
]

pub returns : goal.returns
returns c = (picked-done (table_of c.args.plain.now) c.args.subjects (subject_mask c.args.places.now) c.args.terms.now c.loop-i.i c.loop-i.invariant c.loop-i-test.false, tt)
