use Rattle.sx_core.proofs.ResolveLaws.{subjects_more, subjects_few}
use Rattle.sx_core.proofs.resolved.subject_count.Goals as goal

pub loop-i-preserved : goal.loop-i-preserved
loop-i-preserved c = record {
  is = subjects_more c.args.places.now c.loop-i.i _ c.loop-i.count c.one_if_subject-count.result c.loop-i-test.true c.loop-i.invariant.is c.one_if_subject-count.ensures;
  few = subjects_few c.loop-i.count c.one_if_subject-count.result c.loop-i.i _ c.loop-i.invariant.few c.one_if_subject-count.ensures;
}
