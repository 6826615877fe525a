use Rattle.sx_rules.specs.ProofView.{boxed}
use Rattle.sx_rules.specs.Sets.{forms_in, bare_rules_in}
use Rattle.sx_rules.specs.Views.{hypotheses, subjects_in}
use Rattle.sx_rewrite.specs.AcceptedView.{accepted}
use Rattle.sx_rewrite.specs.Stored.{certificate_at}
use Rattle.sx_rewrite.specs.Needed.{needed}
use Rattle.sx_rewrite.proofs.PutEach.{PutSoFar}
use Rattle.sx_rewrite.proofs.put_subjects.put_subjects.Given as goal

abbrev pub invariant-loop-from : goal.invariant-loop-from
invariant-loop-from l =
    PutSoFar (subjects_in (forms_in l.source.set.now.base)) (bare_rules_in l.source.set.now.base) (hypotheses l.source.given.now) (needed (certificate_at (accepted l.source.set.now) l.rule)) l.premises (boxed l.kids)
    l.from-index l.number l.initial.puts l.puts
