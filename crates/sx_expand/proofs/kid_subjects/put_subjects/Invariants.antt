use Rattle.sx_rules.specs.Sets.{forms_in, bare_rules_in}
use Rattle.sx_rules.specs.Views.{subjects_in}
use Rattle.sx_arena.specs.Arena.{trees}
use Rattle.sx_rewrite.specs.AcceptedView.{accepted}
use Rattle.sx_rewrite.specs.Stored.{certificate_at}
use Rattle.sx_rewrite.specs.Needed.{needed}
use Rattle.sx_expand.proofs.KidsPut.{KidsSoFar}
use Rattle.sx_expand.proofs.kid_subjects.put_subjects.Given as goal

abbrev pub invariant-loop-from : goal.invariant-loop-from
invariant-loop-from l =
    KidsSoFar (subjects_in (forms_in l.set.base)) (bare_rules_in l.set.base) (needed (certificate_at (accepted l.set) l.rule)) (trees l.arena) l.premises l.subjects l.from-index l.number l.initial.puts l.puts
