use Rattle.std.proofs.Common.{ℕ, List, length}
use Rattle.sx_rules.specs.Rules.{Judgement}
use Rattle.sx_derive.specs.Store.{store_trees}
use Rattle.sx_derive.specs.Tasks.{WantedBelow}
use Rattle.sx_derive.specs.Walk.{Event, Answer}
use Rattle.sx_derive.specs.Walked.{HasComeTo}
use Rattle.sx_derive.specs.declared.store.Store.{Store}
use Rattle.sx_derive.proofs.Walking.{HasGone, tries_on}
use Rattle.sx_derive.proofs.walk.go_on.Given as goal

abbrev pub invariant-loop-store : goal.invariant-loop-store
invariant-loop-store l = record {
  gone : (first : Store) (js : List Judgement) (budget : ℕ) (es : List (Event Answer)) → WantedBelow (length (store_trees first)) l.wanted →
      HasComeTo l.given first l.initial.store js budget l.initial.tries es l.initial.tasks.items l.initial.ending → HasGone l.given first l.store js l.wanted budget l.tries es l.tasks.items l.ending;
}

abbrev pub decreases-loop-store : goal.decreases-loop-store
decreases-loop-store l = tries_on l.ending l.tries
