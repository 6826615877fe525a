use Rattle.std.proofs.Common.{◌≡◌, ℕ, ◌+◌, ◌-◌, ◌≤◌, List, length}
use Rattle.sx_rules.specs.Rules.{Judgement}
use Rattle.sx_rules.specs.SubjectTerms.{output_mask}
use Rattle.sx_arena.specs.Views.{rules_of, set_modes}
use Rattle.sx_derive.specs.Givens.{HasFacts}
use Rattle.sx_derive.specs.Passing.{ComeToNothing}
use Rattle.sx_derive.proofs.passing.pass_over.Given as goal

abbrev pub invariant-loop-left : goal.invariant-loop-left
invariant-loop-left l = record {
  places : output_mask l.places ≡ set_modes l.given.rules.now l.task.form;
  less : l.left ≤ l.initial.left;
  number : l.next ≡ l.task.next + (l.initial.left - l.left);
  within : (n : ℕ) → n ≡ length l.given.facts.now + length (rules_of l.given.rules.now) → l.task.next ≤ n → l.next ≤ n;
  nothing : (js : List Judgement) → HasFacts l.given l.store js → ComeToNothing (set_modes l.given.rules.now) (rules_of l.given.rules.now) l.given.pairs.now js l.store l.task l.task.next (l.initial.left - l.left);
}

abbrev pub decreases-loop-left : goal.decreases-loop-left
decreases-loop-left l = l.left
