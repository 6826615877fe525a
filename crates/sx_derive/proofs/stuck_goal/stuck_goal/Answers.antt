use Rattle.std.proofs.Common.{◌≡◌, ℕ, List, [], length, ap, arith, subst}
use Rattle.std.proofs.lemmas.List.{length-map}
use Rattle.sx_rules.specs.Views.{goal as goal_of, hypotheses}
use Rattle.sx_arena.specs.Views.{rules_of, set_modes, judgement_of}
use Rattle.sx_arena.proofs.Patterns.{ok_weaker}
use Rattle.sx_derive.specs.Blames.{blame_of}
use Rattle.sx_derive.specs.Store.{store_trees}
use Rattle.sx_derive.specs.Stuck.{IsStuck}
use Rattle.sx_derive.specs.Ways.{subject_modes}
use Rattle.sx_derive.proofs.Sunk.{events_quiet, problem_quiet, problem_stuck}
use Rattle.sx_derive.proofs.Tasked.{facts_length}
use Rattle.sx_derive.proofs.stuck_goal.stuck_goal.Goals as goal

pub stuck_below-blame-requires-clause-few : goal.stuck_below-blame-requires-clause-few
stuck_below-blame-requires-clause-few c =
    let m = set_modes c.args.rules.now in
    let p = c.in_ok-problem.problem in
    let h = c.in_ok-problem.ensures in
    let a = facts_length m (store_trees p.store) (hypotheses c.args.given.now).judgements p.facts.items h.facts in
    let b = length-map c.args.given.now.holds.items judgement_of in
    let d = ap length c.deref.ensures.value in
    let f = c.requires.few in
    omega arith

pub stuck_below-blame-requires-clause-quiet : goal.stuck_below-blame-requires-clause-quiet
stuck_below-blame-requires-clause-quiet c =
    let m = set_modes c.args.rules.now in
    let rs = rules_of c.args.rules.now in
    let hy = hypotheses c.args.given.now in
    problem_quiet m rs hy c.args.goal.now.form (goal_of c.args.goal.now).terms _ c.in_ok-problem.problem c.in_ok-problem.ensures c.deref.result.now c.deref-2.result.now c.deref.ensures.value c.deref-2.ensures.value
    c.args.budget 3000 c.args.notes.items (events_quiet m rs hy c.args.budget (goal_of c.args.goal.now) c.requires.quiet) c.requires.notes

pub returns : goal.returns
returns c =
    let m = set_modes c.args.rules.now in
    let rs = rules_of c.args.rules.now in
    let hy = hypotheses c.args.given.now in
    let e : c.new.result.items ≡ [] = c.new.ensures.items in
    ok_weaker _ _ (λ b s. subst (λ (path : List ℕ). IsStuck m (subject_modes c.args.rules.now) rs hy 3000 (goal_of c.args.goal.now) path (blame_of b)) e
    (problem_stuck m rs hy c.args.goal.now.form (goal_of c.args.goal.now).terms _ c.in_ok-problem.problem c.in_ok-problem.ensures c.deref.result.now c.deref-2.result.now c.deref.ensures.value c.deref-2.ensures.value
    (subject_modes c.args.rules.now) 3000 c.new.result.items (blame_of b) s)) c.stuck_below-blame.result c.stuck_below-blame.ensures
