-- The terms at the places of a language's main form.
use Rattle.std.proofs.Common.{◌≡◌, ℕ, List, [], ◌∷◌, length, sym, ap, subst}
use Rattle.std.specs.Prelude.{Ok}
use Rattle.sx_term.specs.declared.role.Role.TheVariants.{In, Sub, Out}
use Rattle.sx_term.specs.declared.sort.Sort.{Sort}
use Rattle.sx_term.specs.declared.sort.Sort.TheVariants.{Plain, Typed}
use Rattle.sx_term.specs.Sorts.{HasSort}
use Rattle.sx_term.specs.Tree.{Tree}
use Rattle.sx_grammar.specs.Grammar.{of_sort}
use Rattle.sx_grammar.specs.Parts.{numbered}
use Rattle.sx_grammar.specs.Print.{Fits}
use Rattle.sx_grammar.specs.Told.{shapes_of}
use Rattle.sx_print.proofs.Sorting.{sorted_terms}
use Rattle.sx_rules.specs.Deep.{AreShallow}
use Rattle.sx_rules.specs.Good.{IsRuleSet}
use Rattle.sx_rules.specs.Modes.{Goal}
use Rattle.sx_rules.specs.Orders.{Entry}
use Rattle.sx_rules.specs.Views.{modes_of, places_at}
use Rattle.sx_notation.specs.Language.{LanguageData, IsMain}
use Rattle.sx_typing.specs.Outcomes.{nameless}
use Rattle.sx_rules.specs.Rules.{no_hypotheses}
use Rattle.sx_typing.specs.BodySource.{main_sort}
use Rattle.sx_typing.proofs.MainGoals.{main_goals_fit, main_goals_are_shallow}
use Rattle.sx_typing.proofs.MainSorts.{main_sort_is}
use Rattle.sx_typing.proofs.SortedGoals.{outputs_are_sorted}
use Rattle.sx_replay.specs.Replay.{IsReplayAnswer}
use Rattle.sx_verify.specs.Replays.{main_goal_in, IsTermOf, IsMainGoal}
use Rattle.sx_verify.proofs.Replayed.{replayed_shallow}

same_length : (n : ℕ) (t : Tree) (ts : List Tree) → ts ≡ t ∷ [] → length ts ≡ 1
same_length n t ts is = ap length is

module _ (d : LanguageData) (is : IsMain d.parts d.forms d.main) where
  output_is : main_sort d Out ≡ Plain is.signature
  output_is = main_sort_is d.forms d.main.form is.form Out (Plain is.signature) is.is is.output

  -- an output can be printed
  pub output_fits : (t : Tree) → IsTermOf d Out t →
      (sort : ℕ) × Fits (numbered d.parts) [] (of_sort sort) t
  output_fits t good = (
    is.signature,
    sorted_terms d.parts [] t (Plain is.signature)
        (subst (λ (s : Sort). HasSort (shapes_of d.parts) [] t s) output_is good.0),
  )

  pub goal_shallow : (goal : Goal) → IsMainGoal d goal → AreShallow goal.terms
  goal_shallow goal main =
      subst (λ (g : Goal). AreShallow g.terms) (sym main.is)
      (main_goals_are_shallow (places_at d.forms d.main.form) main.environment main.subject
      main.input.1 main.typed.1)

  -- what replaying gives is the one output
  pub only_one : (goal : Goal) → IsMainGoal d goal → IsRuleSet (shapes_of d.parts) d.forms d.rules →
      (list : List Entry) (outs : List Tree) →
      IsReplayAnswer (modes_of d.forms) (nameless d.rules) no_hypotheses goal list (Ok outs) →
      (t : Tree) × (outs ≡ t ∷ []) × IsTermOf d Out t
  only_one goal main set list outs answer =
      let shapes = shapes_of d.parts in
      let input = subst (λ (s : Sort). HasSort shapes [] main.environment s)
      (main_sort_is d.forms d.main.form is.form In (Plain is.environment) is.is is.input)
      main.input.0 in
      let typed = subst (λ (s : Sort). HasSort shapes [] main.subject s)
      (main_sort_is d.forms d.main.form is.form Sub (Typed is.subject) is.is is.typed)
      main.typed.0 in
      let fit = main_goals_fit shapes d.forms [] d.main.form is.form (Plain is.environment)
      (Typed is.subject) (Plain is.signature) main.environment main.subject
      is.is is.input is.typed is.output input typed in
      let here = subst (λ (g : Goal). IsReplayAnswer (modes_of d.forms) (nameless d.rules) no_hypotheses
      g list (Ok outs)) main.is answer in
      let front = here.front in
      let sorted = outputs_are_sorted shapes d.forms d.rules set []
      (main_goal_in d main.environment main.subject) (front.0, outs) fit.0 front.1 in
      let one = fit.2 outs sorted in
      let shallow = replayed_shallow (modes_of d.forms) (nameless d.rules)
      (main_goal_in d main.environment main.subject) list outs here in (
        one.0,
        one.1,
        (
          subst (λ (s : Sort). HasSort shapes [] one.0 s) (sym output_is) one.2,
          (subst (λ (ts : List Tree). AreShallow ts) one.1 shallow).0,
        ),
      )
