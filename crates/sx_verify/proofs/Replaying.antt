-- Replaying by the rules of a language.
use Rattle.std.proofs.Common.{◌≡◌, ℕ, List, [], ◌∷◌, map, length, Vec, sym, ap, ◌∙◌, subst}
use Rattle.std.specs.Prelude.{Result, Ok, Err}
use Rattle.std.specs.Global.{Global}
use Rattle.std.proofs.lemmas.List.{length-map}
use Rattle.sx_term.specs.declared.role.Role.TheVariants.{Out}
use Rattle.sx_term.specs.declared.term.Term.{Term}
use Rattle.sx_term.specs.Term.{tree}
use Rattle.sx_term.specs.Sorts.{Shape}
use Rattle.sx_term.specs.Tree.{Tree}
use Rattle.sx_rules.specs.declared.entry.Entry.{Entry as EntryOf}
use Rattle.sx_rules.specs.declared.rule_set.RuleSet.{RuleSet}
use Rattle.sx_rules.specs.Good.{IsRuleSet}
use Rattle.sx_rules.specs.Modes.{Goal}
use Rattle.sx_rules.specs.Orders.{Entry}
use Rattle.sx_rules.specs.Rules.{Rule, Hypotheses}
use Rattle.sx_rules.specs.Sets.{shapes_in, forms_in, rules_in}
use Rattle.sx_rules.specs.Views.{modes_of}
use Rattle.sx_arena.specs.Views.{rules_of}
use Rattle.sx_notation.specs.declared.language.Language.{Language}
use Rattle.sx_notation.specs.Language.{IsLanguage, LanguageData, language_data}
use Rattle.sx_typing.specs.Outcomes.{nameless}
use Rattle.sx_rules.specs.Rules.{no_hypotheses}
use Rattle.sx_typing.proofs.MainGoals.{bare_is}
use Rattle.sx_replay.specs.declared.replay_error.ReplayError.{ReplayError}
use Rattle.sx_replay.specs.Replay.{IsReplayAnswer}
use Rattle.sx_steps.specs.declared.step_error.StepError.{StepError}
use Rattle.sx_steps.specs.declared.step_error.StepError.TheVariants as errors
use Rattle.sx_steps.specs.Stop.{Gives}
use Rattle.sx_verify.specs.Replays.{IsTermOf, IsMainGoal, ReplaysGoal, ReplaysMainGoal}
use Rattle.sx_verify.proofs.MainTerms.{only_one}

-- by the plain rules of the set, without hypotheses
abbrev pub Plainly : RuleSet → Goal → List Entry → Result (List Tree) ReplayError → Type 0
Plainly set goal list answer =
    IsReplayAnswer (modes_of (forms_in set)) (nameless (rules_in set)) no_hypotheses goal list answer

module _ (set : RuleSet) (goal : Goal) (list : List Entry) where
  -- by these rules, from these hypotheses
  abbrev By : List Rule → Hypotheses → Result (List Tree) ReplayError → Type 0
  By rules hyps answer = IsReplayAnswer (modes_of (forms_in set)) rules hyps goal list answer

  pub plainly : (hyps : Hypotheses) (answer : Result (List Tree) ReplayError) →
      hyps ≡ no_hypotheses → By (rules_of set) hyps answer → Plainly set goal list answer
  plainly hyps answer none h =
      subst (λ (rules : List Rule). By rules no_hypotheses answer) (sym (bare_is set))
      (subst (λ (x : Hypotheses). By (rules_of set) x answer) none h)

module _ (l : Language) (goal : Goal) (list : List Entry) where
  module _ (is : IsLanguage l) (main : IsMainGoal (language_data l) goal)
      (set : IsRuleSet (shapes_in l.rules) (forms_in l.rules) (rules_in l.rules)) where
    one_answer : (outs : List Tree) → Plainly l.rules goal list (Ok outs) →
        (t : Tree) × (outs ≡ t ∷ []) × IsTermOf (language_data l) Out t
    one_answer outs h =
        only_one (language_data l) is.main goal main
        (subst (λ (ss : List Shape). IsRuleSet ss (forms_in l.rules) (rules_in l.rules)) is.shapes
        set) list outs h

    pub only_output : (outputs : Vec Term Global) →
        Plainly l.rules goal list (Ok (map tree outputs.items)) → length outputs.items ≡ 1
    only_output outputs h =
        let one = one_answer (map tree outputs.items) h in
        sym (length-map outputs.items tree) ∙ ap length one.1

    same_head : (t u : Tree) → t ∷ [] ≡ u ∷ [] → t ≡ u
    same_head t u e = cc

    pub output_good : (outputs : Vec Term Global) (t : Term) → outputs.items ≡ t ∷ [] →
        Plainly l.rules goal list (Ok (map tree outputs.items)) →
        IsTermOf (language_data l) Out (tree t)
    output_good outputs t is_one h =
        let one = one_answer (map tree outputs.items) h in
        subst (λ (x : Tree). IsTermOf (language_data l) Out x)
        (sym (same_head (tree t) one.0 (ap (map tree) (sym is_one) ∙ one.1))) one.2

  pub output_given : (outputs : Vec Term Global) (t : Term) → outputs.items ≡ t ∷ [] →
      Plainly l.rules goal list (Ok (map tree outputs.items)) →
      Plainly l.rules goal list (Ok (tree t ∷ []))
  output_given outputs t is_one h =
      subst (λ (ts : List Term). Plainly l.rules goal list (Ok (map tree ts))) is_one h

-- a stop of the replay is one of the step
pub stop_given : (file : List ℕ) (d : LanguageData) (goal : Goal) (list : List EntryOf)
    (e : StepError) → Gives (λ (outputs : Vec Term Global). map tree outputs.items)
    (ReplaysGoal file d.forms d.rules goal list) (Err e) → Gives tree (ReplaysMainGoal file d goal list)
    (Err e)
stop_given file d goal list errors.Memory h = tt
stop_given file d goal list (errors.Stopped stop) h = h
