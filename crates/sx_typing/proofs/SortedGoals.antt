-- Sorts of outputs, and sorts and paths of stuck goals.
use Rattle.std.proofs.Common.{ℕ, List}
use Rattle.sx_rules.specs.Modes.{Goal}
use Rattle.sx_stuck.proofs.StuckGoals.{outputs_sorted_from, stuck_in}
use Rattle.sx_typing.specs.Outcomes.{OutputsAreSorted, LeadsToPart, StuckGoalsFit}
use Rattle.sx_rules.specs.Rules.{no_hypotheses}
use Rattle.sx_typing.proofs.Ways.{premise_leads}

pub outputs_are_sorted : OutputsAreSorted
outputs_are_sorted shapes forms rules set vars goal a sorted d =
    outputs_sorted_from shapes forms rules set no_hypotheses vars tt goal a sorted d

pub stuck_goals_fit : StuckGoalsFit
stuck_goals_fit shapes forms rules set vars top levels goal form path blame is sorted leads s =
    let b =
    stuck_in shapes forms vars rules set no_hypotheses tt
    (λ (g : Goal) (way : List ℕ). LeadsToPart forms top way g)
    (λ put rule g way j before of_form terms only here. premise_leads forms put top rule g way j
    before of_form terms only here)
    levels goal path blame (record { form = form; is = is; sorted = sorted; leads = leads }) s in
    record { form = b.0.form; is = b.0.is; sorted = b.0.sorted; got = b.0.got; leads = b.1 }
