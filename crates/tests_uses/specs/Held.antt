-- A hypothesis of a test.
use Rattle.std.specs.Prelude.{◌≡◌, List, [], length, map}
use Rattle.std.specs.List.{AllByRecursion}
use Rattle.sx_term.specs.declared.term.Term.{Term}
use Rattle.sx_term.specs.Sorts.{Shape, HaveSorts}
use Rattle.sx_term.specs.Term.{tree}
use Rattle.sx_rules.specs.declared.rule.Hyps.{Hyps}
use Rattle.sx_rules.specs.declared.rule.Judgement.{Judgement}
use Rattle.sx_rules.specs.declared.rule.Place.{Place}
use Rattle.sx_rules.specs.declared.rule_set.RuleSet.{RuleSet}
use Rattle.sx_rules.specs.Sets.{forms_in, shapes_in}
use Rattle.sx_rules.specs.Views.{places_at}
use Rattle.sx_expand.specs.Readings.{AllSmall}

-- the terms have the sorts of the places, and none passes a limit
pub record FitPlaces (all : List Shape) (ps : List Place) (ts : List Term) : Type 0 where
  pub sorted : HaveSorts all [] (map tree ts) (map (λ p. p.sort) ps)
  pub small : AllSmall (map tree ts)

-- so it is of the terms of the judgement and the places of its form
abbrev pub FitsForm : RuleSet → Judgement → Type 0
FitsForm base j = FitPlaces (shapes_in base) (places_at (forms_in base) j.form) j.places.items

-- so it is of each hypothesis, of which there is one
pub record IsHypothesisHeld (base : RuleSet) (given : Hyps) : Type 0 where
  pub one : length given.holds.items ≡ 1
  pub apart : given.apart.items ≡ []
  pub each : AllByRecursion (FitsForm base) given.holds.items
