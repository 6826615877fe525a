use Rattle.std.proofs.Common.{◌≡◌, [], ◌∷◌, Some, None, refl, arith}
use Rattle.sx_term.specs.Tree.{node, none}
use Rattle.sx_rules.specs.Modes.{IsModed}
use Rattle.sx_rules.specs.Derivations.{by, no_more, ◌⊳◌}
use Rattle.sx_derive.specs.Walk.{events, goal_events, limit_passed}
use Rattle.sx_derive.specs.Search.{walk, found, exhausted}
use Rattle.sx_derive.specs.Samples.{SampleIsFound, sample_goal, bind_in, outer, x_name, y_name}
use Rattle.sx_derive.specs.Samples.{int_type, str_type, sample_modes, sample_rules, here_rule}
use Rattle.sx_derive.specs.Samples.{there_rule, var_rule}
use Rattle.sx_rules.specs.Rules.{no_hypotheses}

here_moded : IsModed sample_modes here_rule
here_moded = (λ v h. grind (arith, h), λ v. (λ h. grind (arith, h), λ h. grind (arith, h)))

there_moded : IsModed sample_modes there_rule
there_moded = (λ v h. grind (arith, h), (λ v h. grind (arith, h), (λ v h. grind (arith, h), λ v. (λ h. grind (arith, h), λ h. grind (arith, h)))))

var_moded : IsModed sample_modes var_rule
var_moded = (λ v h. grind (arith, h), (λ v h. grind (arith, h), λ v. (λ h. grind (arith, h), λ h. grind (arith, h))))

sample_walk : walk None 100 (events sample_modes sample_rules no_hypotheses sample_goal 1) ≡ found (by 2 (bind_in outer y_name str_type ∷ x_name ∷ int_type ∷ []) (by 1 (outer ∷ x_name ∷ int_type ∷ y_name ∷ str_type ∷ []) (by 0 (node 0 none ∷ x_name ∷ int_type ∷ []) no_more ⊳ no_more) ⊳ no_more), int_type ∷ [])
unfolding events goal_events limit_passed
sample_walk = refl

sample_exhausted : walk (Some (str_type ∷ [])) 100 (events sample_modes sample_rules no_hypotheses sample_goal 1) ≡ exhausted
unfolding events goal_events limit_passed
sample_exhausted = refl

pub sample_is_found : SampleIsFound
sample_is_found = ((here_moded, (there_moded, (var_moded, tt))), sample_walk, sample_exhausted)
