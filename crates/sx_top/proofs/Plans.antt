-- The plan of `build --core` by its parts.
use Rattle.std.proofs.Common.{◌≡◌, ℕ, List, ◌∙◌}
use Rattle.sx_rules.specs.Derivations.{nodes_of}
use Rattle.sx_rules.specs.Orders.{order_of}
use Rattle.sx_rules.specs.First.{Answer}
use Rattle.sx_core.specs.Problem.{Problem}
use Rattle.sx_top.specs.CoreTexts.{subject_text, list_text, term_lines}
use Rattle.sx_steps.specs.Unit.{built_plan}
use Rattle.sx_steps.specs.Work.{Plan}
use Rattle.sx_top.specs.BuildCore.{core_plan}

-- the plan of an answer
pub plan_made : (name : List ℕ) (p : Problem) (answer : Answer) (plan : Plan) (base list interface : List ℕ) (nodes : ℕ) → plan ≡ built_plan name base list interface nodes → base ≡ subject_text p.forms p.goal → list ≡ list_text p.rules (order_of answer.0) → interface ≡ term_lines answer.1 → nodes ≡ nodes_of answer.0 → plan ≡ core_plan name p answer
unfolding core_plan
plan_made name p answer plan base list interface nodes is base_is list_is interface_is nodes_are = is ∙ (λ i. built_plan name (base_is i) (list_is i) (interface_is i) (nodes_are i))
