-- The rules of a set, with their names and without.
use Rattle.std.proofs.Common.{◌≡◌, ℕ, List, [], ◌∷◌, map, refl, ap}
use Rattle.sx_rules.specs.declared.rule.Rule.{Rule as RuleOf}
use Rattle.sx_rules.specs.Good.{names_of}
use Rattle.sx_rules.specs.Rules.{Rule}
use Rattle.sx_rules.specs.Views.{named, rule as rule_of}

-- the names of the rules of a set are those of its plain rules
pub names_are : (rs : List RuleOf) → map (λ r. r.name) (map named rs) ≡ names_of rs
names_are [] = refl
names_are (r ∷ rs) = ap (λ (names : List (List ℕ)). r.name ∷ names) (names_are rs)

-- so are the rules themselves
pub bare_rules : (rs : List RuleOf) → map rule_of rs ≡ map (λ r. r.rule) (map named rs)
bare_rules [] = refl
bare_rules (r ∷ rs) = ap (λ (others : List Rule). rule_of r ∷ others) (bare_rules rs)
