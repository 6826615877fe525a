-- The rules and the forms of a rule set.
use Rattle.std.proofs.Common.{◌≡◌, ℕ, zero, suc, ◌<◌, List, [], ◌∷◌, map, length, Some, None, ap, arith}
use Rattle.std.specs.Prelude.{slice_get}
use Rattle.sx_rules.specs.declared.rule.Rule.{Rule as RuleOf}
use Rattle.sx_rules.specs.Views.{NamedRule, named}
use Rattle.sx_arena.specs.Views.{rule_of}

pub rule_found : (xs : List RuleOf) (i : ℕ) (r : RuleOf) → slice_get (map named xs) i ≡ Some (named r) → slice_get (map rule_of xs) i ≡ Some (rule_of r)
rule_found [] i r e = cc
rule_found (x ∷ xs) zero r e =
    let f : named x ≡ named r = cc in
    ap (λ (n : NamedRule). Some n.rule) f
rule_found (x ∷ xs) (suc i) r e = rule_found xs i r e

pub rule_missing : (xs : List RuleOf) (i : ℕ) → slice_get (map named xs) i ≡ None → i < length (map rule_of xs) → ⊥
rule_missing [] i e h = (let z = h in omega arith)
rule_missing (x ∷ xs) zero e h = cc
rule_missing (x ∷ xs) (suc i) e h = rule_missing xs i e (omega arith)
