-- Extension rules without their bodies.
use Rattle.std.proofs.Common.{◌≡◌, arith, List, [], ◌∷◌, ◌++◌, map, length, refl, sym, ap, ◌∙◌}
use Rattle.sx_rules.specs.Rules.{Rule}
use Rattle.sx_rules.specs.declared.rule.Rule.{Rule as RuleOf}
use Rattle.sx_rules.specs.Views.{NamedRule, named, rule}
use Rattle.sx_rewrite.specs.declared.ext_rule.ExtRule.{ExtRule}
use Rattle.sx_rewrite.proofs.KeptAccepted.{bare-rules}

bare-of : (es : List ExtRule) → map (λ e. rule e.rule) es ≡ map (λ r. r.rule) (map (λ e. named e.rule) es)
bare-of [] = refl
bare-of (e ∷ es) = ap (λ (rs : List Rule). rule e.rule ∷ rs) (bare-of es)

pub bare-as : (rs : List RuleOf) (es : List ExtRule) → map named rs ≡ map (λ e. named e.rule) es → map rule rs ≡ map (λ e. rule e.rule) es
bare-as rs es h = bare-rules rs ∙ ap (map (λ (r : NamedRule). r.rule)) h ∙ sym (bare-of es)

append-rules : (xs ys : List NamedRule) → map (λ r. r.rule) (xs ++ ys) ≡ map (λ r. r.rule) xs ++ map (λ r. r.rule) ys
append-rules [] ys = refl
append-rules (x ∷ xs) ys = ap (λ (rs : List Rule). x.rule ∷ rs) (append-rules xs ys)

-- rules with those of an extension after them
pub grown-bare : (ns os : List RuleOf) (es : List ExtRule) → map named ns ≡ map named os ++ map (λ e. named e.rule) es → map rule ns ≡ map rule os ++ map (λ e. rule e.rule) es
grown-bare ns os es h =
    let a = sym (bare-rules os) in
    let b = sym (bare-of es) in
    bare-rules ns ∙ ap (map (λ (r : NamedRule). r.rule)) h ∙ append-rules (map named os) (map (λ e. named e.rule) es) ∙ (λ i. a i ++ b i)

pub rule-count : (es : List ExtRule) → length (map (λ e. rule e.rule) es) ≡ length es
rule-count [] = refl
rule-count (e ∷ es) = let n = rule-count es in omega (arith, n)
