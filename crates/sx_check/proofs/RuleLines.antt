-- The lines of certificates, one after the other.
use Rattle.std.proofs.Common.{◌≡◌, arith, ℕ, suc, ◌+◌, ◌-◌, ◌<◌, List, ◌++◌, sym, ap, ◌∙◌}
use Rattle.std.proofs.lemmas.List.{append_assoc}
use Rattle.sx_check.specs.CheckText.{Shown, rule_line, rule_lines}

-- one rule more
pub one_rule : (s : Shown) (first count i : ℕ) (now new whole : List ℕ) → i < count → new ≡ now ++ rule_line s (first + i) → now ++ rule_lines s (first + i) (count - i) ≡ whole →
    new ++ rule_lines s (first + (i + 1)) (count - (i + 1)) ≡ whole
one_rule s first count i now new whole l e so =
    let many : count - i ≡ suc (count - (i + 1)) = omega (arith, l) in
    let next : suc (first + i) ≡ first + (i + 1) = omega arith in
    ap (λ (text : List ℕ). text ++ rule_lines s (first + (i + 1)) (count - (i + 1))) e
    ∙ append_assoc now (rule_line s (first + i)) (rule_lines s (first + (i + 1)) (count - (i + 1)))
    ∙ ap (λ (n : ℕ). now ++ (rule_line s (first + i) ++ rule_lines s n (count - (i + 1)))) (sym next)
    ∙ ap (λ (n : ℕ). now ++ rule_lines s (first + i) n) (sym many)
    ∙ so
