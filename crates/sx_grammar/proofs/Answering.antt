use Rattle.std.proofs.Common.{◌≡◌, ℕ, ◌≤◌, List, refl, sym, ap, ◌⊎◌, inl, inr, arith, ◌∙◌}
use Rattle.sx_grammar.specs.Grammar.{Grammar, Token}
use Rattle.sx_grammar.specs.Reading.{Reading, reading_depth}
use Rattle.sx_grammar.specs.Tally.{IsGreatest}
use Rattle.sx_grammar.specs.declared.item.Item.{Item}
use Rattle.sx_grammar.specs.ReadOne.{Holds, IsGreatestEnd, only, too_hard, no_reading, too_deep, ambiguous, AnswersAgree}

greatest_end_same : {g : Grammar} {tokens : List Token} {start a b : ℕ} → IsGreatestEnd g tokens start a → IsGreatestEnd g tokens start b → a ≤ b
greatest_end_same {g = g} {tokens = tokens} {start = start} {a = a} {b = b} h k = low h.some
  where
    low : ((i : Item) × Holds g tokens start i × (i.end ≡ a)) ⊎ (((i : Item) → Holds g tokens start i → ⊥) × (a ≡ 0)) → a ≤ b
    low (inl i) = let l = k.bound i.0 i.1 in omega (arith, i.2)
    low (inr i) = omega (arith, i.1)

greatest_same : {P : Reading → Type 0} {depth : Reading → ℕ} {d e : ℕ} → IsGreatest P depth d → IsGreatest P depth e → d ≡ e
greatest_same h k = let a = h.bound k.deepest k.holds in let b = k.bound h.deepest h.holds in omega (arith, h.is, k.is)

pub answers_agree : AnswersAgree
answers_agree g tokens start too_hard too_hard h k = refl
answers_agree g tokens start too_hard (only r) h k = absurd (k.0 h)
answers_agree g tokens start too_hard (no_reading r) h k = absurd (k.0 h)
answers_agree g tokens start too_hard (too_deep r) h k = absurd (k.0 h)
answers_agree g tokens start too_hard (ambiguous r s) h k = absurd (k.0 h)
answers_agree g tokens start (only r) too_hard h k = absurd (h.0 k)
answers_agree g tokens start (only r) (only s) h k = ap only (k.1.1 r h.1.0)
answers_agree g tokens start (only r) (no_reading e) h k = absurd (k.1 r h.1.0)
answers_agree g tokens start (only r) (too_deep d) h k =
    let same : k.2.deepest ≡ r = h.1.1 k.2.deepest k.2.holds in
    let is : reading_depth r ≡ d = ap reading_depth (sym same) ∙ k.2.is in absurd (omega (arith, h.2, k.1))
answers_agree g tokens start (only r) (ambiguous s t) h k = absurd (k.4 (h.1.1 s k.2 ∙ sym (h.1.1 t k.3)))
answers_agree g tokens start (no_reading e) too_hard h k = absurd (h.0 k)
answers_agree g tokens start (no_reading e) (only r) h k = absurd (h.1 r k.1.0)
answers_agree g tokens start (no_reading e) (no_reading f) h k =
    let a = greatest_end_same h.2 k.2 in let b = greatest_end_same k.2 h.2 in
    let same : e ≡ f = omega arith in ap no_reading same
answers_agree g tokens start (no_reading e) (too_deep d) h k = absurd (h.1 k.2.deepest k.2.holds)
answers_agree g tokens start (no_reading e) (ambiguous s t) h k = absurd (h.1 s k.2)
answers_agree g tokens start (too_deep d) too_hard h k = absurd (h.0 k)
answers_agree g tokens start (too_deep d) (only r) h k =
    let same : h.2.deepest ≡ r = k.1.1 h.2.deepest h.2.holds in
    let is : reading_depth r ≡ d = ap reading_depth (sym same) ∙ h.2.is in absurd (omega (arith, k.2, h.1))
answers_agree g tokens start (too_deep d) (no_reading e) h k = absurd (k.1 h.2.deepest h.2.holds)
answers_agree g tokens start (too_deep d) (too_deep e) h k = ap too_deep (greatest_same h.2 k.2)
answers_agree g tokens start (too_deep d) (ambiguous s t) h k = let low = k.1 h.2.deepest h.2.holds in absurd (omega (arith, h.2.is, h.1))
answers_agree g tokens start (ambiguous r s) too_hard h k = absurd (h.0 k)
answers_agree g tokens start (ambiguous r s) (only t) h k = absurd (h.4 (k.1.1 r h.2 ∙ sym (k.1.1 s h.3)))
answers_agree g tokens start (ambiguous r s) (no_reading e) h k = absurd (k.1 r h.2)
answers_agree g tokens start (ambiguous r s) (too_deep d) h k = let low = h.1 k.2.deepest k.2.holds in absurd (omega (arith, k.2.is, k.1))
answers_agree g tokens start (ambiguous r s) (ambiguous t u) h k = tt
