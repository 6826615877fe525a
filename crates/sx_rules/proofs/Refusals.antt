-- Rules are refused in one way.
use Rattle.std.proofs.Common.{◌≡◌, ◌≢◌, ℕ, ◌<◌, ◌≤◌, List, [], ◌∷◌, ◌++◌, ◌⊎◌, inl, inr, length, refl, sym, ◌∙◌, arith}
use Rattle.sx_term.specs.Sorts.{Shape}
use Rattle.sx_rules.specs.declared.error.RuleError.{RuleError}
use Rattle.sx_rules.specs.declared.error.RuleError.TheVariants.{Memory, TooManyRules, TooManyVars}
use Rattle.sx_rules.specs.declared.error.RuleError.TheVariants.{SameRule, SortDiffers, Discipline}
use Rattle.sx_rules.specs.declared.error.RuleError.TheVariants.{NotModed}
use Rattle.sx_rules.specs.Views.{FormData, NamedRule}
use Rattle.sx_rules.specs.Good.{AllGood, IsFirstBreach, IsRuleSetRefused}
use Rattle.sx_rules.specs.Laws.{RuleSetsAreNotRefused, OneRefusalIsDue, GoodRulesAreModed}
use Rattle.sx_rules.proofs.SetLaws.{good_no_breach, breach_one}

module _ (S : List Shape) (F : List FormData) where
  one_breach : (names : List (List ℕ)) (rs : List NamedRule) (e g : RuleError) → IsFirstBreach S F names rs e → IsFirstBreach S F names rs g → e ≡ g
  one_breach names [] e g h k = absurd h
  one_breach names (r ∷ rs) e g (inl h) (inl k) = breach_one S F names r e g h k
  one_breach names (r ∷ rs) e g (inl h) (inr k) = absurd (good_no_breach S F names r e k.0 h)
  one_breach names (r ∷ rs) e g (inr h) (inl k) = absurd (good_no_breach S F names r g h.0 k)
  one_breach names (r ∷ rs) e g (inr h) (inr k) = one_breach (names ++ r.name ∷ []) rs e g h.1 k.1

  no_breach : (names : List (List ℕ)) (rs : List NamedRule) (e : RuleError) → AllGood S F names rs → IsFirstBreach S F names rs e → ⊥
  no_breach names [] e h k = k
  no_breach names (r ∷ rs) e h (inl k) = good_no_breach S F names r e h.0 k
  no_breach names (r ∷ rs) e h (inr k) = no_breach (names ++ r.name ∷ []) rs e h.1 k.1

  -- too many rules, or else the first breach
  abbrev Due : List NamedRule → RuleError → Type 0
  Due rs e = (e ≡ Memory) ⊎ ((e ≡ TooManyRules) × (4096 < length rs)) ⊎ ((length rs ≤ 4096) × IsFirstBreach S F [] rs e)

  due : (rs : List NamedRule) (e : RuleError) → IsRuleSetRefused S F rs e → Due rs e
  due rs Memory h = inl refl
  due rs TooManyRules h = inr (inl (refl, h))
  due rs (TooManyVars n) h = inr (inr h)
  due rs (SameRule n) h = inr (inr h)
  due rs (SortDiffers n) h = inr (inr h)
  due rs (Discipline n p q) h = inr (inr h)
  due rs (NotModed n v) h = inr (inr h)

  over : (rs : List NamedRule) → 4096 < length rs → length rs ≤ 4096 → ⊥
  over rs h k = omega (arith, h, k)

  one_due : (rs : List NamedRule) (e g : RuleError) → Due rs e → Due rs g → e ≢ Memory → g ≢ Memory → e ≡ g
  one_due rs e g (inl h) k n m = absurd (n h)
  one_due rs e g (inr h) (inl k) n m = absurd (m k)
  one_due rs e g (inr (inl h)) (inr (inl k)) n m = h.0 ∙ sym k.0
  one_due rs e g (inr (inl h)) (inr (inr k)) n m = absurd (over rs h.1 k.0)
  one_due rs e g (inr (inr h)) (inr (inl k)) n m = absurd (over rs k.1 h.0)
  one_due rs e g (inr (inr h)) (inr (inr k)) n m = one_breach [] rs e g h.1 k.1

  none_due : (rs : List NamedRule) (e : RuleError) → length rs ≤ 4096 → AllGood S F [] rs → Due rs e → e ≡ Memory
  none_due rs e few good (inl h) = h
  none_due rs e few good (inr (inl h)) = absurd (over rs h.1 few)
  none_due rs e few good (inr (inr h)) = absurd (no_breach [] rs e good h.1)

pub one_refusal : OneRefusalIsDue
one_refusal S F rs e g h k n m = one_due S F rs e g (due S F rs e h) (due S F rs g k) n m

pub not_refused : RuleSetsAreNotRefused
not_refused S F rs e h k = none_due S F rs e h.0 h.1 (due S F rs e k)

pub good_moded : GoodRulesAreModed
good_moded S F names [] h = tt
good_moded S F names (r ∷ rs) h = (h.0.moded, good_moded S F (names ++ r.name ∷ []) rs h.1)
