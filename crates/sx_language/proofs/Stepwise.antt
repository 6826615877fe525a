-- Refusals that come one after another.
use Rattle.std.proofs.Common.{◌⊎◌, inl, inr}

module _ {E : Type 0} (R : E → E → Type 0) where
  -- two of these are alike
  abbrev pub AreAlike : (E → Type 0) → Type 0
  AreAlike P = (e d : E) → P e → P d → R e d

-- the first refusal, or what is to hold without it and a later one
abbrev pub Step : {E : Type 0} → (E → Type 0) → Type 0 → (E → Type 0) → E → Type 0
Step P N Q e = P e ⊎ (N × Q e)

module _ {E : Type 0} (P : E → Type 0) (N : Type 0) (Q : E → Type 0) (not : (e : E) → P e → N → ⊥) where
  -- two refusals in order are alike where those of each step are
  pub step_alike : (R : E → E → Type 0) → AreAlike R P → AreAlike R Q → AreAlike R (Step P N Q)
  step_alike R first later e d (inl h) (inl k) = first e d h k
  step_alike R first later e d (inl h) (inr k) = absurd (not e h k.0)
  step_alike R first later e d (inr h) (inl k) = absurd (not d k h.0)
  step_alike R first later e d (inr h) (inr k) = later e d h.1 k.1

  -- none is due where none is due at each step
  pub step_none : N → ((e : E) → Q e → ⊥) → (e : E) → Step P N Q e → ⊥
  step_none given none e (inl h) = not e h given
  step_none given none e (inr h) = none e h.1
