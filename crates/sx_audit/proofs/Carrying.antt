-- Nodes that are shown before others.
use Rattle.std.proofs.Common.{◌≡◌, ℕ, ◌+◌, ◌^◌, ◌-◌, ◌≤◌, List, [], ◌++◌, length, Result, Ok, Err}
use Rattle.std.proofs.Common.{IsErrAnd, refl, sym, subst, arith}
use Rattle.sx_audit.specs.Meaning.{Node, Meaning}
use Rattle.sx_audit.specs.Shown.{IsShown, IsShownAfter}
use Rattle.sx_audit.specs.declared.show_error.ShowError.{ShowError}
use Rattle.sx_audit.proofs.ShownNodes.{after_nodes-on, after_nodes-stops, after_nodes-none, told-of}

-- what showing the rest now answers, showing all answers
pub record Carries (k : ℕ) (old : List Meaning) (ns : List Node) (j : ℕ) (now : List Meaning)
    (rest : List Node) : Type 0 where
  pub fits : j ≤ 2 ^ 64 - 1
  pub answers : (result : Result ℕ ShowError) (new : List Meaning) →
      IsShownAfter j now rest result new → IsShownAfter k old ns result new

-- at first all are left
pub carries-all : (k : ℕ) (old : List Meaning) (ns : List Node) → k ≤ 2 ^ 64 - 1 →
    Carries k old ns k old ns
carries-all k old ns h = record { fits = h; answers = λ result new s. s }

module _ (k j : ℕ) (old now : List Meaning) (ns rest : List Node)
    (c : Carries k old ns j now rest) where
  -- some of the rest are shown
  pub carries-on : (i : ℕ) (new : List Meaning) (a b : List Node) → rest ≡ a ++ b →
      IsShownAfter j now a (Ok i) new → Carries k old ns i new b
  carries-on i new a b e h = record {
    fits = let count = h.2 in omega (arith, count);
    answers = λ result after s.
        c.answers result after
        (subst (λ (xs : List Node). IsShownAfter j now xs result after) (sym e)
        (after_nodes-on j i now new after a b result h s));
  }

  -- one of the rest is refused
  pub carries-stop : (r : Result ℕ ShowError) (new : List Meaning) (a b : List Node)
      (e : ShowError) → IsErrAnd r (λ z. z ≡ e) → rest ≡ a ++ b →
      IsShownAfter j now a (Err e) new → IsShownAfter k old ns r new
  carries-stop (Ok i) new a b e is same h = absurd is
  carries-stop (Err z) new a b e is same h =
      subst (λ (w : ShowError). IsShownAfter k old ns (Err w) new) (sym is)
      (c.answers (Err e) new
      (subst (λ (xs : List Node). IsShownAfter j now xs (Err e) new) (sym same)
      (after_nodes-stops j now new a b e h)))

  -- none is left
  pub carries-end : rest ≡ [] → IsShownAfter k old ns (Ok j) now
  carries-end e =
      c.answers (Ok j) now
      (subst (λ (xs : List Node). IsShownAfter j now xs (Ok j) now) (sym e)
      (after_nodes-none j now c.fits))

-- what is refused where no nodes were shown before
pub refused-first : (old new : List Meaning) (ns : List Node) (r : Result (Unit {0}) ShowError)
    (e : ShowError) → IsErrAnd r (λ z. z ≡ e) → IsShownAfter 0 old ns (Err e) new →
    IsShown old ns r new
refused-first old new ns (Ok x) e is h = absurd is
refused-first old new ns (Err z) e is h =
    subst (λ (w : ShowError). IsShown old ns (Err w) new) (sym is) (
      h.0,
      told-of e h.0.one h.0.one (0 + length h.0.seen + 1) (length h.0.seen + 1) refl (omega arith)
          h.1,
    )
