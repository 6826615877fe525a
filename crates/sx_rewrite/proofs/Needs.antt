-- Which kids are needed, by the size that is kept of a certificate.
use Rattle.std.proofs.Common.{◌≡◌, arith, ℕ, zero, suc, ◌+◌, ◌<◌, ◌≤◌, ◌⊎◌, inl, inr, ◌||◌, get_or, length, Bool, true, false, List, [], ◌∷◌, Option, Some, None, refl, sym, ◌∙◌, subst}
use Rattle.std.specs.Prelude.{nat_lt, option_map}
use Rattle.std.proofs.lemmas.Bool.{le-ltb, eqb-true}
use Rattle.sx_rules.specs.Derivations.{Proof, Proofs, by, given, no_more, ◌⊳◌}
use Rattle.sx_rewrite.specs.declared.given_use.GivenUse.{GivenUse}
use Rattle.sx_rewrite.specs.declared.certificate_size.CertificateSize.{CertificateSize}
use Rattle.sx_rewrite.specs.Accepted.{Checked}
use Rattle.sx_rewrite.specs.Used.{IsUsed, IsUsedAmong}
use Rattle.sx_rewrite.specs.Measured.{is_used, is_used_among}
use Rattle.sx_rewrite.specs.Sizes.{IsUseOf, AreUsesOf, IsSizeIn, UsesPremises}
use Rattle.sx_rewrite.specs.Needed.{needed}
use Rattle.sx_rewrite.proofs.SizeLaws.{use-stands}

either-true : (b c : Bool) → (b || c) ≡ true → (b ≡ true) ⊎ (c ≡ true)
either-true true c e = inl refl
either-true false c e = inr e

one-of : {P Q A B : Type 0} → P ⊎ Q → (P → A) → (Q → B) → A ⊎ B
one-of (inl x) f g = inl (f x)
one-of (inr y) f g = inr (g y)

mutual
  pub test-used : (i : ℕ) (p : Proof) → is_used i p ≡ true → IsUsed i p
  test-used i (by r binds kids) e = tests-used i kids e
  test-used i (given j) e = eqb-true i j e

  tests-used : (i : ℕ) (ps : Proofs) → is_used_among i ps ≡ true → IsUsedAmong i ps
  tests-used i no_more e = cc
  tests-used i (p ⊳ ps) e = one-of (either-true (is_used i p) (is_used_among i ps) e) (test-used i p) (tests-used i ps)

use-of : (i : ℕ) (p : Proof) (us : List GivenUse) (k : ℕ) (u : GivenUse) → AreUsesOf i p us → k < length us → u ≡ get_or us k u → IsUseOf (i + k) p u
use-of i p [] k u h l e = absurd (omega (arith, l))
use-of i p (x ∷ us) zero u h l e = let n : i ≡ i + zero = omega arith in subst (λ (y : GivenUse). IsUseOf (i + zero) p y) (sym e) (subst (λ (m : ℕ). IsUseOf m p x) n h.0)
use-of i p (x ∷ us) (suc k) u h l e =
    let n : i + 1 + k ≡ i + suc k = omega arith in
    subst (λ (m : ℕ). IsUseOf m p u) n (use-of (i + 1) p us k u h.1 (omega (arith, l)) e)

pub needed-kept : (o : Option Checked) (size : CertificateSize) (kid : ℕ) (u : GivenUse) → IsSizeIn o size → kid < length size.uses.items → u ≡ get_or size.uses.items kid u →
    nat_lt 0 u.times ≡ needed (option_map (λ c. c.proof) o) kid
needed-kept None size kid u h l e = absurd h
needed-kept (Some c) size kid u h l e = use-stands kid c.proof u (subst (λ (m : ℕ). IsUseOf m c.proof u) (let n : 0 + kid ≡ kid = omega arith in n) (use-of 0 c.proof size.uses.items kid u h.uses l e))

pub needed-past : (o : Option Checked) (size : CertificateSize) (kid : ℕ) → IsSizeIn o size → UsesPremises o → length size.uses.items ≤ kid → needed (option_map (λ c. c.proof) o) kid ≡ false
needed-past None size kid h only l = absurd h
needed-past (Some c) size kid h only l = go (is_used kid c.proof) refl
  where
    go : (b : Bool) → is_used kid c.proof ≡ b → b ≡ false
    go true e = let m = only kid (test-used kid c.proof e) in let n = h.many in absurd (omega (arith, l, m, n))
    go false e = refl

pub past-false : (n m : ℕ) (b : Bool) → m ≤ n → b ≡ false → nat_lt n m ≡ b
past-false n m b l e = le-ltb n m l ∙ sym e
