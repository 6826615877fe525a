-- Whether a form has a subject.
use Rattle.std.proofs.Common.{◌≡◌, ℕ, zero, suc, ◌+◌, ◌<◌, ◌≤◌, ◌↔◌, IsTrue, Bool, true, false, List, [], ◌∷◌, map, drop, length, get_or, Some, if◌then◌else◌, is_some, refl, sym, ap, ◌∙◌, arith}
use Rattle.std.specs.Prelude.{option_map, IsSome}
use Rattle.std.specs.List.{find}
use Rattle.sx_rules.specs.declared.rule.Place.{Place}
use Rattle.sx_rules.specs.Views.{is_sub}

-- a subject stands among the places
abbrev pub subjected : List Place → Bool
subjected places = is_some (option_map (λ p. p.sort) (find (λ p. is_sub p.role) places))

test_at : (places : List Place) (i : ℕ) (b : Bool) → i < length places → b ≡ get_or (map (λ p. is_sub p.role) places) i false →
    (x : Place) × (drop i places ≡ x ∷ drop (suc i) places) × (is_sub x.role ≡ b)
test_at [] i b h e = absurd (omega arith)
test_at (p ∷ ps) zero b h e = (p, refl, sym e)
test_at (p ∷ ps) (suc i) b h e = test_at ps i b (omega (arith, h)) e

one_more : (i : ℕ) → suc i ≡ i + 1
one_more i = omega arith

next_of : (places : List Place) (i : ℕ) (x : Place) → drop i places ≡ x ∷ drop (suc i) places → drop i places ≡ x ∷ drop (i + 1) places
next_of places i x e = e ∙ ap (λ (n : ℕ). x ∷ drop n places) (one_more i)

test_true : (x : Place) (rest : List Place) → is_sub x.role ≡ true → subjected (x ∷ rest) ≡ true
test_true x rest e = ap (λ (b : Bool). is_some (option_map (λ (p : Place). p.sort) (if b then Some x else find (λ p. is_sub p.role) rest))) e

test_false : (x : Place) (rest : List Place) → is_sub x.role ≡ false → subjected (x ∷ rest) ≡ subjected rest
test_false x rest e = ap (λ (b : Bool). is_some (option_map (λ (p : Place). p.sort) (if b then Some x else find (λ p. is_sub p.role) rest))) e

module _ (places : List Place) (i : ℕ) where
  pub subject_here : (b : Bool) → i < length places → b ≡ get_or (map (λ p. is_sub p.role) places) i false → b ≡ true → subjected (drop i places) ≡ subjected places → subjected places ≡ true
  subject_here b h e y same =
      let at = test_at places i b h e in
      sym same ∙ ap subjected (next_of places i at.0 at.1) ∙ test_true at.0 (drop (i + 1) places) (at.2 ∙ y)

  pub subject_on : (b : Bool) → i < length places → b ≡ get_or (map (λ p. is_sub p.role) places) i false → b ≡ false → subjected (drop i places) ≡ subjected places → subjected (drop (i + 1) places) ≡ subjected places
  subject_on b h e n same =
      let at = test_at places i b h e in
      sym (test_false at.0 (drop (i + 1) places) (at.2 ∙ n)) ∙ sym (ap subjected (next_of places i at.0 at.1)) ∙ same

  pub no_subject : length places ≤ i → subjected (drop i places) ≡ subjected places → subjected places ≡ false
  no_subject h same = sym same ∙ past places i h
    where
      past : (ps : List Place) (n : ℕ) → length ps ≤ n → subjected (drop n ps) ≡ false
      past [] zero h = refl
      past [] (suc n) h = refl
      past (p ∷ ps) zero h = absurd (omega (arith, h))
      past (p ∷ ps) (suc n) h = past ps n (omega (arith, h))

pub told : (b : Bool) (ps qs : List Place) → ps ≡ qs → subjected ps ≡ b → IsTrue b ↔ IsSome (option_map (λ p. p.sort) (find (λ p. is_sub p.role) qs))
told b ps qs e s = (λ t. sym (ap subjected e) ∙ s ∙ t, λ h. sym s ∙ ap subjected e ∙ h)
