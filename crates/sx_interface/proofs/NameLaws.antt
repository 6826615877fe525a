-- Names among names, and keys.
use Rattle.std.proofs.Common.{◌≡◌, ℕ, zero, suc, map, IsTrue, ◌↔◌, Bool, true≢false, ◌||◌, List, [], ◌∷◌, ◌⊎◌, inl, inr, Contains, refl, sym, arith}
use Rattle.std.specs.Bool.{Decides}
use Rattle.std.specs.Str.{bytes_eq}
use Rattle.std.proofs.lemmas.Slice.Eq.{bytes_eq-Decides}
use Rattle.std.proofs.lemmas.Bool.Decides.{same_from_decides, Decides-like, Decides-or}
use Rattle.sx_lines.specs.Rows.{has_key}

first_or_later : (x : List ℕ) (names : List (List ℕ)) (name : List ℕ) → Contains (x ∷ names) name → (x ≡ name) ⊎ Contains names name
first_or_later x names name (zero, lt, e) = inl e
first_or_later x names name (suc k, lt, e) = inr (k, omega (arith, lt), e)

there : (x : List ℕ) (names : List (List ℕ)) (name : List ℕ) → (x ≡ name) ⊎ Contains names name → Contains (x ∷ names) name
there x names name (inl e) = (zero, omega arith, e)
there x names name (inr h) = (suc h.0, omega (arith, h.1), h.2)

tells : (names : List (List ℕ)) (name : List ℕ) → Decides (has_key (λ x. x) names name) (Contains names name)
unfolding has_key
tells [] name = ((λ e. absurd (true≢false (sym e))), λ h. absurd (omega (arith, h.1)))
tells (x ∷ names) name =
    Decides-like (bytes_eq x name || has_key (λ x. x) names name) (there x names name) (first_or_later x names name)
    (Decides-or (bytes_eq x name) (has_key (λ x. x) names name) (bytes_eq-Decides x name) (tells names name))

-- the test of the names says whether one is there
pub has_is : (names : List (List ℕ)) (name : List ℕ) (b : Bool) → (IsTrue b ↔ Contains names name) → has_key (λ x. x) names name ≡ b
has_is names name b h = same_from_decides (has_key (λ x. x) names name) b (tells names name) h

-- a key is one of the keys exactly where an item has it
pub keys_have : {A : Type 0} (key : A → List ℕ) (items : List A) (name : List ℕ) → has_key (λ x. x) (map key items) name ≡ has_key key items name
unfolding has_key
keys_have key [] name = refl
keys_have key (x ∷ items) name = rw (keys_have key items name) refl
