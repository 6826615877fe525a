-- What holds of the members of a list.
use Rattle.std.proofs.Common.{◌≡◌, ℕ, ◌<◌, zero, suc, List, [], ◌∷◌, length, get_or, map, ap, refl, sym, subst, arith}
use Rattle.std.specs.Prelude.{Contains}
use Rattle.std.specs.List.{AllByRecursion}

-- a member of the rest is one of the whole
pub contains_more : {A : Type 0} (x : A) (xs : List A) (y : A) → Contains xs y →
    Contains (x ∷ xs) y
contains_more x xs y (k, below, same) = (suc k, omega (arith, below), same)

-- what is made of a member is one of what is made of all
pub contains_map : {A B : Type 0} (f : A → B) (xs : List A) (x : A) → Contains xs x →
    Contains (map f xs) (f x)
contains_map f [] x (k, below, same) = absurd (omega (arith, below))
contains_map f (y ∷ xs) x (zero, below, same) = (0, omega arith, ap f same)
contains_map f (y ∷ xs) x (suc k, below, same) =
    let c = contains_map f xs x (k, omega (arith, below), same) in
    contains_more (f y) (map f xs) (f x) c

-- what holds of each holds of all
pub all_by : {A : Type 0} (P : A → Type 0) (xs : List A) → ((x : A) → Contains xs x → P x) →
    AllByRecursion P xs
all_by P [] each = tt
all_by P (x ∷ xs) each = (
  each x (0, omega arith, refl),
  all_by P xs (λ y among. each y (contains_more x xs y among)),
)

-- and the other way round
pub all_at : {A : Type 0} (P : A → Type 0) (xs : List A) (x : A) → AllByRecursion P xs →
    Contains xs x → P x
all_at P [] x all (k, below, same) = absurd (omega (arith, below))
all_at P (y ∷ xs) x all (zero, below, same) = subst P same all.0
all_at P (y ∷ xs) x all (suc k, below, same) =
    all_at P xs x all.1 (k, omega (arith, below), same)

-- what holds of all that is made of these holds of what is made of each
pub holds_at : {A B : Type 0} (P : B → Type 0) (f : A → B) (xs : List A) (i : ℕ) (x : A) →
    i < length xs → x ≡ get_or xs i x → AllByRecursion P (map f xs) → P (f x)
holds_at P f [] i x within at all = absurd (omega (arith, within))
holds_at P f (y ∷ ys) zero x within at all = subst (λ z. P (f z)) (sym at) all.0
holds_at P f (y ∷ ys) (suc i) x within at all =
    holds_at P f ys i x (omega (arith, within)) at all.1
