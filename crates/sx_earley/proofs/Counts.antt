-- How many items have a property.
use Rattle.std.proofs.Common.{◌≡◌, ◌↔◌, ℕ, ◌+◌, List, [], ◌∷◌, ◌++◌, ◌⊎◌, inl, inr, ⊎_elim, refl, subst, length, length-append, Contains, arith}
use Rattle.std.proofs.lemmas.List.Elements.{Contains-append_left, Contains-append_right, Contains-append_cases, Contains-push}
use Rattle.sx_grammar.specs.Tally.{Among, EachOnce}
use Rattle.sx_grammar.specs.declared.item.Item.{Item}
use Rattle.sx_earley.specs.Counted.{IsCount}
use Rattle.sx_earley.proofs.Spanning.{among_there, first_or_later}

module _ {X : Type 0} where
  among_cases : (x : X) (xs ys : List X) → Among x (xs ++ ys) → Among x xs ⊎ Among x ys
  among_cases x [] ys h = inr h
  among_cases x (y ∷ more) ys (inl e) = inl (inl e)
  among_cases x (y ∷ more) ys (inr h) = ⊎_elim (λ a. inl (inr a)) (λ a. inr a) (among_cases x more ys h)

  -- two lists that have nothing in common
  pub once_both : (xs ys : List X) → EachOnce xs → EachOnce ys → ((x : X) → Among x xs → Among x ys → ⊥) → EachOnce (xs ++ ys)
  once_both [] ys a b apart = b
  once_both (x ∷ xs) ys a b apart = (
    (λ h. ⊎_elim (λ p. a.0 p) (λ q. apart x (inl refl) q) (among_cases x xs ys h)),
    once_both xs ys a.1 b (λ y p q. apart y (inr p) q),
  )

pub count_none : (P : Item → Type 0) → ((i : Item) → P i → ⊥) → IsCount P 0
count_none P none = ([], tt, (λ i. ((λ there. let low = there.1 in absurd (omega arith)), (λ p. absurd (none i p)))), refl)

pub count_same : (P Q : Item → Type 0) (n : ℕ) → ((i : Item) → P i ↔ Q i) → IsCount P n → IsCount Q n
count_same P Q n same c = (c.0, c.1, (λ i. ((λ there. (same i).0 ((c.2 i).0 there)), (λ q. (c.2 i).1 ((same i).1 q)))), c.3)

-- one more item
pub count_more : (P Q : Item → Type 0) (n : ℕ) (x : Item) → (P x → ⊥) → ((i : Item) → Q i ↔ (P i ⊎ (x ≡ i))) → IsCount P n → IsCount Q (n + 1)
count_more P Q n x new same c = (
  x ∷ c.0,
  ((λ h. new ((c.2 x).0 (among_there x c.0 h))), c.1),
  (λ i. (
    (λ there. (same i).1 (⊎_elim (λ e. inr e) (λ later. inl ((c.2 i).0 later)) (first_or_later x c.0 i there))),
    (λ q. ⊎_elim (λ p. Contains-append_right (x ∷ []) c.0 i ((c.2 i).1 p))
        (λ e. subst (λ y. Contains (x ∷ c.0) y) e (Contains-append_left (x ∷ []) c.0 x (Contains-push [] x))) ((same i).0 q)),
  )),
  (let many : length c.0 ≡ n = c.3 in omega arith),
)

-- those with one property or another, where none has both
pub count_both : (P Q R : Item → Type 0) (m n : ℕ) → ((i : Item) → P i → Q i → ⊥) → ((i : Item) → R i ↔ (P i ⊎ Q i)) → IsCount P m → IsCount Q n → IsCount R (m + n)
count_both P Q R m n apart same a b = (
  a.0 ++ b.0,
  once_both a.0 b.0 a.1 b.1 (λ x p q. apart x ((a.2 x).0 (among_there x a.0 p)) ((b.2 x).0 (among_there x b.0 q))),
  (λ i. (
    (λ there. (same i).1 (⊎_elim (λ p. inl ((a.2 i).0 p)) (λ q. inr ((b.2 i).0 q)) (Contains-append_cases a.0 b.0 i there))),
    (λ r. ⊎_elim (λ p. Contains-append_left a.0 b.0 i ((a.2 i).1 p)) (λ q. Contains-append_right a.0 b.0 i ((b.2 i).1 q)) ((same i).0 r)),
  )),
  (let one : length a.0 ≡ m = a.3 in let other : length b.0 ≡ n = b.3 in omega (arith, length-append a.0 b.0)),
)
