-- Names among names.
use Rattle.std.proofs.Common.{◌≡◌, ℕ, zero, suc, IsTrue, ◌↔◌, Bool, true, false, List, [], ◌∷◌, ◌++◌, inl, inr, None, Some, refl, sym, ap, ◌∙◌, true≢false, Contains, arith}
use Rattle.std.specs.Prelude.{Option, slice_get, option_map, unwrap_or}
use Rattle.sx_rules.specs.Good.{IsAmong}
use Rattle.sx_rules.specs.Views.{NamedRule, rule_name}

-- a name is among names exactly where they contain it
pub among_contains : (names : List (List ℕ)) (name : List ℕ) → IsAmong name names → Contains names name
among_contains [] name h = absurd h
among_contains (x ∷ names) name (inl e) = (zero, omega arith, e)
among_contains (x ∷ names) name (inr h) = let w = among_contains names name h in (suc w.0, omega (arith, w.1), w.2)

pub contains_among : (names : List (List ℕ)) (name : List ℕ) → Contains names name → IsAmong name names
contains_among [] name h = absurd (omega (arith, h.1))
contains_among (x ∷ names) name (zero, lt, e) = inl e
contains_among (x ∷ names) name (suc k, lt, e) = inr (contains_among names name (k, omega (arith, lt), e))

-- names among those of two lists
among_front : (name : List ℕ) (xs ys : List (List ℕ)) → IsAmong name xs → IsAmong name (xs ++ ys)
among_front name [] ys h = absurd h
among_front name (x ∷ xs) ys (inl e) = inl e
among_front name (x ∷ xs) ys (inr h) = inr (among_front name xs ys h)

pub among_back : (name : List ℕ) (xs ys : List (List ℕ)) → IsAmong name ys → IsAmong name (xs ++ ys)
among_back name [] ys h = h
among_back name (x ∷ xs) ys h = inr (among_back name xs ys h)

not_both : (name : List ℕ) (xs ys : List (List ℕ)) → (IsAmong name xs → ⊥) → IsAmong name (xs ++ ys) → IsAmong name ys
not_both name [] ys n h = h
not_both name (x ∷ xs) ys n (inl e) = absurd (n (inl e))
not_both name (x ∷ xs) ys n (inr h) = not_both name xs ys (λ k. n (inr k)) h

module _ (before seen : List (List ℕ)) (name : List ℕ) where
  pub taken_before : (b : Bool) → b ≡ true → (IsTrue b ↔ Contains before name) → IsTrue b ↔ IsAmong name (before ++ seen)
  taken_before b t h = ((λ x. among_front name before seen (contains_among before name (h.0 t))), λ k. t)

  pub not_before : (b : Bool) → b ≡ false → (IsTrue b ↔ Contains before name) → IsAmong name before → ⊥
  not_before b f h k = true≢false (sym (h.1 (among_contains before name k)) ∙ f)

  pub taken_after : (b : Bool) → (IsAmong name before → ⊥) → (IsTrue b ↔ Contains seen name) → IsTrue b ↔ IsAmong name (before ++ seen)
  taken_after b n h = (
    (λ t. among_back name before seen (contains_among seen name (h.0 t))),
    λ k. h.1 (among_contains seen name (not_both name before seen n k)),
  )

-- where there is no rule of that number, the name is empty
pub unnamed : (rules : List NamedRule) (n : ℕ) → slice_get rules n ≡ None → [] ≡ rule_name rules n
unnamed [] n e = refl
unnamed (r ∷ rules) zero e = cc
unnamed (r ∷ rules) (suc n) e = unnamed rules n e

-- the name of the rule that stands there
pub named_at : (rules : List NamedRule) (n : ℕ) (r : NamedRule) → slice_get rules n ≡ Some r → r.name ≡ rule_name rules n
named_at [] n r e = let clash : None ≡ Some r = e in cc
named_at (q ∷ rules) zero r e = ap (λ (o : Option NamedRule). unwrap_or (option_map (λ (x : NamedRule). x.name) o) []) (sym e)
named_at (q ∷ rules) (suc n) r e = named_at rules n r e
