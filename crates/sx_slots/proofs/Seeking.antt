-- What is wanted is sought among the numbers with its hash, from the last one backwards.
use Rattle.std.proofs.Common.{◌≡◌, ℕ, suc, ◌<◌, ◌≤◌, ◌⊎◌, inl, inr, List, length, get_or, Option, Some, None, subst, arith}
use Rattle.std.proofs.lemmas.Bool.{cases_eq, cases_lt}
use Rattle.sx_slots.specs.Slots.{IsLastWith}

-- nothing that is wanted stands behind here, which has the hash
abbrev pub IsSought : List ℕ → (ℕ → Type 0) → ℕ → Option ℕ → Type 0
IsSought hs Wanted hash None = (i : ℕ) → i < length hs → Wanted i → ⊥
IsSought hs Wanted hash (Some x) = (x < length hs) × (get_or hs x 0 ≡ hash) × ((i : ℕ) → x < i → i < length hs → Wanted i → ⊥)

-- how far it is to go
abbrev pub left_of : Option ℕ → ℕ
left_of None = 0
left_of (Some x) = suc x

module _ (hs : List ℕ) (Wanted : ℕ → Type 0) (hash : ℕ) (alike : (i : ℕ) → i < length hs → Wanted i → get_or hs i 0 ≡ hash) where
  -- from the last number with the hash on
  pub sought_first : (answer : Option ℕ) → IsLastWith hs (length hs) hash answer → IsSought hs Wanted hash answer
  sought_first None h = λ i b w. h i b (alike i b w)
  sought_first (Some x) h = (h.0, h.1, λ i a b w. h.2 i a b (alike i b w))

  -- the number before with the hash, where here is not what is wanted
  pub sought_next : (x : ℕ) (answer : Option ℕ) → IsSought hs Wanted hash (Some x) → (Wanted x → ⊥) → IsLastWith hs x (get_or hs x 0) answer → IsSought hs Wanted hash answer
  sought_next x answer g d h = next_of answer (subst (λ (n : ℕ). IsLastWith hs x n answer) g.1 h)
    where
      behind : (i : ℕ) → (i ≡ x) ⊎ (i ≡ x → ⊥) → (x < i) ⊎ (i ≤ x) → x ≤ i → i < length hs → Wanted i → ⊥
      behind i (inl e) c l b w = d (subst Wanted e w)
      behind i (inr e) (inl m) l b w = g.2 i m b w
      behind i (inr e) (inr m) l b w = e (omega arith)

      next_of : (found : Option ℕ) → IsLastWith hs x hash found → IsSought hs Wanted hash found
      next_of None o = λ i b w. elim (cases_lt i x) [
        | inl l ↦ o i l (alike i b w)
        | inr l ↦ behind i (cases_eq i x) (cases_lt x i) l b w
      ]
      next_of (Some y) o = (
        (let a = o.0 in let b = g.0 in omega arith),
        o.1,
        λ i a b w. elim (cases_lt i x) [
          | inl l ↦ o.2 i a l (alike i b w)
          | inr l ↦ behind i (cases_eq i x) (cases_lt x i) l b w
        ],
      )

-- the number before is nearer to the first
pub goes_back : (hs : List ℕ) (x hash : ℕ) (answer : Option ℕ) → IsLastWith hs x hash answer → left_of answer < suc x
goes_back hs x hash None h = omega arith
goes_back hs x hash (Some y) h = let a = h.0 in omega arith
