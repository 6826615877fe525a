-- All numbers with a hash are passed, from the last one backwards.
use Rattle.std.proofs.Common.{◌≡◌, ℕ, ◌<◌, ◌≤◌, ◌⊎◌, inl, inr, List, length, get_or, Option, Some, None, sym, subst, arith}
use Rattle.std.proofs.lemmas.Bool.{cases_eq, cases_lt}
use Rattle.sx_slots.specs.Slots.{IsLastWith}

-- the numbers with the hash that were passed, all of them or those behind here, are as told
abbrev pub ArePassed : List ℕ → (ℕ → Type 0) → ℕ → Option ℕ → Type 0
ArePassed hs Told hash None = (i : ℕ) → i < length hs → get_or hs i 0 ≡ hash → Told i
ArePassed hs Told hash (Some x) =
    (x < length hs) × (get_or hs x 0 ≡ hash) × ((i : ℕ) → x < i → i < length hs → get_or hs i 0 ≡ hash → Told i)

module _ (hs : List ℕ) (Told : ℕ → Type 0) (hash : ℕ) where
  -- none was passed before the last
  pub passed_first : (answer : Option ℕ) → IsLastWith hs (length hs) hash answer → ArePassed hs Told hash answer
  passed_first None h = λ i low is. absurd (h i low is)
  passed_first (Some x) h = (h.0, h.1, λ i behind low is. absurd (h.2 i behind low is))

  -- one more is passed
  pub passed_next : (x : ℕ) (answer : Option ℕ) → ArePassed hs Told hash (Some x) → Told x → IsLastWith hs x (get_or hs x 0) answer → ArePassed hs Told hash answer
  passed_next x answer g here h = next_of answer (subst (λ (n : ℕ). IsLastWith hs x n answer) g.1 h)
    where
      not_before : (i : ℕ) → (i ≡ x) ⊎ (i ≡ x → ⊥) → (x < i) ⊎ (i ≤ x) → x ≤ i → i < length hs → get_or hs i 0 ≡ hash → Told i
      not_before i (inl e) c l b is = subst Told (sym e) here
      not_before i (inr e) (inl m) l b is = g.2 i m b is
      not_before i (inr e) (inr m) l b is = absurd (e (omega arith))

      next_of : (found : Option ℕ) → IsLastWith hs x hash found → ArePassed hs Told hash found
      next_of None o = λ i b is. elim (cases_lt i x) [
        | inl l ↦ absurd (o i l is)
        | inr l ↦ not_before i (cases_eq i x) (cases_lt x i) l b is
      ]
      next_of (Some y) o = (
        (let a = o.0 in let b = g.0 in omega arith),
        o.1,
        λ i a b is. elim (cases_lt i x) [
          | inl l ↦ absurd (o.2 i a l is)
          | inr l ↦ not_before i (cases_eq i x) (cases_lt x i) l b is
        ],
      )

-- what is told may be weaker
pub passed_on : (hs : List ℕ) (Told Also : ℕ → Type 0) (hash : ℕ) (here : Option ℕ) → ((i : ℕ) → Told i → Also i) → ArePassed hs Told hash here → ArePassed hs Also hash here
passed_on hs Told Also hash None weaker h = λ i low is. weaker i (h i low is)
passed_on hs Told Also hash (Some x) weaker h = (h.0, h.1, λ i behind low is. weaker i (h.2 i behind low is))
