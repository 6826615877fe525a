-- Numbers in slots, by which those with a hash are found.
use Rattle.std.specs.Prelude.{◌≡◌, ℕ, suc, ◌-◌, ◌^◌, ◌<◌, ◌≤◌, List, length, get_or}
use Rattle.std.specs.Prelude.{Option, Some, None, bit_and}

-- the slot of a hash, of n slots
unfoldable pub slot_of : ℕ → ℕ → ℕ
slot_of n hash = bit_and hash (n - 1)

-- the slot, of n, of a number, by the hashes
abbrev pub slot_at : ℕ → List ℕ → ℕ → ℕ
slot_at n hs i = slot_of n (get_or hs i 0)

-- the last of the first k numbers that are in the slot, plus one, or 0 for none
pub record IsLast (n : ℕ) (hs : List ℕ) (k slot x : ℕ) : Type 0 where
  pub within : x ≤ k
  pub is : (i : ℕ) → x ≡ suc i → slot_at n hs i ≡ slot
  pub no_more : (i : ℕ) → x ≤ i → i < k → slot_at n hs i ≡ slot → ⊥

-- the first k numbers are in n slots: of each slot the last number is known, and of each number
-- the last one before it in its slot
pub record AreLinked (n : ℕ) (hs links lasts : List ℕ) (k : ℕ) : Type 0 where
  pub of_slot : (s : ℕ) → s < n → IsLast n hs k s (get_or lasts s 0)
  pub of_number : (i : ℕ) → i < k → IsLast n hs i (slot_at n hs i) (get_or links i 0)

-- all numbers are in slots, which are no fewer, and which 32 bits can count
pub record IsSlotTable (hashes links lasts : List ℕ) : Type 0 where
  pub many : length links ≡ length hashes
  pub room : length hashes ≤ length lasts
  pub few : length lasts < 2 ^ 32
  pub linked : AreLinked (length lasts) hashes links lasts (length hashes)

-- the last of the first k numbers with the hash, or None where none of them has it
abbrev pub IsLastWith : List ℕ → ℕ → ℕ → Option ℕ → Type 0
IsLastWith hs k hash None = (i : ℕ) → i < k → get_or hs i 0 ≡ hash → ⊥
IsLastWith hs k hash (Some x) =
    (x < k) × (get_or hs x 0 ≡ hash) × ((i : ℕ) → x < i → i < k → get_or hs i 0 ≡ hash → ⊥)
