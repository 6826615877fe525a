-- The ranks of the numbers that follow from rules.
use Rattle.std.specs.Prelude.{◌≡◌, ℕ, zero, suc, ◌<◌, ◌⊎◌, Option, None, Some, List, [], ◌∷◌, ◌++◌}
use Rattle.std.specs.Prelude.{slice_get, slice_index_or, set, length}
use Rattle.std.specs.Global.{Vec}
use Rattle.sx_grammar.specs.declared.rule.Rule.{Rule}
use Rattle.sx_grammar.specs.declared.progress.Waiting.{Waiting}
use Rattle.sx_grammar.specs.declared.progress.Progress.{Progress}

-- the rank of a number, where it has one
abbrev pub rank_in : List (Option ℕ) → ℕ → Option ℕ
rank_in ranks number = slice_index_or ranks number None

abbrev pub HasRank : List (Option ℕ) → ℕ → Type 0
HasRank ranks number = (n : ℕ) × (rank_in ranks number ≡ Some n)

-- the numbers before this place have ranks
abbrev pub AreRankedTo : List (Option ℕ) → List ℕ → ℕ → Type 0
AreRankedTo ranks numbers place = (k x : ℕ) → k < place → slice_get numbers k ≡ Some x →
    HasRank ranks x

-- each of the numbers has a rank below this one
abbrev pub HaveLowerRanks : List (Option ℕ) → List ℕ → ℕ → Type 0
HaveLowerRanks ranks numbers rank = (k x : ℕ) → slice_get numbers k ≡ Some x →
    (n : ℕ) × (rank_in ranks x ≡ Some n) × (n < rank)

-- a number with a rank is the head of a rule that needs only numbers of lower ranks
abbrev pub IsFounded : List Rule → List (Option ℕ) → Type 0
IsFounded rules ranks = (x n : ℕ) → rank_in ranks x ≡ Some n →
    (i : ℕ) × (r : Rule) × (slice_get rules i ≡ Some r) × (r.head ≡ x) ×
    HaveLowerRanks ranks r.needs.items n

-- the head of a rule that needs only numbers with ranks has a rank
abbrev pub IsComplete : List Rule → List (Option ℕ) → Type 0
IsComplete rules ranks = (i : ℕ) (r : Rule) → slice_get rules i ≡ Some r →
    AreRankedTo ranks r.needs.items (length r.needs.items) → HasRank ranks r.head

-- each rank is below the bound
abbrev pub HasRanksBelow : ℕ → List (Option ℕ) → Type 0
HasRanksBelow bound ranks = (x n : ℕ) → rank_in ranks x ≡ Some n → n < bound

-- the numbers of the rules are below the bound
abbrev pub AreRulesBelow : ℕ → List Rule → Type 0
AreRulesBelow bound rules = (i : ℕ) (r : Rule) → slice_get rules i ≡ Some r →
    (r.head < bound) × ((k x : ℕ) → slice_get r.needs.items k ≡ Some x → x < bound)

-- the rules that wait for a number
abbrev pub waiting_at : List (Vec Waiting) → ℕ → List Waiting
waiting_at [] number = []
waiting_at (v ∷ vs) zero = v.items
waiting_at (v ∷ vs) (suc number) = waiting_at vs number

-- nothing has a rank, and nothing waits
pub record IsBlank (bound : ℕ) (p : Progress) : Type 0 where
  pub ranks : length p.ranks.items ≡ bound
  pub none : (x : ℕ) → rank_in p.ranks.items x ≡ None
  pub order : p.order.items ≡ []
  pub lists : length p.waiting.items ≡ bound
  pub still : (x : ℕ) → waiting_at p.waiting.items x ≡ []

-- the number had a rank, or now has the next
abbrev pub IsLearnt : Progress → Progress → ℕ → Type 0
IsLearnt old new number = (new.waiting.items ≡ old.waiting.items) × (
    (HasRank old.ranks.items number × (new.ranks.items ≡ old.ranks.items) ×
    (new.order.items ≡ old.order.items)) ⊎
    ((rank_in old.ranks.items number ≡ None) ×
    (new.ranks.items ≡ set old.ranks.items number (Some (length old.order.items))) ×
    (new.order.items ≡ old.order.items ++ number ∷ [])))

-- the other numbers have the same rules waiting, and ranks are the same
pub record IsSameBut (number : ℕ) (old new : Progress) : Type 0 where
  pub ranks : new.ranks.items ≡ old.ranks.items
  pub order : new.order.items ≡ old.order.items
  pub lists : length new.waiting.items ≡ length old.waiting.items
  pub others : (x : ℕ) → ¬ (x ≡ number) → waiting_at new.waiting.items x
      ≡ waiting_at old.waiting.items x

-- one rule more waits for the number
abbrev pub IsWaitingPut : Progress → Progress → ℕ → Waiting → Type 0
IsWaitingPut old new number w = IsSameBut number old new ×
    (waiting_at new.waiting.items number ≡ waiting_at old.waiting.items number ++ w ∷ [])

-- the last of a list, and what is left; or the list has none
abbrev pub IsPopped : (old new : List Waiting) → Option Waiting → Type 0
IsPopped old new None = (old ≡ []) × (new ≡ [])
IsPopped old new (Some w) = old ≡ new ++ w ∷ []

-- one rule less waits for the number, or none did
abbrev pub IsWaitingTaken : Progress → Progress → ℕ → Option Waiting → Type 0
IsWaitingTaken old new number w = IsSameBut number old new ×
    IsPopped (waiting_at old.waiting.items number) (waiting_at new.waiting.items number) w
