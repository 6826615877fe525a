-- How ranks are found: each rule has a head with a rank, or waits for a number that has none.
use Rattle.std.specs.Prelude.{◌≡◌, ℕ, ◌+◌, ◌<◌, ◌⊎◌, Option, Some, List, [], slice_get, length}
use Rattle.std.specs.Prelude.{count_by, is_none, Contains}
use Rattle.std.specs.Global.{Vec}
use Rattle.sx_grammar.specs.declared.rule.Rule.{Rule}
use Rattle.sx_grammar.specs.declared.progress.Waiting.{Waiting}
use Rattle.sx_grammar.specs.declared.progress.Progress.{Progress}
use Rattle.sx_grammar.specs.Ranks.{rank_in, HasRank, AreRankedTo, IsFounded, waiting_at}

-- the rule needs the number at its place, and the numbers that it needs before have ranks
abbrev pub IsWaiting : List Rule → List (Option ℕ) → ℕ → Waiting → Type 0
IsWaiting rules ranks x w = (r : Rule) × (slice_get rules w.rule ≡ Some r) ×
    (slice_get r.needs.items w.place ≡ Some x) × AreRankedTo ranks r.needs.items w.place

-- the order and the ranks agree, ranks come from rules, and rules wait for what they need
pub record IsSound (rules : List Rule) (ranks : List (Option ℕ)) (order : List ℕ)
    (waiting : List (Vec Waiting)) : Type 0 where
  pub ordered : (n x : ℕ) → slice_get order n ≡ Some x → rank_in ranks x ≡ Some n
  pub ranked : (n x : ℕ) → rank_in ranks x ≡ Some n → slice_get order n ≡ Some x
  pub founded : IsFounded rules ranks
  pub waits : (x : ℕ) (w : Waiting) → Contains (waiting_at waiting x) w → IsWaiting rules ranks x w
  pub lists : length waiting ≡ length ranks
  pub room : count_by is_none ranks + length order ≡ length ranks

abbrev pub IsSoundAt : List Rule → Progress → Type 0
IsSoundAt rules p = IsSound rules p.ranks.items p.order.items p.waiting.items

-- the head of the rule has a rank, or the rule waits
abbrev pub IsSettled : List Rule → List (Option ℕ) → List (Vec Waiting) → ℕ → Type 0
IsSettled rules ranks waiting i = (r : Rule) → slice_get rules i ≡ Some r →
    HasRank ranks r.head ⊎ ((x : ℕ) × (w : Waiting) × Contains (waiting_at waiting x) w ×
    (w.rule ≡ i))

-- numbers keep their ranks
abbrev pub Keeps : (old new : List (Option ℕ)) → Type 0
Keeps old new = (x n : ℕ) → rank_in old x ≡ Some n → rank_in new x ≡ Some n

-- the rule is settled; rules that wait go on waiting, and none more waits for a number that had a
-- rank
pub record Settles (rules : List Rule) (index : ℕ) (old new : Progress) : Type 0 where
  pub sound : IsSoundAt rules new
  pub ranks : length new.ranks.items ≡ length old.ranks.items
  pub kept : Keeps old.ranks.items new.ranks.items
  pub here : IsSettled rules new.ranks.items new.waiting.items index
  pub stay : (x : ℕ) (w : Waiting) → Contains (waiting_at old.waiting.items x) w →
      Contains (waiting_at new.waiting.items x) w
  pub same : (x : ℕ) → HasRank old.ranks.items x →
      waiting_at new.waiting.items x ≡ waiting_at old.waiting.items x

-- the first n rules are settled
pub record SettlesTo (rules : List Rule) (n : ℕ) (old new : Progress) : Type 0 where
  pub sound : IsSoundAt rules new
  pub ranks : length new.ranks.items ≡ length old.ranks.items
  pub all : (i : ℕ) → i < n → IsSettled rules new.ranks.items new.waiting.items i

-- settled rules stay so, and where none waited for a number that had a rank, none waits
pub record Goes (rules : List Rule) (old new : Progress) : Type 0 where
  pub sound : IsSoundAt rules new
  pub ranks : length new.ranks.items ≡ length old.ranks.items
  pub kept : Keeps old.ranks.items new.ranks.items
  pub settled : (i : ℕ) → IsSettled rules old.ranks.items old.waiting.items i →
      IsSettled rules new.ranks.items new.waiting.items i
  pub still : (x : ℕ) → HasRank old.ranks.items x → waiting_at old.waiting.items x ≡ [] →
      waiting_at new.waiting.items x ≡ []
