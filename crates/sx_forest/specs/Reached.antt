-- What makers reach from places.
use Rattle.std.specs.Prelude.{◌≡◌, ℕ, List, [], Option, None, Some, slice_get}
use Rattle.std.specs.Global.{Vec}
use Rattle.sx_forest.specs.declared.entry.Maker.{Maker}
use Rattle.sx_forest.specs.declared.entry.Entry.{Entry}
use Rattle.sx_forest.specs.declared.reach.Reach.{Reach}
use Rattle.sx_forest.specs.Rows.{entries_at, IsIn}

-- the maker reaches the place
abbrev pub HasReach : List Reach → Maker → (place : ℕ) → Type 0
HasReach reaches maker place = (i : ℕ) × (r : Reach) × (slice_get reaches i ≡ Some r) ×
    (r.maker ≡ maker) × IsIn r.places place

-- what is reached from this place
abbrev pub reaches_in : Option (Vec Reach) → List Reach
reaches_in None = []
reaches_in (Some v) = v.items

abbrev pub reaches_at : List (Vec Reach) → ℕ → List Reach
reaches_at lists place = reaches_in (slice_get lists place)

-- from the place of each entry its maker reaches its end, and backwards
pub record AreReached (lists : List (Vec Entry)) (ends starts : List (Vec Reach)) : Type 0 where
  pub onward : (place i : ℕ) (e : Entry) → slice_get (entries_at lists place) i ≡ Some e →
      HasReach (reaches_at ends place) e.maker e.to
  pub back : (place i : ℕ) (e : Entry) → slice_get (entries_at lists place) i ≡ Some e →
      HasReach (reaches_at starts e.to) e.maker place
