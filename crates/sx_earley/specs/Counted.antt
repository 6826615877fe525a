-- Items that were asked for: each is kept, or idle and counted.
use Rattle.std.specs.Prelude.{◌≡◌, ◌<◌, ◌^◌, ◌+◌, ◌↔◌, ◌⊎◌, ℕ, List, Option, Contains, length}
use Rattle.sx_grammar.specs.declared.item.Item.{Item}
use Rattle.sx_grammar.specs.Grammar.{Grammar, Token, production_of}
use Rattle.sx_grammar.specs.ReadOne.{Holds}
use Rattle.sx_grammar.specs.Tally.{EachOnce}
use Rattle.sx_earley.specs.declared.ask.Ask.{Ask}
use Rattle.sx_earley.specs.Growth.{GoesOnFrom, AllNew}
use Rattle.sx_earley.specs.AskSet.{IsOfSortFrom}
use Rattle.sx_earley.specs.Chart.{IsPredicted, IsIdle, WasAsked}

-- so many items have the property
abbrev pub IsCount : (Item → Type 0) → ℕ → Type 0
IsCount P n = (items : List Item) × EachOnce items × ((i : Item) → Contains items i ↔ P i) ×
    (length items ≡ n)

-- the item has the property, and is not idle
abbrev pub IsBusy : Grammar → List Token → (Item → Type 0) → Item → Type 0
IsBusy g tokens P i = P i × (IsIdle g tokens i → ⊥)

-- the item was asked for, and is idle
abbrev pub IsIdleAsked : Grammar → List Token → List Ask → Item → Type 0
IsIdleAsked g tokens asked i = IsIdle g tokens i × WasAsked g asked i

-- what was asked for is there, or idle
abbrev pub AllAsked : Grammar → List Token → List Ask → List Item → Type 0
AllAsked g tokens asked keys = (i : Item) → WasAsked g asked i →
    Contains keys i ⊎ IsIdle g tokens i

-- the item is what is asked for, and not of the level, if there is one, that was asked for before
abbrev pub IsNewlyAsked : Grammar → Ask → Option ℕ → Item → Type 0
IsNewlyAsked g ask before i = IsPredicted g ask.sort ask.least ask.place i ×
    (IsOfSortFrom (production_of g i.head) ask.sort before → ⊥)

-- the item is added, or counted, where it is missed, if it is wanted
pub data AddsOrCounts (IsWanted IsMissed : Type 0) (item : Item) (old new : List Item)
    (n : ℕ) : Type 0 where
  unwanted : (IsWanted → ⊥) → new ≡ old → n ≡ 0 → AddsOrCounts IsWanted IsMissed item old new n
  missed : IsWanted → IsMissed → new ≡ old → n ≡ 1 →
      AddsOrCounts IsWanted IsMissed item old new n
  added : IsWanted → (IsMissed → ⊥) → GoesOnFrom old new → AllNew old new (λ i. i ≡ item) →
      Contains new item → n ≡ 0 → AddsOrCounts IsWanted IsMissed item old new n

-- what is wanted is added, or idle and counted
pub record Predicts (g : Grammar) (tokens : List Token) (IsWanted : Item → Type 0)
    (old new : List Item) (n : ℕ) : Type 0 where
  pub extends : GoesOnFrom old new
  pub only : AllNew old new (IsBusy g tokens IsWanted)
  pub every : (i : Item) → IsWanted i → Contains new i ⊎ IsIdle g tokens i
  pub idle : IsCount (λ i. IsIdle g tokens i × IsWanted i) n
  pub small : n < 2 ^ 63

-- what is wanted is asked for, and so many more idle items are
pub record AsksMore (g : Grammar) (tokens : List Token) (IsWanted : Item → Type 0)
    (old new : List Ask) (n : ℕ) : Type 0 where
  pub asks : (i : Item) → WasAsked g new i ↔ (WasAsked g old i ⊎ IsWanted i)
  pub idle : (m : ℕ) → IsCount (IsIdleAsked g tokens old) m →
      IsCount (IsIdleAsked g tokens new) (m + n)
  pub small : n < 2 ^ 63

-- these items hold, and with idle ones they are all that hold
pub record AreItems (g : Grammar) (tokens : List Token) (start : ℕ) (keys : List Item) : Type 0
  where
    pub others : List Item
    pub idle : (i : Item) → Contains others i → IsIdle g tokens i
    pub all : (i : Item) → (Contains keys i ⊎ Contains others i) ↔ Holds g tokens start i
