-- One turn of the search for items.
use Rattle.std.proofs.Common.{◌≡◌, subst, ⊎_elim, ℕ, ◌+◌, List, [], ◌∷◌, ◌++◌, Option, Some, length, take, Contains}
use Rattle.std.specs.List.{slice_get}
use Rattle.sx_grammar.specs.Grammar.{Grammar, Token}
use Rattle.sx_grammar.specs.declared.item.Item.{Item}
use Rattle.sx_earley.specs.Growth.{GoesOnFrom, AllNew}
use Rattle.sx_earley.specs.Chart.{FollowsFrom, AllFollow, Treated, AllHold, Joins, WasAsked, IsIdle}
use Rattle.sx_earley.specs.declared.ask.Ask.{Ask}
use Rattle.sx_earley.specs.Keys.{IsKey, IsAddedTo, IsFiled, IsKeyed}
use Rattle.sx_earley.specs.declared.filed.Filed.{Filed}
use Rattle.sx_earley.proofs.Closing.{there_at, front_more, more_hold, treated_more}
use Rattle.sx_earley.proofs.Idling.{follows_busy}
use Rattle.sx_earley.proofs.Keying.{filed_on, filed_later, keyed_there}

-- what is known of an item that is filed, before what follows from it is added
pub record Turn (g : Grammar) (tokens : List Token) (start : ℕ) (items : List Item) (next : ℕ) (item : Item) (old more : Filed) (before filling : Option ℕ) : Type 0 where
  pub at : slice_get items next ≡ Some item
  pub sound : AllHold g tokens start items
  pub filed : (x : Item) → Contains (take next items) x → IsFiled g items old x
  pub many : length old.numbers.items ≡ length old.keys
  pub own : Option ℕ
  pub own_is : (key : ℕ) → IsKey g item key → own ≡ Some key
  pub added : IsAddedTo own next old more
  pub befores_all : (x : Item) → Joins g x item → IsFiled g items more x → IsKeyed items more before x
  pub fillings_all : (x : Item) → Joins g item x → IsFiled g items more x → IsKeyed items more filling x

module _ (g : Grammar) (tokens : List Token) (start : ℕ) (items : List Item) (next : ℕ) (item : Item) (old more : Filed) (before filling : Option ℕ)
    (t : Turn g tokens start items next item old more before filling) where
  here : Contains items item
  here = there_at items next item t.at

  front : (x : Item) → Contains (take next items ++ item ∷ []) x → IsFiled g items more x
  front = filed_on old more next g items t.own (take next items) item t.added t.many t.at t.own_is t.filed

  module _ (new : List Item) where
    -- what is added holds
    pub turn_holds : AllNew items new (FollowsFrom g tokens (IsKeyed items more before) (IsKeyed items more filling) item) → AllHold g tokens start new
    turn_holds only = more_hold g tokens start items new (IsKeyed items more before) (IsKeyed items more filling) item t.sound (t.sound item here)
        (λ x is. t.sound x (keyed_there items more before x is)) (λ x is. t.sound x (keyed_there items more filling x is)) only

    -- and is not idle
    pub turn_busy : ((i : Item) → Contains items i → IsIdle g tokens i → ⊥) → AllNew items new (FollowsFrom g tokens (IsKeyed items more before) (IsKeyed items more filling) item) →
        (i : Item) → Contains new i → IsIdle g tokens i → ⊥
    turn_busy busy only i there = ⊎_elim (λ was. busy i was)
        (λ f. follows_busy g tokens (IsKeyed items more before) (IsKeyed items more filling) item i f) (only i there)

    module _ (grown : GoesOnFrom items new) where
      step : take next items ++ item ∷ [] ≡ take (next + 1) new
      step = front_more items new next item grown t.at

      pub turn_closed : (asked asks : List Ask) → ((i : Item) → WasAsked g asked i → WasAsked g asks i) → Treated g tokens (take next items) asked items →
          AllFollow g tokens (IsKeyed items more before) (IsKeyed items more filling) item asks new → Treated g tokens (take (next + 1) new) asks new
      turn_closed asked asks still closed follow = subst (λ l. Treated g tokens l asks new) step
          (treated_more g tokens start (take next items) item asked asks items new (IsKeyed items more before) (IsKeyed items more filling) grown still closed follow
          (λ x there j. t.befores_all x j (front x there)) (λ x there j. t.fillings_all x j (front x there)))

      pub turn_filed : (x : Item) → Contains (take (next + 1) new) x → IsFiled g new more x
      turn_filed = subst (λ l. (x : Item) → Contains l x → IsFiled g new more x) step
          (λ x there. filed_later g items new more x grown (front x there))
