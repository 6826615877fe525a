-- What items are filed under.
use Rattle.std.specs.Prelude.{◌≡◌, ℕ, ◌<◌, List, [], ◌∷◌, ◌++◌, Option, Some, None, length}
use Rattle.std.specs.Prelude.{get_or, slice_get}
use Rattle.sx_slots.specs.Mixed.{mixed_with, folded}
use Rattle.sx_grammar.specs.declared.item.Item.{Item}
use Rattle.sx_grammar.specs.Grammar.{Grammar, production_of}
use Rattle.sx_earley.specs.declared.filed.Filed.{Filed}
use Rattle.sx_earley.specs.Chart.{next_symbol, as_part, HasDotAtEnd, sort_made}

-- the key of items that wait at the place for a part of the sort
abbrev pub waiting_key : ℕ → ℕ → ℕ
waiting_key place sort = folded (mixed_with (mixed_with 1 place) sort)

-- the key of complete items of the sort that begin at the place
abbrev pub complete_key : ℕ → ℕ → ℕ
complete_key place sort = folded (mixed_with (mixed_with 2 place) sort)

-- the key of the items that may wait for the item, if it has made a sort
abbrev pub before_key : Item → Option ℕ → Option ℕ
before_key item None = None
before_key item (Some sort) = Some (waiting_key item.origin sort)

-- the key of the items for which the item may wait, if it waits for a part
abbrev pub filling_key : Item → Option (ℕ × ℕ) → Option ℕ
filling_key item None = None
filling_key item (Some part) = Some (complete_key item.end part.0)

-- the item waits for a part, and this is its key, or it is complete, and this is
pub data IsKey (g : Grammar) (item : Item) (key : ℕ) : Type 0 where
  of_waiting : (sort least : ℕ) → as_part (next_symbol g item.head item.dot) ≡ Some (sort, least) →
      key ≡ waiting_key item.end sort → IsKey g item key
  of_complete : (sort : ℕ) → HasDotAtEnd (production_of g item.head) item.dot →
      sort_made (production_of g item.head) ≡ Some sort → key ≡ complete_key item.origin sort →
      IsKey g item key

-- the key of the item, if it waits for a part or has made a sort
abbrev pub own_key : Item → Option (ℕ × ℕ) → Option ℕ → Option ℕ
own_key item (Some part) made = Some (waiting_key item.end part.0)
own_key item None (Some sort) = Some (complete_key item.origin sort)
own_key item None None = None

-- a number is filed under the key, if there is one
abbrev pub IsAddedTo : Option ℕ → ℕ → Filed → Filed → Type 0
IsAddedTo None number old new = (new.keys ≡ old.keys) × (new.numbers.items ≡ old.numbers.items)
IsAddedTo (Some key) number old new = (new.keys ≡ old.keys ++ key ∷ []) ×
    (new.numbers.items ≡ old.numbers.items ++ number ∷ [])

-- there are as many numbers as keys, and all are below the bound
pub record AreNumbersWithin (filed : Filed) (bound : ℕ) : Type 0 where
  pub same : length filed.numbers.items ≡ length filed.keys
  pub within : (n : ℕ) → n < length filed.keys → get_or filed.numbers.items n 0 < bound

-- a number that is filed under the key, if there is one, is that of the item
abbrev pub IsKeyed : List Item → Filed → Option ℕ → Item → Type 0
IsKeyed items filed None x = ⊥
IsKeyed items filed (Some key) x =
    (n : ℕ) × (n < length filed.keys) × (get_or filed.keys n 0 ≡ key) ×
    (slice_get items (get_or filed.numbers.items n 0) ≡ Some x)

-- the item's number is filed under its key, if it has one
abbrev pub IsFiled : Grammar → List Item → Filed → Item → Type 0
IsFiled g items filed x = (key : ℕ) → IsKey g x key → IsKeyed items filed (Some key) x
