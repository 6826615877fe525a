-- What follows from items.
use Rattle.std.specs.Prelude.{◌≡◌, ◌≤◌, ℕ, ◌+◌, List, Option, None, Some, length, Contains}
use Rattle.std.specs.List.{slice_get}
use Rattle.sx_grammar.specs.declared.head.Head.{Head}
use Rattle.sx_grammar.specs.declared.item.Item.{Item}
use Rattle.sx_grammar.specs.Grammar.{Symbol, literal, lexical, part, Production, Grammar, Token}
use Rattle.sx_grammar.specs.Grammar.{production_of}
use Rattle.sx_grammar.specs.Items.{ReadsToken}
use Rattle.sx_grammar.specs.ReadOne.{Holds}
use Rattle.sx_earley.specs.declared.ask.Ask.{Ask}

-- the symbol at a place of a production
abbrev pub symbol_after : Option Production → ℕ → Option Symbol
symbol_after None dot = None
symbol_after (Some p) dot = slice_get p.symbols dot

-- the symbol after the dot
abbrev pub next_symbol : Grammar → Head → ℕ → Option Symbol
next_symbol g head dot = symbol_after (production_of g head) dot

-- the sort and the least level of a part
abbrev pub as_part : Option Symbol → Option (ℕ × ℕ)
as_part None = None
as_part (Some (literal text)) = None
as_part (Some (lexical kind)) = None
as_part (Some (part sort least)) = Some (sort, least)

-- the symbol, if there is one, reads the token at the place by itself
abbrev pub ReadsNext : List Token → Option Symbol → ℕ → Type 0
ReadsNext tokens None place = ⊥
ReadsNext tokens (Some symbol) place = ReadsToken tokens symbol place

-- the dot stands after the production's last symbol
abbrev pub HasDotAtEnd : Option Production → ℕ → Type 0
HasDotAtEnd None dot = ⊥
HasDotAtEnd (Some p) dot = length p.symbols ≡ dot

-- the production is of the sort and at least of the level
abbrev pub IsOfSort : Option Production → ℕ → ℕ → Type 0
IsOfSort None sort least = ⊥
IsOfSort (Some p) sort least = (p.sort ≡ sort) × (least ≤ p.level)

-- the sort of the production
abbrev pub sort_made : Option Production → Option ℕ
sort_made None = None
sort_made (Some p) = Some p.sort

-- the sort and the level of the production
abbrev pub sort_and_level : Option Production → Option (ℕ × ℕ)
sort_and_level None = None
sort_and_level (Some p) = Some (p.sort, p.level)

-- the item begins a production of the sort from the level on at the place
abbrev pub IsPredicted : Grammar → ℕ → ℕ → ℕ → Item → Type 0
IsPredicted g sort least place i =
    IsOfSort (production_of g i.head) sort least × (i.dot ≡ 0) × (i.origin ≡ place) ×
    (i.end ≡ place)

-- the item begins where it was asked for
abbrev pub WasAsked : Grammar → List Ask → Item → Type 0
WasAsked g asked i =
    (ask : Ask) × Contains asked ask × IsPredicted g ask.sort ask.least ask.place i

-- the item that begins a head's production at the place
abbrev pub beginning : Head → ℕ → Item
beginning head place = record { head = head; dot = 0; origin = place; end = place }

-- the symbol is that of one token
abbrev pub IsTokenSymbol : Symbol → Type 0
IsTokenSymbol (literal text) = Unit {0}
IsTokenSymbol (lexical kind) = Unit {0}
IsTokenSymbol (part sort least) = ⊥

-- the symbol, if there is one, is that of one token, and does not read the token at the place
abbrev pub IsMissed : List Token → Option Symbol → ℕ → Type 0
IsMissed tokens None place = ⊥
IsMissed tokens (Some symbol) place = IsTokenSymbol symbol × (ReadsToken tokens symbol place → ⊥)

-- the item begins with the symbol of a token that does not stand at its place: nothing follows
abbrev pub IsIdle : Grammar → List Token → Item → Type 0
IsIdle g tokens i = (i.dot ≡ 0) × IsMissed tokens (next_symbol g i.head i.dot) i.end

-- the first item waits for a part that the second has read
pub record Joins (g : Grammar) (before filling : Item) : Type 0 where
  pub sort : ℕ
  pub least : ℕ
  pub waits : as_part (next_symbol g before.head before.dot) ≡ Some (sort, least)
  pub fits : IsOfSort (production_of g filling.head) sort least
  pub complete : HasDotAtEnd (production_of g filling.head) filling.dot
  pub meets : before.end ≡ filling.origin

-- the item with its dot one greater, up to this end
abbrev pub moved : Item → ℕ → Item
moved before end = record {
  head = before.head;
  dot = before.dot + 1;
  origin = before.origin;
  end = end;
}

-- the item is one of the first, moved over one of the second that it waits for
abbrev pub IsJoined : Grammar → (IsBefore IsFilling : Item → Type 0) → Item → Type 0
IsJoined g IsBefore IsFilling i =
    (before : Item) × (filling : Item) × IsBefore before × IsFilling filling ×
    Joins g before filling × (i ≡ moved before filling.end)

-- the item waits for a part, and the other begins a production for it
pub record Foresees (g : Grammar) (item other : Item) : Type 0 where
  pub sort : ℕ
  pub least : ℕ
  pub waits : as_part (next_symbol g item.head item.dot) ≡ Some (sort, least)
  pub fits : IsPredicted g sort least item.end other

-- the item follows from this one, from those that may wait for it, and from those for which it may
-- wait, and is not idle
pub data FollowsFrom (g : Grammar) (tokens : List Token) (IsBefore IsFilling : Item → Type 0)
    (item : Item) : Item → Type 0 where
  by_prediction : {i : Item} → Foresees g item i → (IsIdle g tokens i → ⊥) →
      FollowsFrom g tokens IsBefore IsFilling item i
  by_scanning : {i : Item} → ReadsNext tokens (next_symbol g item.head item.dot) item.end →
      i ≡ moved item (item.end + 1) → FollowsFrom g tokens IsBefore IsFilling item i
  by_filling : {i : Item} → IsJoined g IsBefore (λ x. x ≡ item) i →
      FollowsFrom g tokens IsBefore IsFilling item i
  by_waiting : {i : Item} → IsJoined g (λ x. x ≡ item) IsFilling i →
      FollowsFrom g tokens IsBefore IsFilling item i

-- all that follows so is there, or was asked for
pub record AllFollow (g : Grammar) (tokens : List Token) (IsBefore IsFilling : Item → Type 0)
    (item : Item) (asked : List Ask) (keys : List Item) : Type 0 where
  pub predictions : (i : Item) → Foresees g item i → WasAsked g asked i
  pub scanned : ReadsNext tokens (next_symbol g item.head item.dot) item.end →
      Contains keys (moved item (item.end + 1))
  pub filled : (before : Item) → IsBefore before → Joins g before item →
      Contains keys (moved before item.end)
  pub filling : (other : Item) → IsFilling other → Joins g item other →
      Contains keys (moved item other.end)

-- what follows from these items is there, or was asked for
pub record Treated (g : Grammar) (tokens : List Token) (done : List Item) (asked : List Ask)
    (keys : List Item) : Type 0 where
  pub predictions : (item : Item) → Contains done item → (i : Item) → Foresees g item i →
      WasAsked g asked i
  pub scanned : (item : Item) → Contains done item →
      ReadsNext tokens (next_symbol g item.head item.dot) item.end →
      Contains keys (moved item (item.end + 1))
  pub joined : (before filling : Item) → Contains done before → Contains done filling →
      Joins g before filling → Contains keys (moved before filling.end)

-- each item of the list holds
abbrev pub AllHold : Grammar → List Token → ℕ → List Item → Type 0
AllHold g tokens start keys = (i : Item) → Contains keys i → Holds g tokens start i
