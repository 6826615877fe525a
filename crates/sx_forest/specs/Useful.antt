-- Which heads can be of use up to a place, by what may come after them.
use Rattle.std.specs.Prelude.{suc, ◌≡◌, ◌≤◌, ◌<◌, ◌↔◌, ℕ, List, [], Option, None, Some, Contains}
use Rattle.std.specs.Prelude.{length, slice_get}
use Rattle.std.specs.Global.{Vec}
use Rattle.sx_grammar.specs.declared.head.Head.{Head}
use Rattle.sx_grammar.specs.Grammar.{Symbol, literal, lexical, part, Grammar, Token, Production}
use Rattle.sx_grammar.specs.Grammar.{production_of}
use Rattle.sx_grammar.specs.Items as items
use Rattle.sx_grammar.specs.Items.{ReadsToken}
use Rattle.sx_earley.specs.Chart.{IsOfSort, next_symbol}
use Rattle.sx_earley.specs.Completed.{head_of}
use Rattle.sx_earley.specs.declared.span.Span.{Span}
use Rattle.sx_forest.specs.declared.levels.Levels.{Levels}
use Rattle.sx_forest.specs.declared.entry.Maker.{Maker}
use Rattle.sx_forest.specs.declared.entry.Maker.TheVariants.{Variable, By}

-- a part may end at the place, where this symbol comes after it; where none does, if it may be last
abbrev pub MayEnd : List Token → Option Symbol → (place : ℕ) → Type 0 → Type 0
MayEnd tokens None place may_be_last = may_be_last
MayEnd tokens (Some (literal text)) place may_be_last = ReadsToken tokens (literal text) place
MayEnd tokens (Some (lexical kind)) place may_be_last = ReadsToken tokens (lexical kind) place
MayEnd tokens (Some (part sort least)) place may_be_last = Unit {0}

-- where the head reads up to one place, a part by the other head may end at the other place
pub record IsKidEnd (g : Grammar) (tokens : List Token) (head : Head) (to : ℕ) (other : Head)
    (end : ℕ) : Type 0 where
  pub dot : ℕ
  pub sort : ℕ
  pub least : ℕ
  pub is : next_symbol g head dot ≡ Some (part sort least)
  pub fits : IsOfSort (production_of g other) sort least
  pub next : MayEnd tokens (next_symbol g head (suc dot)) end (end ≡ to)

-- what the head reads up to the place may be a part of a reading of all tokens
pub data IsUseful (g : Grammar) (tokens : List Token) : Head → (to : ℕ) → Type 0 where
  useful_whole : {head : Head} → IsUseful g tokens head (length tokens)
  useful_kid : {head other : Head} {to end : ℕ} → IsUseful g tokens head to →
      IsKidEnd g tokens head to other end → IsUseful g tokens other end

-- the same of a maker
abbrev pub IsUsefulBy : Grammar → List Token → Maker → (to : ℕ) → Type 0
IsUsefulBy g tokens (Variable sort) to = Unit {0}
IsUsefulBy g tokens (By head) to = IsUseful g tokens head to

-- the level from which productions of a sort are kept, 0 where none is told
abbrev pub level_in : Option ℕ → ℕ
level_in None = 0
level_in (Some level) = level

abbrev pub level_at : List ℕ → (sort : ℕ) → ℕ
level_at levels sort = level_in (slice_get levels sort)

-- the production is kept
abbrev pub IsProductionKept : List ℕ → Option Production → Type 0
IsProductionKept levels None = ⊥
IsProductionKept levels (Some p) = level_at levels p.sort ≤ p.level

-- what the part after the dot asks for is kept, if it may end at the place
abbrev pub IsMetAt : Grammar → List Token → (place : ℕ) → List ℕ → Head → (dot : ℕ) → Type 0
IsMetAt g tokens place levels head dot = (sort least : ℕ) →
    next_symbol g head dot ≡ Some (part sort least) →
    MayEnd tokens (next_symbol g head (suc dot)) place (IsProductionKept levels
    (production_of g head)) →
    level_at levels sort ≤ least

-- so it is of each part of each head
abbrev pub IsMet : Grammar → List Token → (place : ℕ) → List ℕ → Type 0
IsMet g tokens place levels = (head : Head) (dot : ℕ) → IsMetAt g tokens place levels head dot

-- the row at this place of a list
abbrev pub row_in : Option (Vec ℕ) → List ℕ
row_in None = []
row_in (Some v) = v.items

abbrev pub numbers_at : List (Vec ℕ) → (number : ℕ) → List ℕ
numbers_at rows number = row_in (slice_get rows number)

-- the row with the number that a place has
abbrev pub row_by : List (Vec ℕ) → Option ℕ → List ℕ
row_by rows None = []
row_by rows (Some number) = numbers_at rows number

-- the levels at the place
abbrev pub levels_at : Levels → (place : ℕ) → List ℕ
levels_at levels place = row_by levels.rows.items (slice_get levels.numbers.items place)

-- the places have numbers of rows, and what is asked for at each is kept there
abbrev pub AreMetBy : Grammar → List Token → List (Vec ℕ) → (numbers : List ℕ) → Type 0
AreMetBy g tokens rows numbers = (place number : ℕ) → slice_get numbers place ≡ Some number →
    (number < length rows) × IsMet g tokens place (numbers_at rows number)

-- what is asked for at each place is kept there
abbrev pub AreMet : Grammar → List Token → Levels → Type 0
AreMet g tokens levels = (place : ℕ) → IsMet g tokens place (levels_at levels place)

-- the head is kept up to the place
abbrev pub KeepsHead : Grammar → Levels → Head → (place : ℕ) → Type 0
KeepsHead g levels head place = IsProductionKept (levels_at levels place) (production_of g head)

-- the spans are those complete ones that some levels keep, where these meet what is asked for
pub record AreUseful (g : Grammar) (tokens : List Token) (start : ℕ)
    (spans : List Span) : Type 0 where
  pub levels : Levels
  pub short : length levels.numbers.items ≤ length tokens
  pub met : AreMet g tokens levels
  pub are : (s : Span) → Contains spans s
      ↔ (items.Span g tokens start (head_of s.of) s.from s.to
      × KeepsHead g levels (head_of s.of) s.to)
