-- What reading all tokens may answer.
use Rattle.std.specs.Prelude.{◌≡◌, ◌≢◌, ◌⊎◌, ℕ, ◌≤◌, ◌<◌, List, Contains, length}
use Rattle.sx_grammar.specs.Grammar.{Grammar, Token}
use Rattle.sx_grammar.specs.Reading.{Reading, ReadsWhole, Only, reading_depth}
use Rattle.sx_grammar.specs.Items as items
use Rattle.sx_grammar.specs.declared.item.Item.{Item}
use Rattle.sx_grammar.specs.Tally.{EachOnce, IsGreatest}
use Rattle.sx_term.specs.Limits.{most_depth}

-- the item holds, by Earley's three rules
abbrev pub Holds : Grammar → List Token → ℕ → Item → Type 0
Holds g tokens start i = items.Item g tokens start i.head i.dot i.origin i.end

-- more than n items hold
abbrev pub MoreHold : Grammar → List Token → ℕ → ℕ → Type 0
MoreHold g tokens start n = (list : List Item) × (n < length list) × EachOnce list ×
    ((i : Item) → Contains list i → Holds g tokens start i)

-- no item ends later; 0 where no item holds
pub record IsGreatestEnd (g : Grammar) (tokens : List Token) (start : ℕ) (end : ℕ) : Type 0 where
  pub some : ((i : Item) × Holds g tokens start i × (i.end ≡ end)) ⊎
      (((i : Item) → Holds g tokens start i → ⊥) × (end ≡ 0))
  pub bound : (i : Item) → Holds g tokens start i → i.end ≤ end

-- what reading all tokens may answer
pub data ReadAnswer : Type 0 where
  only : Reading → ReadAnswer
  too_hard : ReadAnswer
  no_reading : (end : ℕ) → ReadAnswer
  too_deep : (depth : ℕ) → ReadAnswer
  ambiguous : (one other : Reading) → ReadAnswer

-- the most items that hold of what is read
abbrev pub most_items : ℕ
most_items = 2000000

-- each answer comes exactly where this holds, out of memory aside
abbrev pub IsAnswer : Grammar → List Token → ℕ → ReadAnswer → Type 0
IsAnswer g tokens start too_hard = MoreHold g tokens start most_items
IsAnswer g tokens start (only r) =
    (MoreHold g tokens start most_items → ⊥) × Only g tokens start r ×
    (reading_depth r ≤ most_depth)
IsAnswer g tokens start (no_reading end) =
    (MoreHold g tokens start most_items → ⊥) × ((r : Reading) → ReadsWhole g tokens start r → ⊥) ×
    IsGreatestEnd g tokens start end
IsAnswer g tokens start (too_deep depth) =
    (MoreHold g tokens start most_items → ⊥) × (most_depth < depth) ×
    IsGreatest (ReadsWhole g tokens start) reading_depth depth
IsAnswer g tokens start (ambiguous one other) =
    (MoreHold g tokens start most_items → ⊥) × ((r : Reading) → ReadsWhole g tokens start r →
    reading_depth r ≤ most_depth) ×
    ReadsWhole g tokens start one × ReadsWhole g tokens start other × (one ≢ other)

-- two answers for the same tokens are the same, but for the pair of readings that is shown
abbrev pub SameAnswer : ReadAnswer → ReadAnswer → Type 0
SameAnswer (ambiguous one other) (ambiguous this that) = Unit {0}
SameAnswer a b = a ≡ b

abbrev pub AnswersAgree : Type 0
AnswersAgree = (g : Grammar) (tokens : List Token) (start : ℕ) (a b : ReadAnswer) →
    IsAnswer g tokens start a → IsAnswer g tokens start b → SameAnswer a b
