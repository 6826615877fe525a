-- Nothing follows from idle items.
use Rattle.std.proofs.Common.{◌≡◌, refl, ℕ, ◌+◌, Option, Some, None, List, subst, arith}
use Rattle.std.proofs.lemmas.Option.{none-some}
use Rattle.sx_grammar.specs.Grammar.{Symbol, literal, lexical, part, Grammar, Token, production_of}
use Rattle.sx_grammar.specs.declared.item.Item.{Item}
use Rattle.sx_earley.specs.Chart.{as_part, next_symbol, ReadsNext, IsMissed, IsIdle, HasDotAtEnd}
use Rattle.sx_earley.specs.Chart.{FollowsFrom, by_prediction, by_scanning, by_filling, by_waiting, moved}
use Rattle.sx_earley.proofs.Waiting.{some_not_at_end}

missed_part : (tokens : List Token) (o : Option Symbol) (place sort least : ℕ) → IsMissed tokens o place → as_part o ≡ Some (sort, least) → ⊥
missed_part tokens None place sort least m e = absurd m
missed_part tokens (Some (literal text)) place sort least m e = none-some (sort, least) e
missed_part tokens (Some (lexical kind)) place sort least m e = none-some (sort, least) e
missed_part tokens (Some (part s l)) place sort least m e = absurd m.0

missed_unread : (tokens : List Token) (o : Option Symbol) (place : ℕ) → IsMissed tokens o place → ReadsNext tokens o place → ⊥
missed_unread tokens None place m r = absurd m
missed_unread tokens (Some symbol) place m r = m.1 r

missed_there : (tokens : List Token) (o : Option Symbol) (place : ℕ) → IsMissed tokens o place → (symbol : Symbol) × (o ≡ Some symbol)
missed_there tokens None place m = absurd m
missed_there tokens (Some symbol) place m = (symbol, refl)

module _ (g : Grammar) (tokens : List Token) (i : Item) (idle : IsIdle g tokens i) where
  -- it waits for no part
  pub idle_waits : (sort least : ℕ) → as_part (next_symbol g i.head i.dot) ≡ Some (sort, least) → ⊥
  idle_waits sort least e = missed_part tokens (next_symbol g i.head i.dot) i.end sort least idle.1 e

  -- it reads nothing
  pub idle_unread : ReadsNext tokens (next_symbol g i.head i.dot) i.end → ⊥
  idle_unread r = missed_unread tokens (next_symbol g i.head i.dot) i.end idle.1 r

  -- it is not complete
  pub idle_open : HasDotAtEnd (production_of g i.head) i.dot → ⊥
  idle_open ends =
      let s = missed_there tokens (next_symbol g i.head i.dot) i.end idle.1 in
      some_not_at_end (production_of g i.head) i.dot s.0 s.1 ends

module _ (g : Grammar) (tokens : List Token) where
  pub moved_busy : (before : Item) (end : ℕ) (i : Item) → i ≡ moved before end → IsIdle g tokens i → ⊥
  moved_busy before end i e idle = let is : IsIdle g tokens (moved before end) = subst (IsIdle g tokens) e idle in let none : before.dot + 1 ≡ 0 = is.0 in omega arith

  -- what follows is not idle
  pub follows_busy : (IsBefore IsFilling : Item → Type 0) (item i : Item) → FollowsFrom g tokens IsBefore IsFilling item i → IsIdle g tokens i → ⊥
  follows_busy IsBefore IsFilling item i (by_prediction f busy) idle = busy idle
  follows_busy IsBefore IsFilling item i (by_scanning r e) idle = moved_busy item (item.end + 1) i e idle
  follows_busy IsBefore IsFilling item i (by_filling j) idle = moved_busy j.0 j.1.end i j.5 idle
  follows_busy IsBefore IsFilling item i (by_waiting j) idle = moved_busy j.0 j.1.end i j.5 idle
