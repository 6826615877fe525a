-- How a walk ends, and what its events say of derivations.
use Rattle.std.specs.Prelude.{
  ◌≡◌,
  ℕ,
  zero,
  suc,
  Bool,
  true,
  false,
  List,
  [],
  ◌∷◌,
  ◌⊎◌,
  Option,
  Some,
  None,
}
use Rattle.sx_term.specs.Tree.{Tree}
use Rattle.sx_arena.specs.Matching.{same_all}
use Rattle.sx_rules.specs.Orders.{order_of, IsBefore}
use Rattle.sx_derive.specs.Walk.{Cause, Event, try, give, stop, Answer}
pub use Rattle.sx_rules.specs.First.{DerivesGoal, AreWanted, IsFirst}

-- all that is given is P
abbrev pub EachGiven : {A : Type 0} → (A → Type 0) → List (Event A) → Type 0
EachGiven P [] = Unit {0}
EachGiven P (try ∷ es) = EachGiven P es
EachGiven P (stop c ∷ es) = EachGiven P es
EachGiven P (give a ∷ es) = P a × EachGiven P es

-- read from the front, the answer or a stop is met, and each answer given before that is before it
-- in order
abbrev pub IsReached : Answer → List (Event Answer) → Type 0
IsReached q [] = ⊥
IsReached q (try ∷ es) = IsReached q es
IsReached q (stop c ∷ es) = Unit {0}
IsReached q (give a ∷ es) = (a ≡ q) ⊎ IsBefore (order_of a.0) (order_of q.0) × IsReached q es

-- the answer is given, before any stop
abbrev pub IsGivenBeforeStop : Answer → List (Event Answer) → Type 0
IsGivenBeforeStop q [] = ⊥
IsGivenBeforeStop q (try ∷ es) = IsGivenBeforeStop q es
IsGivenBeforeStop q (stop c ∷ es) = ⊥
IsGivenBeforeStop q (give a ∷ es) = (a ≡ q) ⊎ IsGivenBeforeStop q es

-- a stop stands among the events
abbrev pub HasStop : {A : Type 0} → List (Event A) → Type 0
HasStop [] = ⊥
HasStop (try ∷ es) = HasStop es
HasStop (stop c ∷ es) = Unit {0}
HasStop (give a ∷ es) = HasStop es

-- how a walk ends: with an answer, at a limit, with the tries spent, or at the end of the events
pub data Ending : Type 0 where
  found : Answer → Ending
  stopped : Cause → Ending
  spent : Ending
  exhausted : Ending

-- whether the outputs are those wanted, where some are
abbrev pub are_wanted : Option (List Tree) → List Tree → Bool
are_wanted None outs = true
are_wanted (Some wanted) outs = same_all outs wanted

-- the answer as the ending where it is wanted, and else how the walk ends after it
abbrev pub found_when : Bool → Answer → Ending → Ending
found_when true a rest = found a
found_when false a rest = rest

-- the events read from the front, with that many tries to spend
abbrev pub walk : Option (List Tree) → ℕ → List (Event Answer) → Ending
walk wanted budget [] = exhausted
walk wanted zero (try ∷ es) = spent
walk wanted (suc budget) (try ∷ es) = walk wanted budget es
walk wanted budget (stop c ∷ es) = stopped c
walk wanted budget (give a ∷ es) = found_when (are_wanted wanted a.1) a (walk wanted budget es)

-- how many tries the walk makes
abbrev pub tries_unless : Bool → ℕ → ℕ
tries_unless true n = 0
tries_unless false n = n

-- how many tries the walk makes, with that many to spend
abbrev pub tries_of : Option (List Tree) → ℕ → List (Event Answer) → ℕ
tries_of wanted budget [] = 0
tries_of wanted zero (try ∷ es) = 0
tries_of wanted (suc budget) (try ∷ es) = suc (tries_of wanted budget es)
tries_of wanted budget (stop c ∷ es) = 0
tries_of wanted budget (give a ∷ es) =
    tries_unless (are_wanted wanted a.1) (tries_of wanted budget es)
