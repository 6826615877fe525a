-- Events without a stop, and what is given first among them.
use Rattle.std.specs.Prelude.{
  ◌≡◌,
  ℕ,
  suc,
  ◌≤◌,
  List,
  [],
  ◌∷◌,
  map,
  length,
  Option,
  Some,
  None,
  Vec,
}
use Rattle.std.specs.declared.alloc.Global.{Global}
use Rattle.sx_term.specs.Tree.{Tree}
use Rattle.sx_rules.specs.Derivations.{Proof}
use Rattle.sx_derive.specs.Walk.{Event, try, give, stop, Answer}
use Rattle.sx_derive.specs.Search.{HasStop}
use Rattle.sx_arena.specs.Arena.{tree_at, AreBelow}

-- how many tries stand among the events
abbrev pub count : {A : Type 0} → List (Event A) → ℕ
count [] = 0
count (try ∷ es) = suc (count es)
count (stop c ∷ es) = count es
count (give a ∷ es) = count es

-- no stop stands among the events, and no more tries than that
pub record IsQuiet {A : Type 0} (budget : ℕ) (es : List (Event A)) : Type 0 where
  pub no_stop : HasStop es → ⊥
  pub few : count es ≤ budget

-- what is given first, before any stop
abbrev pub first_given : {A : Type 0} → List (Event A) → Option A
first_given [] = None
first_given (try ∷ es) = first_given es
first_given (stop c ∷ es) = None
first_given (give a ∷ es) = Some a

-- the outputs by their numbers are those of the answer that is given first
abbrev pub IsGivenIn : List Tree → Option Answer → Vec ℕ Global → Type 0
IsGivenIn ts first outs =
    AreBelow (length ts) outs.items
    × ((p : Proof) × (first ≡ Some (p, map (tree_at ts) outs.items)))
