-- Derivations whose entries stand in a list.
use Rattle.std.specs.Prelude.{◌≡◌, ℕ, ◌+◌, ◌≤◌, List, ◌++◌, drop}
use Rattle.sx_rules.specs.Rules.{Judgement, Rule, no_hypotheses}
use Rattle.sx_rules.specs.Derivations.{Proof, Derives, height_of}
use Rattle.sx_rules.specs.Limits.{most_levels}
use Rattle.sx_rules.specs.Orders.{Entry, order_of}

-- the entries of a derivation stand in the list from the place on, and then the rest; its root has
-- this depth, and no node is deeper than 3,000
pub record IsDerivationAt (rules : List Rule) (list : List Entry) (at depth : ℕ) (p : Proof)
    (rest : List Entry) : Type 0 where
  pub judgement : Judgement
  pub derives : Derives rules no_hypotheses judgement p
  pub place : drop at list ≡ order_of p ++ rest
  pub shallow : depth + height_of p ≤ most_levels + 1
