-- The nodes of a derivation, and the lists that are its entries.
use Rattle.std.specs.Prelude.{◌≡◌, ℕ, ◌+◌, ◌<◌, ◌≤◌, List, [], ◌∷◌, ◌++◌}
use Rattle.sx_rules.specs.Rules.{Judgement, Rule, no_hypotheses}
use Rattle.sx_rules.specs.Views.{NamedRule, rule_name}
use Rattle.sx_rules.specs.Derivations.{Proof, Proofs, by, given, no_more, ◌⊳◌, Derives, height_of}
use Rattle.sx_rules.specs.Orders.{Entry, order_of}
use Rattle.sx_audit.specs.Meaning.{Node, node}
use Rattle.sx_rules.specs.Limits.{most_levels}

-- the nodes in preorder, where the root has this depth
abbrev mutual
  pub nodes : List NamedRule → ℕ → Proof → List Node
  nodes rules depth (by r binds kids) =
      node (rule_name rules r) depth ∷ nodes_of_each rules (depth + 1) kids
  nodes rules depth (given i) = []

  -- those of each proof, one proof after another
  pub nodes_of_each : List NamedRule → ℕ → Proofs → List Node
  nodes_of_each rules depth no_more = []
  nodes_of_each rules depth (p ⊳ ps) = nodes rules depth p ++ nodes_of_each rules depth ps

-- the proof has no givens, and its rules are among that many
abbrev mutual
  pub IsByRules : ℕ → Proof → Type 0
  IsByRules many (by r binds kids) = (r < many) × AreByRules many kids
  IsByRules many (given i) = ⊥

  -- so it is of each of the proofs
  pub AreByRules : ℕ → Proofs → Type 0
  AreByRules many no_more = Unit {0}
  AreByRules many (p ⊳ ps) = IsByRules many p × AreByRules many ps

-- the list is that of a derivation by the rules without hypotheses, no deeper than 3,000
pub record IsDerivationList (rules : List Rule) (list : List Entry) (p : Proof) : Type 0 where
  pub judgement : Judgement
  pub derives : Derives rules no_hypotheses judgement p
  pub order : list ≡ order_of p
  pub height : height_of p ≤ most_levels
