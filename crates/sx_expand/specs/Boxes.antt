-- Derivations that are made in boxes from their lists.
use Rattle.std.specs.Prelude.{◌≡◌, ℕ, ◌≤◌, List, ◌∷◌, map, length, Some, slice_get}
use Rattle.sx_term.specs.Tree.{Tree}
use Rattle.sx_rules.specs.declared.rule.Judgement.{Judgement as JudgementOf}
use Rattle.sx_rules.specs.Derivations.{Proof, Derives, ShallowJudgements, by, height_of}
use Rattle.sx_rules.specs.EntryView.{entries}
use Rattle.sx_rules.specs.Instances.{bound_by}
use Rattle.sx_rules.specs.Modes.{Modes, inputs_of, outputs_of}
use Rattle.sx_rules.specs.Orders.{Entry, order_of}
use Rattle.sx_rules.specs.ProofView.{proof}
use Rattle.sx_rules.specs.Rules.{Judgement, Premise, holds, Rule, Hypotheses, judgement_instance}
use Rattle.sx_rules.specs.Sets.{bare_rules_in, forms_in}
use Rattle.sx_rules.specs.Views.{hypotheses, judgement, modes_of}
use Rattle.sx_arena.specs.Arena.{trees, tree_at, IsArena, AreBelow, Extends}
use Rattle.sx_arena.specs.Matching.{Assignment}
use Rattle.sx_expand.specs.declared.cursor.Cursor.{Cursor}
use Rattle.sx_expand.specs.declared.made.Made.{Made}
use Rattle.sx_expand.specs.declared.origin.Origin.{Origin}
use Rattle.sx_expand.specs.Followed.{FollowsNode}
use Rattle.sx_expand.specs.ReadNodes.{NodeData, KidData}
use Rattle.sx_expand.specs.Standing.{StandsInList, StandEach}
use Rattle.sx_rules.specs.Limits.{most_levels}

-- the derivation of the judgement from the hypotheses has the list, and is no deeper than 3,000
pub record HasList (rules : List Rule) (hyps : Hypotheses) (j : Judgement) (list : List Entry)
    (p : Proof) : Type 0 where
  pub derives : Derives rules hyps j p
  pub list_is : list ≡ order_of p
  pub low : height_of p ≤ most_levels

-- the rules, the modes of their forms, the hypotheses and the entries
abbrev pub rules_from : Origin → List Rule
rules_from o = bare_rules_in o.rules.now

abbrev pub modes_from : Origin → Modes
modes_from o = modes_of (forms_in o.rules.now)

abbrev pub hyps_from : Origin → Hypotheses
hyps_from o = hypotheses o.given.now

abbrev pub listed_entries : Origin → List Entry
listed_entries o = entries o.list.now

-- no term of a hypothesis is deeper than 1,000
abbrev pub HasShallowGiven : Origin → Type 0
HasShallowGiven o = ShallowJudgements (hyps_from o).judgements

-- the terms of a cursor
abbrev pub cursor_terms : Cursor → List Tree
cursor_terms c = trees c.arena

-- the one cursor goes on from the other
pub record Advances (old new : Cursor) : Type 0 where
  pub arena : IsArena new.arena
  pub extends : Extends (cursor_terms old) (cursor_terms new)

-- a derivation of the judgement stands in the list from the number on
pub record CanBox (o : Origin) (at : ℕ) (j : Judgement) (p : Proof) : Type 0 where
  pub stands : StandsInList (listed_entries o) at p
  pub derives : Derives (rules_from o) (hyps_from o) j p

-- the terms with these numbers are the inputs of the judgement
abbrev pub HaveInputs : Origin → List Tree → List ℕ → Judgement → Type 0
HaveInputs o terms numbers j = map (tree_at terms) numbers ≡ inputs_of (modes_from o) j

-- the derivation is made, and the outputs of what it derives stand at the numbers
pub record IsBoxed (o : Origin) (terms : List Tree) (j : Judgement) (p : Proof) (m : Made) :
    Type 0 where
  pub is : proof m.proof ≡ p
  pub below : AreBelow (length terms) m.outputs.items
  pub outputs : map (tree_at terms) m.outputs.items ≡ outputs_of (modes_from o) j

-- the node is by the rule with the number, and its kids stand in the list from the other number on
pub record IsBoxNode (o : Origin) (at r : ℕ) (d : NodeData) : Type 0 where
  pub found : slice_get (rules_from o) r ≡ Some d.rule
  pub stand : StandEach (listed_entries o) at d.kids
  pub derives : Derives (rules_from o) (hyps_from o) d.judgement (by r d.binds d.kids)

-- of a node with these terms so much is bound with these premises left
abbrev pub IsFollowed : Origin → Rule → List Tree → List Premise → Assignment → Type 0
IsFollowed o rule binds ps env = FollowsNode (modes_from o) rule (bound_by binds) ps env

-- the kid derives the instance of its premise, which is the first that is left
pub record IsBoxKid (o : Origin) (at : ℕ) (j : JudgementOf) (env : Assignment) (d : KidData) :
    Type 0 where
  pub can : CanBox o at (judgement_instance (bound_by d.binds) (judgement j)) d.proof
  pub followed : IsFollowed o d.rule d.binds (holds (judgement j) ∷ d.rest) env
