-- Derivations that are being built in preorder, and the lists of their entries.
use Rattle.std.specs.Prelude.{◌≡◌, ℕ, ◌+◌, max, List, [], ◌∷◌, ◌++◌, Option, Some, None, slice_get}
use Rattle.std.specs.Prelude.{nat_eq}
use Rattle.sx_term.specs.Tree.{Tree}
use Rattle.sx_rules.specs.Instances.{instance, bound_by}
use Rattle.sx_rules.specs.Rules.{Judgement, Premise, holds, apart, Rule, Hypotheses}
use Rattle.sx_rules.specs.Rules.{judgement_instance, judgements_of, AreApart}
use Rattle.sx_rules.specs.Modes.{Modes, inputs_of, outputs_of, Goal, goal_of}
use Rattle.sx_rules.specs.Derivations.{Proof, Proofs, by, given, no_more, ◌⊳◌, height_of}
use Rattle.sx_rules.specs.Derivations.{most_height}
use Rattle.sx_rules.specs.Orders.{Entry, of_rule, order_of, order_of_all}
use Rattle.sx_rules.specs.First.{DerivesGoal}
use Rattle.sx_arena.specs.Matching.{Assignment, nothing_bound, match_when, match_all, filled}

-- a derivation that is being built: without an entry, or by a rule, with the kids that are whole
-- and the kid in work
pub data Partial : Type 0 where
  unbegun : Partial
  begun : ℕ → Proofs → Partial → Partial

-- its entries in preorder
abbrev pub partial_order : Partial → List Entry
partial_order unbegun = []
partial_order (begun r kids f) = of_rule r ∷ (order_of_all kids ++ partial_order f)

-- the greatest depth at which an entry of it stands; the first goal has depth 1
abbrev pub partial_height : Partial → ℕ
partial_height unbegun = 0
partial_height (begun r kids f) = max (most_height kids) (partial_height f) + 1

-- the judgements among the premises of a rule, where there is one
abbrev pub asked_of : Option Rule → List Judgement
asked_of None = []
asked_of (Some rule) = judgements_of rule.premises

-- the outputs of its conclusion under a substitution
abbrev pub concluded_of : Modes → Option Rule → (ℕ → Tree) → List Tree
concluded_of modes None s = []
concluded_of modes (Some rule) s = outputs_of modes (judgement_instance s rule.conclusion)

-- the bindings under which the inputs of a rule's conclusion are the goal's
abbrev pub entry_match : Modes → Rule → Goal → Option Assignment
entry_match modes rule goal = match_when (nat_eq rule.conclusion.form goal.form)
    (match_all (inputs_of modes rule.conclusion) goal.terms nothing_bound)

-- how far a derivation is: with goals left, or whole, with its outputs
pub data DerivationStage : Type 0 where
  open_one : DerivationStage
  whole : List Tree → DerivationStage

module _ (modes : Modes) (rules : List Rule) where
  -- the terms that a derivation makes, in this order: for each judgement among the premises its
  -- inputs and then those that its derivation makes, and at last the outputs of the conclusion
  abbrev mutual
    pub made_in : Proof → List Tree
    made_in (given i) = []
    made_in (by r binds kids) = made_below (asked_of (slice_get rules r)) (bound_by binds) kids
        ++ concluded_of modes (slice_get rules r) (bound_by binds)

    pub made_below : List Judgement → (ℕ → Tree) → Proofs → List Tree
    made_below [] s kids = []
    made_below (j ∷ js) s no_more = []
    made_below (j ∷ js) s (p ⊳ kids) = inputs_of modes (judgement_instance s j)
        ++ (made_in p ++ made_below js s kids)

  module _ (hyps : Hypotheses) where
    -- with these bindings the kids derive the first judgements among the premises, with outputs
    -- that match, and each `!=` up to the next judgement holds; what is left are the premises
    -- `rest` with the bindings `last`, and the terms are those made so far
    abbrev pub ArePassed : List Premise → Assignment → Proofs → List Tree → List Premise →
        Assignment → Type 0
    ArePassed [] env no_more terms rest last = (terms ≡ []) × (rest ≡ []) × (last ≡ env)
    ArePassed [] env (p ⊳ kids) terms rest last = ⊥
    ArePassed (apart t u ∷ ps) env kids terms rest last =
        AreApart hyps (instance (filled env) t) (instance (filled env) u) ×
        ArePassed ps env kids terms rest last
    ArePassed (holds j ∷ ps) env no_more terms rest last =
        (terms ≡ []) × (rest ≡ (holds j ∷ ps)) × (last ≡ env)
    ArePassed (holds j ∷ ps) env (p ⊳ kids) terms rest last =
        (outs : List Tree) × DerivesGoal modes rules hyps
        (goal_of modes (judgement_instance (filled env) j)) (p, outs)
        × ((more : Assignment) × (match_all (outputs_of modes j) outs env ≡ Some more)
        × ((later : List Tree) × (terms ≡ inputs_of modes (judgement_instance (filled env) j)
        ++ (made_in p ++ later)) × ArePassed ps more kids later rest last))

    -- the partial derivation is one of the goal, and makes these terms
    abbrev pub IsBegun : Partial → Goal → List Tree → Type 0
    IsBegun unbegun goal terms = terms ≡ []
    IsBegun (begun r kids f) goal terms =
        (rule : Rule) × (slice_get rules r ≡ Some rule)
        × ((env : Assignment) × (entry_match modes rule goal ≡ Some env)
        × ((j : Judgement) × (ps : List Premise) × (last : Assignment) × (before : List Tree) ×
        (after : List Tree)
        × ArePassed rule.premises env kids before (holds j ∷ ps) last
        × IsBegun f (goal_of modes (judgement_instance (filled last) j)) after
        × (terms ≡ before ++ (inputs_of modes (judgement_instance (filled last) j) ++ after))))

    -- the list is that of a derivation of the goal at this stage, which makes these terms, with
    -- entries down to this depth
    abbrev pub IsFront : Goal → DerivationStage → List Entry → List Tree → ℕ → Type 0
    IsFront goal open_one list terms depth =
        (f : Partial) × IsBegun f goal terms × (partial_order f ≡ list) × (partial_height f ≡ depth)
    IsFront goal (whole outs) list terms depth =
        (p : Proof) × DerivesGoal modes rules hyps goal (p, outs) × (order_of p ≡ list) ×
        (made_in p ≡ terms) × (height_of p ≡ depth)
