-- Where a goal without an answer leads: it is stuck, or a premise's goal leads on.
use Rattle.std.specs.Prelude.{
  ◌≡◌,
  ℕ,
  suc,
  ◌≤◌,
  List,
  [],
  ◌∷◌,
  ◌⊎◌,
  Option,
  Some,
  None,
  map,
  length,
  reverse,
}
use Rattle.sx_rules.specs.Rules.{Judgement, Premise, Rule, Hypotheses}
use Rattle.sx_rules.specs.Deep.{AreShallow}
use Rattle.sx_rules.specs.Modes.{Modes, Goal}
use Rattle.sx_arena.specs.Arena.{tree_at, AreBelow}
use Rattle.sx_arena.specs.Binds.{env_at}
use Rattle.sx_arena.specs.Facts.{AreFacts}
use Rattle.sx_arena.specs.Matching.{Assignment}
use Rattle.sx_arena.specs.Pairs.{pairs_of, ArePairs}
use Rattle.sx_arena.specs.declared.fact.Fact.{Fact}
use Rattle.sx_arena.specs.declared.pairs.Pair.{Pair}
use Rattle.sx_derive.specs.Candidates.{goal_in}
use Rattle.sx_derive.specs.Failing.{FailsAlong, PremisesFail, RulesFail}
use Rattle.sx_derive.specs.Quiet.{IsQuiet}
use Rattle.sx_derive.specs.Store.{store_trees, store_envs}
use Rattle.sx_derive.specs.Stuck.{
  Reason as ReasonData,
  no_rule,
  unequal,
  mismatch,
  Blame,
  path_of,
  rule_match,
  PremisesStuck,
  RulesStuck,
  IsStuck,
}
use Rattle.sx_derive.specs.Walk.{goal_events}
use Rattle.sx_derive.specs.declared.descent.Descent.{Descent}
use Rattle.sx_derive.specs.declared.descent.Descent.TheVariants.{Stuck, Below}
use Rattle.sx_derive.specs.declared.descent.Reason.{Reason}
use Rattle.sx_derive.specs.declared.descent.Reason.TheVariants.{NoRule, Equal, Mismatch}
use Rattle.sx_derive.specs.declared.descent.Spot.{Spot}
use Rattle.sx_derive.specs.declared.store.Store.{Store}

-- the facts and the pairs are the hypotheses by their numbers
pub record AreHyps (modes : Modes) (s : Store) (facts : List Fact) (pairs : List Pair)
    (hyps : Hypotheses) : Type 0 where
  pub facts_are : AreFacts modes (store_trees s) hyps.judgements facts
  pub pairs_below : ArePairs (length (store_trees s)) pairs
  pub pairs_are : pairs_of (store_trees s) pairs ≡ hyps.pairs

-- a goal by its numbers
abbrev pub spot_goal : Store → Spot → Goal
spot_goal s spot = goal_in s spot.form spot.terms.items

-- a reason by its numbers
abbrev pub reason_in : Store → Reason → ReasonData
reason_in s NoRule = no_rule
reason_in s (Equal rule premise) = unequal rule premise
reason_in s (Mismatch by got) = mismatch by (map (tree_at (store_trees s)) got.items)

-- the numbers of a reason are of terms that are there
abbrev pub ReasonBelow : ℕ → Reason → Type 0
ReasonBelow n NoRule = Unit {0}
ReasonBelow n (Equal rule premise) = Unit {0}
ReasonBelow n (Mismatch by got) = AreBelow n got.items

-- a stuck goal by its numbers
abbrev pub blame_in : Store → Spot → Reason → Blame
blame_in s spot reason =
    record { goal = spot_goal s spot; path = spot.path.items; reason = reason_in s reason }

module _ (modes : Modes) (rules : List Rule) (hyps : Hypotheses) (levels : ℕ) where
  -- the premises fail as the notes say, of which the first is that of the premise without an answer
  abbrev pub PremisesFailAlong : List ℕ → List Premise → Assignment → Type 0
  PremisesFailAlong notes ps env =
      (k : ℕ) (ks : List ℕ) → notes ≡ k ∷ ks →
      PremisesFail modes rules hyps (FailsAlong modes rules hyps levels)
      (goal_events modes rules hyps levels) 0 k ks ps env

  -- the goal fails among the rules as the notes say
  abbrev pub RulesFailAlong : List ℕ → Goal → Type 0
  RulesFailAlong notes goal =
      (k : ℕ) (ks : List ℕ) → notes ≡ k ∷ ks →
      RulesFail modes rules hyps (FailsAlong modes rules hyps levels)
      (goal_events modes rules hyps levels) k ks rules goal

module _ (modes subjects : Modes) (rules : List Rule) (hyps : Hypotheses) (budget levels : ℕ) where
  -- the premises of a rule from a number on lead to the blame
  abbrev pub PremisesLead : ℕ → Rule → Goal → List ℕ → ℕ → List Premise → Assignment → Blame →
      Type 0
  PremisesLead r rule goal path k ps env blame =
      PremisesStuck modes subjects rules hyps (IsStuck modes subjects rules hyps levels) r rule goal
      path k ps env blame

  -- the rules lead to the blame
  abbrev pub RulesLead : Goal → List ℕ → Blame → Type 0
  RulesLead goal path blame =
      RulesStuck modes subjects rules hyps (IsStuck modes subjects rules hyps levels) 0 rules goal
      path blame

  -- the blame is one that is led to, or whatever the goal below leads to is; its terms are no
  -- deeper than 1,000, its events are quiet, and the notes, its own the last, say where it fails
  abbrev pub IsDescent : Store → List ℕ → (Blame → Type 0) → Descent → Type 0
  IsDescent s notes Leads (Stuck spot reason) =
      AreBelow (length (store_trees s)) spot.terms.items
      × ReasonBelow (length (store_trees s)) reason × Leads (blame_in s spot reason)
  IsDescent s notes Leads (Below spot) =
      AreBelow (length (store_trees s)) spot.terms.items × AreShallow (spot_goal s spot).terms
      × IsQuiet budget (goal_events modes rules hyps levels (spot_goal s spot))
      × FailsAlong modes rules hyps levels (spot_goal s spot) (reverse notes)
      × ((blame : Blame) →
      IsStuck modes subjects rules hyps levels (spot_goal s spot) spot.path.items blame →
      Leads blame)

-- the goal of a premise by its numbers, at its path
pub record IsPremiseSpot (subjects : Modes) (rule : Rule) (j : Judgement) (terms path : List ℕ)
    (spot : Spot) : Type 0 where
  pub form : spot.form ≡ j.form
  pub terms_are : spot.terms.items ≡ terms
  pub path_is : spot.path.items ≡ path_of subjects path rule j

-- the first rule from number r on whose inputs match, and the chain that states the match
abbrev pub IsFirstRule : Modes → Store → Goal → ℕ → List Rule → Option (ℕ × ℕ) → Type 0
IsFirstRule modes s goal r [] x = x ≡ None
IsFirstRule modes s goal r (rule ∷ rest) x =
    ((env : ℕ) × (x ≡ Some (r, env)) × (env ≤ length s.binds.cells.items)
    × (rule_match modes rule goal ≡ Some (env_at (store_envs s) env)))
    ⊎ (rule_match modes rule goal ≡ None) × IsFirstRule modes s goal (suc r) rest x

-- the fact is of the form and has the inputs
abbrev pub HasInputs : ℕ → List ℕ → Fact → Type 0
HasInputs form terms f = (f.form ≡ form) × (f.inputs.items ≡ terms)

-- the first such fact, where there is one
abbrev pub IsFirstFact : ℕ → List ℕ → List Fact → Option Fact → Type 0
IsFirstFact form terms [] x = x ≡ None
IsFirstFact form terms (f ∷ fs) x =
    HasInputs form terms f × (x ≡ Some f) ⊎ (HasInputs form terms f → ⊥)
    × IsFirstFact form terms fs x
