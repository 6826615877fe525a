-- The stuck goal of a goal without an answer.
use Rattle.std.specs.Prelude.{
  ◌≡◌,
  ◌≢◌,
  ℕ,
  zero,
  suc,
  Bool,
  true,
  false,
  List,
  [],
  ◌∷◌,
  ◌++◌,
  ◌⊎◌,
  Option,
  Some,
  None,
  nat_eq,
}
use Rattle.sx_term.specs.Tree.{Tree, Trees, node, lexeme, hole, none, ◌▹◌}
use Rattle.sx_rules.specs.Instances.{instance}
use Rattle.sx_arena.specs.Matching.{Assignment, nothing_bound, match_when, match_all, filled}
use Rattle.sx_rules.specs.Rules.{
  Judgement,
  Premise,
  holds,
  apart,
  Rule,
  Hypotheses,
  judgement_instance,
  AreApart,
}
use Rattle.sx_rules.specs.Modes.{Modes, inputs_of, outputs_of, Goal, goal_of}
use Rattle.sx_derive.specs.Walk.{Answer}
use Rattle.sx_derive.specs.Search.{DerivesGoal, IsFirst}

-- why a goal is stuck: no candidate's inputs match; a premise finds two terms not apart; or the
-- outputs got are not those asked for, by a premise or by the first goal
pub data Reason : Type 0 where
  no_rule : Reason
  unequal : ℕ → ℕ → Reason
  mismatch : Option (ℕ × ℕ) → List Tree → Reason

-- a stuck goal, the place of its subject in the first goal's subject, and the reason
pub record Blame : Type 0 where
  pub goal : Goal
  pub path : List ℕ
  pub reason : Reason

-- the place of a variable in a term: which kid leads to it at each node
abbrev pub here_when : Bool → Option (List ℕ)
here_when true = Some []
here_when false = None

-- a place in the kid with that number, or one in a later kid
abbrev pub first_place : ℕ → Option (List ℕ) → Option (List ℕ) → Option (List ℕ)
first_place i (Some place) later = Some (i ∷ place)
first_place i None later = later

abbrev mutual
  pub stuck_place_in : ℕ → Tree → Option (List ℕ)
  stuck_place_in v (node label kids) = place_in_kids v 0 kids
  stuck_place_in v (lexeme kind text) = None
  stuck_place_in v (hole w) = here_when (nat_eq v w)

  pub place_in_kids : ℕ → ℕ → Trees → Option (List ℕ)
  place_in_kids v i none = None
  place_in_kids v i (t ▹ ts) = first_place i (stuck_place_in v t) (place_in_kids v (suc i) ts)

-- the path of a premise's goal: on to the place of the premise's subject in the conclusion's
-- subject; without subjects it stays
abbrev pub longer_path : List ℕ → Option (List ℕ) → List ℕ
longer_path path None = path
longer_path path (Some place) = path ++ place

-- the path on to the place of the first variable of one list in the first term of the other
abbrev pub path_on : List ℕ → List Tree → List Tree → List ℕ
path_on path (hole v ∷ _) (t ∷ _) = longer_path path (stuck_place_in v t)
path_on path _ _ = path

-- the path of the goal of a premise of a rule
abbrev pub path_of : Modes → List ℕ → Rule → Judgement → List ℕ
path_of subjects path rule j =
    path_on path (outputs_of subjects j) (outputs_of subjects rule.conclusion)

-- the bindings under which a rule's inputs are the goal's
abbrev pub rule_match : Modes → Rule → Goal → Option Assignment
rule_match modes rule goal =
    match_when (nat_eq rule.conclusion.form goal.form)
    (match_all (inputs_of modes rule.conclusion) goal.terms nothing_bound)

module _ (modes subjects : Modes) (rules : List Rule) (hyps : Hypotheses) where
  -- the premises from number k on, of a goal's first candidate: the first that fails under first
  -- derivations of those before it
  abbrev pub PremisesStuck : (Goal → List ℕ → Blame → Type 0) → ℕ → Rule → Goal → List ℕ → ℕ →
      List Premise → Assignment → Blame → Type 0
  PremisesStuck Below r rule goal path k [] env blame =
      blame ≡ record {
        goal = goal;
        path = path;
        reason = mismatch None (outputs_of modes (judgement_instance (filled env) rule.conclusion));
      }
  PremisesStuck Below r rule goal path k (apart t u ∷ ps) env blame =
      AreApart hyps (instance (filled env) t) (instance (filled env) u)
      × PremisesStuck Below r rule goal path (suc k) ps env blame
      ⊎ (AreApart hyps (instance (filled env) t) (instance (filled env) u) → ⊥)
      × (blame ≡ record { goal = goal; path = path; reason = unequal r k })
  PremisesStuck Below r rule goal path k (holds j ∷ ps) env blame =
      ((a : Answer) →
      DerivesGoal modes rules hyps (goal_of modes (judgement_instance (filled env) j)) a → ⊥)
      × Below (goal_of modes (judgement_instance (filled env) j)) (path_of subjects path rule j)
      blame
      ⊎ (a : Answer)
      × IsFirst modes rules hyps (goal_of modes (judgement_instance (filled env) j)) None a
      × ((match_all (outputs_of modes j) a.1 env ≡ None)
      × (blame ≡ record {
        goal = goal_of modes (judgement_instance (filled env) j);
        path = path_of subjects path rule j;
        reason = mismatch (Some (r, k)) a.1;
      })
      ⊎ (more : Assignment) × (match_all (outputs_of modes j) a.1 env ≡ Some more)
      × PremisesStuck Below r rule goal path (suc k) ps more blame)

  -- the rules from number r on, of which the first whose inputs match is the candidate
  abbrev pub RulesStuck : (Goal → List ℕ → Blame → Type 0) → ℕ → List Rule → Goal → List ℕ → Blame →
      Type 0
  RulesStuck Below r [] goal path blame =
      blame ≡ record { goal = goal; path = path; reason = no_rule }
  RulesStuck Below r (rule ∷ rest) goal path blame =
      ((env : Assignment) × (rule_match modes rule goal ≡ Some env)
      × PremisesStuck Below r rule goal path 0 rule.premises env blame)
      ⊎ (rule_match modes rule goal ≡ None) × RulesStuck Below (suc r) rest goal path blame

  -- the hypotheses, before the rules
  abbrev pub GivensStuck : Type 0 → List Judgement → Goal → List ℕ → Blame → Type 0
  GivensStuck AmongRules [] goal path blame = AmongRules
  GivensStuck AmongRules (j ∷ js) goal path blame =
      (goal_of modes j ≡ goal)
      × (blame ≡ record { goal = goal; path = path; reason = mismatch None (outputs_of modes j) })
      ⊎ (goal_of modes j ≢ goal) × GivensStuck AmongRules js goal path blame

  -- the stuck goal that a goal at the path leads to, within that many levels
  unfoldable pub IsStuck : ℕ → Goal → List ℕ → Blame → Type 0
  IsStuck zero goal path blame = ⊥
  IsStuck (suc levels) goal path blame =
      GivensStuck (RulesStuck (IsStuck levels) 0 rules goal path blame) hyps.judgements goal path
      blame
