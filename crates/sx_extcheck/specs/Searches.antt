-- Searches for derivations, and what they answer.
use Rattle.std.specs.Prelude.{◌≡◌, ℕ, ◌+◌, ◌-◌, ◌^◌, ◌≤◌, min, List, [], Some, map, Result, Ok, Err}
use Rattle.std.specs.Global.{Box, Vec}
use Rattle.sx_term.specs.Tree.{Tree}
use Rattle.sx_term.specs.Term.{tree}
use Rattle.sx_rules.specs.Deep.{AreShallow}
use Rattle.sx_rules.specs.declared.entry.Entry.{Entry as EntryOf}
use Rattle.sx_rules.specs.declared.proof.Proof.{Proof as ProofOf}
use Rattle.sx_rules.specs.declared.rule.Hyps.{Hyps}
use Rattle.sx_rules.specs.declared.rule_set.RuleSet.{RuleSet}
use Rattle.sx_rules.specs.Derivations.{height_of, HasShallowBinds, ShallowJudgements}
use Rattle.sx_rules.specs.EntryView.{entries}
use Rattle.sx_rules.specs.First.{Answer}
use Rattle.sx_rules.specs.Modes.{Modes, Goal}
use Rattle.sx_rules.specs.Orders.{Entry, order_of}
use Rattle.sx_rules.specs.ProofView.{proof}
use Rattle.sx_rules.specs.Rules.{Rule, Hypotheses}
use Rattle.sx_rules.specs.Sets.{forms_in, bare_rules_in}
use Rattle.sx_rules.specs.Views.{goal as goal_view, hypotheses, modes_of, subjects_in}
use Rattle.sx_arena.specs.Entered.{ArePairsShallow}
use Rattle.sx_derive.specs.Blames.{blame_of}
use Rattle.sx_derive.specs.declared.derive_error.DeriveError.{DeriveError}
use Rattle.sx_derive.specs.declared.derive_error.DeriveError.TheVariants.{
  Memory as NoMemory,
  Underivable,
  BudgetSpent as TriesSpent,
  DepthSpent as DepthDone,
  TooDeep as DeepTerm,
  TooBig as BigTerm,
}
use Rattle.sx_derive.specs.Search.{Ending, found, stopped, spent, exhausted, walk, tries_of}
use Rattle.sx_derive.specs.Stuck.{Blame, IsStuck}
use Rattle.sx_derive.specs.Walk.{depth_spent, too_deep, too_big, events}
use Rattle.sx_extcheck.specs.declared.check_error.CheckError.{CheckError}
use Rattle.sx_extcheck.specs.declared.check_error.CheckError.TheVariants.{Memory, Defect}
use Rattle.sx_extcheck.specs.declared.flat_goal.FlatGoal.{FlatGoal}
use Rattle.sx_extcheck.specs.declared.rule_refusal.RuleRefusal.TheVariants.{
  Rejected,
  BudgetSpent,
  DepthSpent,
  TooDeep,
  TooBig,
  RewriteSpent,
  RewriteDeep,
}
use Rattle.sx_rules.specs.Limits.{most_levels}

-- what is searched for: a goal with these outputs, from hypotheses, by rules
pub record Search : Type 0 where
  pub modes : Modes
  pub subjects : Modes
  pub rules : List Rule
  pub hyps : Hypotheses
  pub goal : Goal
  pub wanted : List Tree

-- how the walk ends, with that many tries to spend
abbrev pub ending_of : Search → ℕ → Ending
ending_of s tries = walk (Some s.wanted) tries (events s.modes s.rules s.hyps s.goal 1)

-- how many tries it makes
abbrev pub tries_in : Search → ℕ → ℕ
tries_in s tries = tries_of (Some s.wanted) tries (events s.modes s.rules s.hyps s.goal 1)

-- the goal that is stuck
abbrev pub StuckIn : Search → Blame → Type 0
StuckIn s blame = IsStuck s.modes s.subjects s.rules s.hyps most_levels s.goal [] blame

-- the view of a search
abbrev pub search_of : RuleSet → Hyps → FlatGoal → Search
search_of rules given goal = record {
  modes = modes_of (forms_in rules);
  subjects = subjects_in (forms_in rules);
  rules = bare_rules_in rules;
  hyps = hypotheses given;
  goal = goal_view goal.goal;
  wanted = map tree goal.wanted.items;
}

-- no term of the hypotheses, of the goal and of the outputs is deeper than 1,000
pub record IsShallowSearch (s : Search) : Type 0 where
  pub holds : ShallowJudgements s.hyps.judgements
  pub apart : ArePairsShallow s.hyps.pairs
  pub goal : AreShallow s.goal.terms
  pub wanted : AreShallow s.wanted

-- what is answered says what the walk finds, or how the walk ends without a derivation
abbrev pub IsSearchedBy : {X : Type 0} → (X → Type 0) → Search → ℕ → Result X CheckError → Type 0
IsSearchedBy Says s tries (Ok x) = Says x
IsSearchedBy Says s tries (Err Memory) = Unit {0}
IsSearchedBy Says s tries (Err (Defect (Rejected b))) =
    (ending_of s tries ≡ exhausted) × StuckIn s (blame_of b)
IsSearchedBy Says s tries (Err (Defect (BudgetSpent n))) =
    (ending_of s tries ≡ spent) × (n ≡ tries)
IsSearchedBy Says s tries (Err (Defect (DepthSpent n))) =
    (ending_of s tries ≡ stopped depth_spent) × (n ≡ most_levels)
IsSearchedBy Says s tries (Err (Defect (TooDeep n))) =
    (depth : ℕ) × (ending_of s tries ≡ stopped (too_deep depth)) × (n ≡ min depth (2 ^ 64 - 1))
IsSearchedBy Says s tries (Err (Defect (TooBig n))) =
    (size : ℕ) × (ending_of s tries ≡ stopped (too_big size)) × (n ≡ min size (2 ^ 64 - 1))
IsSearchedBy Says s tries (Err (Defect (RewriteSpent n))) = ⊥
IsSearchedBy Says s tries (Err (Defect RewriteDeep)) = ⊥

-- the derivation is the one that the walk finds, and it is within the limits of derivations
abbrev pub FindsProof : Search → ℕ → Box ProofOf → Type 0
FindsProof s tries p =
    ((outs : List Tree) × (ending_of s tries ≡ found (proof p.value, outs)))
    × (height_of (proof p.value) ≤ most_levels) × HasShallowBinds (proof p.value)

-- so where the derivation is answered
abbrev pub IsCheckSearched : Search → ℕ → Result (Box ProofOf) CheckError → Type 0
IsCheckSearched s tries result = IsSearchedBy (FindsProof s tries) s tries result

-- the list is that of the answer that the walk finds, which is within the limits of derivations
pub record FindsList (s : Search) (tries : ℕ) (list : List Entry) (answer : Answer) : Type 0 where
  pub ends : ending_of s tries ≡ found answer
  pub list_is : list ≡ order_of answer.0
  pub low : height_of answer.0 ≤ most_levels
  pub binds : HasShallowBinds answer.0
  pub near : AreShallow answer.1

-- so it is of some answer
abbrev pub FindsSome : Search → ℕ → Vec EntryOf → Type 0
FindsSome s tries list = (a : Answer) × FindsList s tries (entries list.items) a

-- so where a list is answered
abbrev pub IsListSearched : Search → ℕ → Result (Vec EntryOf) CheckError → Type 0
IsListSearched s tries result = IsSearchedBy (FindsSome s tries) s tries result

-- the counter rose by these tries; without memory some of them were made
abbrev pub AreSearchesCounted : {X : Type 0} → ℕ → ℕ → ℕ → Result X CheckError → Type 0
AreSearchesCounted tries first last (Err Memory) = (first ≤ last) × (last ≤ first + tries)
AreSearchesCounted tries first last _ = last ≡ first + tries

-- the error of a search, as out of memory or as a defect
abbrev pub search_defect : DeriveError → CheckError
search_defect NoMemory = Memory
search_defect (Underivable b) = Defect (Rejected b)
search_defect (TriesSpent n) = Defect (BudgetSpent n)
search_defect (DepthDone n) = Defect (DepthSpent n)
search_defect (DeepTerm n) = Defect (TooDeep n)
search_defect (BigTerm n) = Defect (TooBig n)
