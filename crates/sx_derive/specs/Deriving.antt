-- What `derive` answers.
use Rattle.std.specs.Prelude.{
  ◌≡◌,
  ℕ,
  ◌+◌,
  ◌-◌,
  ◌^◌,
  ◌≤◌,
  List,
  [],
  map,
  min,
  Option,
  Result,
  Ok,
  Err,
}
use Rattle.sx_term.specs.Term.{tree}
use Rattle.sx_term.specs.Tree.{Tree}
use Rattle.sx_rules.specs.First.{Answer, IsUnderivable}
use Rattle.sx_rules.specs.Modes.{Modes, Goal}
use Rattle.sx_rules.specs.ProofView.{proof}
use Rattle.sx_rules.specs.Rules.{Rule, Hypotheses}
use Rattle.sx_derive.specs.Blames.{blame_of}
use Rattle.sx_derive.specs.Search.{Ending, found, stopped, spent, exhausted, walk}
use Rattle.sx_derive.specs.Stuck.{IsStuck}
use Rattle.sx_derive.specs.Walk.{depth_spent, too_deep, too_big, events}
use Rattle.sx_derive.specs.declared.derive_error.DeriveError.{DeriveError}
use Rattle.sx_derive.specs.declared.derive_error.DeriveError.TheVariants.{
  Memory,
  Underivable,
  BudgetSpent,
  DepthSpent,
  TooDeep,
  TooBig,
}
use Rattle.sx_derive.specs.declared.derived.Derived.{Derived}
use Rattle.sx_rules.specs.Limits.{most_levels}

-- a derivation with the outputs of what it derives
abbrev pub answer_of : Derived → Answer
answer_of d = (proof d.proof.value, map tree d.outputs.items)

-- what is answered says how the walk ends, a value by Says; where the walk ends without an answer,
-- the goal that is stuck is told
abbrev pub IsToldBy : {X : Type 0} → (X → Ending → Type 0) → Modes → Modes → List Rule →
    Hypotheses → Goal → ℕ → Ending → Result X DeriveError → Type 0
IsToldBy Says modes subjects rules hyps goal budget ending (Ok x) = Says x ending
IsToldBy Says modes subjects rules hyps goal budget ending (Err Memory) = Unit {0}
IsToldBy Says modes subjects rules hyps goal budget ending (Err (Underivable b)) =
    (ending ≡ exhausted) × IsStuck modes subjects rules hyps most_levels goal [] (blame_of b)
IsToldBy Says modes subjects rules hyps goal budget ending (Err (BudgetSpent n)) =
    (ending ≡ spent) × (n ≡ budget)
IsToldBy Says modes subjects rules hyps goal budget ending (Err (DepthSpent n)) =
    (ending ≡ stopped depth_spent) × (n ≡ most_levels)
IsToldBy Says modes subjects rules hyps goal budget ending (Err (TooDeep n)) =
    (depth : ℕ) × (ending ≡ stopped (too_deep depth)) × (n ≡ min depth (2 ^ 64 - 1))
IsToldBy Says modes subjects rules hyps goal budget ending (Err (TooBig n)) =
    (size : ℕ) × (ending ≡ stopped (too_big size)) × (n ≡ min size (2 ^ 64 - 1))

-- so where a derivation is answered with its outputs
abbrev pub IsTold : Modes → Modes → List Rule → Hypotheses → Goal → ℕ → Ending →
    Result Derived DeriveError → Type 0
IsTold modes subjects rules hyps goal budget ending result =
    IsToldBy (λ d e. e ≡ found (answer_of d)) modes subjects rules hyps goal budget ending result

-- so of the walk of the goal at depth 1
abbrev pub IsDerived : Modes → Modes → List Rule → Hypotheses → Goal → Option (List Tree) → ℕ →
    Result Derived DeriveError → Type 0
IsDerived modes subjects rules hyps goal wanted budget result =
    IsTold modes subjects rules hyps goal budget
    (walk wanted budget (events modes rules hyps goal 1)) result

-- where the goal is told to be underivable, it is so within any depth and size
abbrev pub IsNone : {X : Type 0} → Modes → List Rule → Hypotheses → Goal → Option (List Tree) →
    Result X DeriveError → Type 0
IsNone modes rules hyps goal wanted (Err (Underivable b)) =
    IsUnderivable modes rules hyps goal wanted
IsNone modes rules hyps goal wanted _ = Unit {0}

-- each try of the walk was counted; without memory some of them were
abbrev pub AreCounted : {X : Type 0} → ℕ → ℕ → ℕ → Result X DeriveError → Type 0
AreCounted tries first last (Err Memory) = (first ≤ last) × (last ≤ first + tries)
AreCounted tries first last _ = last ≡ first + tries
