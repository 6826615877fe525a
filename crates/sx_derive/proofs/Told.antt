-- What is told of a walk that has ended.
use Rattle.std.proofs.Common.{◌≡◌, ℕ, List, Option, Result, Ok, Err, IfOk}
use Rattle.sx_term.specs.Tree.{Tree}
use Rattle.sx_rules.specs.First.{Answer, IsFirst}
use Rattle.sx_rules.specs.Modes.{Modes, Goal, AllModed}
use Rattle.sx_rules.specs.Rules.{Rule, Hypotheses}
use Rattle.sx_derive.specs.Deriving.{answer_of, IsToldBy, IsDerived, IsNone}
use Rattle.sx_derive.specs.Listing.{IsListed, ListsFirst}
use Rattle.sx_derive.specs.Quiet.{IsQuiet}
use Rattle.sx_derive.specs.Search.{Ending, exhausted, walk}
use Rattle.sx_derive.specs.Walk.{Event, events}
use Rattle.sx_derive.specs.declared.derive_error.DeriveError.{DeriveError}
use Rattle.sx_derive.specs.declared.derive_error.DeriveError.TheVariants.{Memory, Underivable, BudgetSpent, DepthSpent, TooDeep, TooBig}
use Rattle.sx_derive.specs.declared.derived.Derived.{Derived}
use Rattle.sx_derive.specs.declared.listed.Listed.{Listed}
use Rattle.sx_derive.proofs.Blamed.{exhausted_has_no_stop}
use Rattle.sx_derive.proofs.Quiet.{exhausted_count}
use Rattle.sx_derive.proofs.Walked.{found_is_first, exhausted_means_none}

-- events to whose end a walk comes
pub exhausted_quiet : (wanted : Option (List Tree)) (budget : ℕ) (es : List (Event Answer)) → walk wanted budget es ≡ exhausted → IsQuiet budget es
exhausted_quiet wanted budget es e = record { no_stop = exhausted_has_no_stop wanted budget es e; few = exhausted_count wanted budget es e }

module _ (modes subjects : Modes) (rules : List Rule) (hyps : Hypotheses) (moded : AllModed modes rules) (goal : Goal) (wanted : Option (List Tree)) (budget : ℕ) where
  -- what is derived is the first derivation
  pub told_first : (r : Result Derived DeriveError) → IsDerived modes subjects rules hyps goal wanted budget r → IfOk r (λ d. IsFirst modes rules hyps goal wanted (answer_of d))
  told_first (Ok d) x = found_is_first modes rules hyps moded goal wanted budget 1 (answer_of d) x
  told_first (Err e) x = tt

  -- so is what is listed
  pub told_list : (r : Result Listed DeriveError) → IsListed modes subjects rules hyps goal wanted budget r → IfOk r (λ l. ListsFirst modes rules hyps goal wanted budget l)
  told_list (Ok l) x = record { answer = x.0; finds = x.1; lists = x.2; first = found_is_first modes rules hyps moded goal wanted budget 1 x.0 x.1 }
  told_list (Err e) x = tt

  -- where the goal is told to be underivable there is no derivation
  pub told_none : {X : Type 0} (Says : X → Ending → Type 0) (r : Result X DeriveError) → IsToldBy Says modes subjects rules hyps goal budget (walk wanted budget (events modes rules hyps goal 1)) r → IsNone modes rules hyps goal wanted r
  told_none Says (Ok d) x = tt
  told_none Says (Err Memory) x = tt
  told_none Says (Err (Underivable b)) x = exhausted_means_none modes rules hyps moded goal wanted budget 1 x.0
  told_none Says (Err (BudgetSpent n)) x = tt
  told_none Says (Err (DepthSpent n)) x = tt
  told_none Says (Err (TooDeep n)) x = tt
  told_none Says (Err (TooBig n)) x = tt
