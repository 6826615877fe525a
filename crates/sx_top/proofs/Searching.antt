-- What the search answers, as the step that finds the first derivation.
use Rattle.std.proofs.Common.{◌≡◌, ℕ, zero, suc, ◌+◌, ◌≤◌, true, false, Bool, List, [], ◌∷◌, map, refl, sym, ap, ◌∙◌, subst, arith}
use Rattle.std.specs.Prelude.{Result, Ok, Err, Option, Some, None}
use Rattle.sx_term.specs.Tree.{Tree}
use Rattle.sx_rules.specs.declared.rule.Rule.{Rule as RuleOf}
use Rattle.sx_rules.specs.Rules.{Rule, Hypotheses}
use Rattle.sx_rules.specs.Views.{rule, named, goal, modes_of, subjects_in}
use Rattle.sx_rules.specs.First.{Answer}
use Rattle.sx_rules.proofs.Texts.{outputs_have_texts}
use Rattle.sx_core.specs.Problem.{Problem, problem}
use Rattle.sx_core.specs.declared.problem.CoreProblem.{CoreProblem}
use Rattle.sx_derive.specs.Walk.{Event, try, give, stop, events}
use Rattle.sx_derive.specs.Search.{Ending, found, exhausted, walk, tries_of}
use Rattle.sx_derive.specs.Search.{tries_unless, are_wanted}
use Rattle.sx_derive.specs.Stuck.{Blame}
use Rattle.sx_derive.specs.Blames.{blame_of}
use Rattle.sx_derive.specs.BlameTerms.{got_in}
use Rattle.sx_derive.specs.Deriving.{IsToldBy, AreCounted}
use Rattle.sx_derive.specs.Listing.{SaysList, IsListed}
use Rattle.sx_derive.specs.declared.listed.Listed.{Listed}
use Rattle.sx_derive.specs.declared.derive_error.DeriveError.{DeriveError}
use Rattle.sx_derive.specs.declared.derive_error.DeriveError.TheVariants.{Memory, Underivable}
use Rattle.sx_derive.specs.declared.derive_error.DeriveError.TheVariants.{BudgetSpent, DepthSpent}
use Rattle.sx_derive.specs.declared.derive_error.DeriveError.TheVariants.{TooDeep, TooBig}
use Rattle.sx_derive.proofs.Bounded.{answers_are_bounded}
use Rattle.sx_derive.proofs.FoundEach.{found_each}
use Rattle.sx_derive.proofs.Blamed.{exhausted_has_no_stop}
use Rattle.sx_derive.proofs.BlameTexts.{stuck_goal_has_texts}
use Rattle.sx_derive.proofs.BlameDepths.{stuck_goal_is_shallow}
use Rattle.sx_steps.specs.declared.stop.Stop.{Stop}
use Rattle.sx_steps.specs.Stop.{RisesBy, RisesUpTo}
use Rattle.sx_top.specs.FindFirst.{problem_rules}
use Rattle.sx_rules.specs.Rules.{no_hypotheses}
use Rattle.sx_top.specs.CoreStops.{underivable}
use Rattle.sx_steps.specs.Stops.{tries_spent, depth_spent, too_deep, too_big}
use Rattle.sx_top.specs.LowerStops.{derive_stop}
use Rattle.sx_top.specs.Search.{core_goal_events, IsCoreStuckGoal, SearchComesTo, HasCoreWalked, WalksAreWithin}
use Rattle.sx_top.specs.Terms.{AreTerms}
use Rattle.sx_top.specs.Proper.{IsProper, IsWritableAnswer, HasTerms}
use Rattle.sx_top.proofs.Propers.{terms_of}
use Rattle.sx_top.proofs.BuildPromise.{searches_first}

-- ---- rules with their names

bare_rules : (rs : List RuleOf) → map rule rs ≡ map (λ r. r.rule) (map named rs)
bare_rules [] = refl
bare_rules (r ∷ rs) = ap (λ (others : List Rule). rule r ∷ others) (bare_rules rs)

module _ (p : CoreProblem) (hyps : Hypotheses) (none : hyps ≡ no_hypotheses) where
  plain : (P : List Rule → Hypotheses → Type 0) → P (map rule p.rules.rules.items) hyps → P (problem_rules (problem p)) no_hypotheses
  plain P holds =
      subst (λ (h : Hypotheses). P (problem_rules (problem p)) h) none (subst (λ (rs : List Rule). P rs hyps) (bare_rules p.rules.rules.items) holds)

  -- what a search answers is about the plain data of the problem
  pub told_plain : (budget : ℕ) (r : Result Listed DeriveError) → IsListed (modes_of (problem p).forms) (subjects_in (problem p).forms) (map rule p.rules.rules.items) hyps (goal p.goal) None budget r → IsListed (modes_of (problem p).forms) (subjects_in (problem p).forms) (problem_rules (problem p)) no_hypotheses (problem p).goal None budget r
  told_plain budget r told =
      plain (λ rs h. IsListed (modes_of (problem p).forms) (subjects_in (problem p).forms) rs h (problem p).goal None budget r) told

  pub counted_plain : (budget before after : ℕ) (r : Result Listed DeriveError) → AreCounted (tries_of None budget (events (modes_of (problem p).forms) (map rule p.rules.rules.items) hyps (goal p.goal) 1)) before after r → AreCounted (tries_of None budget (core_goal_events (problem p))) before after r
  counted_plain budget before after r counted =
      plain (λ rs h. AreCounted (tries_of None budget (events (modes_of (problem p).forms) rs h (problem p).goal 1)) before after r) counted

-- ---- how the walk ends

module _ (file : List ℕ) (p : Problem) (budget : ℕ) where
  -- an answer is that of the walk
  pub comes_answer : (ending : Ending) (answer : Answer) → ending ≡ found answer → SearchComesTo file p budget ending (Ok answer)
  comes_answer ending answer is = subst (λ (e : Ending). SearchComesTo file p budget e (Ok answer)) (sym is) refl

  -- so is why there is none
  pub comes_stop : (ending : Ending) (e : DeriveError) (end : Stop) → IsToldBy SaysList (modes_of p.forms) (subjects_in p.forms) (problem_rules p) no_hypotheses p.goal budget ending (Err e) → derive_stop file p e ≡ Some end → SearchComesTo file p budget ending (Err end)
  comes_stop ending Memory end told is = absurd cc
  comes_stop ending (Underivable blame) end told is =
      let same : underivable file p (blame_of blame) ≡ end = cc in
      subst (λ (x : Ending). SearchComesTo file p budget x (Err end)) (sym told.0) (blame_of blame, told.1, ap Err (sym same))
  comes_stop ending (BudgetSpent n) end told is =
      let same : tries_spent file n ≡ end = cc in
      subst (λ (x : Ending). SearchComesTo file p budget x (Err end)) (sym told.0) (ap Err (sym same ∙ ap (tries_spent file) told.1))
  comes_stop ending (DepthSpent n) end told is =
      let same : depth_spent file ≡ end = cc in
      subst (λ (x : Ending). SearchComesTo file p budget x (Err end)) (sym told.0) (ap Err (sym same))
  comes_stop ending (TooDeep n) end told is =
      let same : too_deep file n ≡ end = cc in
      subst (λ (x : Ending). SearchComesTo file p budget x (Err end)) (sym told.1) (ap Err (sym same ∙ ap (too_deep file) told.2))
  comes_stop ending (TooBig n) end told is =
      let same : too_big file n ≡ end = cc in
      subst (λ (x : Ending). SearchComesTo file p budget x (Err end)) (sym told.1) (ap Err (sym same ∙ ap (too_big file) told.2))

-- ---- what the walk gives

module _ (p : Problem) (proper : IsProper p) where
  pub searches_given : (file : List ℕ) (budget : ℕ) (a : Answer) → walk None budget (core_goal_events p) ≡ found a → IsWritableAnswer p a
  searches_given file budget a is =
      let first = searches_first file budget p a proper.moded (comes_answer file p budget (walk None budget (core_goal_events p)) a is) in
      let bounds = found_each _ None budget (core_goal_events p) a (answers_are_bounded (modes_of p.forms) (problem_rules p) no_hypotheses tt p.goal 1 proper.shallow) is in
      let texts = outputs_have_texts (modes_of p.forms) (problem_rules p) no_hypotheses proper.moded proper.rules tt p.goal a proper.texts first.derives in
      record { derives = first.derives; height = bounds.0; outputs = terms_of a.1 texts bounds.2 }

  blame_terms : (budget : ℕ) (blame : Blame) → walk None budget (core_goal_events p) ≡ exhausted → IsCoreStuckGoal p blame → AreTerms blame.goal.terms × AreTerms (got_in blame.reason)
  blame_terms budget blame is stuck =
      let texts = stuck_goal_has_texts (modes_of p.forms) (subjects_in p.forms) (problem_rules p) no_hypotheses proper.moded proper.rules tt 3000 p.goal [] blame proper.texts stuck in
      let shallow = stuck_goal_is_shallow (modes_of p.forms) (subjects_in p.forms) (problem_rules p) no_hypotheses proper.moded tt 1 p.goal [] blame proper.shallow (exhausted_has_no_stop None budget (core_goal_events p) is) stuck in
      (terms_of blame.goal.terms texts.0 shallow.0, terms_of (got_in blame.reason) texts.1 shallow.1)

  -- the terms of a stuck goal can be written
  pub told_terms : (budget : ℕ) (e : DeriveError) → IsListed (modes_of p.forms) (subjects_in p.forms) (problem_rules p) no_hypotheses p.goal None budget (Err e) → HasTerms e
  told_terms budget Memory told = tt
  told_terms budget (Underivable blame) told = blame_terms budget (blame_of blame) told.0 told.1
  told_terms budget (BudgetSpent n) told = tt
  told_terms budget (DepthSpent n) told = tt
  told_terms budget (TooDeep n) told = tt
  told_terms budget (TooBig n) told = tt

-- ---- tries

tries_few_unless : (b : Bool) (n budget : ℕ) → n ≤ budget → tries_unless b n ≤ budget
tries_few_unless true n budget few = omega arith
tries_few_unless false n budget few = few

tries_few : (wanted : Option (List Tree)) (budget : ℕ) (es : List (Event Answer)) → tries_of wanted budget es ≤ budget
tries_few wanted budget [] = omega arith
tries_few wanted zero (try ∷ es) = omega arith
tries_few wanted (suc budget) (try ∷ es) = let h = tries_few wanted budget es in omega arith
tries_few wanted budget (stop c ∷ es) = omega arith
tries_few wanted budget (give a ∷ es) = tries_few_unless (are_wanted wanted a.1) _ budget (tries_few wanted budget es)

module _ (p : Problem) (budget before after : ℕ) where
  -- the tries of a walk that gave an answer
  pub counts_answer : (l : Listed) → AreCounted (tries_of None budget (core_goal_events p)) before after (Ok l) → RisesBy (HasCoreWalked budget p) before after
  counts_answer l counted = (tries_of None budget (core_goal_events p), refl, counted)

  -- those of one that was stopped
  pub counts_stop : (file : List ℕ) (e : DeriveError) (end : Stop) → AreCounted {X = Listed} (tries_of None budget (core_goal_events p)) before after (Err e) → derive_stop file p e ≡ Some end → RisesBy (HasCoreWalked budget p) before after
  counts_stop file Memory end counted is = absurd cc
  counts_stop file (Underivable blame) end counted is = (tries_of None budget (core_goal_events p), refl, counted)
  counts_stop file (BudgetSpent n) end counted is = (tries_of None budget (core_goal_events p), refl, counted)
  counts_stop file (DepthSpent n) end counted is = (tries_of None budget (core_goal_events p), refl, counted)
  counts_stop file (TooDeep n) end counted is = (tries_of None budget (core_goal_events p), refl, counted)
  counts_stop file (TooBig n) end counted is = (tries_of None budget (core_goal_events p), refl, counted)

  counted_most : (r : Result Listed DeriveError) → AreCounted (tries_of None budget (core_goal_events p)) before after r → (before ≤ after) × (after ≤ before + tries_of None budget (core_goal_events p))
  counted_most (Ok l) counted = (omega arith, omega arith)
  counted_most (Err Memory) counted = counted
  counted_most (Err (Underivable blame)) counted = (omega arith, omega arith)
  counted_most (Err (BudgetSpent n)) counted = (omega arith, omega arith)
  counted_most (Err (DepthSpent n)) counted = (omega arith, omega arith)
  counted_most (Err (TooDeep n)) counted = (omega arith, omega arith)
  counted_most (Err (TooBig n)) counted = (omega arith, omega arith)

  -- where memory lacked, there were at most as many
  pub counts_short : (r : Result Listed DeriveError) → AreCounted (tries_of None budget (core_goal_events p)) before after r → RisesUpTo (HasCoreWalked budget p) before after
  counts_short r counted = let most = counted_most r counted in (tries_of None budget (core_goal_events p), refl, most.0, most.1)

  -- and never more than the budget
  pub counts_most : (r : Result Listed DeriveError) → AreCounted (tries_of None budget (core_goal_events p)) before after r → (before ≤ after) × (after ≤ before + budget)
  counts_most r counted = let most = counted_most r counted in let few = tries_few None budget (core_goal_events p) in (most.0, let h = most.1 in omega arith)

-- a walk makes no more tries than it may spend
pub within_budget : WalksAreWithin
within_budget budget problem tries walked = let few = tries_few None budget (core_goal_events problem) in omega arith
