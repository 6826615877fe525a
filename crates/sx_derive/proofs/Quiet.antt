-- Events without a stop, and how many tries stand among them.
use Rattle.std.proofs.Common.{◌≡◌, ℕ, zero, suc, ◌+◌, ◌≤◌, Bool, true, false, List, [], ◌∷◌, ◌++◌, Option, Some, None, refl, ap, arith, subst}
use Rattle.sx_term.specs.Tree.{Tree}
use Rattle.sx_rules.specs.Instances.{instance}
use Rattle.sx_rules.specs.Rules.{Judgement, Premise, holds, apart, Hypotheses, judgement_instance}
use Rattle.sx_rules.specs.Modes.{Modes, inputs_of, outputs_of, Goal, goal_of}
use Rattle.sx_arena.specs.Matching.{Assignment, match_all, match_when, filled}
use Rattle.sx_derive.specs.Walk.{Cause, Event, try, give, stop, Answer, then_each, when, when_matched, limit_passed, unless_passed, are_apart, put_first, after_kid, premise_events}
use Rattle.sx_derive.specs.Search.{exhausted, are_wanted, found_when, walk}
use Rattle.sx_derive.proofs.Blamed.{stop_left, stop_right, stop-then_each, stop-first}
use Rattle.sx_derive.specs.Quiet.{count, IsQuiet, first_given}

pub count-append : {A : Type 0} (es fs : List (Event A)) → count (es ++ fs) ≡ count es + count fs
count-append [] fs = omega arith
count-append (try ∷ es) fs = let k = count-append es fs in omega arith
count-append (stop c ∷ es) fs = count-append es fs
count-append (give a ∷ es) fs = count-append es fs

pub count-then_each : {A B : Type 0} (f : A → List (Event B)) (es : List (Event A)) → count es ≤ count (then_each f es)
count-then_each f [] = omega arith
count-then_each f (try ∷ es) = let k = count-then_each f es in omega arith
count-then_each f (stop c ∷ es) = count-then_each f es
count-then_each f (give a ∷ es) = let k = count-then_each f es in let l = count-append (f a) (then_each f es) in omega arith

pub count-first : {A B : Type 0} (f : A → List (Event B)) (es : List (Event A)) (a : A) → first_given es ≡ Some a → count (f a) ≤ count (then_each f es)
count-first f [] a e = cc
count-first f (try ∷ es) a e = let k = count-first f es a e in omega arith
count-first f (stop c ∷ es) a e = cc
count-first f (give b ∷ es) a e =
    let same_answer : b ≡ a = cc in
    let l = count-append (f b) (then_each f es) in
    let k = ap (λ x. count (f x)) same_answer in
    omega arith

-- a walk that comes to the end of the events has tries enough for all of them
pub exhausted_count : (wanted : Option (List Tree)) (budget : ℕ) (es : List (Event Answer)) → walk wanted budget es ≡ exhausted → count es ≤ budget
exhausted_count wanted budget [] e = omega arith
exhausted_count wanted zero (try ∷ es) e = cc
exhausted_count wanted (suc budget) (try ∷ es) e = let k = exhausted_count wanted budget es e in omega arith
exhausted_count wanted budget (stop c ∷ es) e = cc
exhausted_count wanted budget (give a ∷ es) e = go (are_wanted wanted a.1) e (λ f. exhausted_count wanted budget es f)
  where
    go : (b : Bool) → found_when b a (walk wanted budget es) ≡ exhausted → (walk wanted budget es ≡ exhausted → count es ≤ budget) → count es ≤ budget
    go true f rec = cc
    go false f rec = rec f

pub quiet_left : {A : Type 0} (n : ℕ) (es fs : List (Event A)) → IsQuiet n (es ++ fs) → IsQuiet n es
quiet_left n es fs q = record {
  no_stop = λ s. q.no_stop (stop_left es fs s);
  few = (let l = q.few in let k = count-append es fs in omega arith);
}

pub quiet_right : {A : Type 0} (n : ℕ) (es fs : List (Event A)) → IsQuiet n (es ++ fs) → IsQuiet n fs
quiet_right n es fs q = record {
  no_stop = λ s. q.no_stop (stop_right es fs s);
  few = (let l = q.few in let k = count-append es fs in omega arith);
}

pub quiet_each : {A B : Type 0} (n : ℕ) (f : A → List (Event B)) (es : List (Event A)) → IsQuiet n (then_each f es) → IsQuiet n es
quiet_each n f es q = record {
  no_stop = λ s. q.no_stop (stop-then_each f es s);
  few = (let l = q.few in let k = count-then_each f es in omega arith);
}

pub quiet_first : {A B : Type 0} (n : ℕ) (f : A → List (Event B)) (es : List (Event A)) (a : A) → first_given es ≡ Some a → IsQuiet n (then_each f es) → IsQuiet n (f a)
quiet_first n f es a e q = record {
  no_stop = λ s. q.no_stop (stop-first f es a e s);
  few = (let l = q.few in let k = count-first f es a e in omega arith);
}

pub quiet_when : {A : Type 0} (n : ℕ) (b : Bool) (es : List (Event A)) → b ≡ true → IsQuiet n (when b es) → IsQuiet n es
quiet_when n true es e q = q
quiet_when n false es e q = cc

pub quiet_matched : {A : Type 0} (n : ℕ) (m : Option Assignment) (f : Assignment → List (Event A)) (env : Assignment) → m ≡ Some env → IsQuiet n (when_matched m f) → IsQuiet n (f env)
quiet_matched n None f env e q = cc
quiet_matched {A} n (Some more) f env e q = let same_env : more ≡ env = cc in subst (λ (x : Assignment). IsQuiet n (f x)) same_env q

pub quiet_try : {A : Type 0} (n : ℕ) (es : List (Event A)) → IsQuiet n (try ∷ es) → IsQuiet n es
quiet_try n es q = record { no_stop = λ s. q.no_stop s; few = (let l = q.few in omega arith) }

-- a rule whose inputs match
pub quiet_rule : {A : Type 0} (n : ℕ) (b : Bool) (m : Option Assignment) (f : Assignment → List (Event A)) (env : Assignment) → match_when b m ≡ Some env → IsQuiet n (when b (when_matched m f)) → IsQuiet n (f env)
quiet_rule n false m f env e q = cc
quiet_rule n true m f env e q = quiet_matched n m f env e q

pub quiet_unless : {A : Type 0} (n : ℕ) (c : Option Cause) (es : List (Event A)) → IsQuiet n (unless_passed c es) → (c ≡ None) × IsQuiet n es
quiet_unless n None es q = (refl, q)
quiet_unless n (Some c) es q = absurd (q.no_stop tt)

module _ (modes : Modes) (hyps : Hypotheses) (below : Goal → List (Event Answer)) (n : ℕ) where
  -- two terms that are apart
  pub quiet_apart : (s t : Tree) (ps : List Premise) (env : Assignment) → are_apart hyps (instance (filled env) s) (instance (filled env) t) ≡ true →
      IsQuiet n (premise_events modes hyps below (apart s t ∷ ps) env) → IsQuiet n (premise_events modes hyps below ps env)
  quiet_apart s t ps env e q = quiet_when n (are_apart hyps (instance (filled env) s) (instance (filled env) t)) (premise_events modes hyps below ps env) e q

  -- a premise's goal passes no limit, and its events are quiet
  pub quiet_goal : (j : Judgement) (ps : List Premise) (env : Assignment) → IsQuiet n (premise_events modes hyps below (holds j ∷ ps) env) →
      (limit_passed (inputs_of modes (judgement_instance (filled env) j)) ≡ None) × IsQuiet n (below (goal_of modes (judgement_instance (filled env) j)))
  quiet_goal j ps env q =
      let made = judgement_instance (filled env) j in
      let f = after_kid (premise_events modes hyps below ps) (outputs_of modes j) env in
      let u = quiet_unless n (limit_passed (inputs_of modes made)) (then_each f (below (goal_of modes made))) q in
      (u.0, quiet_each n f (below (goal_of modes made)) u.1)

  -- after the first answer of a premise's goal the events of the premises behind it are quiet
  pub quiet_rest : (j : Judgement) (ps : List Premise) (env more : Assignment) (a : Answer) → first_given (below (goal_of modes (judgement_instance (filled env) j))) ≡ Some a →
      match_all (outputs_of modes j) a.1 env ≡ Some more → IsQuiet n (premise_events modes hyps below (holds j ∷ ps) env) → IsQuiet n (premise_events modes hyps below ps more)
  quiet_rest j ps env more a e m q =
      let made = judgement_instance (filled env) j in
      let next = premise_events modes hyps below ps in
      let f = after_kid next (outputs_of modes j) env in
      let u = quiet_unless n (limit_passed (inputs_of modes made)) (then_each f (below (goal_of modes made))) q in
      let v = quiet_first n f (below (goal_of modes made)) a e u.1 in
      let w = quiet_matched n (match_all (outputs_of modes j) a.1 env) (λ x. then_each (put_first a.0) (next x)) more m v in
      quiet_each n (put_first a.0) (next more) w
