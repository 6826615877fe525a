-- How `verify --core` goes through its steps.
use Rattle.std.proofs.Common.{◌≡◌, ℕ, ◌<◌, ◌≤◌, Bool, true, false, List, [], ◌∷◌, ◌++◌, map, Option, Some, None, refl, sym, ap, ◌∙◌, subst, arith}
use Rattle.std.specs.Prelude.{Result, Ok, ◌-◌, ◌^◌, nat_lt, slice_get}
use Rattle.std.proofs.lemmas.Bool.{ltb-true, ltb-false}
use Rattle.sx_outside.specs.Files.{Files}
use Rattle.sx_outside.specs.Faults.{Rose}
use Rattle.sx_term.specs.Tree.{Tree, depth_of}
use Rattle.sx_rules.specs.declared.rule.Rule.{Rule as RuleOf}
use Rattle.sx_rules.specs.Rules.{Rule, Hypotheses}
use Rattle.sx_rules.specs.Instances.{bound_by}
use Rattle.sx_rules.specs.Views.{named, modes_of, rule as rule_of}
use Rattle.sx_rules.specs.Modes.{outputs_of}
use Rattle.sx_rules.specs.Good.{names_of}
use Rattle.sx_rules.specs.Derivations.{Proof, by, given, AreShallow}
use Rattle.sx_rules.specs.First.{Answer, DerivesGoal}
use Rattle.sx_rules.specs.Orders.{Entry, order_of}
use Rattle.sx_rules.proofs.Texts.{outputs_have_texts}
use Rattle.sx_core.specs.Problem.{Problem, problem}
use Rattle.sx_core.specs.declared.problem.CoreProblem.{CoreProblem}
use Rattle.sx_replay.specs.Limits.{first_of, first_deep}
use Rattle.sx_replay.specs.Fronts.{asked_of, concluded_of, whole, made_in, made_below}
use Rattle.sx_replay.specs.Replay.{IsWithin, IsReplayAnswer}
use Rattle.sx_top.specs.FindFirst.{problem_rules}
use Rattle.sx_rules.specs.Rules.{no_hypotheses}
use Rattle.sx_top.specs.Terms.{AreTerms}
use Rattle.sx_top.specs.Proper.{IsProper}
use Rattle.sx_steps.specs.Stop.{IsNoFault, OnlyReads}
use Rattle.sx_steps.specs.declared.step_error.StepError.{StepError}
use Rattle.sx_top.proofs.Propers.{terms_of}

-- ---- equals for equals

pub same_two : {X Y : Type 0} (P : X → Y → Type 0) (x z : X) (y w : Y) → x ≡ z → y ≡ w → P x y → P z w
same_two {X} {Y} P x z y w one other holds = subst (λ (u : Y). P z u) other (subst (λ (u : X). P u y) one holds)

-- ---- reads

-- two reads, of which the first failed nothing
pub reads_then : {X Y : Type 0} (old mid new : Option Files) (reads reads_between reads_after writes writes_between writes_after : ℕ) (value : X) (later : Result Y StepError) →
    OnlyReads old mid reads reads_between writes writes_between (Ok value) → OnlyReads mid new reads_between reads_after writes_between writes_after later →
    OnlyReads old new reads reads_after writes writes_after later
reads_then old mid new reads reads_between reads_after writes writes_between writes_after value later a b =
    let ar = a.reads in
    let br = b.reads in
    record {
      content = b.content ∙ a.content;
      reads = omega arith;
      writes = b.writes ∙ a.writes;
      cause = λ fault room. let rose = b.cause fault in rises reads reads_between reads_after ar br rose room;
      kept = λ still. b.kept still ∙ a.kept (λ fault. fault);
      never = b.never;
    }
  where
    rises : (x y z : ℕ) → x ≤ y → y ≤ z → Rose y z → Rose x z
    rises x y z l m rose room = go (nat_lt y (2 ^ 64 - 1)) refl
      where
        go : (b : Bool) → nat_lt y (2 ^ 64 - 1) ≡ b → x < z
        go true e = let k = rose (ltb-true y (2 ^ 64 - 1) e) in omega arith
        go false e = let k = ltb-false y (2 ^ 64 - 1) e in omega arith

-- no read
pub reads_none : {X : Type 0} (old : Option Files) (reads writes : ℕ) (result : Result X StepError) → IsNoFault result → OnlyReads old old reads reads writes writes result
reads_none old reads writes result none = record { content = refl; reads = omega arith; writes = refl; cause = λ fault. absurd (none.0 fault); kept = λ still. refl; never = none.1 }

-- ---- lists

-- the names of the rules of a set are those of its plain rules
pub names_are : (rs : List RuleOf) → map (λ r. r.name) (map named rs) ≡ names_of rs
names_are [] = refl
names_are (r ∷ rs) = ap (λ (names : List (List ℕ)). r.name ∷ names) (names_are rs)

-- so are the rules themselves
bare_rules : (rs : List RuleOf) → map rule_of rs ≡ map (λ r. r.rule) (map named rs)
bare_rules [] = refl
bare_rules (r ∷ rs) = ap (λ (others : List Rule). rule_of r ∷ others) (bare_rules rs)

-- what holds by the rules of a set, without hypotheses, holds by those of its problem
pub by_plain : (p : CoreProblem) (P : List Rule → Hypotheses → Type 0) (hyps : Hypotheses) → hyps ≡ no_hypotheses → P (map rule_of p.rules.rules.items) hyps → P (problem_rules (problem p)) no_hypotheses
by_plain p P hyps none holds =
    subst (λ (h : Hypotheses). P (problem_rules (problem p)) h) none (subst (λ (rs : List Rule). P rs hyps) (bare_rules p.rules.rules.items) holds)

-- ---- outputs

first_none : (b : Bool) (n : ℕ) (later : Option ℕ) → first_of b n later ≡ None → (b ≡ false) × (later ≡ None)
first_none true n later e = absurd cc
first_none false n later e = (refl, e)

deep_later : (ts us : List Tree) → first_deep (ts ++ us) ≡ None → first_deep us ≡ None
deep_later [] us e = e
deep_later (t ∷ ts) us e = deep_later ts us (first_none (nat_lt 1000 (depth_of t)) (depth_of t) (first_deep (ts ++ us)) e).1

none_deep : (ts : List Tree) → first_deep ts ≡ None → AreShallow ts
none_deep [] e = tt
none_deep (t ∷ ts) e =
    let f = first_none (nat_lt 1000 (depth_of t)) (depth_of t) (first_deep ts) e in
    (ltb-false 1000 (depth_of t) f.0, none_deep ts f.1)

module _ (p : Problem) where
  no_given : {A : Type 0} (i : ℕ) (a : A) → slice_get [] i ≡ Some a → ⊥
  no_given i a e = absurd cc

  -- the outputs are the last terms that a derivation makes
  made_last : (q : Proof) (outs : List Tree) → DerivesGoal (modes_of p.forms) (problem_rules p) no_hypotheses p.goal (q, outs) → (front : List Tree) × (made_in (modes_of p.forms) (problem_rules p) q ≡ front ++ outs)
  made_last (given i) outs (j, g, o, d) = absurd (no_given i j d)
  made_last (by r binds kids) outs (j, g, o, (rule, at, few, concluded, all_apart, each)) =
      let front = made_below (modes_of p.forms) (problem_rules p) (asked_of (slice_get (problem_rules p) r)) (bound_by binds) kids in
      (front, ap (λ ts. front ++ ts) (ap (λ x. concluded_of (modes_of p.forms) x (bound_by binds)) at ∙ ap (outputs_of (modes_of p.forms)) concluded ∙ o))

  pub replayed_shallow : (list : List Entry) (outs : List Tree) → IsWithin (modes_of p.forms) (problem_rules p) no_hypotheses p.goal (whole outs) list → AreShallow outs
  replayed_shallow list outs w =
      let front = w.front in
      let last = made_last front.0 outs front.1 in
      none_deep outs (deep_later last.0 outs (ap first_deep (sym last.1 ∙ front.3) ∙ w.shallow))

  -- what is replayed can be written
  pub replayed_terms : IsProper p → (list : List Entry) (outs : List Tree) → IsReplayAnswer (modes_of p.forms) (problem_rules p) no_hypotheses p.goal list (Ok outs) → AreTerms outs
  replayed_terms proper list outs w =
      let front = w.front in
      let have = outputs_have_texts (modes_of p.forms) (problem_rules p) no_hypotheses proper.moded proper.rules tt p.goal (front.0, outs) proper.texts front.1 in
      terms_of outs have (replayed_shallow list outs w)

-- what is replayed is the list of a derivation with the outputs
pub replayed_derives : (p : Problem) (list : List Entry) (outs : List Tree) → IsReplayAnswer (modes_of p.forms) (problem_rules p) no_hypotheses p.goal list (Ok outs) →
    (answer : Answer) × DerivesGoal (modes_of p.forms) (problem_rules p) no_hypotheses p.goal answer × (order_of answer.0 ≡ list) × (answer.1 ≡ outs)
replayed_derives p list outs w = let front = w.front in ((front.0, outs), front.1, front.2, refl)
