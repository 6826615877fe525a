-- Tasks and their events.
use Rattle.std.proofs.Common.{◌≡◌, ℕ, zero, suc, ◌+◌, ◌-◌, ◌<◌, ◌≤◌, Bool, true, false, List, [], ◌∷◌, ◌++◌, drop, length, get_or, Some, refl, sym, ap, ◌∙◌, arith}
use Rattle.std.specs.Prelude.{slice_get, nat_lt}
use Rattle.sx_term.specs.Tree.{Tree}
use Rattle.sx_rules.specs.Rules.{Judgement, Rule, Hypotheses}
use Rattle.sx_rules.specs.Modes.{Modes, Goal}
use Rattle.sx_derive.specs.Walk.{try, goal_events}
use Rattle.sx_derive.specs.Machine.{Frame, Task, hypotheses_from, rules_from, given_result}
use Rattle.sx_derive.specs.Machine.{rule_result, tasks_events, result_events}
use Rattle.sx_arena.specs.declared.fact.Fact.{Fact}
use Rattle.sx_arena.specs.declared.pairs.Pair.{Pair}
use Rattle.sx_derive.specs.declared.step.Step.{Step}
use Rattle.sx_derive.specs.declared.store.Store.{Store}
use Rattle.sx_derive.specs.declared.tasks.Task.{Task as TaskOf}
use Rattle.sx_derive.specs.Candidates.{goal_in, IsFact, AreFacts, IsCandidateTried}
use Rattle.sx_derive.specs.Handing.{hyps_in, frames_in}
use Rattle.sx_derive.specs.Tasks.{task_when, task_from, IsNextCandidate}
use Rattle.sx_derive.proofs.Stepped.{machine_makes_events}

less_true : (m n : ℕ) → m < n → nat_lt m n ≡ true
less_true m n h = grind (arith, h)

less_false : (m n : ℕ) → n ≤ m → nat_lt m n ≡ false
less_false m n h = grind (arith, h)

drop_here : {X : Type 0} (xs : List X) (i : ℕ) (x : X) → slice_get xs i ≡ Some x → drop i xs ≡ x ∷ drop (suc i) xs
drop_here [] i x e = cc
drop_here (y ∷ xs) zero x e = let f : y ≡ x = cc in ap (λ z. z ∷ xs) f
drop_here (y ∷ xs) (suc i) x e = drop_here xs i x e

drop_past : {X : Type 0} (xs : List X) (i : ℕ) → length xs ≤ i → drop i xs ≡ []
drop_past [] zero h = refl
drop_past [] (suc i) h = refl
drop_past (x ∷ xs) zero h = absurd (omega arith)
drop_past (x ∷ xs) (suc i) h = drop_past xs i (omega arith)

-- the hypothesis of a fact
pub fact_at : (modes : Modes) (ts : List Tree) (js : List Judgement) (fs : List Fact) → AreFacts modes ts js fs → (i : ℕ) (f : Fact) → i < length fs →
    (j : Judgement) × (slice_get js i ≡ Some j) × IsFact modes ts j (get_or fs i f)
fact_at modes ts [] [] a i f l = absurd (omega arith)
fact_at modes ts [] (g ∷ fs) a i f l = absurd a
fact_at modes ts (j ∷ js) [] a i f l = absurd a
fact_at modes ts (j ∷ js) (g ∷ fs) a zero f l = (j, refl, a.0)
fact_at modes ts (j ∷ js) (g ∷ fs) a (suc i) f l = fact_at modes ts js fs a.1 i f (omega arith)

pub facts_length : (modes : Modes) (ts : List Tree) (js : List Judgement) (fs : List Fact) → AreFacts modes ts js fs → length fs ≡ length js
facts_length modes ts [] [] a = refl
facts_length modes ts [] (g ∷ fs) a = absurd a
facts_length modes ts (j ∷ js) [] a = absurd a
facts_length modes ts (j ∷ js) (g ∷ fs) a = let k = facts_length modes ts js fs a.1 in omega arith

module _ (modes : Modes) (rules : List Rule) (hyps : Hypotheses) (levels : ℕ) (goal : Goal) (frames : List Frame) where
  -- the task as one of hypotheses, where it is
  pub task_hypotheses : (next : ℕ) (ts : List Task) → next ≤ length hyps.judgements →
      tasks_events modes rules hyps (hypotheses_from next (drop next hyps.judgements) levels goal frames ∷ ts) ≡ tasks_events modes rules hyps (task_from next hyps.judgements rules levels goal frames ∷ ts)
  task_hypotheses next ts h = go (nat_lt next (length hyps.judgements)) refl
    where
      go : (b : Bool) → nat_lt next (length hyps.judgements) ≡ b →
          tasks_events modes rules hyps (hypotheses_from next (drop next hyps.judgements) levels goal frames ∷ ts) ≡ tasks_events modes rules hyps (task_when (nat_lt next (length hyps.judgements)) next hyps.judgements rules levels goal frames ∷ ts)
      go true e = ap (λ b. tasks_events modes rules hyps (task_when b next hyps.judgements rules levels goal frames ∷ ts)) (sym e)
      go false e =
          let l : length hyps.judgements ≤ next = grind (arith, e) in
          let d = drop_past hyps.judgements next l in
          let z : next - length hyps.judgements ≡ 0 = omega arith in
          ap (λ js. tasks_events modes rules hyps (hypotheses_from next js levels goal frames ∷ ts)) d
          ∙ (machine_makes_events modes rules hyps).hypotheses_end next levels goal frames ts
          ∙ ap (λ r. tasks_events modes rules hyps (rules_from r (drop r rules) levels goal frames ∷ ts)) (sym z)
          ∙ ap (λ b. tasks_events modes rules hyps (task_when b next hyps.judgements rules levels goal frames ∷ ts)) (sym e)

  -- the try of a hypothesis
  pub next_given : (next : ℕ) (j : Judgement) → slice_get hyps.judgements next ≡ Some j → next < length hyps.judgements → (ts : List Task) →
      tasks_events modes rules hyps (task_from next hyps.judgements rules levels goal frames ∷ ts)
      ≡ try ∷ (result_events modes rules hyps (given_result modes hyps next j goal frames) ++ tasks_events modes rules hyps (task_from (suc next) hyps.judgements rules levels goal frames ∷ ts))
  next_given next j e l ts =
      sym (task_hypotheses next ts (omega arith))
      ∙ ap (λ js. tasks_events modes rules hyps (hypotheses_from next js levels goal frames ∷ ts)) (drop_here hyps.judgements next j e)
      ∙ (machine_makes_events modes rules hyps).hypothesis next j (drop (suc next) hyps.judgements) levels goal frames ts
      ∙ ap (λ es. try ∷ (result_events modes rules hyps (given_result modes hyps next j goal frames) ++ es)) (task_hypotheses (suc next) ts (omega arith))

  pub task_rules : (next : ℕ) → length hyps.judgements ≤ next → task_from next hyps.judgements rules levels goal frames ≡ rules_from (next - length hyps.judgements) (drop (next - length hyps.judgements) rules) levels goal frames
  task_rules next h = ap (λ b. task_when b next hyps.judgements rules levels goal frames) (less_false next (length hyps.judgements) h)

  -- the try of a rule
  pub next_rule : (next r : ℕ) (rule : Rule) → next ≡ length hyps.judgements + r → slice_get rules r ≡ Some rule → (ts : List Task) →
      tasks_events modes rules hyps (task_from next hyps.judgements rules levels goal frames ∷ ts)
      ≡ try ∷ (result_events modes rules hyps (rule_result modes hyps r rule levels goal frames) ++ tasks_events modes rules hyps (task_from (suc next) hyps.judgements rules levels goal frames ∷ ts))
  next_rule next r rule n e ts =
      let a : next - length hyps.judgements ≡ r = omega arith in
      let b : suc next - length hyps.judgements ≡ suc r = omega arith in
      ap (λ (t : Task). tasks_events modes rules hyps (t ∷ ts)) (task_rules next (omega arith))
      ∙ ap (λ (k : ℕ). tasks_events modes rules hyps (rules_from k (drop k rules) levels goal frames ∷ ts)) a
      ∙ ap (λ rs. tasks_events modes rules hyps (rules_from r rs levels goal frames ∷ ts)) (drop_here rules r rule e)
      ∙ (machine_makes_events modes rules hyps).rule r rule (drop (suc r) rules) levels goal frames ts
      ∙ ap (λ es. try ∷ (result_events modes rules hyps (rule_result modes hyps r rule levels goal frames) ++ es))
      (ap (λ (k : ℕ). tasks_events modes rules hyps (rules_from k (drop k rules) levels goal frames ∷ ts)) (sym b)
      ∙ ap (λ (t : Task). tasks_events modes rules hyps (t ∷ ts)) (sym (task_rules (suc next) (omega arith))))

  -- no candidate is left
  pub next_none : (next : ℕ) → length hyps.judgements + length rules ≤ next → (ts : List Task) →
      tasks_events modes rules hyps (task_from next hyps.judgements rules levels goal frames ∷ ts) ≡ tasks_events modes rules hyps ts
  next_none next h ts =
      let k = next - length hyps.judgements in
      ap (λ (t : Task). tasks_events modes rules hyps (t ∷ ts)) (task_rules next (omega arith))
      ∙ ap (λ rs. tasks_events modes rules hyps (rules_from k rs levels goal frames ∷ ts)) (drop_past rules k (omega arith))
      ∙ (machine_makes_events modes rules hyps).rules_end k levels goal frames ts

-- the events of a goal are those of its task
pub task_starts : (modes : Modes) (rules : List Rule) (hyps : Hypotheses) (levels : ℕ) (goal : Goal) →
    goal_events modes rules hyps (suc levels) goal ≡ tasks_events modes rules hyps (task_from 0 hyps.judgements rules levels goal [] ∷ [])
task_starts modes rules hyps levels goal = (machine_makes_events modes rules hyps).starts levels goal ∙ task_hypotheses modes rules hyps levels goal [] 0 [] (omega arith)

module _ (modes : Modes) (rules : List Rule) (pairs : List Pair) (js : List Judgement) (old new : Store) (t : TaskOf) (step : Step) where
  pub given_is_next : (j : Judgement) → slice_get js t.next ≡ Some j → t.next < length js →
      IsCandidateTried modes rules pairs old new (λ hyps. given_result modes hyps t.next j (goal_in old t.form t.terms.items) (frames_in modes rules old t.frames)) step → IsNextCandidate modes rules pairs js old new t step
  given_is_next j e l h = record {
    grows = h.grows;
    result = given_result modes (hyps_in pairs old js) t.next j (goal_in old t.form t.terms.items) (frames_in modes rules old t.frames);
    is = h.is js;
    events = next_given modes rules (hyps_in pairs old js) t.levels (goal_in old t.form t.terms.items) (frames_in modes rules old t.frames) t.next j e l;
  }

  pub rule_is_next : (r : ℕ) (rule : Rule) → t.next ≡ length js + r → slice_get rules r ≡ Some rule →
      IsCandidateTried modes rules pairs old new (λ hyps. rule_result modes hyps r rule t.levels (goal_in old t.form t.terms.items) (frames_in modes rules old t.frames)) step → IsNextCandidate modes rules pairs js old new t step
  rule_is_next r rule n e h = record {
    grows = h.grows;
    result = rule_result modes (hyps_in pairs old js) r rule t.levels (goal_in old t.form t.terms.items) (frames_in modes rules old t.frames);
    is = h.is js;
    events = next_rule modes rules (hyps_in pairs old js) t.levels (goal_in old t.form t.terms.items) (frames_in modes rules old t.frames) t.next r rule n e;
  }

pub rule_there : (rules : List Rule) (r : ℕ) → r < length rules → (rule : Rule) × (slice_get rules r ≡ Some rule)
rule_there [] r l = absurd (omega arith)
rule_there (x ∷ rules) zero l = (x, refl)
rule_there (x ∷ rules) (suc r) l = rule_there rules r (omega arith)

pub judgement_there : (js : List Judgement) (i : ℕ) → i < length js → (j : Judgement) × (slice_get js i ≡ Some j)
judgement_there [] i l = absurd (omega arith)
judgement_there (x ∷ js) zero l = (x, refl)
judgement_there (x ∷ js) (suc i) l = judgement_there js i (omega arith)
