use Rattle.std.proofs.Common.{◌≡◌, ◌+◌, ◌-◌, ◌<◌, ℕ, suc, List, [], ◌∷◌, ◌++◌, reverse, length, map, drop, Some, IfOk, None, refl, sym, ap, ◌∙◌, arith, rules, subst, append-nil}
use Rattle.sx_rules.specs.Rules.{Judgement, Rule, holds}
use Rattle.sx_rules.specs.declared.rule.Premise.{Premise as PremiseOf}
use Rattle.sx_arena.specs.Arena.{tree_at, AreBelow}
use Rattle.sx_arena.specs.Places.{IsLimit}
use Rattle.sx_arena.specs.Views.{rules_of, set_modes, rule_of, premise_of, judgement_of}
use Rattle.sx_arena.proofs.Growing.{extends-length}
use Rattle.sx_arena.proofs.Patterns.{ok_weaker}
use Rattle.sx_derive.specs.Candidates.{goal_in}
use Rattle.sx_derive.specs.Failing.{FailsAlong}
use Rattle.sx_derive.specs.Givens.{HasFacts, GrowsIn}
use Rattle.sx_derive.specs.Handing.{hyps_in, answer_in}
use Rattle.sx_derive.specs.Runs.{candidates_of, FitIn, PiledIn, StandFrom, left_by}
use Rattle.sx_derive.specs.Store.{store_trees}
use Rattle.sx_derive.specs.Traced.{IsAnswerTaken, IsFirstCandidate, IsTracedUnder, PremiseTraced, CandidateTraced}
use Rattle.sx_derive.specs.Tracing.{ComesToBy, IsPremiseTracedBy, IsTracedBy}
use Rattle.sx_derive.specs.Turns.{AreKeptBelow, PutsBehind}
use Rattle.sx_derive.specs.Walk.{limit_passed}
use Rattle.sx_derive.specs.Walked.{events_in}
use Rattle.sx_derive.specs.declared.store.Store.{Store}
use Rattle.sx_derive.specs.declared.tasks.Ending.TheVariants.{Passed, DepthSpent}
use Rattle.sx_derive.specs.declared.tasks.Task.{Task as TaskOf}
use Rattle.sx_derive.specs.declared.trace.Premised.TheVariants.{Holds, Fails, Halts}
use Rattle.sx_derive.specs.declared.trace.Traced.TheVariants.{Answered, Failed}
use Rattle.sx_derive.proofs.AnswerTaken.{ok_with}
use Rattle.sx_derive.proofs.ApartTraces.{apart_failed, apart_passed}
use Rattle.sx_derive.proofs.CandidateTraces.{Going, comes_after, going_first, going_as, going_more, going_fails, going_halts, going_passed, going_end}
use Rattle.sx_derive.proofs.GoalTraces.{fails_none, number_within, chain_within, later_piled, goal_spent, goal_answered, failed_piled, failed_comes}
use Rattle.sx_derive.proofs.Halted.{after_none}
use Rattle.sx_derive.proofs.Above.{behind_both, base_within, above_base, kept_behind}
use Rattle.sx_derive.proofs.PremiseTraces.{JudgementWaits, none_limit, mid_grows, mid_waits, mid_before, judgement_passed, judgement_deep, judgement_halted, judgement_failed, taken_grows, judgement_taken}
use Rattle.sx_derive.proofs.Premised.{shallow_premise_at, drop_premise, drop_premises_end, premise_get}
use Rattle.sx_derive.proofs.Resumed.{shallow_at}
use Rattle.sx_derive.proofs.FactsGrown.{facts_grown, pairs_grown}
use Rattle.sx_derive.proofs.Tried.{one_rule}
use Rattle.sx_derive.proofs.Turned.{piled_fits, piled_later, events_stay}
use Rattle.sx_derive.proofs.Underneath.{under_store, under_traced}
use Rattle.sx_derive.proofs.Walking.{first_events, first_piled}
use Rattle.sx_derive.proofs.trace.+trace.Goals as goal
use Rattle.sx_derive.proofs.trace.+trace.Goals.{trace_judgement-Start, trace_judgement-In_ok-terms, trace_judgement-Else-from-eq0, trace_judgement-In-Answered, trace_rule-After-index, trace-After-len-base, trace-In_ok-push-in-None, trace-In-Some, trace-In-Failed}

-- the rule waits at the premise
waits : (t : ℕ) (c : trace_judgement-Start t) → JudgementWaits (set_modes c.args.given.now.rules.now) (rules_of c.args.given.now.rules.now) c.args.given.now.pairs.now c.args.from c.requires.waits.0 (judgement_of c.args.judgement.now) c.args.store.now
waits t c = record {
  store = c.requires.store;
  pairs_there = c.requires.pairs;
  env_there = c.requires.env;
  kids_there = c.requires.kids;
  until = c.requires.before;
  found = c.requires.waits.1;
  premise = c.requires.waits.2;
}

-- the goal's terms are made
made : (t : ℕ) (c : trace_judgement-In_ok-terms t) → JudgementWaits (set_modes c.args.given.now.rules.now) (rules_of c.args.given.now.rules.now) c.args.given.now.pairs.now c.args.from c.requires.waits.0 (judgement_of c.args.judgement.now) c.args.store.now → GrowsIn c.args.given.now c.args.store.now c.made_inputs.new.store
made t c w = mid_grows (set_modes c.args.given.now.rules.now) (rules_of c.args.given.now.rules.now) c.args.given.now.pairs.now c.requires.facts.0 c.args.from c.requires.waits.0 (judgement_of c.args.judgement.now) c.args.store.now w c.made_inputs.new.store c.in_ok-terms.terms.items c.in_ok-terms.ensures

-- they pass no limit, and a level is left
fine : (t : ℕ) (c : trace_judgement-Else-from-eq0 t) → limit_passed (map (tree_at (store_trees c.made_inputs.new.store)) c.in_ok-terms.terms.items) ≡ None
fine t c = none_limit (limit_passed (map (tree_at (store_trees c.made_inputs.new.store)) c.in_ok-terms.terms.items)) c.passed.result (subst (λ (is : List ℕ). IsLimit (limit_passed (map (tree_at (store_trees c.made_inputs.new.store)) is)) c.passed.result) c.deref.ensures.value c.passed.ensures) c.in_default.not-Some

leveled : (t : ℕ) (c : trace_judgement-Else-from-eq0 t) → 0 < c.args.from.levels
leveled t c = let l = c.if-from-eq0.false in omega arith

-- the facts are there still
facts_made : (t : ℕ) (c : trace_judgement-In_ok-terms t) → GrowsIn c.args.given.now c.args.store.now c.made_inputs.new.store → HasFacts c.args.given.now c.made_inputs.new.store c.requires.facts.0
facts_made t c g = facts_grown c.args.given.now c.args.store.now c.made_inputs.new.store c.requires.facts.0 g c.requires.facts.1

-- what the goal comes to, where it has an answer
came : (t : ℕ) (c : trace_judgement-In-Answered t) (js : List Judgement) → HasFacts c.args.given.now c.made_inputs.new.store js →
    IsTracedUnder (set_modes c.args.given.now.rules.now) (rules_of c.args.given.now.rules.now) c.args.given.now.pairs.now js (candidates_of c.args.given.now) c.made_inputs.new.store c.trace_under.new.store c.args.tries.now c.trace_under.new.tries c.args.from (c.args.from.levels - 1) (judgement_of c.args.judgement.now).form c.in_ok-terms.terms.items c.in_ok-noted.ensures.0 (Answered c.in-Answered.head c.in-Answered.outputs)
came t c js a = rw c.in-Answered.is at (c.in_ok-noted.ensures.2 js a)

under_grown : (t : ℕ) (c : trace_judgement-In-Answered t) (js : List Judgement) → JudgementWaits (set_modes c.args.given.now.rules.now) (rules_of c.args.given.now.rules.now) c.args.given.now.pairs.now c.args.from c.requires.waits.0 (judgement_of c.args.judgement.now) c.args.store.now → limit_passed (map (tree_at (store_trees c.made_inputs.new.store)) c.in_ok-terms.terms.items) ≡ None → 0 < c.args.from.levels → HasFacts c.args.given.now c.made_inputs.new.store js → GrowsIn c.args.given.now c.args.store.now c.trace_under.new.store
under_grown t c js w f l a = taken_grows (set_modes c.args.given.now.rules.now) (rules_of c.args.given.now.rules.now) c.args.given.now.pairs.now js c.args.from c.requires.waits.0 (judgement_of c.args.judgement.now) c.args.store.now w c.made_inputs.new.store c.in_ok-terms.terms.items c.in_ok-terms.ensures f l (candidates_of c.args.given.now) c.args.tries.now c.trace_under.new.tries c.trace_under.new.store c.in-Answered.head c.in-Answered.outputs c.in_ok-noted.ensures.0 (came t c js a)

pub trace_under-trace-traced-requires : goal.trace_under-trace-traced-requires
trace_under-trace-traced-requires t c =
    let h = under_store (set_modes c.args.given.now.rules.now) (rules_of c.args.given.now.rules.now) c.args.given.now.pairs.now c.args.store.now c.args.from c.requires.store c.requires.waits c.requires.before c.push_waiting.new.frames c.in_ok-store.field-0 c.in_ok-store.ensures.items c.in_ok-store.ensures.chain in
    (search rules, (c.requires.few, (c.requires.facts, (h, (c.requires.pairs, (c.requires.levels, c.requires.terms))))))

pub trace_under-returns : goal.trace_under-returns
trace_under-returns t c =
    ok_weaker _ _ (λ x h. (
      h.0,
      h.1,
      λ js a. under_traced (set_modes c.args.given.now.rules.now) (rules_of c.args.given.now.rules.now) c.args.given.now.pairs.now c.args.store.now c.args.from c.requires.store c.requires.waits c.requires.before c.push_waiting.new.frames c.in_ok-store.field-0 c.in_ok-store.ensures.items c.in_ok-store.ensures.chain
          js c.requires.pairs (candidates_of c.args.given.now) c.trace-traced.new.store c.args.goal.levels c.args.goal.form c.args.goal.terms.items h.0 c.args.tries.now c.trace-traced.new.tries x (h.2 js a),
    )) c.trace-traced.result c.trace-traced.ensures

pub trace_judgement-returns-in-Some : goal.trace_judgement-returns-in-Some
trace_judgement-returns-in-Some t c = (
  [],
  sym (append-nil c.args.tasks.now.items),
  λ js rule tasks a fit f.
      one_rule (λ (x : Rule). PremiseTraced (set_modes c.args.given.now.rules.now) (rules_of c.args.given.now.rules.now) c.args.given.now.pairs.now js (candidates_of c.args.given.now) c.args.store.now c.made_inputs.new.store c.args.tries.now c.args.tries.now c.args.from x (holds (judgement_of c.args.judgement.now)) (drop (c.args.from.premise + 1) x.premises) tasks (tasks ++ []) (Halts (Passed c.in-Some.limit))) (rules_of c.args.given.now.rules.now) c.args.from.rule c.requires.waits.0 c.requires.waits.1
      (judgement_passed (set_modes c.args.given.now.rules.now) (rules_of c.args.given.now.rules.now) c.args.given.now.pairs.now js c.args.from c.requires.waits.0 (judgement_of c.args.judgement.now) c.args.store.now (waits t (goal.at.trace_judgement-returns-in-Some t c).Start) c.made_inputs.new.store c.in_ok-terms.terms.items c.in_ok-terms.ensures (candidates_of c.args.given.now) c.args.tries.now tasks (tasks ++ []) c.in-Some.limit
      (subst (λ (is : List ℕ). IsLimit (limit_passed (map (tree_at (store_trees c.made_inputs.new.store)) is)) (Some c.in-Some.limit)) c.deref.ensures.value c.in-Some.ensures)) rule f,
)

pub trace_judgement-returns-then-from-eq0 : goal.trace_judgement-returns-then-from-eq0
trace_judgement-returns-then-from-eq0 t c = (
  [],
  sym (append-nil c.args.tasks.now.items),
  λ js rule tasks a fit f.
      one_rule (λ (x : Rule). PremiseTraced (set_modes c.args.given.now.rules.now) (rules_of c.args.given.now.rules.now) c.args.given.now.pairs.now js (candidates_of c.args.given.now) c.args.store.now c.made_inputs.new.store c.args.tries.now c.args.tries.now c.args.from x (holds (judgement_of c.args.judgement.now)) (drop (c.args.from.premise + 1) x.premises) tasks (tasks ++ []) (Halts DepthSpent)) (rules_of c.args.given.now.rules.now) c.args.from.rule c.requires.waits.0 c.requires.waits.1
      (judgement_deep (set_modes c.args.given.now.rules.now) (rules_of c.args.given.now.rules.now) c.args.given.now.pairs.now js c.args.from c.requires.waits.0 (judgement_of c.args.judgement.now) c.args.store.now (waits t (goal.at.trace_judgement-returns-then-from-eq0 t c).Start) c.made_inputs.new.store c.in_ok-terms.terms.items c.in_ok-terms.ensures
      (none_limit (limit_passed (map (tree_at (store_trees c.made_inputs.new.store)) c.in_ok-terms.terms.items)) c.passed.result (subst (λ (is : List ℕ). IsLimit (limit_passed (map (tree_at (store_trees c.made_inputs.new.store)) is)) c.passed.result) c.deref.ensures.value c.passed.ensures) c.in_default.not-Some)
      c.if-from-eq0.true (candidates_of c.args.given.now) c.args.tries.now tasks (tasks ++ [])) rule f,
)

pub trace_judgement-returns-in-Halted : goal.trace_judgement-returns-in-Halted
trace_judgement-returns-in-Halted t c =
    let e = (goal.at.trace_judgement-returns-in-Halted t c).Else-from-eq0 in
    let g = made t (goal.at.trace_judgement-returns-in-Halted t c).In_ok-terms (waits t (goal.at.trace_judgement-returns-in-Halted t c).Start) in (
      c.in_ok-noted.ensures.0,
      c.in_ok-noted.ensures.1,
      λ js rule tasks a fit f.
          one_rule (λ (x : Rule). PremiseTraced (set_modes c.args.given.now.rules.now) (rules_of c.args.given.now.rules.now) c.args.given.now.pairs.now js (candidates_of c.args.given.now) c.args.store.now c.trace_under.new.store c.args.tries.now c.trace_under.new.tries c.args.from x (holds (judgement_of c.args.judgement.now)) (drop (c.args.from.premise + 1) x.premises) tasks (tasks ++ c.in_ok-noted.ensures.0) (Halts c.in-Halted.ending)) (rules_of c.args.given.now.rules.now) c.args.from.rule c.requires.waits.0 c.requires.waits.1
          (judgement_halted (set_modes c.args.given.now.rules.now) (rules_of c.args.given.now.rules.now) c.args.given.now.pairs.now js c.args.from c.requires.waits.0 (judgement_of c.args.judgement.now) c.args.store.now (waits t (goal.at.trace_judgement-returns-in-Halted t c).Start) c.made_inputs.new.store c.in_ok-terms.terms.items c.in_ok-terms.ensures (fine t e) (leveled t e) (candidates_of c.args.given.now) c.args.tries.now c.trace_under.new.tries c.trace_under.new.store tasks c.in_ok-noted.ensures.0 (tasks ++ c.in_ok-noted.ensures.0) c.in-Halted.ending
          (rw c.in-Halted.is at (c.in_ok-noted.ensures.2 js (facts_grown c.args.given.now c.args.store.now c.made_inputs.new.store js g a)))) rule f,
    )

pub trace_judgement-trace_under-requires : goal.trace_judgement-trace_under-requires
trace_judgement-trace_under-requires t c =
    let w = (waits t (goal.at.trace_judgement-trace_under-requires t c).Start) in
    let k = c.in_ok-terms.ensures in
    let g = made t (goal.at.trace_judgement-trace_under-requires t c).In_ok-terms w in
    let l = c.requires.levels in
    let b = facts_made t (goal.at.trace_judgement-trace_under-requires t c).In_ok-terms g in (
      search rules,
      (
        c.requires.few,
        (
          (c.requires.facts.0, b),
          (
            g.store,
            (
              pairs_grown c.args.given.now c.args.store.now c.made_inputs.new.store g c.requires.pairs,
              (
                mid_waits (set_modes c.args.given.now.rules.now) (rules_of c.args.given.now.rules.now) c.args.given.now.pairs.now c.requires.facts.0 c.args.from c.requires.waits.0 (judgement_of c.args.judgement.now) c.args.store.now w c.made_inputs.new.store c.in_ok-terms.terms.items c.in_ok-terms.ensures,
                (
                  mid_before (set_modes c.args.given.now.rules.now) (rules_of c.args.given.now.rules.now) c.args.given.now.pairs.now c.requires.facts.0 c.args.from c.requires.waits.0 (judgement_of c.args.judgement.now) c.args.store.now w c.made_inputs.new.store c.in_ok-terms.terms.items c.in_ok-terms.ensures,
                  (
                    (omega arith),
                    k.held.within,
                  ),
                ),
              ),
            ),
          ),
        ),
      ),
    )

pub trace_judgement-take_answer-requires-clause-store : goal.trace_judgement-take_answer-requires-clause-store
trace_judgement-take_answer-requires-clause-store t c =
    let y = (goal.at.trace_judgement-take_answer-requires-clause-store t c).In-Answered in
    let e = (goal.at.trace_judgement-take_answer-requires-clause-store t c).Else-from-eq0 in
    let w = (waits t (goal.at.trace_judgement-take_answer-requires-clause-store t c).Start) in
    let b = facts_made t (goal.at.trace_judgement-take_answer-requires-clause-store t c).In_ok-terms (made t (goal.at.trace_judgement-take_answer-requires-clause-store t c).In_ok-terms w) in
    (under_grown t y c.requires.facts.0 w (fine t e) (leveled t e) b).store

pub trace_judgement-take_answer-requires-clause-env : goal.trace_judgement-take_answer-requires-clause-env
trace_judgement-take_answer-requires-clause-env t c =
    let y = (goal.at.trace_judgement-take_answer-requires-clause-env t c).In-Answered in
    let e = (goal.at.trace_judgement-take_answer-requires-clause-env t c).Else-from-eq0 in
    let w = (waits t (goal.at.trace_judgement-take_answer-requires-clause-env t c).Start) in
    let b = facts_made t (goal.at.trace_judgement-take_answer-requires-clause-env t c).In_ok-terms (made t (goal.at.trace_judgement-take_answer-requires-clause-env t c).In_ok-terms w) in
    (let u = under_grown t y c.requires.facts.0 w (fine t e) (leveled t e) b in let l = extends-length _ _ u.bind_cells in let k = c.requires.env in omega arith)

pub trace_judgement-take_answer-requires-clause-kids : goal.trace_judgement-take_answer-requires-clause-kids
trace_judgement-take_answer-requires-clause-kids t c =
    let y = (goal.at.trace_judgement-take_answer-requires-clause-kids t c).In-Answered in
    let e = (goal.at.trace_judgement-take_answer-requires-clause-kids t c).Else-from-eq0 in
    let w = (waits t (goal.at.trace_judgement-take_answer-requires-clause-kids t c).Start) in
    let b = facts_made t (goal.at.trace_judgement-take_answer-requires-clause-kids t c).In_ok-terms (made t (goal.at.trace_judgement-take_answer-requires-clause-kids t c).In_ok-terms w) in
    (let u = under_grown t y c.requires.facts.0 w (fine t e) (leveled t e) b in let l = extends-length _ _ u.kid_cells in let k = c.requires.kids in omega arith)

pub trace_judgement-take_answer-requires-clause-head : goal.trace_judgement-take_answer-requires-clause-head
trace_judgement-take_answer-requires-clause-head t c =
    let y = (goal.at.trace_judgement-take_answer-requires-clause-head t c).In-Answered in
    let w = (waits t (goal.at.trace_judgement-take_answer-requires-clause-head t c).Start) in
    let b = facts_made t (goal.at.trace_judgement-take_answer-requires-clause-head t c).In_ok-terms (made t (goal.at.trace_judgement-take_answer-requires-clause-head t c).In_ok-terms w) in
    (came t y c.requires.facts.0 b).0

pub trace_judgement-take_answer-requires-clause-outputs : goal.trace_judgement-take_answer-requires-clause-outputs
trace_judgement-take_answer-requires-clause-outputs t c =
    let y = (goal.at.trace_judgement-take_answer-requires-clause-outputs t c).In-Answered in
    let w = (waits t (goal.at.trace_judgement-take_answer-requires-clause-outputs t c).Start) in
    let b = facts_made t (goal.at.trace_judgement-take_answer-requires-clause-outputs t c).In_ok-terms (made t (goal.at.trace_judgement-take_answer-requires-clause-outputs t c).In_ok-terms w) in
    subst (λ is. AreBelow (length (store_trees c.trace_under.new.store)) is) (sym c.deref-in-Answered.ensures.value) (came t y c.requires.facts.0 b).1

pub trace_judgement-returns-in_ok-push-in-Failed : goal.trace_judgement-returns-in_ok-push-in-Failed
trace_judgement-returns-in_ok-push-in-Failed t c =
    let e = (goal.at.trace_judgement-returns-in_ok-push-in-Failed t c).Else-from-eq0 in
    let g = made t (goal.at.trace_judgement-returns-in_ok-push-in-Failed t c).In_ok-terms (waits t (goal.at.trace_judgement-returns-in_ok-push-in-Failed t c).Start) in (
      c.in_ok-noted.ensures.0,
      c.in_ok-noted.ensures.1,
      λ js rule tasks a fit f.
          one_rule (λ (x : Rule). PremiseTraced (set_modes c.args.given.now.rules.now) (rules_of c.args.given.now.rules.now) c.args.given.now.pairs.now js (candidates_of c.args.given.now) c.args.store.now c.trace_under.new.store c.args.tries.now c.trace_under.new.tries c.args.from x (holds (judgement_of c.args.judgement.now)) (drop (c.args.from.premise + 1) x.premises) tasks (tasks ++ c.in_ok-noted.ensures.0) (Fails c.push.new.self)) (rules_of c.args.given.now.rules.now) c.args.from.rule c.requires.waits.0 c.requires.waits.1
          (judgement_failed (set_modes c.args.given.now.rules.now) (rules_of c.args.given.now.rules.now) c.args.given.now.pairs.now js c.args.from c.requires.waits.0 (judgement_of c.args.judgement.now) c.args.store.now (waits t (goal.at.trace_judgement-returns-in_ok-push-in-Failed t c).Start) c.made_inputs.new.store c.in_ok-terms.terms.items c.in_ok-terms.ensures (fine t e) (leveled t e) (candidates_of c.args.given.now) c.args.tries.now c.trace_under.new.tries c.trace_under.new.store c.in-Failed.noted c.push.new.self c.in_ok-push-in-Failed.ensures.items c.in_ok-noted.ensures.0
          (rw c.in-Failed.is at (c.in_ok-noted.ensures.2 js (facts_grown c.args.given.now c.args.store.now c.made_inputs.new.store js g a))) tasks fit) rule f,
    )

pub trace_judgement-returns-in-Answered : goal.trace_judgement-returns-in-Answered
trace_judgement-returns-in-Answered t c =
    let y = (goal.at.trace_judgement-returns-in-Answered t c).In-Answered in
    let e = (goal.at.trace_judgement-returns-in-Answered t c).Else-from-eq0 in
    let g = made t (goal.at.trace_judgement-returns-in-Answered t c).In_ok-terms (waits t (goal.at.trace_judgement-returns-in-Answered t c).Start) in
    ok_with (GrowsIn c.args.given.now c.trace_under.new.store c.take_answer.new.store) (λ p. IsAnswerTaken (set_modes c.args.given.now.rules.now) c.trace_under.new.store c.take_answer.new.store c.args.from (judgement_of c.args.judgement.now) (answer_in c.trace_under.new.store c.in-Answered.head c.deref-in-Answered.result.now) p) (λ p. PutsBehind c.args.tasks.now.items c.trace_under.new.tasks.items (IsPremiseTracedBy c.args.given.now c.args.store.now c.take_answer.new.store c.args.tries.now c.trace_under.new.tries c.args.from (holds (judgement_of c.args.judgement.now)) p))
    (λ p v k. (
      c.in_ok-noted.ensures.0,
      c.in_ok-noted.ensures.1,
      λ js rule tasks a fit f.
          one_rule (λ (x : Rule). PremiseTraced (set_modes c.args.given.now.rules.now) (rules_of c.args.given.now.rules.now) c.args.given.now.pairs.now js (candidates_of c.args.given.now) c.args.store.now c.take_answer.new.store c.args.tries.now c.trace_under.new.tries c.args.from x (holds (judgement_of c.args.judgement.now)) (drop (c.args.from.premise + 1) x.premises) tasks (tasks ++ c.in_ok-noted.ensures.0) p) (rules_of c.args.given.now.rules.now) c.args.from.rule c.requires.waits.0 c.requires.waits.1
          (judgement_taken (set_modes c.args.given.now.rules.now) (rules_of c.args.given.now.rules.now) c.args.given.now.pairs.now js c.args.from c.requires.waits.0 (judgement_of c.args.judgement.now) c.args.store.now (waits t (goal.at.trace_judgement-returns-in-Answered t c).Start) c.made_inputs.new.store c.in_ok-terms.terms.items c.in_ok-terms.ensures (fine t e) (leveled t e) (candidates_of c.args.given.now) c.args.tries.now c.trace_under.new.tries c.trace_under.new.store c.in-Answered.head c.in-Answered.outputs c.in_ok-noted.ensures.0 (came t y js (facts_grown c.args.given.now c.args.store.now c.made_inputs.new.store js g a)) tasks fit c.take_answer.new.store v p
          (subst (λ is. IsAnswerTaken (set_modes c.args.given.now.rules.now) c.trace_under.new.store c.take_answer.new.store c.args.from (judgement_of c.args.judgement.now) (answer_in c.trace_under.new.store c.in-Answered.head is) p) c.deref-in-Answered.ensures.value k)) rule f,
    ))
    c.take_answer.result c.take_answer.ensures.grows c.take_answer.ensures.taken

pub trace_premise-returns-then-not-branch : goal.trace_premise-returns-then-not-branch
trace_premise-returns-then-not-branch t c = (
  [],
  sym (append-nil c.args.tasks.now.items),
  λ js rule tasks a fit f.
      subst (λ (x : PremiseOf). PremiseTraced (set_modes c.args.given.now.rules.now) (rules_of c.args.given.now.rules.now) c.args.given.now.pairs.now js (candidates_of c.args.given.now) c.args.store.now (record { arena = c.instances_apart.new.arena; binds = c.args.store.now.binds; kids = c.args.store.now.kids; frames = c.args.store.now.frames; until = c.args.store.now.until }) c.args.tries.now c.args.tries.now c.args.from rule (premise_of x) (drop (c.args.from.premise + 1) rule.premises) tasks (tasks ++ []) (Fails c.new.result)) (sym c.in-Apart.is)
      (apart_failed (set_modes c.args.given.now.rules.now) (rules_of c.args.given.now.rules.now) c.args.given.now.pairs.now js (candidates_of c.args.given.now) c.args.from rule _ _ (drop (c.args.from.premise + 1) rule.premises) c.args.store.now (record { arena = c.instances_apart.new.arena; binds = c.args.store.now.binds; kids = c.args.store.now.kids; frames = c.args.store.now.frames; until = c.args.store.now.until }) tasks c.args.tries.now c.requires.store c.requires.pairs c.requires.env c.requires.kids fit c.in_ok-instances_apart-in-Apart.field-0 c.in_ok-instances_apart-in-Apart.ensures refl refl refl refl c.if-not-branch.true c.new.result c.new.ensures.items),
)

pub trace_premise-returns-else-not-branch : goal.trace_premise-returns-else-not-branch
trace_premise-returns-else-not-branch t c = (
  [],
  sym (append-nil c.args.tasks.now.items),
  λ js rule tasks a fit f.
      subst (λ (x : PremiseOf). PremiseTraced (set_modes c.args.given.now.rules.now) (rules_of c.args.given.now.rules.now) c.args.given.now.pairs.now js (candidates_of c.args.given.now) c.args.store.now (record { arena = c.instances_apart.new.arena; binds = c.args.store.now.binds; kids = c.args.store.now.kids; frames = c.args.store.now.frames; until = c.args.store.now.until }) c.args.tries.now c.args.tries.now c.args.from rule (premise_of x) (drop (c.args.from.premise + 1) rule.premises) tasks (tasks ++ []) (Holds c.args.from.env c.args.from.kids)) (sym c.in-Apart.is)
      (apart_passed (set_modes c.args.given.now.rules.now) (rules_of c.args.given.now.rules.now) c.args.given.now.pairs.now js (candidates_of c.args.given.now) c.args.from rule _ _ (drop (c.args.from.premise + 1) rule.premises) c.args.store.now (record { arena = c.instances_apart.new.arena; binds = c.args.store.now.binds; kids = c.args.store.now.kids; frames = c.args.store.now.frames; until = c.args.store.now.until }) tasks c.args.tries.now c.requires.store c.requires.pairs c.requires.env c.requires.kids fit c.in_ok-instances_apart-in-Apart.field-0 c.in_ok-instances_apart-in-Apart.ensures refl refl refl refl c.if-not-branch.false),
)

pub trace_premise-returns-in-Holds : goal.trace_premise-returns-in-Holds
trace_premise-returns-in-Holds t c =
    subst (λ (x : PremiseOf). IfOk c.trace_judgement.result (λ p. PutsBehind c.args.tasks.now.items c.trace_judgement.new.tasks.items (IsPremiseTracedBy c.args.given.now c.args.store.now c.trace_judgement.new.store c.args.tries.now c.trace_judgement.new.tries c.args.from (premise_of x) p))) (sym c.in-Holds.is) c.trace_judgement.ensures

pub trace_rule-loop-k-init : goal.trace_rule-loop-k-init
trace_rule-loop-k-init t c = (
  [],
  sym (append-nil c.args.tasks.now.items),
  λ js tasks a fit. going_first (set_modes c.args.given.now.rules.now) (rules_of c.args.given.now.rules.now) c.args.given.now.pairs.now js (candidates_of c.args.given.now) c.args.candidate.now.number (rule_of c.args.candidate.now.rule.now) c.args.levels c.args.store.now c.args.candidate.now.env c.args.tries.now tasks c.requires.store fit c.requires.env,
)

-- the premise is there
there : (t : ℕ) (c : trace_rule-After-index t) → c.loop-k.k < length c.args.candidate.now.rule.now.premises.items
there t c = let a = c.loop-k-test.true in let b = c.len-k-end.ensures in let e = c.args.candidate.now.rule.now.premises.ok in omega arith

-- what holds before it
before : (t : ℕ) (c : trace_rule-After-index t) (js : List Judgement) (tasks : List TaskOf) → HasFacts c.args.given.now c.args.store.now js → FitIn c.args.given.now c.args.store.now tasks →
    Going (set_modes c.args.given.now.rules.now) (rules_of c.args.given.now.rules.now) c.args.given.now.pairs.now js (candidates_of c.args.given.now) c.args.candidate.now.number (rule_of c.args.candidate.now.rule.now) c.args.levels c.args.store.now c.args.candidate.now.env c.args.tries.now tasks c.loop-k.store c.loop-k.tries c.loop-k.k (premise_of c.index.result.now ∷ (drop (c.loop-k.k + 1) (map premise_of c.args.candidate.now.rule.now.premises.items))) c.loop-k.env c.loop-k.kids (tasks ++ c.loop-k.invariant.0)
before t c js tasks a fit =
    going_as (set_modes c.args.given.now.rules.now) (rules_of c.args.given.now.rules.now) c.args.given.now.pairs.now js (candidates_of c.args.given.now) c.args.candidate.now.number (rule_of c.args.candidate.now.rule.now) c.args.levels c.args.store.now c.args.candidate.now.env c.args.tries.now tasks c.loop-k.store c.loop-k.tries c.loop-k.k c.loop-k.env c.loop-k.kids (tasks ++ c.loop-k.invariant.0) _ _ (drop_premise c.args.candidate.now.rule.now.premises.items c.loop-k.k _ _ (there t c) c.index.ensures refl) (c.loop-k.invariant.2 js tasks a fit)

pub trace_rule-trace_premise-requires : goal.trace_rule-trace_premise-requires
trace_rule-trace_premise-requires t c =
    let z = (goal.at.trace_rule-trace_premise-requires t c).After-index in
    let d = before t z c.requires.facts.0 [] c.requires.facts.1 tt in (
      search rules,
      (
        c.requires.few,
        (
          (c.requires.facts.0, facts_grown c.args.given.now c.args.store.now c.loop-k.store c.requires.facts.0 d.grows c.requires.facts.1),
          (
            d.grows.store,
            (
              pairs_grown c.args.given.now c.args.store.now c.loop-k.store d.grows c.requires.pairs,
              (
                shallow_premise_at c.args.candidate.now.rule.now.premises.items c.requires.shallow.1 c.loop-k.k _ (there t z) c.index.ensures,
                (
                  sym d.grows.until,
                  (
                    d.env_within,
                    (
                      d.kids_within,
                      (
                        c.requires.levels,
                        (
                          (rule_of c.args.candidate.now.rule.now),
                          c.requires.found,
                          premise_get c.args.candidate.now.rule.now.premises.items c.loop-k.k _ _ (there t z) c.index.ensures refl,
                        ),
                      ),
                    ),
                  ),
                ),
              ),
            ),
          ),
        ),
      ),
    )

pub trace_rule-returns-in-Fails : goal.trace_rule-returns-in-Fails
trace_rule-returns-in-Fails t c =
    let z = (goal.at.trace_rule-returns-in-Fails t c).After-index in
    let w = rw c.in-Fails.is at c.in_ok-next.ensures in (
      c.loop-k.invariant.0 ++ w.0,
      behind_both c.args.tasks.now.items c.loop-k.tasks.items c.trace_premise.new.tasks.items c.loop-k.invariant.0 w.0 c.loop-k.invariant.1 w.1,
      λ js tasks a fit.
          let d = before t z js tasks a fit in
          let k = w.2 js (rule_of c.args.candidate.now.rule.now) (tasks ++ c.loop-k.invariant.0) (facts_grown c.args.given.now c.args.store.now c.loop-k.store js d.grows a) d.fits c.requires.found in
          going_fails (set_modes c.args.given.now.rules.now) (rules_of c.args.given.now.rules.now) c.args.given.now.pairs.now js (candidates_of c.args.given.now) c.args.candidate.now.number (rule_of c.args.candidate.now.rule.now) c.args.levels c.args.store.now c.args.candidate.now.env c.args.tries.now tasks c.requires.pairs c.loop-k.store c.loop-k.tries c.loop-k.k c.loop-k.env c.loop-k.kids c.args.store.now.until c.loop-k.invariant.0 (premise_of c.index.result.now) (drop (c.loop-k.k + 1) (map premise_of c.args.candidate.now.rule.now.premises.items)) d c.trace_premise.new.store c.trace_premise.new.tries w.0 c.in-Fails.notes k,
    )

pub trace_rule-returns-in-Halts : goal.trace_rule-returns-in-Halts
trace_rule-returns-in-Halts t c =
    let z = (goal.at.trace_rule-returns-in-Halts t c).After-index in
    let w = rw c.in-Halts.is at c.in_ok-next.ensures in (
      c.loop-k.invariant.0 ++ w.0,
      behind_both c.args.tasks.now.items c.loop-k.tasks.items c.trace_premise.new.tasks.items c.loop-k.invariant.0 w.0 c.loop-k.invariant.1 w.1,
      λ js tasks a fit.
          let d = before t z js tasks a fit in
          let k = w.2 js (rule_of c.args.candidate.now.rule.now) (tasks ++ c.loop-k.invariant.0) (facts_grown c.args.given.now c.args.store.now c.loop-k.store js d.grows a) d.fits c.requires.found in
          going_halts (set_modes c.args.given.now.rules.now) (rules_of c.args.given.now.rules.now) c.args.given.now.pairs.now js (candidates_of c.args.given.now) c.args.candidate.now.number (rule_of c.args.candidate.now.rule.now) c.args.levels c.args.store.now c.args.candidate.now.env c.args.tries.now tasks c.requires.pairs c.loop-k.store c.loop-k.tries c.loop-k.k c.loop-k.env c.loop-k.kids c.args.store.now.until c.loop-k.invariant.0 (premise_of c.index.result.now) (drop (c.loop-k.k + 1) (map premise_of c.args.candidate.now.rule.now.premises.items)) d c.trace_premise.new.store c.trace_premise.new.tries w.0 (tasks ++ (c.loop-k.invariant.0 ++ w.0)) c.in-Halts.ending k,
    )

pub trace_rule-loop-k-preserved : goal.trace_rule-loop-k-preserved
trace_rule-loop-k-preserved t c =
    let z = (goal.at.trace_rule-loop-k-preserved t c).After-index in
    let w = rw c.in-Holds.is at c.in_ok-next.ensures in (
      c.loop-k.invariant.0 ++ w.0,
      behind_both c.args.tasks.now.items c.loop-k.tasks.items c.trace_premise.new.tasks.items c.loop-k.invariant.0 w.0 c.loop-k.invariant.1 w.1,
      λ js tasks a fit.
          let d = before t z js tasks a fit in
          let k = w.2 js (rule_of c.args.candidate.now.rule.now) (tasks ++ c.loop-k.invariant.0) (facts_grown c.args.given.now c.args.store.now c.loop-k.store js d.grows a) d.fits c.requires.found in
          going_more (set_modes c.args.given.now.rules.now) (rules_of c.args.given.now.rules.now) c.args.given.now.pairs.now js (candidates_of c.args.given.now) c.args.candidate.now.number (rule_of c.args.candidate.now.rule.now) c.args.levels c.args.store.now c.args.candidate.now.env c.args.tries.now tasks c.requires.pairs c.loop-k.store c.loop-k.tries c.loop-k.k c.loop-k.env c.loop-k.kids c.args.store.now.until c.loop-k.invariant.0 (premise_of c.index.result.now) (drop (c.loop-k.k + 1) (map premise_of c.args.candidate.now.rule.now.premises.items)) d c.trace_premise.new.store c.trace_premise.new.tries w.0 c.in-Holds.next c.in-Holds.more k,
    )

pub trace_rule-made_outputs-requires-clause-store : goal.trace_rule-made_outputs-requires-clause-store
trace_rule-made_outputs-requires-clause-store t c = (c.loop-k.invariant.2 c.requires.facts.0 [] c.requires.facts.1 tt).grows.store

pub trace_rule-made_outputs-requires-clause-env : goal.trace_rule-made_outputs-requires-clause-env
trace_rule-made_outputs-requires-clause-env t c = (c.loop-k.invariant.2 c.requires.facts.0 [] c.requires.facts.1 tt).env_within

pub trace_rule-returns-in-Some : goal.trace_rule-returns-in-Some
trace_rule-returns-in-Some t c =
    let l = drop_premises_end c.args.candidate.now.rule.now.premises.items c.loop-k.k (let a = c.loop-k-test.false in let b = c.len-k-end.ensures in let e = c.args.candidate.now.rule.now.premises.ok in omega arith) in (
      c.loop-k.invariant.0,
      c.loop-k.invariant.1,
      λ js tasks a fit.
          let d = going_as (set_modes c.args.given.now.rules.now) (rules_of c.args.given.now.rules.now) c.args.given.now.pairs.now js (candidates_of c.args.given.now) c.args.candidate.now.number (rule_of c.args.candidate.now.rule.now) c.args.levels c.args.store.now c.args.candidate.now.env c.args.tries.now tasks c.loop-k.store c.loop-k.tries c.loop-k.k c.loop-k.env c.loop-k.kids (tasks ++ c.loop-k.invariant.0) _ _ l (c.loop-k.invariant.2 js tasks a fit) in
          going_passed (set_modes c.args.given.now.rules.now) (rules_of c.args.given.now.rules.now) c.args.given.now.pairs.now js (candidates_of c.args.given.now) c.args.candidate.now.number (rule_of c.args.candidate.now.rule.now) c.args.levels c.args.store.now c.args.candidate.now.env c.args.tries.now tasks c.requires.pairs c.loop-k.store c.loop-k.tries c.loop-k.k c.loop-k.env c.loop-k.kids (tasks ++ c.loop-k.invariant.0) d c.made_outputs.new.store c.in_ok-outputs.outputs c.in_ok-outputs.ensures (tasks ++ c.loop-k.invariant.0) c.in-Some.limit
          (subst (λ (is : List ℕ). IsLimit (limit_passed (map (tree_at (store_trees c.made_outputs.new.store)) is)) (Some c.in-Some.limit)) c.deref.ensures.value c.in-Some.ensures),
    )

pub trace_rule-returns : goal.trace_rule-returns
trace_rule-returns t c =
    let l = drop_premises_end c.args.candidate.now.rule.now.premises.items c.loop-k.k (let a = c.loop-k-test.false in let b = c.len-k-end.ensures in let e = c.args.candidate.now.rule.now.premises.ok in omega arith) in
    let v : c.len.result ≡ length (rule_of c.args.candidate.now.rule.now).sorts = (let a = c.len.ensures in let e = c.args.candidate.now.rule.now.vars.ok in omega arith) in (
      c.loop-k.invariant.0,
      c.loop-k.invariant.1,
      λ js tasks a fit.
          let d = going_as (set_modes c.args.given.now.rules.now) (rules_of c.args.given.now.rules.now) c.args.given.now.pairs.now js (candidates_of c.args.given.now) c.args.candidate.now.number (rule_of c.args.candidate.now.rule.now) c.args.levels c.args.store.now c.args.candidate.now.env c.args.tries.now tasks c.loop-k.store c.loop-k.tries c.loop-k.k c.loop-k.env c.loop-k.kids (tasks ++ c.loop-k.invariant.0) _ _ l (c.loop-k.invariant.2 js tasks a fit) in
          going_end (set_modes c.args.given.now.rules.now) (rules_of c.args.given.now.rules.now) c.args.given.now.pairs.now js (candidates_of c.args.given.now) c.args.candidate.now.number (rule_of c.args.candidate.now.rule.now) c.args.levels c.args.store.now c.args.candidate.now.env c.args.tries.now tasks c.requires.pairs c.loop-k.store c.loop-k.tries c.loop-k.k c.loop-k.env c.loop-k.kids (tasks ++ c.loop-k.invariant.0) d c.made_outputs.new.store c.in_ok-outputs.outputs c.in_ok-outputs.ensures
          (none_limit (limit_passed (map (tree_at (store_trees c.made_outputs.new.store)) c.in_ok-outputs.outputs.items)) c.passed.result (subst (λ (is : List ℕ). IsLimit (limit_passed (map (tree_at (store_trees c.made_outputs.new.store)) is)) c.passed.result) c.deref.ensures.value c.passed.ensures) c.in_default.not-Some) c.len.result v,
    )

-- no fact is the goal, and the rule is the first that fits
sought : (t : ℕ) (c : trace-In-Some t) → IsFirstCandidate (set_modes c.args.given.now.rules.now) (rules_of c.args.given.now.rules.now) c.args.given.now.facts.now c.first_candidate.new.store c.args.goal.form c.args.goal.terms.items (goal_in c.args.store.now c.args.goal.form c.args.goal.terms.items) (Some (c.in-Some.number, c.in-Some.env))
sought t c =
    subst (λ o. IsFirstCandidate (set_modes c.args.given.now.rules.now) (rules_of c.args.given.now.rules.now) c.args.given.now.facts.now c.first_candidate.new.store c.args.goal.form c.args.goal.terms.items (goal_in c.args.store.now c.args.goal.form c.args.goal.terms.items) o) c.in-Some.is
    (subst (λ is. IsFirstCandidate (set_modes c.args.given.now.rules.now) (rules_of c.args.given.now.rules.now) c.args.given.now.facts.now c.first_candidate.new.store c.args.goal.form is (goal_in c.args.store.now c.args.goal.form is) c.in_ok-first_candidate.field-0) c.deref.ensures.value c.in_ok-first_candidate.ensures.first)

-- the tasks below the base are all that were there
base_is : (t : ℕ) (c : trace-After-len-base t) → c.len-base.result ≡ length c.args.tasks.now.items
base_is t c = let a = c.len-base.ensures in let e = c.args.tasks.now.ok in omega arith

-- the goal's task alone is above the base
first_above : (t : ℕ) (c : trace-In_ok-push-in-None t) → c.len-base.result ≡ length c.args.tasks.now.items → drop c.len-base.result c.push.new.self.items ≡ record { next = 0; form = c.args.goal.form; terms = c.args.goal.terms; levels = c.args.goal.levels; frames = c.args.store.now.until; mark = c.mark-mark.result } ∷ []
first_above t c b = above_base c.len-base.result c.args.tasks.now.items _ c.push.new.self.items b (c.in_ok-push-in-None.ensures.items ∙ ap (λ (k : TaskOf). c.args.tasks.now.items ++ k ∷ []) c.goal_task.ensures)

-- it may stand there
first_stands : (t : ℕ) (c : trace-In_ok-push-in-None t) → c.len-base.result ≡ length c.args.tasks.now.items → PiledIn c.args.given.now c.args.store.now (drop c.len-base.result c.push.new.self.items) c.args.store.now
first_stands t c b = first_piled (set_modes c.args.given.now.rules.now) (rules_of c.args.given.now.rules.now) c.args.store.now (candidates_of c.args.given.now) c.args.goal.form c.args.goal.terms c.args.goal.levels c.mark-mark.result (drop c.len-base.result c.push.new.self.items) c.requires.store c.mark-mark.ensures c.requires.terms (first_above t c b)

-- and has the events of the goal
first_left : (t : ℕ) (c : trace-In_ok-push-in-None t) (js : List Judgement) → c.len-base.result ≡ length c.args.tasks.now.items → left_by c.args.given.now js c.first_candidate.new.store (drop c.len-base.result c.push.new.self.items) ≡ events_in (set_modes c.args.given.now.rules.now) (rules_of c.args.given.now.rules.now) c.args.given.now.pairs.now js c.args.store.now c.args.goal.levels c.args.goal.form c.args.goal.terms.items
first_left t c js b =
    events_stay (set_modes c.args.given.now.rules.now) (rules_of c.args.given.now.rules.now) (candidates_of c.args.given.now) c.args.given.now.pairs.now js c.args.store.now c.first_candidate.new.store (drop c.len-base.result c.push.new.self.items) c.requires.pairs c.in_ok-first_candidate.ensures.grows (piled_fits (set_modes c.args.given.now.rules.now) (rules_of c.args.given.now.rules.now) (candidates_of c.args.given.now) c.args.store.now c.args.store.now (drop c.len-base.result c.push.new.self.items) (first_stands t c b))
    ∙ first_events (set_modes c.args.given.now.rules.now) (rules_of c.args.given.now.rules.now) c.args.given.now.pairs.now js c.args.store.now c.args.goal.form c.args.goal.terms c.args.goal.levels c.mark-mark.result (drop c.len-base.result c.push.new.self.items) c.requires.store (first_above t c b)

pub trace-try_others-requires-clause-base : goal.trace-try_others-requires-clause-base
trace-try_others-requires-clause-base t c =
    base_within c.len-base.result c.args.tasks.now.items _ c.push.new.self.items (base_is t (goal.at.trace-try_others-requires-clause-base t c).After-len-base) c.in_ok-push-in-None.ensures.items

pub trace-try_others-requires-clause-stands : goal.trace-try_others-requires-clause-stands
trace-try_others-requires-clause-stands t c =
    let y = (goal.at.trace-try_others-requires-clause-stands t c).In_ok-push-in-None in
    let b = base_is t (goal.at.trace-try_others-requires-clause-stands t c).After-len-base in
    (c.args.store.now, c.requires.facts.0, record { facts = c.requires.facts.1; pairs = c.requires.pairs; piled = piled_later (set_modes c.args.given.now.rules.now) (rules_of c.args.given.now.rules.now) (candidates_of c.args.given.now) c.args.store.now c.args.store.now c.first_candidate.new.store (drop c.len-base.result c.push.new.self.items) (first_stands t y b) c.in_ok-first_candidate.ensures.grows })

pub trace-returns-in_ok-push-in-None : goal.trace-returns-in_ok-push-in-None
trace-returns-in_ok-push-in-None t c =
    let y = (goal.at.trace-returns-in_ok-push-in-None t c).In_ok-push-in-None in
    let b = base_is t (goal.at.trace-returns-in_ok-push-in-None t c).After-len-base in
    ok_with (AreKeptBelow c.len-base.result c.push.new.self.items c.try_others.new.tasks.items) (λ r. (first : Store) (js : List Judgement) → StandFrom c.args.given.now first js (drop c.len-base.result c.push.new.self.items) c.first_candidate.new.store → ComesToBy c.args.given.now js first c.try_others.new.store c.args.tries.now c.try_others.new.tries (left_by c.args.given.now js c.first_candidate.new.store (drop c.len-base.result c.push.new.self.items)) (λ noted. noted ≡ reverse c.new.result.items) (drop c.len-base.result c.try_others.new.tasks.items) r) (λ r. PutsBehind c.args.tasks.now.items c.try_others.new.tasks.items (IsTracedBy c.args.given.now c.args.store.now c.try_others.new.store c.args.tries.now c.try_others.new.tries c.args.goal r))
    (λ r k h. (
      drop c.len-base.result c.try_others.new.tasks.items,
      kept_behind c.len-base.result c.args.tasks.now.items _ c.push.new.self.items b c.in_ok-push-in-None.ensures.items c.try_others.new.tasks.items k,
      λ js a.
          comes_after (set_modes c.args.given.now.rules.now) (rules_of c.args.given.now.rules.now) c.args.given.now.pairs.now js (candidates_of c.args.given.now) c.args.store.now c.try_others.new.store c.args.tries.now c.args.tries.now c.try_others.new.tries (events_in (set_modes c.args.given.now.rules.now) (rules_of c.args.given.now.rules.now) c.args.given.now.pairs.now js c.args.store.now c.args.goal.levels c.args.goal.form c.args.goal.terms.items) (left_by c.args.given.now js c.first_candidate.new.store (drop c.len-base.result c.push.new.self.items)) _ (FailsAlong (set_modes c.args.given.now.rules.now) (rules_of c.args.given.now.rules.now) (hyps_in c.args.given.now.pairs.now c.args.store.now js) (suc c.args.goal.levels) (goal_in c.args.store.now c.args.goal.form c.args.goal.terms.items)) (drop c.len-base.result c.try_others.new.tasks.items) r (after_none c.args.tries.now (events_in (set_modes c.args.given.now.rules.now) (rules_of c.args.given.now.rules.now) c.args.given.now.pairs.now js c.args.store.now c.args.goal.levels c.args.goal.form c.args.goal.terms.items) (left_by c.args.given.now js c.first_candidate.new.store (drop c.len-base.result c.push.new.self.items)) (sym (first_left t y js b)))
          (λ ks e. fails_none (set_modes c.args.given.now.rules.now) (rules_of c.args.given.now.rules.now) (hyps_in c.args.given.now.pairs.now c.args.store.now js) (suc c.args.goal.levels) (goal_in c.args.store.now c.args.goal.form c.args.goal.terms.items) ks (e ∙ ap reverse c.new.ensures.items))
          (h c.args.store.now js (record { facts = a; pairs = c.requires.pairs; piled = piled_later (set_modes c.args.given.now.rules.now) (rules_of c.args.given.now.rules.now) (candidates_of c.args.given.now) c.args.store.now c.args.store.now c.first_candidate.new.store (drop c.len-base.result c.push.new.self.items) (first_stands t y b) c.in_ok-first_candidate.ensures.grows })),
    ))
    c.try_others.result c.try_others.ensures.below c.try_others.ensures.comes

pub trace-returns-then-not-take_tries : goal.trace-returns-then-not-take_tries
trace-returns-then-not-take_tries t c =
    let q = sought t (goal.at.trace-returns-then-not-take_tries t c).In-Some in (
      [],
      sym (append-nil c.args.tasks.now.items),
      λ js a. goal_spent (set_modes c.args.given.now.rules.now) (rules_of c.args.given.now.rules.now) c.args.given.now.pairs.now js c.args.given.now.facts.now c.args.store.now c.first_candidate.new.store c.args.goal.form c.args.goal.terms c.args.goal.levels c.in-Some.number c.in-Some.env c.requires.store c.requires.pairs c.requires.terms a c.in_ok-first_candidate.ensures.grows q.0 q.1 c.mark-mark.result c.mark-mark.ensures c.args.tries.now c.take_tries.new.tries c.if-not-take_tries.ensures [],
    )

pub trace-rule_at-rule-requires : goal.trace-rule_at-rule-requires
trace-rule_at-rule-requires t c =
    let q = sought t (goal.at.trace-rule_at-rule-requires t c).In-Some in
    number_within (set_modes c.args.given.now.rules.now) (rules_of c.args.given.now.rules.now) c.args.given.now.pairs.now c.requires.facts.0 c.args.given.now.facts.now c.args.store.now c.first_candidate.new.store c.args.goal.form c.args.goal.terms c.args.goal.levels c.in-Some.number c.in-Some.env c.requires.store c.requires.pairs c.requires.terms c.requires.facts.1 c.in_ok-first_candidate.ensures.grows q.0 q.1

pub trace-trace_rule-requires : goal.trace-trace_rule-requires
trace-trace_rule-requires t c =
    let q = sought t (goal.at.trace-trace_rule-requires t c).In-Some in (
      search rules,
      (
        c.requires.few,
        (
          (c.requires.facts.0, facts_grown c.args.given.now c.args.store.now c.first_candidate.new.store c.requires.facts.0 c.in_ok-first_candidate.ensures.grows c.requires.facts.1),
          (
            c.in_ok-first_candidate.ensures.grows.store,
            (
              pairs_grown c.args.given.now c.args.store.now c.first_candidate.new.store c.in_ok-first_candidate.ensures.grows c.requires.pairs,
              (
                c.rule_at-rule.ensures,
                (
                  shallow_at (rules_of c.args.given.now.rules.now) c.in-Some.number _ c.facts.ensures.shallow c.rule_at-rule.ensures,
                  (
                    chain_within (set_modes c.args.given.now.rules.now) (rules_of c.args.given.now.rules.now) c.args.given.now.pairs.now c.requires.facts.0 c.args.given.now.facts.now c.args.store.now c.first_candidate.new.store c.args.goal.form c.args.goal.terms c.args.goal.levels c.in-Some.number c.in-Some.env c.requires.store c.requires.pairs c.requires.terms c.requires.facts.1 c.in_ok-first_candidate.ensures.grows q.0 q.1,
                    c.requires.levels,
                  ),
                ),
              ),
            ),
          ),
        ),
      ),
    )

-- what the candidate comes to before its task
candidate_came : (t : ℕ) (c : trace-In-Failed t) (js : List Judgement) → HasFacts c.args.given.now c.args.store.now js → IsFirstCandidate (set_modes c.args.given.now.rules.now) (rules_of c.args.given.now.rules.now) c.args.given.now.facts.now c.first_candidate.new.store c.args.goal.form c.args.goal.terms.items (goal_in c.args.store.now c.args.goal.form c.args.goal.terms.items) (Some (c.in-Some.number, c.in-Some.env)) →
    CandidateTraced (set_modes c.args.given.now.rules.now) (rules_of c.args.given.now.rules.now) c.args.given.now.pairs.now js (candidates_of c.args.given.now) c.first_candidate.new.store c.trace_rule.new.store c.take_tries.new.tries c.trace_rule.new.tries c.in-Some.number (rule_of c.rule_at-rule.result.now) c.args.goal.levels c.in-Some.env (record { next = length c.args.given.now.facts.now + c.in-Some.number + 1; form = c.args.goal.form; terms = c.args.goal.terms; levels = c.args.goal.levels; frames = c.args.store.now.until; mark = c.mark-mark.result } ∷ []) (record { next = length c.args.given.now.facts.now + c.in-Some.number + 1; form = c.args.goal.form; terms = c.args.goal.terms; levels = c.args.goal.levels; frames = c.args.store.now.until; mark = c.mark-mark.result } ∷ c.in_ok-other-in-Some.ensures.0) (Failed c.in-Failed.notes)
candidate_came t c js a q =
    rw c.in-Failed.is at (c.in_ok-other-in-Some.ensures.2 js (record { next = length c.args.given.now.facts.now + c.in-Some.number + 1; form = c.args.goal.form; terms = c.args.goal.terms; levels = c.args.goal.levels; frames = c.args.store.now.until; mark = c.mark-mark.result } ∷ []) (facts_grown c.args.given.now c.args.store.now c.first_candidate.new.store js c.in_ok-first_candidate.ensures.grows a) (piled_fits (set_modes c.args.given.now.rules.now) (rules_of c.args.given.now.rules.now) (candidates_of c.args.given.now) c.args.store.now c.first_candidate.new.store (record { next = length c.args.given.now.facts.now + c.in-Some.number + 1; form = c.args.goal.form; terms = c.args.goal.terms; levels = c.args.goal.levels; frames = c.args.store.now.until; mark = c.mark-mark.result } ∷ []) (later_piled (set_modes c.args.given.now.rules.now) (rules_of c.args.given.now.rules.now) c.args.given.now.pairs.now js c.args.given.now.facts.now c.args.store.now c.first_candidate.new.store c.args.goal.form c.args.goal.terms c.args.goal.levels c.in-Some.number c.in-Some.env c.requires.store c.requires.pairs c.requires.terms a c.in_ok-first_candidate.ensures.grows q.0 q.1 (rule_of c.rule_at-rule.result.now) c.rule_at-rule.ensures c.mark-mark.result c.mark-mark.ensures)))

-- its task and those that are left are above the base
others_behind : (t : ℕ) (c : trace-In-Failed t) → c.trace_rule.new.tasks.items ≡ c.args.tasks.now.items ++ (record { next = length c.args.given.now.facts.now + c.in-Some.number + 1; form = c.args.goal.form; terms = c.args.goal.terms; levels = c.args.goal.levels; frames = c.args.store.now.until; mark = c.mark-mark.result } ∷ c.in_ok-other-in-Some.ensures.0)
others_behind t c = behind_both c.args.tasks.now.items c.push-in-Some.new.self.items c.trace_rule.new.tasks.items (record { next = length c.args.given.now.facts.now + c.in-Some.number + 1; form = c.args.goal.form; terms = c.args.goal.terms; levels = c.args.goal.levels; frames = c.args.store.now.until; mark = c.mark-mark.result } ∷ []) c.in_ok-other-in-Some.ensures.0 c.in_ok-push-in-Some.ensures.items c.in_ok-other-in-Some.ensures.1

others_above : (t : ℕ) (c : trace-In-Failed t) → c.len-base.result ≡ length c.args.tasks.now.items → drop c.len-base.result c.trace_rule.new.tasks.items ≡ record { next = length c.args.given.now.facts.now + c.in-Some.number + 1; form = c.args.goal.form; terms = c.args.goal.terms; levels = c.args.goal.levels; frames = c.args.store.now.until; mark = c.mark-mark.result } ∷ c.in_ok-other-in-Some.ensures.0
others_above t c b = above_base c.len-base.result c.args.tasks.now.items (record { next = length c.args.given.now.facts.now + c.in-Some.number + 1; form = c.args.goal.form; terms = c.args.goal.terms; levels = c.args.goal.levels; frames = c.args.store.now.until; mark = c.mark-mark.result } ∷ c.in_ok-other-in-Some.ensures.0) c.trace_rule.new.tasks.items b (others_behind t c)

pub trace-try_others-requires-in-Failed-clause-base : goal.trace-try_others-requires-in-Failed-clause-base
trace-try_others-requires-in-Failed-clause-base t c =
    let y = (goal.at.trace-try_others-requires-in-Failed-clause-base t c).In-Failed in
    base_within c.len-base.result c.args.tasks.now.items _ c.trace_rule.new.tasks.items (base_is t (goal.at.trace-try_others-requires-in-Failed-clause-base t c).After-len-base) (others_behind t y)

pub trace-try_others-requires-in-Failed-clause-stands : goal.trace-try_others-requires-in-Failed-clause-stands
trace-try_others-requires-in-Failed-clause-stands t c =
    let y = (goal.at.trace-try_others-requires-in-Failed-clause-stands t c).In-Failed in
    let b = base_is t (goal.at.trace-try_others-requires-in-Failed-clause-stands t c).After-len-base in
    let q = sought t (goal.at.trace-try_others-requires-in-Failed-clause-stands t c).In-Some in
    (c.args.store.now, c.requires.facts.0, record { facts = c.requires.facts.1; pairs = c.requires.pairs; piled = failed_piled (set_modes c.args.given.now.rules.now) (rules_of c.args.given.now.rules.now) c.args.given.now.pairs.now c.requires.facts.0 c.args.given.now.facts.now c.args.store.now c.first_candidate.new.store c.args.goal.form c.args.goal.terms c.args.goal.levels c.in-Some.number c.in-Some.env c.requires.store c.requires.pairs c.requires.terms c.requires.facts.1 c.in_ok-first_candidate.ensures.grows q.0 q.1 (rule_of c.rule_at-rule.result.now) c.rule_at-rule.ensures c.mark-mark.result c.mark-mark.ensures c.args.tries.now c.take_tries.new.tries c.if-not-take_tries.ensures c.trace_rule.new.tries c.trace_rule.new.store c.in_ok-other-in-Some.ensures.0 (drop c.len-base.result c.trace_rule.new.tasks.items) (others_above t y b) c.in-Failed.notes (candidate_came t y c.requires.facts.0 c.requires.facts.1 q) })

pub trace-returns-in-Failed : goal.trace-returns-in-Failed
trace-returns-in-Failed t c =
    let y = (goal.at.trace-returns-in-Failed t c).In-Failed in
    let b = base_is t (goal.at.trace-returns-in-Failed t c).After-len-base in
    let q = sought t (goal.at.trace-returns-in-Failed t c).In-Some in
    ok_with (AreKeptBelow c.len-base.result c.trace_rule.new.tasks.items c.try_others-in-Failed.new.tasks.items) (λ r. (first : Store) (js : List Judgement) → StandFrom c.args.given.now first js (drop c.len-base.result c.trace_rule.new.tasks.items) c.trace_rule.new.store → ComesToBy c.args.given.now js first c.try_others-in-Failed.new.store c.trace_rule.new.tries c.try_others-in-Failed.new.tries (left_by c.args.given.now js c.trace_rule.new.store (drop c.len-base.result c.trace_rule.new.tasks.items)) (λ noted. noted ≡ reverse c.in-Failed.notes.items) (drop c.len-base.result c.try_others-in-Failed.new.tasks.items) r) (λ r. PutsBehind c.args.tasks.now.items c.try_others-in-Failed.new.tasks.items (IsTracedBy c.args.given.now c.args.store.now c.try_others-in-Failed.new.store c.args.tries.now c.try_others-in-Failed.new.tries c.args.goal r))
    (λ r k h. (
      drop c.len-base.result c.try_others-in-Failed.new.tasks.items,
      kept_behind c.len-base.result c.args.tasks.now.items _ c.trace_rule.new.tasks.items b (others_behind t y) c.try_others-in-Failed.new.tasks.items k,
      λ js a.
          failed_comes (set_modes c.args.given.now.rules.now) (rules_of c.args.given.now.rules.now) c.args.given.now.pairs.now js c.args.given.now.facts.now c.args.store.now c.first_candidate.new.store c.args.goal.form c.args.goal.terms c.args.goal.levels c.in-Some.number c.in-Some.env c.requires.store c.requires.pairs c.requires.terms a c.in_ok-first_candidate.ensures.grows q.0 q.1 (rule_of c.rule_at-rule.result.now) c.rule_at-rule.ensures c.mark-mark.result c.mark-mark.ensures c.args.tries.now c.take_tries.new.tries c.if-not-take_tries.ensures c.trace_rule.new.tries c.trace_rule.new.store c.in_ok-other-in-Some.ensures.0 (drop c.len-base.result c.trace_rule.new.tasks.items) (others_above t y b) c.in-Failed.notes (candidate_came t y js a q) c.try_others-in-Failed.new.tries c.try_others-in-Failed.new.store (drop c.len-base.result c.try_others-in-Failed.new.tasks.items) r (h c.args.store.now js (record { facts = a; pairs = c.requires.pairs; piled = failed_piled (set_modes c.args.given.now.rules.now) (rules_of c.args.given.now.rules.now) c.args.given.now.pairs.now js c.args.given.now.facts.now c.args.store.now c.first_candidate.new.store c.args.goal.form c.args.goal.terms c.args.goal.levels c.in-Some.number c.in-Some.env c.requires.store c.requires.pairs c.requires.terms a c.in_ok-first_candidate.ensures.grows q.0 q.1 (rule_of c.rule_at-rule.result.now) c.rule_at-rule.ensures c.mark-mark.result c.mark-mark.ensures c.args.tries.now c.take_tries.new.tries c.if-not-take_tries.ensures c.trace_rule.new.tries c.trace_rule.new.store c.in_ok-other-in-Some.ensures.0 (drop c.len-base.result c.trace_rule.new.tasks.items) (others_above t y b) c.in-Failed.notes (candidate_came t y js a q) })),
    ))
    c.try_others-in-Failed.result c.try_others-in-Failed.ensures.below c.try_others-in-Failed.ensures.comes

pub trace-returns-in_default : goal.trace-returns-in_default
trace-returns-in_default t c =
    let q = sought t (goal.at.trace-returns-in_default t c).In-Some in (
      record { next = length c.args.given.now.facts.now + c.in-Some.number + 1; form = c.args.goal.form; terms = c.args.goal.terms; levels = c.args.goal.levels; frames = c.args.store.now.until; mark = c.mark-mark.result } ∷ c.in_ok-other-in-Some.ensures.0,
      behind_both c.args.tasks.now.items c.push-in-Some.new.self.items c.trace_rule.new.tasks.items (record { next = length c.args.given.now.facts.now + c.in-Some.number + 1; form = c.args.goal.form; terms = c.args.goal.terms; levels = c.args.goal.levels; frames = c.args.store.now.until; mark = c.mark-mark.result } ∷ []) c.in_ok-other-in-Some.ensures.0 c.in_ok-push-in-Some.ensures.items c.in_ok-other-in-Some.ensures.1,
      λ js a. goal_answered (set_modes c.args.given.now.rules.now) (rules_of c.args.given.now.rules.now) c.args.given.now.pairs.now js c.args.given.now.facts.now c.args.store.now c.first_candidate.new.store c.args.goal.form c.args.goal.terms c.args.goal.levels c.in-Some.number c.in-Some.env c.requires.store c.requires.pairs c.requires.terms a c.in_ok-first_candidate.ensures.grows q.0 q.1 (rule_of c.rule_at-rule.result.now) c.rule_at-rule.ensures c.mark-mark.result c.mark-mark.ensures c.args.tries.now c.take_tries.new.tries c.if-not-take_tries.ensures c.trace_rule.new.tries c.trace_rule.new.store c.in_ok-other-in-Some.ensures.0 _ c.in_default.not-Failed
          (c.in_ok-other-in-Some.ensures.2 js (record { next = length c.args.given.now.facts.now + c.in-Some.number + 1; form = c.args.goal.form; terms = c.args.goal.terms; levels = c.args.goal.levels; frames = c.args.store.now.until; mark = c.mark-mark.result } ∷ []) (facts_grown c.args.given.now c.args.store.now c.first_candidate.new.store js c.in_ok-first_candidate.ensures.grows a) (piled_fits (set_modes c.args.given.now.rules.now) (rules_of c.args.given.now.rules.now) (candidates_of c.args.given.now) c.args.store.now c.first_candidate.new.store (record { next = length c.args.given.now.facts.now + c.in-Some.number + 1; form = c.args.goal.form; terms = c.args.goal.terms; levels = c.args.goal.levels; frames = c.args.store.now.until; mark = c.mark-mark.result } ∷ []) (later_piled (set_modes c.args.given.now.rules.now) (rules_of c.args.given.now.rules.now) c.args.given.now.pairs.now js c.args.given.now.facts.now c.args.store.now c.first_candidate.new.store c.args.goal.form c.args.goal.terms c.args.goal.levels c.in-Some.number c.in-Some.env c.requires.store c.requires.pairs c.requires.terms a c.in_ok-first_candidate.ensures.grows q.0 q.1 (rule_of c.rule_at-rule.result.now) c.rule_at-rule.ensures c.mark-mark.result c.mark-mark.ensures))),
    )
