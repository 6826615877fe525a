-- Searches that stand for events.
use Rattle.std.proofs.Common.{◌≡◌, ℕ, ◌+◌, ◌^◌, ◌<◌, List, [], ◌∷◌, map, length, None, Ok, Err, refl, sym, ap, ◌∙◌, arith, subst}
use Rattle.std.specs.Prelude.{Vec}
use Rattle.std.specs.declared.alloc.Global.{Global}
use Rattle.sx_term.specs.Tree.{Tree}
use Rattle.sx_term.specs.Term.{tree}
use Rattle.sx_term.specs.declared.no_memory.NoMemory.{NoMemory}
use Rattle.sx_arena.specs.Arena.{AreBelow}
use Rattle.sx_derive.specs.Chains.{HeadFits}
use Rattle.sx_rules.specs.ProofView.{proof}
use Rattle.sx_rules.specs.Rules.{Judgement, Rule, Hypotheses}
use Rattle.sx_rules.specs.Modes.{Modes}
use Rattle.sx_arena.specs.declared.fact.Fact.{Fact}
use Rattle.sx_arena.specs.declared.pairs.Pair.{Pair}
use Rattle.sx_arena.specs.declared.places.Limit.{Limit}
use Rattle.sx_arena.specs.declared.places.Limit.TheVariants.{TooDeep as DeepTerm, TooBig as BigTerm}
use Rattle.sx_arena.proofs.Facts.{facts_stay}
use Rattle.sx_arena.proofs.Growing.{extends-length}
use Rattle.sx_arena.proofs.Parted.{pairs_more_terms, pairs_stay}
use Rattle.sx_derive.specs.Candidates.{AreFacts}
use Rattle.sx_derive.specs.Handing.{answer_in}
use Rattle.sx_derive.specs.Problems.{IsProblem}
use Rattle.sx_derive.specs.Resumable.{IsSearchReady, StandsForEvents, StandsBefore, TakesTries, IsNextOf}
use Rattle.sx_derive.specs.Resumable.{IsErrorOf, IsReachedAt, IsReached}
use Rattle.sx_derive.specs.Store.{StoreGrows, IsStore, store_trees, store_envs, store_kids}
use Rattle.sx_derive.specs.Tasks.{events_left, TasksFit}
use Rattle.sx_derive.specs.Walk.{Cause, too_deep, too_big, Event, try, give, stop, Answer, events}
use Rattle.sx_derive.specs.declared.chains.Head.{Head}
use Rattle.sx_derive.specs.declared.derived.Derived.{Derived}
use Rattle.sx_derive.specs.declared.found.Found.TheVariants.{Next, Paused, Ended}
use Rattle.sx_derive.specs.declared.problem.Problem.{Problem}
use Rattle.sx_derive.specs.declared.reach.Reached.{Reached}
use Rattle.sx_derive.specs.declared.search.Search.{Search}
use Rattle.sx_derive.specs.declared.search_error.SearchError.{SearchError}
use Rattle.sx_derive.specs.declared.search_error.SearchError.TheVariants.{Memory}
use Rattle.sx_derive.specs.declared.search_error.SearchError.TheVariants.{DepthSpent as SpentDepth}
use Rattle.sx_derive.specs.declared.state.State.{State}
use Rattle.sx_derive.specs.declared.state.State.TheVariants.{Open, Failed, Passed as AtLimit}
use Rattle.sx_derive.specs.declared.state.State.TheVariants.{DepthSpent as AtDepth}
use Rattle.sx_derive.specs.declared.store.Store.{Store}
use Rattle.sx_derive.specs.declared.tasks.Ending.{Ending as EndingOf}
use Rattle.sx_derive.specs.declared.tasks.Ending.TheVariants.{Found as IsFound, Passed, DepthSpent}
use Rattle.sx_derive.specs.declared.tasks.Ending.TheVariants.{Spent, Exhausted}
use Rattle.sx_derive.specs.declared.store.Mark.{Mark}
use Rattle.sx_derive.specs.declared.tasks.Task.{Task as TaskOf}
use Rattle.sx_derive.proofs.Searching.{problem_events}
use Rattle.sx_derive.proofs.Tasked.{facts_length}
use Rattle.sx_derive.proofs.Walking.{first_events, first_fits}

-- the search that begins
pub begun : (modes : Modes) (rules : List Rule) (hyps : Hypotheses) (form : ℕ) (terms : List Tree) (p : Problem) → IsProblem modes rules hyps terms None p → length hyps.judgements < 2 ^ 32 → (mark : Mark) (tasks : Vec TaskOf Global) →
    tasks.items ≡ record { next = 0; form = form; terms = p.terms; levels = 2999; frames = p.store.until; mark = mark } ∷ [] →
    StandsForEvents modes rules hyps (record { store = p.store; facts = p.facts; pairs = p.pairs; tasks = tasks; state = Open }) (events modes rules hyps (record { form = form; terms = terms }) 1)
begun modes rules hyps form terms p h few mark tasks e =
    let l = facts_length modes (store_trees p.store) hyps.judgements p.facts.items h.facts in
    record {
      ready = record {
        store = h.store;
        few = (omega arith);
        facts = h.facts;
        pairs = h.pairs;
        pairs_are = h.pairs_are;
        tasks = first_fits modes rules p.store (length p.facts.items + length rules) form p.terms 2999 mark tasks.items h.store h.terms_below e;
      };
      events = sym (first_events modes rules p.pairs.items hyps.judgements p.store form p.terms 2999 mark tasks.items h.store e ∙ problem_events modes rules hyps form terms None p h);
    }

-- the events of a search that has come to no limit
pub open_events : (modes : Modes) (rules : List Rule) (hyps : Hypotheses) (s : Search) (es : List (Event Answer)) → s.state ≡ Open → StandsForEvents modes rules hyps s es →
    es ≡ events_left modes rules s.pairs.items hyps.judgements s.store s.tasks.items
open_events modes rules hyps s es o h = subst (λ (st : State). StandsBefore st (events_left modes rules s.pairs.items hyps.judgements s.store s.tasks.items) es) o h.events

module _ (modes : Modes) (rules : List Rule) (hyps : Hypotheses) (old : Search) (es : List (Event Answer)) (h : StandsForEvents modes rules hyps old es) (o : old.state ≡ Open) (fs : List Fact) (ps : List Pair) (ef : fs ≡ old.facts.items) (ep : ps ≡ old.pairs.items)
    (s : Store) (ts : Vec TaskOf Global) (budget first last : ℕ) where
  abbrev at : State → Search
  at st = record { store = s; facts = old.facts; pairs = old.pairs; tasks = ts; state = st }

  abbrev left : List (Event Answer)
  left = events_left modes rules old.pairs.items hyps.judgements s ts.items

  abbrev IsReachedWith : Reached → Type 0
  IsReachedWith r = (js : List Judgement) → AreFacts modes (store_trees old.store) js fs →
      IsReached modes rules ps js (length fs + length rules) old.store s ts.items budget first last (events_left modes rules ps js old.store old.tasks.items) (Ok r)

  -- what is reached from the events of the search
  met : (r : Reached) → IsReachedWith r → (ending : EndingOf) → r.ending ≡ ending →
      StoreGrows modes rules old.store s × TasksFit modes rules s (length old.facts.items + length rules) ts.items × IsReachedAt modes rules old.pairs.items hyps.judgements s ts.items budget first last es r.tries ending
  met r x ending e =
      let y = x hyps.judgements (subst (λ (gs : List Fact). AreFacts modes (store_trees old.store) hyps.judgements gs) (sym ef) h.ready.facts) in
      let a = subst (λ (qs : List Pair). IsReachedAt modes rules qs hyps.judgements s ts.items budget first last (events_left modes rules qs hyps.judgements old.store old.tasks.items) r.tries r.ending) ep y.2 in
      let b = subst (λ (q : List (Event Answer)). IsReachedAt modes rules old.pairs.items hyps.judgements s ts.items budget first last q r.tries r.ending) (sym (open_events modes rules hyps old es o h)) a in (
        y.0,
        subst (λ (gs : List Fact). TasksFit modes rules s (length gs + length rules) ts.items) ef y.1,
        subst (λ (q : EndingOf). IsReachedAt modes rules old.pairs.items hyps.judgements s ts.items budget first last es r.tries q) e b,
      )

  module _ (g : StoreGrows modes rules old.store s) (f : TasksFit modes rules s (length old.facts.items + length rules) ts.items) where
    ready_at : (st : State) → IsSearchReady modes rules hyps (at st)
    ready_at st = record {
      store = g.store;
      few = h.ready.few;
      facts = facts_stay modes (store_trees old.store) (store_trees s) g.trees hyps.judgements old.facts.items h.ready.facts;
      pairs = pairs_more_terms (length (store_trees old.store)) (length (store_trees s)) (extends-length (store_trees old.store) (store_trees s) g.trees) old.pairs.items h.ready.pairs;
      pairs_are = pairs_stay (store_trees old.store) (store_trees s) g.trees old.pairs.items h.ready.pairs ∙ h.ready.pairs_are;
      tasks = f;
    }

    stands_at : (rest : List (Event Answer)) → rest ≡ left → StandsForEvents modes rules hyps (at old.state) rest
    stands_at rest e = record { ready = ready_at old.state; events = subst (λ (st : State). StandsBefore st left rest) (sym o) e }

  pub next_paused : (r : Reached) → r.ending ≡ Spent → IsReachedWith r → IsNextOf modes rules hyps budget first last es (at old.state) (Ok Paused)
  next_paused r e x =
      let (g, f, (k, t, m)) = met r x Spent e in (
        m.0,
        subst (λ (n : ℕ). TakesTries budget first last es (try ∷ m.0) n) k (subst (λ (q : List (Event Answer)). TakesTries budget first last es q r.tries) m.1 t),
        stands_at g f (try ∷ m.0) (sym m.1),
      )

  pub next_ended : (r : Reached) → r.ending ≡ Exhausted → IsReachedWith r → IsNextOf modes rules hyps budget first last es (at old.state) (Ok Ended)
  next_ended r e x =
      let (g, f, (t, m)) = met r x Exhausted e in
      (r.tries, subst (λ (q : List (Event Answer)). TakesTries budget first last es q r.tries) m t, stands_at g f [] (sym m))

  pub next_depth : (r : Reached) → r.ending ≡ DepthSpent → IsReachedWith r → IsNextOf modes rules hyps budget first last es (at AtDepth) (Err (SpentDepth 3000))
  next_depth r e x =
      let (g, f, t) = met r x DepthSpent e in
      (refl, (r.tries, left, t, record { ready = ready_at g f AtDepth; events = refl }))

  pub next_passed : (r : Reached) (limit : Limit) (err : SearchError) → IsErrorOf limit err → r.ending ≡ Passed limit → IsReachedWith r → IsNextOf modes rules hyps budget first last es (at (AtLimit limit)) (Err err)
  next_passed r (DeepTerm k) err q e x =
      let (g, f, (c, (depth, z, m), t)) = met r x (Passed (DeepTerm k)) e in
      let y : c ≡ too_deep depth = cc in
      subst (λ (d : SearchError). IsNextOf modes rules hyps budget first last es (at (AtLimit (DeepTerm k))) (Err d)) (sym q)
      (depth, m, (r.tries, left, subst (λ (d : Cause). TakesTries budget first last es (stop d ∷ left) r.tries) y t, record { ready = ready_at g f (AtLimit (DeepTerm k)); events = (too_deep depth, (depth, refl, m), refl) }))
  next_passed r (BigTerm k) err q e x =
      let (g, f, (c, (size, z, m), t)) = met r x (Passed (BigTerm k)) e in
      let y : c ≡ too_big size = cc in
      subst (λ (d : SearchError). IsNextOf modes rules hyps budget first last es (at (AtLimit (BigTerm k))) (Err d)) (sym q)
      (size, m, (r.tries, left, subst (λ (d : Cause). TakesTries budget first last es (stop d ∷ left) r.tries) y t, record { ready = ready_at g f (AtLimit (BigTerm k)); events = (too_big size, (size, refl, m), refl) }))

  pub next_found : (r : Reached) (head : Head) (outs : Vec ℕ Global) → r.ending ≡ IsFound head outs → IsReachedWith r → (d : Derived) →
      (proof d.proof.value, map tree d.outputs.items) ≡ answer_in s head outs.items → IsNextOf modes rules hyps budget first last es (at old.state) (Ok (Next d r.tries))
  next_found r head outs e x d z =
      let (g, f, (l, b, w, t)) = met r x (IsFound head outs) e in
      (left, subst (λ (a : Answer). TakesTries budget first last es (give a ∷ left) r.tries) (sym z) t, stands_at g f left refl)

  -- what is found fits in the store
  pub found_fits : (r : Reached) (head : Head) (outs : Vec ℕ Global) → r.ending ≡ IsFound head outs → IsReachedWith r → IsStore modes rules s × HeadFits (length (store_envs s)) (length (store_kids s)) head × AreBelow (length (store_trees s)) outs.items
  found_fits r head outs e x =
      let (g, f, (l, b, w, t)) = met r x (IsFound head outs) e in
      (g.store, b, w)

  -- memory is lacking in the search, or for what is found
  pub next_failed : (e : NoMemory) → ((js : List Judgement) → AreFacts modes (store_trees old.store) js fs →
      IsReached modes rules ps js (length fs + length rules) old.store s ts.items budget first last (events_left modes rules ps js old.store old.tasks.items) (Err e)) → (new : Search) → new.state ≡ Failed → (err : SearchError) → err ≡ Memory
      → IsNextOf modes rules hyps budget first last es new (Err err)
  next_failed e x new failed err m =
      let y = x hyps.judgements (subst (λ (gs : List Fact). AreFacts modes (store_trees old.store) hyps.judgements gs) (sym ef) h.ready.facts) in
      let same = ap (λ (qs : List Pair). events_left modes rules qs hyps.judgements old.store old.tasks.items) ep ∙ sym (open_events modes rules hyps old es o h) in
      subst (λ (d : SearchError). IsNextOf modes rules hyps budget first last es new (Err d)) (sym m)
      (y.0, y.1, subst (λ (q : List (Event Answer)). TakesTries budget first last q y.1 y.0) same y.2, y.3, failed)

  pub next_unexported : (r : Reached) (head : Head) (outs : Vec ℕ Global) → r.ending ≡ IsFound head outs → IsReachedWith r → (new : Search) → new.state ≡ Failed → (err : SearchError) → err ≡ Memory
      → IsNextOf modes rules hyps budget first last es new (Err err)
  next_unexported r head outs e x new failed err m =
      let (g, f, (l, b, w, t)) = met r x (IsFound head outs) e in
      subst (λ (d : SearchError). IsNextOf modes rules hyps budget first last es new (Err d)) (sym m) (r.tries, give (answer_in s head outs.items) ∷ left, t, l, failed)

-- a search that goes on has not failed
pub not_failed : (st : State) → st ≡ Open → st ≡ Failed → ⊥
not_failed st a b = let clash : Open ≡ Failed = sym a ∙ b in cc

-- a search that has come to a limit answers the same
module _ (modes : Modes) (rules : List Rule) (hyps : Hypotheses) (budget first : ℕ) (s : Search) (es : List (Event Answer)) (h : StandsForEvents modes rules hyps s es) where
  stays_as : (rest : List (Event Answer)) → es ≡ rest → TakesTries budget first first es rest 0
  stays_as rest e = record { within = (omega arith); counted = (omega arith); events = e }

  pub again_passed : (limit : Limit) (x : SearchError) → s.state ≡ AtLimit limit → IsErrorOf limit x → IsNextOf modes rules hyps budget first first es s (Err x)
  again_passed limit x e q = go limit q (subst (λ (st : State). StandsBefore st (events_left modes rules s.pairs.items hyps.judgements s.store s.tasks.items) es) e h.events)
    where
      go : (l : Limit) → IsErrorOf l x → StandsBefore (AtLimit l) (events_left modes rules s.pairs.items hyps.judgements s.store s.tasks.items) es → IsNextOf modes rules hyps budget first first es s (Err x)
      go (DeepTerm k) i (c, (depth, z, m), j) =
          let y : c ≡ too_deep depth = cc in
          let r = j ∙ ap (λ (d : Cause). stop d ∷ events_left modes rules s.pairs.items hyps.judgements s.store s.tasks.items) y in
          subst (λ (d : SearchError). IsNextOf modes rules hyps budget first first es s (Err d)) (sym i)
          (depth, m, (0, _, stays_as _ r, subst (λ (ds : List (Event Answer)). StandsForEvents modes rules hyps s ds) r h))
      go (BigTerm k) i (c, (size, z, m), j) =
          let y : c ≡ too_big size = cc in
          let r = j ∙ ap (λ (d : Cause). stop d ∷ events_left modes rules s.pairs.items hyps.judgements s.store s.tasks.items) y in
          subst (λ (d : SearchError). IsNextOf modes rules hyps budget first first es s (Err d)) (sym i)
          (size, m, (0, _, stays_as _ r, subst (λ (ds : List (Event Answer)). StandsForEvents modes rules hyps s ds) r h))
