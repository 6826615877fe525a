-- A walk that goes on from what its events have come to.
use Rattle.std.proofs.Common.{◌≡◌, ℕ, zero, suc, ◌+◌, ◌<◌, Bool, true, false, List, [], ◌∷◌, map, length, Option, Some, None, refl, sym, ap, ◌∙◌, arith, subst}
use Rattle.std.specs.Prelude.{Vec, MatchOption, IsTrue, ◌↔◌, not}
use Rattle.std.specs.declared.alloc.Global.{Global}
use Rattle.sx_term.specs.Tree.{Tree}
use Rattle.sx_rules.specs.Rules.{Judgement, Rule}
use Rattle.sx_rules.specs.Modes.{Modes}
use Rattle.sx_arena.specs.Arena.{tree_at, AreBelow}
use Rattle.sx_arena.specs.Pairs.{ArePairs}
use Rattle.sx_arena.specs.Views.{rules_of, set_modes}
use Rattle.sx_arena.specs.declared.pairs.Pair.{Pair}
use Rattle.sx_arena.proofs.Arenas.{distinct, maps_same, below_more}
use Rattle.sx_arena.proofs.Growing.{extends-length}
use Rattle.sx_derive.specs.Candidates.{goal_in}
use Rattle.sx_derive.specs.Givens.{HasFacts}
use Rattle.sx_derive.specs.Halting.{AfterTries, HaltsWith, HaltsAfter}
use Rattle.sx_derive.specs.Handing.{hyps_in, answer_in}
use Rattle.sx_derive.specs.Machine.{Frame, tasks_events}
use Rattle.sx_derive.specs.Runs.{IsRunTo, IsRunBy, StandFrom, TakesTry, candidates_of, left_by}
use Rattle.sx_derive.specs.Search.{are_wanted, found_when, walk, tries_of, tries_unless}
use Rattle.sx_derive.specs.Store.{IsStore, StoreGrows, IsMark, store_trees}
use Rattle.sx_derive.specs.Tasks.{task_from, events_left, TasksFit, Piled, wanted_in, WantedBelow, IsEnding}
use Rattle.sx_derive.specs.Walk.{Event, try, give, Answer, tries_then}
use Rattle.sx_derive.specs.Walked.{events_in, IsUnwanted, HasComeTo, WalkEnds}
use Rattle.sx_derive.specs.declared.chains.Head.{Head}
use Rattle.sx_derive.specs.declared.given.Given.{Given}
use Rattle.sx_derive.specs.declared.store.Mark.{Mark}
use Rattle.sx_derive.specs.declared.store.Store.{Store}
use Rattle.sx_derive.specs.declared.tasks.Ending.{Ending as EndingOf}
use Rattle.sx_derive.specs.declared.tasks.Ending.TheVariants.{Found, Passed, DepthSpent}
use Rattle.sx_derive.specs.declared.tasks.Ending.TheVariants.{Spent, Exhausted}
use Rattle.sx_derive.specs.declared.tasks.Task.{Task as TaskOf}
use Rattle.sx_derive.proofs.Handed.{frames_until}
use Rattle.sx_derive.proofs.Stored.{grows_same}
use Rattle.sx_derive.proofs.Tasked.{task_starts}
use Rattle.sx_derive.proofs.Tried.{numbers_same, numbers_differ}

-- the outputs are wanted just where the numbers are the same
wanted_true : (modes : Modes) (rules : List Rule) (old new : Store) (w : Vec ℕ Global) (outs : List ℕ) → StoreGrows modes rules old new → AreBelow (length (store_trees old)) w.items → outs ≡ w.items → are_wanted (wanted_in old (Some w)) (map (tree_at (store_trees new)) outs) ≡ true
wanted_true modes rules old new w outs g b e =
    ap (λ ts. are_wanted (Some ts) (map (tree_at (store_trees new)) outs)) (sym (maps_same (store_trees old) (store_trees new) g.trees w.items b)) ∙ numbers_same (store_trees new) outs w.items e

wanted_false : (modes : Modes) (rules : List Rule) (old new : Store) (w : Vec ℕ Global) (outs : List ℕ) → StoreGrows modes rules old new → AreBelow (length (store_trees old)) w.items → AreBelow (length (store_trees new)) outs → (outs ≡ w.items → ⊥) → are_wanted (wanted_in old (Some w)) (map (tree_at (store_trees new)) outs) ≡ false
wanted_false modes rules old new w outs g b c d =
    ap (λ ts. are_wanted (Some ts) (map (tree_at (store_trees new)) outs)) (sym (maps_same (store_trees old) (store_trees new) g.trees w.items b))
    ∙ numbers_differ (store_trees new) (distinct new.arena.cells g.store.arena) outs w.items c (below_more (length (store_trees old)) (length (store_trees new)) (extends-length (store_trees old) (store_trees new) g.trees) w.items b) d

-- tries that come to nothing are walked over
walk_tries : (wanted : Option (List Tree)) (n left before : ℕ) (es : List (Event Answer)) → before ≡ n + left → walk wanted before (tries_then n es) ≡ walk wanted left es
walk_tries wanted zero left before es e = let f : before ≡ left = omega arith in ap (λ (k : ℕ). walk wanted k es) f
walk_tries wanted (suc n) left zero es e = absurd (omega arith)
walk_tries wanted (suc n) left (suc before) es e = walk_tries wanted n left before es (omega arith)

tries_tries : (wanted : Option (List Tree)) (n left before : ℕ) (es : List (Event Answer)) → before ≡ n + left → tries_of wanted before (tries_then n es) ≡ n + tries_of wanted left es
tries_tries wanted zero left before es e =
    let f : before ≡ left = omega arith in
    let g : tries_of wanted before es ≡ tries_of wanted left es = ap (λ (k : ℕ). tries_of wanted k es) f in
    omega arith
tries_tries wanted (suc n) left zero es e = absurd (omega arith)
tries_tries wanted (suc n) left (suc before) es e = let h = tries_tries wanted n left before es (omega arith) in omega arith

-- what comes after some tries is walked with the tries that are left
module _ (wanted : Option (List Tree)) where
  after_walk : (old left : ℕ) (es rest : List (Event Answer)) → AfterTries old left es rest → walk wanted old es ≡ walk wanted left rest
  after_walk old left es rest h = ap (walk wanted old) h.2 ∙ walk_tries wanted h.0 left old rest h.1

  after_tries : (old left : ℕ) (es rest : List (Event Answer)) → AfterTries old left es rest → tries_of wanted old es + left ≡ old + tries_of wanted left rest
  after_tries old left es rest h =
      let t : tries_of wanted old es ≡ h.0 + tries_of wanted left rest = ap (tries_of wanted old) h.2 ∙ tries_tries wanted h.0 left old rest h.1 in
      let e = h.1 in
      omega arith

  -- where the events halt the walk
  halts_walk : (s : Store) (left : ℕ) (ending : EndingOf) (es : List (Event Answer)) → HaltsWith left ending es → IsEnding s ending (walk wanted left es) × (tries_of wanted left es ≡ 0)
  halts_walk s left (Passed limit) es h = subst (λ xs. IsEnding s (Passed limit) (walk wanted left xs) × (tries_of wanted left xs ≡ 0)) (sym h.2.1) ((h.0, h.1, refl), refl)
  halts_walk s left DepthSpent es h = subst (λ xs. IsEnding s DepthSpent (walk wanted left xs) × (tries_of wanted left xs ≡ 0)) (sym h.1) (refl, refl)
  halts_walk s left Spent es h =
      subst (λ xs. IsEnding s Spent (walk wanted left xs) × (tries_of wanted left xs ≡ 0)) (sym h.1.1)
      (subst (λ (k : ℕ). IsEnding s Spent (walk wanted k (try ∷ h.1.0)) × (tries_of wanted k (try ∷ h.1.0) ≡ 0)) (sym h.0) (refl, refl))
  halts_walk s left (Found head outs) es h = absurd h
  halts_walk s left Exhausted es h = absurd h

  -- how the walk ends that goes on with those events
  ends_after : (s : Store) (old left : ℕ) (ending : EndingOf) (es rest : List (Event Answer)) → AfterTries old left es rest → IsEnding s ending (walk wanted left rest) × (tries_of wanted left rest ≡ 0) →
      IsEnding s ending (walk wanted old es) × (old ≡ tries_of wanted old es + left)
  ends_after s old left ending es rest h e =
      let t = after_tries old left es rest h in
      let z = e.1 in
      (subst (IsEnding s ending) (sym (after_walk old left es rest h)) e.0, (omega arith))

-- the walk that halts ends so
pub halts_ends : (modes : Modes) (rules : List Rule) (old new : Store) (wanted : Option (Vec ℕ Global)) (budget left : ℕ) (es : List (Event Answer)) (ending : EndingOf) → StoreGrows modes rules old new → HaltsAfter budget left es ending →
    WalkEnds modes rules old new wanted budget left es ending
halts_ends modes rules old new wanted budget left es ending g h =
    let e = ends_after (wanted_in old wanted) new budget left ending es h.0 h.1 (halts_walk (wanted_in old wanted) new left ending h.0 h.2) in
    (g, e.0, e.1)

-- the walk that comes to the end of its events
pub exhausted_ends : (modes : Modes) (rules : List Rule) (pairs : List Pair) (js : List Judgement) (n : ℕ) (old new : Store) (wanted : Option (Vec ℕ Global)) (budget left : ℕ) (es : List (Event Answer)) (tasks : List TaskOf) →
    IsRunTo modes rules pairs js n old new budget left es tasks Exhausted → WalkEnds modes rules old new wanted budget left es Exhausted
exhausted_ends modes rules pairs js n old new wanted budget left es tasks r =
    let e = ends_after (wanted_in old wanted) new budget left Exhausted es [] r.1 (refl, refl) in
    (r.0, e.0, e.1)

module _ (modes : Modes) (rules : List Rule) (pairs : List Pair) (js : List Judgement) (n : ℕ) (first s : Store) (wanted : Option (Vec ℕ Global)) (hw : WantedBelow (length (store_trees first)) wanted) where
  -- an answer is wanted, unless its outputs are others
  wanted_unless : StoreGrows modes rules first s → (head : Head) (outs : Vec ℕ Global) → AreBelow (length (store_trees s)) outs.items → (w : Option (Vec ℕ Global)) → WantedBelow (length (store_trees first)) w → (IsUnwanted w (Found head outs) → ⊥) →
      are_wanted (wanted_in first w) (map (tree_at (store_trees s)) outs.items) ≡ true
  wanted_unless g head outs b None l u = refl
  wanted_unless g head outs b (Some w) l u = go (are_wanted (wanted_in first (Some w)) (map (tree_at (store_trees s)) outs.items)) refl
    where
      go : (x : Bool) → are_wanted (wanted_in first (Some w)) (map (tree_at (store_trees s)) outs.items) ≡ x → are_wanted (wanted_in first (Some w)) (map (tree_at (store_trees s)) outs.items) ≡ true
      go true e = e
      go false e = absurd (u (λ q. let f : true ≡ false = sym (wanted_true modes rules first s w outs.items g l q) ∙ e in let z : ⊥ = cc in z))

  -- the walk ends where its events have come to, unless that is an answer that is not wanted
  pub come_ends : (budget left : ℕ) (es : List (Event Answer)) (tasks : List TaskOf) (ending : EndingOf) → IsRunTo modes rules pairs js n first s budget left es tasks ending → (IsUnwanted wanted ending → ⊥) → WalkEnds modes rules first s wanted budget left es ending
  come_ends budget left es tasks (Found head outs) r u =
      let w = wanted_in first wanted in
      let rest = events_left modes rules pairs js s tasks in
      let q = wanted_unless r.0 head outs r.3 wanted hw u in
      let f = ap (λ b. found_when b (answer_in s head outs.items) (walk w left rest)) q in
      let t = ap (λ b. tries_unless b (tries_of w left rest)) q in
      let e = ends_after w s budget left (Found head outs) es (give (answer_in s head outs.items) ∷ rest) r.4 ((r.2, r.3, f), t) in
      (r.0, e.0, e.1)
  come_ends budget left es tasks Exhausted r u = exhausted_ends modes rules pairs js n first s wanted budget left es tasks r
  come_ends budget left es tasks (Passed limit) r u = halts_ends modes rules first s wanted budget left es (Passed limit) r.0 r.1
  come_ends budget left es tasks DepthSpent r u = halts_ends modes rules first s wanted budget left es DepthSpent r.0 r.1
  come_ends budget left es tasks Spent r u = halts_ends modes rules first s wanted budget left es Spent r.0 r.1

-- the walk of events goes on as that of others
pub record GoesAs (wanted : Option (List Tree)) (budget : ℕ) (es : List (Event Answer)) (then_budget : ℕ) (then_es : List (Event Answer)) : Type 0 where
  pub walks : walk wanted budget es ≡ walk wanted then_budget then_es
  pub tries : tries_of wanted budget es + then_budget ≡ budget + tries_of wanted then_budget then_es

goes_then : (wanted : Option (List Tree)) (a b c : ℕ) (es fs gs : List (Event Answer)) → GoesAs wanted a es b fs → GoesAs wanted b fs c gs → GoesAs wanted a es c gs
goes_then wanted a b c es fs gs h k =
    let x = h.tries in
    let y = k.tries in
    record { walks = h.walks ∙ k.walks; tries = (omega arith) }

-- after an answer that is not wanted it goes on with the tasks that are left
goes_past : (modes : Modes) (rules : List Rule) (pairs : List Pair) (js : List Judgement) (n : ℕ) (first s : Store) (wanted : Option (Vec ℕ Global)) → WantedBelow (length (store_trees first)) wanted →
    (budget left : ℕ) (es : List (Event Answer)) (tasks : List TaskOf) (ending : EndingOf) → IsRunTo modes rules pairs js n first s budget left es tasks ending → IsUnwanted wanted ending →
    Piled modes rules n first tasks s × GoesAs (wanted_in first wanted) budget es left (events_left modes rules pairs js s tasks)
goes_past modes rules pairs js n first s None hw budget left es tasks ending r u = absurd u
goes_past modes rules pairs js n first s (Some o) hw budget left es tasks (Found head outs) r u =
    let w = wanted_in first (Some o) in
    let rest = events_left modes rules pairs js s tasks in
    let all = give (answer_in s head outs.items) ∷ rest in
    let q = wanted_false modes rules first s o outs.items r.0 hw r.3 u in
    let f = ap (λ b. found_when b (answer_in s head outs.items) (walk w left rest)) q in
    let t : tries_of w left all ≡ tries_of w left rest = ap (λ b. tries_unless b (tries_of w left rest)) q in
    let x = after_tries w budget left es all r.4 in
    (r.1, record { walks = after_walk w budget left es all r.4 ∙ f; tries = (omega arith) })
goes_past modes rules pairs js n first s (Some o) hw budget left es tasks (Passed limit) r u = absurd u
goes_past modes rules pairs js n first s (Some o) hw budget left es tasks DepthSpent r u = absurd u
goes_past modes rules pairs js n first s (Some o) hw budget left es tasks Spent r u = absurd u
goes_past modes rules pairs js n first s (Some o) hw budget left es tasks Exhausted r u = absurd u

-- events that have come to the ending with tasks by another name
pub come_by : (g : Given) (first s : Store) (js : List Judgement) (budget left : ℕ) (es : List (Event Answer)) (tasks more : List TaskOf) (ending : EndingOf) → HasFacts g first js → ArePairs (length (store_trees first)) g.pairs.now → tasks ≡ more →
    IsRunBy g js first s budget left es more ending → HasComeTo g first s js budget left es tasks ending
come_by g first s js budget left es tasks more ending f p e r = record { facts = f; pairs = p; comes = subst (λ (ts : List TaskOf). IsRunBy g js first s budget left es ts ending) (sym e) r }

-- the walk of the events goes on as that of some that have come to the ending
pub record HasGone (g : Given) (first s : Store) (js : List Judgement) (wanted : Option (Vec ℕ Global)) (budget left : ℕ) (es : List (Event Answer)) (tasks : List TaskOf) (ending : EndingOf) : Type 0 where
  pub then_budget : ℕ
  pub then_es : List (Event Answer)
  pub comes : HasComeTo g first s js then_budget left then_es tasks ending
  pub goes : GoesAs (wanted_in first wanted) budget es then_budget then_es

module _ (g : Given) (first s : Store) (js : List Judgement) (wanted : Option (Vec ℕ Global)) (budget left : ℕ) (es : List (Event Answer)) (tasks : List TaskOf) (ending : EndingOf) where
  pub gone_first : HasComeTo g first s js budget left es tasks ending → HasGone g first s js wanted budget left es tasks ending
  gone_first h =
      let n = tries_of (wanted_in first wanted) budget es in
      record { then_budget = budget; then_es = es; comes = h; goes = record { walks = refl; tries = (omega arith) } }

  module _ (hw : WantedBelow (length (store_trees first)) wanted) (h : HasGone g first s js wanted budget left es tasks ending) where
    pub gone_ends : (IsUnwanted wanted ending → ⊥) → WalkEnds (set_modes g.rules.now) (rules_of g.rules.now) first s wanted budget left es ending
    gone_ends u =
        let e = come_ends (set_modes g.rules.now) (rules_of g.rules.now) g.pairs.now js (candidates_of g) first s wanted hw h.then_budget left h.then_es tasks ending h.comes.comes u in
        let x = h.goes.tries in
        let y = e.2 in
        (e.0, subst (IsEnding s ending) (sym h.goes.walks) e.1, (omega arith))

    past : IsUnwanted wanted ending → Piled (set_modes g.rules.now) (rules_of g.rules.now) (candidates_of g) first tasks s × GoesAs (wanted_in first wanted) h.then_budget h.then_es left (left_by g js s tasks)
    past u = goes_past (set_modes g.rules.now) (rules_of g.rules.now) g.pairs.now js (candidates_of g) first s wanted hw h.then_budget left h.then_es tasks ending h.comes.comes u

    -- the tasks that are left can be run
    pub gone_stands : IsUnwanted wanted ending → StandFrom g first js tasks s
    gone_stands u = record { facts = h.comes.facts; pairs = h.comes.pairs; piled = (past u).0 }

    pub gone_more : IsUnwanted wanted ending → (new : Store) (then_left : ℕ) (then_tasks : List TaskOf) (then_ending : EndingOf) → IsRunBy g js first new left then_left (left_by g js s tasks) then_tasks then_ending →
        HasGone g first new js wanted budget then_left es then_tasks then_ending
    gone_more u new then_left then_tasks then_ending r = record {
      then_budget = left;
      then_es = left_by g js s tasks;
      comes = record { facts = h.comes.facts; pairs = h.comes.pairs; comes = r };
      goes = goes_then (wanted_in first wanted) budget h.then_budget left es h.then_es (left_by g js s tasks) h.goes (past u).1;
    }

-- how often the walk can still go on
pub tries_on : EndingOf → ℕ → ℕ
tries_on (Found head outs) n = suc n
tries_on (Passed limit) n = 0
tries_on DepthSpent n = 0
tries_on Spent n = 0
tries_on Exhausted n = 0

on_less : (ending : EndingOf) (old new : ℕ) → TakesTry old new ending → tries_on ending new < suc old
unfolding tries_on
on_less (Found head outs) old new l = omega arith
on_less (Passed limit) old new l = omega arith
on_less DepthSpent old new l = omega arith
on_less Spent old new l = omega arith
on_less Exhausted old new l = omega arith

pub takes_less : (wanted : Option (Vec ℕ Global)) (ending then_ending : EndingOf) (old new : ℕ) → IsUnwanted wanted ending → TakesTry old new then_ending → tries_on then_ending new < tries_on ending old
unfolding tries_on
takes_less None ending then_ending old new u l = absurd u
takes_less (Some w) (Found head outs) then_ending old new u l = on_less then_ending old new l
takes_less (Some w) (Passed limit) then_ending old new u l = absurd u
takes_less (Some w) DepthSpent then_ending old new u l = absurd u
takes_less (Some w) Spent then_ending old new u l = absurd u
takes_less (Some w) Exhausted then_ending old new u l = absurd u

-- the answer is unwanted just where the test fails
pub unwanted_found : (wanted : Option (Vec ℕ Global)) (head : Head) (outs : Vec ℕ Global) (b : Bool) (is : List ℕ) → is ≡ outs.items → MatchOption wanted (b ≡ true) (λ w. IsTrue b ↔ (is ≡ w.items)) → IsTrue (not b) ↔ IsUnwanted wanted (Found head outs)
unwanted_found None head outs true is e t = ((λ x. let z : ⊥ = cc in z), λ x. absurd x)
unwanted_found None head outs false is e t = (let z : ⊥ = cc in absurd z)
unwanted_found (Some w) head outs true is e t = ((λ x. let z : ⊥ = cc in absurd z), λ x. absurd (x (sym e ∙ t.0 refl)))
unwanted_found (Some w) head outs false is e t = ((λ x q. let f = t.1 (e ∙ q) in let z : ⊥ = cc in z), λ x. refl)

-- the events of a goal are those of its first task
pub first_events : (modes : Modes) (rules : List Rule) (pairs : List Pair) (js : List Judgement) (s : Store) (form : ℕ) (terms : Vec ℕ Global) (levels : ℕ) (mark : Mark) (tasks : List TaskOf) → IsStore modes rules s →
    tasks ≡ record { next = 0; form = form; terms = terms; levels = levels; frames = s.until; mark = mark } ∷ [] → events_left modes rules pairs js s tasks ≡ events_in modes rules pairs js s levels form terms.items
first_events modes rules pairs js s form terms levels mark tasks h e =
    ap (events_left modes rules pairs js s) e
    ∙ ap (λ (fs : List Frame). tasks_events modes rules (hyps_in pairs s js) (task_from 0 js rules levels (goal_in s form terms.items) fs ∷ [])) (frames_until modes rules s h)
    ∙ sym (task_starts modes rules (hyps_in pairs s js) levels (goal_in s form terms.items))

pub first_fits : (modes : Modes) (rules : List Rule) (s : Store) (n form : ℕ) (terms : Vec ℕ Global) (levels : ℕ) (mark : Mark) (tasks : List TaskOf) → IsStore modes rules s → AreBelow (length (store_trees s)) terms.items →
    tasks ≡ record { next = 0; form = form; terms = terms; levels = levels; frames = s.until; mark = mark } ∷ [] → TasksFit modes rules s n tasks
first_fits modes rules s n form terms levels mark tasks h b e =
    subst (λ (ts : List TaskOf). TasksFit modes rules s n ts) (sym e) (record { next = (omega arith); terms = b; frames = h.until; until = (omega arith) }, tt)

pub first_piled : (modes : Modes) (rules : List Rule) (s : Store) (n form : ℕ) (terms : Vec ℕ Global) (levels : ℕ) (mark : Mark) (tasks : List TaskOf) → IsStore modes rules s → IsMark s mark → AreBelow (length (store_trees s)) terms.items →
    tasks ≡ record { next = 0; form = form; terms = terms; levels = levels; frames = s.until; mark = mark } ∷ [] → Piled modes rules n s tasks s
first_piled modes rules s n form terms levels mark tasks h k b e =
    subst (λ (ts : List TaskOf). Piled modes rules n s ts s) (sym e) (s, (grows_same modes rules s h, k, record { next = (omega arith); terms = b; frames = h.until; until = (omega arith) }, grows_same modes rules s h))
