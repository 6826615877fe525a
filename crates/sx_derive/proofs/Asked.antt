-- The first answer of a premise's goal.
use Rattle.std.proofs.Common.{◌≡◌, ℕ, zero, suc, ◌-◌, ◌<◌, ◌≤◌, List, [], ◌∷◌, map, length, Some, None, Vec, reverse, refl, sym, ap, ◌∙◌, arith, subst}
use Rattle.std.specs.declared.alloc.Global.{Global}
use Rattle.sx_term.specs.Tree.{Tree}
use Rattle.sx_rules.specs.Rules.{Judgement, Rule, Hypotheses, judgement_instance}
use Rattle.sx_rules.specs.Modes.{Modes, inputs_of, outputs_of, Goal, goal_of}
use Rattle.sx_arena.specs.Matching.{match_all, filled}
use Rattle.sx_derive.specs.Walk.{Answer, goal_events}
use Rattle.sx_derive.specs.declared.ask.Asked.{Asked}
use Rattle.sx_derive.specs.declared.ask.Asked.TheVariants.{Unanswered, Differs, Matched}
use Rattle.sx_arena.specs.declared.fact.Fact.{Fact}
use Rattle.sx_arena.specs.declared.pairs.Pair.{Pair}
use Rattle.sx_derive.specs.declared.store.Store.{Store}
use Rattle.sx_arena.specs.Arena.{trees, tree_at, AreBelow}
use Rattle.sx_derive.specs.Candidates.{goal_in, IsFact, AreFacts}
use Rattle.sx_rules.proofs.Moded.{judgement_known, goal_same}
use Rattle.sx_derive.specs.Asking.{asked_goal, asked_events, AskedFails, AreTermsOf, IsAnswered}
use Rattle.sx_derive.specs.Failing.{FailsAlong}
use Rattle.sx_derive.specs.Handing.{hyps_in}
use Rattle.sx_derive.specs.Noted.{IsNotedIn}
use Rattle.sx_derive.specs.declared.first.First.{First}
use Rattle.sx_derive.specs.declared.first.First.TheVariants.{Answer as FirstAnswer, Nothing}
use Rattle.sx_arena.specs.Binds.{env_at, BindsGrow}
use Rattle.sx_arena.specs.Pairs.{ArePairs}
use Rattle.sx_arena.specs.Places.{AreHeld}
use Rattle.sx_derive.specs.Quiet.{IsQuiet, first_given}
use Rattle.sx_derive.specs.Store.{IsStore, StoreGrows, store_trees, store_envs}
use Rattle.sx_derive.specs.Walked.{events_in}
use Rattle.sx_arena.proofs.Arenas.{maps_same, below_more}
use Rattle.sx_arena.proofs.BindChains.{env_stays}
use Rattle.sx_arena.proofs.Growing.{extends-length}
use Rattle.sx_arena.proofs.Parted.{pairs_stay}
use Rattle.sx_derive.proofs.Resumed.{sizes}
use Rattle.sx_derive.proofs.Stored.{grows_terms, grows_then, grows_binds}

-- quiet events of a goal have a level
pub quiet_level : (modes : Modes) (rules : List Rule) (hyps : Hypotheses) (budget levels : ℕ) (goal : Goal) → IsQuiet budget (goal_events modes rules hyps levels goal) → 0 < levels
unfolding goal_events
quiet_level modes rules hyps budget zero goal q = absurd (q.no_stop tt)
quiet_level modes rules hyps budget (suc levels) goal q = omega arith

module _ (modes : Modes) (rules : List Rule) (pairs : List Pair) (s t : Store) (env levels budget : ℕ) (j : Judgement) (terms : List ℕ) (h : IsStore modes rules s) (hp : ArePairs (length (store_trees s)) pairs) (le : env ≤ length s.binds.cells.items)
    (a : AreHeld s.arena t.arena terms (inputs_of modes (judgement_instance (filled (env_at (store_envs s) env)) j))) (b : t.binds ≡ s.binds) (k : t.kids.items ≡ s.kids.items) (f : t.frames.items ≡ s.frames.items) (o : t.until ≡ s.until) where
  pub made_grows : StoreGrows modes rules s t
  made_grows = grows_terms modes rules s t h a.arena a.extends b k f o

  hyps_made : (js : List Judgement) → hyps_in pairs t js ≡ hyps_in pairs s js
  hyps_made js = λ i. record { judgements = js; pairs = pairs_stay (store_trees s) (store_trees t) a.extends pairs hp i }

  goal_made : goal_in t j.form terms ≡ asked_goal modes s env j
  goal_made = λ i. record { form = j.form; terms = a.are i }

  -- where the goal by the numbers of the terms leads, the premise's leads
  made_fails : (js : List Judgement) → 0 < levels → (ks : List ℕ) → FailsAlong modes rules (hyps_in pairs t js) (suc (levels - 1)) (goal_in t j.form terms) ks → AskedFails modes rules pairs js s env levels j ks
  made_fails js l ks f =
      let n : suc (levels - 1) ≡ levels = omega arith in
      subst (λ (h : Hypotheses). FailsAlong modes rules h levels (asked_goal modes s env j) ks) (hyps_made js)
      (subst (λ (g : Goal). FailsAlong modes rules (hyps_in pairs t js) levels g ks) goal_made
      (subst (λ (m : ℕ). FailsAlong modes rules (hyps_in pairs t js) m (goal_in t j.form terms) ks) n f))

  -- the events by the numbers of the terms are those of the goal
  pub made_events : (js : List Judgement) → 0 < levels → events_in modes rules pairs js t (levels - 1) j.form terms ≡ asked_events modes rules pairs js s env levels j
  made_events js l =
      let n : suc (levels - 1) ≡ levels = omega arith in
      λ i. goal_events modes rules (record { judgements = js; pairs = pairs_stay (store_trees s) (store_trees t) a.extends pairs hp i }) (n i) (record { form = j.form; terms = a.are i })

  module _ (u : Store) (kept : Vec ℕ Global) (same : kept.items ≡ terms) (js : List Judgement) (l : 0 < levels) where
    terms_in : (v : Store) → StoreGrows modes rules t v → AreTermsOf v (asked_goal modes s env j) kept.items
    terms_in v g = record {
      below = subst (λ is. AreBelow (length (store_trees v)) is) (sym same) (below_more (length (store_trees t)) (length (store_trees v)) (extends-length (store_trees t) (store_trees v) g.trees) terms a.within);
      are = ap (map (tree_at (store_trees v))) same ∙ maps_same (store_trees t) (store_trees v) g.trees terms a.within ∙ a.are;
    }

    -- what is found for the goal by the numbers of the terms
    abbrev IsFound : First → Type 0
    IsFound first =
        StoreGrows modes rules t u × IsNotedIn (store_trees u) (first_given (events_in modes rules pairs js t (levels - 1) j.form terms)) (FailsAlong modes rules (hyps_in pairs t js) (suc (levels - 1)) (goal_in t j.form terms)) first

    abbrev IsAsked : Store → Asked → Type 0
    IsAsked v asked = IsAnswered modes s v env j (first_given (asked_events modes rules pairs js s env levels j)) (AskedFails modes rules pairs js s env levels j) asked

    pub ask_none : (notes : Vec ℕ Global) → IsFound (Nothing notes) → IsAsked u (Unanswered kept notes)
    ask_none notes (g, (e, f)) = (terms_in u g, ap first_given (sym (made_events js l)) ∙ e, made_fails js l (reverse notes.items) f)

    module _ (got : Vec ℕ Global) (r : IsFound (FirstAnswer got)) (v : Store) (g : BindsGrow (trees u.arena) u.binds v.binds)
        (va : v.arena ≡ u.arena) (vk : v.kids.items ≡ u.kids.items) (vf : v.frames.items ≡ u.frames.items) (vo : v.until ≡ u.until) where
      uv : StoreGrows modes rules u v
      uv = grows_binds modes rules u v r.0.store g va vk vf vo

      env_same : env_at (store_envs u) env ≡ env_at (store_envs s) env
      env_same =
          let su = grows_then modes rules s t u made_grows r.0 in
          let z = (sizes modes rules s).envs in
          env_stays (store_envs s) (store_envs u) su.envs env (omega arith)

      abbrev answer_is : Answer
      answer_is = (r.1.1.0, map (tree_at (store_trees u)) got.items)

      first_is : first_given (asked_events modes rules pairs js s env levels j) ≡ Some answer_is
      first_is = ap first_given (sym (made_events js l)) ∙ r.1.1.1

      pub ask_differs : match_all (outputs_of modes j) (map (tree_at (store_trees u)) got.items) (env_at (store_envs u) env) ≡ None →
          IsAsked v (Differs kept got)
      ask_differs m = (
        terms_in v (grows_then modes rules t u v r.0 uv),
        below_more (length (store_trees u)) (length (store_trees v)) (extends-length (store_trees u) (store_trees v) uv.trees) got.items r.1.0,
        (
          answer_is,
          first_is,
          sym (maps_same (store_trees u) (store_trees v) uv.trees got.items r.1.0),
          ap (match_all (outputs_of modes j) (map (tree_at (store_trees u)) got.items)) (sym env_same) ∙ m,
        ),
      )

      pub ask_matches : (next : ℕ) → next ≤ length v.binds.cells.items → match_all (outputs_of modes j) (map (tree_at (store_trees u)) got.items) (env_at (store_envs u) env) ≡ Some (env_at (store_envs v) next) →
          IsAsked v (Matched next)
      ask_matches next ln m =
          (ln, (answer_is, first_is, ap (match_all (outputs_of modes j) (map (tree_at (store_trees u)) got.items)) (sym env_same) ∙ m))

-- facts are those of one list of judgements
fact_unique : (modes : Modes) (ts : List Tree) (j k : Judgement) (f : Fact) → IsFact modes ts j f → IsFact modes ts k f → j ≡ k
fact_unique modes ts j k f a b =
    judgement_known modes j k (goal_same (goal_of modes j) (goal_of modes k) (sym a.form ∙ b.form) (sym a.inputs ∙ b.inputs)) (sym a.outputs ∙ b.outputs)

pub facts_unique : (modes : Modes) (ts : List Tree) (js ks : List Judgement) (fs : List Fact) → AreFacts modes ts js fs → AreFacts modes ts ks fs → js ≡ ks
facts_unique modes ts [] [] [] a b = refl
facts_unique modes ts [] (k ∷ ks) [] a b = absurd b
facts_unique modes ts (j ∷ js) ks [] a b = absurd a
facts_unique modes ts [] ks (f ∷ fs) a b = absurd a
facts_unique modes ts (j ∷ js) [] (f ∷ fs) a b = absurd b
facts_unique modes ts (j ∷ js) (k ∷ ks) (f ∷ fs) a b =
    let x = fact_unique modes ts j k f a.0 b.0 in
    let y = facts_unique modes ts js ks fs a.1 b.1 in
    λ i. x i ∷ y i
