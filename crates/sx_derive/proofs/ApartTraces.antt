-- What comes of a premise that wants two terms to be apart.
use Rattle.std.proofs.Common.{◌≡◌, ℕ, suc, ◌≤◌, Bool, true, false, List, [], ◌∷◌, ◌++◌, length, reverse, Vec, sym, ap, ◌∙◌, arith, subst, append-nil}
use Rattle.std.specs.declared.alloc.Global.{Global}
use Rattle.sx_term.specs.Tree.{Tree}
use Rattle.sx_rules.specs.Derivations.{Proofs}
use Rattle.sx_rules.specs.Instances.{instance}
use Rattle.sx_rules.specs.Modes.{Modes}
use Rattle.sx_rules.specs.Rules.{Judgement, Premise, apart, Rule, Hypotheses}
use Rattle.sx_arena.specs.Binds.{env_at}
use Rattle.sx_arena.specs.Matching.{Assignment, filled}
use Rattle.sx_arena.specs.Pairs.{pairs_of, ArePairs, IsTruthTold}
use Rattle.sx_arena.specs.declared.pairs.Pair.{Pair}
use Rattle.sx_arena.proofs.Parted.{pairs_stay}
use Rattle.sx_derive.specs.Chains.{kids_at}
use Rattle.sx_derive.specs.Failing.{PremisesFail, FailsAlong}
use Rattle.sx_derive.specs.Handing.{hyps_in}
use Rattle.sx_derive.specs.Machine.{premises_after}
use Rattle.sx_derive.specs.Store.{IsStore, StoreGrows, store_trees, store_envs, store_kids}
use Rattle.sx_derive.specs.Tasks.{events_left, TasksFit}
use Rattle.sx_derive.specs.Traced.{NotedFrom, PremiseTraced}
use Rattle.sx_derive.specs.Walk.{when, are_apart, goal_events}
use Rattle.sx_derive.specs.declared.chains.Waiting.{Waiting}
use Rattle.sx_derive.specs.declared.store.Store.{Store}
use Rattle.sx_derive.specs.declared.tasks.Task.{Task as TaskOf}
use Rattle.sx_derive.specs.declared.trace.Premised.{Premised}
use Rattle.sx_derive.specs.declared.trace.Premised.TheVariants.{Holds, Fails}
use Rattle.sx_derive.proofs.Premised.{stays}
use Rattle.sx_derive.proofs.RuleEvents.{after_apart}
use Rattle.sx_derive.proofs.Stored.{grows_terms}
use Rattle.sx_derive.proofs.Turned.{fits_more, piled_later, events_stay}

module _ (modes : Modes) (rules : List Rule) (pairs : List Pair) (js : List Judgement) (n : ℕ) (c : Waiting) (rule : Rule) (t u : Tree) (ps : List Premise) (s new : Store) (before : List TaskOf)
    (tries : ℕ) (h : IsStore modes rules s) (hp : ArePairs (length (store_trees s)) pairs) (le : c.env ≤ length s.binds.cells.items) (lk : c.kids ≤ length s.kids.items) (fit : TasksFit modes rules s n before) (b : Bool)
    (told : IsTruthTold s.arena new.arena b (are_apart (record { judgements = []; pairs = pairs_of (store_trees s) pairs }) (instance (filled (env_at (store_envs s) c.env)) t) (instance (filled (env_at (store_envs s) c.env)) u)))
    (eb : new.binds ≡ s.binds) (ek : new.kids.items ≡ s.kids.items) (ef : new.frames.items ≡ s.frames.items) (eu : new.until ≡ s.until) where
  abbrev hyps : Hypotheses
  hyps = hyps_in pairs s js

  abbrev env : Assignment
  env = env_at (store_envs s) c.env

  abbrev kids : Proofs
  kids = kids_at (store_kids s) c.kids

  grown : StoreGrows modes rules s new
  grown = grows_terms modes rules s new h told.arena told.extends eb ek ef eu

  left_stays : events_left modes rules pairs js s before ≡ events_left modes rules pairs js new before
  left_stays = sym (events_stay modes rules n pairs js s new before hp grown fit)

  apart_events : premises_after modes rules hyps c.rule rule c.levels (apart t u ∷ ps) env kids ≡ when b (premises_after modes rules hyps c.rule rule c.levels ps env kids)
  apart_events = after_apart modes rules hyps c.rule rule c.levels b t u ps env kids (sym told.is)

  -- no tasks come behind those before
  none_more : (premised : Premised) → PremiseTraced modes rules pairs js n s new tries tries c rule (apart t u) ps before before premised → PremiseTraced modes rules pairs js n s new tries tries c rule (apart t u) ps before (before ++ []) premised
  none_more premised x = subst (λ (after : List TaskOf). PremiseTraced modes rules pairs js n s new tries tries c rule (apart t u) ps before after premised) (sym (append-nil before)) x

  pub apart_failed : b ≡ false → (notes : Vec ℕ Global) → notes.items ≡ [] → PremiseTraced modes rules pairs js n s new tries tries c rule (apart t u) ps before (before ++ []) (Fails notes)
  apart_failed f notes e =
      let none_noted : [] ≡ reverse notes.items = sym (ap reverse e) in
      none_more (Fails notes) (record {
        piled = λ first p. piled_later modes rules n first s new before p grown;
        grows = grown;
        fits = fits_more modes rules n s new before grown fit;
        is = (
          (
            0,
            (omega arith),
            (λ i. apart_events i ++ events_left modes rules pairs js s before)
                ∙ (λ i. when (f i) (premises_after modes rules hyps c.rule rule c.levels ps env kids) ++ left_stays i),
          ),
          subst (λ (ks : List ℕ). NotedFrom modes rules pairs js s c.levels c.premise (apart t u ∷ ps) env ks) none_noted tt,
        );
      })

  pub apart_passed : b ≡ true → PremiseTraced modes rules pairs js n s new tries tries c rule (apart t u) ps before (before ++ []) (Holds c.env c.kids)
  apart_passed f =
      let x = stays modes rules s new c.env c.kids 0 grown le lk (omega arith) in
      none_more (Holds c.env c.kids) (record {
        piled = λ first p. piled_later modes rules n first s new before p grown;
        grows = grown;
        fits = fits_more modes rules n s new before grown fit;
        is = (
          x.env_within,
          x.kids_within,
          (
            0,
            (omega arith),
            (λ i. apart_events i ++ events_left modes rules pairs js s before)
                ∙ (λ i. when (f i) (premises_after modes rules hyps c.rule rule c.levels ps env kids) ++ left_stays i)
                ∙ (λ i. premises_after modes rules (record { judgements = js; pairs = sym (pairs_stay (store_trees s) (store_trees new) grown.trees pairs hp) i }) c.rule rule c.levels ps (sym x.envs i) (sym x.kids_are i) ++ events_left modes rules pairs js new before),
          ),
          noted x.envs,
        );
      })
    where
      noted : env_at (store_envs new) c.env ≡ env → (ks : List ℕ) → NotedFrom modes rules pairs js s c.levels (suc c.premise) ps (env_at (store_envs new) c.env) ks → NotedFrom modes rules pairs js s c.levels c.premise (apart t u ∷ ps) env ks
      noted e [] k = tt
      noted e (i ∷ ks) k = (
        (let l = k.0 in omega arith),
        (
          sym told.is ∙ f,
          subst (λ (y : Assignment). PremisesFail modes rules hyps (FailsAlong modes rules hyps c.levels) (goal_events modes rules hyps c.levels) (suc c.premise) i ks ps y) e k.1,
        ),
      )
