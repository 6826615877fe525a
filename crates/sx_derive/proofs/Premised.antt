-- The premises of a rule.
use Rattle.std.proofs.Common.{◌≡◌, ℕ, zero, suc, ◌+◌, ◌≤◌, ◌<◌, Bool, true, false, List, [], ◌∷◌, map, drop, length, get_or, Some, sym, ap, ◌∙◌, arith, subst}
use Rattle.std.specs.Prelude.{slice_get}
use Rattle.std.proofs.lemmas.List.{drop_all, length-map}
use Rattle.sx_term.specs.Tree.{Tree}
use Rattle.sx_rules.specs.Instances.{instance}
use Rattle.sx_arena.specs.Matching.{filled}
use Rattle.sx_rules.specs.Rules.{Judgement, Premise, holds, apart, Rule}
use Rattle.sx_rules.specs.Modes.{Modes}
use Rattle.sx_rules.specs.Deep.{PremiseIsShallow, PremisesAreShallow}
use Rattle.sx_derive.specs.Walk.{Answer, are_apart}
use Rattle.sx_derive.specs.Machine.{Result, result_when, premises_result}
use Rattle.sx_arena.specs.declared.pairs.Pair.{Pair}
use Rattle.sx_rules.specs.declared.rule.Premise.{Premise as PremiseOf}
use Rattle.sx_derive.specs.declared.store.Store.{Store}
use Rattle.sx_derive.specs.declared.step.Step.{Step}
use Rattle.sx_derive.specs.declared.step.Step.TheVariants.{Nothing}
use Rattle.sx_arena.specs.Binds.{env_at, bind_step}
use Rattle.sx_derive.specs.Chains.{kids_at, kid_step, frames_at, waiting_step}
use Rattle.sx_arena.specs.Pairs.{pairs_of, ArePairs, IsTruthTold}
use Rattle.sx_arena.specs.Views.{premise_of}
use Rattle.sx_derive.specs.Store.{IsStore, StoreGrows, store_trees, store_envs, store_kids}
use Rattle.sx_derive.specs.Store.{store_frames}
use Rattle.sx_derive.specs.Step.{IsSearchStep, IsConcluded, IsAsked}
use Rattle.sx_derive.specs.Premises.{result_of, IsPremises, ArePassed}
use Rattle.sx_arena.proofs.Growing.{grown-length, extends-length}
use Rattle.sx_arena.proofs.BindChains.{env_stays}
use Rattle.sx_derive.proofs.Chained.{kids_stay_at, frames_stay_at}
use Rattle.sx_arena.proofs.Parted.{pairs_stay}
use Rattle.sx_arena.proofs.Placed.{maps_drop}
use Rattle.std.proofs.lemmas.Option.{slice_get-map, slice_get-get_or}
use Rattle.std.specs.Option.{option_map}
use Rattle.sx_derive.proofs.Stored.{grows_then, grows_terms}

-- the terms of the premises are no deeper than 1,000
abbrev pub IsShallowPremise : PremiseOf → Type 0
IsShallowPremise p = PremiseIsShallow (premise_of p)

abbrev pub AreShallowPremises : List PremiseOf → Type 0
AreShallowPremises ps = PremisesAreShallow (map premise_of ps)

pub shallow_premise_at : (ps : List PremiseOf) → AreShallowPremises ps → (i : ℕ) (p : PremiseOf) → i < length ps → p ≡ get_or ps i p → IsShallowPremise p
shallow_premise_at [] h i p l e = absurd (omega arith)
shallow_premise_at (q ∷ ps) h zero p l e = subst IsShallowPremise (sym e) h.0
shallow_premise_at (q ∷ ps) h (suc i) p l e = shallow_premise_at ps h.1 i p (omega arith) e

-- a store that has grown: what was named stands for the same
pub record Stays (modes : Modes) (rules : List Rule) (s t : Store) (env kids frames : ℕ) : Type 0 where
  pub envs : env_at (store_envs t) env ≡ env_at (store_envs s) env
  pub kids_are : kids_at (store_kids t) kids ≡ kids_at (store_kids s) kids
  pub frames_are : frames_at (store_frames modes rules t) frames ≡ frames_at (store_frames modes rules s) frames
  pub env_within : env ≤ length t.binds.cells.items
  pub kids_within : kids ≤ length t.kids.items
  pub frames_within : frames ≤ length t.frames.items

pub stays : (modes : Modes) (rules : List Rule) (s t : Store) (env kids frames : ℕ) → StoreGrows modes rules s t → env ≤ length s.binds.cells.items → kids ≤ length s.kids.items → frames ≤ length s.frames.items → Stays modes rules s t env kids frames
stays modes rules s t env kids frames g le lk lf =
    let me = grown-length (bind_step (store_trees s)) s.binds.cells.items in
    let mk = grown-length (kid_step (store_envs s)) s.kids.items in
    let mf = grown-length (waiting_step modes rules s.until (store_envs s) (store_kids s)) s.frames.items in
    let ne = grown-length (bind_step (store_trees t)) t.binds.cells.items in
    let nk = grown-length (kid_step (store_envs t)) t.kids.items in
    let nf = grown-length (waiting_step modes rules t.until (store_envs t) (store_kids t)) t.frames.items in
    let xe = extends-length (store_envs s) (store_envs t) g.envs in
    let xk = extends-length (store_kids s) (store_kids t) g.kids in
    let xf = extends-length (store_frames modes rules s) (store_frames modes rules t) g.frames in
    record {
      envs = env_stays (store_envs s) (store_envs t) g.envs env (omega arith);
      kids_are = kids_stay_at (store_kids s) (store_kids t) g.kids kids (omega arith);
      frames_are = frames_stay_at (store_frames modes rules s) (store_frames modes rules t) g.frames frames (omega arith);
      env_within = (omega arith);
      kids_within = (omega arith);
      frames_within = (omega arith);
    }

module _ (modes : Modes) (rules : List Rule) (pairs : List Pair) (old mid new : Store) (number : ℕ) (rule : Rule) (levels env kids frames : ℕ) (ps : List Premise) (h : IsStore modes rules old)
    (hp : ArePairs (length (store_trees old)) pairs) (le : env ≤ length old.binds.cells.items) (lk : kids ≤ length old.kids.items) (lf : frames ≤ length old.frames.items) where
  pub concluded_is : (step : Step) → ArePassed modes rules pairs old mid number rule levels env kids frames ps [] →
      IsConcluded modes rules mid new number rule (filled (env_at (store_envs mid) env)) (kids_at (store_kids mid) kids) step → IsPremises modes rules pairs old new number rule levels env kids frames ps step
  concluded_is step a c =
      let s = stays modes rules old mid env kids frames a.grows le lk lf in
      record {
        grows = grows_then modes rules old mid new a.grows c.grows;
        is = λ js next. subst (λ (r : Result). IsSearchStep modes rules js new next step r)
            ((λ i. premises_result modes (record { judgements = js; pairs = pairs_of (store_trees old) pairs }) number rule levels (frames_at (store_frames modes rules old) frames) next [] (s.envs i) (s.kids_are i)) ∙ sym (a.same js next))
            (c.is js next);
      }

  pub asked_is : (step : Step) (j : Judgement) (k : ℕ) → ArePassed modes rules pairs old mid number rule levels env kids frames ps (holds j ∷ drop (k + 1) rule.premises) → slice_get rules number ≡ Some rule →
      IsAsked modes rules mid new j (record { rule = number; premise = k; env = env; kids = kids; levels = levels; before = frames }) step → IsPremises modes rules pairs old new number rule levels env kids frames ps step
  asked_is step j k a f c =
      let s = stays modes rules old mid env kids frames a.grows le lk lf in
      record {
        grows = grows_then modes rules old mid new a.grows c.grows;
        is = λ js next. subst (λ (r : Result). IsSearchStep modes rules js new next step r)
            ((λ i. premises_result modes (record { judgements = js; pairs = pairs_of (store_trees old) pairs }) number rule levels (s.frames_are i) next (holds j ∷ drop (k + 1) rule.premises) (s.envs i) (s.kids_are i)) ∙ sym (a.same js next))
            (c.is (record { judgements = js; pairs = pairs_of (store_trees old) pairs }) next rule f);
      }

  -- two terms that are to be apart
  apart_told : (b : Bool) (t u : Tree) (rest : List Premise) → ArePassed modes rules pairs old mid number rule levels env kids frames ps (apart t u ∷ rest) →
      IsTruthTold mid.arena new.arena b (are_apart (record { judgements = []; pairs = pairs_of (store_trees mid) pairs }) (instance (filled (env_at (store_envs mid) env)) t) (instance (filled (env_at (store_envs mid) env)) u)) →
      (js : List Judgement) (next : Answer → Result) → result_of modes rules pairs old number rule levels env kids frames js next ps ≡ result_when b (result_of modes rules pairs old number rule levels env kids frames js next rest)
  apart_told b t u rest a c js next =
      let s = stays modes rules old mid env kids frames a.grows le lk lf in
      let q = pairs_stay (store_trees old) (store_trees mid) a.grows.trees pairs hp in
      let e : are_apart (record { judgements = []; pairs = pairs_of (store_trees old) pairs }) (instance (filled (env_at (store_envs old) env)) t) (instance (filled (env_at (store_envs old) env)) u) ≡ b =
      sym (c.is ∙ (λ i. are_apart (record { judgements = []; pairs = q i }) (instance (filled (s.envs i)) t) (instance (filled (s.envs i)) u))) in
      a.same js next ∙ ap (λ x. result_when x (result_of modes rules pairs old number rule levels env kids frames js next rest)) e

  pub apart_fails : (b : Bool) (t u : Tree) (rest : List Premise) → ArePassed modes rules pairs old mid number rule levels env kids frames ps (apart t u ∷ rest) →
      IsTruthTold mid.arena new.arena b (are_apart (record { judgements = []; pairs = pairs_of (store_trees mid) pairs }) (instance (filled (env_at (store_envs mid) env)) t) (instance (filled (env_at (store_envs mid) env)) u)) →
      b ≡ false → new.binds ≡ mid.binds → new.kids.items ≡ mid.kids.items → new.frames.items ≡ mid.frames.items → new.until ≡ mid.until → IsPremises modes rules pairs old new number rule levels env kids frames ps Nothing
  apart_fails b t u rest a c f x y z o = record {
    grows = grows_then modes rules old mid new a.grows (grows_terms modes rules mid new a.grows.store c.arena c.extends x y z o);
    is = λ js next. apart_told b t u rest a c js next ∙ ap (λ v. result_when v (result_of modes rules pairs old number rule levels env kids frames js next rest)) f;
  }

  pub apart_holds : (b : Bool) (t u : Tree) (rest : List Premise) → ArePassed modes rules pairs old mid number rule levels env kids frames ps (apart t u ∷ rest) →
      IsTruthTold mid.arena new.arena b (are_apart (record { judgements = []; pairs = pairs_of (store_trees mid) pairs }) (instance (filled (env_at (store_envs mid) env)) t) (instance (filled (env_at (store_envs mid) env)) u)) →
      b ≡ true → new.binds ≡ mid.binds → new.kids.items ≡ mid.kids.items → new.frames.items ≡ mid.frames.items → new.until ≡ mid.until → ArePassed modes rules pairs old new number rule levels env kids frames ps rest
  apart_holds b t u rest a c f x y z o = record {
    grows = grows_then modes rules old mid new a.grows (grows_terms modes rules mid new a.grows.store c.arena c.extends x y z o);
    same = λ js next. apart_told b t u rest a c js next ∙ ap (λ v. result_when v (result_of modes rules pairs old number rule levels env kids frames js next rest)) f;
  }

pub drop_premise : (ps : List PremiseOf) (k : ℕ) (p q : PremiseOf) → k < length ps → p ≡ get_or ps k p → p ≡ q → drop k (map premise_of ps) ≡ premise_of q ∷ drop (k + 1) (map premise_of ps)
drop_premise ps k p q l e f = maps_drop premise_of ps k p l e ∙ ap (λ x. premise_of x ∷ drop (k + 1) (map premise_of ps)) f

pub drop_premises_end : (ps : List PremiseOf) (k : ℕ) → length ps ≤ k → drop k (map premise_of ps) ≡ []
drop_premises_end ps k l = let n = length-map ps premise_of in drop_all k (map premise_of ps) (omega arith)

pub passed_as : (modes : Modes) (rules : List Rule) (pairs : List Pair) (old mid : Store) (number : ℕ) (rule : Rule) (levels env kids frames : ℕ) (ps rest other : List Premise) → rest ≡ other →
    ArePassed modes rules pairs old mid number rule levels env kids frames ps rest → ArePassed modes rules pairs old mid number rule levels env kids frames ps other
passed_as modes rules pairs old mid number rule levels env kids frames ps rest other e a = record {
  grows = a.grows;
  same = λ js next. a.same js next ∙ ap (result_of modes rules pairs old number rule levels env kids frames js next) e;
}

pub premise_get : (ps : List PremiseOf) (k : ℕ) (p q : PremiseOf) → k < length ps → p ≡ get_or ps k p → p ≡ q → slice_get (map premise_of ps) k ≡ Some (premise_of q)
premise_get ps k p q l e f = slice_get-map premise_of ps k ∙ ap (option_map premise_of) (slice_get-get_or ps k p l ∙ ap Some (sym e ∙ f))
