-- The premises of a rule.
use Rattle.std.proofs.Common.{◌≡◌, ℕ, zero, suc, ◌+◌, ◌≤◌, ◌<◌, Bool, true, false, List, [], ◌∷◌, ◌++◌, map, drop, length, get_or, Some, Vec, refl, sym, ap, ◌∙◌, arith, subst}
use Rattle.std.specs.Prelude.{slice_get}
use Rattle.std.specs.declared.alloc.Global.{Global}
use Rattle.std.proofs.lemmas.List.{drop_all, length-map}
use Rattle.std.proofs.lemmas.Option.{slice_get-map, slice_get-get_or}
use Rattle.std.specs.Option.{option_map}
use Rattle.sx_term.specs.Tree.{Tree}
use Rattle.sx_rules.specs.Instances.{instance}
use Rattle.sx_rules.specs.Rules.{Judgement, Premise, holds, apart, Rule}
use Rattle.sx_rules.specs.Modes.{Modes, outputs_of}
use Rattle.sx_rules.specs.Deep.{PremiseIsShallow, PremisesAreShallow}
use Rattle.sx_rules.specs.declared.rule.Premise.{Premise as PremiseOf}
use Rattle.sx_arena.specs.Matching.{Assignment, filled}
use Rattle.sx_arena.specs.Limits.{are_apart}
use Rattle.sx_arena.specs.declared.arena.Arena.{Arena}
use Rattle.sx_arena.specs.declared.pairs.Pair.{Pair}
use Rattle.sx_arena.specs.Arena.{trees, tree_at, AreBelow}
use Rattle.sx_arena.specs.Binds.{env_at}
use Rattle.sx_arena.specs.Pairs.{pairs_of, ArePairs, IsTruthTold}
use Rattle.sx_arena.specs.Views.{premise_of}
use Rattle.sx_arena.proofs.Parted.{pairs_stay}
use Rattle.sx_arena.proofs.Placed.{maps_drop}
use Rattle.sx_replay.specs.declared.reader.Waiting.{Waiting}
use Rattle.sx_replay.specs.declared.reader.Reader.{Reader}
use Rattle.sx_replay.specs.declared.noted.Noted.{Noted}
use Rattle.sx_replay.specs.declared.step.Step.TheVariants.{Clash, Done, Asks}
use Rattle.sx_replay.specs.Limits.{note}
use Rattle.sx_replay.specs.Machine.{Move, asks, move_when, premises_move}
use Rattle.sx_replay.specs.Reader.{reader_trees, reader_envs, replay_frame_of, stack_on, stack, WaitsInReader}
use Rattle.sx_replay.specs.Reader.{IsReplayReader, NamesStay, places_made, AreTermsMade, replay_hypotheses}
use Rattle.sx_replay.specs.Reader.{IsReplayPremises}
use Rattle.sx_replay.proofs.Readers.{envs_length, stack_stays, env_later, stack_one, frame_is, grows_same, grows_then, grows_terms, grows_waiting}

-- the terms of the premises are no deeper than 1,000
abbrev pub IsShallowPremise : PremiseOf → Type 0
IsShallowPremise p = PremiseIsShallow (premise_of p)

abbrev pub AreShallowPremises : List PremiseOf → Type 0
AreShallowPremises ps = PremisesAreShallow (map premise_of ps)

pub shallow_premise_at : (ps : List PremiseOf) → AreShallowPremises ps → (i : ℕ) (p : PremiseOf) → i < length ps → p ≡ get_or ps i p → IsShallowPremise p
shallow_premise_at [] h i p l e = absurd (omega arith)
shallow_premise_at (q ∷ ps) h zero p l e = subst IsShallowPremise (sym e) h.0
shallow_premise_at (q ∷ ps) h (suc i) p l e = shallow_premise_at ps h.1 i p (omega arith) e

pub drop_premise : (ps : List PremiseOf) (k : ℕ) (p q : PremiseOf) → k < length ps → p ≡ get_or ps k p → p ≡ q → drop k (map premise_of ps) ≡ premise_of q ∷ drop (k + 1) (map premise_of ps)
drop_premise ps k p q l e f = maps_drop premise_of ps k p l e ∙ ap (λ x. premise_of x ∷ drop (k + 1) (map premise_of ps)) f

pub drop_premises_end : (ps : List PremiseOf) (k : ℕ) → length ps ≤ k → drop k (map premise_of ps) ≡ []
drop_premises_end ps k l = let n = length-map ps premise_of in drop_all k (map premise_of ps) (omega arith)

pub premise_get : (ps : List PremiseOf) (k : ℕ) (p q : PremiseOf) → k < length ps → p ≡ get_or ps k p → p ≡ q → slice_get (map premise_of ps) k ≡ Some (premise_of q)
premise_get ps k p q l e f = slice_get-map premise_of ps k ∙ ap (option_map premise_of) (slice_get-get_or ps k p l ∙ ap Some (sym e ∙ f))

module _ (modes : Modes) (rules : List Rule) (pairs : List Pair) (old : Reader) (rule : Rule) (env : ℕ) where
  -- the move of the premises, by the reader before them
  abbrev pub move_of : List Judgement → (List Tree → Noted → Move) → List Premise → Move
  move_of js next ps = premises_move modes (replay_hypotheses pairs old js) next (stack modes rules old) rule ps (env_at (reader_envs old) env) old.noted

  -- the premises up to the ones that are left hold
  pub record Reached (mid : Reader) (ps rest : List Premise) : Type 0 where
    pub grows : NamesStay rules old mid
    pub waiting : mid.waiting.items ≡ old.waiting.items
    pub noted : mid.noted ≡ old.noted
    pub same : (js : List Judgement) (next : List Tree → Noted → Move) → move_of js next ps ≡ move_of js next rest

  pub reached_first : (ps : List Premise) → IsReplayReader rules old → Reached old ps ps
  reached_first ps h = record { grows = grows_same rules old h; waiting = refl; noted = refl; same = λ js next. refl }

  pub reached_as : (mid : Reader) (ps rest other : List Premise) → rest ≡ other → Reached mid ps rest → Reached mid ps other
  reached_as mid ps rest other e a = record { grows = a.grows; waiting = a.waiting; noted = a.noted; same = λ js next. a.same js next ∙ ap (move_of js next) e }

module _ (modes : Modes) (rules : List Rule) (pairs : List Pair) (old mid new : Reader) (rule : Rule) (env : ℕ) (ps : List Premise) (hp : ArePairs (length (reader_trees old)) pairs) (le : env ≤ length old.binds.cells.items) where
  -- two terms that are to be apart
  apart_told : (b : Bool) (t u : Tree) (rest : List Premise) → Reached modes rules pairs old rule env mid ps (apart t u ∷ rest) →
      IsTruthTold mid.arena new.arena b (are_apart (record { judgements = []; pairs = pairs_of (reader_trees mid) pairs }) (instance (filled (env_at (reader_envs mid) env)) t) (instance (filled (env_at (reader_envs mid) env)) u)) →
      (js : List Judgement) (next : List Tree → Noted → Move) → move_of modes rules pairs old rule env js next ps ≡ move_when b (move_of modes rules pairs old rule env js next rest)
  apart_told b t u rest a c js next =
      let s = env_later rules old mid a.grows env le in
      let q = pairs_stay (reader_trees old) (reader_trees mid) a.grows.trees pairs hp in
      let e : are_apart (record { judgements = []; pairs = pairs_of (reader_trees old) pairs }) (instance (filled (env_at (reader_envs old) env)) t) (instance (filled (env_at (reader_envs old) env)) u) ≡ b =
      sym (c.is ∙ (λ i. are_apart (record { judgements = []; pairs = q i }) (instance (filled (s.1 i)) t) (instance (filled (s.1 i)) u))) in
      a.same js next ∙ ap (λ x. move_when x (move_of modes rules pairs old rule env js next rest)) e

  pub apart_fails : (b : Bool) (t u : Tree) (rest : List Premise) → Reached modes rules pairs old rule env mid ps (apart t u ∷ rest) →
      IsTruthTold mid.arena new.arena b (are_apart (record { judgements = []; pairs = pairs_of (reader_trees mid) pairs }) (instance (filled (env_at (reader_envs mid) env)) t) (instance (filled (env_at (reader_envs mid) env)) u)) →
      b ≡ false → new.binds ≡ mid.binds → new.waiting.items ≡ mid.waiting.items → new.base ≡ mid.base → IsReplayPremises modes rules pairs old new rule env ps Clash
  apart_fails b t u rest a c f x y w = record {
    grows = grows_then rules old mid new a.grows (grows_terms rules mid new a.grows.reader c.arena c.extends x y w);
    is = λ js next. apart_told b t u rest a c js next ∙ ap (λ v. move_when v (move_of modes rules pairs old rule env js next rest)) f;
  }

  pub apart_holds : (b : Bool) (t u : Tree) (rest : List Premise) → Reached modes rules pairs old rule env mid ps (apart t u ∷ rest) →
      IsTruthTold mid.arena new.arena b (are_apart (record { judgements = []; pairs = pairs_of (reader_trees mid) pairs }) (instance (filled (env_at (reader_envs mid) env)) t) (instance (filled (env_at (reader_envs mid) env)) u)) →
      b ≡ true → new.binds ≡ mid.binds → new.waiting.items ≡ mid.waiting.items → new.noted ≡ mid.noted → new.base ≡ mid.base → Reached modes rules pairs old rule env new ps rest
  apart_holds b t u rest a c f x y z w = record {
    grows = grows_then rules old mid new a.grows (grows_terms rules mid new a.grows.reader c.arena c.extends x y w);
    waiting = y ∙ a.waiting;
    noted = z ∙ a.noted;
    same = λ js next. apart_told b t u rest a c js next ∙ ap (λ v. move_when v (move_of modes rules pairs old rule env js next rest)) f;
  }

  -- the outputs of the conclusion
  pub concluded_is : (outs : Vec ℕ Global) → Reached modes rules pairs old rule env mid ps [] → AreTermsMade mid new (places_made modes true (env_at (reader_envs mid) env) rule.conclusion) outs.items →
      IsReplayPremises modes rules pairs old new rule env ps (Done outs)
  concluded_is outs a m =
      let s = env_later rules old mid a.grows env le in
      let w : new.waiting.items ≡ mid.waiting.items = ap (λ (v : Vec Waiting Global). v.items) m.waiting in
      record {
        grows = grows_then rules old mid new a.grows (grows_terms rules mid new a.grows.reader m.held.arena m.held.extends m.binds w m.base);
        is = λ js next. (
          m.held.within,
          w ∙ a.waiting,
          a.same js next
              ∙ (λ i. next (places_made modes true (sym s.1 i) rule.conclusion) (note (sym a.noted i) (places_made modes true (sym s.1 i) rule.conclusion)))
              ∙ (λ i. next (sym m.held.are i) (sym m.noted i)),
        );
      }

  -- the goal of a premise
  pub asked_is : IsReplayReader rules old → (made : Reader) (j : Judgement) (k number mark held : ℕ) (terms : Vec ℕ Global) → mark ≡ length made.binds.cells.items → held ≡ length (reader_trees made) → Reached modes rules pairs old rule env mid ps (holds j ∷ drop (k + 1) rule.premises) →
      slice_get rules number ≡ Some rule → slice_get rule.premises k ≡ Some (holds j) →
      AreTermsMade mid made (places_made modes false (env_at (reader_envs mid) env) j) terms.items →
      new.arena ≡ made.arena → new.binds ≡ made.binds → new.waiting.items ≡ made.waiting.items ++ record { rule = number; premise = k; env = env; mark = mark; terms = held } ∷ [] → new.noted ≡ made.noted → new.base ≡ made.base →
      IsReplayPremises modes rules pairs old new rule env ps (Asks j.form terms)
  asked_is ho made j k number mark held terms me he a found prem m ua ub uw un uz =
      let c : Waiting = record { rule = number; premise = k; env = env; mark = mark; terms = held } in
      let s = env_later rules old mid a.grows env le in
      let w : made.waiting.items ≡ mid.waiting.items = ap (λ (v : Vec Waiting Global). v.items) m.waiting in
      let g = grows_then rules old mid made a.grows (grows_terms rules mid made a.grows.reader m.held.arena m.held.extends m.binds w m.base) in
      let l = env_later rules old made g env le in
      let lo = l.0 in
      let at : WaitsInReader rules (length made.binds.cells.items) c = record { rule = rule; judgement = j; found = found; premise = prem; env = (omega arith); mark = (omega arith) } in
      let h = grows_waiting rules made new c g.reader at (omega arith) he ua ub uw uz in
      let x = grows_then rules old made new g h in
      let n = env_later rules old new x env le in
      let env0 = env_at (reader_envs old) env in
      let fr : replay_frame_of modes rules (reader_envs new) c ≡ record { rule = rule; rest = drop (k + 1) rule.premises; patterns = outputs_of modes j; env = env0 } =
      frame_is modes rules (reader_envs new) j c rule env0 found prem n.1 in
      let uo : new.waiting.items ≡ old.waiting.items ++ c ∷ [] = uw ∙ ap (λ (cs : List Waiting). cs ++ c ∷ []) (w ∙ a.waiting) in
      let es = envs_length old in
      let goal_terms : places_made modes false env0 j ≡ map (tree_at (reader_trees new)) terms.items =
      ap (λ (e : Assignment). places_made modes false e j) (sym s.1) ∙ sym m.held.are ∙ ap (λ (r : Arena). map (tree_at (trees r)) terms.items) (sym ua) in
      let st : record { rule = rule; rest = drop (k + 1) rule.premises; patterns = outputs_of modes j; env = env0 } ∷ stack modes rules old ≡ stack modes rules new =
      sym (ap (stack_on modes rules (reader_envs new) []) uo ∙ stack_one modes rules (reader_envs new) [] old.waiting.items c
      ∙ (λ i. fr i ∷ stack_stays modes rules (reader_envs old) (reader_envs new) (length old.binds.cells.items) x.envs (omega arith) [] old.waiting.items ho.waiting i)) in
      let nt : note old.noted (places_made modes false env0 j) ≡ new.noted = sym (un ∙ m.noted ∙ (λ i. note (a.noted i) (places_made modes false (s.1 i) j))) in
      record {
        grows = x;
        is = λ js next. (
          subst (λ (r : Arena). AreBelow (length (trees r)) terms.items) (sym ua) m.held.within,
          a.same js next ∙ (λ i. asks (record { form = j.form; terms = goal_terms i }) (st i) (nt i)),
        );
      }
