-- Steps of a search.
use Rattle.std.proofs.Common.{◌≡◌, ℕ, ◌+◌, ◌≤◌, List, [], ◌∷◌, ◌++◌, map, length, Option, Some, None, Vec, vec_len, refl, sym, ap, ◌∙◌, arith, subst}
use Rattle.std.specs.declared.alloc.Global.{Global}
use Rattle.std.proofs.lemmas.List.{length_push}
use Rattle.sx_arena.specs.Matching.{filled}
use Rattle.sx_rules.specs.Rules.{Judgement, holds, Rule, Hypotheses, judgement_instance}
use Rattle.sx_rules.specs.Modes.{Modes, inputs_of, outputs_of, goal_of}
use Rattle.sx_rules.specs.Derivations.{by}
use Rattle.sx_derive.specs.Walk.{Cause, too_deep, too_big, limit_passed, first_values}
use Rattle.sx_derive.specs.Machine.{goal_result, goes_on, hypotheses_from, result_unless}
use Rattle.sx_derive.specs.declared.chains.Head.TheVariants.{By}
use Rattle.sx_arena.specs.declared.places.Limit.{Limit}
use Rattle.sx_arena.specs.declared.places.Limit.TheVariants.{TooDeep, TooBig}
use Rattle.sx_arena.specs.declared.arena.Arena.{Arena}
use Rattle.sx_rules.specs.declared.rule.Rule.{Rule as RuleOf}
use Rattle.sx_derive.specs.declared.store.Store.{Store}
use Rattle.sx_derive.specs.declared.step.Step.TheVariants.{Passed, DepthSpent, Done, Goes}
use Rattle.sx_arena.specs.Arena.{trees, tree_at, AreBelow}
use Rattle.sx_arena.specs.Binds.{env_at, bind_step}
use Rattle.sx_arena.specs.Places.{AreHeld, IsLimit}
use Rattle.sx_derive.specs.Chains.{kids_at, kid_step, head_proof, awaited_patterns, no_rule, frame_of, frames_at, waiting_step, WaitingFits}
use Rattle.sx_arena.specs.Views.{rule_of}
use Rattle.sx_derive.specs.Store.{IsStore, store_trees, store_envs, store_kids, store_frames}
use Rattle.sx_derive.specs.Step.{IsConcluded, Awaits, waiting_frame, asked_result, IsAsked}
use Rattle.sx_arena.proofs.Growing.{grown-length, extends-length}
use Rattle.sx_derive.proofs.Chained.{head_stays, kids_stay_at, frames_stay_at}
use Rattle.sx_arena.proofs.BindChains.{env_stays}
use Rattle.sx_derive.specs.declared.chains.Waiting.{Waiting}
use Rattle.std.specs.Prelude.{zero, suc, slice_get, ◌-◌, drop}
use Rattle.std.proofs.lemmas.Option.{get_or_from_slice_get}
use Rattle.sx_arena.specs.Matching.{Assignment}
use Rattle.sx_rules.specs.Derivations.{Proofs}
use Rattle.sx_derive.proofs.Stored.{grows_terms, grows_frame, grows_then}

pub limit_is : (c : Option Cause) (l : Limit) → IsLimit c (Some l) → (cause : Cause) × (c ≡ Some cause) × IsLimit (Some cause) (Some l)
limit_is c (TooDeep n) h = (too_deep h.0, h.1, (h.0, refl, h.2))
limit_is c (TooBig n) h = (too_big h.0, h.1, (h.0, refl, h.2))

pub concluded_passed : (modes : Modes) (rules : List Rule) (s t : Store) (number env kids : ℕ) (rule : RuleOf) (outs : List ℕ) (l : Limit) → IsStore modes rules s →
    AreHeld s.arena t.arena outs (outputs_of modes (judgement_instance (filled (env_at (store_envs s) env)) (rule_of rule).conclusion)) → t.binds ≡ s.binds → t.kids.items ≡ s.kids.items → t.frames.items ≡ s.frames.items → t.until ≡ s.until →
    IsLimit (limit_passed (map (tree_at (trees t.arena)) outs)) (Some l) →
    IsConcluded modes rules s t number (rule_of rule) (filled (env_at (store_envs s) env)) (kids_at (store_kids s) kids) (Passed l)
concluded_passed modes rules s t number env kids rule outs l h a b k f o i =
    let S = filled (env_at (store_envs s) env) in
    let q = limit_is (limit_passed (map (tree_at (trees t.arena)) outs)) l i in
    let e = sym (ap limit_passed a.are) ∙ q.1 in
    record {
      grows = grows_terms modes rules s t h a.arena a.extends b k f o;
      is = λ js next. (q.0, q.2, ap (λ c. result_unless c (next (by number (first_values (length (rule_of rule).sorts) S) (kids_at (store_kids s) kids), outputs_of modes (judgement_instance S (rule_of rule).conclusion)))) e);
    }

pub concluded_done : (modes : Modes) (rules : List Rule) (s t : Store) (number env kids variables : ℕ) (rule : RuleOf) (outs : Vec ℕ Global) → IsStore modes rules s →
    AreHeld s.arena t.arena outs.items (outputs_of modes (judgement_instance (filled (env_at (store_envs s) env)) (rule_of rule).conclusion)) → t.binds ≡ s.binds → t.kids.items ≡ s.kids.items → t.frames.items ≡ s.frames.items → t.until ≡ s.until →
    limit_passed (map (tree_at (trees t.arena)) outs.items) ≡ None → variables ≡ vec_len rule.vars → env ≤ length s.binds.cells.items → kids ≤ length s.kids.items →
    IsConcluded modes rules s t number (rule_of rule) (filled (env_at (store_envs s) env)) (kids_at (store_kids s) kids) (Done (By number variables env kids) outs)
concluded_done modes rules s t number env kids variables rule outs h a b k f same_until i v m n =
    let S = filled (env_at (store_envs s) env) in
    let g = grows_terms modes rules s t h a.arena a.extends b k f same_until in
    let e = sym (ap limit_passed a.are) ∙ i in
    let p = grown-length (bind_step (trees s.arena)) s.binds.cells.items in
    let q = grown-length (kid_step (store_envs s)) s.kids.items in
    let x = extends-length (store_envs s) (store_envs t) g.envs in
    let y = extends-length (store_kids s) (store_kids t) g.kids in
    let ok = rule.vars.ok in
    let w : variables ≡ length (rule_of rule).sorts = (omega arith) in
    let o : head_proof (store_envs t) (store_kids t) (By number variables env kids) ≡ by number (first_values (length (rule_of rule).sorts) S) (kids_at (store_kids s) kids) =
    head_stays (store_envs s) (store_envs t) (store_kids s) (store_kids t) g.envs g.kids (By number variables env kids) ((omega arith), (omega arith))
    ∙ ap (λ c. by number (first_values c S) (kids_at (store_kids s) kids)) w in
    record {
      grows = g;
      is = λ js next. (
        ((omega arith), (omega arith)),
        a.within,
        ap (λ c. result_unless c (next (by number (first_values (length (rule_of rule).sorts) S) (kids_at (store_kids s) kids), outputs_of modes (judgement_instance S (rule_of rule).conclusion)))) e
            ∙ (λ j. next (sym o j, sym a.are j)),
      );
    }

module _ (modes : Modes) (rules : List Rule) (s t : Store) (j : Judgement) (c : Waiting) (terms : List ℕ) (h : IsStore modes rules s)
    (a : AreHeld s.arena t.arena terms (inputs_of modes (judgement_instance (filled (env_at (store_envs s) c.env)) j))) (b : t.binds ≡ s.binds) (k : t.kids.items ≡ s.kids.items) (f : t.frames.items ≡ s.frames.items) (o : t.until ≡ s.until) where
  pub asked_passed : (l : Limit) → IsLimit (limit_passed (map (tree_at (trees t.arena)) terms)) (Some l) → IsAsked modes rules s t j c (Passed l)
  asked_passed l i =
      let q = limit_is (limit_passed (map (tree_at (trees t.arena)) terms)) l i in
      let e = sym (ap limit_passed a.are) ∙ q.1 in
      record {
        grows = grows_terms modes rules s t h a.arena a.extends b k f o;
        is = λ hyps next rule found. (
          q.0,
          q.2,
          ap (λ x. result_unless x (goal_result hyps c.levels (goal_of modes (judgement_instance (filled (env_at (store_envs s) c.env)) j))
              (waiting_frame modes rule j (env_at (store_envs s) c.env) (kids_at (store_kids s) c.kids) c ∷ frames_at (store_frames modes rules s) c.before))) e,
        );
      }

  -- no limit is passed
  not_passed : limit_passed (map (tree_at (trees t.arena)) terms) ≡ None → (hyps : Hypotheses) (rule : Rule) →
      asked_result modes hyps rule j (env_at (store_envs s) c.env) (kids_at (store_kids s) c.kids) (frames_at (store_frames modes rules s) c.before) c
      ≡ goal_result hyps c.levels (goal_of modes (judgement_instance (filled (env_at (store_envs s) c.env)) j))
      (waiting_frame modes rule j (env_at (store_envs s) c.env) (kids_at (store_kids s) c.kids) c ∷ frames_at (store_frames modes rules s) c.before)
  not_passed i hyps rule = ap (λ x. result_unless x (goal_result hyps c.levels (goal_of modes (judgement_instance (filled (env_at (store_envs s) c.env)) j))
      (waiting_frame modes rule j (env_at (store_envs s) c.env) (kids_at (store_kids s) c.kids) c ∷ frames_at (store_frames modes rules s) c.before))) (sym (ap limit_passed a.are) ∙ i)

  pub asked_spent : limit_passed (map (tree_at (trees t.arena)) terms) ≡ None → c.levels ≡ 0 → IsAsked modes rules s t j c DepthSpent
  asked_spent i l = record {
    grows = grows_terms modes rules s t h a.arena a.extends b k f o;
    is = λ hyps next rule found. not_passed i hyps rule
        ∙ ap (λ n. goal_result hyps n (goal_of modes (judgement_instance (filled (env_at (store_envs s) c.env)) j))
        (waiting_frame modes rule j (env_at (store_envs s) c.env) (kids_at (store_kids s) c.kids) c ∷ frames_at (store_frames modes rules s) c.before)) l;
  }

-- the frame that a cell stands for
pub frame_is : (modes : Modes) (rules : List Rule) (es ds : List Assignment) (ks ls : List Proofs) (j : Judgement) (c : Waiting) (rule : Rule) → slice_get rules c.rule ≡ Some rule → slice_get rule.premises c.premise ≡ Some (holds j) →
    env_at ds c.env ≡ env_at es c.env → kids_at ls c.kids ≡ kids_at ks c.kids → frame_of modes rules ds ls c ≡ waiting_frame modes rule j (env_at es c.env) (kids_at ks c.kids) c
frame_is modes rules es ds ks ls j c rule f g x y =
    let r = get_or_from_slice_get rules c.rule rule no_rule f in
    let p = ap (awaited_patterns modes) g in
    (λ i. record { number = c.rule; rule = r i; rest = drop (c.premise + 1) (r i).premises; patterns = awaited_patterns modes (slice_get (r i).premises c.premise); env = x i; kids = y i; levels = c.levels })
    ∙ (λ i. record { number = c.rule; rule = rule; rest = drop (c.premise + 1) rule.premises; patterns = p i; env = env_at es c.env; kids = kids_at ks c.kids; levels = c.levels })

pub asked_goes : (modes : Modes) (rules : List Rule) (s t u : Store) (j : Judgement) (c : Waiting) (outs : Vec ℕ Global) (n : ℕ) → IsStore modes rules s →
    AreHeld s.arena t.arena outs.items (inputs_of modes (judgement_instance (filled (env_at (store_envs s) c.env)) j)) → t.binds ≡ s.binds → t.kids.items ≡ s.kids.items → t.frames.items ≡ s.frames.items → t.until ≡ s.until →
    limit_passed (map (tree_at (trees t.arena)) outs.items) ≡ None → (c.levels ≡ 0 → ⊥) → Awaits rules j c →
    c.env ≤ length s.binds.cells.items → c.kids ≤ length s.kids.items → c.before ≤ length s.frames.items → s.until ≤ c.before →
    u.arena ≡ t.arena → u.binds ≡ t.binds → u.kids.items ≡ t.kids.items → u.frames.items ≡ t.frames.items ++ c ∷ [] → u.until ≡ t.until → n ≡ length t.frames.items + 1 →
    IsAsked modes rules s u j c (Goes j.form outs (c.levels - 1) n)
asked_goes modes rules s t u j c outs n h a b k f same_until i l w le lk lb lu ua ub uk uf uu e =
    let g = grows_terms modes rules s t h a.arena a.extends b k f same_until in
    let me = grown-length (bind_step (trees s.arena)) s.binds.cells.items in
    let mk = grown-length (kid_step (store_envs s)) s.kids.items in
    let mf = grown-length (waiting_step modes rules s.until (store_envs s) (store_kids s)) s.frames.items in
    let xe = extends-length (store_envs s) (store_envs t) g.envs in
    let xk = extends-length (store_kids s) (store_kids t) g.kids in
    let xf = extends-length (store_frames modes rules s) (store_frames modes rules t) g.frames in
    let p : WaitingFits rules t.until (store_envs t) (store_kids t) (store_frames modes rules t) c = record {
      waits = (w.rule, j, w.found, w.premise);
      env = (omega arith);
      kids = (omega arith);
      before = (omega arith);
      above = λ z. (omega arith);
    } in
    let o = grows_frame modes rules t u c g.store p ua ub uk uf uu in
    let mu = grown-length (waiting_step modes rules u.until (store_envs u) (store_kids u)) u.frames.items in
    let ml = ap length uf ∙ length_push t.frames.items c in
    let there = g.store.until in
    let ie : env_at (store_envs t) c.env ≡ env_at (store_envs s) c.env = env_stays (store_envs s) (store_envs t) g.envs c.env (omega arith) in
    let ik : kids_at (store_kids t) c.kids ≡ kids_at (store_kids s) c.kids = kids_stay_at (store_kids s) (store_kids t) g.kids c.kids (omega arith) in
    let jf : frames_at (store_frames modes rules t) c.before ≡ frames_at (store_frames modes rules s) c.before = frames_stay_at (store_frames modes rules s) (store_frames modes rules t) g.frames c.before (omega arith) in
    let S = filled (env_at (store_envs s) c.env) in
    let one : c.levels ≡ suc (c.levels - 1) = positive c.levels l in
    let terms : inputs_of modes (judgement_instance S j) ≡ map (tree_at (store_trees u)) outs.items = sym a.are ∙ ap (λ x. map (tree_at (trees x)) outs.items) (sym ua) in
    record {
      grows = grows_then modes rules s t u g o.0;
      is = λ hyps next rule found.
          let same : w.rule ≡ rule = (let q : Some w.rule ≡ Some rule = sym w.found ∙ found in cc) in
          let pr : slice_get rule.premises c.premise ≡ Some (holds j) = subst (λ (r : Rule). slice_get r.premises c.premise ≡ Some (holds j)) same w.premise in
          let fr = frame_is modes rules (store_envs s) (store_envs t) (store_kids s) (store_kids t) j c rule found pr ie ik in
          let fs : waiting_frame modes rule j (env_at (store_envs s) c.env) (kids_at (store_kids s) c.kids) c ∷ frames_at (store_frames modes rules s) c.before ≡ frames_at (store_frames modes rules u) n =
          sym ((ap (frames_at (store_frames modes rules u)) e ∙ o.1) ∙ (λ x. fr x ∷ jf x)) in (
            subst (λ (y : Arena). AreBelow (length (trees y)) outs.items) (sym ua) a.within,
            (omega arith),
            (omega arith),
            not_passed modes rules s t j c outs.items h a b k f same_until i hyps rule
                ∙ ap (λ m. goal_result hyps m (goal_of modes (judgement_instance S j)) (waiting_frame modes rule j (env_at (store_envs s) c.env) (kids_at (store_kids s) c.kids) c ∷ frames_at (store_frames modes rules s) c.before)) one
                ∙ (λ x. goes_on (hypotheses_from 0 hyps.judgements (c.levels - 1) (record { form = j.form; terms = terms x }) (fs x))),
          );
    }
  where
    positive : (m : ℕ) → (m ≡ 0 → ⊥) → m ≡ suc (m - 1)
    positive zero d = absurd (d refl)
    positive (suc m) d = omega arith
