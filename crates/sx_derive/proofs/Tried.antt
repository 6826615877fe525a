-- A candidate against a goal.
use Rattle.std.proofs.Common.{◌≡◌, ℕ, ◌&&◌, ◌≤◌, Bool, true, false, List, [], ◌∷◌, map, length, Option, Some, None, refl, sym, ap, ◌∙◌, arith, subst}
use Rattle.std.specs.Prelude.{slice_get, nat_eq, Vec}
use Rattle.std.specs.declared.alloc.Global.{Global}
use Rattle.std.proofs.lemmas.Bool.Decides.{Decides-eqb}
use Rattle.sx_term.specs.Tree.{Tree}
use Rattle.sx_rules.specs.Rules.{Judgement, Rule, Hypotheses}
use Rattle.sx_rules.specs.Modes.{Modes, inputs_of, outputs_of}
use Rattle.sx_rules.specs.Derivations.{given, no_more}
use Rattle.sx_arena.specs.Matching.{same_all, Assignment, nothing_bound, match_all}
use Rattle.sx_derive.specs.Machine.{Result, answers, result_when, result_matched, premises_result}
use Rattle.sx_derive.specs.Machine.{hand_on, rule_result, given_result}
use Rattle.sx_arena.specs.declared.fact.Fact.{Fact}
use Rattle.sx_derive.specs.declared.chains.Head.{Head}
use Rattle.sx_derive.specs.declared.chains.Head.TheVariants.{Given}
use Rattle.sx_arena.specs.declared.pairs.Pair.{Pair}
use Rattle.sx_derive.specs.declared.step.Step.{Step}
use Rattle.sx_derive.specs.declared.step.Step.TheVariants.{Nothing, Done}
use Rattle.sx_derive.specs.declared.store.Store.{Store}
use Rattle.sx_arena.specs.Arena.{trees, tree_at, AreBelow}
use Rattle.sx_arena.specs.Binds.{env_at, BindsGrow}
use Rattle.sx_derive.specs.Candidates.{goal_in, IsFact, IsCandidateTried}
use Rattle.sx_derive.specs.Chains.{HeadFits}
use Rattle.sx_derive.specs.Handing.{hyps_in, answer_in, frames_in, IsHanded}
use Rattle.sx_arena.specs.Pairs.{pairs_of, ArePairs}
use Rattle.sx_derive.specs.Premises.{IsPremises}
use Rattle.sx_derive.specs.Step.{IsSearchStep}
use Rattle.sx_derive.specs.Store.{IsStore, StoreGrows, store_trees, store_envs, store_kids}
use Rattle.sx_derive.specs.Store.{store_frames}
use Rattle.sx_arena.proofs.Arenas.{Distinct, distinct}
use Rattle.sx_derive.proofs.Chained.{frames_stay_at}
use Rattle.sx_derive.proofs.Handed.{step_other}
use Rattle.sx_arena.proofs.Parted.{pairs_stay}
use Rattle.sx_derive.proofs.Resumed.{sizes}
use Rattle.sx_arena.proofs.Sameness.{same_all_true, same_all_self}
use Rattle.sx_derive.proofs.Stored.{grows_same, grows_then, grows_binds}

number_false : (m n : ℕ) → (m ≡ n → ⊥) → nat_eq m n ≡ false
number_false m n d = go (nat_eq m n) refl
  where
    go : (b : Bool) → nat_eq m n ≡ b → b ≡ false
    go true e = absurd (d ((Decides-eqb m n).0 e))
    go false e = refl

number_true : (m n : ℕ) → m ≡ n → nat_eq m n ≡ true
number_true m n e = (Decides-eqb m n).1 e

module _ (modes : Modes) (rules : List Rule) (pairs : List Pair) (s t : Store) (number : ℕ) (rule : Rule) (form : ℕ) (terms : List ℕ) (levels frames : ℕ) (h : IsStore modes rules s) where
  abbrev tried_as : Hypotheses → Result
  tried_as hyps = rule_result modes hyps number rule levels (goal_in s form terms) (frames_in modes rules s frames)

  pub rule_other : (rule.conclusion.form ≡ form → ⊥) → IsCandidateTried modes rules pairs s s tried_as Nothing
  rule_other d = record {
    grows = grows_same modes rules s h;
    is = λ js. ap (λ b. result_when b (result_matched (match_all (inputs_of modes rule.conclusion) (map (tree_at (store_trees s)) terms) nothing_bound) (λ env. premises_result modes (hyps_in pairs s js) number rule levels (frames_in modes rules s frames) (hand_on modes (hyps_in pairs s js) (frames_in modes rules s frames)) rule.premises env no_more)))
        (number_false rule.conclusion.form form d);
  }

  module _ (same_form : rule.conclusion.form ≡ form) (g : BindsGrow (trees s.arena) s.binds t.binds) (ta : t.arena ≡ s.arena) (tk : t.kids.items ≡ s.kids.items) (tf : t.frames.items ≡ s.frames.items) (tu : t.until ≡ s.until) where
    abbrev matched_as : List Judgement → Option Assignment → Result
    matched_as js m = result_matched m (λ env. premises_result modes (hyps_in pairs s js) number rule levels (frames_in modes rules s frames) (hand_on modes (hyps_in pairs s js) (frames_in modes rules s frames)) rule.premises env no_more)

    tried_is : (js : List Judgement) (m : Option Assignment) → match_all (inputs_of modes rule.conclusion) (map (tree_at (store_trees s)) terms) nothing_bound ≡ m → tried_as (hyps_in pairs s js) ≡ matched_as js m
    tried_is js m e =
        ap (λ b. result_when b (matched_as js (match_all (inputs_of modes rule.conclusion) (map (tree_at (store_trees s)) terms) nothing_bound))) (number_true rule.conclusion.form form same_form)
        ∙ ap (matched_as js) e

    pub rule_none : match_all (inputs_of modes rule.conclusion) (map (tree_at (store_trees s)) terms) nothing_bound ≡ None → IsCandidateTried modes rules pairs s t tried_as Nothing
    rule_none m = record {
      grows = grows_binds modes rules s t h g ta tk tf tu;
      is = λ js. tried_is js None m;
    }

    module _ (hp : ArePairs (length (store_trees s)) pairs) (lf : frames ≤ length s.frames.items) (v : Store) (env : ℕ) (m : match_all (inputs_of modes rule.conclusion) (map (tree_at (store_trees s)) terms) nothing_bound ≡ Some (env_at (store_envs t) env)) (step : Step)
        (p : IsPremises modes rules pairs t v number rule levels env 0 frames rule.premises step) where
      grown : StoreGrows modes rules s v
      grown = grows_then modes rules s t v (grows_binds modes rules s t h g ta tk tf tu) p.grows

      step_is : (js : List Judgement) → IsSearchStep modes rules js v (hand_on modes (hyps_in pairs s js) (frames_in modes rules s frames)) step (tried_as (hyps_in pairs s js))
      step_is js =
          let st = grows_binds modes rules s t h g ta tk tf tu in
          let z = (sizes modes rules s).frames in
          let ep : pairs_of (store_trees t) pairs ≡ pairs_of (store_trees s) pairs = pairs_stay (store_trees s) (store_trees t) st.trees pairs hp in
          let ef : frames_in modes rules t frames ≡ frames_in modes rules s frames = frames_stay_at (store_frames modes rules s) (store_frames modes rules t) st.frames frames (omega arith) in
          let next = hand_on modes (hyps_in pairs s js) (frames_in modes rules s frames) in
          subst (λ (r : Result). IsSearchStep modes rules js v next step r)
          ((λ i. premises_result modes (record { judgements = js; pairs = ep i }) number rule levels (ef i) next rule.premises (env_at (store_envs t) env) no_more)
          ∙ sym (tried_is js (Some (env_at (store_envs t) env)) m))
          (p.is js next)

      pub rule_stop : ((a : Head) (o : Vec ℕ Global) → step ≡ Done a o → ⊥) → IsCandidateTried modes rules pairs s v tried_as step
      rule_stop n = record {
        grows = grown;
        is = λ js. step_other modes rules js v (hand_on modes (hyps_in pairs s js) (frames_in modes rules s frames)) answers step (tried_as (hyps_in pairs s js)) n (step_is js);
      }

      pub rule_done : (head : Head) (outs : Vec ℕ Global) → step ≡ Done head outs →
          (HeadFits (length (store_envs v)) (length (store_kids v)) head × AreBelow (length (store_trees v)) outs.items)
          × ((js : List Judgement) → tried_as (hyps_in pairs s js) ≡ hand_on modes (hyps_in pairs v js) (frames_in modes rules v frames) (answer_in v head outs.items))
      rule_done head outs e =
          let z = (sizes modes rules s).frames in
          let ep : pairs_of (store_trees v) pairs ≡ pairs_of (store_trees s) pairs = pairs_stay (store_trees s) (store_trees v) grown.trees pairs hp in
          let ef : frames_in modes rules v frames ≡ frames_in modes rules s frames = frames_stay_at (store_frames modes rules s) (store_frames modes rules v) grown.frames frames (omega arith) in
          let k = told [] in
          ((k.0, k.1), λ js. (told js).2 ∙ (λ i. hand_on modes (record { judgements = js; pairs = sym ep i }) (sym ef i) (answer_in v head outs.items)))
        where
          told : (js : List Judgement) → IsSearchStep modes rules js v (hand_on modes (hyps_in pairs s js) (frames_in modes rules s frames)) (Done head outs) (tried_as (hyps_in pairs s js))
          told js = subst (λ (x : Step). IsSearchStep modes rules js v (hand_on modes (hyps_in pairs s js) (frames_in modes rules s frames)) x (tried_as (hyps_in pairs s js))) e (step_is js)

      pub rule_handed : (head : Head) (outs : Vec ℕ Global) → step ≡ Done head outs → (w : Store) (last : Step) → IsHanded modes rules pairs v w frames head outs.items last → IsCandidateTried modes rules pairs s w tried_as last
      rule_handed head outs e w last k =
          let d = rule_done head outs e in
          record {
            grows = grows_then modes rules s v w grown k.grows;
            is = λ js. subst (λ (r : Result). IsSearchStep modes rules js w answers last r) (sym (d.1 js)) (k.is js);
          }

-- numbers are the same just where the terms are
pub terms_same : (ts : List Tree) → Distinct ts → (is ks : List ℕ) → AreBelow (length ts) is → AreBelow (length ts) ks → map (tree_at ts) is ≡ map (tree_at ts) ks → is ≡ ks
terms_same ts d [] [] a b e = refl
terms_same ts d [] (k ∷ ks) a b e = cc
terms_same ts d (i ∷ is) [] a b e = cc
terms_same ts d (i ∷ is) (k ∷ ks) a b e =
    let f : tree_at ts i ≡ tree_at ts k = cc in
    let g : map (tree_at ts) is ≡ map (tree_at ts) ks = cc in
    let p = d i k a.0 b.0 f in
    let q = terms_same ts d is ks a.1 b.1 g in
    λ n. p n ∷ q n

pub numbers_same : (ts : List Tree) (is ks : List ℕ) → is ≡ ks → same_all (map (tree_at ts) is) (map (tree_at ts) ks) ≡ true
numbers_same ts is ks e = ap (λ xs. same_all (map (tree_at ts) is) (map (tree_at ts) xs)) (sym e) ∙ same_all_self (map (tree_at ts) is)

pub numbers_differ : (ts : List Tree) → Distinct ts → (is ks : List ℕ) → AreBelow (length ts) is → AreBelow (length ts) ks → (is ≡ ks → ⊥) → same_all (map (tree_at ts) is) (map (tree_at ts) ks) ≡ false
numbers_differ ts d is ks a b n = go (same_all (map (tree_at ts) is) (map (tree_at ts) ks)) refl
  where
    go : (x : Bool) → same_all (map (tree_at ts) is) (map (tree_at ts) ks) ≡ x → x ≡ false
    go true e = absurd (n (terms_same ts d is ks a b (same_all_true (map (tree_at ts) is) (map (tree_at ts) ks) e)))
    go false e = refl

module _ (modes : Modes) (rules : List Rule) (pairs : List Pair) (s : Store) (j : Judgement) (fact : Fact) (number form : ℕ) (terms : List ℕ) (frames : ℕ) (h : IsStore modes rules s) (f : IsFact modes (store_trees s) j fact)
    (b : AreBelow (length (store_trees s)) terms) where
  abbrev given_as : Hypotheses → Result
  given_as hyps = given_result modes hyps number j (goal_in s form terms) (frames_in modes rules s frames)

  both_false : (x y : Bool) → x ≡ false → (x && y) ≡ false
  both_false x y e = ap (λ z. z && y) e

  second_false : (x y : Bool) → y ≡ false → (x && y) ≡ false
  second_false true y e = e
  second_false false y e = refl

  given_when : (x : Bool) → (nat_eq j.form form && same_all (inputs_of modes j) (map (tree_at (store_trees s)) terms)) ≡ x → (hyps : Hypotheses) →
      given_as hyps ≡ result_when x (hand_on modes hyps (frames_in modes rules s frames) (given number, outputs_of modes j))
  given_when x e hyps = ap (λ z. result_when z (hand_on modes hyps (frames_in modes rules s frames) (given number, outputs_of modes j))) e

  pub given_form : (fact.form ≡ form → ⊥) → IsCandidateTried modes rules pairs s s given_as Nothing
  given_form d = record {
    grows = grows_same modes rules s h;
    is = λ js. given_when false (both_false (nat_eq j.form form) (same_all (inputs_of modes j) (map (tree_at (store_trees s)) terms)) (number_false j.form form (λ e. d (f.form ∙ e)))) (hyps_in pairs s js);
  }

  pub given_other : (fact.inputs.items ≡ terms → ⊥) → IsCandidateTried modes rules pairs s s given_as Nothing
  given_other d =
      let x = ap (λ us. same_all us (map (tree_at (store_trees s)) terms)) (sym f.inputs) ∙ numbers_differ (store_trees s) (distinct s.arena.cells h.arena) fact.inputs.items terms f.inputs_below b d in
      record {
        grows = grows_same modes rules s h;
        is = λ js. given_when false (second_false (nat_eq j.form form) (same_all (inputs_of modes j) (map (tree_at (store_trees s)) terms)) x) (hyps_in pairs s js);
      }

  pub given_handed : fact.form ≡ form → fact.inputs.items ≡ terms → (outs : List ℕ) → outs ≡ fact.outputs.items → (w : Store) (step : Step) → IsHanded modes rules pairs s w frames (Given number) outs step → IsCandidateTried modes rules pairs s w given_as step
  given_handed e g outs o w step k =
      let x = number_true j.form form (sym f.form ∙ e) in
      let y = ap (λ us. same_all us (map (tree_at (store_trees s)) terms)) (sym f.inputs) ∙ numbers_same (store_trees s) fact.inputs.items terms g in
      let z : (nat_eq j.form form && same_all (inputs_of modes j) (map (tree_at (store_trees s)) terms)) ≡ true = ap (λ (q : Bool). q && same_all (inputs_of modes j) (map (tree_at (store_trees s)) terms)) x ∙ y in
      let m : map (tree_at (store_trees s)) outs ≡ outputs_of modes j = ap (map (tree_at (store_trees s))) o ∙ f.outputs in
      record {
        grows = k.grows;
        is = λ js. subst (λ (r : Result). IsSearchStep modes rules js w answers step r)
            ((λ i. hand_on modes (hyps_in pairs s js) (frames_in modes rules s frames) (given number, m i)) ∙ sym (given_when true z (hyps_in pairs s js))) (k.is js);
      }

-- what holds of the rule that was read holds of the rule with its number
pub one_rule : (P : Rule → Type 0) (rules : List Rule) (n : ℕ) (r : Rule) → slice_get rules n ≡ Some r → P r → (rule : Rule) → slice_get rules n ≡ Some rule → P rule
one_rule P rules n r e p rule f =
    let g : Some r ≡ Some rule = sym e ∙ f in
    let same_rule : r ≡ rule = cc in
    subst P same_rule p
