-- Candidates that are passed over.
use Rattle.std.proofs.Common.{◌≡◌, ℕ, zero, suc, ◌+◌, ◌<◌, ◌&&◌, Bool, true, false, List, [], ◌∷◌, ◌++◌, map, length, get_or, Some, refl, sym, ap, ◌∙◌, arith}
use Rattle.std.specs.Prelude.{slice_get, nat_eq}
use Rattle.std.proofs.lemmas.Bool.Decides.{Decides-eqb}
use Rattle.sx_rules.specs.Rules.{Judgement, Rule, Hypotheses}
use Rattle.sx_rules.specs.Modes.{Modes, inputs_of, outputs_of}
use Rattle.sx_rules.specs.Derivations.{given, no_more}
use Rattle.sx_arena.specs.Arena.{tree_at, AreBelow}
use Rattle.sx_arena.specs.Facts.{IsFact, AreFacts}
use Rattle.sx_arena.specs.Matching.{same_all, nothing_bound, match_all}
use Rattle.sx_arena.specs.Places.{NeverFit}
use Rattle.sx_arena.specs.declared.fact.Fact.{Fact}
use Rattle.sx_arena.specs.declared.pairs.Pair.{Pair}
use Rattle.sx_arena.proofs.Arenas.{distinct}
use Rattle.sx_derive.specs.Candidates.{goal_in}
use Rattle.sx_derive.specs.Handing.{hyps_in, frames_in}
use Rattle.sx_derive.specs.Machine.{nothing, result_when, result_matched, premises_result, hand_on, given_result, rule_result, tasks_events, result_events}
use Rattle.sx_derive.specs.Passing.{task_at, ComeToNothing}
use Rattle.sx_derive.specs.Store.{IsStore, store_trees}
use Rattle.sx_derive.specs.Walk.{Event, try, tries_then}
use Rattle.sx_derive.specs.declared.store.Store.{Store}
use Rattle.sx_derive.specs.declared.tasks.Task.{Task as TaskOf}
use Rattle.sx_derive.proofs.Tasked.{fact_at, facts_length, next_given, next_rule}
use Rattle.sx_derive.proofs.Tried.{numbers_differ}

pub tries_more : {A : Type 0} (n : ℕ) (es : List (Event A)) → tries_then n (try ∷ es) ≡ tries_then (suc n) es
tries_more zero es = refl
tries_more (suc n) es = ap (λ fs. try ∷ fs) (tries_more n es)

pub got_less : {X : Type 0} (xs : List X) (i : ℕ) (x : X) → slice_get xs i ≡ Some x → i < length xs
got_less [] i x e = cc
got_less (y ∷ xs) zero x e = omega arith
got_less (y ∷ xs) (suc i) x e = let h = got_less xs i x e in omega arith

second_false : (x y : Bool) → y ≡ false → (x && y) ≡ false
second_false true y e = e
second_false false y e = refl

module _ (modes : Modes) (rules : List Rule) (pairs : List Pair) (s : Store) (t : TaskOf) (next : ℕ) where
  -- a hypothesis of another form, or with other inputs
  given_nothing : (h : IsStore modes rules s) (b : AreBelow (length (store_trees s)) t.terms.items) (j : Judgement) (f : Fact) → IsFact modes (store_trees s) j f → (f.form ≡ t.form → f.inputs.items ≡ t.terms.items → ⊥) →
      (hyps : Hypotheses) → given_result modes hyps next j (goal_in s t.form t.terms.items) (frames_in modes rules s t.frames) ≡ nothing
  given_nothing h b j f k d hyps =
      ap (λ z. result_when z (hand_on modes hyps (frames_in modes rules s t.frames) (given next, outputs_of modes j))) (go (nat_eq j.form t.form) refl)
    where
      others : Bool
      others = same_all (inputs_of modes j) (map (tree_at (store_trees s)) t.terms.items)

      go : (x : Bool) → nat_eq j.form t.form ≡ x → (nat_eq j.form t.form && same_all (inputs_of modes j) (map (tree_at (store_trees s)) t.terms.items)) ≡ false
      go false e = ap (λ z. z && same_all (inputs_of modes j) (map (tree_at (store_trees s)) t.terms.items)) e
      go true e =
          let same_form : f.form ≡ t.form = k.form ∙ (Decides-eqb j.form t.form).0 e in
          second_false (nat_eq j.form t.form) (same_all (inputs_of modes j) (map (tree_at (store_trees s)) t.terms.items))
          (ap (λ us. same_all us (map (tree_at (store_trees s)) t.terms.items)) (sym k.inputs)
          ∙ numbers_differ (store_trees s) (distinct s.arena.cells h.arena) f.inputs.items t.terms.items k.inputs_below b (d same_form))

  -- a rule of another form, or whose inputs match under no bindings
  rule_nothing : (number : ℕ) (rule : Rule) → (rule.conclusion.form ≡ t.form → NeverFit (inputs_of modes rule.conclusion) (map (tree_at (store_trees s)) t.terms.items)) →
      (hyps : Hypotheses) → rule_result modes hyps number rule t.levels (goal_in s t.form t.terms.items) (frames_in modes rules s t.frames) ≡ nothing
  rule_nothing number rule d hyps = go (nat_eq rule.conclusion.form t.form) refl
    where
      go : (x : Bool) → nat_eq rule.conclusion.form t.form ≡ x → rule_result modes hyps number rule t.levels (goal_in s t.form t.terms.items) (frames_in modes rules s t.frames) ≡ nothing
      go false e = ap (λ z. result_when z (result_matched (match_all (inputs_of modes rule.conclusion) (map (tree_at (store_trees s)) t.terms.items) nothing_bound)
          (λ env. premises_result modes hyps number rule t.levels (frames_in modes rules s t.frames) (hand_on modes hyps (frames_in modes rules s t.frames)) rule.premises env no_more))) e
      go true e =
          ap (λ z. result_when z (result_matched (match_all (inputs_of modes rule.conclusion) (map (tree_at (store_trees s)) t.terms.items) nothing_bound)
          (λ env. premises_result modes hyps number rule t.levels (frames_in modes rules s t.frames) (hand_on modes hyps (frames_in modes rules s t.frames)) rule.premises env no_more))) e
          ∙ ap (λ m. result_matched m (λ env. premises_result modes hyps number rule t.levels (frames_in modes rules s t.frames) (hand_on modes hyps (frames_in modes rules s t.frames)) rule.premises env no_more))
          (d ((Decides-eqb rule.conclusion.form t.form).0 e) nothing_bound)

  module _ (js : List Judgement) where
    one_less : (m : ℕ) → m ≡ next + 1 → (ts : List _) →
        tasks_events modes rules (hyps_in pairs s js) (task_at modes rules js s t m ∷ ts) ≡ tasks_events modes rules (hyps_in pairs s js) (task_at modes rules js s t (next + 1) ∷ ts)
    one_less m e ts = ap (λ (n : ℕ). tasks_events modes rules (hyps_in pairs s js) (task_at modes rules js s t n ∷ ts)) e

    pub given_missed : (facts : List Fact) (h : IsStore modes rules s) (b : AreBelow (length (store_trees s)) t.terms.items) → AreFacts modes (store_trees s) js facts → next < length facts → (f : Fact) →
        ((get_or facts next f).form ≡ t.form → (get_or facts next f).inputs.items ≡ t.terms.items → ⊥) → ComeToNothing modes rules pairs js s t next 1
    given_missed facts h b a l f d ts =
        let x = fact_at modes (store_trees s) js facts a next f l in
        let k = facts_length modes (store_trees s) js facts a in
        let m : next < length js = omega arith in
        let n : suc next ≡ next + 1 = omega arith in
        next_given modes rules (hyps_in pairs s js) t.levels (goal_in s t.form t.terms.items) (frames_in modes rules s t.frames) next x.0 x.1 m ts
        ∙ ap (λ r. try ∷ (result_events modes rules (hyps_in pairs s js) r ++ tasks_events modes rules (hyps_in pairs s js) (task_at modes rules js s t (suc next) ∷ ts)))
        (given_nothing h b x.0 (get_or facts next f) x.2 d (hyps_in pairs s js))
        ∙ ap (λ es. try ∷ es) (one_less (suc next) n ts)

    pub rule_missed : (number : ℕ) (rule : Rule) → next ≡ length js + number → slice_get rules number ≡ Some rule →
        (rule.conclusion.form ≡ t.form → NeverFit (inputs_of modes rule.conclusion) (map (tree_at (store_trees s)) t.terms.items)) → ComeToNothing modes rules pairs js s t next 1
    rule_missed number rule e r d ts =
        let n : suc next ≡ next + 1 = omega arith in
        next_rule modes rules (hyps_in pairs s js) t.levels (goal_in s t.form t.terms.items) (frames_in modes rules s t.frames) next number rule e r ts
        ∙ ap (λ r. try ∷ (result_events modes rules (hyps_in pairs s js) r ++ tasks_events modes rules (hyps_in pairs s js) (task_at modes rules js s t (suc next) ∷ ts)))
        (rule_nothing number rule d (hyps_in pairs s js))
        ∙ ap (λ es. try ∷ es) (one_less (suc next) n ts)

    pub none_missed : (n : ℕ) → n ≡ 0 → ComeToNothing modes rules pairs js s t next n
    none_missed n z ts =
        let e : next ≡ next + 0 = omega arith in
        ap (λ (k : ℕ). tasks_events modes rules (hyps_in pairs s js) (task_at modes rules js s t k ∷ ts)) e
        ∙ ap (λ (k : ℕ). tries_then k (tasks_events modes rules (hyps_in pairs s js) (task_at modes rules js s t (next + k) ∷ ts))) (sym z)

    pub one_more_missed : (n m at : ℕ) → at ≡ next + n → m ≡ n + 1 → ComeToNothing modes rules pairs js s t next n → ComeToNothing modes rules pairs js s t at 1 → ComeToNothing modes rules pairs js s t next m
    one_more_missed n m at e k x y ts =
        let a : at + 1 ≡ next + m = omega arith in
        x ts
        ∙ ap (λ (i : ℕ). tries_then n (tasks_events modes rules (hyps_in pairs s js) (task_at modes rules js s t i ∷ ts))) (sym e)
        ∙ ap (tries_then n) (y ts)
        ∙ tries_more n (tasks_events modes rules (hyps_in pairs s js) (task_at modes rules js s t (at + 1) ∷ ts))
        ∙ (let q : suc n ≡ m = omega arith in λ i. tries_then (q i) (tasks_events modes rules (hyps_in pairs s js) (task_at modes rules js s t (a i) ∷ ts)))

pub tries_both : {A : Type 0} (m n k : ℕ) (es : List (Event A)) → k ≡ m + n → tries_then m (tries_then n es) ≡ tries_then k es
tries_both zero n k es e = let f : n ≡ k = omega arith in ap (λ (i : ℕ). tries_then i es) f
tries_both (suc m) n zero es e = absurd (omega arith)
tries_both (suc m) n (suc k) es e = ap (λ fs. try ∷ fs) (tries_both m n k es (omega arith))
