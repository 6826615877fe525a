-- A candidate against a goal.
use Rattle.std.proofs.Common.{◌≡◌, ℕ, zero, suc, ◌&&◌, ◌≤◌, ◌<◌, Bool, true, false, List, [], ◌∷◌, map, length, get_or, Option, Some, None, refl, sym, ap, ◌∙◌, arith, subst}
use Rattle.std.specs.Prelude.{slice_get, nat_eq, Vec}
use Rattle.std.specs.declared.alloc.Global.{Global}
use Rattle.std.proofs.lemmas.Bool.Decides.{Decides-eqb}
use Rattle.sx_term.specs.Tree.{Tree}
use Rattle.sx_rules.specs.Rules.{Judgement, Rule, Hypotheses}
use Rattle.sx_rules.specs.Modes.{Modes, inputs_of, outputs_of}
use Rattle.sx_rules.specs.Orders.{Entry, of_given, of_rule}
use Rattle.sx_rules.specs.declared.rule.Rule.{Rule as RuleOf}
use Rattle.sx_rules.specs.Views.{named}
use Rattle.sx_arena.specs.Matching.{same_all, Assignment, nothing_bound, match_all}
use Rattle.sx_arena.specs.declared.binds.Binds.{Binds}
use Rattle.sx_arena.specs.declared.fact.Fact.{Fact}
use Rattle.sx_arena.specs.declared.pairs.Pair.{Pair}
use Rattle.sx_arena.specs.Arena.{trees, tree_at, AreBelow}
use Rattle.sx_arena.specs.Binds.{env_at, BindsGrow}
use Rattle.sx_arena.specs.Facts.{IsFact, AreFacts}
use Rattle.sx_arena.specs.Pairs.{pairs_of, ArePairs}
use Rattle.sx_arena.specs.Views.{rule_of}
use Rattle.sx_arena.proofs.Arenas.{Distinct, distinct}
use Rattle.sx_arena.proofs.Parted.{pairs_stay}
use Rattle.sx_arena.proofs.Sameness.{same_all_true, same_all_self}
use Rattle.sx_replay.specs.declared.reader.Reader.{Reader}
use Rattle.sx_replay.specs.declared.step.Step.{Step}
use Rattle.sx_replay.specs.declared.step.Step.TheVariants.{Clash, Done}
use Rattle.sx_replay.specs.Machine.{Move, ends, move_when, move_matched, premises_move, hand_on}
use Rattle.sx_replay.specs.Machine.{given_move, given_named, rule_move, rule_named, entry_move}
use Rattle.sx_replay.specs.Reader.{reader_trees, reader_envs, stack, IsReplayReader, NamesStay}
use Rattle.sx_replay.specs.Reader.{ReplayGoesOn, replay_hypotheses, replay_goal, IsReplayStep}
use Rattle.sx_replay.specs.Reader.{IsReplayPremises, IsMoved}
use Rattle.sx_replay.proofs.Readers.{stack_later, grows_then, grows_binds, goes_same, goes_then, goes_grown}
use Rattle.sx_replay.proofs.Handed.{step_other}

number_false : (m n : ℕ) → (m ≡ n → ⊥) → nat_eq m n ≡ false
number_false m n d = go (nat_eq m n) refl
  where
    go : (b : Bool) → nat_eq m n ≡ b → b ≡ false
    go true e = absurd (d ((Decides-eqb m n).0 e))
    go false e = refl

number_true : (m n : ℕ) → m ≡ n → nat_eq m n ≡ true
number_true m n e = (Decides-eqb m n).1 e

module _ (modes : Modes) (rules : List Rule) (pairs : List Pair) (s : Reader) (rule : Rule) (form : ℕ) (terms : List ℕ) (h : IsReplayReader rules s) where
  abbrev pub tried_as : Hypotheses → Move
  tried_as hyps = rule_move modes hyps rule (replay_goal s form terms) (stack modes rules s) s.noted

  abbrev pub matched_as : List Judgement → Option Assignment → Move
  matched_as js m = move_matched m (λ env. premises_move modes (replay_hypotheses pairs s js) (hand_on modes (replay_hypotheses pairs s js) (stack modes rules s)) (stack modes rules s) rule rule.premises env s.noted)

  pub rule_other : (rule.conclusion.form ≡ form → ⊥) → IsMoved modes rules pairs s s tried_as Clash
  rule_other d = record {
    grows = goes_same rules s h;
    is = λ js. ap (λ b. move_when b (matched_as js (match_all (inputs_of modes rule.conclusion) (map (tree_at (reader_trees s)) terms) nothing_bound))) (number_false rule.conclusion.form form d);
  }

  module _ (same_form : rule.conclusion.form ≡ form) (b : Binds) (g : BindsGrow (trees s.arena) s.binds b) where
    abbrev pub bound_to : Reader
    bound_to = record { arena = s.arena; binds = b; waiting = s.waiting; noted = s.noted; base = s.base }

    pub bound_later : NamesStay rules s bound_to
    bound_later = grows_binds rules s bound_to h g refl refl refl

    tried_is : (js : List Judgement) (m : Option Assignment) → match_all (inputs_of modes rule.conclusion) (map (tree_at (reader_trees s)) terms) nothing_bound ≡ m → tried_as (replay_hypotheses pairs s js) ≡ matched_as js m
    tried_is js m e =
        ap (λ b. move_when b (matched_as js (match_all (inputs_of modes rule.conclusion) (map (tree_at (reader_trees s)) terms) nothing_bound))) (number_true rule.conclusion.form form same_form)
        ∙ ap (matched_as js) e

    pub rule_none : match_all (inputs_of modes rule.conclusion) (map (tree_at (reader_trees s)) terms) nothing_bound ≡ None → IsMoved modes rules pairs s bound_to tried_as Clash
    rule_none m = record { grows = goes_grown rules s bound_to h bound_later; is = λ js. tried_is js None m }

    module _ (hp : ArePairs (length (reader_trees s)) pairs) (v : Reader) (env : ℕ) (m : match_all (inputs_of modes rule.conclusion) (map (tree_at (reader_trees s)) terms) nothing_bound ≡ Some (env_at (reader_envs bound_to) env)) (step : Step)
        (p : IsReplayPremises modes rules pairs bound_to v rule env rule.premises step) where
      pub grown : NamesStay rules s v
      grown = grows_then rules s bound_to v bound_later p.grows

      step_is : (js : List Judgement) → IsReplayStep modes rules s.waiting.items v (hand_on modes (replay_hypotheses pairs s js) (stack modes rules s)) step (tried_as (replay_hypotheses pairs s js))
      step_is js =
          let st = stack_later modes rules s bound_to h bound_later.envs refl in
          let next = hand_on modes (replay_hypotheses pairs s js) (stack modes rules s) in
          subst (λ (r : Move). IsReplayStep modes rules s.waiting.items v next step r)
          ((λ i. premises_move modes (replay_hypotheses pairs s js) next (st i) rule rule.premises (env_at (reader_envs bound_to) env) s.noted)
          ∙ sym (tried_is js (Some (env_at (reader_envs bound_to) env)) m))
          (p.is js next)

      pub rule_stop : ((o : Vec ℕ Global) → step ≡ Done o → ⊥) → IsMoved modes rules pairs s v tried_as step
      rule_stop n = record {
        grows = goes_grown rules s v h grown;
        is = λ js. step_other modes rules s.waiting.items [] v (hand_on modes (replay_hypotheses pairs s js) (stack modes rules s)) ends step (tried_as (replay_hypotheses pairs s js)) n (step_is js);
      }

      pub rule_done : (outs : Vec ℕ Global) → step ≡ Done outs →
          AreBelow (length (reader_trees v)) outs.items
          × ((js : List Judgement) → tried_as (replay_hypotheses pairs s js) ≡ hand_on modes (replay_hypotheses pairs v js) (stack modes rules v) (map (tree_at (reader_trees v)) outs.items) v.noted)
      rule_done outs e =
          let ep : pairs_of (reader_trees v) pairs ≡ pairs_of (reader_trees s) pairs = pairs_stay (reader_trees s) (reader_trees v) grown.trees pairs hp in
          let k = told [] in
          let st = stack_later modes rules s v h grown.envs k.1 in
          (k.0, λ js. (told js).2 ∙ (λ i. hand_on modes (record { judgements = js; pairs = sym ep i }) (sym st i) (map (tree_at (reader_trees v)) outs.items) v.noted))
        where
          told : (js : List Judgement) → IsReplayStep modes rules s.waiting.items v (hand_on modes (replay_hypotheses pairs s js) (stack modes rules s)) (Done outs) (tried_as (replay_hypotheses pairs s js))
          told js = subst (λ (x : Step). IsReplayStep modes rules s.waiting.items v (hand_on modes (replay_hypotheses pairs s js) (stack modes rules s)) x (tried_as (replay_hypotheses pairs s js))) e (step_is js)

      pub rule_handed : (outs : Vec ℕ Global) → step ≡ Done outs → (w : Reader) (last : Step) →
          IsMoved modes rules pairs v w (λ hyps. hand_on modes hyps (stack modes rules v) (map (tree_at (reader_trees v)) outs.items) v.noted) last → IsMoved modes rules pairs s w tried_as last
      rule_handed outs e w last k =
          let d = rule_done outs e in
          record {
            grows = goes_then rules s v w (goes_grown rules s v h grown) k.grows;
            is = λ js. subst (λ (r : Move). IsReplayStep modes rules [] w ends last r) (sym (d.1 js)) (k.is js);
          }

-- numbers are the same just where the terms are
terms_same : (ts : List Tree) → Distinct ts → (is ks : List ℕ) → AreBelow (length ts) is → AreBelow (length ts) ks → map (tree_at ts) is ≡ map (tree_at ts) ks → is ≡ ks
terms_same ts d [] [] a b e = refl
terms_same ts d [] (k ∷ ks) a b e = cc
terms_same ts d (i ∷ is) [] a b e = cc
terms_same ts d (i ∷ is) (k ∷ ks) a b e =
    let f : tree_at ts i ≡ tree_at ts k = cc in
    let g : map (tree_at ts) is ≡ map (tree_at ts) ks = cc in
    let p = d i k a.0 b.0 f in
    let q = terms_same ts d is ks a.1 b.1 g in
    λ n. p n ∷ q n

numbers_same : (ts : List Tree) (is ks : List ℕ) → is ≡ ks → same_all (map (tree_at ts) is) (map (tree_at ts) ks) ≡ true
numbers_same ts is ks e = ap (λ xs. same_all (map (tree_at ts) is) (map (tree_at ts) xs)) (sym e) ∙ same_all_self (map (tree_at ts) is)

numbers_differ : (ts : List Tree) → Distinct ts → (is ks : List ℕ) → AreBelow (length ts) is → AreBelow (length ts) ks → (is ≡ ks → ⊥) → same_all (map (tree_at ts) is) (map (tree_at ts) ks) ≡ false
numbers_differ ts d is ks a b n = go (same_all (map (tree_at ts) is) (map (tree_at ts) ks)) refl
  where
    go : (x : Bool) → same_all (map (tree_at ts) is) (map (tree_at ts) ks) ≡ x → x ≡ false
    go true e = absurd (n (terms_same ts d is ks a b (same_all_true (map (tree_at ts) is) (map (tree_at ts) ks) e)))
    go false e = refl

both_false : (x y : Bool) → x ≡ false → (x && y) ≡ false
both_false x y e = ap (λ z. z && y) e

second_false : (x y : Bool) → y ≡ false → (x && y) ≡ false
second_false true y e = e
second_false false y e = refl

module _ (modes : Modes) (rules : List Rule) (pairs : List Pair) (s : Reader) (j : Judgement) (fact : Fact) (form : ℕ) (terms : List ℕ) (h : IsReplayReader rules s) (f : IsFact modes (reader_trees s) j fact)
    (b : AreBelow (length (reader_trees s)) terms) where
  abbrev pub given_as : Hypotheses → Move
  given_as hyps = given_move modes hyps j (replay_goal s form terms) (stack modes rules s) s.noted

  given_when : (x : Bool) → (nat_eq j.form form && same_all (inputs_of modes j) (map (tree_at (reader_trees s)) terms)) ≡ x → (hyps : Hypotheses) →
      given_as hyps ≡ move_when x (hand_on modes hyps (stack modes rules s) (outputs_of modes j) s.noted)
  given_when x e hyps = ap (λ z. move_when z (hand_on modes hyps (stack modes rules s) (outputs_of modes j) s.noted)) e

  pub given_form : (fact.form ≡ form → ⊥) → IsMoved modes rules pairs s s given_as Clash
  given_form d = record {
    grows = goes_same rules s h;
    is = λ js. given_when false (both_false (nat_eq j.form form) (same_all (inputs_of modes j) (map (tree_at (reader_trees s)) terms)) (number_false j.form form (λ e. d (f.form ∙ e)))) (replay_hypotheses pairs s js);
  }

  pub given_other : (fact.inputs.items ≡ terms → ⊥) → IsMoved modes rules pairs s s given_as Clash
  given_other d =
      let x = ap (λ us. same_all us (map (tree_at (reader_trees s)) terms)) (sym f.inputs) ∙ numbers_differ (reader_trees s) (distinct s.arena.cells h.arena) fact.inputs.items terms f.inputs_below b d in
      record {
        grows = goes_same rules s h;
        is = λ js. given_when false (second_false (nat_eq j.form form) (same_all (inputs_of modes j) (map (tree_at (reader_trees s)) terms)) x) (replay_hypotheses pairs s js);
      }

  pub given_handed : fact.form ≡ form → fact.inputs.items ≡ terms → (outs : List ℕ) → outs ≡ fact.outputs.items → (w : Reader) (step : Step) →
      IsMoved modes rules pairs s w (λ hyps. hand_on modes hyps (stack modes rules s) (map (tree_at (reader_trees s)) outs) s.noted) step → IsMoved modes rules pairs s w given_as step
  given_handed e g outs o w step k =
      let x = number_true j.form form (sym f.form ∙ e) in
      let y = ap (λ us. same_all us (map (tree_at (reader_trees s)) terms)) (sym f.inputs) ∙ numbers_same (reader_trees s) fact.inputs.items terms g in
      let z : (nat_eq j.form form && same_all (inputs_of modes j) (map (tree_at (reader_trees s)) terms)) ≡ true = ap (λ (q : Bool). q && same_all (inputs_of modes j) (map (tree_at (reader_trees s)) terms)) x ∙ y in
      let m : map (tree_at (reader_trees s)) outs ≡ outputs_of modes j = ap (map (tree_at (reader_trees s))) o ∙ f.outputs in
      record {
        grows = k.grows;
        is = λ js. subst (λ (r : Move). IsReplayStep modes rules [] w ends step r)
            ((λ i. hand_on modes (replay_hypotheses pairs s js) (stack modes rules s) (m i) s.noted) ∙ sym (given_when true z (replay_hypotheses pairs s js))) (k.is js);
      }

-- the hypothesis of a fact
pub fact_at : (modes : Modes) (ts : List Tree) (js : List Judgement) (fs : List Fact) → AreFacts modes ts js fs → (i : ℕ) (f : Fact) → i < length fs →
    (j : Judgement) × (slice_get js i ≡ Some j) × IsFact modes ts j (get_or fs i f)
fact_at modes ts [] [] a i f l = absurd (omega arith)
fact_at modes ts [] (g ∷ fs) a i f l = absurd a
fact_at modes ts (j ∷ js) [] a i f l = absurd a
fact_at modes ts (j ∷ js) (g ∷ fs) a zero f l = (j, refl, a.0)
fact_at modes ts (j ∷ js) (g ∷ fs) a (suc i) f l = fact_at modes ts js fs a.1 i f (omega arith)

pub no_fact_at : (modes : Modes) (ts : List Tree) (js : List Judgement) (fs : List Fact) → AreFacts modes ts js fs → (i : ℕ) → length fs ≤ i → slice_get js i ≡ None
no_fact_at modes ts [] [] a i l = refl
no_fact_at modes ts [] (g ∷ fs) a i l = absurd a
no_fact_at modes ts (j ∷ js) [] a i l = absurd a
no_fact_at modes ts (j ∷ js) (g ∷ fs) a zero l = absurd (omega arith)
no_fact_at modes ts (j ∷ js) (g ∷ fs) a (suc i) l = no_fact_at modes ts js fs a.1 i (omega arith)

-- no rule with the number
pub no_rule_at : (xs : List RuleOf) (i : ℕ) → slice_get (map named xs) i ≡ None → slice_get (map rule_of xs) i ≡ None
no_rule_at [] i e = refl
no_rule_at (x ∷ xs) zero e = cc
no_rule_at (x ∷ xs) (suc i) e = no_rule_at xs i e

module _ (modes : Modes) (rules : List Rule) (pairs : List Pair) (old new : Reader) (form : ℕ) (terms : List ℕ) (js : List Judgement) (facts : List Fact) (a : AreFacts modes (reader_trees old) js facts) where
  abbrev pub entry_of_old : Entry → Move
  entry_of_old e = entry_move modes (replay_hypotheses pairs old js) rules e (replay_goal old form terms) (stack modes rules old) old.noted

  abbrev pub IsEntered : Reader → Step → Entry → Type 0
  IsEntered r step e = ReplayGoesOn rules old r × IsReplayStep modes rules [] r ends step (entry_of_old e)

  pub given_entered : (i : ℕ) (fact : Fact) (step : Step) → i < length facts →
      ((j : Judgement) → IsFact modes (reader_trees old) j (get_or facts i fact) → IsMoved modes rules pairs old new (λ hyps. given_move modes hyps j (replay_goal old form terms) (stack modes rules old) old.noted) step) → IsEntered new step (of_given i)
  given_entered i fact step l h =
      let f = fact_at modes (reader_trees old) js facts a i fact l in
      let m = h f.0 f.2 in
      (m.grows, subst (λ (o : Option Judgement). IsReplayStep modes rules [] new ends step (given_named modes (replay_hypotheses pairs old js) o (replay_goal old form terms) (stack modes rules old) old.noted)) (sym f.1) (m.is js))

  pub no_given_entered : IsReplayReader rules old → (i : ℕ) → length facts ≤ i → IsEntered old Clash (of_given i)
  no_given_entered h i l =
      let n = no_fact_at modes (reader_trees old) js facts a i l in
      (goes_same rules old h, ap (λ (o : Option Judgement). given_named modes (replay_hypotheses pairs old js) o (replay_goal old form terms) (stack modes rules old) old.noted) n)

  pub rule_entered : (r : ℕ) (rule : Rule) (step : Step) → slice_get rules r ≡ Some rule →
      IsMoved modes rules pairs old new (λ hyps. rule_move modes hyps rule (replay_goal old form terms) (stack modes rules old) old.noted) step → IsEntered new step (of_rule r)
  rule_entered r rule step found m =
      (m.grows, subst (λ (o : Option Rule). IsReplayStep modes rules [] new ends step (rule_named modes (replay_hypotheses pairs old js) o (replay_goal old form terms) (stack modes rules old) old.noted)) (sym found) (m.is js))

  pub no_rule_entered : IsReplayReader rules old → (r : ℕ) → slice_get rules r ≡ None → IsEntered old Clash (of_rule r)
  no_rule_entered h r n =
      (goes_same rules old h, ap (λ (o : Option Rule). rule_named modes (replay_hypotheses pairs old js) o (replay_goal old form terms) (stack modes rules old) old.noted) n)
