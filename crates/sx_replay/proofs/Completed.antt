-- The list of a derivation, begun or whole, is read to its end.
use Rattle.std.proofs.Common.{◌≡◌, ℕ, ◌+◌, ◌≤◌, Bool, List, [], ◌∷◌, ◌++◌, length, Option, Some, refl, sym, ap, ◌∙◌, arith, append_assoc}
use Rattle.std.specs.Prelude.{slice_get, nat_eq, max}
use Rattle.std.proofs.lemmas.Bool.{eq-eqb}
use Rattle.sx_term.specs.Tree.{Tree}
use Rattle.sx_rules.specs.Instances.{instance}
use Rattle.sx_rules.specs.Rules.{Judgement, Premise, holds, apart, Rule, Hypotheses}
use Rattle.sx_rules.specs.Rules.{judgement_instance}
use Rattle.sx_rules.specs.Modes.{Modes, inputs_of, outputs_of, Goal, goal_of, AllModed}
use Rattle.sx_rules.specs.Derivations.{Proof, Proofs, by, given, no_more, ◌⊳◌, height_of}
use Rattle.sx_rules.specs.Derivations.{most_height}
use Rattle.sx_rules.specs.Orders.{Entry, of_rule, order_of, order_of_all}
use Rattle.sx_rules.specs.First.{DerivesGoal}
use Rattle.sx_arena.specs.Matching.{Assignment, nothing_bound, same_all, match_all, filled}
use Rattle.sx_arena.proofs.Sameness.{and_both, same_all_self}
use Rattle.sx_arena.proofs.Matchings.{when_true}
use Rattle.sx_arena.proofs.Filled.{true-apart}
use Rattle.sx_replay.specs.declared.noted.Noted.{Noted}
use Rattle.sx_replay.specs.Limits.{note}
use Rattle.sx_replay.specs.Fronts.{Partial, unbegun, begun, partial_order, partial_height}
use Rattle.sx_replay.specs.Fronts.{entry_match, made_in, ArePassed, IsBegun}
use Rattle.sx_replay.specs.Machine.{ReplayFrame, Move, asks, move_when, move_matched, premises_move}
use Rattle.sx_replay.specs.Machine.{hand_on, given_move, given_named, rule_named, open_at, read}
use Rattle.sx_replay.proofs.Noting.{note-none, note-append}
use Rattle.sx_replay.proofs.Passed.{derivation_passes}

module _ (modes : Modes) (rules : List Rule) (hyps : Hypotheses) where
  -- the list of a derivation, and then the rest, is read as its outputs handed on, and then the rest
  abbrev pub IsRead : Proof → Type 0
  IsRead p =
      (goal : Goal) (outs : List Tree) → DerivesGoal modes rules hyps goal (p, outs) → (frames : List ReplayFrame) (n : Noted) (d : ℕ) (rest : List Entry) → length frames ≤ d →
      read modes rules hyps (order_of p ++ rest) d (asks goal frames n) ≡ read modes rules hyps rest (max d (length frames + height_of p)) (hand_on modes hyps frames outs (note n (made_in modes rules p)))

  abbrev pub AreRead : Proofs → Type 0
  AreRead no_more = Unit {0}
  AreRead (p ⊳ ps) = IsRead p × AreRead ps

  -- the premises from here on
  abbrev premises_from : List ReplayFrame → Rule → List Premise → Assignment → Noted → Move
  premises_from frames rule ps env n = premises_move modes hyps (hand_on modes hyps frames) frames rule ps env n

  nothing_passed : (frames : List ReplayFrame) (rule : Rule) (ps rest : List Premise) (env last : Assignment) (terms : List Tree) → terms ≡ [] → rest ≡ ps → last ≡ env → (n : Noted) (d : ℕ) (xs : List Entry) → length frames + 1 ≤ d →
      read modes rules hyps xs d (premises_from frames rule ps env n) ≡ read modes rules hyps xs (max d (length frames + 1 + 0)) (premises_from frames rule rest last (note n terms))
  nothing_passed frames rule ps rest env last terms et er el n d xs le =
      let q : max d (length frames + 1 + 0) ≡ d = omega arith in
      let m : note n terms ≡ n = ap (note n) et ∙ note-none n in
      λ i. read modes rules hyps xs (sym q i) (premises_from frames rule (sym er i) (sym el i) (sym m i))

  passed_read : (frames : List ReplayFrame) (rule : Rule) (ps : List Premise) (env : Assignment) (kids : Proofs) (terms : List Tree) (rest : List Premise) (last : Assignment) →
      ArePassed modes rules hyps ps env kids terms rest last → AreRead kids → (n : Noted) (d : ℕ) (xs : List Entry) → length frames + 1 ≤ d →
      read modes rules hyps (order_of_all kids ++ xs) d (premises_from frames rule ps env n)
      ≡ read modes rules hyps xs (max d (length frames + 1 + most_height kids)) (premises_from frames rule rest last (note n terms))
  passed_read frames rule [] env (p ⊳ kids) terms rest last h r n d xs le = absurd h
  passed_read frames rule [] env no_more terms rest last h r n d xs le = nothing_passed frames rule [] rest env last terms h.0 h.1 h.2 n d xs le
  passed_read frames rule (apart t u ∷ ps) env kids terms rest last h r n d xs le =
      let ok = true-apart hyps (instance (filled env) t) (instance (filled env) u) h.0 in
      ap (λ (b : Bool). read modes rules hyps (order_of_all kids ++ xs) d (move_when b (premises_from frames rule ps env n))) ok
      ∙ passed_read frames rule ps env kids terms rest last h.1 r n d xs le
  passed_read frames rule (holds j ∷ ps) env no_more terms rest last h r n d xs le = nothing_passed frames rule (holds j ∷ ps) rest env last terms h.0 h.1 h.2 n d xs le
  passed_read frames rule (holds j ∷ ps) env (p ⊳ kids) terms rest last (outs, derives, (more, found, (later, is, h))) r n d xs le =
      let ins = inputs_of modes (judgement_instance (filled env) j) in
      let goal = goal_of modes (judgement_instance (filled env) j) in
      let frame : ReplayFrame = record { rule = rule; rest = ps; patterns = outputs_of modes j; env = env } in
      let made = made_in modes rules p in
      let ys = order_of_all kids ++ xs in
      let l : length (frame ∷ frames) ≡ length frames + 1 = omega arith in
      let e : ℕ = max d (length (frame ∷ frames) + height_of p) in
      let m = note (note n ins) made in
      ap (λ (zs : List Entry). read modes rules hyps zs d (asks goal (frame ∷ frames) (note n ins))) (append_assoc (order_of p) (order_of_all kids) xs)
      ∙ r.0 goal outs derives (frame ∷ frames) (note n ins) d ys (omega arith)
      ∙ ap (λ (o : Option Assignment). read modes rules hyps ys e (move_matched o (λ env. premises_from frames rule ps env m))) found
      ∙ passed_read frames rule ps more kids later rest last h r.1 m e xs (omega arith)
      ∙ (let q : max e (length frames + 1 + most_height kids) ≡ max d (length frames + 1 + max (height_of p) (most_height kids)) = omega arith in
      let w : note m later ≡ note n terms = ap (λ (z : Noted). note z later) (note-append n ins made) ∙ note-append n (ins ++ made) later ∙ ap (note n) (append_assoc ins made later ∙ sym is) in
      λ i. read modes rules hyps xs (q i) (premises_from frames rule rest last (w i)))

  -- a rule's entry and those of the kids that are whole
  rule_enters : (goal : Goal) (r : ℕ) (rule : Rule) (env : Assignment) (kids : Proofs) (before : List Tree) (rest : List Premise) (last : Assignment) → slice_get rules r ≡ Some rule → entry_match modes rule goal ≡ Some env →
      ArePassed modes rules hyps rule.premises env kids before rest last → AreRead kids → (frames : List ReplayFrame) (n : Noted) (d : ℕ) (xs : List Entry) → length frames ≤ d →
      read modes rules hyps (of_rule r ∷ (order_of_all kids ++ xs)) d (asks goal frames n)
      ≡ read modes rules hyps xs (max d (length frames + (most_height kids + 1))) (premises_from frames rule rest last (note n before))
  rule_enters goal r rule env kids before rest last at_r matches passed reads frames n d xs le =
      let e : ℕ = max d (length frames + 1) in
      let ys = order_of_all kids ++ xs in
      let w = when_true (nat_eq rule.conclusion.form goal.form) (match_all (inputs_of modes rule.conclusion) goal.terms nothing_bound) env matches in
      ap (λ (o : Option Rule). read modes rules hyps ys e (rule_named modes hyps o goal frames n)) at_r
      ∙ ap (λ (b : Bool). read modes rules hyps ys e (move_when b (move_matched (match_all (inputs_of modes rule.conclusion) goal.terms nothing_bound) (λ env. premises_from frames rule rule.premises env n)))) w.0
      ∙ ap (λ (o : Option Assignment). read modes rules hyps ys e (move_matched o (λ env. premises_from frames rule rule.premises env n))) w.1
      ∙ passed_read frames rule rule.premises env kids before rest last passed reads n e xs (omega arith)
      ∙ (let q : max e (length frames + 1 + most_height kids) ≡ max d (length frames + (most_height kids + 1)) = omega arith in
      λ i. read modes rules hyps xs (q i) (premises_from frames rule rest last (note n before)))

  given_read : (i : ℕ) → IsRead (given i)
  given_read i goal outs (j, same_goal, same_outs, at_i) frames n d rest le =
      let e : ℕ = max d (length frames + 1) in
      let test = and_both (nat_eq j.form j.form) (same_all (inputs_of modes j) (inputs_of modes j)) (eq-eqb j.form j.form refl) (same_all_self (inputs_of modes j)) in
      ap (λ (o : Option Judgement). read modes rules hyps rest e (given_named modes hyps o goal frames n)) at_i
      ∙ ap (λ (g : Goal). read modes rules hyps rest e (given_move modes hyps j g frames n)) (sym same_goal)
      ∙ ap (λ (b : Bool). read modes rules hyps rest e (move_when b (hand_on modes hyps frames (outputs_of modes j) n))) test
      ∙ (λ k. read modes rules hyps rest e (hand_on modes hyps frames (same_outs k) (sym (note-none n) k)))

  module _ (moded : AllModed modes rules) where
    rule_read : (r : ℕ) (binds : List Tree) (kids : Proofs) → AreRead kids → IsRead (by r binds kids)
    rule_read r binds kids reads goal outs derives frames n d rest le =
        let x = derivation_passes modes rules hyps moded goal r binds kids outs derives in
        rule_enters goal r x.rule x.env kids x.before [] x.last x.at_r x.matches x.passed reads frames n d rest le
        ∙ (let e : ℕ = max d (length frames + (most_height kids + 1)) in
        let w : note (note n x.before) outs ≡ note n (made_in modes rules (by r binds kids)) = note-append n x.before outs ∙ ap (note n) (sym x.terms_are) in
        (λ i. read modes rules hyps rest e (hand_on modes hyps frames (x.concluded i) (note (note n x.before) (x.concluded i))))
        ∙ (λ i. read modes rules hyps rest e (hand_on modes hyps frames outs (w i))))

    mutual
      pub reads : (p : Proof) → IsRead p
      reads (given i) = given_read i
      reads (by r binds kids) = rule_read r binds kids (all_read kids)

      pub all_read : (ps : Proofs) → AreRead ps
      all_read no_more = tt
      all_read (p ⊳ ps) = (reads p, all_read ps)

    -- the list of a partial derivation is read to a goal that is left
    pub begun_read : (f : Partial) (goal : Goal) (terms : List Tree) → IsBegun modes rules hyps f goal terms → (frames : List ReplayFrame) (n : Noted) (d : ℕ) → length frames ≤ d →
        (g : Goal) × (fs : List ReplayFrame) × (read modes rules hyps (partial_order f) d (asks goal frames n) ≡ open_at g fs (note n terms) (max d (length frames + partial_height f)))
    begun_read unbegun goal terms h frames n d le =
        let q : max d (length frames + 0) ≡ d = omega arith in
        let m : note n terms ≡ n = ap (note n) h ∙ note-none n in
        (goal, frames, λ i. open_at goal frames (sym m i) (sym q i))
    begun_read (begun r kids f) goal terms (rule, at_r, (env, matches, (j, ps, last, before, after, passed, below, is))) frames n d le =
        let ins = inputs_of modes (judgement_instance (filled last) j) in
        let frame : ReplayFrame = record { rule = rule; rest = ps; patterns = outputs_of modes j; env = last } in
        let l : length (frame ∷ frames) ≡ length frames + 1 = omega arith in
        let e : ℕ = max d (length frames + (most_height kids + 1)) in
        let x = begun_read f (goal_of modes (judgement_instance (filled last) j)) after below (frame ∷ frames) (note (note n before) ins) e (omega arith) in
        let q : max e (length (frame ∷ frames) + partial_height f) ≡ max d (length frames + (max (most_height kids) (partial_height f) + 1)) = omega arith in
        let w : note (note (note n before) ins) after ≡ note n terms =
        ap (λ (z : Noted). note z after) (note-append n before ins) ∙ note-append n (before ++ ins) after ∙ ap (note n) (append_assoc before ins after ∙ sym is) in
        (x.0, x.1, rule_enters goal r rule env kids before (holds j ∷ ps) last at_r matches passed (all_read kids) frames n d (partial_order f) le ∙ x.2 ∙ (λ i. open_at x.0 x.1 (w i) (q i)))
