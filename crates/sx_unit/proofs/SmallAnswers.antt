-- Where no term of a goal passes a limit, none of the derivation does that its walk finds.
use Rattle.std.proofs.Common.{◌≡◌, ℕ, zero, suc, ◌≤◌, ◌-◌, Bool, true, false, List, [], ◌∷◌}
use Rattle.std.proofs.Common.{◌⊎◌, inl, inr, map, length, Option, Some, None, refl, sym, ap, ◌∙◌}
use Rattle.std.proofs.Common.{subst, arith}
use Rattle.std.specs.Prelude.{nat_eq, nat_lt}
use Rattle.sx_term.specs.Tree.{Tree, Trees, node, lexeme, hole, none, ◌▹◌, depth_of}
use Rattle.sx_term.specs.Tree.{size_of, total_size}
use Rattle.sx_rules.specs.Instances.{instance, instances, Stands, StandsInKids, StandsAmong}
use Rattle.sx_rules.specs.Instances.{bound_by}
use Rattle.sx_rules.specs.Rules.{Judgement, Premise, holds, apart, Rule, judgement_instance}
use Rattle.sx_rules.specs.Rules.{no_hypotheses}
use Rattle.sx_rules.specs.Modes.{Modes, inputs, outputs, inputs_of, outputs_of, Goal, goal_of}
use Rattle.sx_rules.specs.Modes.{AllModed}
use Rattle.sx_rules.specs.Derivations.{Proofs, by, given}
use Rattle.sx_arena.specs.Matching.{Assignment, nothing_bound, match_all, value_or, filled, IsBound}
use Rattle.sx_arena.proofs.Matchings.{MatchesAll, match_all-matches}
use Rattle.sx_arena.proofs.Exact.{filled_agrees}
use Rattle.sx_derive.specs.Walk.{Cause, Event, try, give, stop, Answer, then_each, when_matched}
use Rattle.sx_derive.specs.Walk.{limit_passed, unless_passed, are_apart, put_first, after_kid}
use Rattle.sx_derive.specs.Walk.{premise_events, first_values, conclude, after_match, rule_events}
use Rattle.sx_derive.specs.Walk.{rules_events, goal_events, events, term_limit, first_cause}
use Rattle.sx_derive.specs.Search.{DerivesGoal, EachGiven, found}
use Rattle.sx_derive.specs.Search.{walk}
use Rattle.sx_derive.proofs.Bounded.{depth-instance}
use Rattle.sx_derive.proofs.FoundEach.{found_each}
use Rattle.sx_derive.proofs.Sound.{given-append, given-when, given-when_matched, given-then_each}
use Rattle.sx_derive.proofs.Sound.{events_sound}
use Rattle.sx_rewrite.specs.Measured.{node_terms}
use Rattle.sx_rewrite.specs.Puts.{IsSmallTerm}
use Rattle.sx_expand.specs.Readings.{AllSmall}
use Rattle.sx_unit.specs.SmallTerms.{IsSmallProof, AreSmallProofs}
use Rattle.sx_unit.proofs.BaseAlone.{small_both}

-- ---- terms

-- a variable's value is no bigger than the instance
mutual
  value_smaller : (s : ℕ → Tree) (t : Tree) (v : ℕ) → Stands v t →
      size_of (s v) ≤ size_of (instance s t)
  value_smaller s (node label ts) v h = let k = value_smaller_each s ts v h in omega arith
  value_smaller s (lexeme kind text) v h = absurd h
  value_smaller s (hole w) v h =
      let same : s v ≡ s w = ap s h in
      omega (arith, ap size_of same)

  value_smaller_each : (s : ℕ → Tree) (ts : Trees) (v : ℕ) → StandsInKids v ts →
      size_of (s v) ≤ total_size (instances s ts)
  value_smaller_each s none v h = absurd h
  value_smaller_each s (t ▹ ts) v (inl h) = let k = value_smaller s t v h in omega arith
  value_smaller_each s (t ▹ ts) v (inr h) = let k = value_smaller_each s ts v h in omega arith

value_small : (s : ℕ → Tree) (ts : List Tree) (v : ℕ) → StandsAmong v ts →
    AllSmall (map (instance s) ts) → IsSmallTerm (s v)
value_small s [] v h k = absurd h
value_small s (t ∷ ts) v (inl h) k =
    let d = depth-instance s t v h in
    let z = value_smaller s t v h in
    (omega (arith, d, k.0.0), omega (arith, z, k.0.1))
value_small s (t ∷ ts) v (inr h) k = value_small s ts v h k.1

-- the places are small where the inputs and the outputs are
small_places : (bs : List Bool) (ts : List Tree) → AllSmall (inputs bs ts) →
    AllSmall (outputs bs ts) → AllSmall ts
small_places [] ts h k = h
small_places (b ∷ bs) [] h k = tt
small_places (true ∷ bs) (t ∷ ts) h k = (k.0, small_places bs ts h k.1)
small_places (false ∷ bs) (t ∷ ts) h k = (h.0, small_places bs ts h.1 k)

-- ---- limits

no_limit : (b c : Bool) (t : Tree) (rest : Option Cause) →
    first_cause (term_limit b c t) rest ≡ None → (b ≡ false) × (c ≡ false) × (rest ≡ None)
no_limit true c t rest e = cc
no_limit false true t rest e = cc
no_limit false false t rest e = (refl, refl, e)

none_passed : (ts : List Tree) → limit_passed ts ≡ None → AllSmall ts
unfolding limit_passed
none_passed [] e = tt
none_passed (t ∷ ts) e =
    let h =
    no_limit (nat_lt 1000 (depth_of t)) (nat_lt 1000000 (size_of t)) t (limit_passed ts) e in
    ((within 1000 (depth_of t) h.0, within 1000000 (size_of t) h.1), none_passed ts h.2)
  where
    within : (most n : ℕ) → nat_lt most n ≡ false → n ≤ most
    within most n f = grind (arith, f)

-- ---- bindings

-- no term of the assignment passes a limit
abbrev IsSmallAssignment : Assignment → Type 0
IsSmallAssignment env = (v : ℕ) (u : Tree) → env v ≡ Some u → IsSmallTerm u

nothing_small : IsSmallAssignment nothing_bound
nothing_small v u e = cc

match_small : (ps ts : List Tree) (env more : Assignment) → match_all ps ts env ≡ Some more →
    AllSmall ts → IsSmallAssignment env → IsSmallAssignment more
match_small ps ts env more e h k v u q = go (m.only v (u, q))
  where
    m : MatchesAll ps ts env more
    m = match_all-matches ps ts env more e

    go : IsBound env v ⊎ StandsAmong v ps → IsSmallTerm u
    go (inl x) =
        let some : Some x.0 ≡ Some u = sym (m.extends v x.0 x.1) ∙ q in
        let same : x.0 ≡ u = cc in subst IsSmallTerm same (k v x.0 x.1)
    go (inr x) =
        let all = subst AllSmall (sym (m.instance_is (filled more) (filled_agrees more))) h in
        subst IsSmallTerm (ap value_or q) (value_small (filled more) ps v x all)

filled_small : (env : Assignment) → IsSmallAssignment env → (v : ℕ) → IsSmallTerm (filled env v)
filled_small env h v = go (env v) refl
  where
    go : (o : Option Tree) → env v ≡ o → IsSmallTerm (value_or o)
    go None e = (omega arith, omega arith)
    go (Some u) e = h v u e

values_small : (n : ℕ) (s : ℕ → Tree) → ((v : ℕ) → IsSmallTerm (s v)) → AllSmall (first_values n s)
values_small zero s h = tt
values_small (suc n) s h = (h 0, values_small n (λ v. s (suc v)) (λ v. h (suc v)))

-- ---- events

given_unless : {A : Type 0} (P : A → Type 0) (c : Option Cause) (es : List (Event A)) →
    (c ≡ None → EachGiven P es) → EachGiven P (unless_passed c es)
given_unless P None es h = h refl
given_unless P (Some c) es h = tt

given_both : {A : Type 0} (P Q R : A → Type 0) → ((a : A) → P a → Q a → R a) →
    (es : List (Event A)) → EachGiven P es → EachGiven Q es → EachGiven R es
given_both P Q R k [] p q = tt
given_both P Q R k (try ∷ es) p q = given_both P Q R k es p q
given_both P Q R k (stop c ∷ es) p q = given_both P Q R k es p q
given_both P Q R k (give a ∷ es) p q = (k a p.0 q.0, given_both P Q R k es p.1 q.1)

module _ (modes : Modes) (rules : List Rule) (moded : AllModed modes rules) where
  abbrev IsSmallAnswer : Answer → Type 0
  IsSmallAnswer a = IsSmallProof rules a.0 × AllSmall a.1

  -- the same without the conclusion of the last node
  abbrev HasSmallParts : Answer → Type 0
  HasSmallParts (by r binds kids, outs) =
      AllSmall binds × AreSmallProofs rules kids × AllSmall outs
  HasSmallParts (given i, outs) = AllSmall outs

  abbrev IsSmallEnd : Assignment × Proofs → Type 0
  IsSmallEnd end = AreSmallProofs rules end.1 × IsSmallAssignment end.0

  module _ (below : Goal → List (Event Answer))
      (small : (goal : Goal) → AllSmall goal.terms → EachGiven IsSmallAnswer (below goal)) where
    premises_small : (ps : List Premise) (env : Assignment) → IsSmallAssignment env →
        EachGiven IsSmallEnd (premise_events modes no_hypotheses below ps env)
    premises_small [] env h = ((tt, h), tt)
    premises_small (apart t u ∷ ps) env h =
        given-when IsSmallEnd
        (are_apart no_hypotheses (instance (filled env) t) (instance (filled env) u))
        (premise_events modes no_hypotheses below ps env) (λ e. premises_small ps env h)
    premises_small (holds j ∷ ps) env h =
        let made = judgement_instance (filled env) j in
        let next = premise_events modes no_hypotheses below ps in
        let patterns = outputs_of modes j in
        given_unless IsSmallEnd (limit_passed (inputs_of modes made))
        (then_each (after_kid next patterns env) (below (goal_of modes made)))
        (λ passed. given-then_each IsSmallAnswer IsSmallEnd (after_kid next patterns env)
        (below (goal_of modes made))
        (small (goal_of modes made) (none_passed (inputs_of modes made) passed))
        (λ kid b. given-when_matched IsSmallEnd (match_all patterns kid.1 env)
        (λ more. then_each (put_first kid.0) (next more))
        (λ more e. given-then_each IsSmallEnd IsSmallEnd (put_first kid.0) (next more)
        (premises_small ps more (match_small patterns kid.1 env more e b.1 h))
        (λ end k. (((b.0, k.0), k.1), tt)))))

    rule_small : (r : ℕ) (rule : Rule) (goal : Goal) → AllSmall goal.terms →
        EachGiven HasSmallParts (rule_events modes no_hypotheses below r rule goal)
    rule_small r rule goal h =
        let patterns = inputs_of modes rule.conclusion in
        given-when HasSmallParts (nat_eq rule.conclusion.form goal.form)
        (when_matched (match_all patterns goal.terms nothing_bound)
        (after_match modes no_hypotheses below r rule))
        (λ same_form. given-when_matched HasSmallParts
        (match_all patterns goal.terms nothing_bound)
        (after_match modes no_hypotheses below r rule)
        (λ env e. given-then_each IsSmallEnd HasSmallParts (conclude modes r rule)
        (premise_events modes no_hypotheses below rule.premises env)
        (premises_small rule.premises env
        (match_small patterns goal.terms nothing_bound env e h nothing_small))
        (λ end k.
        let made = outputs_of modes (judgement_instance (filled end.0) rule.conclusion) in
        let binds = first_values (length rule.sorts) (filled end.0) in
        given_unless HasSmallParts (limit_passed made) (give (by r binds end.1, made) ∷ [])
        (λ passed. (
          (
            values_small (length rule.sorts) (filled end.0) (filled_small end.0 k.1),
            k.0,
            none_passed made passed,
          ),
          tt,
        )))))

    rules_small : (n : ℕ) (rs : List Rule) (goal : Goal) → AllSmall goal.terms →
        EachGiven HasSmallParts (rules_events modes no_hypotheses below n rs goal)
    rules_small n [] goal h = tt
    rules_small n (x ∷ rs) goal h =
        given-append HasSmallParts (rule_events modes no_hypotheses below n x goal)
        (rules_events modes no_hypotheses below (suc n) rs goal) (rule_small n x goal h)
        (rules_small (suc n) rs goal h)

  -- what derives a goal whose terms are small has a small conclusion
  whole_small : (goal : Goal) → AllSmall goal.terms → (a : Answer) →
      DerivesGoal modes rules no_hypotheses goal a → HasSmallParts a → IsSmallAnswer a
  whole_small goal h (given i, outs) d w = (tt, w)
  whole_small goal h (by r binds kids, outs) (j, asked, gives, (rule, at, many, is, alone, each)) w =
      let ins : AllSmall (inputs_of modes j) =
      subst AllSmall (sym (ap (λ (g : Goal). g.terms) asked)) h in
      let places = small_places (modes j.form) j.places ins (subst AllSmall (sym gives) w.2) in
      let own = subst (λ (k : Judgement). AllSmall k.places) (sym is) places in
      let terms = small_both binds (judgement_instance (bound_by binds) rule.conclusion).places w.0
      own in
      ((subst (λ (o : Option Rule). AllSmall (node_terms o binds)) (sym at) terms, w.1), w.2)

  events_small : (levels : ℕ) (goal : Goal) → AllSmall goal.terms →
      EachGiven IsSmallAnswer (goal_events modes rules no_hypotheses levels goal)
  unfolding goal_events
  events_small zero goal h = tt
  events_small (suc levels) goal h =
      given_both (DerivesGoal modes rules no_hypotheses goal) HasSmallParts IsSmallAnswer
      (whole_small goal h) (goal_events modes rules no_hypotheses (suc levels) goal)
      (events_sound modes rules no_hypotheses moded (suc levels) goal)
      (rules_small (goal_events modes rules no_hypotheses levels) (events_small levels) zero rules
      goal h)

  pub found_small : (goal : Goal) → AllSmall goal.terms → (budget : ℕ) (a : Answer) →
      walk None budget (events modes rules no_hypotheses goal 1) ≡ found a →
      IsSmallProof rules a.0
  unfolding events
  found_small goal h budget a e =
      (found_each IsSmallAnswer None budget (goal_events modes rules no_hypotheses (3001 - 1) goal) a
      (events_small (3001 - 1) goal h) e).0
