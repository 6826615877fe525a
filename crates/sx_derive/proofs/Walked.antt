use Rattle.std.proofs.Common.{◌≡◌, ℕ, zero, suc, ◌-◌, Bool, true, false, List, [], ◌∷◌, ◌++◌, ◌⊎◌, inl, inr, Option, Some, None, refl, sym, ap, ◌∙◌, subst, arith}
use Rattle.sx_term.specs.Tree.{Tree}
use Rattle.sx_arena.specs.Matching.{same_all}
use Rattle.sx_rules.specs.Rules.{Rule, Hypotheses}
use Rattle.sx_rules.specs.Modes.{Modes, outputs_of, Goal, goal_of, AllModed}
use Rattle.sx_rules.specs.Derivations.{Proof}
use Rattle.sx_rules.specs.Orders.{Entry, of_given, of_rule, EntryBefore, order_of, IsBefore, IsAtMost}
use Rattle.sx_derive.specs.Walk.{Event, try, give, stop, Answer, goal_events, events}
use Rattle.sx_derive.specs.Search.{DerivesGoal, EachGiven, IsReached, IsGivenBeforeStop, HasStop, AreWanted, found, exhausted, are_wanted, found_when, walk}
use Rattle.sx_derive.specs.Laws.{EventsAreSound, EventsAreComplete, EachDerivationIsGiven, EventsAreInOrder, FoundIsFirst, ExhaustedMeansNone}
use Rattle.sx_arena.proofs.Sameness.{same_all_true, same_all_self}
use Rattle.sx_derive.proofs.Settled.{Settle, precedes_before}
use Rattle.sx_derive.proofs.Reached.{AnswerBefore, IsAnswer, reached}
use Rattle.sx_derive.proofs.Sound.{events_sound}

-- the lexicographic order
entry_irreflexive : (a : Entry) → EntryBefore a a → ⊥
entry_irreflexive (of_given i) h = absurd (omega arith)
entry_irreflexive (of_rule r) h = absurd (omega arith)

pub entry_asymmetric : (a b : Entry) → EntryBefore a b → EntryBefore b a → ⊥
entry_asymmetric (of_given i) (of_given j) h k = absurd (omega arith)
entry_asymmetric (of_given i) (of_rule r) h k = k
entry_asymmetric (of_rule r) (of_given i) h k = h
entry_asymmetric (of_rule r) (of_rule q) h k = absurd (omega arith)

pub entry_self : (a b : Entry) → a ≡ b → EntryBefore a b → ⊥
entry_self a b e h = entry_irreflexive a (subst (λ (x : Entry). EntryBefore a x) (sym e) h)

before_irreflexive : (xs : List Entry) → IsBefore xs xs → ⊥
before_irreflexive [] h = h
before_irreflexive (a ∷ xs) (inl h) = entry_irreflexive a h
before_irreflexive (a ∷ xs) (inr h) = before_irreflexive xs h.1

before_asymmetric : (xs ys : List Entry) → IsBefore xs ys → IsBefore ys xs → ⊥
before_asymmetric [] [] h k = h
before_asymmetric [] (b ∷ ys) h k = k
before_asymmetric (a ∷ xs) [] h k = h
before_asymmetric (a ∷ xs) (b ∷ ys) (inl h) (inl k) = entry_asymmetric a b h k
before_asymmetric (a ∷ xs) (b ∷ ys) (inl h) (inr k) = entry_self a b (sym k.0) h
before_asymmetric (a ∷ xs) (b ∷ ys) (inr h) (inl k) = entry_self b a (sym h.0) k
before_asymmetric (a ∷ xs) (b ∷ ys) (inr h) (inr k) = before_asymmetric xs ys h.1 k.1

pub at_most_self : (xs : List Entry) → IsAtMost xs xs
at_most_self [] = tt
at_most_self (a ∷ xs) = inr (refl, at_most_self xs)

pub before_at_most : (xs ys : List Entry) → IsBefore xs ys → IsAtMost xs ys
before_at_most [] ys h = tt
before_at_most (a ∷ xs) [] h = h
before_at_most (a ∷ xs) (b ∷ ys) (inl h) = inl h
before_at_most (a ∷ xs) (b ∷ ys) (inr h) = inr (h.0, before_at_most xs ys h.1)

-- what is reached
settled-reached : (q : Proof) (outs : List Tree) (es : List (Event Answer)) → Settle (AnswerBefore q) (IsAnswer q outs) es → IsReached (q, outs) es
settled-reached q outs [] h = h
settled-reached q outs (try ∷ es) h = settled-reached q outs es h
settled-reached q outs (stop c ∷ es) h = tt
settled-reached q outs (give a ∷ es) (inl h) = inl h
settled-reached q outs (give a ∷ es) (inr h) = inr (precedes_before (order_of a.0) (order_of q) h.0, settled-reached q outs es h.1)

pub events_are_sound : EventsAreSound
unfolding events
events_are_sound modes rules hyps moded goal depth = events_sound modes rules hyps moded (3001 - depth) goal

pub goal_reached : (modes : Modes) (rules : List Rule) (hyps : Hypotheses) → AllModed modes rules → (levels : ℕ) (goal : Goal) (q : Answer) →
    DerivesGoal modes rules hyps goal q → IsReached q (goal_events modes rules hyps levels goal)
goal_reached modes rules hyps moded levels goal q (j, same_goal, same_outputs, derives) =
    let h = settled-reached q.0 (outputs_of modes j) (goal_events modes rules hyps levels (goal_of modes j)) (reached modes rules hyps moded q.0 j derives levels) in
    subst (λ (g : Goal). IsReached q (goal_events modes rules hyps levels g)) same_goal
    (subst (λ (o : List Tree). IsReached (q.0, o) (goal_events modes rules hyps levels (goal_of modes j))) same_outputs h)

pub events_are_complete : EventsAreComplete
unfolding events
events_are_complete modes rules hyps moded goal depth q h = goal_reached modes rules hyps moded (3001 - depth) goal q h

reached-given : (q : Answer) (es : List (Event Answer)) → IsReached q es → IsGivenBeforeStop q es ⊎ HasStop es
reached-given q [] h = absurd h
reached-given q (try ∷ es) h = reached-given q es h
reached-given q (stop c ∷ es) h = inr tt
reached-given q (give a ∷ es) (inl h) = inl (inl h)
reached-given q (give a ∷ es) (inr h) = later (reached-given q es h.1)
  where
    later : IsGivenBeforeStop q es ⊎ HasStop es → IsGivenBeforeStop q (give a ∷ es) ⊎ HasStop (give a ∷ es)
    later (inl k) = inl (inr k)
    later (inr k) = inr k

pub each_derivation_is_given : EachDerivationIsGiven
each_derivation_is_given modes rules hyps moded goal depth q h =
    reached-given q (events modes rules hyps goal depth) (events_are_complete modes rules hyps moded goal depth q h)

reached-before : (p q : Answer) (front back : List (Event Answer)) → IsBefore (order_of q.0) (order_of p.0) → IsReached q (front ++ (give p ∷ back)) → IsGivenBeforeStop q front ⊎ HasStop front
reached-before p q [] back b (inl h) = absurd (before_irreflexive (order_of q.0) (subst (λ (x : Answer). IsBefore (order_of q.0) (order_of x.0)) h b))
reached-before p q [] back b (inr h) = absurd (before_asymmetric (order_of q.0) (order_of p.0) b h.0)
reached-before p q (try ∷ es) back b h = reached-before p q es back b h
reached-before p q (stop c ∷ es) back b h = inr tt
reached-before p q (give a ∷ es) back b (inl h) = inl (inl h)
reached-before p q (give a ∷ es) back b (inr h) = later (reached-before p q es back b h.1)
  where
    later : IsGivenBeforeStop q es ⊎ HasStop es → IsGivenBeforeStop q (give a ∷ es) ⊎ HasStop (give a ∷ es)
    later (inl k) = inl (inr k)
    later (inr k) = inr k

pub events_are_in_order : EventsAreInOrder
events_are_in_order modes rules hyps moded goal depth front back p q e h b =
    reached-before p q front back b (subst (λ (es : List (Event Answer)). IsReached q es) e (events_are_complete modes rules hyps moded goal depth q h))

-- the walk
wanted-true : (wanted : Option (List Tree)) (outs : List Tree) → are_wanted wanted outs ≡ true → AreWanted wanted outs
wanted-true None outs e = tt
wanted-true (Some w) outs e = same_all_true outs w e

true-wanted : (wanted : Option (List Tree)) (outs : List Tree) → AreWanted wanted outs → are_wanted wanted outs ≡ true
true-wanted None outs h = refl
true-wanted (Some w) outs h = ap (same_all outs) (sym h) ∙ same_all_self outs

module _ (P : Answer → Type 0) (wanted : Option (List Tree)) where
  abbrev IsLeast : Answer → Type 0
  IsLeast a = P a × AreWanted wanted a.1 × ((q : Answer) → P q → AreWanted wanted q.1 → IsAtMost (order_of a.0) (order_of q.0))

  abbrev AllReached : List (Event Answer) → Type 0
  AllReached es = (q : Answer) → P q → AreWanted wanted q.1 → IsReached q es

  skips : (a : Answer) (es : List (Event Answer)) → are_wanted wanted a.1 ≡ false → AllReached (give a ∷ es) → AllReached es
  skips a es e h q p w = go (h q p w)
    where
      go : (a ≡ q) ⊎ IsBefore (order_of a.0) (order_of q.0) × IsReached q es → IsReached q es
      go (inl k) = let x : are_wanted wanted q.1 ≡ true = true-wanted wanted q.1 w in let y : are_wanted wanted a.1 ≡ are_wanted wanted q.1 = ap (λ (z : Answer). are_wanted wanted z.1) k in cc
      go (inr k) = k.1

  least_here : (a b : Answer) (es : List (Event Answer)) → P a → are_wanted wanted a.1 ≡ true → AllReached (give a ∷ es) → found a ≡ found b → IsLeast b
  least_here a b es p w h e =
      let same_answer : a ≡ b = cc in
      subst (λ (x : Answer). IsLeast x) same_answer (p, wanted-true wanted a.1 w, λ q r v. go q (h q r v))
    where
      go : (q : Answer) → (a ≡ q) ⊎ IsBefore (order_of a.0) (order_of q.0) × IsReached q es → IsAtMost (order_of a.0) (order_of q.0)
      go q (inl k) = subst (λ (x : Answer). IsAtMost (order_of a.0) (order_of x.0)) k (at_most_self (order_of a.0))
      go q (inr k) = before_at_most (order_of a.0) (order_of q.0) k.0

  walk_least : (es : List (Event Answer)) (budget : ℕ) (b : Answer) → EachGiven P es → AllReached es → walk wanted budget es ≡ found b → IsLeast b
  walk_least [] budget b s h e = cc
  walk_least (try ∷ es) zero b s h e = cc
  walk_least (try ∷ es) (suc budget) b s h e = walk_least es budget b s h e
  walk_least (stop c ∷ es) budget b s h e = cc
  walk_least (give a ∷ es) budget b s h e = go (are_wanted wanted a.1) refl e (λ f. walk_least es budget b s.1 f)
    where
      go : (w : Bool) → are_wanted wanted a.1 ≡ w → found_when w a (walk wanted budget es) ≡ found b → (AllReached es → walk wanted budget es ≡ found b → IsLeast b) → IsLeast b
      go true x f rec = least_here a b es s.0 x h f
      go false x f rec = rec (skips a es x h) f

  walk_exhausted : (es : List (Event Answer)) (budget : ℕ) → AllReached es → walk wanted budget es ≡ exhausted → (q : Answer) → P q → AreWanted wanted q.1 → ⊥
  walk_exhausted [] budget h e q p w = h q p w
  walk_exhausted (try ∷ es) zero h e q p w = cc
  walk_exhausted (try ∷ es) (suc budget) h e q p w = walk_exhausted es budget h e q p w
  walk_exhausted (stop c ∷ es) budget h e q p w = cc
  walk_exhausted (give a ∷ es) budget h e q p w = go (are_wanted wanted a.1) refl e (λ f g. walk_exhausted es budget f g q p w)
    where
      go : (v : Bool) → are_wanted wanted a.1 ≡ v → found_when v a (walk wanted budget es) ≡ exhausted → (AllReached es → walk wanted budget es ≡ exhausted → ⊥) → ⊥
      go true x f rec = cc
      go false x f rec = rec (skips a es x h) f

pub found_is_first : FoundIsFirst
found_is_first modes rules hyps moded goal wanted budget depth a e =
    let es = events modes rules hyps goal depth in
    let h = walk_least (DerivesGoal modes rules hyps goal) wanted es budget a (events_are_sound modes rules hyps moded goal depth) (λ q d w. events_are_complete modes rules hyps moded goal depth q d) e in
    record { derives = h.0; is_wanted = h.1; least = h.2 }

pub exhausted_means_none : ExhaustedMeansNone
exhausted_means_none modes rules hyps moded goal wanted budget depth e =
    walk_exhausted (DerivesGoal modes rules hyps goal) wanted (events modes rules hyps goal depth) budget (λ q d w. events_are_complete modes rules hyps moded goal depth q d) e
