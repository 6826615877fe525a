-- The spans of complete items.
use Rattle.std.proofs.Common.{◌≡◌, ◌∙◌, ◌↔◌, ℕ, zero, suc, ◌+◌, ◌≤◌, max, List, [], ◌∷◌, ◌++◌, ◌⊎◌, inl, inr, ⊎_elim, sym, subst, ap, refl, take, Contains, Option, Some, None, arith}
use Rattle.std.specs.List.{slice_get}
use Rattle.std.proofs.lemmas.Option.{same_Some, none-some}
use Rattle.std.proofs.lemmas.List.Elements.{Contains-push, Contains-push_cases, Contains-append_left}
use Rattle.std.proofs.lemmas.Bool.{cases_lt}
use Rattle.sx_grammar.specs.Grammar.{Production, Grammar, Token, part, production_of}
use Rattle.sx_grammar.specs.Tally.{Among, EachOnce}
use Rattle.sx_grammar.specs.declared.head.Head.{Head}
use Rattle.sx_grammar.specs.declared.head.Head.TheVariants.{Labelled, Bracketed}
use Rattle.sx_grammar.specs.declared.item.Item.{Item}
use Rattle.sx_grammar.specs.Items as items
use Rattle.sx_grammar.specs.ReadOne.{Holds, IsGreatestEnd}
use Rattle.sx_earley.specs.declared.span.Span.{Span}
use Rattle.sx_earley.specs.declared.span.SpanOf.{SpanOf}
use Rattle.sx_earley.specs.declared.span.SpanOf.TheVariants.{Node, Bracket}
use Rattle.sx_earley.specs.Chart.{HasDotAtEnd, IsIdle, as_part}
use Rattle.sx_earley.specs.Counted.{AreItems}
use Rattle.sx_earley.specs.Completed.{head_of, of_head, span_of, IsChart, AreSpans, AddsSpan}
use Rattle.sx_earley.specs.Completed.{IsReach}
use Rattle.sx_earley.proofs.Growth.{extends_self}
use Rattle.sx_earley.proofs.Closing.{front_more, there_at, ends_there, ends_is, is_next, nothing_in}
use Rattle.sx_earley.proofs.Idling.{idle_open, idle_waits}

-- what holds of a front, and of the next element, holds of the front with that element
pub one_on : (xs : List Item) (n : ℕ) (y : Item) (P : Item → Type 0) → slice_get xs n ≡ Some y → ((x : Item) → Contains (take n xs) x → P x) → P y →
    (x : Item) → Contains (take (n + 1) xs) x → P x
one_on xs n y P at before here x there =
    ⊎_elim (λ old. before x old) (λ e. subst P e here)
    (Contains-push_cases (take n xs) y x (subst (λ l. Contains l x) (sym (front_more xs xs n y (extends_self xs) at)) there))

head_again : (h : Head) → head_of (of_head h) ≡ h
head_again (Labelled label) = refl
head_again (Bracketed sort) = refl

of_again : (o : SpanOf) → of_head (head_of o) ≡ o
of_again (Node label) = refl
of_again (Bracket sort) = refl

same_ends : (o : Option Production) (a b : ℕ) → HasDotAtEnd o a → HasDotAtEnd o b → a ≡ b
same_ends None a b h k = absurd h
same_ends (Some p) a b h k = sym h ∙ k

-- a complete item is the only one with its span
same_item : (g : Grammar) (i j : Item) → HasDotAtEnd (production_of g i.head) i.dot → HasDotAtEnd (production_of g j.head) j.dot → span_of i ≡ span_of j → i ≡ j
same_item g i j h k e =
    let heads : i.head ≡ j.head = sym (head_again i.head) ∙ ap (λ s. head_of s.of) e ∙ head_again j.head in
    let dots : i.dot ≡ j.dot = same_ends (production_of g j.head) i.dot j.dot (subst (λ x. HasDotAtEnd (production_of g x) i.dot) heads h) k in
    λ t. record { head = heads t; dot = dots t; origin = (e t).from; end = (e t).to }

among_at : {X : Type 0} (xs : List X) (n : ℕ) (y : X) → slice_get xs n ≡ Some y → Among y xs
among_at [] n y e = absurd (none-some y e)
among_at (x ∷ xs) zero y e = inl (sym (same_Some x y e))
among_at (x ∷ xs) (suc n) y e = inr (among_at xs n y e)

pub first_or_later : {X : Type 0} (x : X) (xs : List X) (y : X) → Contains (x ∷ xs) y → (x ≡ y) ⊎ Contains xs y
first_or_later x xs y (zero, low, e) = inl e
first_or_later x xs y (suc k, low, e) = inr (k, omega (arith, low), e)

-- an item of distinct ones does not stand before itself
fresh : {X : Type 0} (xs : List X) (n : ℕ) (y : X) → EachOnce xs → slice_get xs n ≡ Some y → Contains (take n xs) y → ⊥
fresh [] n y once at there = absurd (none-some y at)
fresh (x ∷ xs) zero y once at there = nothing_in [] y refl there
fresh (x ∷ xs) (suc n) y once at there = ⊎_elim
    (λ e. once.0 (subst (λ z. Among z xs) (sym e) (among_at xs n y at)))
    (λ later. fresh xs n y once.1 at later)
    (first_or_later x (take n xs) y there)

module _ {X : Type 0} where
  among_push : (y x : X) (xs : List X) → Among y (xs ++ x ∷ []) → Among y xs ⊎ (y ≡ x)
  among_push y x [] (inl e) = inr e
  among_push y x [] (inr h) = absurd h
  among_push y x (z ∷ zs) (inl e) = inl (inl e)
  among_push y x (z ∷ zs) (inr h) = ⊎_elim (λ was. inl (inr was)) (λ e. inr e) (among_push y x zs h)

  pub once_push : (xs : List X) (x : X) → EachOnce xs → (Among x xs → ⊥) → EachOnce (xs ++ x ∷ [])
  once_push [] x once new = ((λ h. h), tt)
  once_push (y ∷ ys) x once new = (
    (λ h. ⊎_elim once.0 (λ e. new (inl (sym e))) (among_push y x ys h)),
    once_push ys x once.1 (λ h. new (inr h)),
  )

  pub among_there : (x : X) (xs : List X) → Among x xs → Contains xs x
  among_there x [] h = absurd h
  among_there x (y ∷ ys) (inl e) = (0, omega arith, sym e)
  among_there x (y ∷ ys) (inr h) = let k = among_there x ys h in (suc k.0, omega (arith, k.1), k.2)

pub no_spans : (g : Grammar) (keys : List Item) (spans : List Span) → keys ≡ [] → spans ≡ [] → AreSpans g keys spans
no_spans g keys spans no_keys none = record {
  only = λ s there. absurd (gone s there);
  every = λ i there ends. absurd (nothing_in keys i no_keys there);
  once = subst EachOnce (sym none) tt;
}
  where
    gone : (s : Span) → Contains spans s → ⊥
    gone s there = let h : Contains [] s = subst (λ l. Contains l s) none there in let low = h.1 in omega arith

-- one more item
pub spans_on : (g : Grammar) (keys : List Item) (n : ℕ) (item : Item) (old new : List Span) → EachOnce keys → slice_get keys n ≡ Some item →
    AreSpans g (take n keys) old → AddsSpan g item old new → AreSpans g (take (n + 1) keys) new
spans_on g keys n item old new distinct at spans adds = by adds
  where
    front : take n keys ++ item ∷ [] ≡ take (n + 1) keys
    front = front_more keys keys n item (extends_self keys) at

    grown : (i : Item) → Contains (take n keys) i → Contains (take (n + 1) keys) i
    grown i there = subst (λ l. Contains l i) front (Contains-append_left (take n keys) (item ∷ []) i there)

    here : Contains (take (n + 1) keys) item
    here = subst (λ l. Contains l item) front (Contains-push (take n keys) item)

    old_only : (s : Span) → Contains old s → (i : Item) × Contains (take (n + 1) keys) i × HasDotAtEnd (production_of g i.head) i.dot × (s ≡ span_of i)
    old_only s there = let o = spans.only s there in (o.0, grown o.0 o.1, o.2, o.3)

    not_there : HasDotAtEnd (production_of g item.head) item.dot → Among (span_of item) old → ⊥
    not_there ends among =
        let o = spans.only (span_of item) (among_there (span_of item) old among) in
        let same : o.0 ≡ item = sym (same_item g item o.0 ends o.2 o.3) in
        fresh keys n item distinct at (subst (Contains (take n keys)) same o.1)

    by : AddsSpan g item old new → AreSpans g (take (n + 1) keys) new
    by (inl (ends, e)) = subst (AreSpans g (take (n + 1) keys)) (sym e) (record {
      only = λ s there. ⊎_elim (λ was. old_only s was) (λ is. (item, here, ends, sym is)) (Contains-push_cases old (span_of item) s there);
      every = one_on keys n item (λ i. HasDotAtEnd (production_of g i.head) i.dot → Contains (old ++ span_of item ∷ []) (span_of i)) at
          (λ i there k. Contains-append_left old (span_of item ∷ []) (span_of i) (spans.every i there k)) (λ k. Contains-push old (span_of item));
      once = once_push old (span_of item) spans.once (not_there ends);
    })
    by (inr (not, e)) = subst (AreSpans g (take (n + 1) keys)) (sym e) (record {
      only = old_only;
      every = one_on keys n item (λ i. HasDotAtEnd (production_of g i.head) i.dot → Contains old (span_of i)) at (λ i there k. spans.every i there k) (λ k. absurd (not k));
      once = spans.once;
    })

-- the greater of two ends is an end
pub max_end : (keys : List Item) (item : Item) (most : ℕ) → Contains keys item → ((i : Item) × Contains keys i × (i.end ≡ most)) ⊎ (most ≡ 0) →
    ((i : Item) × Contains keys i × (i.end ≡ max most item.end)) ⊎ (max most item.end ≡ 0)
max_end keys item most there some = ⊎_elim (λ less. inl (item, there, omega arith)) (λ less. greater less some) (cases_lt most item.end)
  where
    greater : item.end ≤ most → ((i : Item) × Contains keys i × (i.end ≡ most)) ⊎ (most ≡ 0) → ((i : Item) × Contains keys i × (i.end ≡ max most item.end)) ⊎ (max most item.end ≡ 0)
    greater less (inl s) = inl (s.0, s.1, omega (arith, s.2))
    greater less (inr s) = inr (omega arith)

module _ (g : Grammar) (tokens : List Token) (start : ℕ) (keys : List Item) (all : AreItems g tokens start keys) where
  -- an item that is not idle is kept, if it holds
  kept_busy : (i : Item) → (IsIdle g tokens i → ⊥) → Holds g tokens start i → Contains keys i
  kept_busy i busy holds = ⊎_elim (λ kept. kept) (λ other. absurd (busy (all.idle i other))) ((all.all i).1 holds)

  -- the spans of the complete items are those that the items complete
  pub chart_is : (spans : List Span) → AreSpans g keys spans → IsChart g tokens start spans
  chart_is spans are = λ s. (
    (λ there.
        let o = are.only s there in
        let held : items.Span g tokens start o.0.head o.0.origin o.0.end = (o.0.dot, ends_there g (production_of g o.0.head) o.0.dot o.2, (all.all o.0).0 (inl o.1)) in
        subst (λ x. items.Span g tokens start (head_of x.of) x.from x.to) (sym o.3) (subst (λ h. items.Span g tokens start h o.0.origin o.0.end) (sym (head_again o.0.head)) held)),
    (λ span.
        let i : Item = record { head = head_of s.of; dot = span.0; origin = s.from; end = s.to } in
        let ends = ends_is g (head_of s.of) span.0 span.1 in
        let there = are.every i (kept_busy i (λ idle. idle_open g tokens i idle ends) span.2) ends in
        subst (Contains spans) (λ t. record { of = of_again s.of t; from = s.from; to = s.to }) there),
  )

  -- an item that holds ends at 0, or where a kept one ends
  end_of : {head : Head} {dot origin end : ℕ} → items.Item g tokens start head dot origin end → ((i : Item) × Contains keys i × (i.end ≡ end)) ⊎ (end ≡ 0)
  end_of (items.started makes) = inr refl
  end_of (items.predicted {head = head} {dot = dot} {origin = origin} {end = end} {sort = sort} {least = least} item next makes) =
      let i : Item = record { head = head; dot = dot; origin = origin; end = end } in
      inl (i, kept_busy i (λ idle. idle_waits g tokens i idle sort least (ap as_part (is_next g head dot (part sort least) next))) item, refl)
  end_of (items.scanned {head = head} {dot = dot} {origin = origin} {end = end} item next reads) =
      let i : Item = record { head = head; dot = suc dot; origin = origin; end = suc end } in
      inl (i, kept_busy i (λ idle. let none : suc dot ≡ 0 = idle.0 in omega arith) (items.scanned item next reads), refl)
  end_of (items.completed {head = head} {dot = dot} {origin = origin} {end = end} item next inner makes full) =
      let i : Item = record { head = head; dot = suc dot; origin = origin; end = end } in
      inl (i, kept_busy i (λ idle. let none : suc dot ≡ 0 = idle.0 in omega arith) (items.completed item next inner makes full), refl)

  -- the reach of the items is their greatest end
  pub reach_is : (end : ℕ) → IsReach keys end → IsGreatestEnd g tokens start end
  reach_is end h = record {
    some = ⊎_elim (λ s. inl (s.0, (all.all s.0).0 (inl s.1), s.2)) (λ at_0. by keys all.others (λ i. all.all i) bound at_0) h.1;
    bound = bound;
  }
    where
      bound : (i : Item) → Holds g tokens start i → i.end ≤ end
      bound i holds = ⊎_elim
          (λ kept. let low = h.0 kept.0 kept.1 in let same = kept.2 in omega arith)
          (λ at_0. omega arith)
          (end_of holds)

      by : (kept others : List Item) → ((i : Item) → (Contains kept i ⊎ Contains others i) ↔ Holds g tokens start i) → ((i : Item) → Holds g tokens start i → i.end ≤ end) → end ≡ 0 →
          ((i : Item) × Holds g tokens start i × (i.end ≡ end)) ⊎ (((i : Item) → Holds g tokens start i → ⊥) × (end ≡ 0))
      by [] [] which low at_0 = inr ((λ i holds. ⊎_elim (λ there. nothing_in [] i refl there) (λ there. nothing_in [] i refl there) ((which i).1 holds)), at_0)
      by [] (x ∷ xs) which low at_0 =
          let holds = (which x).0 (inr (there_at (x ∷ xs) 0 x refl)) in let less = low x holds in inl (x, holds, omega arith)
      by (x ∷ xs) others which low at_0 =
          let holds = (which x).0 (inl (there_at (x ∷ xs) 0 x refl)) in let less = low x holds in inl (x, holds, omega arith)
