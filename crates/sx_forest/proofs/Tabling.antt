use Rattle.std.proofs.Common.{◌≡◌, ℕ, zero, suc, ◌+◌, ◌-◌, ◌^◌, ◌<◌, ◌≤◌, List, [], ◌∷◌, ◌⊎◌, inl, inr, ⊎_elim, Some, refl, sym, subst, ap, ◌∙◌, length, Contains, get_or, arith, add-one}
use Rattle.std.specs.Global.{Vec}
use Rattle.std.specs.List.{slice_get}
use Rattle.std.proofs.lemmas.Bool.{cases_lt}
use Rattle.std.proofs.lemmas.Option.{slice_get_within, slice_get-get_or, same_Some, none-some}
use Rattle.sx_grammar.specs.Grammar.{Production, Grammar, Token, production_of, HasLevels}
use Rattle.sx_grammar.specs.Items.{Span}
use Rattle.sx_grammar.specs.Order.{IsRanking, ComesBefore}
use Rattle.sx_grammar.specs.Tally.{Tally}
use Rattle.sx_earley.specs.declared.span.Span as plain
use Rattle.sx_earley.specs.Completed.{head_of, of_head}
use Rattle.sx_earley.specs.declared.span.SpanOf.{SpanOf}
use Rattle.sx_earley.specs.declared.span.SpanOf.TheVariants.{Node, Bracket}
use Rattle.sx_grammar.specs.declared.head.Head.{Head}
use Rattle.sx_grammar.specs.declared.head.Head.TheVariants.{Labelled, Bracketed}
use Rattle.sx_forest.specs.declared.ways.Ways.{Ways}
use Rattle.sx_forest.specs.declared.ordered.Ordered.{Ordered}
use Rattle.sx_forest.specs.declared.entry.Maker.{Maker}
use Rattle.sx_forest.specs.declared.entry.Maker.TheVariants.{Variable, By}
use Rattle.sx_forest.specs.declared.entry.Entry.{Entry}
use Rattle.sx_forest.specs.Tallies.{tally_of}
use Rattle.sx_forest.specs.Rows.{entries_at, AllLater}
use Rattle.sx_forest.specs.Useful.{AreUseful, KeepsHead}
use Rattle.sx_forest.specs.Table.{CountsReadings, IsForestTable, HasEntry, HasBefore, IsEntryPut}
use Rattle.sx_forest.specs.Table.{IsEntryAdded, IsFirstTable, IsFull}
use Rattle.sx_forest.specs.Ordering.{IsSoFar, AreOrdered, sort_in}
use Rattle.sx_forest.proofs.Using.{kid_kept, useful_kept}
use Rattle.sx_forest.proofs.Putting.{still_has, now_has, got_either}
use Rattle.sx_forest.proofs.Rows.{span_forward}
use Rattle.sx_forest.proofs.Spans.{span_sound}

module _ (g : Grammar) (tokens : List Token) (start : ℕ) where
  later_by : (m : Maker) (place to : ℕ) (t : Tally) → CountsReadings g tokens start m place to t → place ≤ to
  later_by (Variable s) place to t h = omega (arith, h.1)
  later_by (By head) place to t h = span_forward g tokens start head place to h.0

  pub all_later : (lists : List (Vec Entry)) → IsForestTable g tokens start lists → AllLater lists
  all_later lists table = λ place i e at. later_by e.maker place e.to (tally_of e.ways) (table.sound place i e at)

  module _ (old new : List (Vec Entry)) (place : ℕ) (e : Entry) (put : IsEntryPut old new place e) where
    -- a table with one more entry, which ends no earlier than those by heads that begin there
    pub table_on : IsForestTable g tokens start old → (HasEntry old place e.maker e.to → ⊥) → CountsReadings g tokens start e.maker place e.to (tally_of e.ways) →
        ((head : Head) × (e.maker ≡ By head)) → ((i : ℕ) (x : Entry) (head : Head) → slice_get (entries_at old place) i ≡ Some x → x.maker ≡ By head → x.to ≤ e.to) → IsForestTable g tokens start new
    table_on table fresh sound by last = record {
      sound = λ p i x at. ⊎_elim (λ h. table.sound p i x h)
          (λ h. subst (λ y. CountsReadings g tokens start y.maker p y.to (tally_of y.ways)) h.2
          (subst (λ q. CountsReadings g tokens start e.maker q e.to (tally_of e.ways)) (sym h.0) sound)) (got_either old new place e put p i x at);
      once = λ p i j a b at bt makers ends. by_both p i j a b makers ends (got_either old new place e put p i a at) (got_either old new place e put p j b bt);
      variables = λ p sort marked. still_has old new place e put p (Variable sort) (suc p) (table.variables p sort marked);
      heads = λ p i x low at. ⊎_elim (λ h. table.heads p i x low h) (λ h. (by.0, ap (λ y. y.maker) (sym h.2) ∙ by.1)) (got_either old new place e put p i x at);
      sorted = λ p i j a b low up at bt. in_ends p i j a b low up (got_either old new place e put p i a at) (got_either old new place e put p j b bt);
    }
      where
        in_ends : (p i j : ℕ) (a b : Entry) → 0 < i → i ≤ j →
            (slice_get (entries_at old p) i ≡ Some a) ⊎ ((p ≡ place) × (i ≡ length (entries_at old place)) × (e ≡ a)) →
            (slice_get (entries_at old p) j ≡ Some b) ⊎ ((p ≡ place) × (j ≡ length (entries_at old place)) × (e ≡ b)) → a.to ≤ b.to
        in_ends p i j a b low up (inl h) (inl k) = table.sorted p i j a b low up h k
        in_ends p i j a b low up (inl h) (inr k) =
            let head = table.heads p i a low h in
            let end : a.to ≤ e.to = last i a head.0 (subst (λ q. slice_get (entries_at old q) i ≡ Some a) k.0 h) head.1 in
            subst (λ y. a.to ≤ y.to) k.2 end
        in_ends p i j a b low up (inr h) (inl k) =
            let within = slice_get_within (entries_at old p) j b k in
            let long : length (entries_at old p) ≡ length (entries_at old place) = ap (λ q. length (entries_at old q)) h.0 in
            absurd (omega (arith, h.1))
        in_ends p i j a b low up (inr h) (inr k) = let same : a ≡ b = sym h.2 ∙ k.2 in subst (λ y. a.to ≤ y.to) same (omega arith)

        by_both : (p i j : ℕ) (a b : Entry) → a.maker ≡ b.maker → a.to ≡ b.to →
            (slice_get (entries_at old p) i ≡ Some a) ⊎ ((p ≡ place) × (i ≡ length (entries_at old place)) × (e ≡ a)) →
            (slice_get (entries_at old p) j ≡ Some b) ⊎ ((p ≡ place) × (j ≡ length (entries_at old place)) × (e ≡ b)) → i ≡ j
        by_both p i j a b makers ends (inl h) (inl k) = table.once p i j a b h k makers ends
        by_both p i j a b makers ends (inl h) (inr k) =
            absurd (fresh (i, a, subst (λ q. slice_get (entries_at old q) i ≡ Some a) k.0 h, makers ∙ ap (λ x. x.maker) (sym k.2), ends ∙ ap (λ x. x.to) (sym k.2)))
        by_both p i j a b makers ends (inr h) (inl k) =
            absurd (fresh (j, b, subst (λ q. slice_get (entries_at old q) j ≡ Some b) h.0 k, sym makers ∙ ap (λ x. x.maker) (sym h.2), sym ends ∙ ap (λ x. x.to) (sym h.2)))
        by_both p i j a b makers ends (inr h) (inr k) = h.1 ∙ sym k.1

  list_there : (lists : List (Vec Entry)) (p i : ℕ) (x : Entry) → slice_get (entries_at lists p) i ≡ Some x → p < length lists
  list_there lists p i x at = by_place (cases_lt p (length lists))
    where
      none_at : (ls : List (Vec Entry)) (q : ℕ) → length ls ≤ q → entries_at ls q ≡ []
      none_at [] q long = refl
      none_at (l ∷ ls) zero long = absurd (omega arith)
      none_at (l ∷ ls) (suc q) long = none_at ls q (omega arith)

      by_place : (p < length lists) ⊎ (length lists ≤ p) → p < length lists
      by_place (inl low) = low
      by_place (inr high) = absurd (none-some x (subst (λ l. slice_get l i ≡ Some x) (none_at lists p high) at))

  -- before any span is counted there are the metavariables
  pub first_is_table : (lists : List (Vec Entry)) → IsFirstTable tokens (length tokens + 1) lists → IsForestTable g tokens start lists
  first_is_table lists first = record {
    sound = λ p i x at.
        let o = (first.each p (list_there lists p i x at)).only i x at in
        subst (λ y. CountsReadings g tokens start y.maker p y.to (tally_of y.ways)) (sym o.3) (o.2, add-one p, refl);
    once = λ p i j a b at bt makers ends.
        let o = (first.each p (list_there lists p i a at)).only i a at in let q = (first.each p (list_there lists p j b bt)).only j b bt in o.0 ∙ sym q.0;
    variables = λ p sort marked.
        let within = slice_get_within tokens p _ marked.1 in
        let h = (first.each p (omega (arith, first.long))).every sort marked in (h.0, h.1, h.2, h.3, h.4 ∙ add-one p);
    heads = λ p i x low at. let o = (first.each p (list_there lists p i x at)).only i x at in absurd (omega (arith, o.0));
    sorted = λ p i j a b low up at bt. let o = (first.each p (list_there lists p i a at)).only i a at in absurd (omega (arith, o.0));
  }

there_at : {X : Type 0} (xs : List X) (n : ℕ) (x : X) → slice_get xs n ≡ Some x → Contains xs x
there_at xs n x at =
    let low = slice_get_within xs n x at in
    (n, low, same_Some (get_or xs n x) x (sym (slice_get-get_or xs n x low) ∙ at))

index_of : {X : Type 0} (xs : List X) (x : X) → Contains xs x → (i : ℕ) × (i < length xs) × (slice_get xs i ≡ Some x)
index_of xs x there = (there.0, there.1, slice_get-get_or xs there.0 x there.1 ∙ ap Some there.2)

abbrev pub no_ordered : Ordered
no_ordered = record { width = 0; rank = 0; span = record { of = Node 0; from = 0; to = 0 } }

-- what is of use goes forward
pub useful_forward : (g : Grammar) (tokens : List Token) (start : ℕ) (spans : List plain.Span) → AreUseful g tokens start spans → (s : plain.Span) → Contains spans s → s.from ≤ s.to
useful_forward g tokens start spans useful s there = span_forward g tokens start (head_of s.of) s.from s.to ((useful.are s).0 there).0

-- a head is the head of its span
pub head_back : (head : Head) → head_of (of_head head) ≡ head
head_back (Labelled label) = refl
head_back (Bracketed sort) = refl

of_back : (of : SpanOf) → of_head (head_of of) ≡ of
of_back (Node label) = refl
of_back (Bracket sort) = refl

-- spans with the same head and the same places are the same
same_span : (a b : plain.Span) → head_of a.of ≡ head_of b.of → a.from ≡ b.from → a.to ≡ b.to → a ≡ b
same_span a b heads froms tos =
    let of : a.of ≡ b.of = sym (of_back a.of) ∙ (ap of_head heads ∙ of_back b.of) in
    λ t. record { of = of t; from = froms t; to = tos t }

module _ (g : Grammar) (tokens : List Token) (start : ℕ) (rank : ℕ → ℕ) (spans : List plain.Span) (useful : AreUseful g tokens start spans)
    (list : List Ordered) (ordered : AreOrdered g rank spans list) where
  -- each of the list is a complete span
  pub span_at : (n : ℕ) (o : Ordered) → slice_get list n ≡ Some o → Span g tokens start (head_of o.span.of) o.span.from o.span.to
  span_at n o at = ((useful.are o.span).0 (ordered.only o (there_at list n o at)).0).0

  kept_at : (n : ℕ) (o : Ordered) → slice_get list n ≡ Some o → KeepsHead g useful.levels (head_of o.span.of) o.span.to
  kept_at n o at = ((useful.are o.span).0 (ordered.only o (there_at list n o at)).0).1

  -- a span that is kept is listed
  listed : (head : Head) (from to : ℕ) → Span g tokens start head from to → KeepsHead g useful.levels head to →
      (i : ℕ) × (o : Ordered) × (slice_get list i ≡ Some o) × (head_of o.span.of ≡ head) × (o.span.from ≡ from) × (o.span.to ≡ to)
  listed head from to span kept =
      let s : plain.Span = record { of = of_head head; from = from; to = to } in
      let e = ordered.every s ((useful.are s).1 (subst (λ h. Span g tokens start h from to × KeepsHead g useful.levels h to) (sym (head_back head)) (span, kept))) in
      let i = index_of list e.0 e.1 in
      (i.0, e.0, i.2, ap (λ x. head_of x.of) e.2 ∙ head_back head, ap (λ x. x.from) e.2, ap (λ x. x.to) e.2)

  -- a span that ends no later and comes before stands before
  earlier : (n i : ℕ) (o o' : Ordered) (p q : Production) → slice_get list n ≡ Some o → slice_get list i ≡ Some o' →
      production_of g (head_of o.span.of) ≡ Some p → production_of g (head_of o'.span.of) ≡ Some q →
      o'.span.to ≤ o.span.to → ComesBefore (o'.span.to - o'.span.from) (rank q.sort) (o.span.to - o.span.from) (rank p.sort) → i < n
  earlier n i o o' p q at at' is is' end before =
      let w = (ordered.only o (there_at list n o at)).1 in
      let w' = (ordered.only o' (there_at list i o' at')).1 in
      let r : o.rank ≡ rank p.sort = w.1 ∙ ap (λ x. rank (sort_in x)) is in
      let r' : o'.rank ≡ rank q.sort = w'.1 ∙ ap (λ x. rank (sort_in x)) is' in
      let before' : ComesBefore o'.width o'.rank o.width o.rank = rw (w.0, w'.0, r, r') before in
      ordered.sorted i n o' o at' at (⊎_elim (λ low. inl low) (λ high. inr ((let e : o'.span.to ≡ o.span.to = omega arith in e), before')) (cases_lt o'.span.to o.span.to))

  -- the spans before a place are those that come before its span
  before_has : (lists : List (Vec Entry)) (n : ℕ) (o : Ordered) (p : Production) → slice_get list n ≡ Some o → production_of g (head_of o.span.of) ≡ Some p →
      IsSoFar g tokens start list n lists → HasBefore g tokens start rank lists (head_of o.span.of) o.span.from o.span.to (rank p.sort)
  before_has lists n o p at is so = λ head q place to is' span after within before part_of.
      let l = listed head place to span (kid_kept g tokens useful.levels useful.met (head_of o.span.of) head o.span.to to (kept_at n o at) part_of) in
      let is'' : production_of g (head_of l.1.span.of) ≡ Some q = ap (production_of g) l.3 ∙ is' in
      let before' : ComesBefore (l.1.span.to - l.1.span.from) (rank q.sort) (o.span.to - o.span.from) (rank p.sort) = rw (l.4, l.5) before in
      let end : l.1.span.to ≤ o.span.to = omega (arith, l.5) in
      let index : l.0 < n = earlier n l.0 o l.1 p q at l.2 is is'' end before' in
      let h = so.has l.0 l.1 index l.2 in
      subst (λ x. HasEntry lists place (By x) to) l.3 (subst (λ x. HasEntry lists place (By (head_of l.1.span.of)) x) l.5
      (subst (λ x. HasEntry lists x (By (head_of l.1.span.of)) l.1.span.to) l.4 h))

  has_on : (lists : List (Vec Entry)) (n : ℕ) (o : Ordered) → slice_get list n ≡ Some o → HasEntry lists o.span.from (By (head_of o.span.of)) o.span.to →
      ((q : ℕ) (o' : Ordered) → q < n → slice_get list q ≡ Some o' → HasEntry lists o'.span.from (By (head_of o'.span.of)) o'.span.to) →
      (q : ℕ) (o' : Ordered) → q < n + 1 → slice_get list q ≡ Some o' → HasEntry lists o'.span.from (By (head_of o'.span.of)) o'.span.to
  has_on lists n o at here before q o' low at' = by_order (cases_lt q n)
    where
      by_order : (q < n) ⊎ (n ≤ q) → HasEntry lists o'.span.from (By (head_of o'.span.of)) o'.span.to
      by_order (inl h) = before q o' h at'
      by_order (inr h) =
          let same : q ≡ n = omega arith in
          let there : slice_get list n ≡ Some o' = subst (λ m. slice_get list m ≡ Some o') same at' in
          let is : o ≡ o' = same_Some o o' (sym at ∙ there) in
          subst (λ x. HasEntry lists x.span.from (By (head_of x.span.of)) x.span.to) is here

  -- there is no entry of a span that stands later
  fresh : (lists : List (Vec Entry)) (n : ℕ) (o : Ordered) → slice_get list n ≡ Some o → IsSoFar g tokens start list n lists →
      HasEntry lists o.span.from (By (head_of o.span.of)) o.span.to → ⊥
  fresh lists n o at so h =
      let u = so.only o.span.from h.0 h.1 (head_of o.span.of) h.2 h.3 in
      let same : u.1.span ≡ o.span = same_span u.1.span o.span u.4 u.5 (u.6 ∙ h.4) in
      let index = ordered.once u.0 n u.1 o u.3 at same in
      omega (arith, u.2)

  -- an entry by a head is of one of the spans so far, with one more
  only_on : (old new : List (Vec Entry)) (n : ℕ) (o : Ordered) (ways : Ways) → slice_get list n ≡ Some o → IsSoFar g tokens start list n old →
      IsEntryPut old new o.span.from (record { maker = By (head_of o.span.of); to = o.span.to; ways = ways }) →
      (place i : ℕ) (e : Entry) (head : Head) → slice_get (entries_at new place) i ≡ Some e → e.maker ≡ By head →
      (q : ℕ) × (u : Ordered) × (q < n + 1) × (slice_get list q ≡ Some u) × (head_of u.span.of ≡ head) × (u.span.from ≡ place) × (u.span.to ≡ e.to)
  only_on old new n o ways at so put place i e head got by =
      ⊎_elim
      (λ h. let u = so.only place i e head h by in (u.0, u.1, omega (arith, u.2), u.3, u.4, u.5, u.6))
      (λ h.
      let maker : By (head_of o.span.of) ≡ By head = ap (λ x. x.maker) h.2 ∙ by in
      (n, o, omega arith, at, by_head (head_of o.span.of) head maker, sym h.0, ap (λ x. x.to) h.2))
      (got_either old new o.span.from (record { maker = By (head_of o.span.of); to = o.span.to; ways = ways }) put place i e got)
    where
      by_head : (a b : Head) → By a ≡ By b → a ≡ b
      by_head a b e = cc

  -- an entry of a span so far ends no later than a span that stands after it
  ends_on : (lists : List (Vec Entry)) (n : ℕ) (o : Ordered) → slice_get list n ≡ Some o → IsSoFar g tokens start list n lists →
      (i : ℕ) (x : Entry) (head : Head) → slice_get (entries_at lists o.span.from) i ≡ Some x → x.maker ≡ By head → x.to ≤ o.span.to
  ends_on lists n o at so i x head got by =
      let u = so.only o.span.from i x head got by in
      ⊎_elim (λ low. absurd (let back : n < u.0 = ordered.sorted n u.0 o u.1 at u.3 (inl low) in omega (arith, u.2))) (λ high. omega (arith, u.6)) (cases_lt o.span.to u.1.span.to)

  -- one more span has its entry
  pub so_far_on : (old new : List (Vec Entry)) (n : ℕ) (o : Ordered) → HasLevels g → IsRanking g rank → length g.productions < 2 ^ 32 → length tokens ≤ 10000 →
      slice_get list n ≡ Some o → IsSoFar g tokens start list n old → IsEntryAdded g tokens old new o.span → IsSoFar g tokens start list (n + 1) new
  so_far_on old new n o levels ranking many short at so added =
      let s = o.span in
      let span = span_at n o at in
      let ways = added.ways in
      let e : Entry = record { maker = By (head_of s.of); to = s.to; ways = ways } in
      let p = span.1.0 in let is = span.1.1 in
      let along = span_forward g tokens start (head_of s.of) s.from s.to span in
      let sound = span_sound g tokens start levels rank ranking old so.table (head_of s.of) p is s.from s.to along (before_has old n o p at is so) span many short (tally_of ways) added.counted in
      record {
        table = table_on g tokens start old new s.from e added.put so.table (fresh old n o at so) sound (head_of s.of, refl) (ends_on old n o at so);
        long = added.put.same ∙ so.long;
        has = has_on new n o at (now_has old new s.from e added.put)
            (λ q o' low at'. still_has old new s.from e added.put o'.span.from (By (head_of o'.span.of)) o'.span.to (so.has q o' low at'));
        only = only_on old new n o ways at so added.put;
      }

  pub full_is : (lists : List (Vec Entry)) (n : ℕ) → n ≡ length list → IsSoFar g tokens start list n lists → IsFull g tokens start lists
  full_is lists n end so = record {
    table = so.table;
    has = λ head from to span of_use.
        let l = listed head from to span (useful_kept g tokens useful.levels useful.met useful.short head to of_use span.1.0 span.1.1) in
        let within = slice_get_within list l.0 l.1 l.2 in
        let h = so.has l.0 l.1 (omega arith) l.2 in
        subst (λ x. HasEntry lists from (By x) to) l.3 (subst (λ x. HasEntry lists from (By (head_of l.1.span.of)) x) l.5
        (subst (λ x. HasEntry lists x (By (head_of l.1.span.of)) l.1.span.to) l.4 h));
  }

  no_head_first : (lists : List (Vec Entry)) → IsFirstTable tokens (length tokens + 1) lists → (place i : ℕ) (e : Entry) (head : Head) →
      slice_get (entries_at lists place) i ≡ Some e → e.maker ≡ By head → ⊥
  no_head_first lists first place i e head at by =
      let o = (first.each place (list_there g tokens start lists place i e at)).only i e at in
      differ o.1 head (sym (ap (λ x. x.maker) o.3) ∙ by)
    where
      differ : (sort : ℕ) (head : Head) → Variable sort ≡ By head → ⊥
      differ sort head e = absurd cc

  pub so_far_first : (lists : List (Vec Entry)) → IsFirstTable tokens (length tokens + 1) lists → IsSoFar g tokens start list 0 lists
  so_far_first lists first = record {
    table = first_is_table g tokens start lists first;
    long = first.long;
    has = λ q o none at. absurd (omega arith);
    only = λ place i e head at by. absurd (no_head_first lists first place i e head at by);
  }
