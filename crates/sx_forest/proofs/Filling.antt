use Rattle.std.proofs.Common.{◌≡◌, ◌↔◌, ℕ, zero, suc, ◌+◌, ◌-◌, ◌<◌, ◌≤◌, List, [], ◌∷◌, ◌++◌, ◌⊎◌, inl, inr, ⊎_elim, Option, Some, None, refl, sym, subst, ap, ◌∙◌, length, take, map, get_or, Contains, arith}
use Rattle.std.specs.Global.{Vec}
use Rattle.std.specs.List.{slice_get}
use Rattle.std.proofs.lemmas.Bool.{cases_lt}
use Rattle.std.proofs.lemmas.Option.{same_Some, none-some, slice_get_within}
use Rattle.sx_grammar.specs.Grammar.{Grammar, Token, is_variable, of_sort}
use Rattle.sx_grammar.specs.declared.head.Head.{Head}
use Rattle.sx_grammar.specs.Reading.{Marked}
use Rattle.sx_earley.specs.Chart.{next_symbol}
use Rattle.sx_forest.specs.declared.row.Row.{Row}
use Rattle.sx_forest.specs.declared.stretch.Stretch.{Stretch}
use Rattle.sx_forest.specs.Tallies.{ways_of}
use Rattle.sx_forest.specs.declared.ways.Ways.TheVariants.{One}
use Rattle.sx_forest.specs.declared.entry.Maker.TheVariants.{Variable}
use Rattle.sx_forest.specs.declared.entry.Entry.{Entry}
use Rattle.std.proofs.lemmas.List.{take_more, map-append}
use Rattle.std.proofs.lemmas.List.Elements.{Contains-push_cases}
use Rattle.sx_earley.specs.declared.span.Span.{Span}
use Rattle.sx_earley.specs.declared.span.SpanOf.TheVariants.{Node}
use Rattle.sx_forest.specs.declared.ordered.Ordered.{Ordered}
use Rattle.sx_forest.specs.Rows.{IsStretchRow, AreRows, row_in, tally_at, entries_at, stretch_in}
use Rattle.sx_forest.specs.Rows.{stretch_at, Spreads, AreStretches}
use Rattle.sx_forest.specs.Table.{IsFirstList}
use Rattle.sx_forest.proofs.Pushing.{got_before, got_last, longer_pushed}

-- one more row
pub rows_on : (g : Grammar) (tokens : List Token) (lists : List (Vec Entry)) (head : Head) (count n to : ℕ) (stretches : List Stretch) (rows new : List Row) (r : Row) →
    AreRows g tokens lists head count n to stretches rows → new ≡ rows ++ r ∷ [] →
    IsStretchRow g tokens lists (next_symbol g head (count - n - 1)) to (stretch_at stretches (count - n - 1)) (tally_at rows n) (ways_of r) →
    AreRows g tokens lists head count (n + 1) to stretches new
rows_on g tokens lists head count n to stretches rows new r so e made = record {
  long = omega (arith, longer_pushed rows new r e, so.long);
  last = rw (old 0 (omega (arith, so.long))) so.last;
  each = λ k low. by_place k (cases_lt k n) low;
}
  where
    old : (k : ℕ) → k < length rows → tally_at new k ≡ tally_at rows k
    old k low = ap (λ l. tally_at l k) e ∙ ap row_in (got_before rows (r ∷ []) k low)

    newest : tally_at new (n + 1) ≡ ways_of r
    newest = ap (λ l. tally_at l (n + 1)) e ∙ (ap (λ k. tally_at (rows ++ r ∷ []) k) (sym so.long) ∙ ap row_in (got_last rows r))

    Made : ℕ → Type 0
    Made k = IsStretchRow g tokens lists (next_symbol g head (count - k - 1)) to (stretch_at stretches (count - k - 1)) (tally_at new k) (tally_at new (k + 1))

    by_place : (k : ℕ) → (k < n) ⊎ (n ≤ k) → k < n + 1 → Made k
    by_place k (inl h) low = rw (old k (omega (arith, so.long)), old (k + 1) (omega (arith, so.long))) (so.each k h)
    by_place k (inr h) low =
        let same : n ≡ k = omega arith in
        subst Made same (rw (old n (omega (arith, so.long)), newest) made)

-- one more stretch
pub stretches_on : (g : Grammar) (tokens : List Token) (lists : List (Vec Entry)) (head : Head) (n from to : ℕ) (stretches new : List Stretch) (r : Stretch) →
    length stretches ≡ suc n → AreStretches g tokens lists head (suc n) from to stretches → new ≡ stretches ++ r ∷ [] →
    Spreads g tokens lists (next_symbol g head n) to (stretch_at stretches n) r → AreStretches g tokens lists head (suc n + 1) from to new
stretches_on g tokens lists head n from to stretches new r long so e made = record {
  first = rw (old 0 (omega (arith, long))) so.first;
  each = λ dot low. by_place dot (cases_lt dot n) low;
}
  where
    old : (k : ℕ) → k < length stretches → stretch_at new k ≡ stretch_at stretches k
    old k low = ap (λ l. stretch_at l k) e ∙ ap stretch_in (got_before stretches (r ∷ []) k low)

    newest : stretch_at new (suc n) ≡ r
    newest = ap (λ l. stretch_at l (suc n)) e ∙ (ap (λ k. stretch_at (stretches ++ r ∷ []) k) (sym long) ∙ ap stretch_in (got_last stretches r))

    Made : ℕ → Type 0
    Made k = Spreads g tokens lists (next_symbol g head k) to (stretch_at new k) (stretch_at new (suc k))

    by_place : (k : ℕ) → (k < n) ⊎ (n ≤ k) → suc k < suc n + 1 → Made k
    by_place k (inl h) low = rw (old k (omega (arith, long)), old (suc k) (omega (arith, long))) (so.each k (omega arith))
    by_place k (inr h) low =
        let same : n ≡ k = omega arith in
        subst Made same (rw (old n (omega (arith, long)), newest) made)

nothing_there : {X : Type 0} (i : ℕ) (x : X) → slice_get [] i ≡ Some x → ⊥
nothing_there i x e = none-some x e

-- the list of a place with no metavariable
pub first_none : (tokens : List Token) (place : ℕ) (items : List Entry) (o : Option ℕ) → items ≡ [] → o ≡ None →
    ((sort : ℕ) → (o ≡ Some sort) ↔ Marked tokens place (is_variable (of_sort sort))) → IsFirstList tokens place items
first_none tokens place items o e none marks = rw e (record {
  only = λ i x at. absurd (nothing_there i x at);
  every = λ sort marked. absurd (none-some sort (sym none ∙ (marks sort).1 marked));
})

-- the entry of a metavariable
abbrev pub of_variable : ℕ → ℕ → Entry
of_variable s place = record { maker = Variable s; to = place + 1; ways = One 1 }

-- and of one with a metavariable
pub first_some : (tokens : List Token) (place s : ℕ) (xs items : List Entry) (o : Option ℕ) → xs ≡ [] →
    items ≡ xs ++ (of_variable s place) ∷ [] → o ≡ Some s →
    ((sort : ℕ) → (o ≡ Some sort) ↔ Marked tokens place (is_variable (of_sort sort))) → IsFirstList tokens place items
first_some tokens place s xs items o none e some marks =
    let alone : items ≡ of_variable s place ∷ [] = e ∙ ap (λ l. l ++ of_variable s place ∷ []) none in
    rw alone (record {
      only = only_one;
      every = λ sort marked. (0, of_variable s place, refl, ap Variable (same_Some s sort (sym some ∙ (marks sort).1 marked)), refl);
    })
  where
    only_one : (i : ℕ) (x : Entry) → slice_get (of_variable s place ∷ []) i ≡ Some x →
        (i ≡ 0) × (sort : ℕ) × Marked tokens place (is_variable (of_sort sort)) × (x ≡ record { maker = Variable sort; to = place + 1; ways = One 1 })
    only_one zero x at = (refl, s, (marks s).0 some, sym (same_Some (of_variable s place) x at))
    only_one (suc i) x at = absurd (nothing_there i x at)

-- past the tokens there is none
pub first_past : (tokens : List Token) (place : ℕ) (items : List Entry) → length tokens ≤ place → items ≡ [] → IsFirstList tokens place items
first_past tokens place items long e = rw e (record {
  only = λ i x at. absurd (nothing_there i x at);
  every = λ sort marked. let low = slice_get_within tokens place _ marked.1 in absurd (omega arith);
})

-- one more place
pub first_put : (tokens : List Token) (n : ℕ) (old new : List (Vec Entry)) → ((p : ℕ) → p < n → IsFirstList tokens p (entries_at old p)) → IsFirstList tokens n (entries_at new n) →
    ((p : ℕ) → (p ≡ n → ⊥) → entries_at new p ≡ entries_at old p) → (p : ℕ) → p < n + 1 → IsFirstList tokens p (entries_at new p)
first_put tokens n old new before here others p low = by_place (cases_lt p n)
  where
    by_place : (p < n) ⊎ (n ≤ p) → IsFirstList tokens p (entries_at new p)
    by_place (inl below) = subst (λ l. IsFirstList tokens p l) (sym (others p (λ e. omega arith))) (before p below)
    by_place (inr above) =
        let same : n ≡ p = omega arith in
        subst (λ q. IsFirstList tokens q (entries_at new q)) same here

abbrev pub no_span : Span
no_span = record { of = Node 0; from = 0; to = 0 }

-- what holds of the listed spans, with one more
pub only_on : (spans : List Span) (P : Ordered → Type 0) (list new : List Ordered) (x : Ordered) → new ≡ list ++ x ∷ [] →
    ((o : Ordered) → Contains list o → Contains spans o.span × P o) → Contains spans x.span → P x → (o : Ordered) → Contains new o → Contains spans o.span × P o
only_on spans P list new x e before there here o within =
    ⊎_elim (λ old. before o old) (λ same. subst (λ y. Contains spans y.span × P y) same (there, here))
    (Contains-push_cases list x o (subst (λ l. Contains l o) e within))

-- the spans that are listed are the first ones, as they stand
pub spans_on : (n : ℕ) (spans : List Span) (list new : List Ordered) (x : Ordered) → n < length spans → new ≡ list ++ x ∷ [] → x.span ≡ get_or spans n no_span →
    map (λ o. o.span) list ≡ take n spans → map (λ o. o.span) new ≡ take (n + 1) spans
spans_on n spans list new x low e is before =
    ap (map (λ o. o.span)) e ∙ (map-append (λ o. o.span) list (x ∷ []) ∙ (ap (λ l. l ++ x.span ∷ []) before ∙ (ap (λ s. take n spans ++ s ∷ []) is ∙ sym (take_more spans n no_span low))))
