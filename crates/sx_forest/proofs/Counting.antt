use Rattle.std.proofs.Common.{◌≡◌, ℕ, suc, ◌<◌, ◌≤◌, List, ◌∷◌, ◌⊎◌, inl, inr, Some, refl, sym, subst, ap, ◌∙◌, length, arith}
use Rattle.std.specs.List.{slice_get}
use Rattle.std.proofs.lemmas.Bool.{cases_lt}
use Rattle.std.proofs.lemmas.Option.{slice_get_within, same_Some}
use Rattle.sx_grammar.specs.Grammar.{Symbol, part, Grammar, Token, production_of, is_variable, of_sort}
use Rattle.sx_grammar.specs.declared.head.Head.{Head}
use Rattle.sx_grammar.specs.declared.head.Head.TheVariants.{Labelled, Bracketed}
use Rattle.sx_grammar.specs.Reading.{Marked, Reading, Readings, leaf, variable, done, ◌▸◌, Reads, by_variable, ReadsAll, by_part, reading_depth, readings_depth, ReadsBy}
use Rattle.sx_grammar.specs.Items.{Makes}
use Rattle.sx_grammar.specs.Tally.{Tally, plus, IsTally, Joined, ReadsAt, IsVariableAt}
use Rattle.sx_grammar.proofs.Tallies.{tally_same, plus_is, times_is, Either}
use Rattle.sx_grammar.proofs.Deciding.{ends, raised, one_head, part_read}
use Rattle.sx_earley.specs.Chart.{IsOfSort}
use Rattle.sx_earley.proofs.Predicting.{there_is}
use Rattle.sx_forest.specs.declared.entry.Maker.{Maker}
use Rattle.sx_forest.specs.declared.entry.Maker.TheVariants.{Variable, By}
use Rattle.sx_forest.specs.declared.entry.Entry.{Entry}
use Rattle.sx_forest.specs.Tallies.{tally_of}
use Rattle.sx_forest.specs.Rows.{FitsPart, IsEntryTally, SumTo, sum_none, sum_more}
use Rattle.sx_forest.specs.Table.{CountsReadings}

abbrev first_kid : Readings → Reading
first_kid done = leaf 0
first_kid (kid ▸ kids) = kid

pub makes_is : (g : Grammar) (head : Head) (sort least : ℕ) → IsOfSort (production_of g head) sort least → Makes g head sort least
makes_is g head sort least h = let p = there_is (production_of g head) sort least h in record { production = p.0; is = p.1; same_sort = p.2; reaches = p.3 }

pub of_sort_is : (g : Grammar) (head : Head) (sort least : ℕ) → Makes g head sort least → IsOfSort (production_of g head) sort least
of_sort_is g head sort least m = subst (λ o. IsOfSort o sort least) (sym m.is) (m.same_sort, m.reaches)

pub makes_low : (g : Grammar) (head : Head) (sort least : ℕ) → Makes g head sort least → Makes g head sort 0
makes_low g head sort least m = record { production = m.production; is = m.is; same_sort = m.same_sort; reaches = omega arith }

module _ (g : Grammar) (tokens : List Token) where
  -- the kid is read by the maker
  abbrev pub KidOf : Maker → (sort least place to : ℕ) → Reading → Type 0
  KidOf (Variable other) sort least place to r = (other ≡ sort) × IsVariableAt tokens sort place to r
  KidOf (By head) sort least place to r = ReadsAt g tokens sort least place to head r

  pub kid_reads : (m : Maker) (sort least place to : ℕ) (r : Reading) → KidOf m sort least place to r → Reads g tokens sort least place to r
  kid_reads (Variable other) sort least place to r k = rw (k.1.2, k.1.1) (by_variable k.1.0)
  kid_reads (By head) sort least place to r k = raised g tokens sort least place to head r k

  pub kid_fits : (m : Maker) (sort least place to : ℕ) (r : Reading) → KidOf m sort least place to r → FitsPart g m sort least
  kid_fits (Variable other) sort least place to r k = k.0
  kid_fits (By head) sort least place to r k = of_sort_is g head sort least k.0

  no_head : (sort least place to n : ℕ) (head : Head) → ReadsAt g tokens sort least place to head (variable n) → ⊥
  no_head sort least place to n (Labelled label) k = let e = k.1.0.1 in cc
  no_head sort least place to n (Bracketed s) k = let e = k.1.0.1 in cc

  -- a kid is of one maker, and has one end
  pub one_kid : (m m' : Maker) (sort least place to to' : ℕ) (r : Reading) → KidOf m sort least place to r → KidOf m' sort least place to' r → (m ≡ m') × (to ≡ to')
  one_kid (Variable a) (Variable b) sort least place to to' r k l = (ap Variable (k.0 ∙ sym l.0), k.1.1 ∙ sym l.1.1)
  one_kid (Variable a) (By h) sort least place to to' r k l =
      absurd (no_head sort least place to' place h (subst (λ x. ReadsAt g tokens sort least place to' h x) k.1.2 l))
  one_kid (By h) (Variable b) sort least place to to' r k l =
      absurd (no_head sort least place to place h (subst (λ x. ReadsAt g tokens sort least place to h x) l.1.2 k))
  one_kid (By h) (By i) sort least place to to' r k l =
      let same : to ≡ to' = sym (ends g tokens k.1.1) ∙ ends g tokens l.1.1 in
      (ap By (one_head g tokens sort least place to' h i r (subst (λ x. ReadsAt g tokens sort least place x h r) same k) l), same)

  pub kid_tally : (start : ℕ) (m : Maker) (sort least place to : ℕ) (t : Tally) → CountsReadings g tokens start m place to t → FitsPart g m sort least →
      IsTally (KidOf m sort least place to) reading_depth t
  kid_tally start (Variable other) sort least place to t s fits =
      let marked : Marked tokens place (is_variable (of_sort sort)) = subst (λ x. Marked tokens place (is_variable (of_sort x))) fits s.0 in
      rw s.2 (variable place, (fits, (marked, s.1, refl)), refl, λ r k. k.1.2)
  kid_tally start (By head) sort least place to t s fits =
      let makes = makes_is g head sort least fits in
      tally_same (ReadsBy g tokens head sort place to) (ReadsAt g tokens sort least place to head) reading_depth t
      (λ r k. (makes, k)) (λ r k. k.1) (s.1 sort (makes_low g head sort least makes))

module _ (g : Grammar) (tokens : List Token) (start sort least place to : ℕ) (rest : List Symbol) (next : ℕ → Tally) (entries : List Entry) where
  -- the first of the readings is by the entry
  abbrev pub Via : Entry → Readings → Type 0
  Via e = Joined (KidOf g tokens e.maker sort least place e.to) (ReadsAll g tokens rest e.to to) ◌▸◌

  entry_tally : (e : Entry) (t : Tally) → CountsReadings g tokens start e.maker place e.to (tally_of e.ways) →
      (FitsPart g e.maker sort least → IsTally (ReadsAll g tokens rest e.to to) readings_depth (next e.to)) →
      IsEntryTally g sort least next e t → IsTally (Via e) readings_depth t
  entry_tally e t sound right (inl h) =
      rw h.1
      (times_is (KidOf g tokens e.maker sort least place e.to) (ReadsAll g tokens rest e.to to) reading_depth readings_depth readings_depth ◌▸◌
      (λ a a' b b' e. cc) (λ a a' b b' e. cc) (λ a b. refl) (tally_of e.ways) (next e.to)
      (kid_tally g tokens start e.maker sort least place e.to (tally_of e.ways) sound h.0) (right h.0))
  entry_tally e t sound right (inr h) = rw h.1 (λ ks via. h.0 (kid_fits g tokens e.maker sort least place e.to via.0 via.2))

  -- the first of the readings is by one of the first n entries
  abbrev pub ViaFirst : ℕ → Readings → Type 0
  ViaFirst n ks = (i : ℕ) × (e : Entry) × (i < n) × (slice_get entries i ≡ Some e) × Via e ks

  module _ (sound : (i : ℕ) (e : Entry) → slice_get entries i ≡ Some e → CountsReadings g tokens start e.maker place e.to (tally_of e.ways))
      (once : (i j : ℕ) (a b : Entry) → slice_get entries i ≡ Some a → slice_get entries j ≡ Some b → a.maker ≡ b.maker → a.to ≡ b.to → i ≡ j)
      (right : (i : ℕ) (e : Entry) → slice_get entries i ≡ Some e → FitsPart g e.maker sort least → IsTally (ReadsAll g tokens rest e.to to) readings_depth (next e.to)) where
    apart_first : (n : ℕ) (e : Entry) → slice_get entries n ≡ Some e → (ks : Readings) → ViaFirst n ks → Via e ks → ⊥
    apart_first n e at ks first via =
        let same : first.4.0 ≡ via.0 = ap first_kid (sym first.4.4 ∙ via.4) in
        let both = one_kid g tokens first.1.maker e.maker sort least place first.1.to e.to via.0
        (subst (KidOf g tokens first.1.maker sort least place first.1.to) same first.4.2) via.2 in
        let index = once first.0 n first.1 e first.3 at both.0 both.1 in
        omega (arith, first.2)

    first_cases : (n : ℕ) (e : Entry) → slice_get entries n ≡ Some e → (ks : Readings) → ViaFirst (suc n) ks → Either (ViaFirst n) (Via e) ks
    first_cases n e at ks first = by_place (cases_lt first.0 n)
      where
        by_place : (first.0 < n) ⊎ (n ≤ first.0) → Either (ViaFirst n) (Via e) ks
        by_place (inl low) = inl (first.0, first.1, low, first.3, first.4)
        by_place (inr high) =
            let same : first.0 ≡ n = omega (arith, first.2) in
            let entry : first.1 ≡ e = let there : slice_get entries n ≡ Some first.1 = subst (λ k. slice_get entries k ≡ Some first.1) same first.3 in same_Some first.1 e (sym there ∙ at) in
            inr (subst (λ x. Via x ks) entry first.4)

    more_first : (n : ℕ) (e : Entry) → slice_get entries n ≡ Some e → (ks : Readings) → Either (ViaFirst n) (Via e) ks → ViaFirst (suc n) ks
    more_first n e at ks (inl first) = (first.0, first.1, omega (arith, first.2), first.3, first.4)
    more_first n e at ks (inr via) = (n, e, omega arith, at, via)

    sum_tally : {n : ℕ} {t : Tally} → SumTo g sort least next entries n t → IsTally (ViaFirst n) readings_depth t
    sum_tally sum_none = λ ks first. let low = first.2 in absurd (omega arith)
    sum_tally (sum_more {n = n} {t = t} {u = u} e sum at one) =
        tally_same (Either (ViaFirst n) (Via e)) (ViaFirst (suc n)) readings_depth (plus t u) (more_first n e at) (first_cases n e at)
        (plus_is (ViaFirst n) (Via e) readings_depth (apart_first n e at) t u (sum_tally sum) (entry_tally e u (sound n e at) (right n e at) one))

    -- the readings of a part and the symbols after it, where each kid has an entry
    pub part_counted : (t : Tally) → SumTo g sort least next entries (length entries) t →
        ((middle : ℕ) (kid : Reading) (ks : Readings) → Reads g tokens sort least place middle kid → ReadsAll g tokens rest middle to ks →
        (i : ℕ) × (e : Entry) × (slice_get entries i ≡ Some e) × KidOf g tokens e.maker sort least place middle kid × (e.to ≡ middle)) →
        IsTally (ReadsAll g tokens (part sort least ∷ rest) place to) readings_depth t
    part_counted t sum covered =
        tally_same (ViaFirst (length entries)) (ReadsAll g tokens (part sort least ∷ rest) place to) readings_depth t
        (λ ks first. via_reads first.1 ks first.4)
        (λ ks all. let v = part_read g tokens all in let c = covered v.0 v.1.0 v.1.1 v.1.2 v.1.3 in (
          c.0,
          c.1,
          slice_get_within entries c.0 c.1 c.2,
          c.2,
          (v.1.0, v.1.1, subst (λ x. KidOf g tokens c.1.maker sort least place x v.1.0) (sym c.4) c.3, subst (λ x. ReadsAll g tokens rest x to v.1.1) (sym c.4) v.1.3, v.1.4),
        ))
        (sum_tally sum)
      where
        via_reads : (e : Entry) (ks : Readings) → Via e ks → ReadsAll g tokens (part sort least ∷ rest) place to ks
        via_reads e ks via = rw via.4 (by_part (kid_reads g tokens e.maker sort least place e.to via.0 via.2) via.3)
