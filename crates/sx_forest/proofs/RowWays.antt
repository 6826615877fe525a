-- The ways of a row from its places.
use Rattle.std.proofs.Common.{◌≡◌, ◌∙◌, ◌⊎◌, inl, inr, ℕ, zero, suc, ◌+◌, ◌-◌, ◌<◌, ◌≤◌, List, [], ◌∷◌, ◌++◌, refl, sym, ap, length, arith, None}
use Rattle.std.specs.List.{slice_get}
use Rattle.std.proofs.lemmas.Bool.{cases_lt}
use Rattle.sx_grammar.specs.Tally.{no_way}
use Rattle.sx_forest.specs.declared.row.Row.{Row}
use Rattle.sx_forest.specs.declared.ways.Ways.{Ways}
use Rattle.sx_forest.specs.declared.ways.Ways.TheVariants.{One, Nothing}
use Rattle.sx_forest.specs.Tallies.{ways_at, ways_of, tally_in, tally_of, IsLastRow}
use Rattle.sx_forest.proofs.Pushing.{got_before, got_last, one_longer}

none_past : {X : Type 0} (xs : List X) (k : ℕ) → length xs ≤ k → slice_get xs k ≡ None
none_past [] k long = refl
none_past (x ∷ xs) zero long = absurd (omega arith)
none_past (x ∷ xs) (suc k) long = none_past xs k (omega arith)

-- there are none from the end on
pub none_after : (r : Row) (place : ℕ) → r.end ≤ place → ways_of r place ≡ no_way
none_after r place past = let e : r.end - place ≡ 0 = omega arith in ap (λ k. ways_at (Nothing ∷ r.ways) k) e

-- and none before the first place
pub none_before : (r : Row) (place : ℕ) → place + length r.ways < r.end → ways_of r place ≡ no_way
none_before r place ahead = ap tally_in (none_past (Nothing ∷ r.ways) (r.end - place) (omega arith))

-- the ways at a place by its number from the end
pub way_there : (r : Row) (place : ℕ) → place < r.end → ways_of r place ≡ ways_at r.ways (r.end - 1 - place)
way_there r place low = let e : r.end - place ≡ suc (r.end - 1 - place) = omega arith in ap (λ k. ways_at (Nothing ∷ r.ways) k) e

-- one way at the end
pub last_is : (r : Row) (to : ℕ) → r.end ≡ to + 1 → r.ways ≡ One 0 ∷ [] → IsLastRow to (ways_of r)
last_is r to e alone = record {
  elsewhere = λ place other. by_order place other (cases_lt to place);
  end = way_there r to (omega arith) ∙ (ap (λ l. ways_at l (r.end - 1 - to)) alone ∙ (let n : r.end - 1 - to ≡ 0 = omega arith in ap (λ k. ways_at (One 0 ∷ []) k) n));
}
  where
    by_order : (place : ℕ) → (place ≡ to → ⊥) → (to < place) ⊎ (place ≤ to) → ways_of r place ≡ no_way
    by_order place other (inl past) = none_after r place (omega arith)
    by_order place other (inr low) =
        let one : length r.ways ≡ 1 = ap length alone in
        let before : place < to = strictly place other low (cases_lt place to) in
        none_before r place (omega arith)
      where
        strictly : (p : ℕ) → (p ≡ to → ⊥) → p ≤ to → (p < to) ⊎ (to ≤ p) → p < to
        strictly p differ low (inl less) = less
        strictly p differ low (inr high) = absurd (differ (omega arith))

-- one place more before the first
pub pushed_there : (old new : Row) (place : ℕ) (w : Ways) → old.end ≡ suc place + length old.ways → new.end ≡ old.end → new.ways ≡ old.ways ++ w ∷ [] →
    ways_of new place ≡ tally_of w
pushed_there old new place w first e more =
    let n : new.end - 1 - place ≡ length old.ways = omega arith in
    way_there new place (omega arith) ∙ (ap (λ k. ways_at new.ways k) n ∙ (ap (λ l. ways_at l (length old.ways)) more ∙ ap tally_in (got_last old.ways w)))

pub pushed_kept : (old new : Row) (place : ℕ) (w : Ways) → old.end ≡ suc place + length old.ways → new.end ≡ old.end → new.ways ≡ old.ways ++ w ∷ [] →
    (p : ℕ) → (p ≡ place → ⊥) → ways_of new p ≡ ways_of old p
pushed_kept old new place w first e more p other = by_order (cases_lt p old.end) (cases_lt place p)
  where
    long : length new.ways ≡ length old.ways + 1
    long = ap length more ∙ one_longer old.ways w

    by_order : (p < old.end) ⊎ (old.end ≤ p) → (place < p) ⊎ (p ≤ place) → ways_of new p ≡ ways_of old p
    by_order (inr past) h = none_after new p (omega arith) ∙ sym (none_after old p past)
    by_order (inl low) (inr before) =
        let less : p < place = by_same (cases_lt p place) in
        none_before new p (omega (arith, long)) ∙ sym (none_before old p (omega arith))
      where
        by_same : (p < place) ⊎ (place ≤ p) → p < place
        by_same (inl less) = less
        by_same (inr same) = absurd (other (omega arith))
    by_order (inl low) (inl after) =
        let n : new.end - 1 - p ≡ old.end - 1 - p = omega arith in
        way_there new p (omega arith) ∙ (ap (λ k. ways_at new.ways k) n ∙ (ap (λ l. ways_at l (old.end - 1 - p)) more ∙
        (ap tally_in (got_before old.ways (w ∷ []) (old.end - 1 - p) (omega arith)) ∙ sym (way_there old p low))))

-- a row without ways has none
pub empty_none : (r : Row) (place : ℕ) → r.ways ≡ [] → ways_of r place ≡ no_way
empty_none r place none = by_order (cases_lt place r.end)
  where
    by_order : (place < r.end) ⊎ (r.end ≤ place) → ways_of r place ≡ no_way
    by_order (inl low) = let e : length r.ways ≡ 0 = ap length none in none_before r place (omega arith)
    by_order (inr past) = none_after r place past
