-- Rows to which places are added.
use Rattle.std.proofs.Common.{◌≡◌, ◌∙◌, ℕ, suc, ◌+◌, ◌<◌, ◌≤◌, List, [], ◌∷◌, ◌++◌, ◌⊎◌, inl, inr, Option, refl, sym, subst, ap, length, arith}
use Rattle.std.specs.Global.{Vec}
use Rattle.std.proofs.lemmas.Bool.{cases_lt}
use Rattle.sx_grammar.specs.Grammar.{Symbol, Grammar, Token}
use Rattle.sx_grammar.specs.Tally.{Tally, no_way}
use Rattle.sx_forest.specs.declared.entry.Entry.{Entry}
use Rattle.sx_forest.specs.declared.row.Row.{Row}
use Rattle.sx_forest.specs.declared.stretch.Stretch.{Stretch}
use Rattle.sx_forest.specs.declared.ways.Ways.{Ways}
use Rattle.sx_forest.specs.Tallies.{tally_of, ways_of}
use Rattle.sx_forest.specs.Rows.{entries_at, IsNextRow, IsIn, IsRowExtended, IsStretchRow}
use Rattle.sx_forest.proofs.RowWays.{pushed_there, pushed_kept, empty_none}
use Rattle.sx_forest.proofs.Pushing.{one_longer}

-- the row so far, with the places of the stretch from this one on
pub record IsExtendedTo (g : Grammar) (tokens : List Token) (lists : List (Vec Entry)) (symbol : Option Symbol) (next : ℕ → Tally) (places : Stretch) (old : Row) (place : ℕ) (new : Row) : Type 0 where
  pub low : (places.first ≤ place) ⊎ (place ≡ places.end)
  pub high : place ≤ places.end
  pub each : (p : ℕ) → place ≤ p → p < places.end → IsNextRow g tokens (entries_at lists p) symbol p next (ways_of new p)
  pub kept : (p : ℕ) → (p < place) ⊎ (places.end ≤ p) → ways_of new p ≡ ways_of old p
  pub first : new.end ≡ place + length new.ways

module _ (g : Grammar) (tokens : List Token) (lists : List (Vec Entry)) (symbol : Option Symbol) (next : ℕ → Tally) (places : Stretch) (old : Row) where
  abbrev So : ℕ → Row → Type 0
  So = IsExtendedTo g tokens lists symbol next places old

  pub extends_none : old.end ≡ places.end + length old.ways → So places.end old
  extends_none joins = record {
    low = inr refl;
    high = omega arith;
    each = λ p a b. absurd (omega arith);
    kept = λ p h. refl;
    first = joins;
  }

  module _ (before : ℕ) (mid : Row) (so : So before mid) (place : ℕ) (at : before ≡ suc place) (above : places.first < before) (w : Ways) (here : IsNextRow g tokens (entries_at lists place) symbol place next (tally_of w)) (new : Row) where
    -- the same ways at the other places, and these here
    on : new.end ≡ place + length new.ways → ways_of new place ≡ tally_of w → ((p : ℕ) → (p ≡ place → ⊥) → ways_of new p ≡ ways_of mid p) → So place new
    on first there same = record {
      low = inl (omega arith);
      high = (let h = so.high in omega arith);
      each = λ p a b. by_place p a b (cases_lt place p);
      kept = λ p h. by_kept p h;
      first = first;
    }
      where
        by_place : (p : ℕ) → place ≤ p → p < places.end → (place < p) ⊎ (p ≤ place) → IsNextRow g tokens (entries_at lists p) symbol p next (ways_of new p)
        by_place p a b (inl after) = subst (λ t. IsNextRow g tokens (entries_at lists p) symbol p next t) (sym (same p (λ e. omega arith))) (so.each p (omega arith) b)
        by_place p a b (inr low) =
            let e : place ≡ p = omega arith in
            subst (λ q. IsNextRow g tokens (entries_at lists q) symbol q next (ways_of new q)) e (subst (λ t. IsNextRow g tokens (entries_at lists place) symbol place next t) (sym there) here)

        by_kept : (p : ℕ) → (p < place) ⊎ (places.end ≤ p) → ways_of new p ≡ ways_of old p
        by_kept p (inl low) = same p (λ e. omega arith) ∙ so.kept p (inl (omega arith))
        by_kept p (inr past) = let h = so.high in same p (λ e. omega arith) ∙ so.kept p (inr past)

    pub extends_pushed : new.end ≡ mid.end → new.ways ≡ mid.ways ++ w ∷ [] → So place new
    extends_pushed e more =
        let first : mid.end ≡ suc place + length mid.ways = so.first ∙ ap (λ b. b + length mid.ways) at in
        on (let long : length new.ways ≡ length mid.ways + 1 = ap length more ∙ one_longer mid.ways w in omega arith)
        (pushed_there mid new place w first e more) (pushed_kept mid new place w first e more)

    pub extends_idle : new.end ≡ place → new.ways ≡ mid.ways → mid.ways ≡ [] → tally_of w ≡ no_way → So place new
    extends_idle e same none nothing =
        let empty : new.ways ≡ [] = same ∙ none in
        on (let z : length new.ways ≡ 0 = ap length empty in omega arith) (empty_none new place empty ∙ sym nothing)
        (λ p other. empty_none new p empty ∙ sym (empty_none mid p none))

  pub extends_all : (place : ℕ) (new : Row) → So place new → place ≤ places.first → IsRowExtended g tokens lists symbol next places old new
  extends_all place new so end = record {
    each = λ p is. so.each p (let h = is.0 in omega arith) is.1;
    kept = λ p out. by_place p out (cases_lt p place) (cases_lt p places.end);
    first = λ along. so.first ∙ ap (λ q. q + length new.ways) (begins along so.low);
  }
    where
      begins : places.first ≤ places.end → (places.first ≤ place) ⊎ (place ≡ places.end) → place ≡ places.first
      begins along (inl low) = omega arith
      begins along (inr same) = omega arith

      by_place : (p : ℕ) → (IsIn places p → ⊥) → (p < place) ⊎ (place ≤ p) → (p < places.end) ⊎ (places.end ≤ p) → ways_of new p ≡ ways_of old p
      by_place p out (inl low) h = so.kept p (inl low)
      by_place p out (inr high) (inr past) = so.kept p (inr past)
      by_place p out (inr high) (inl under) = by_first (cases_lt p places.first)
        where
          by_first : (p < places.first) ⊎ (places.first ≤ p) → ways_of new p ≡ ways_of old p
          by_first (inr after) = absurd (out (after, under))
          by_first (inl before) = not_before before so.low
            where
              not_before : p < places.first → (places.first ≤ place) ⊎ (place ≡ places.end) → ways_of new p ≡ ways_of old p
              not_before before (inl low) = absurd (omega arith)
              not_before before (inr same) = absurd (omega arith)

-- a row that is made from nothing
pub row_is : (g : Grammar) (tokens : List Token) (lists : List (Vec Entry)) (symbol : Option Symbol) (to : ℕ) (places : Stretch) (next : ℕ → Tally) (old new : Row) →
    places.end ≤ to + 1 → old.ways ≡ [] → IsRowExtended g tokens lists symbol next places old new → IsStretchRow g tokens lists symbol to places next (ways_of new)
row_is g tokens lists symbol to places next old new end none made = record {
  each = λ p low is. made.each p is;
  outside = λ p out. made.kept p (λ is. let h = is.1 in out (omega arith) is) ∙ empty_none old p none;
}
