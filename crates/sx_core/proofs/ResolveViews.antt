-- Rows as they are seen, one after another.
use Rattle.std.proofs.Common.{◌≡◌, ℕ, ◌+◌, ◌<◌, List, [], ◌∷◌, ◌++◌, length, get_or, take, map, sym, subst}
use Rattle.sx_rules.specs.declared.rule.Place.{Place}
use Rattle.sx_core.specs.File.{SortRow, PlaceRow}
use Rattle.sx_core.specs.Stated.{AreStatedPlaces}
use Rattle.sx_core.specs.Rows.{place_row}
use Rattle.sx_core.specs.declared.rows.PlaceRow.{PlaceRow as PlaceRowOf}
use Rattle.sx_core.specs.Resolving.{IsPlaceOf}
use Rattle.sx_core.proofs.SortLaws.{view_at, view_next}
use Rattle.sx_core.proofs.ResolveLaws.{places_snoc, places_at}

module _ (rows : List SortRow) where
  module _ (xs : List PlaceRowOf) (i : ℕ) (x : PlaceRowOf) where
    pub places_none : i < length xs → x ≡ get_or xs i x → ((p : Place) → IsPlaceOf rows (place_row x) p → ⊥) → (ps : List Place) → AreStatedPlaces rows (map place_row xs) ps → ⊥
    places_none lt is n ps h = let w = places_at rows (map place_row xs) ps i (place_row x) h (view_at place_row xs i x lt is) in n w.0 w.1

    pub places_more : (ps new : List Place) (p : Place) → i < length xs → x ≡ get_or xs i x → new ≡ ps ++ p ∷ [] → AreStatedPlaces rows (take i (map place_row xs)) ps → IsPlaceOf rows (place_row x) p → AreStatedPlaces rows (take (i + 1) (map place_row xs)) new
    places_more ps new p lt is e h k =
        subst (AreStatedPlaces rows (take (i + 1) (map place_row xs))) (sym e)
        (subst (λ (r : List PlaceRow). AreStatedPlaces rows r (ps ++ p ∷ [])) (sym (view_next place_row xs i x lt is)) (places_snoc rows (take i (map place_row xs)) ps (place_row x) p h k))
