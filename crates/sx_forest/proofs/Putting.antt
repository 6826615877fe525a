-- Tables with one entry more.
use Rattle.std.proofs.Common.{◌≡◌, ℕ, List, [], ◌∷◌, ◌++◌, ◌⊎◌, inl, inr, ⊎_elim, Some, refl, sym, subst, ap, ◌∙◌, length}
use Rattle.std.specs.Global.{Vec}
use Rattle.std.specs.List.{slice_get}
use Rattle.std.proofs.lemmas.Option.{slice_get_within}
use Rattle.sx_forest.specs.declared.entry.Maker.{Maker}
use Rattle.sx_forest.specs.declared.entry.Entry.{Entry}
use Rattle.sx_forest.specs.Rows.{entries_at}
use Rattle.sx_forest.specs.Table.{HasEntry, IsEntryPut}
use Rattle.sx_forest.proofs.Pushing.{got_before, got_last, got_cases}
use Rattle.sx_forest.proofs.Summing.{same_or_not}

module _ (old new : List (Vec Entry)) (place : ℕ) (e : Entry) (put : IsEntryPut old new place e) where
  -- what was there still is
  still_at : (p i : ℕ) (x : Entry) → slice_get (entries_at old p) i ≡ Some x → slice_get (entries_at new p) i ≡ Some x
  still_at p i x at = by_place (same_or_not p place)
    where
      by_place : (p ≡ place) ⊎ (p ≡ place → ⊥) → slice_get (entries_at new p) i ≡ Some x
      by_place (inl same) =
          let low = slice_get_within (entries_at old p) i x at in
          let there : entries_at new p ≡ entries_at old p ++ e ∷ [] = subst (λ q. entries_at new q ≡ entries_at old q ++ e ∷ []) (sym same) put.there in
          ap (λ l. slice_get l i) there ∙ (got_before (entries_at old p) (e ∷ []) i low ∙ at)
      by_place (inr differ) = ap (λ l. slice_get l i) (put.others p differ) ∙ at

  pub still_has : (p : ℕ) (m : Maker) (to : ℕ) → HasEntry old p m to → HasEntry new p m to
  still_has p m to h = (h.0, h.1, still_at p h.0 h.1 h.2, h.3, h.4)

  pub now_has : HasEntry new place e.maker e.to
  now_has = (length (entries_at old place), e, ap (λ l. slice_get l (length (entries_at old place))) put.there ∙ got_last (entries_at old place) e, refl, refl)

  -- what is there was there, or is the new entry
  pub got_either : (p i : ℕ) (x : Entry) → slice_get (entries_at new p) i ≡ Some x →
      (slice_get (entries_at old p) i ≡ Some x) ⊎ ((p ≡ place) × (i ≡ length (entries_at old place)) × (e ≡ x))
  got_either p i x at = by_place (same_or_not p place)
    where
      by_place : (p ≡ place) ⊎ (p ≡ place → ⊥) → (slice_get (entries_at old p) i ≡ Some x) ⊎ ((p ≡ place) × (i ≡ length (entries_at old place)) × (e ≡ x))
      by_place (inl same) =
          let there : entries_at new p ≡ entries_at old p ++ e ∷ [] = subst (λ q. entries_at new q ≡ entries_at old q ++ e ∷ []) (sym same) put.there in
          ⊎_elim (λ h. inl h.1) (λ h. inr (same, h.0 ∙ ap (λ q. length (entries_at old q)) same, h.1))
          (got_cases (entries_at old p) e x i (subst (λ l. slice_get l i ≡ Some x) there at))
      by_place (inr differ) = inl (subst (λ l. slice_get l i ≡ Some x) (put.others p differ) at)
