-- A row to which an element is added.
use Rattle.std.proofs.Common.{◌≡◌, ◌∙◌, sym, ap, refl, cond, Bool, true, false, [], ◌∷◌, ◌++◌, ◌⊎◌, inl, inr, Option, Some, arith}
use Rattle.std.proofs.lemmas.Bool.Decides.{nat_tests}
use Rattle.std.specs.Global.{Vec}
use Rattle.sx_earley.specs.declared.slot.Slot.{Slot}
use Rattle.sx_earley.specs.Table.{same_slot, sort_row_in}

pub same_slots : (x y : Slot) → same_slot x y ≡ true → x ≡ y
same_slots x y h = grind (arith, nat_tests)

same_self : (x : Slot) → same_slot x x ≡ true
same_self x = grind (arith, nat_tests)

module _ {T : Type 0} (old new : Slot → Option (Vec T)) (slot : Slot) (w : Vec T) (element : T)
    (grown : w.items ≡ sort_row_in (old slot) ++ element ∷ []) (updates : (q : Slot) → new q ≡ cond (same_slot slot q) (Some w) (old q)) where
  pub filed_row : sort_row_in (new slot) ≡ sort_row_in (old slot) ++ element ∷ []
  filed_row = ap sort_row_in (updates slot ∙ ap (λ b. cond b (Some w) (old slot)) (same_self slot)) ∙ grown

  pub filed_rows : (s : Slot) → (sort_row_in (new s) ≡ sort_row_in (old s)) ⊎ (s ≡ slot)
  filed_rows s = by (same_slot slot s) refl
    where
      by : (b : Bool) → same_slot slot s ≡ b → (sort_row_in (new s) ≡ sort_row_in (old s)) ⊎ (s ≡ slot)
      by true e = inr (sym (same_slots slot s e))
      by false e = inl (ap sort_row_in (updates s ∙ ap (λ b. cond b (Some w) (old s)) e))
