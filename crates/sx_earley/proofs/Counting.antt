use Rattle.std.proofs.Common.{◌≡◌, ℕ, ◌≤◌, Bool, true, false, List, [], ◌∷◌, inl, inr, sym, ap, ◌∙◌, refl, length, Contains, arith, true≢false}
use Rattle.std.specs.Cmp.{IsEquivalence}
use Rattle.std.specs.List.{IsDistinct, AllByRecursion}
use Rattle.std.proofs.lemmas.Map.Keys.{IsDistinct-cons}
use Rattle.std.proofs.lemmas.Map.Made.{length-le_from_is_member}
use Rattle.std.proofs.lemmas.Map.Views.{list_any-from_Contains, Contains-from_any}
use Rattle.sx_grammar.specs.Grammar.{Grammar, Token}
use Rattle.sx_grammar.specs.declared.item.Item.{Item}
use Rattle.sx_grammar.specs.contracts.item.ItemPartialEq.TheImpl as item_eq
use Rattle.sx_grammar.specs.Tally.{Among, EachOnce}
use Rattle.sx_grammar.specs.ReadOne.{Holds, MoreHold}
use Rattle.sx_earley.proofs.Same.{same_items, same_refl}

abbrev same : Item → Item → Bool
same = (item_eq.ghosts).eq

by_bools : (x y : Item) (b c : Bool) → same x y ≡ b → same y x ≡ c → b ≡ c
by_bools x y true true e f = refl
by_bools x y false false e f = refl
by_bools x y true false e f = let z = same_items x y e in absurd (true≢false (sym (same_refl x) ∙ (ap (λ w. same w x) z ∙ f)))
by_bools x y false true e f = let z = same_items y x f in absurd (true≢false (sym (same_refl y) ∙ (ap (λ w. same w y) z ∙ e)))

item_laws : IsEquivalence same
item_laws = record {
  refl = same_refl;
  symm = λ x y. by_bools x y (same x y) (same y x) refl refl;
  congr = λ x y z e. ap (λ w. same w z) (same_items x y e);
}

no_keys : IsDistinct same []
unfolding IsDistinct
no_keys = tt

apart : (x y : Item) (b : Bool) → same x y ≡ b → (x ≡ y → ⊥) → same x y ≡ false
apart x y true e differ = absurd (differ (same_items x y e))
apart x y false e differ = e

all_apart : (x : Item) (xs : List Item) → (Among x xs → ⊥) → AllByRecursion (λ y. same x y ≡ false) xs
all_apart x [] alone = tt
all_apart x (y ∷ ys) alone = (apart x y (same x y) refl (λ e. alone (inl e)), all_apart x ys (λ h. alone (inr h)))

distinct : (xs : List Item) → EachOnce xs → IsDistinct same xs
distinct [] once = no_keys
distinct (x ∷ xs) once = IsDistinct-cons same x xs (all_apart x xs once.0) (distinct xs once.1)

-- where a list of few items has all that hold, no more hold
pub no_more_hold : (g : Grammar) (tokens : List Token) (start : ℕ) (keys : List Item) (n : ℕ) → length keys ≤ n →
    ((i : Item) → Holds g tokens start i → Contains keys i) → MoreHold g tokens start n → ⊥
no_more_hold g tokens start keys n few all more =
    let low = length-le_from_is_member item_laws more.0 keys (distinct more.0 more.2)
    (λ q member. list_any-from_Contains item_laws q keys (all q (more.3 q (Contains-from_any same_items q more.0 member)))) in
    let many = more.1 in
    omega arith
