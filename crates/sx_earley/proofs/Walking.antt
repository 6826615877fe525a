-- A walk over the items with a key, from the last one backwards.
use Rattle.std.proofs.Common.{◌≡◌, ◌∙◌, ℕ, List, length, get_or, Option, Some, None, sym, subst}
use Rattle.std.specs.List.{slice_get}
use Rattle.std.proofs.lemmas.Option.{same_Some}
use Rattle.sx_slots.specs.Slots.{IsLastWith}
use Rattle.sx_grammar.specs.declared.item.Item.{Item}
use Rattle.sx_earley.specs.Growth.{GoesOnFrom}
use Rattle.sx_earley.specs.Keys.{AreNumbersWithin, IsKeyed}
use Rattle.sx_earley.specs.declared.filed.Filed.{Filed}
use Rattle.sx_earley.proofs.Numbering.{got_earlier}
use Rattle.sx_earley.proofs.Passing.{ArePassed, passed_on, passed_next}

-- the item with the number at the place is as told
abbrev pub IsDone : List Item → Filed → (Item → Type 0) → ℕ → Type 0
IsDone items filed Told n = (x : Item) → slice_get items (get_or filed.numbers.items n 0) ≡ Some x → Told x

module _ (items : List Item) (filed : Filed) (near : Option ℕ) (key : ℕ) (is : near ≡ Some key) (Told : Item → Type 0) where
  module _ (n : ℕ) (here : Item) (passed : ArePassed filed.keys (IsDone items filed Told) key (Some n)) where
    -- the item stood there before more were found
    pub walk_at : (mid : List Item) (number : ℕ) → GoesOnFrom items mid → AreNumbersWithin filed (length items) → number ≡ get_or filed.numbers.items n 0 →
        slice_get mid number ≡ Some here → slice_get items (get_or filed.numbers.items n 0) ≡ Some here
    walk_at mid number grown w same at =
        got_earlier items mid (get_or filed.numbers.items n 0) here grown (w.within n passed.0) (subst (λ (m : ℕ). slice_get mid m ≡ Some here) same at)

    pub walk_keyed : slice_get items (get_or filed.numbers.items n 0) ≡ Some here → IsKeyed items filed near here
    walk_keyed at = subst (λ (o : Option ℕ). IsKeyed items filed o here) (sym is) (n, passed.0, passed.1, at)

    -- one more is done
    pub walk_next : (Also : Item → Type 0) (answer : Option ℕ) → ((x : Item) → Told x → Also x) → slice_get items (get_or filed.numbers.items n 0) ≡ Some here → Also here →
        IsLastWith filed.keys n (get_or filed.keys n 0) answer → ArePassed filed.keys (IsDone items filed Also) key answer
    walk_next Also answer weaker at done last = passed_next filed.keys (IsDone items filed Also) key n answer
        (passed_on filed.keys (IsDone items filed Told) (IsDone items filed Also) key (Some n) (λ i told x e. weaker x (told x e)) passed)
        (λ x e. subst Also (same_Some here x (sym at ∙ e)) done) last

  pub walk_done : ArePassed filed.keys (IsDone items filed Told) key None → (x : Item) → IsKeyed items filed near x → Told x
  walk_done passed x keyed = let h = subst (λ (o : Option ℕ). IsKeyed items filed o x) is keyed in passed h.0 h.1 h.2 x h.3
