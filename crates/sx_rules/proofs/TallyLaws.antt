-- Counting the variables of a list.
use Rattle.std.proofs.Common.{◌≡◌, ℕ, ◌+◌, ◌<◌, ◌≤◌, drop, length, get_or, Bool, true, false, List, refl, ap, ◌∙◌, sym, arith, nat_eq, if◌then◌else◌}
use Rattle.std.specs.Prelude.{slice_set}
use Rattle.std.proofs.lemmas.List.{length-set, get_or-set_other, get_or_default}
use Rattle.std.proofs.lemmas.Grind.{get_or-set_at}
use Rattle.sx_rules.specs.Subjects.{count_in}
use Rattle.sx_rules.proofs.LoopLaws.{count-on}
use Rattle.sx_rules.proofs.ModeLaws.{same_number, number_same}

clash : true ≡ false → ⊥
clash e = cc

module _ (counts all : List ℕ) (i y : ℕ) (h : i < length all) (inside : get_or all i 0 < length counts) (is : y ≡ get_or counts (get_or all i 0) y)
    (counted : (v : ℕ) → v < length counts → get_or counts v 0 + count_in v (drop i all) ≡ count_in v all) (small : (v : ℕ) → v < length counts → get_or counts v 0 ≤ i) where
  value : y ≡ get_or counts (get_or all i 0) 0
  value = is ∙ get_or_default counts (get_or all i 0) y 0 inside

  pub counted_more : (v : ℕ) → v < length (slice_set counts (get_or all i 0) (y + 1)) → get_or (slice_set counts (get_or all i 0) (y + 1)) v 0 + count_in v (drop (i + 1) all) ≡ count_in v all
  counted_more v l = go (nat_eq v (get_or all i 0)) refl
    where
      go : (b : Bool) → nat_eq v (get_or all i 0) ≡ b → get_or (slice_set counts (get_or all i 0) (y + 1)) v 0 + count_in v (drop (i + 1) all) ≡ count_in v all
      go true t =
          let same = same_number v (get_or all i 0) t in
          let one : count_in v (drop i all) ≡ 1 + count_in v (drop (i + 1) all) = count-on v all i 0 h ∙ ap (λ b. (if b then 1 else 0) + count_in v (drop (i + 1) all)) t in
          let at = get_or-set_at counts (get_or all i 0) v (y + 1) 0 same inside in
          let was = counted v (omega (arith, same, inside)) in
          let before : get_or counts v 0 ≡ y = ap (λ k. get_or counts k 0) same ∙ sym value in
          omega (arith, one, at, was, before)
      go false t =
          let none : count_in v (drop i all) ≡ 0 + count_in v (drop (i + 1) all) = count-on v all i 0 h ∙ ap (λ b. (if b then 1 else 0) + count_in v (drop (i + 1) all)) t in
          let at = get_or-set_other counts (get_or all i 0) v (y + 1) 0 (λ s. clash (sym (number_same v (get_or all i 0) s) ∙ t)) in
          let was = counted v (omega (arith, l, length-set counts (get_or all i 0) (y + 1))) in
          omega (arith, none, at, was)

  pub small_more : (v : ℕ) → v < length (slice_set counts (get_or all i 0) (y + 1)) → get_or (slice_set counts (get_or all i 0) (y + 1)) v 0 ≤ i + 1
  small_more v l = go (nat_eq v (get_or all i 0)) refl
    where
      go : (b : Bool) → nat_eq v (get_or all i 0) ≡ b → get_or (slice_set counts (get_or all i 0) (y + 1)) v 0 ≤ i + 1
      go true t =
          let at = get_or-set_at counts (get_or all i 0) v (y + 1) 0 (same_number v (get_or all i 0) t) inside in
          let few = small (get_or all i 0) inside in
          omega (arith, at, few, value)
      go false t =
          let at = get_or-set_other counts (get_or all i 0) v (y + 1) 0 (λ s. clash (sym (number_same v (get_or all i 0) s) ∙ t)) in
          let few = small v (omega (arith, l, length-set counts (get_or all i 0) (y + 1))) in
          omega (arith, at, few)
