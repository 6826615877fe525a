use Rattle.std.specs.List.{IsDistinct, AllByRecursion}
use Rattle.std.proofs.lemmas.Map.Keys.{IsDistinct-head, IsDistinct-tail}
use Rattle.sx_grammar.specs.Tally.{Among, EachOnce}
use Rattle.std.proofs.Common.{sym, subst, true≢false, ◌∙◌, List, [], ◌∷◌, ◌++◌, inl, inr, ⊎_elim, if◌then◌else◌, ◌≡◌, Bool, true, false, arith}
use Rattle.std.proofs.lemmas.List.Elements.{Contains-push_cases}
use Rattle.sx_earley.specs.Growth.{AllNew}
use Rattle.std.proofs.lemmas.Bool.Decides.{nat_tests}
use Rattle.sx_grammar.specs.declared.head.Head.{Head}
use Rattle.sx_grammar.specs.declared.head.Head.TheVariants.{Labelled, Bracketed}
use Rattle.sx_grammar.specs.declared.item.Item.{Item}
use Rattle.sx_grammar.specs.contracts.head.HeadPartialEq.TheImpl as head_eq
use Rattle.sx_grammar.specs.contracts.item.ItemPartialEq.TheImpl as item_eq

pub same_heads : (x y : Head) → (head_eq.ghosts).eq x y ≡ true → x ≡ y
same_heads (Labelled a) (Labelled b) h = grind (arith, nat_tests)
same_heads (Labelled a) (Bracketed b) h = cc
same_heads (Bracketed a) (Labelled b) h = cc
same_heads (Bracketed a) (Bracketed b) h = grind (arith, nat_tests)

pub same_items : (x y : Item) → (item_eq.ghosts).eq x y ≡ true → x ≡ y
same_items x y h = grind (arith, nat_tests, same_heads)

-- what an insert adds is the item
pub only_inserted : {T : Type 0} (keys : List T) (item : T) (b : Bool) → AllNew keys (if b then keys else keys ++ item ∷ []) (λ i. i ≡ item)
only_inserted keys item true i h = inl h
only_inserted keys item false i h = ⊎_elim (λ old. inl old) (λ e. inr (sym e)) (Contains-push_cases keys item i h)

-- an item is the same as itself
pub same_refl : (x : Item) → (item_eq.ghosts).eq x x ≡ true
same_refl x = grind (arith, nat_tests)

-- a key that differs from all is not among them
not_among : (x : Item) (xs : List Item) → AllByRecursion (λ y. (item_eq.ghosts).eq x y ≡ false) xs → Among x xs → ⊥
not_among x [] differ h = h
not_among x (y ∷ ys) differ (inl e) = let f : (item_eq.ghosts).eq x x ≡ false = subst (λ z. (item_eq.ghosts).eq x z ≡ false) (sym e) differ.0 in true≢false (sym (same_refl x) ∙ f)
not_among x (y ∷ ys) differ (inr h) = not_among x ys differ.1 h

-- different keys stand once each
pub each_once : (keys : List Item) → IsDistinct (item_eq.ghosts).eq keys → EachOnce keys
each_once [] h = tt
each_once (x ∷ xs) h = (not_among x xs (IsDistinct-head (item_eq.ghosts).eq x xs h), each_once xs (IsDistinct-tail (item_eq.ghosts).eq x xs h))
