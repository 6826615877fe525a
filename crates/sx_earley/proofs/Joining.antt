use Rattle.std.proofs.Common.{◌≡◌, ℕ, ◌+◌, ◌<◌, ◌≤◌, List, ⊎_elim, refl, sym, subst, length, take, get_or, Contains}
use Rattle.std.proofs.lemmas.List.{take_more, take_all}
use Rattle.std.proofs.lemmas.List.Elements.{Contains-push_cases}
use Rattle.sx_grammar.specs.Grammar.{Grammar}
use Rattle.sx_grammar.specs.declared.head.Head.TheVariants.{Labelled}
use Rattle.sx_grammar.specs.declared.item.Item.{Item}
use Rattle.sx_earley.specs.Growth.{AllNew}
use Rattle.sx_earley.specs.Chart.{Joins, IsJoined, moved, beginning}
use Rattle.sx_earley.proofs.Growth.{only_on, only_more}

abbrev pub no_item : Item
no_item = beginning (Labelled 0) 0

-- one more element of the list has been treated
pub one_more_done : {X : Type 0} (none : X) (xs : List X) (index : ℕ) (P : X → Type 0) → index < length xs → ((x : X) → Contains (take index xs) x → P x) →
    P (get_or xs index none) → (x : X) → Contains (take (index + 1) xs) x → P x
one_more_done none xs index P low before here x there =
    ⊎_elim (λ old. before x old) (λ e. subst P e here)
    (Contains-push_cases (take index xs) (get_or xs index none) x (subst (λ l. Contains l x) (take_more xs index none low) there))

-- all elements have been treated
pub all_done : {X : Type 0} (xs : List X) (index : ℕ) (P : X → Type 0) → length xs ≤ index → ((x : X) → Contains (take index xs) x → P x) → (x : X) → Contains xs x → P x
all_done xs index P long before x there = before x (subst (λ l. Contains l x) (sym (take_all index xs long)) there)

-- what one turn adds is joined
pub each_only : (g : Grammar) (IsBefore : Item → Type 0) (filling before : Item) (old mid new : List Item) → IsBefore before → AllNew old mid (IsJoined g IsBefore (λ x. x ≡ filling)) →
    AllNew mid new (λ i. Joins g before filling × (i ≡ moved before filling.end)) → AllNew old new (IsJoined g IsBefore (λ x. x ≡ filling))
each_only g IsBefore filling before old mid new is h k =
    only_on old mid new (IsJoined g IsBefore (λ x. x ≡ filling)) h
    (only_more mid new (λ i. Joins g before filling × (i ≡ moved before filling.end)) (IsJoined g IsBefore (λ x. x ≡ filling))
    (λ i j. (before, filling, is, refl, j.0, j.1)) k)

pub over_only : (g : Grammar) (IsFilling : Item → Type 0) (before filling : Item) (old mid new : List Item) → IsFilling filling → AllNew old mid (IsJoined g (λ x. x ≡ before) IsFilling) →
    AllNew mid new (λ i. Joins g before filling × (i ≡ moved before filling.end)) → AllNew old new (IsJoined g (λ x. x ≡ before) IsFilling)
over_only g IsFilling before filling old mid new is h k =
    only_on old mid new (IsJoined g (λ x. x ≡ before) IsFilling) h
    (only_more mid new (λ i. Joins g before filling × (i ≡ moved before filling.end)) (IsJoined g (λ x. x ≡ before) IsFilling)
    (λ i j. (before, filling, refl, is, j.0, j.1)) k)
