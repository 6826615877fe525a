-- Words have one answer.
use Rattle.std.proofs.Common.{◌≡◌, ℕ, ◌+◌, List, [], ◌∷◌, ◌++◌, length, refl, sym, ap, subst, ◌∙◌, inl, inr, ◌⊎◌, append_assoc}
use Rattle.std.proofs.lemmas.List.{append-nil}
use Rattle.sx_words.specs.Commands.{Meant, SpellsCommand, NoneSpells, IsWordMisfit}

abbrev Text : Type 0
Text = List ℕ

-- the other front goes on with the first word of the rest
record Longer (front rest other : List Text) : Type 0 where
  word : Text
  after : List Text
  tail : List Text
  begins : rest ≡ word ∷ after
  is : other ≡ front ++ word ∷ tail

longer_more : (word : Text) (front rest other : List Text) → Longer front rest other → Longer (word ∷ front) rest (word ∷ other)
longer_more word front rest other h = record { word = h.word; after = h.after; tail = h.tail; begins = h.begins; is = ap (λ (x : List Text). word ∷ x) h.is }

-- two fronts of one list
compare : (a r b q : List Text) → a ++ r ≡ b ++ q → (a ≡ b) ⊎ (Longer a r b ⊎ Longer b q a)
compare [] r [] q e = inl refl
compare [] r (x ∷ b) q e = inr (inl (record { word = x; after = b ++ q; tail = b; begins = e; is = refl }))
compare (x ∷ a) r [] q e = inr (inr (record { word = x; after = a ++ r; tail = a; begins = sym e; is = refl }))
compare (x ∷ a) r (y ∷ b) q e =
    let same : x ≡ y = cc in
    let rest : a ++ r ≡ b ++ q = cc in
    subst (λ (z : Text). (x ∷ a ≡ z ∷ b) ⊎ (Longer (x ∷ a) r (z ∷ b) ⊎ Longer (z ∷ b) q (x ∷ a))) same (one_more x (compare a r b q rest))
  where
    one_more : (x : Text) → (a ≡ b) ⊎ (Longer a r b ⊎ Longer b q a) → (x ∷ a ≡ x ∷ b) ⊎ (Longer (x ∷ a) r (x ∷ b) ⊎ Longer (x ∷ b) q (x ∷ a))
    one_more x (inl e) = inl (ap (λ (l : List Text). x ∷ l) e)
    one_more x (inr (inl h)) = inr (inl (longer_more x a r b h))
    one_more x (inr (inr h)) = inr (inr (longer_more x b q a h))

none_spelled : (front rest more : List Text) (word : Text) (command : Meant) → NoneSpells front (word ∷ rest) → SpellsCommand (front ++ word ∷ more) command → ⊥
none_spelled front rest more word command h s = h more command s

not_longer : (front rest other more : List Text) (command : Meant) → NoneSpells front rest → Longer front rest other → SpellsCommand (other ++ more) command → ⊥
not_longer front rest other more command bad h s =
    let whole : other ++ more ≡ front ++ h.word ∷ (h.tail ++ more) = ap (λ (x : List Text). x ++ more) h.is ∙ append_assoc front (h.word ∷ h.tail) more in
    none_spelled front h.after (h.tail ++ more) h.word command (subst (λ (x : List Text). NoneSpells front x) h.begins bad) (subst (λ (x : List Text). SpellsCommand x command) whole s)

pub one_misfit : (words : List Text) (n m : ℕ) → IsWordMisfit words n → IsWordMisfit words m → n ≡ m
one_misfit words n m h k =
    elim (compare h.front h.rest k.front k.rest (sym h.parts ∙ k.parts)) [
      | inl e ↦ h.place ∙ ap (λ (x : List Text). length x + 1) e ∙ sym k.place
      | inr e ↦ elim e [ inl l ↦ absurd (not_longer h.front h.rest k.front k.more k.command h.bad l k.good) | inr l ↦ absurd (not_longer k.front k.rest h.front h.more h.command k.bad l h.good) ]
    ]

spelled_case : (front rest : List Text) (command : Meant) → NoneSpells front rest → SpellsCommand (front ++ rest) command → ⊥
spelled_case front [] command bad s = bad command (subst (λ (x : List Text). SpellsCommand x command) (append-nil front) s)
spelled_case front (word ∷ rest) command bad s = bad rest command s

pub no_misfit : (words : List Text) (command : Meant) (n : ℕ) → SpellsCommand words command → IsWordMisfit words n → ⊥
no_misfit words command n s h = spelled_case h.front h.rest command h.bad (subst (λ (x : List Text). SpellsCommand x command) h.parts s)
