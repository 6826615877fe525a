-- Two lists are joined from their ends.
use Rattle.std.proofs.Common.{◌≡◌, ℕ, ◌<◌, List, [], ◌∷◌, ◌++◌, length, map, reverse, Option, Some}
use Rattle.std.proofs.Common.{None, false, refl, sym, ap, ◌∙◌, append_assoc, arith}
use Rattle.std.specs.Prelude.{option_to_list, IsSome, ◌↔◌}
use Rattle.std.specs.Option.{option_flatten}
use Rattle.std.proofs.lemmas.Bool.{both_ways}
use Rattle.std.proofs.lemmas.List.{map-append, reverse-append, length-append}

module _ {A E B : Type 0} (f : A → B) (g : E → B) where
  -- what is left of the one list, and then what was joined from its end, is the whole list
  abbrev pub IsJoined : (left : List A) (joined : List E) (whole : List A) → Type 0
  IsJoined left joined whole = map f left ++ map g (reverse joined) ≡ map f whole

  pub joins_more : (old left whole : List A) (x : A) (es new : List E) (e : E) →
      old ≡ left ++ x ∷ [] → new ≡ es ++ e ∷ [] → g e ≡ f x → IsJoined old es whole →
      IsJoined left new whole
  joins_more old left whole x es new e taken grown same h =
      let last : map g (reverse new) ≡ g e ∷ map g (reverse es) =
      ap (λ (ys : List E). map g (reverse ys)) grown ∙
      ap (map g) (reverse-append es (e ∷ [])) in
      let first : map f old ≡ map f left ++ f x ∷ [] = ap (map f) taken ∙
      map-append f left (x ∷ []) in
      ap (λ (bs : List B). map f left ++ bs) (last ∙ ap (λ (b : B). b ∷ map g (reverse es)) same)
      ∙ sym (append_assoc (map f left) (f x ∷ []) (map g (reverse es)))
      ∙ ap (λ (bs : List B). bs ++ map g (reverse es)) (sym first) ∙ h

  pub joined_all : (left whole : List A) (es new : List E) → left ≡ [] → new ≡ reverse es →
      IsJoined left es whole → map g new ≡ map f whole
  joined_all left whole es new none same h =
      ap (map g) same ∙ sym (ap (λ (xs : List A). map f xs ++ map g (reverse es)) none) ∙ h

-- the last of a list that is not empty
pub last_of : {T : Type 0} (old left : List (Option T)) (r : Option (Option T)) (x : Option T) →
    old ≡ left ++ option_to_list r → IsSome r → x ≡ option_flatten r → old ≡ left ++ x ∷ []
last_of old left (Some y) x taken some is = taken ∙ ap (λ z. left ++ z ∷ []) (sym is)
last_of old left None x taken some is = absurd (both_ways false refl some)

-- two lists of one length have one after each loses its last
pub lose_one : {A B : Type 0} (old left : List A) (x : A) (others rest : List B) (y : B) →
    old ≡ left ++ x ∷ [] → others ≡ rest ++ y ∷ [] → length old ≡ length others →
    length left ≡ length rest
lose_one old left x others rest y taken lost same =
    omega (
      arith,
      same,
      ap length taken,
      ap length lost,
      length-append left (x ∷ []),
      length-append rest (y ∷ []),
    )

-- a list whose last is none is empty
pub none_left : {A : Type 0} (xs : List A) (r : Option A) (n : ℕ) → n ≡ length xs →
    (IsSome r ↔ (0 < n)) → ((x : A) → r ≡ Some x → ⊥) → xs ≡ []
none_left [] r n long some none = refl
none_left (y ∷ ys) (Some x) n long some none = absurd (none x refl)
none_left (y ∷ ys) None n long some none = absurd (both_ways false refl
    (some.1 (omega (arith, long))))

-- a list as long as one that is empty is empty
pub as_empty : {A B : Type 0} (xs : List A) (ys : List B) → length xs ≡ length ys → xs ≡ [] →
    ys ≡ []
as_empty xs [] same none = refl
as_empty xs (y ∷ ys) same none = absurd (omega (arith, same, ap length none))
