-- The sorts of names, one by one.
use Rattle.std.proofs.Common.{◌≡◌, ℕ, zero, suc, ◌+◌, List, [], ◌∷◌, ◌++◌, Option, Some, None, take, map, slice_get, ap, ◌∙◌, sym, subst, add-one}
use Rattle.std.specs.Prelude.{is_some, true}
use Rattle.std.proofs.lemmas.List.{map-append}
use Rattle.sx_term.specs.declared.sort.Sort.{Sort}
use Rattle.sx_grammar.specs.Grammar.{Text}
use Rattle.sx_grammar.specs.Stems.{without_digits}
use Rattle.sx_earley.specs.Tokens.{Stems, stem_sort}
use Rattle.sx_language.specs.RuleTexts.{NamesHaveStems, HaveStemSorts}
use Rattle.sx_term.proofs.VarCopies.{take_end}

take_next : (names : List Text) (n : ℕ) (x : Text) → slice_get names n ≡ Some x → take (suc n) names ≡ take n names ++ x ∷ []
take_next [] n x e = cc
take_next (y ∷ ys) zero x e = let q : y ≡ x = cc in ap (λ z. z ∷ []) q
take_next (y ∷ ys) (suc n) x e = ap (λ z. y ∷ z) (take_next ys n x e)

-- one more has a sort
pub one_named : (stems : Stems) (names : List Text) (n : ℕ) (x : Text) (sort : Sort) (sorts sorts' : List Sort) → slice_get names n ≡ Some x → stem_sort stems (without_digits x) ≡ Some sort
    → sorts' ≡ sorts ++ sort ∷ [] → HaveStemSorts stems (take n names) sorts → HaveStemSorts stems (take (n + 1) names) sorts'
one_named stems names n x sort sorts sorts' at is grown have =
    let f : Text → Option Sort = λ name. stem_sort stems (without_digits name) in
    ap (λ m. map f (take m names)) (add-one n) ∙ ap (map f) (take_next names n x at) ∙ map-append f (take n names) (x ∷ [])
    ∙ (λ i. have i ++ is i ∷ []) ∙ sym (ap (map Some) grown ∙ map-append Some sorts (sort ∷ []))

-- there is no further one
pub all_named : (stems : Stems) (names : List Text) (n : ℕ) (sorts : List Sort) → slice_get names n ≡ None → HaveStemSorts stems (take n names) sorts → HaveStemSorts stems names sorts
all_named stems names n sorts end have = subst (λ l. HaveStemSorts stems l sorts) (take_end names n end) have

-- the sort of a name that has one
pub stem_at : (stems : Stems) (names : List Text) (n : ℕ) (x : Text) → NamesHaveStems stems names → slice_get names n ≡ Some x → is_some (stem_sort stems (without_digits x)) ≡ true
stem_at stems [] n x have at = cc
stem_at stems (y ∷ ys) zero x have at = let q : y ≡ x = cc in subst (λ z. is_some (stem_sort stems (without_digits z)) ≡ true) q have.0
stem_at stems (y ∷ ys) (suc n) x have at = stem_at stems ys n x have.1 at
