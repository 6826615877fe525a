-- Sorts by their names.
use Rattle.std.proofs.Common.{◌≡◌, ℕ, zero, suc, ◌<◌, List, [], ◌∷◌, length, take, get_or, Some, sym, ap, ◌∙◌, subst, arith}
use Rattle.std.specs.Prelude.{slice_get}
use Rattle.std.specs.List.{AllByRecursion}
use Rattle.sx_grammar.specs.Grammar.{Text}
use Rattle.sx_grammar.specs.Parts.{Parts, names, number_of}
use Rattle.sx_grammar.specs.Made.{IsGrammar}
use Rattle.sx_grammar.specs.Told.{sort_with}
use Rattle.sx_term.specs.declared.sort.Sort.{Sort}
use Rattle.sx_directives.specs.declared.spelled.SpelledSort.{SpelledSort}
use Rattle.sx_directives.specs.declared.spelled.SpelledSort.TheVariants.{Named}
use Rattle.sx_notation.specs.RuleLaws.{IsSpelledSort, spelled_sort}
use Rattle.sx_grammar.proofs.Finding.{at_contains, named_at}

-- the number of a name in a grammar
pub number_is : (p : Parts) (name : Text) (n : ℕ) → IsGrammar p → slice_get (names p) n ≡ Some name → number_of (names p) name ≡ n
number_is p name n is at =
    let has = at_contains (names p) n name at in
    is.0.0.0.0.0.1 (number_of (names p) name) n name (named_at (names p) name (λ missing. missing has)) at

-- a sort by its name
pub named_sort : (p : Parts) (spelled : SpelledSort) (name : Text) (least n : ℕ) (s : Sort) → IsGrammar p → spelled ≡ Named name least → slice_get (names p) n ≡ Some name → s ≡ sort_with p.sorts n → IsSpelledSort p spelled × (s ≡ spelled_sort p spelled)
named_sort p spelled name least n s is spells at e =
    (subst (IsSpelledSort p) (sym spells) (at_contains (names p) n name at), e ∙ ap (sort_with p.sorts) (sym (number_is p name n is at)) ∙ sym (ap (spelled_sort p) spells))

-- one more of a list
pub all_more : {X : Type 0} (P : X → Type 0) (xs : List X) (i : ℕ) (x : X) → i < length xs → x ≡ get_or xs i x → AllByRecursion P (take i xs) → P x → AllByRecursion P (take (suc i) xs)
all_more P [] i x lt at all one = absurd (omega (arith, lt))
all_more P (y ∷ ys) zero x lt at all one = (subst P at one, tt)
all_more P (y ∷ ys) (suc i) x lt at all one = (all.0, all_more P ys i x (omega (arith, lt)) at all.1 one)

-- one of a list
pub all_at : {X : Type 0} (P : X → Type 0) (xs : List X) (i : ℕ) (x : X) → i < length xs → x ≡ get_or xs i x → AllByRecursion P xs → P x
all_at P [] i x lt at all = absurd (omega (arith, lt))
all_at P (y ∷ ys) zero x lt at all = subst P (sym at) all.0
all_at P (y ∷ ys) (suc i) x lt at all = all_at P ys i x (omega (arith, lt)) at all.1
