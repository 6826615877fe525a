-- The subjects of forms: their sorts, and what stands at them.
use Rattle.std.proofs.Common.{◌≡◌, ℕ, zero, suc, ◌≤◌, Bool, true, false, if◌then◌else◌, List}
use Rattle.std.proofs.Common.{[], ◌∷◌, ◌++◌, length, map, Option, Some, None}
use Rattle.std.proofs.Common.{refl, ap, ◌∙◌, sym, subst, arith}
use Rattle.std.specs.Prelude.{flat_map, option_map}
use Rattle.std.specs.List.{find, AllByRecursion}
use Rattle.std.proofs.lemmas.List.{length-map}
use Rattle.std.proofs.lemmas.Option.{slice_get_within, none-some}
use Rattle.sx_term.specs.declared.role.Role.{Role}
use Rattle.sx_term.specs.declared.role.Role.TheVariants.{In, Sub, Out}
use Rattle.sx_term.specs.declared.sort.Sort.{Sort}
use Rattle.sx_grammar.specs.Parts.{Parts, names, number_of}
use Rattle.sx_grammar.specs.Made.{IsGrammar}
use Rattle.sx_grammar.proofs.Finding.{named_at}
use Rattle.sx_rules.specs.declared.rule.Place.{Place as PlaceOf}
use Rattle.sx_rules.specs.Modes.{outputs}
use Rattle.sx_rules.specs.Views.{FormData, places_at, is_sub}
use Rattle.sx_directives.specs.declared.spelled.SpelledSort.{SpelledSort}
use Rattle.sx_directives.specs.declared.spelled.SpelledSort.TheVariants.{Lex, Named}
use Rattle.sx_directives.specs.declared.spelled.FormSymbol.{FormSymbol}
use Rattle.sx_directives.specs.declared.spelled.FormSymbol.TheVariants.{Lit, Place}
use Rattle.sx_directives.specs.declared.rows.FormLine.{FormLine}
use Rattle.sx_notation.specs.Language.{sort_when, sorts_with, FormFits}
use Rattle.sx_notation.specs.RuleParts.{rule_parts}
use Rattle.sx_notation.specs.RuleLaws.{spelled_sort, places_of, form_of, IsSpelledSort, HasSortOf}
use Rattle.sx_notation.specs.RuleLaws.{HaveSortsOf}
use Rattle.sx_language.specs.RuleLine.{subject_sort}
use Rattle.sx_extension.proofs.OwnShapes.{IsBelow, sort_below}

-- ---- among places

abbrev subject_in : List PlaceOf → Option Sort
subject_in ps = option_map (λ p. p.sort) (find (λ p. is_sub p.role) ps)

-- without a subject nothing stands at one
pub none_stand : {X : Type 0} (ps : List PlaceOf) (xs : List X) → subject_in ps ≡ None →
    outputs (map (λ p. is_sub p.role) ps) xs ≡ []
none_stand [] xs e = refl
none_stand (p ∷ ps) [] e = refl
none_stand {X = X} (p ∷ ps) (x ∷ xs) e = by p.role e (none_stand ps xs)
  where
    by : (role : Role) → option_map (λ (y : PlaceOf). y.sort) (if is_sub role then Some p else find
        (λ y. is_sub y.role) ps) ≡ None →
        (subject_in ps ≡ None → outputs (map (λ y. is_sub y.role) ps) xs ≡ []) →
        outputs (is_sub role ∷ map (λ y. is_sub y.role) ps) (x ∷ xs) ≡ []
    by In e rest = rest e
    by Sub e rest = absurd (none-some p.sort (sym e))
    by Out e rest = rest e

sort_stands : (role : Role) (sort : Sort) (bs : List Bool) (xs rest : List Sort) →
    outputs bs xs ≡ rest → outputs (is_sub role ∷ bs) (sort ∷ xs) ≡ sort_when Sub role sort ++ rest
sort_stands In sort bs xs rest e = e
sort_stands Sub sort bs xs rest e = ap (λ (ss : List Sort). sort ∷ ss) e
sort_stands Out sort bs xs rest e = e

-- the sorts of the subjects
sorts_stand : (ps : List PlaceOf) → outputs (map (λ p. is_sub p.role) ps)
    (map (λ p. p.sort) ps) ≡ sorts_with Sub ps
sorts_stand [] = refl
sorts_stand (p ∷ ps) = sort_stands p.role p.sort (map (λ q. is_sub q.role) ps)
    (map (λ q. q.sort) ps) (sorts_with Sub ps) (sorts_stand ps)

no_more : (ss : List Sort) → length ss ≤ 0 → ss ≡ []
no_more [] low = refl
no_more (s ∷ ss) low = absurd (omega (arith, low))

only_sort : (ps : List PlaceOf) (sort : Sort) → length (sorts_with Sub ps) ≤ 1 →
    subject_in ps ≡ Some sort → sorts_with Sub ps ≡ sort ∷ []
only_sort [] sort low e = absurd (none-some sort e)
only_sort (p ∷ ps) sort low e = by p.role low e (only_sort ps sort)
  where
    by : (role : Role) → length (sort_when Sub role p.sort ++ sorts_with Sub ps) ≤ 1 →
        option_map (λ (y : PlaceOf). y.sort) (if is_sub role then Some p else find
        (λ y. is_sub y.role) ps) ≡ Some sort →
        (length (sorts_with Sub ps) ≤ 1 → subject_in ps ≡ Some sort →
        sorts_with Sub ps ≡ sort ∷ []) → sort_when Sub role p.sort ++
        sorts_with Sub ps ≡ sort ∷ []
    by In low e rest = rest low e
    by Sub low e rest =
        let same : p.sort ≡ sort = cc in
        λ i. same i ∷ no_more (sorts_with Sub ps) (omega (arith, low)) i
    by Out low e rest = rest low e

-- ---- by the numbers of forms

fit_at : (forms : List FormData) (n : ℕ) → AllByRecursion FormFits forms →
    length (sorts_with Sub (places_at forms n)) ≤ 1
fit_at [] n fit = omega arith
fit_at (f ∷ fs) zero fit = fit.0.1
fit_at (f ∷ fs) (suc n) fit = fit_at fs n fit.1

-- the subject's sort is the only one
pub subject_only : (forms : List FormData) (n : ℕ) (sort : Sort) → AllByRecursion FormFits forms →
    subject_sort forms n ≡ Some sort →
    outputs (map (λ p. is_sub p.role) (places_at forms n))
    (map (λ p. p.sort) (places_at forms n)) ≡ sort ∷ []
subject_only forms n sort fit e = sorts_stand (places_at forms n) ∙
    only_sort (places_at forms n) sort (fit_at forms n fit) e

-- ---- the sorts of subjects are sorts of the grammar

module _ (p : Parts) (fs : List FormLine) (is : IsGrammar p)
    (rule_is : IsGrammar (rule_parts p fs)) where
  abbrev Low : PlaceOf → Type 0
  Low place = IsBelow (length p.sorts) place.sort

  spelled_below : (spelled : SpelledSort) → IsSpelledSort p spelled →
      IsBelow (length p.sorts) (spelled_sort p spelled)
  spelled_below (Lex kind) has = tt
  spelled_below (Named name least) has =
      let n = number_of (names p) name in
      let at = named_at (names p) name (λ missing. missing has) in
      sort_below p fs is rule_is n (omega (
        arith,
        slice_get_within (names p) n name at,
        length-map p.sorts (λ s. s.name),
      ))

  symbols_below : (ss : List FormSymbol) → AllByRecursion (HasSortOf p) ss →
      AllByRecursion Low (flat_map (places_of p) ss)
  symbols_below [] has = tt
  symbols_below (Lit text ∷ ss) has = symbols_below ss has.1
  symbols_below (Place role sort ∷ ss) has = (spelled_below sort has.0, symbols_below ss has.1)

  found_below : (ps : List PlaceOf) (sort : Sort) → AllByRecursion Low ps →
      subject_in ps ≡ Some sort → IsBelow (length p.sorts) sort
  found_below [] sort all e = absurd (none-some sort e)
  found_below (x ∷ xs) sort all e = by (is_sub x.role) e (found_below xs sort all.1)
    where
      by : (b : Bool) → option_map (λ (y : PlaceOf). y.sort)
          (if b then Some x else find (λ y. is_sub y.role) xs) ≡ Some sort →
          (subject_in xs ≡ Some sort → IsBelow (length p.sorts) sort) →
          IsBelow (length p.sorts) sort
      by true e rest = let same : x.sort ≡ sort = cc in subst (IsBelow (length p.sorts)) same all.0
      by false e rest = rest e

  form_below : (gs : List FormLine) (n : ℕ) (sort : Sort) → HaveSortsOf p gs →
      subject_sort (map (form_of p) gs) n ≡ Some sort → IsBelow (length p.sorts) sort
  form_below [] n sort has e = absurd (none-some sort e)
  form_below (g ∷ gs) zero sort has e = found_below (flat_map (places_of p) g.symbols.items) sort
      (symbols_below g.symbols.items has.0) e
  form_below (g ∷ gs) (suc n) sort has e = form_below gs n sort has.1 e

  pub subject_below : (forms : List FormData) → forms ≡ map (form_of p) fs → HaveSortsOf p fs →
      (n : ℕ) (sort : Sort) → subject_sort forms n ≡ Some sort → IsBelow (length p.sorts) sort
  subject_below forms same has n sort e =
      form_below fs n sort has (ap (λ (l : List FormData). subject_sort l n) (sym same) ∙ e)
