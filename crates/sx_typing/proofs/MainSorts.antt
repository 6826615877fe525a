-- The sorts of the main form's subject and output are sorts of the grammar.
use Rattle.std.proofs.Common.{◌≡◌, ◌<◌, ℕ, zero, suc, Bool, true, false, cond, List, [], ◌∷◌, ◌++◌}
use Rattle.std.proofs.Common.{map, length, Some, slice_get, Contains, refl, sym, ap, ◌∙◌, subst}
use Rattle.std.proofs.Common.{arith}
use Rattle.std.specs.Prelude.{flat_map}
use Rattle.std.specs.List.{AllByRecursion}
use Rattle.std.proofs.lemmas.List.{length-map}
use Rattle.std.proofs.lemmas.Option.{slice_get_within}
use Rattle.sx_term.specs.declared.sort.Sort.{Sort}
use Rattle.sx_term.specs.declared.sort.Sort.TheVariants.{Lex, Plain, Typed}
use Rattle.sx_grammar.specs.Parts.{Parts, names, number_of as place_among}
use Rattle.sx_grammar.specs.Told.{is_typed, sort_with}
use Rattle.sx_grammar.proofs.Finding.{named_at}
use Rattle.sx_earley.specs.Completed.{IsSort}
use Rattle.sx_term.specs.declared.role.Role.{Role}
use Rattle.sx_term.specs.declared.role.Role.TheVariants.{In, Sub, Out}
use Rattle.sx_rules.specs.declared.rule.Place.{Place as PlaceOf}
use Rattle.sx_rules.specs.Views.{FormData, places_at, places_or_none}
use Rattle.sx_directives.specs.declared.spelled.SpelledSort.TheVariants.{Lex as Lexical, Named}
use Rattle.sx_directives.specs.declared.spelled.FormSymbol.{FormSymbol}
use Rattle.sx_directives.specs.declared.spelled.FormSymbol.TheVariants.{Lit, Place}
use Rattle.sx_directives.specs.declared.rows.FormLine.{FormLine}
use Rattle.sx_notation.specs.RuleLaws.{places_of, form_of, HasSortOf, HaveSortsOf}
use Rattle.sx_notation.specs.Language.{sort_when, sorts_with}
use Rattle.sx_typing.specs.Dialects.{DialectData, IsDialect}
use Rattle.sx_typing.specs.BodySource.{only_sort, main_sort}

-- a sort that is not lexical is one of the grammar
abbrev IsKnown : Parts → Sort → Type 0
IsKnown p (Lex kind) = Unit {0}
IsKnown p (Plain n) = IsSort p (Plain n)
IsKnown p (Typed n) = IsSort p (Typed n)

module _ (p : Parts) where
  with_known : (n : ℕ) → n < length p.sorts → IsKnown p (sort_with p.sorts n)
  with_known n lt = by_test (is_typed (slice_get p.sorts n)) refl
    where
      by_test : (b : Bool) → is_typed (slice_get p.sorts n) ≡ b →
          IsKnown p (cond b (Typed n) (Plain n))
      by_test true e = (lt, e)
      by_test false e = (lt, e)

  name_within : (name : List ℕ) → Contains (names p) name →
      place_among (names p) name < length p.sorts
  name_within name has =
      let within : place_among (names p) name < length (names p) =
      slice_get_within (names p) (place_among (names p) name) name
      (named_at (names p) name (λ not. not has)) in
      omega (arith, within, length-map p.sorts (λ s. s.name))

  places_known : (symbols : List FormSymbol) → AllByRecursion (HasSortOf p) symbols →
      AllByRecursion (λ (q : PlaceOf). IsKnown p q.sort) (flat_map (places_of p) symbols)
  places_known [] all = tt
  places_known (Lit text ∷ symbols) all = places_known symbols all.1
  places_known (Place role (Lexical kind) ∷ symbols) all = (tt, places_known symbols all.1)
  places_known (Place role (Named name least) ∷ symbols) all =
      (with_known (place_among (names p) name) (name_within name all.0), places_known symbols all.1)

  form_known : (lines : List FormLine) (n : ℕ) (form : FormData) → HaveSortsOf p lines →
      slice_get (map (form_of p) lines) n ≡ Some form →
      AllByRecursion (λ (q : PlaceOf). IsKnown p q.sort) form.places
  form_known [] n form all at = cc
  form_known (f ∷ lines) zero form all at =
      let same : form_of p f ≡ form = cc in
      subst (λ (g : FormData). AllByRecursion (λ (q : PlaceOf). IsKnown p q.sort) g.places) same
      (places_known f.symbols.items all.0)
  form_known (f ∷ lines) (suc n) form all at = form_known lines n form all.1 at

  one_known : (role other : Role) (sort : Sort) (rest : List Sort) → IsKnown p sort →
      AllByRecursion (IsKnown p) rest →
      AllByRecursion (IsKnown p) (sort_when role other sort ++ rest)
  one_known In In sort rest h k = (h, k)
  one_known In Sub sort rest h k = k
  one_known In Out sort rest h k = k
  one_known Sub In sort rest h k = k
  one_known Sub Sub sort rest h k = (h, k)
  one_known Sub Out sort rest h k = k
  one_known Out In sort rest h k = k
  one_known Out Sub sort rest h k = k
  one_known Out Out sort rest h k = (h, k)

  sorts_known : (role : Role) (places : List PlaceOf) →
      AllByRecursion (λ (q : PlaceOf). IsKnown p q.sort) places →
      AllByRecursion (IsKnown p) (sorts_with role places)
  sorts_known role [] all = tt
  sorts_known role (q ∷ places) all =
      one_known role q.role q.sort (sorts_with role places) all.0 (sorts_known role places all.1)

  only_known : (lines : List FormLine) (forms : List FormData) (n : ℕ) (form : FormData)
      (role : Role) (sort : Sort) → HaveSortsOf p lines → forms ≡ map (form_of p) lines →
      slice_get forms n ≡ Some form
      → sorts_with role form.places ≡ sort ∷ [] → IsKnown p sort
  only_known lines forms n form role sort known are at is =
      let there : slice_get (map (form_of p) lines) n ≡ Some form =
      subst (λ (fs : List FormData). slice_get fs n ≡ Some form) are at in
      let all : AllByRecursion (IsKnown p) (sort ∷ []) =
      subst (λ (sorts : List Sort). AllByRecursion (IsKnown p) sorts) is
      (sorts_known role form.places (form_known lines n form known there)) in
      all.0

pub main_sort_is : (forms : List FormData) (n : ℕ) (form : FormData) (role : Role) (sort : Sort) →
    slice_get forms n ≡ Some form → sorts_with role form.places ≡ sort ∷ []
    → only_sort (sorts_with role (places_at forms n)) ≡ sort
main_sort_is forms n form role sort at is =
    ap (λ f. only_sort (sorts_with role (places_or_none f))) at ∙ ap only_sort is

-- the subject's sort is one of the grammar with what the extensions add
pub subject_is_sort : (d : DialectData) → IsDialect d → IsSort d.parts (main_sort d.language Sub)
subject_is_sort d is =
    let l = d.language in
    let m = is.main in
    let known =
    only_known l.parts is.lines l.forms l.main.form m.form Sub (Typed m.subject) is.known is.forms
    m.is
    m.typed in
    let there : IsSort l.parts (main_sort l Sub) =
    subst (IsSort l.parts) (sym (main_sort_is l.forms l.main.form m.form Sub (Typed m.subject) m.is
    m.typed))
    known in
    subst (λ (p : Parts). IsSort p (main_sort l Sub)) (sym is.goes_on) there

-- so is the output's
pub signature_is_sort : (d : DialectData) → IsDialect d → IsSort d.parts (main_sort d.language Out)
signature_is_sort d is =
    let l = d.language in
    let m = is.main in
    let known =
    only_known l.parts is.lines l.forms l.main.form m.form Out (Plain m.signature) is.known is.forms
    m.is m.output in
    let there : IsSort l.parts (main_sort l Out) =
    subst (IsSort l.parts) (sym (main_sort_is l.forms l.main.form m.form Out (Plain m.signature)
    m.is m.output))
    known in
    subst (λ (p : Parts). IsSort p (main_sort l Out)) (sym is.goes_on) there
