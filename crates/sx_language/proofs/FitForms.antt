-- The places of forms fit, and bodies can be read at the sorts of their subjects.
use Rattle.std.proofs.Common.{◌≡◌, ℕ, zero, suc, ◌<◌, Bool, true, false, cond, if◌then◌else◌, List, [], ◌∷◌, length, length-append, map, Option, Some, None, slice_get, refl, ap, ◌∙◌, sym, subst, arith}
use Rattle.std.specs.Prelude.{flat_map, option_map, IfSome}
use Rattle.std.specs.List.{find, AllByRecursion}
use Rattle.std.specs.Str.{bytes_eq}
use Rattle.std.proofs.lemmas.List.{length-map}
use Rattle.std.proofs.lemmas.Option.{slice_get_within, none-some}
use Rattle.std.proofs.lemmas.Bool.{false≢true}
use Rattle.sx_term.specs.declared.role.Role.{Role}
use Rattle.sx_term.specs.declared.role.Role.TheVariants.{Sub}
use Rattle.sx_term.specs.declared.sort.Sort.{Sort}
use Rattle.sx_term.specs.declared.sort.Sort.TheVariants as TheSort
use Rattle.sx_grammar.specs.declared.sort_line.SortLine.{SortLine}
use Rattle.sx_grammar.specs.Parts.{Parts, names, number_of}
use Rattle.sx_grammar.specs.Told as told
use Rattle.sx_grammar.proofs.Finding.{mapped_at, named_at}
use Rattle.sx_earley.specs.Completed.{IsSort}
use Rattle.sx_rules.specs.declared.rule.Place.{Place as PlaceOf}
use Rattle.sx_rules.specs.Subjects.{is_typed_sort}
use Rattle.sx_rules.specs.Views.{FormData, is_sub}
use Rattle.sx_directives.specs.declared.spelled.SpelledSort.{SpelledSort}
use Rattle.sx_directives.specs.declared.spelled.SpelledSort.TheVariants.{Lex, Named}
use Rattle.sx_directives.specs.declared.spelled.FormSymbol.{FormSymbol}
use Rattle.sx_directives.specs.declared.spelled.FormSymbol.TheVariants.{Lit, Place}
use Rattle.sx_directives.specs.declared.rows.FormLine.{FormLine}
use Rattle.sx_outline.specs.Declarations.{Declared, declared_form}
use Rattle.sx_outline.specs.Fitting.{sort_named, RolePlaceFits as IsSpelledFit, SymbolFits, sorts_at}
use Rattle.sx_outline.specs.Fitting.{HasOneSubjectSymbol}
use Rattle.sx_notation.specs.Language.{PlaceFits, FormFits}
use Rattle.sx_notation.specs.RuleParts.{judgement_sort, rule_parts}
use Rattle.sx_notation.specs.RuleLaws.{spelled_sort, places_of, form_of, IsSpelledSort, HasSortOf}
use Rattle.sx_notation.specs.RuleLaws.{HaveSortsOf}
use Rattle.sx_notation.proofs.Growing.{got_before}
use Rattle.sx_language.specs.RuleLine.{subject_sort}
use Rattle.sx_language.proofs.MainForms.{first_named, sorts_are}

-- ---- the places fit

-- a sort is typed as its line says
line_typed : (b : Bool) (n : ℕ) → is_typed_sort (Some (cond b (TheSort.Typed n) (TheSort.Plain n))) ≡ b
line_typed true n = refl
line_typed false n = refl

is_there : (s : Option SortLine) (b : Bool) (line : SortLine) → s ≡ Some line → IfSome s (λ x. x.typed ≡ b) → told.is_typed s ≡ b
is_there None b line e h = absurd (none-some line e)
is_there (Some s) b line e h = h

module _ (p : Parts) (d : Declared) (sorts : d.sorts ≡ p.sorts) where
  place_fits : (role : Role) (spelled : SpelledSort) → IsSpelledFit d role spelled → IsSpelledSort p spelled → is_typed_sort (Some (spelled_sort p spelled)) ≡ is_sub role
  place_fits role (Lex kind) fit has = sym fit
  place_fits role (Named name least) fit has =
      let n = number_of (names p) name in
      let at = named_at (names p) name (λ missing. missing has) in
      let line = mapped_line n at in
      let found : slice_get p.sorts n ≡ sort_named d name = first_named p.sorts name ∙ ap (find (λ s. bytes_eq s.name name)) (sym sorts) in
      line_typed (told.is_typed (slice_get p.sorts n)) n ∙ is_there (slice_get p.sorts n) (is_sub role) line.0 line.1 (subst (λ (o : Option SortLine). IfSome o (λ s. s.typed ≡ is_sub role)) (sym found) fit)
    where
      mapped_line : (n : ℕ) → slice_get (names p) n ≡ Some name → (line : SortLine) × (slice_get p.sorts n ≡ Some line)
      mapped_line n at = let s = mapped_at (λ s. s.name) p.sorts n name at in (s.0, s.1)

  symbols_fit : (ss : List FormSymbol) → AllByRecursion (SymbolFits d) ss → AllByRecursion (HasSortOf p) ss → AllByRecursion PlaceFits (flat_map (places_of p) ss)
  symbols_fit [] fit has = tt
  symbols_fit (Lit text ∷ ss) fit has = symbols_fit ss fit.1 has.1
  symbols_fit (Place role sort ∷ ss) fit has = (place_fits role sort fit.0 has.0, symbols_fit ss fit.1 has.1)

  pub forms_fit : (fs : List FormLine) → AllByRecursion (λ f. AllByRecursion (SymbolFits d) f.symbols) (map declared_form fs) → AllByRecursion (λ f. HasOneSubjectSymbol f.symbols) (map declared_form fs) → HaveSortsOf p fs →
      AllByRecursion FormFits (map (form_of p) fs)
  forms_fit [] fit one has = tt
  forms_fit (f ∷ fs) fit one has =
      let few = sorts_are p Sub f.symbols.items in
      ((symbols_fit f.symbols.items fit.0 has.0, omega (arith, one.0, ap length few, length-map (sorts_at Sub f.symbols.items) (spelled_sort p))), forms_fit fs fit.1 one.1 has.1)

-- ---- bodies can be read

module _ (p : Parts) (fs : List FormLine) where
  abbrev Readable : PlaceOf → Type 0
  Readable place = is_sub place.role ≡ true → IsSort (rule_parts p fs) place.sort

  -- a sort that is typed is one of the grammar of rules
  typed_read : (n : ℕ) (b : Bool) → n < length p.sorts → told.is_typed (slice_get p.sorts n) ≡ b → b ≡ true → IsSort (rule_parts p fs) (cond b (TheSort.Typed n) (TheSort.Plain n))
  typed_read n true low is typed = (omega (arith, low, length-append p.sorts (judgement_sort ∷ [])), ap told.is_typed (got_before p.sorts (judgement_sort ∷ []) n low) ∙ is)
  typed_read n false low is typed = absurd (false≢true typed)

  place_read : (role : Role) (spelled : SpelledSort) → IsSpelledSort p spelled → PlaceFits (record { role = role; sort = spelled_sort p spelled }) → Readable (record { role = role; sort = spelled_sort p spelled })
  place_read role (Lex kind) has fit sub = absurd (false≢true (fit ∙ sub))
  place_read role (Named name least) has fit sub =
      let n = number_of (names p) name in
      let at = named_at (names p) name (λ missing. missing has) in
      let low : n < length p.sorts = omega (arith, slice_get_within (names p) n name at, length-map p.sorts (λ s. s.name)) in
      typed_read n (told.is_typed (slice_get p.sorts n)) low refl (sym (line_typed (told.is_typed (slice_get p.sorts n)) n) ∙ fit ∙ sub)

  symbols_read : (ss : List FormSymbol) → AllByRecursion (HasSortOf p) ss → AllByRecursion PlaceFits (flat_map (places_of p) ss) → AllByRecursion Readable (flat_map (places_of p) ss)
  symbols_read [] has fit = tt
  symbols_read (Lit text ∷ ss) has fit = symbols_read ss has.1 fit
  symbols_read (Place role sort ∷ ss) has fit = (place_read role sort has.0 fit.0, symbols_read ss has.1 fit.1)

  found_read : (ps : List PlaceOf) (sort : Sort) → AllByRecursion Readable ps → option_map (λ x. x.sort) (find (λ x. is_sub x.role) ps) ≡ Some sort → IsSort (rule_parts p fs) sort
  found_read [] sort all e = absurd (none-some sort e)
  found_read (x ∷ xs) sort all e = by (is_sub x.role) refl (found_read xs sort all.1) e
    where
      by : (b : Bool) → is_sub x.role ≡ b → (option_map (λ y. y.sort) (find (λ y. is_sub y.role) xs) ≡ Some sort → IsSort (rule_parts p fs) sort) →
          option_map (λ y. y.sort) (if b then Some x else find (λ y. is_sub y.role) xs) ≡ Some sort → IsSort (rule_parts p fs) sort
      by true is rest e = let same : x.sort ≡ sort = cc in subst (IsSort (rule_parts p fs)) same (all.0 is)
      by false is rest e = rest e

  form_read : (gs : List FormLine) (n : ℕ) (sort : Sort) → HaveSortsOf p gs → AllByRecursion FormFits (map (form_of p) gs) → subject_sort (map (form_of p) gs) n ≡ Some sort → IsSort (rule_parts p fs) sort
  form_read [] n sort has fit e = absurd (none-some sort e)
  form_read (g ∷ gs) zero sort has fit e = found_read (flat_map (places_of p) g.symbols.items) sort (symbols_read g.symbols.items has.0 fit.0.0) e
  form_read (g ∷ gs) (suc n) sort has fit e = form_read gs n sort has.1 fit.1 e

  -- the sorts of subjects are sorts of the grammar of rules
  pub subjects_read : (forms : List FormData) → forms ≡ map (form_of p) fs → HaveSortsOf p fs → AllByRecursion FormFits forms → (n : ℕ) (sort : Sort) → subject_sort forms n ≡ Some sort → IsSort (rule_parts p fs) sort
  subjects_read forms same has fit n sort e =
      form_read fs n sort has (subst (AllByRecursion FormFits) same fit) (ap (λ (l : List FormData). subject_sort l n) (sym same) ∙ e)
