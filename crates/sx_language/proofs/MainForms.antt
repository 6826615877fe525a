-- The main form of an outline, by numbers.
use Rattle.std.proofs.Common.{◌≡◌, ℕ, zero, suc, ◌+◌, ◌≤◌, true, false, cond, List, [], ◌∷◌, Option, Some, None, length, map, slice_get, Contains, refl, ap, ◌∙◌, sym, subst, arith}
use Rattle.std.specs.Prelude.{option_map, flat_map, unwrap_or, find, IfSome}
use Rattle.std.specs.Str.{bytes_eq}
use Rattle.std.specs.List.{AllByRecursion}
use Rattle.std.proofs.lemmas.List.{length-map}
use Rattle.std.proofs.lemmas.Option.{slice_get-map, get_or_from_slice_get, none-some}
use Rattle.sx_term.specs.declared.lex_kind.LexKind.TheVariants.{Id}
use Rattle.sx_term.specs.declared.sort.Sort.{Sort}
use Rattle.sx_term.specs.declared.sort.Sort.TheVariants as TheSort
use Rattle.sx_term.specs.declared.role.Role.{Role}
use Rattle.sx_term.specs.declared.role.Role.TheVariants.{In, Sub, Out}
use Rattle.sx_rules.specs.Views.{is_sub}
use Rattle.sx_grammar.specs.declared.sort_line.SortLine.{SortLine}
use Rattle.sx_grammar.specs.declared.symbol.Symbol.{Symbol}
use Rattle.sx_grammar.specs.declared.symbol.Symbol.TheVariants as TheSymbol
use Rattle.sx_grammar.specs.Grammar.{Text}
use Rattle.sx_grammar.specs.Parts.{Parts, names, number_of, numbered, numbered_line}
use Rattle.sx_grammar.specs.Parts.{numbered_symbol}
use Rattle.sx_grammar.specs.Told.{is_typed, sort_with, kid_sorts, shape_of, shapes_of}
use Rattle.sx_grammar.proofs.Finding.{mapped_at, named_at}
use Rattle.sx_directives.specs.declared.spelled.SpelledSort.{SpelledSort}
use Rattle.sx_directives.specs.declared.spelled.SpelledSort.TheVariants.{Lex, Named}
use Rattle.sx_directives.specs.declared.spelled.FormSymbol.{FormSymbol}
use Rattle.sx_directives.specs.declared.spelled.FormSymbol.TheVariants.{Lit, Place}
use Rattle.sx_directives.specs.declared.rows.FormLine.{FormLine}
use Rattle.sx_directives.specs.declared.rows.MainLine.{MainLine}
use Rattle.sx_outline.specs.declared.main_form.MainForm.{MainForm}
use Rattle.sx_outline.specs.Declarations.{Declared, declared_form}
use Rattle.sx_outline.proofs.PlaceLaws.{at, first_at, found_in, find_place, find_nothing, position_is}
use Rattle.sx_outline.proofs.FindLaws.{number_at}
use Rattle.sx_outline.specs.Fitting.{sort_named, RolePlaceFits, SymbolFits, sorts_at, Kid, of_kind}
use Rattle.sx_outline.specs.Fitting.{of_sort, parts_of_symbols, IsConstructor, IsMainOf}
use Rattle.sx_notation.specs.RuleLaws.{spelled_sort, places_of, form_of, HasSortOf, HaveSortsOf}
use Rattle.sx_notation.specs.RuleLaws.{IsSpelledSort}
use Rattle.sx_notation.specs.Language.{sorts_with, IsMain}

past_end : {X : Type 0} (xs : List X) (n : ℕ) → length xs ≤ n → slice_get xs n ≡ None
past_end [] n h = refl
past_end (x ∷ xs) zero h = absurd (omega (arith, h))
past_end (x ∷ xs) (suc n) h = past_end xs n (omega (arith, h))

-- the place of a name leads to the first sort with it
pub first_named : (ss : List SortLine) (name : Text) → slice_get ss (number_of (map (λ s. s.name) ss) name) ≡ find (λ s. bytes_eq s.name name) ss
first_named ss name = by (first_at name (map (λ s. s.name) ss)) refl
  where
    by : (r : Option ℕ) → first_at name (map (λ s. s.name) ss) ≡ r → slice_get ss (number_of (map (λ s. s.name) ss) name) ≡ find (λ s. bytes_eq s.name name) ss
    by None e =
        let past : number_of (map (λ s. s.name) ss) name ≡ length (map (λ s. s.name) ss) = ap (λ r. unwrap_or r (length (map (λ s. s.name) ss))) (position_is (at name) (map (λ s. s.name) ss) ∙ e) in
        past_end ss (number_of (map (λ s. s.name) ss) name) (omega (arith, past, length-map ss (λ s. s.name))) ∙ sym (find_nothing (λ s. s.name) ss name e)
    by (Some i) e =
        let here = named_at (map (λ s. s.name) ss) name (λ missing. missing (found_in (map (λ s. s.name) ss) name i e)) in
        let s = mapped_at (λ x. x.name) ss (number_of (map (λ x. x.name) ss) name) name here in
        let same : i ≡ number_of (map (λ x. x.name) ss) name = number_at (map (λ x. x.name) ss) name i e in
        let one : slice_get ss i ≡ Some s.0 = ap (slice_get ss) same ∙ s.1 in
        s.1 ∙ sym (find_place (λ x. x.name) ss name i s.0 e ∙ ap Some (get_or_from_slice_get ss i s.0 s.0 one))

module _ (p : Parts) where
  -- the sorts of the places with a role
  pub sorts_are : (role : Role) (ss : List FormSymbol) → sorts_with role (flat_map (places_of p) ss) ≡ map (spelled_sort p) (sorts_at role ss)
  sorts_are role [] = refl
  sorts_are role (Lit text ∷ ss) = by role (sorts_are role ss)
    where
      by : (r : Role) → sorts_with r (flat_map (places_of p) ss) ≡ map (spelled_sort p) (sorts_at r ss) → sorts_with r (flat_map (places_of p) (Lit text ∷ ss)) ≡ map (spelled_sort p) (sorts_at r (Lit text ∷ ss))
      by In e = e
      by Sub e = e
      by Out e = e
  sorts_are In (Place In sort ∷ ss) = ap (λ l. spelled_sort p sort ∷ l) (sorts_are In ss)
  sorts_are In (Place Sub sort ∷ ss) = sorts_are In ss
  sorts_are In (Place Out sort ∷ ss) = sorts_are In ss
  sorts_are Sub (Place In sort ∷ ss) = sorts_are Sub ss
  sorts_are Sub (Place Sub sort ∷ ss) = ap (λ l. spelled_sort p sort ∷ l) (sorts_are Sub ss)
  sorts_are Sub (Place Out sort ∷ ss) = sorts_are Sub ss
  sorts_are Out (Place In sort ∷ ss) = sorts_are Out ss
  sorts_are Out (Place Sub sort ∷ ss) = sorts_are Out ss
  sorts_are Out (Place Out sort ∷ ss) = ap (λ l. spelled_sort p sort ∷ l) (sorts_are Out ss)

  -- each place has one of the roles
  places_many : (ss : List FormSymbol) → length (flat_map (places_of p) ss) ≡ length (sorts_at In ss) + length (sorts_at Sub ss) + length (sorts_at Out ss)
  places_many [] = refl
  places_many (Lit text ∷ ss) = places_many ss
  places_many (Place In sort ∷ ss) = omega (arith, places_many ss)
  places_many (Place Sub sort ∷ ss) = omega (arith, places_many ss)
  places_many (Place Out sort ∷ ss) = omega (arith, places_many ss)

  -- the places with a role fit, and their sorts are known
  fits_at : (d : Declared) (role : Role) (ss : List FormSymbol) → AllByRecursion (SymbolFits d) ss → AllByRecursion (RolePlaceFits d role) (sorts_at role ss)
  fits_at d role [] all = tt
  fits_at d In (Lit text ∷ ss) all = fits_at d In ss all.1
  fits_at d Sub (Lit text ∷ ss) all = fits_at d Sub ss all.1
  fits_at d Out (Lit text ∷ ss) all = fits_at d Out ss all.1
  fits_at d In (Place In sort ∷ ss) all = (all.0, fits_at d In ss all.1)
  fits_at d In (Place Sub sort ∷ ss) all = fits_at d In ss all.1
  fits_at d In (Place Out sort ∷ ss) all = fits_at d In ss all.1
  fits_at d Sub (Place In sort ∷ ss) all = fits_at d Sub ss all.1
  fits_at d Sub (Place Sub sort ∷ ss) all = (all.0, fits_at d Sub ss all.1)
  fits_at d Sub (Place Out sort ∷ ss) all = fits_at d Sub ss all.1
  fits_at d Out (Place In sort ∷ ss) all = fits_at d Out ss all.1
  fits_at d Out (Place Sub sort ∷ ss) all = fits_at d Out ss all.1
  fits_at d Out (Place Out sort ∷ ss) all = (all.0, fits_at d Out ss all.1)

  known_at : (role : Role) (ss : List FormSymbol) → AllByRecursion (HasSortOf p) ss → AllByRecursion (IsSpelledSort p) (sorts_at role ss)
  known_at role [] all = tt
  known_at In (Lit text ∷ ss) all = known_at In ss all.1
  known_at Sub (Lit text ∷ ss) all = known_at Sub ss all.1
  known_at Out (Lit text ∷ ss) all = known_at Out ss all.1
  known_at In (Place In sort ∷ ss) all = (all.0, known_at In ss all.1)
  known_at In (Place Sub sort ∷ ss) all = known_at In ss all.1
  known_at In (Place Out sort ∷ ss) all = known_at In ss all.1
  known_at Sub (Place In sort ∷ ss) all = known_at Sub ss all.1
  known_at Sub (Place Sub sort ∷ ss) all = (all.0, known_at Sub ss all.1)
  known_at Sub (Place Out sort ∷ ss) all = known_at Sub ss all.1
  known_at Out (Place In sort ∷ ss) all = known_at Out ss all.1
  known_at Out (Place Sub sort ∷ ss) all = known_at Out ss all.1
  known_at Out (Place Out sort ∷ ss) all = (all.0, known_at Out ss all.1)

  -- a sort that is typed or not is the typed or the plain one
  as_plain : (name : Text) → is_typed (find (λ s. bytes_eq s.name name) p.sorts) ≡ false → sort_with p.sorts (number_of (names p) name) ≡ TheSort.Plain (number_of (names p) name)
  as_plain name e = ap (λ b. cond b (TheSort.Typed (number_of (names p) name)) (TheSort.Plain (number_of (names p) name))) (ap is_typed (first_named p.sorts name) ∙ e)

  as_typed : (name : Text) → is_typed (find (λ s. bytes_eq s.name name) p.sorts) ≡ true → sort_with p.sorts (number_of (names p) name) ≡ TheSort.Typed (number_of (names p) name)
  as_typed name e = ap (λ b. cond b (TheSort.Typed (number_of (names p) name)) (TheSort.Plain (number_of (names p) name))) (ap is_typed (first_named p.sorts name) ∙ e)

  not_typed : (o : Option SortLine) → IfSome o (λ s. s.typed ≡ false) → is_typed o ≡ false
  not_typed None h = refl
  not_typed (Some s) h = h

  is_found : (name : Text) → Contains (names p) name → (o : Option SortLine) → find (λ s. bytes_eq s.name name) p.sorts ≡ o → IfSome o (λ s. s.typed ≡ true) → is_typed o ≡ true
  is_found name has (Some s) e h = h
  is_found name has None e h =
      let at = named_at (names p) name (λ missing. missing has) in
      let s = mapped_at (λ s. s.name) p.sorts (number_of (names p) name) name at in
      absurd (none-some s.0 (sym (first_named p.sorts name ∙ e) ∙ s.1))

  -- a constructor by numbers
  abbrev kid_sort : Kid → Sort
  kid_sort (of_kind kind) = TheSort.Lex kind
  kid_sort (of_sort name) = sort_with p.sorts (number_of (names p) name)

  kids_are : (ss : List Symbol) → flat_map (kid_sorts p.sorts) (map (numbered_symbol (names p)) ss) ≡ map kid_sort (parts_of_symbols ss)
  kids_are [] = refl
  kids_are (TheSymbol.Lit text ∷ ss) = kids_are ss
  kids_are (TheSymbol.Lex kind ∷ ss) = ap (λ l. TheSort.Lex kind ∷ l) (kids_are ss)
  kids_are (TheSymbol.Part name least ∷ ss) = ap (λ l. sort_with p.sorts (number_of (names p) name) ∷ l) (kids_are ss)

  constructor_at : (d : Declared) → d.productions ≡ p.productions → (label : Text) (number : ℕ) (sort : Text) (kids : List Kid) → IsConstructor d label number sort kids
      → slice_get (shapes_of p) number ≡ Some (record { sort = sort_with p.sorts (number_of (names p) sort); kids = map kid_sort kids })
  constructor_at d same label number sort kids h =
      let line = h.line in
      let at : slice_get p.productions number ≡ Some line = ap (λ l. slice_get l number) (sym same) ∙ h.is in
      let one : slice_get (numbered p).productions number ≡ Some (numbered_line (names p) line) = slice_get-map (numbered_line (names p)) p.productions number ∙ ap (option_map (numbered_line (names p))) at in
      let two : slice_get (shapes_of p) number ≡ Some (shape_of p.sorts (numbered_line (names p) line)) = slice_get-map (shape_of p.sorts) (numbered p).productions number ∙ ap (option_map (shape_of p.sorts)) one in
      let right : flat_map (kid_sorts p.sorts) (map (numbered_symbol (names p)) line.symbols) ≡ map kid_sort kids = kids_are line.symbols ∙ ap (map kid_sort) h.kids_are in
      let same_shape : shape_of p.sorts (numbered_line (names p) line) ≡ record { sort = sort_with p.sorts (number_of (names p) sort); kids = map kid_sort kids } =
      λ i. record { sort = sort_with p.sorts (number_of (names p) (h.sort_is i)); kids = right i } in
      two ∙ ap Some same_shape

fits_of : (d : Declared) (fs : List FormLine) (n : ℕ) (f : FormLine) → slice_get fs n ≡ Some f → AllByRecursion (λ x. AllByRecursion (SymbolFits d) x.symbols) (map declared_form fs) → AllByRecursion (SymbolFits d) f.symbols.items
fits_of d [] n f e all = absurd (none-some f e)
fits_of d (g ∷ fs) zero f e all = let q : g ≡ f = cc in subst (λ x. AllByRecursion (SymbolFits d) x.symbols.items) q all.0
fits_of d (g ∷ fs) (suc n) f e all = fits_of d fs n f e all.1

known_of : (p : Parts) (fs : List FormLine) (n : ℕ) (f : FormLine) → slice_get fs n ≡ Some f → HaveSortsOf p fs → AllByRecursion (HasSortOf p) f.symbols.items
known_of p [] n f e all = absurd (none-some f e)
known_of p (g ∷ fs) zero f e all = let q : g ≡ f = cc in subst (λ x. AllByRecursion (HasSortOf p) x.symbols.items) q all.0
known_of p (g ∷ fs) (suc n) f e all = known_of p fs n f e all.1

module _ (p : Parts) (fs : List FormLine) (d : Declared) (sorts : d.sorts ≡ p.sorts) (productions : d.productions ≡ p.productions) (forms : d.forms ≡ map declared_form fs) (known : HaveSortsOf p fs)
    (places : AllByRecursion (λ x. AllByRecursion (SymbolFits d) x.symbols) (map declared_form fs)) (m : MainLine) (main : MainForm) (h : IsMainOf d m main) where
  line : (f : FormLine) × (slice_get fs main.form ≡ Some f) × (declared_form f ≡ h.form)
  line = mapped_at declared_form fs main.form h.form (ap (λ l. slice_get l main.form) (sym forms) ∙ h.form_is)

  abbrev symbols : List FormSymbol
  symbols = line.0.symbols.items

  fit : AllByRecursion (SymbolFits d) symbols
  fit = fits_of d fs main.form line.0 line.1 places

  at_role : (role : Role) (xs : List SpelledSort) → sorts_at role h.form.symbols ≡ xs → sorts_at role symbols ≡ xs
  at_role role xs e = ap (λ x. sorts_at role x.symbols) line.2 ∙ e

  found : (name : Text) → find (λ s. bytes_eq s.name name) p.sorts ≡ sort_named d name
  found name = ap (find (λ s. bytes_eq s.name name)) (sym sorts)

  plain_at : (role : Role) (name : Text) (least : ℕ) → is_sub role ≡ false → sorts_at role symbols ≡ Named name least ∷ [] → sort_with p.sorts (number_of (names p) name) ≡ TheSort.Plain (number_of (names p) name)
  plain_at role name least plain e =
      let one : RolePlaceFits d role (Named name least) = (subst (AllByRecursion (RolePlaceFits d role)) e (fits_at p d role symbols fit)).0 in
      as_plain p name (ap is_typed (found name) ∙ not_typed p (sort_named d name) (subst (λ b. IfSome (sort_named d name) (λ s. s.typed ≡ b)) plain one))

  -- the subject's sort is typed
  subject_at : (spelled : SpelledSort) → sorts_at Sub symbols ≡ spelled ∷ [] → (number : ℕ) × (spelled_sort p spelled ≡ TheSort.Typed number)
  subject_at (Lex kind) e = let one : true ≡ false = (subst (AllByRecursion (RolePlaceFits d Sub)) e (fits_at p d Sub symbols fit)).0 in cc
  subject_at (Named name least) e =
      let one : RolePlaceFits d Sub (Named name least) = (subst (AllByRecursion (RolePlaceFits d Sub)) e (fits_at p d Sub symbols fit)).0 in
      let has : Contains (names p) name = (subst (AllByRecursion (IsSpelledSort p)) e (known_at p Sub symbols (known_of p fs main.form line.0 line.1 known))).0 in
      (number_of (names p) name, as_typed p name (ap is_typed (found name) ∙ is_found p name has (sort_named d name) (found name) one))

  pub is_main : IsMain p (map (form_of p) fs) main
  is_main =
      let input = at_role In (Named h.environment h.input.least ∷ []) h.input.is in
      let subject = at_role Sub (h.subject_sort ∷ []) h.subject in
      let output = at_role Out (Named h.signature h.output.least ∷ []) h.output.is in
      let environment = plain_at In h.environment h.input.least refl input in
      let signature = plain_at Out h.signature h.output.least refl output in
      let typed = subject_at h.subject_sort subject in
      record {
        form = form_of p line.0;
        is = slice_get-map (form_of p) fs main.form ∙ ap (option_map (form_of p)) line.1;
        environment = number_of (names p) h.environment;
        subject = typed.0;
        signature = number_of (names p) h.signature;
        input = sorts_are p In symbols ∙ ap (map (spelled_sort p)) input ∙ ap (λ s. s ∷ []) environment;
        typed = sorts_are p Sub symbols ∙ ap (map (spelled_sort p)) subject ∙ ap (λ s. s ∷ []) typed.1;
        output = sorts_are p Out symbols ∙ ap (map (spelled_sort p)) output ∙ ap (λ s. s ∷ []) signature;
        many = omega (arith, places_many p symbols, ap length input, ap length subject, ap length output);
        empty = constructor_at p d productions m.empty main.empty h.environment [] h.empty ∙ ap (λ s. Some (record { sort = s; kids = [] })) environment;
        add = constructor_at p d productions m.add main.add h.environment (of_sort h.environment ∷ of_kind Id ∷ of_sort h.signature ∷ []) h.add
            ∙ (λ i. Some (record { sort = environment i; kids = environment i ∷ TheSort.Lex Id ∷ signature i ∷ [] }));
      }
