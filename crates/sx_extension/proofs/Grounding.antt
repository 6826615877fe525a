-- What an extension adds leaves sorts, stems and forms as they are.
use Rattle.std.proofs.Common.{◌≡◌, ℕ, ◌<◌, inl, inr, Bool, true, false, cond, List, [], ◌∷◌, ◌++◌, length, length-append, map, Contains, refl, ap, ◌∙◌, sym, subst, arith}
use Rattle.std.specs.Prelude.{slice_get, flat_map}
use Rattle.std.specs.List.{AllByRecursion}
use Rattle.std.proofs.lemmas.List.{length-map}
use Rattle.std.proofs.lemmas.Option.{slice_get_within}
use Rattle.sx_term.specs.declared.sort.Sort.{Sort}
use Rattle.sx_term.specs.declared.sort.Sort.TheVariants as TheSort
use Rattle.sx_grammar.specs.Grammar.{Text}
use Rattle.sx_grammar.specs.Parts.{Line, Parts, names, number_of, numbered_line, symbol_sorts}
use Rattle.sx_grammar.specs.Made.{IsGrammar}
use Rattle.sx_grammar.specs.Told.{is_typed, sort_with, IsSortOfLabel}
use Rattle.sx_grammar.proofs.Finding.{at_contains, is_head, in_flat_map, mapped_at, named_at}
use Rattle.sx_earley.specs.Completed.{IsSort}
use Rattle.sx_earley.specs.Tokens.{Stems}
use Rattle.sx_rules.specs.declared.rule.Place.{Place as PlaceOf}
use Rattle.sx_directives.specs.declared.rows.FormLine.{FormLine}
use Rattle.sx_directives.specs.declared.rows.VarLine.{VarLine}
use Rattle.sx_directives.specs.declared.spelled.SpelledSort.TheVariants.{Lex as Lexical, Named}
use Rattle.sx_directives.specs.declared.spelled.FormSymbol.{FormSymbol}
use Rattle.sx_directives.specs.declared.spelled.FormSymbol.TheVariants.{Lit, Place}
use Rattle.sx_notation.specs.RuleParts.{judgement_sort, rule_parts}
use Rattle.sx_notation.specs.RuleLaws.{places_of, form_of, HasSortOf, HaveSortsOf}
use Rattle.sx_notation.specs.Language.{FormFits}
use Rattle.sx_notation.proofs.Growing.{got_before}
use Rattle.sx_language.specs.RuleLine.{Reader, CanReadRules}
use Rattle.sx_language.specs.States.{IsNameOfSort, IsSortNamed, AreStems}
use Rattle.sx_language.proofs.Judgements.{can_read}
use Rattle.sx_language.proofs.FitForms.{subjects_read}
use Rattle.sx_extension.specs.Grounds.{Ground, GroundHasForms, IsGroundBefore}
use Rattle.sx_extension.specs.Readings.{with_own}

-- ---- the same sorts

-- parts with the same sorts have the same names of sorts and the same forms
module _ (p q : Parts) (same : p.sorts ≡ q.sorts) where
  same_names : names p ≡ names q
  same_names = ap (map (λ s. s.name)) same

  symbol_kept : (s : FormSymbol) → HasSortOf p s → HasSortOf q s
  symbol_kept (Lit text) h = tt
  symbol_kept (Place role (Lexical kind)) h = tt
  symbol_kept (Place role (Named name least)) h = subst (λ (ns : List Text). Contains ns name) same_names h

  symbols_kept : (ss : List FormSymbol) → AllByRecursion (HasSortOf p) ss → AllByRecursion (HasSortOf q) ss
  symbols_kept [] h = tt
  symbols_kept (s ∷ ss) h = (symbol_kept s h.0, symbols_kept ss h.1)

  pub sorts_kept : (fs : List FormLine) → HaveSortsOf p fs → HaveSortsOf q fs
  sorts_kept [] h = tt
  sorts_kept (f ∷ fs) h = (symbols_kept f.symbols.items h.0, sorts_kept fs h.1)

  places_kept : (ss : List FormSymbol) → flat_map (places_of p) ss ≡ flat_map (places_of q) ss
  places_kept [] = refl
  places_kept (Lit text ∷ ss) = places_kept ss
  places_kept (Place role (Lexical kind) ∷ ss) = ap (λ (x : List PlaceOf). record { role = role; sort = TheSort.Lex kind } ∷ x) (places_kept ss)
  places_kept (Place role (Named name least) ∷ ss) =
      λ i. record { role = role; sort = sort_with (same i) (number_of (map (λ s. s.name) (same i)) name) } ∷ places_kept ss i

  pub forms_kept : (fs : List FormLine) → map (form_of p) fs ≡ map (form_of q) fs
  forms_kept [] = refl
  forms_kept (f ∷ fs) = λ i. record { name = f.name; places = places_kept f.symbols.items i } ∷ forms_kept fs i

  name_kept : (name : Text) → IsNameOfSort p name → IsNameOfSort q name
  name_kept name (inl k) = inl k
  name_kept name (inr h) = inr (subst (λ (ns : List Text). Contains ns name) same_names h)

  pub names_kept : (vs : List VarLine) → AllByRecursion (λ v. IsNameOfSort p v.sort) vs → AllByRecursion (λ v. IsNameOfSort q v.sort) vs
  names_kept [] h = tt
  names_kept (v ∷ vs) h = (name_kept v.sort h.0, names_kept vs h.1)

-- the sorts of stems have names
pub stems_named : (p : Parts) (vs : List VarLine) (ss : Stems) → AreStems p vs ss → AllByRecursion (λ v. IsNameOfSort p v.sort) vs
stems_named p [] ss h = tt
stems_named p (v ∷ vs) [] h = absurd h
stems_named p (v ∷ vs) (s ∷ ss) h = (named v.sort s.1 h.1, stems_named p vs ss h.2)
  where
    named : (name : Text) (sort : Sort) → IsSortNamed p name sort → IsNameOfSort p name
    named name sort (inl x) = inl (x.0, x.1)
    named name sort (inr x) = inr x.1

pub all_append : {X : Type 0} (P : X → Type 0) (xs ys : List X) → AllByRecursion P xs → AllByRecursion P ys → AllByRecursion P (xs ++ ys)
all_append P [] ys h k = k
all_append P (x ∷ xs) ys h k = (h.0, all_append P xs ys h.1 k)

-- ---- the sorts of productions

-- the sort of a production of a grammar is one of the grammar of rules
pub sort_read : (p : Parts) (fs : List FormLine) → IsGrammar p → (number : ℕ) (s : Sort) → IsSortOfLabel p number s → IsSort (rule_parts p fs) s
sort_read p fs is number s h =
    let line = mapped_at (numbered_line (names p)) p.productions number h.0 h.1 in
    let has = at_contains p.productions number line.0 line.1 in
    let n = number_of (names p) line.0.sort in
    let named = named_at (names p) line.0.sort
    (λ missing. is.0.0.0.0.1 line.0.sort (in_flat_map (λ l. l.sort ∷ flat_map symbol_sorts l.symbols) p.productions line.0 line.0.sort has (is_head line.0.sort (flat_map symbol_sorts line.0.symbols))) (inl missing)) in
    let low : n < length p.sorts = omega (arith, slice_get_within (names p) n line.0.sort named, length-map p.sorts (λ x. x.name)) in
    let number_is : n ≡ h.0.sort = ap (λ r. r.sort) line.2 in
    subst (λ (x : Sort). IsSort (rule_parts p fs) x) (ap (sort_with p.sorts) number_is ∙ sym h.2) (at_sort n low)
  where
    at_sort : (n : ℕ) → n < length p.sorts → IsSort (rule_parts p fs) (sort_with p.sorts n)
    at_sort n low = by (is_typed (slice_get p.sorts n)) refl
      where
        within : n < length (rule_parts p fs).sorts
        within = omega (arith, low, length-append p.sorts (judgement_sort ∷ []))

        by : (b : Bool) → is_typed (slice_get p.sorts n) ≡ b → IsSort (rule_parts p fs) (cond b (TheSort.Typed n) (TheSort.Plain n))
        by true e = (within, ap is_typed (got_before p.sorts (judgement_sort ∷ []) n low) ∙ e)
        by false e = (within, ap is_typed (got_before p.sorts (judgement_sort ∷ []) n low) ∙ e)

-- ---- the reader

module _ (g : Ground) (before : IsGroundBefore g) (own : List Line) where
  pub same_sorts : (with_own g own).sorts ≡ g.language.sorts
  same_sorts = ap (λ (p : Parts). p.sorts) before.goes_on

  -- lines of rules are read by the grammar of rules, whatever form lines it is told by
  pub reads : (lines : List FormLine) → GroundHasForms g lines → IsGrammar (with_own g own) → (vs : List VarLine) (r : Reader) → AreStems (with_own g own) vs r.stems →
      r.parts ≡ rule_parts (with_own g own) lines → r.forms ≡ g.forms → CanReadRules r
  reads lines has is vs r stems parts forms =
      let p = with_own g own in
      let stated : r.forms ≡ map (form_of p) lines = forms ∙ has.forms ∙ forms_kept g.language p (sym same_sorts) lines in
      let many : length r.forms ≡ length lines = ap length stated ∙ length-map lines (form_of p) in
      can_read p lines is vs r stems parts many
      (subjects_read p lines r.forms stated (sorts_kept g.language p (sym same_sorts) lines has.known) (subst (AllByRecursion FormFits) (sym forms) before.fit))
