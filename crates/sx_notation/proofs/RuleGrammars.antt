-- The grammar by which rules are read, and the grammar of the language.
use Rattle.std.proofs.Common.{◌≡◌, ℕ, zero, suc, ◌+◌, ◌<◌, List, [], ◌∷◌, ◌++◌, length, length-append, map, Some, refl, ap, ◌∙◌, subst, arith, Contains, cond}
use Rattle.std.specs.Prelude.{None, Option, slice_get, option_map, flat_map}
use Rattle.std.specs.List.{AllByRecursion}
use Rattle.std.proofs.lemmas.Option.{slice_get_within, slice_get-map, none-some}
use Rattle.std.proofs.lemmas.List.{length-map, map-append}
use Rattle.sx_term.specs.declared.sort.Sort.{Sort}
use Rattle.sx_term.specs.declared.sort.Sort.TheVariants as TheSort
use Rattle.sx_term.specs.Tree.{Tree, Trees}
use Rattle.sx_term.specs.Sorts.{HaveSorts}
use Rattle.sx_grammar.specs.Grammar.{Text, Symbol, Production, Stem}
use Rattle.sx_grammar.specs.Parts.{Parts, names, number_of, numbered, numbered_symbol, numbered_line}
use Rattle.sx_grammar.specs.Made.{IsGrammar}
use Rattle.sx_grammar.specs.Told.{is_typed, sort_with, kid_sorts, shapes_of}
use Rattle.sx_grammar.specs.Print.{Fits, node_fits, lexeme_fits, hole_fits, AllFit, none_fit, past_literal_fit, lexical_fit, part_fit}
use Rattle.sx_grammar.proofs.Finding.{mapped_at, named_at}
use Rattle.sx_grammar.proofs.Widening.{number_stays, productions_grown, got_kept}
use Rattle.sx_print.specs.Sorted.{place_of_sort}
use Rattle.sx_print.proofs.Sorting.{sorted_fits}
use Rattle.sx_rules.specs.Views.{modes_of, sorts_of}
use Rattle.sx_rules.specs.Modes.{inputs, outputs}
use Rattle.sx_directives.specs.declared.spelled.SpelledSort.TheVariants.{Lex, Named}
use Rattle.sx_directives.specs.declared.spelled.FormSymbol.{FormSymbol}
use Rattle.sx_directives.specs.declared.spelled.FormSymbol.TheVariants.{Lit, Place}
use Rattle.sx_directives.specs.declared.rows.FormLine.{FormLine}
use Rattle.sx_notation.specs.RuleParts.{judgement_sort, symbol_for, form_line, apart_lines, rule_parts}
use Rattle.sx_notation.specs.Forms.{IsFormAt, HaveFits, MayFit}
use Rattle.sx_notation.specs.GoalText.{form_label}
use Rattle.sx_notation.specs.RuleLaws.{places_of, form_of, HasSortOf, HaveSortsOf, MayHaveSorts, ProductionsStay, FormsFollow, SortedGoalsFit}
use Rattle.sx_notation.proofs.Growing.{got_before, got_behind-at}

-- the names of the sorts go on
names_go_on : (p : Parts) (fs : List FormLine) → names (rule_parts p fs) ≡ names p ++ judgement_sort.name ∷ []
names_go_on p fs = map-append (λ s. s.name) p.sorts (judgement_sort ∷ [])

-- the sort with a number that is there stays
sort_stays : (p : Parts) (fs : List FormLine) (n : ℕ) → n < length p.sorts → sort_with (rule_parts p fs).sorts n ≡ sort_with p.sorts n
sort_stays p fs n lt = ap (λ line. cond (is_typed line) (TheSort.Typed n) (TheSort.Plain n)) (got_before p.sorts (judgement_sort ∷ []) n lt)

known_number : (p : Parts) (fs : List FormLine) (name : Text) → ¬ (¬ (Contains (names p) name)) → number_of (names (rule_parts p fs)) name ≡ number_of (names p) name
known_number p fs name known = ap (λ ns. number_of ns name) (names_go_on p fs) ∙ number_stays (names p) (judgement_sort.name ∷ []) name known

pub productions_stay : ProductionsStay
productions_stay p fs label r is at =
    let more = map form_line fs ++ apart_lines in
    ap (λ (l : List Production). slice_get l label) (productions_grown p (judgement_sort ∷ []) more is.0.0.0.0)
    ∙ got_kept (numbered p).productions (map (numbered_line (names (rule_parts p fs))) more) label r at

-- a sort that is spelled is the same
sort_same : (p : Parts) (fs : List FormLine) (name : Text) → Contains (names p) name → sort_with (rule_parts p fs).sorts (number_of (names (rule_parts p fs)) name) ≡ sort_with p.sorts (number_of (names p) name)
sort_same p fs name has =
    let known : ¬ (¬ (Contains (names p) name)) = λ missing. missing has in
    let within : number_of (names p) name < length p.sorts =
    omega (arith, slice_get_within (names p) (number_of (names p) name) name (named_at (names p) name known), length-map p.sorts (λ s. s.name)) in
    ap (sort_with (rule_parts p fs).sorts) (known_number p fs name known) ∙ sort_stays p fs (number_of (names p) name) within

-- the parts of a form's production have the sorts of the form's places
sorts_same : (p : Parts) (fs : List FormLine) (ss : List FormSymbol) → AllByRecursion (HasSortOf p) ss
    → flat_map (kid_sorts (rule_parts p fs).sorts) (map (numbered_symbol (names (rule_parts p fs))) (map symbol_for ss)) ≡ map (λ place. place.sort) (flat_map (places_of p) ss)
sorts_same p fs [] have = refl
sorts_same p fs (Lit text ∷ ss) have = sorts_same p fs ss have.1
sorts_same p fs (Place role (Lex kind) ∷ ss) have = ap (λ x. TheSort.Lex kind ∷ x) (sorts_same p fs ss have.1)
sorts_same p fs (Place role (Named name least) ∷ ss) have = λ i. sort_same p fs name have.0 i ∷ sorts_same p fs ss have.1 i

have_sorts_at : (p : Parts) (fs : List FormLine) (n : ℕ) (f : FormLine) → HaveSortsOf p fs → slice_get fs n ≡ Some f → AllByRecursion (HasSortOf p) f.symbols.items
have_sorts_at p [] n f have at = absurd (none-some f at)
have_sorts_at p (g ∷ fs) zero f have at = let e : g ≡ f = cc in subst (λ x. AllByRecursion (HasSortOf p) x.symbols.items) e have.0
have_sorts_at p (g ∷ fs) (suc n) f have at = have_sorts_at p fs n f have.1 at

form_follows : (p : Parts) (fs : List FormLine) → HaveSortsOf p fs → (n : ℕ) (f : FormLine) → slice_get fs n ≡ Some f
    → IsFormAt (rule_parts p fs) (form_label (length (rule_parts p fs).productions) (length (map (form_of p) fs)) n) (form_of p f)
form_follows p fs have n f at =
    let more = map form_line fs ++ apart_lines in
    let lt : n < length (map form_line fs) = omega (arith, slice_get_within fs n f at, length-map fs form_line) in
    let found : slice_get more n ≡ Some (form_line f) = got_before (map form_line fs) apart_lines n lt ∙ slice_get-map form_line fs n ∙ ap (option_map form_line) at in
    let label = form_label (length (rule_parts p fs).productions) (length (map (form_of p) fs)) n in
    let place : label ≡ length p.productions + n =
    omega (arith, length-append p.productions more, length-append (map form_line fs) apart_lines, length-map fs form_line, length-map fs (form_of p)) in (
      numbered_line (names (rule_parts p fs)) (form_line f),
      slice_get-map (numbered_line (names (rule_parts p fs))) (p.productions ++ more) label
          ∙ ap (option_map (numbered_line (names (rule_parts p fs)))) (got_behind-at p.productions more label n place ∙ found),
      sorts_same p fs f.symbols.items (have_sorts_at p fs n f have at),
    )

pub forms_follow : FormsFollow
forms_follow p fs have = record {
  room = let more = map form_line fs ++ apart_lines in
      omega (arith, length-append p.productions more, length-append (map form_line fs) apart_lines, length-map fs form_line, length-map fs (form_of p));
  each = λ n form at.
      let f = mapped_at (form_of p) fs n form at in
      subst (IsFormAt (rule_parts p fs) (form_label (length (rule_parts p fs).productions) (length (map (form_of p) fs)) n)) f.2 (form_follows p fs have n f.0 f.1);
}

module _ (p : Parts) (fs : List FormLine) (is : IsGrammar p) (stems : List Stem) where
  mutual
    -- what fits the grammar fits that by which rules are read
    fits_stay : {place : Stem} {t : Tree} → Fits (numbered p) stems place t → Fits (numbered (rule_parts p fs)) stems place t
    fits_stay (node_fits {label = label} {p = r} e all) = node_fits (productions_stay p fs label r is e) (all_stay all)
    fits_stay lexeme_fits = lexeme_fits
    fits_stay (hole_fits h) = hole_fits h

    all_stay : {symbols : List Symbol} {kids : Trees} → AllFit (numbered p) stems symbols kids → AllFit (numbered (rule_parts p fs)) stems symbols kids
    all_stay none_fit = none_fit
    all_stay (past_literal_fit fits) = past_literal_fit (all_stay fits)
    all_stay (lexical_fit one fits) = lexical_fit (fits_stay one) (all_stay fits)
    all_stay (part_fit one fits) = part_fit (fits_stay one) (all_stay fits)

have_fits : (p : Parts) (fs : List FormLine) → IsGrammar p → (vars sorts : List Sort) (ts : List Tree) → HaveSorts (shapes_of p) vars ts sorts → HaveFits (numbered (rule_parts p fs)) (map place_of_sort vars) sorts ts
have_fits p fs is vars [] [] have = tt
have_fits p fs is vars [] (t ∷ ts) have = absurd have
have_fits p fs is vars (s ∷ ss) [] have = absurd have
have_fits p fs is vars (s ∷ ss) (t ∷ ts) have = (fits_stay p fs is (map place_of_sort vars) (sorted_fits p vars t s have.0), have_fits p fs is vars ss ts have.1)

may_fit : (p : Parts) (fs : List FormLine) → IsGrammar p → (vars sorts : List Sort) (got : Option (List Tree)) → MayHaveSorts (shapes_of p) vars got sorts → MayFit (numbered (rule_parts p fs)) (map place_of_sort vars) sorts got
may_fit p fs is vars sorts None have = tt
may_fit p fs is vars sorts (Some ts) have = have_fits p fs is vars sorts ts have

pub sorted_goals_fit : SortedGoalsFit
sorted_goals_fit p fs known form vars variables goal got is named at sorted outs = record {
  form = form;
  is = at;
  stems = map place_of_sort vars;
  named = omega (arith, named, length-map vars place_of_sort);
  inputs_fit = have_fits p fs is vars (inputs (modes_of known goal.form) (sorts_of known goal.form)) goal.terms sorted;
  outputs_fit = may_fit p fs is vars (outputs (modes_of known goal.form) (sorts_of known goal.form)) got outs;
}
