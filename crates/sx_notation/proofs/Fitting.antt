-- Goals that fit the forms of a rule grammar can be printed.
use Rattle.std.proofs.Common.{◌≡◌, ℕ, ◌<◌, ◌≤◌, get_or, Bool, true, false, List, [], ◌∷◌, length, map, drop, Some, sym, refl, ap, ◌∙◌, subst, arith}
use Rattle.std.specs.Prelude.{None, Option, slice_get, option_map, unwrap_or, flat_map}
use Rattle.std.specs.Borrow.{Bor}
use Rattle.std.specs.List.{AllByRecursion}
use Rattle.std.proofs.lemmas.List.{length-map}
use Rattle.std.proofs.lemmas.Option.{slice_get_read, slice_get-map, slice_get_within}
use Rattle.sx_term.specs.declared.sort.Sort.{Sort}
use Rattle.sx_term.specs.declared.term.Term.{Term}
use Rattle.sx_term.specs.Tree.{Tree, depth_of}
use Rattle.sx_grammar.specs.declared.sort_line.SortLine.{SortLine}
use Rattle.sx_grammar.specs.declared.numbered.NumberedSymbol.{NumberedSymbol}
use Rattle.sx_grammar.specs.declared.numbered.NumberedProduction.{NumberedProduction}
use Rattle.sx_grammar.specs.Grammar.{Text, Symbol, literal, lexical, part, Grammar, Stem}
use Rattle.sx_grammar.specs.Parts.{Parts, numbered}
use Rattle.sx_grammar.specs.Numbered.{symbol, production}
use Rattle.sx_grammar.specs.Tables.{literals_of}
use Rattle.sx_grammar.specs.Told.{kid_sorts}
use Rattle.sx_grammar.specs.Print.{print_symbols}
use Rattle.sx_print.specs.Printed.{parts_in, HasProductions}
use Rattle.sx_print.proofs.Fitting.{built}
use Rattle.sx_rules.specs.declared.rule.Form.{Form}
use Rattle.sx_rules.specs.declared.rule.Place.{Place}
use Rattle.sx_rules.specs.Deep.{AreShallow}
use Rattle.sx_rules.specs.Modes.{Goal}
use Rattle.sx_rules.specs.Views.{FormData, form, forms, places_or_none, places_at, is_out, modes_of}
use Rattle.sx_notation.specs.Forms.{HasForms, HaveFits, MayFit, GoalFits}
use Rattle.sx_notation.specs.GoalText.{contents, printer, production_symbols, form_label, goal_tokens}
use Rattle.sx_notation.specs.Placed.{shown_term, IsPuttable, ArePuttable}

-- there are as many parts as sorts of parts
parts_length : (sorts : List SortLine) (symbols : List Symbol) → length (flat_map (kid_sorts sorts) symbols) ≡ parts_in symbols
parts_length sorts [] = refl
parts_length sorts (literal text ∷ rest) = parts_length sorts rest
parts_length sorts (lexical kind ∷ rest) = let h = parts_length sorts rest in omega (arith, h)
parts_length sorts (part sort least ∷ rest) = let h = parts_length sorts rest in omega (arith, h)

-- something stands at each place
contents_length : {X : Type 0} (outs : List Bool) (ins os : List X) → length (contents outs ins os) ≡ length outs
contents_length [] ins os = refl
contents_length (false ∷ outs) ins os = let h = contents_length outs (drop 1 ins) os in omega (arith, h)
contents_length (true ∷ outs) ins os = let h = contents_length outs ins (drop 1 os) in omega (arith, h)

pub as_many_forms : (fs : List Form) (known : List FormData) → forms fs ≡ known → length fs ≡ length known
as_many_forms fs known same = sym (length-map fs form) ∙ ap length same

-- the outputs among the places of a form
modes_here : (fs : List Form) (known : List FormData) (n : ℕ) (f : Form) (ps : List Place) → forms fs ≡ known → n < length fs → f ≡ get_or fs n f → ps ≡ f.places.items → map (λ p. is_out p.role) ps ≡ modes_of known n
modes_here fs known n f ps same lt at is =
    let found : slice_get known n ≡ Some (form f) = ap (λ x. slice_get x n) (sym same) ∙ slice_get-map form fs n ∙ ap (option_map form) (slice_get_read fs (length fs) n f refl lt at) in
    ap (map (λ p. is_out p.role)) is ∙ ap (λ x. map (λ p. is_out p.role) (places_or_none x)) (sym found)

-- what stands at the places of the goal's form
pub here_is : (fs : List Form) (known : List FormData) (n : ℕ) (d : FormData) (f : Form) (ps : List Place) (ins terms os : List Tree) (here : List (Option Tree)) → forms fs ≡ known → slice_get known n ≡ Some d → f ≡ get_or fs n f
    → ps ≡ (get_or fs n f).places.items → ins ≡ terms → here ≡ contents (map (λ p. is_out p.role) ps) ins os → here ≡ contents (modes_of known n) terms os
here_is fs known n d f ps ins terms os here same found at is inputs holds =
    let lt : n < length fs = let h = slice_get_within known n d found in let e = as_many_forms fs known same in omega (arith, h, e) in
    holds ∙ (λ i. contents (modes_here fs known n f ps same lt at (is ∙ ap (λ x. x.places.items) (sym at)) i) (inputs i) os)

-- what stands at the places of the goal's form
abbrev pub contents_of : List FormData → Goal → Option (List Tree) → List (Option Tree)
contents_of known goal got = contents (modes_of known goal.form) goal.terms (unwrap_or got [])

module _ (p : Parts) (known : List FormData) (goal : Goal) (m : ℕ) (q : NumberedProduction) (ss : List NumberedSymbol) (many : m ≡ length known)
    (same : slice_get (numbered p).productions (form_label (length p.productions) m goal.form) ≡ Some (production (literals_of p) q)) (symbols : ss ≡ q.symbols.items) where
  found : slice_get (numbered p).productions (form_label (length p.productions) (length known) goal.form) ≡ Some (production (literals_of p) q)
  found = ap (λ n. slice_get (numbered p).productions (form_label (length p.productions) n goal.form)) (sym many) ∙ same

  -- the tokens of the symbols and contents are those of the goal
  pub row_is : (names : List Text) (got : Option (List Tree)) (here : List (Option Tree)) → here ≡ contents_of known goal got
      → print_symbols (map (symbol (literals_of p)) ss) (map (printer (numbered p) names) here) ≡ goal_tokens p names known goal got
  row_is names got here is =
      (λ i. print_symbols (map (symbol (literals_of p)) (symbols i)) (map (printer (numbered p) names) (is i)))
      ∙ ap (λ r. print_symbols (production_symbols r) (map (printer (numbered p) names) (contents_of known goal got))) (sym found)

  -- as many parts as contents
  pub as_many : (variables : ℕ) (got : Option (List Tree)) (here : List (Option (Bor Term))) → HasForms p known → GoalFits (numbered p) variables known goal got
      → map shown_term here ≡ contents_of known goal got → parts_in (map (symbol (literals_of p)) ss) ≡ length here
  as_many variables got here has fits is =
      let at = has.each goal.form fits.form fits.is in
      let one : Some at.0 ≡ Some (production (literals_of p) q) = sym at.1 ∙ found in
      let r : at.0 ≡ production (literals_of p) q = cc in
      let left : parts_in (map (symbol (literals_of p)) ss) ≡ length fits.form.places =
      ap (λ x. parts_in (map (symbol (literals_of p)) x)) symbols ∙ sym (ap (λ x. parts_in x.symbols) r) ∙ sym (parts_length p.sorts at.0.symbols) ∙ ap length at.2 ∙ length-map fits.form.places (λ place. place.sort) in
      let right : length here ≡ length fits.form.places =
      sym (length-map here shown_term) ∙ ap length is ∙ contents_length (modes_of known goal.form) goal.terms (unwrap_or got [])
      ∙ length-map (places_at known goal.form) (λ place. is_out place.role) ∙ ap (λ x. length (places_or_none x)) fits.is in
      left ∙ sym right

-- each of the terms is at most 1,000 deep and built by the grammar
abbrev AreBuiltTerms : Grammar → ℕ → List Tree → Type 0
AreBuiltTerms g variables ts = AllByRecursion (λ t. (depth_of t ≤ 1000) × HasProductions g variables t) ts

fits_built : (g : Grammar) (variables : ℕ) (stems : List Stem) → length stems ≤ variables → (sorts : List Sort) (ts : List Tree) → HaveFits g stems sorts ts → AreShallow ts → AreBuiltTerms g variables ts
fits_built g variables stems named [] [] fits shallow = tt
fits_built g variables stems named [] (t ∷ ts) fits shallow = absurd fits
fits_built g variables stems named (s ∷ ss) [] fits shallow = absurd fits
fits_built g variables stems named (s ∷ ss) (t ∷ ts) fits shallow =
    ((shallow.0, built g stems variables named fits.0), fits_built g variables stems named ss ts fits.1 shallow.1)

may_fit_built : (g : Grammar) (variables : ℕ) (stems : List Stem) → length stems ≤ variables → (sorts : List Sort) (got : Option (List Tree)) → MayFit g stems sorts got → AreShallow (unwrap_or got []) → AreBuiltTerms g variables (unwrap_or got [])
may_fit_built g variables stems named sorts None fits shallow = tt
may_fit_built g variables stems named sorts (Some ts) fits shallow = fits_built g variables stems named sorts ts fits shallow

first_built : (g : Grammar) (variables : ℕ) (ts : List Tree) → AreBuiltTerms g variables ts → IsPuttable g variables (slice_get ts 0)
first_built g variables [] are = tt
first_built g variables (t ∷ ts) are = are.0

rest_built : (g : Grammar) (variables : ℕ) (ts : List Tree) → AreBuiltTerms g variables ts → AreBuiltTerms g variables (drop 1 ts)
rest_built g variables [] are = tt
rest_built g variables (t ∷ ts) are = are.1

contents_puttable : (g : Grammar) (variables : ℕ) (outs : List Bool) (ins os : List Tree) → AreBuiltTerms g variables ins → AreBuiltTerms g variables os → ArePuttable g variables (contents outs ins os)
contents_puttable g variables [] ins os h k = tt
contents_puttable g variables (false ∷ outs) ins os h k = (first_built g variables ins h, contents_puttable g variables outs (drop 1 ins) os (rest_built g variables ins h) k)
contents_puttable g variables (true ∷ outs) ins os h k = (first_built g variables os k, contents_puttable g variables outs ins (drop 1 os) h (rest_built g variables os k))

-- what stands at the places of a goal that fits can be put
pub puttable : (g : Grammar) (variables : ℕ) (known : List FormData) (goal : Goal) (got : Option (List Tree)) (here : List (Option (Bor Term))) → GoalFits g variables known goal got → AreShallow goal.terms → AreShallow (unwrap_or got [])
    → map shown_term here ≡ contents_of known goal got → ArePuttable g variables (map shown_term here)
puttable g variables known goal got here fits shallow outputs is =
    subst (ArePuttable g variables) (sym is) (contents_puttable g variables (modes_of known goal.form) goal.terms (unwrap_or got [])
    (fits_built g variables fits.stems fits.named _ goal.terms fits.inputs_fit shallow)
    (may_fit_built g variables fits.stems fits.named _ got fits.outputs_fit outputs))
