-- The sorts of forms are those of the language, and the parts are within the limits of grammars.
use Rattle.std.proofs.Common.{◌≡◌, ℕ, zero, suc, ◌+◌, ◌≤◌, ◌⊎◌, inl, inr, List, [], ◌∷◌, ◌++◌, length, length-append, map, Some, Contains, ap, ◌∙◌, sym, subst, arith}
use Rattle.std.specs.Prelude.{slice_get, flat_map, option_map, unwrap_or}
use Rattle.std.specs.List.{AllByRecursion}
use Rattle.std.proofs.lemmas.Grind.{flat_map-append}
use Rattle.std.proofs.lemmas.List.{length-map, map-append}
use Rattle.std.proofs.lemmas.List.Elements.{Contains-append_left, Contains-append_right, Contains-append_cases}
use Rattle.std.proofs.lemmas.Option.{slice_get-map, none-some}
use Rattle.sx_term.specs.declared.role.Role.{Role}
use Rattle.sx_grammar.specs.declared.symbol.Symbol.{Symbol}
use Rattle.sx_grammar.specs.declared.symbol.Symbol.TheVariants as TheSymbol
use Rattle.sx_grammar.specs.Grammar.{Text}
use Rattle.sx_grammar.specs.Parts.{Line, Parts, names, number_of, literals, symbol_literals}
use Rattle.sx_grammar.specs.Parts.{symbol_sorts, sorts_named, bracket_literals}
use Rattle.sx_grammar.specs.Made.{IsGrammar}
use Rattle.sx_grammar.specs.Tables.{IsWithinLimits, HasGoodLevels}
use Rattle.sx_grammar.proofs.Finding.{at_contains, contains_place, is_head, past_head, in_flat_map, mapped_at, named_at}
use Rattle.sx_lines.specs.Words.{is_name}
use Rattle.sx_directives.specs.Spelling.{IsName}
use Rattle.sx_directives.specs.declared.spelled.SpelledSort.TheVariants.{Lex, Named}
use Rattle.sx_directives.specs.declared.spelled.FormSymbol.{FormSymbol}
use Rattle.sx_directives.specs.declared.spelled.FormSymbol.TheVariants.{Lit, Place}
use Rattle.sx_directives.specs.declared.rows.FormLine.{FormLine}
use Rattle.sx_outline.specs.Declarations.{declared_form}
use Rattle.sx_outline.specs.Sized.{HasName, HaveGoodLevels}
use Rattle.sx_notation.specs.RuleParts.{judgement_sort, symbol_for, form_line, apart_lines}
use Rattle.sx_notation.specs.RuleParts.{rule_parts}
use Rattle.sx_notation.specs.RuleLaws.{HasSortOf, HaveSortsOf}

contains_map : {X Y : Type 0} (f : X → Y) (xs : List X) (x : X) → Contains xs x → Contains (map f xs) (f x)
contains_map f xs x has =
    let at = contains_place xs x has in at_contains (map f xs) at.0 (f x) (slice_get-map f xs at.0 ∙ ap (λ o. option_map f o) at.1)

-- the sort of judgements has no name of a line
unnamed : IsName judgement_sort.name → ⊥
unfolding is_name
unnamed h = cc

module _ (p : Parts) (fs : List FormLine) (is : IsGrammar (rule_parts p fs)) where
  -- a sort that a form names is one of the language, or that of judgements
  known_name : (name : Text) → Contains (sorts_named (rule_parts p fs)) name → IsName name → Contains (names p) name
  known_name name has named = at_contains (names p) (number_of (names p) name) name (named_at (names p) name known)
    where
      known : ¬ (¬ (Contains (names p) name))
      known missing = is.0.0.0.0.1 name has (inl (λ here. by (Contains-append_cases (names p) (judgement_sort.name ∷ []) name (subst (λ l. Contains l name) (map-append (λ s. s.name) p.sorts (judgement_sort ∷ [])) here))))
        where
          by : Contains (names p) name ⊎ Contains (judgement_sort.name ∷ []) name → ⊥
          by (inl h) = missing h
          by (inr (zero, lt, e)) = unnamed (subst IsName (sym e) named)
          by (inr (suc k, lt, e)) = absurd (omega (arith, lt))

  symbols_known : (f : FormLine) → Contains (rule_parts p fs).productions (form_line f) → (ss : List FormSymbol) → ((s : FormSymbol) → Contains ss s → Contains f.symbols.items s)
      → AllByRecursion HasName ss → AllByRecursion (HasSortOf p) ss
  symbols_known f has [] inside named = tt
  symbols_known f has (Lit text ∷ ss) inside named = (tt, symbols_known f has ss (λ s h. inside s (past_head (Lit text) ss s h)) named.1)
  symbols_known f has (Place role (Lex kind) ∷ ss) inside named = (tt, symbols_known f has ss (λ s h. inside s (past_head (Place role (Lex kind)) ss s h)) named.1)
  symbols_known f has (Place role (Named name least) ∷ ss) inside named =
      let one : Contains f.symbols.items (Place role (Named name least)) = inside (Place role (Named name least)) (is_head (Place role (Named name least)) ss) in
      let two : Contains (map symbol_for f.symbols.items) (TheSymbol.Part name least) = contains_map symbol_for f.symbols.items (Place role (Named name least)) one in
      let three : Contains (flat_map symbol_sorts (map symbol_for f.symbols.items)) name = in_flat_map symbol_sorts (map symbol_for f.symbols.items) (TheSymbol.Part name least) name two (is_head name []) in
      let four : Contains (sorts_named (rule_parts p fs)) name =
      in_flat_map (λ l. l.sort ∷ flat_map symbol_sorts l.symbols) (rule_parts p fs).productions (form_line f) name has (past_head (form_line f).sort (flat_map symbol_sorts (form_line f).symbols) name three) in
      (known_name name four named.0, symbols_known f has ss (λ s h. inside s (past_head (Place role (Named name least)) ss s h)) named.1)

  forms_known : (gs : List FormLine) → ((f : FormLine) → Contains gs f → Contains (rule_parts p fs).productions (form_line f)) → AllByRecursion (λ f. AllByRecursion HasName f.symbols) (map declared_form gs)
      → HaveSortsOf p gs
  forms_known [] inside named = tt
  forms_known (f ∷ gs) inside named =
      (symbols_known f (inside f (is_head f gs)) f.symbols.items (λ s h. h) named.0, forms_known gs (λ g h. inside g (past_head f gs g h)) named.1)

  pub have_sorts : AllByRecursion (λ f. AllByRecursion HasName f.symbols) (map declared_form fs) → HaveSortsOf p fs
  have_sorts named = forms_known fs
      (λ f h. Contains-append_right p.productions (map form_line fs ++ apart_lines) (form_line f) (Contains-append_left (map form_line fs) apart_lines (form_line f) (contains_map form_line fs f h))) named

-- ---- limits

abbrev IsNoPart : Symbol → Type 0
IsNoPart (TheSymbol.Lit text) = Unit {0}
IsNoPart (TheSymbol.Lex kind) = Unit {0}
IsNoPart (TheSymbol.Part name least) = ⊥

-- a list without parts has none
none_there : (ss : List Symbol) {name : Text} {least : ℕ} → AllByRecursion IsNoPart ss → Contains ss (TheSymbol.Part name least) → ⊥
none_there [] all h = absurd (omega (arith, h.1))
none_there (s ∷ ss) {name} {least} all (zero, lt, e) = subst IsNoPart e all.0
none_there (s ∷ ss) all (suc k, lt, e) = none_there ss all.1 (k, omega (arith, lt), e)

few_literals : (ss : List FormSymbol) → length (flat_map symbol_literals (map symbol_for ss)) ≤ length ss
few_literals [] = omega arith
few_literals (Lit text ∷ ss) = omega (arith, few_literals ss)
few_literals (Place role (Lex kind) ∷ ss) = omega (arith, few_literals ss)
few_literals (Place role (Named name least) ∷ ss) = omega (arith, few_literals ss)

few_form_literals : (fs : List FormLine) → length (flat_map (λ r. flat_map symbol_literals r.symbols) (map form_line fs)) ≤ length (flat_map (λ f. f.symbols) (map declared_form fs))
few_form_literals [] = omega arith
few_form_literals (f ∷ fs) = omega (
  arith,
  few_literals f.symbols.items,
  few_form_literals fs,
  length-append (flat_map symbol_literals (map symbol_for f.symbols.items)) (flat_map (λ r. flat_map symbol_literals r.symbols) (map form_line fs)),
  length-append f.symbols.items (flat_map (λ g. g.symbols) (map declared_form fs)),
)

module _ (p : Parts) (fs : List FormLine) where
  abbrev S : Parts → List Text
  S q = flat_map (λ s. bracket_literals s.brackets) q.sorts

  abbrev L : List Line → List Text
  L ls = flat_map (λ r. flat_map symbol_literals r.symbols) ls

  sort_literals : flat_map (λ s. bracket_literals s.brackets) (rule_parts p fs).sorts ≡ flat_map (λ s. bracket_literals s.brackets) p.sorts ++ []
  sort_literals = flat_map-append (λ s. bracket_literals s.brackets) p.sorts (judgement_sort ∷ [])

  line_literals : L (rule_parts p fs).productions ≡ L p.productions ++ (L (map form_line fs) ++ L apart_lines)
  line_literals = flat_map-append (λ r. flat_map symbol_literals r.symbols) p.productions (map form_line fs ++ apart_lines)
      ∙ ap (λ x. L p.productions ++ x) (flat_map-append (λ r. flat_map symbol_literals r.symbols) (map form_line fs) apart_lines)

  -- literals of the language are those of the grammar of rules
  pub literal_stays : (text : Text) → Contains (literals p) text → Contains (literals (rule_parts p fs)) text
  literal_stays text h = by (Contains-append_cases (S p) (L p.productions) text h)
    where
      by : Contains (S p) text ⊎ Contains (L p.productions) text → Contains (literals (rule_parts p fs)) text
      by (inl k) = Contains-append_left (S (rule_parts p fs)) (L (rule_parts p fs).productions) text (subst (λ l. Contains l text) (sym sort_literals) (Contains-append_left (S p) [] text k))
      by (inr k) =
          Contains-append_right (S (rule_parts p fs)) (L (rule_parts p fs).productions) text
          (subst (λ l. Contains l text) (sym line_literals) (Contains-append_left (L p.productions) (L (map form_line fs) ++ L apart_lines) text k))

  module _ (size : ℕ) (low : size ≤ 262144) (few : length p.sorts + length p.productions + length fs + (length (literals p) + length (flat_map (λ f. f.symbols) (map declared_form fs))) ≤ size) (levels : HasGoodLevels p)
      (asked : HaveGoodLevels (map declared_form fs)) where
    pub within_limits : IsWithinLimits p
    within_limits = record { sorts = omega (arith, low, few); productions = omega (arith, low, few); literals = omega (arith, low, few); levels = levels }

    apart_level : (r : Line) → Contains apart_lines r → r.level ≤ 99
    apart_level r (zero, lt, e) = let q = ap (λ x. x.level) e in omega (arith, q)
    apart_level r (suc zero, lt, e) = let q = ap (λ x. x.level) e in omega (arith, q)
    apart_level r (suc (suc zero), lt, e) = let q = ap (λ x. x.level) e in omega (arith, q)
    apart_level r (suc (suc (suc k)), lt, e) = absurd (omega (arith, lt))

    form_level : (gs : List FormLine) (r : Line) → Contains (map form_line gs) r → r.level ≤ 99
    form_level [] r h = absurd (omega (arith, h.1))
    form_level (g ∷ gs) r (zero, lt, e) = let q = ap (λ x. x.level) e in omega (arith, q)
    form_level (g ∷ gs) r (suc k, lt, e) = form_level gs r (k, omega (arith, lt), e)

    level_low : (r : Line) → Contains (rule_parts p fs).productions r → r.level ≤ 99
    level_low r h = by (Contains-append_cases p.productions (map form_line fs ++ apart_lines) r h)
      where
        after : Contains (map form_line fs) r ⊎ Contains apart_lines r → r.level ≤ 99
        after (inl k) = form_level fs r k
        after (inr k) = apart_level r k

        by : Contains p.productions r ⊎ Contains (map form_line fs ++ apart_lines) r → r.level ≤ 99
        by (inl k) = levels.levels r k
        by (inr k) = after (Contains-append_cases (map form_line fs) apart_lines r k)

    -- the symbol of a form that a part is
    part_of : (ss : List FormSymbol) (name : Text) (least : ℕ) → Contains (map symbol_for ss) (TheSymbol.Part name least) → (role : Role) × Contains ss (Place role (Named name least))
    part_of ss name least h =
        let at = contains_place (map symbol_for ss) (TheSymbol.Part name least) h in
        let s = mapped_at symbol_for ss at.0 (TheSymbol.Part name least) at.1 in by s.0 s.2 (at_contains ss at.0 s.0 s.1)
      where
        by : (s : FormSymbol) → symbol_for s ≡ TheSymbol.Part name least → Contains ss s → (role : Role) × Contains ss (Place role (Named name least))
        by (Lit text) e has = cc
        by (Place role (Lex kind)) e has = cc
        by (Place role (Named name' least')) e has =
            let q : name' ≡ name = cc in
            let r : least' ≡ least = cc in
            (role, subst (λ l. Contains ss (Place role (Named name l))) r (subst (λ n. Contains ss (Place role (Named n least'))) q has))

    form_asked : (r : Line) (name : Text) (least : ℕ) → Contains (map form_line fs) r → Contains r.symbols (TheSymbol.Part name least) → least ≤ 99
    form_asked r name least h k =
        let at = contains_place (map form_line fs) r h in
        let f = mapped_at form_line fs at.0 r at.1 in
        let part = part_of f.0.symbols.items name least (subst (λ l. Contains l.symbols (TheSymbol.Part name least)) (sym f.2) k) in
        asked (declared_form f.0) part.0 name least (contains_map declared_form fs f.0 (at_contains fs at.0 f.0 f.1)) part.1

    no_part_in : (k : ℕ) (r : Line) (name : Text) (least : ℕ) → slice_get apart_lines k ≡ Some r → Contains r.symbols (TheSymbol.Part name least) → ⊥
    no_part_in zero r name least e h = let q = ap (λ o. unwrap_or (option_map (λ x. x.symbols) o) []) e in none_there r.symbols (subst (AllByRecursion IsNoPart) q (tt, (tt, (tt, tt)))) h
    no_part_in (suc zero) r name least e h = let q = ap (λ o. unwrap_or (option_map (λ x. x.symbols) o) []) e in none_there r.symbols (subst (AllByRecursion IsNoPart) q (tt, (tt, (tt, tt)))) h
    no_part_in (suc (suc zero)) r name least e h = let q = ap (λ o. unwrap_or (option_map (λ x. x.symbols) o) []) e in none_there r.symbols (subst (AllByRecursion IsNoPart) q (tt, (tt, (tt, tt)))) h
    no_part_in (suc (suc (suc k))) r name least e h = absurd (none-some r e)

    level_asked : (r : Line) (name : Text) (least : ℕ) → Contains (rule_parts p fs).productions r → Contains r.symbols (TheSymbol.Part name least) → least ≤ 99
    level_asked r name least h k = by (Contains-append_cases p.productions (map form_line fs ++ apart_lines) r h)
      where
        after : Contains (map form_line fs) r ⊎ Contains apart_lines r → least ≤ 99
        after (inl x) = form_asked r name least x k
        after (inr x) = let at = contains_place apart_lines r x in absurd (no_part_in at.0 r name least at.1 k)

        by : Contains p.productions r ⊎ Contains (map form_line fs ++ apart_lines) r → least ≤ 99
        by (inl x) = levels.asked r name least x k
        by (inr x) = after (Contains-append_cases (map form_line fs) apart_lines r x)

    pub rule_limits : IsWithinLimits (rule_parts p fs)
    rule_limits =
        let sorts : length (S (rule_parts p fs)) ≡ length (S p) + 0 = ap length sort_literals ∙ length-append (S p) [] in
        let lines : length (L (rule_parts p fs).productions) ≡ length (L p.productions) + (length (L (map form_line fs)) + 3) =
        ap length line_literals ∙ length-append (L p.productions) (L (map form_line fs) ++ L apart_lines) ∙ ap (λ n. length (L p.productions) + n) (length-append (L (map form_line fs)) (L apart_lines)) in
        let all : length (literals (rule_parts p fs)) ≡ length (S (rule_parts p fs)) + length (L (rule_parts p fs).productions) = length-append (S (rule_parts p fs)) (L (rule_parts p fs).productions) in
        let base : length (literals p) ≡ length (S p) + length (L p.productions) = length-append (S p) (L p.productions) in
        let forms : length (L (map form_line fs)) ≤ length (flat_map (λ f. f.symbols) (map declared_form fs)) = few_form_literals fs in
        record {
          sorts = omega (arith, low, few, length-append p.sorts (judgement_sort ∷ []));
          productions = omega (arith, low, few, length-append p.productions (map form_line fs ++ apart_lines), length-append (map form_line fs) apart_lines, length-map fs form_line);
          literals = omega (arith, low, few, all, base, sorts, lines, forms);
          levels = record { levels = level_low; asked = level_asked };
        }
