-- Terms of the grammar of rules whose sorts are those of a grammar are terms of this grammar.
use Rattle.std.proofs.Common.{◌≡◌, ℕ, zero, suc, ◌+◌, ◌-◌, ◌<◌, ◌≤◌, ◌⊎◌, inl, inr, Bool, true, false, cond, List, [], ◌∷◌, ◌++◌, length, map, Some, Contains, refl, ap, ◌∙◌, sym, subst, arith}
use Rattle.std.specs.Prelude.{slice_get, flat_map, option_map, unwrap_or}
use Rattle.std.proofs.lemmas.List.{length-map, map-append}
use Rattle.std.proofs.lemmas.Bool.{cases_lt}
use Rattle.std.proofs.lemmas.Option.{slice_get_within, slice_get-map, none-some}
use Rattle.sx_term.specs.declared.sort.Sort.{Sort}
use Rattle.sx_term.specs.declared.sort.Sort.TheVariants as TheSort
use Rattle.sx_term.specs.Tree.{Tree, Trees, node, lexeme, hole, none, ◌▹◌}
use Rattle.sx_term.specs.Sorts.{Shape, HasSort, KidsHaveSorts}
use Rattle.sx_grammar.specs.declared.symbol.Symbol as declared
use Rattle.sx_grammar.specs.declared.symbol.Symbol.TheVariants as names_of
use Rattle.sx_grammar.specs.Grammar.{Text, Production}
use Rattle.sx_grammar.specs.Parts.{Line, Parts, names, number_of, numbered, numbered_symbol, numbered_line, symbol_sorts, sorts_named}
use Rattle.sx_grammar.specs.Made.{IsGrammar}
use Rattle.sx_grammar.specs.Told.{is_typed, sort_with, kid_sorts, shape_of, shapes_of}
use Rattle.sx_grammar.proofs.Finding.{at_contains, is_head, past_head, in_flat_map, mapped_at, named_at}
use Rattle.sx_directives.specs.declared.rows.FormLine.{FormLine}
use Rattle.sx_notation.specs.RuleParts.{judgement_sort, form_line, apart_lines, rule_parts}
use Rattle.sx_notation.proofs.Growing.{got_before, got_behind-at}
use Rattle.sx_notation.proofs.Numbers.{number_is}
use Rattle.sx_notation.proofs.RuleGrammars.{productions_stay}

-- the sort has a number below this one, if it has one
abbrev pub IsBelow : ℕ → Sort → Type 0
IsBelow n (TheSort.Lex kind) = Unit {0}
IsBelow n (TheSort.Plain k) = k < n
IsBelow n (TheSort.Typed k) = k < n

abbrev pub AreBelow : ℕ → List Sort → Type 0
AreBelow n [] = Unit {0}
AreBelow n (s ∷ ss) = IsBelow n s × AreBelow n ss

-- Where shapes of sorts below a number are among others, whose further ones have not such sorts, a
-- term that has such a sort by these has it by those.
module _ (few all : List Shape) (vars : List Sort) (n : ℕ)
    (stay : (label : ℕ) (s : Shape) → slice_get all label ≡ Some s → IsBelow n s.sort → (slice_get few label ≡ Some s) × AreBelow n s.kids) where
  mutual
    pub narrowed : (t : Tree) (sort : Sort) → IsBelow n sort → HasSort all vars t sort → HasSort few vars t sort
    narrowed (node label ts) sort low h =
        let here = stay label h.0 h.1 (subst (IsBelow n) (sym h.2) low) in
        (h.0, here.0, h.2, all_narrowed ts h.0.kids here.1 h.3)
    narrowed (lexeme kind text) sort low h = h
    narrowed (hole v) sort low h = h

    all_narrowed : (ts : Trees) (sorts : List Sort) → AreBelow n sorts → KidsHaveSorts all vars ts sorts → KidsHaveSorts few vars ts sorts
    all_narrowed none [] low h = tt
    all_narrowed none (s ∷ ss) low h = absurd h
    all_narrowed (t ▹ ts) [] low h = absurd h
    all_narrowed (t ▹ ts) (s ∷ ss) low h = (narrowed t s low.0 h.0, all_narrowed ts ss low.1 h.1)

-- ---- the grammar of rules

judged : (fs : List FormLine) (k : ℕ) (l : Line) → slice_get (map form_line fs ++ apart_lines) k ≡ Some l → l.sort ≡ judgement_sort.name
judged [] zero l e = ap (λ o. unwrap_or (option_map (λ x. x.sort) o) judgement_sort.name) (sym e)
judged [] (suc zero) l e = ap (λ o. unwrap_or (option_map (λ x. x.sort) o) judgement_sort.name) (sym e)
judged [] (suc (suc zero)) l e = ap (λ o. unwrap_or (option_map (λ x. x.sort) o) judgement_sort.name) (sym e)
judged [] (suc (suc (suc k))) l e = absurd (none-some l e)
judged (f ∷ fs) zero l e = ap (λ o. unwrap_or (option_map (λ x. x.sort) o) judgement_sort.name) (sym e)
judged (f ∷ fs) (suc k) l e = judged fs k l e

module _ (p : Parts) (fs : List FormLine) (is : IsGrammar p) (rule_is : IsGrammar (rule_parts p fs)) where
  abbrev q : Parts
  q = rule_parts p fs

  abbrev n : ℕ
  n = length p.sorts

  sort_same : (k : ℕ) → k < n → sort_with q.sorts k ≡ sort_with p.sorts k
  sort_same k low = ap (λ line. cond (is_typed line) (TheSort.Typed k) (TheSort.Plain k)) (got_before p.sorts (judgement_sort ∷ []) k low)

  pub sort_below : (k : ℕ) → k < n → IsBelow n (sort_with p.sorts k)
  sort_below k low = by (is_typed (slice_get p.sorts k))
    where
      by : (b : Bool) → IsBelow n (cond b (TheSort.Typed k) (TheSort.Plain k))
      by true = low
      by false = low

  pub number_below : (name : Text) → Contains (sorts_named p) name → number_of (names p) name < n
  number_below name has =
      let at = named_at (names p) name (λ missing. is.0.0.0.0.1 name has (inl missing)) in
      omega (arith, slice_get_within (names p) (number_of (names p) name) name at, length-map p.sorts (λ s. s.name))

  module _ (l : Line) (has : Contains p.productions l) where
    sort_named : Contains (sorts_named p) l.sort
    sort_named = in_flat_map (λ x. x.sort ∷ flat_map symbol_sorts x.symbols) p.productions l l.sort has (is_head l.sort (flat_map symbol_sorts l.symbols))

    part_named : (name : Text) (least : ℕ) → Contains l.symbols (names_of.Part name least) → Contains (sorts_named p) name
    part_named name least here =
        in_flat_map (λ x. x.sort ∷ flat_map symbol_sorts x.symbols) p.productions l name has
        (past_head l.sort (flat_map symbol_sorts l.symbols) name (in_flat_map symbol_sorts l.symbols (names_of.Part name least) name here (is_head name [])))

    kids_same : (ss : List declared.Symbol) → ((s : declared.Symbol) → Contains ss s → Contains l.symbols s) →
        (flat_map (kid_sorts q.sorts) (map (numbered_symbol (names p)) ss) ≡ flat_map (kid_sorts p.sorts) (map (numbered_symbol (names p)) ss))
        × AreBelow n (flat_map (kid_sorts p.sorts) (map (numbered_symbol (names p)) ss))
    kids_same [] inside = (refl, tt)
    kids_same (names_of.Lit text ∷ ss) inside = kids_same ss (λ s h. inside s (past_head (names_of.Lit text) ss s h))
    kids_same (names_of.Lex kind ∷ ss) inside =
        let r = kids_same ss (λ s h. inside s (past_head (names_of.Lex kind) ss s h)) in (ap (λ (x : List Sort). TheSort.Lex kind ∷ x) r.0, (tt, r.1))
    kids_same (names_of.Part name least ∷ ss) inside =
        let r = kids_same ss (λ s h. inside s (past_head (names_of.Part name least) ss s h)) in
        let low = number_below name (part_named name least (inside (names_of.Part name least) (is_head (names_of.Part name least) ss))) in
        ((λ i. sort_same (number_of (names p) name) low i ∷ r.0 i), (sort_below (number_of (names p) name) low, r.1))

    shape_same : (shape_of q.sorts (numbered_line (names p) l) ≡ shape_of p.sorts (numbered_line (names p) l)) × AreBelow n (shape_of p.sorts (numbered_line (names p) l)).kids
    shape_same =
        let r = kids_same l.symbols (λ s h. h) in
        let low = number_below l.sort sort_named in
        ((λ i. record { sort = sort_same (number_of (names p) l.sort) low i; kids = r.0 i }), r.1)

  judgements_last : (k : ℕ) (l : Line) → slice_get (map form_line fs ++ apart_lines) k ≡ Some l → IsBelow n (sort_with q.sorts (number_of (names q) l.sort)) → ⊥
  judgements_last k l at low =
      let go_on : names q ≡ names p ++ judgement_sort.name ∷ [] = map-append (λ s. s.name) p.sorts (judgement_sort ∷ []) in
      let last : slice_get (names q) n ≡ Some judgement_sort.name =
      ap (λ (ns : List Text). slice_get ns n) go_on ∙ got_behind-at (names p) (judgement_sort.name ∷ []) n 0 (omega (arith, length-map p.sorts (λ s. s.name))) in
      let number : number_of (names q) l.sort ≡ n = ap (number_of (names q)) (judged fs k l at) ∙ number_is q judgement_sort.name n rule_is last in
      by (is_typed (slice_get q.sorts n)) (subst (λ (i : ℕ). IsBelow n (sort_with q.sorts i)) number low)
    where
      by : (b : Bool) → IsBelow n (cond b (TheSort.Typed n) (TheSort.Plain n)) → ⊥
      by true h = absurd (omega (arith, h))
      by false h = absurd (omega (arith, h))

  stays : (label : ℕ) (s : Shape) → slice_get (shapes_of q) label ≡ Some s → IsBelow n s.sort → (slice_get (shapes_of p) label ≡ Some s) × AreBelow n s.kids
  stays label s at low =
      let r = mapped_at (shape_of q.sorts) (numbered q).productions label s at in
      let l = mapped_at (numbered_line (names q)) q.productions label r.0 r.1 in
      by (cases_lt label (length p.productions)) r l
    where
      by : (label < length p.productions) ⊎ (length p.productions ≤ label) → (r : (x : Production) × (slice_get (numbered q).productions label ≡ Some x) × (shape_of q.sorts x ≡ s)) →
          ((l : Line) × (slice_get q.productions label ≡ Some l) × (numbered_line (names q) l ≡ r.0)) → (slice_get (shapes_of p) label ≡ Some s) × AreBelow n s.kids
      by (inl lt) r l =
          let there : slice_get p.productions label ≡ Some l.0 = sym (got_before p.productions (map form_line fs ++ apart_lines) label lt) ∙ l.1 in
          let has = at_contains p.productions label l.0 there in
          let here : slice_get (numbered p).productions label ≡ Some (numbered_line (names p) l.0) = slice_get-map (numbered_line (names p)) p.productions label ∙ ap (option_map (numbered_line (names p))) there in
          let both : Some (numbered_line (names p) l.0) ≡ Some r.0 = sym (productions_stay p fs label (numbered_line (names p) l.0) is here) ∙ r.1 in
          let same : numbered_line (names p) l.0 ≡ r.0 = cc in
          let x = shape_same l.0 has in
          let e : shape_of p.sorts (numbered_line (names p) l.0) ≡ s = sym x.0 ∙ ap (shape_of q.sorts) same ∙ r.2 in (
            slice_get-map (shape_of p.sorts) (numbered p).productions label ∙ ap (option_map (shape_of p.sorts)) here ∙ ap (λ (y : Shape). Some y) e,
            subst (λ (y : Shape). AreBelow n y.kids) e x.1,
          )
      by (inr past) r l =
          let k : label ≡ length p.productions + (label - length p.productions) = omega (arith, past) in
          let there : slice_get (map form_line fs ++ apart_lines) (label - length p.productions) ≡ Some l.0 =
          sym (got_behind-at p.productions (map form_line fs ++ apart_lines) label (label - length p.productions) k) ∙ l.1 in
          let e : sort_with q.sorts (number_of (names q) l.0.sort) ≡ s.sort = ap (λ (x : Production). sort_with q.sorts x.sort) l.2 ∙ ap (λ (x : Shape). x.sort) r.2 in
          absurd (judgements_last (label - length p.productions) l.0 there (subst (IsBelow n) (sym e) low))

  -- what has a sort of the grammar by its grammar of rules has it by the grammar
  pub sorted_by_base : (vars : List Sort) (t : Tree) (sort : Sort) → IsBelow n sort → HasSort (shapes_of q) vars t sort → HasSort (shapes_of p) vars t sort
  sorted_by_base vars t sort low h = narrowed (shapes_of p) (shapes_of q) vars n stays t sort low h
