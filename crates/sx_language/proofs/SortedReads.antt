-- What is read at a sort has the sort, where variables have the sorts of their stems.
use Rattle.std.proofs.Common.{◌≡◌, ℕ, zero, suc, ◌<◌, inl, inr, Bool, true, false, cond, if◌then◌else◌, List, [], ◌∷◌, ◌++◌, length, Option, Some, None, slice_get, Contains, refl, ap, ◌∙◌, sym, subst, arith}
use Rattle.std.specs.Prelude.{flat_map, option_map, unwrap_or, position, slice_index_or}
use Rattle.std.specs.List.{AllByRecursion}
use Rattle.std.specs.Str.{bytes_eq}
use Rattle.std.proofs.lemmas.List.{length-map}
use Rattle.std.proofs.lemmas.List.Elements.{Contains-append_left}
use Rattle.std.proofs.lemmas.Option.{slice_get-map, slice_get_within, none-some}
use Rattle.sx_term.specs.declared.lex_kind.LexKind.{LexKind}
use Rattle.sx_term.specs.declared.mark.Mark.{Mark}
use Rattle.sx_term.specs.declared.mark.Mark.TheVariants as marks
use Rattle.sx_term.specs.declared.sort.Sort.{Sort}
use Rattle.sx_term.specs.declared.sort.Sort.TheVariants as TheSort
use Rattle.sx_term.specs.Sorts.{HasSort, KidsHaveSorts}
use Rattle.sx_term.specs.Vars.{without_tilde}
use Rattle.sx_term.specs.Tree.{Tree}
use Rattle.sx_token.specs.declared.token.Token.{Token}
use Rattle.sx_grammar.specs.Grammar as plain
use Rattle.sx_grammar.specs.Grammar.{Text, Symbol, Production}
use Rattle.sx_grammar.specs.Parts.{Parts, names, number_of, numbered}
use Rattle.sx_grammar.specs.Told.{sort_with, is_typed, kid_sorts, shape_of, shapes_of}
use Rattle.sx_grammar.specs.Reading.{Reading, Readings, Marked, Reads, ReadsAll, by_production}
use Rattle.sx_grammar.specs.Reading.{by_brackets, by_variable, all_read, by_literal, by_lexeme}
use Rattle.sx_grammar.specs.Reading.{by_lexical_variable, by_part}
use Rattle.sx_grammar.specs.Print.{leaf_term, variable_term, term_of, terms_of}
use Rattle.sx_grammar.proofs.Finding.{at_contains, named_at}
use Rattle.sx_grammar.specs.Stems.{without_digits}
use Rattle.sx_earley.specs.Completed.{IsSort, sort_number}
use Rattle.sx_earley.specs.Tokens.{Stems, stem_sort, meta_stem, as_stem, found_stem}
use Rattle.sx_earley.specs.Tokens.{read_token, plain_tokens}
use Rattle.sx_forest.specs.Text.{token_texts}
use Rattle.sx_forest.specs.Names.{reading_names, names_of_kids, AddsEach}
use Rattle.sx_forest.proofs.Naming.{each_more}
use Rattle.sx_directives.specs.declared.rows.FormLine.{FormLine}
use Rattle.sx_directives.specs.declared.rows.VarLine.{VarLine}
use Rattle.sx_outline.specs.Stages.{Numbered}
use Rattle.sx_notation.specs.ReadText.{IsReadLine}
use Rattle.sx_notation.specs.RuleParts.{judgement_sort, rule_parts}
use Rattle.sx_notation.proofs.Growing.{got_before}
use Rattle.sx_language.specs.RuleLine.{Reader, subject_sort}
use Rattle.sx_language.specs.RuleTexts.{HaveStemSorts, IsRuleBody}
use Rattle.sx_language.specs.States.{IsSortNamed, AreStems}
use Rattle.sx_language.specs.Laws.{ReadsAreSorted, BodiesAreSorted}

-- ---- the sorts of stems are sorts of the grammar

-- the sort is lexical, or that with its number
abbrev IsOwn : Parts → Sort → Type 0
IsOwn p (TheSort.Lex kind) = Unit {0}
IsOwn p (TheSort.Plain n) = sort_with p.sorts n ≡ TheSort.Plain n
IsOwn p (TheSort.Typed n) = sort_with p.sorts n ≡ TheSort.Typed n

own_line : (p : Parts) (n : ℕ) (b : Bool) → is_typed (slice_get p.sorts n) ≡ b → IsOwn p (cond b (TheSort.Typed n) (TheSort.Plain n))
own_line p n true e = ap (λ (c : Bool). cond c (TheSort.Typed n) (TheSort.Plain n)) e
own_line p n false e = ap (λ (c : Bool). cond c (TheSort.Typed n) (TheSort.Plain n)) e

module _ (p : Parts) (fs : List FormLine) where
  own_named : (name : Text) (s : Sort) → IsSortNamed p name s → IsOwn (rule_parts p fs) s
  own_named name s (inl h) = subst (IsOwn (rule_parts p fs)) (sym h.2) tt
  own_named name s (inr h) =
      let n = number_of (names p) name in
      let low : n < length p.sorts = omega (arith, slice_get_within (names p) n name (named_at (names p) name (λ missing. missing h.1)), length-map p.sorts (λ x. x.name)) in
      let same : is_typed (slice_get (rule_parts p fs).sorts n) ≡ is_typed (slice_get p.sorts n) = ap is_typed (got_before p.sorts (judgement_sort ∷ []) n low) in
      subst (IsOwn (rule_parts p fs)) (sym h.2) (own_line (rule_parts p fs) n (is_typed (slice_get p.sorts n)) same)

  own_stem : (vs : List VarLine) (stems : Stems) (stem : Text) (s : Sort) → AreStems p vs stems → stem_sort stems stem ≡ Some s → IsOwn (rule_parts p fs) s
  own_stem [] [] stem s are e = absurd (none-some s e)
  own_stem [] (x ∷ xs) stem s are e = absurd are
  own_stem (v ∷ vs) [] stem s are e = absurd are
  own_stem (v ∷ vs) (x ∷ xs) stem s are e = by (bytes_eq x.0 stem) (own_stem vs xs stem s are.2) e
    where
      by : (b : Bool) → (stem_sort xs stem ≡ Some s → IsOwn (rule_parts p fs) s) → (if b then Some x.1 else stem_sort xs stem) ≡ Some s → IsOwn (rule_parts p fs) s
      by true rest e = let same : x.1 ≡ s = cc in subst (IsOwn (rule_parts p fs)) same (own_named v.sort x.1 are.1)
      by false rest e = rest e

-- ---- variables

some_same : {A : Type 0} (x y : A) → Some x ≡ Some y → x ≡ y
some_same x y e = cc

-- the token of a variable is a metavariable, whose stem is the variable's
shown_stem : (stems : Stems) (m : Mark) (text : Text) (stem : plain.Stem) (other : Text) → read_token stems m text ≡ record { mark = plain.is_variable stem; text = other } →
    (found_stem (stem_sort stems (meta_stem text)) ≡ stem) × (other ≡ text)
shown_stem stems (marks.Lit n) text stem other e = let f : plain.is_literal ≡ plain.is_variable stem = ap (λ (t : plain.Token). t.mark) e in cc
shown_stem stems (marks.Lex kind) text stem other e = let f : plain.is_lexeme kind ≡ plain.is_variable stem = ap (λ (t : plain.Token). t.mark) e in cc
shown_stem stems marks.Meta text stem other e =
    let f : plain.is_variable (found_stem (stem_sort stems (meta_stem text))) ≡ plain.is_variable stem = ap (λ (t : plain.Token). t.mark) e in
    let g : found_stem (stem_sort stems (meta_stem text)) ≡ stem = cc in
    (g, sym (ap (λ (t : plain.Token). t.text) e))

-- the number of a name that is there
place_of : (ns : List Text) (name : Text) → Contains ns name → slice_get ns (unwrap_or (position (λ other. bytes_eq other name) ns) 0) ≡ Some name
place_of ns name has = by (position (λ other. bytes_eq other name) ns) (named_at ns name (λ missing. missing has))
  where
    by : (o : Option ℕ) → slice_get ns (unwrap_or o (length ns)) ≡ Some name → slice_get ns (unwrap_or o 0) ≡ Some name
    by (Some n) e = e
    by None e = absurd (omega (arith, slice_get_within ns (length ns) name e))

-- the sort of a variable is that of its stem
sort_at : (stems : Stems) (ns : List Text) (sorts : List Sort) (n : ℕ) (name : Text) → HaveStemSorts stems ns sorts → slice_get ns n ≡ Some name →
    (s : Sort) × (slice_get sorts n ≡ Some s) × (stem_sort stems (without_digits name) ≡ Some s)
sort_at stems ns sorts n name have at = by (slice_get sorts n) whole
  where
    f : Text → Option Sort
    f x = stem_sort stems (without_digits x)

    whole : option_map Some (slice_get sorts n) ≡ Some (f name)
    whole = sym (slice_get-map Some sorts n) ∙ ap (λ l. slice_get l n) (sym have) ∙ slice_get-map f ns n ∙ ap (option_map f) at

    by : (o : Option Sort) → option_map Some o ≡ Some (f name) → (s : Sort) × (o ≡ Some s) × (f name ≡ Some s)
    by (Some s) e = (s, refl, sym (some_same (Some s) (f name) e))
    by None e = absurd (none-some (f name) e)

-- a sort of the grammar is the one with its number
sort_found : (p : Parts) (s : Sort) (n : ℕ) → IsOwn p s → as_stem s ≡ plain.of_sort n → sort_with p.sorts n ≡ s
sort_found p (TheSort.Lex kind) n own e = cc
sort_found p (TheSort.Plain m) n own e = let same : m ≡ n = cc in ap (sort_with p.sorts) (sym same) ∙ own
sort_found p (TheSort.Typed m) n own e = let same : m ≡ n = cc in ap (sort_with p.sorts) (sym same) ∙ own

kind_found : (s : Sort) (kind : LexKind) → as_stem s ≡ plain.of_kind kind → TheSort.Lex kind ≡ s
kind_found (TheSort.Lex k) kind e = let same : k ≡ kind = cc in ap TheSort.Lex (sym same)
kind_found (TheSort.Plain m) kind e = cc
kind_found (TheSort.Typed m) kind e = cc

-- ---- names that were added are there

all_added : (old ns new : List Text) → AddsEach old ns new → AllByRecursion (Contains new) ns
all_added old [] new h = tt
all_added old (n ∷ ns) new h =
    let more = each_more h.0 ns new h.3 in
    let here : Contains h.0 n = at_contains h.0 h.1 n h.2.numbered in
    (subst (λ l. Contains l n) (sym more.1) (Contains-append_left h.0 more.0 n here), all_added h.0 ns new h.3)

all_left : (P : Text → Type 0) (xs ys : List Text) → AllByRecursion P (xs ++ ys) → AllByRecursion P xs
all_left P [] ys h = tt
all_left P (x ∷ xs) ys h = (h.0, all_left P xs ys h.1)

all_right : (P : Text → Type 0) (xs ys : List Text) → AllByRecursion P (xs ++ ys) → AllByRecursion P ys
all_right P [] ys h = h
all_right P (x ∷ xs) ys h = all_right P xs ys h.1

-- ---- readings

module _ (p : Parts) (stems : Stems) (own : (stem : Text) (s : Sort) → stem_sort stems stem ≡ Some s → IsOwn p s) (ts : List Token) (ns : List Text) (sorts : List Sort) (have : HaveStemSorts stems ns sorts) where
  shape_at : (label : ℕ) (r : Production) → slice_get (numbered p).productions label ≡ Some r → slice_get (shapes_of p) label ≡ Some (shape_of p.sorts r)
  shape_at label r at = slice_get-map (shape_of p.sorts) (numbered p).productions label ∙ ap (option_map (shape_of p.sorts)) at

  leaf_sorted : (place : ℕ) (kind : LexKind) → Marked (plain_tokens stems ts) place (plain.is_lexeme kind) → HasSort (shapes_of p) sorts (leaf_term (slice_get (plain_tokens stems ts) place)) (TheSort.Lex kind)
  leaf_sorted place kind h = subst (λ (o : Option plain.Token). HasSort (shapes_of p) sorts (leaf_term o) (TheSort.Lex kind)) (sym h.1) refl

  -- what is found of a variable: its sort
  record IsVariable (o : Option plain.Token) (stem : plain.Stem) : Type 0 where
    sort : Sort
    stemmed : as_stem sort ≡ stem
    is_own : IsOwn p sort
    sorted : HasSort (shapes_of p) sorts (variable_term ns o) sort

  found : (us : List Token) (n : ℕ) (stem : plain.Stem) → Marked (plain_tokens stems us) n (plain.is_variable stem) → Contains ns (without_tilde (slice_index_or (token_texts us) n [])) →
      IsVariable (slice_get (plain_tokens stems us) n) stem
  found [] n stem h has = absurd (none-some _ h.1)
  found (t ∷ us) zero stem h has =
      let here : read_token stems t.mark t.text ≡ record { mark = plain.is_variable stem; text = h.0 } = some_same _ _ h.1 in
      let w = shown_stem stems t.mark t.text stem h.0 here in
      let at = place_of ns (without_tilde t.text) has in
      let x = sort_at stems ns sorts (unwrap_or (position (λ other. bytes_eq other (without_tilde t.text)) ns) 0) (without_tilde t.text) have at in
      let token : Some (record { mark = plain.is_variable stem; text = t.text }) ≡ Some (read_token stems t.mark t.text) =
      ap (λ (text : Text). let k : plain.Token = record { mark = plain.is_variable stem; text = text } in Some k) (sym w.1) ∙ sym h.1 in
      record {
        sort = x.0;
        stemmed = sym (ap found_stem x.2) ∙ w.0;
        is_own = own (meta_stem t.text) x.0 x.2;
        sorted = subst (λ (o : Option plain.Token). HasSort (shapes_of p) sorts (variable_term ns o) x.0) token x.1;
      }
  found (t ∷ us) (suc n) stem h has = found us n stem h has

  mutual
    reads_sorted : {sort least from to : ℕ} {r : Reading} → Reads (numbered p) (plain_tokens stems ts) sort least from to r → AllByRecursion (Contains ns) (reading_names ts r) →
        HasSort (shapes_of p) sorts (term_of (plain_tokens stems ts) ns r) (sort_with p.sorts sort)
    reads_sorted (by_production {label = label} {p = r} at level kids) h = (shape_of p.sorts r, shape_at label r at, refl, all_sorted kids h)
    reads_sorted (by_brackets pair opening inner closing) h = reads_sorted inner h
    reads_sorted (by_variable {sort = sort} {from = from} marked) h =
        let x = found ts from (plain.of_sort sort) marked h.0 in
        subst (HasSort (shapes_of p) sorts (variable_term ns (slice_get (plain_tokens stems ts) from))) (sym (sort_found p x.sort sort x.is_own x.stemmed)) x.sorted

    all_sorted : {symbols : List Symbol} {from to : ℕ} {kids : Readings} → ReadsAll (numbered p) (plain_tokens stems ts) symbols from to kids → AllByRecursion (Contains ns) (names_of_kids ts kids) →
        KidsHaveSorts (shapes_of p) sorts (terms_of (plain_tokens stems ts) ns kids) (flat_map (kid_sorts p.sorts) symbols)
    all_sorted all_read h = tt
    all_sorted (by_literal is rest) h = all_sorted rest h
    all_sorted (by_lexeme {kind = kind} {from = from} marked rest) h = (leaf_sorted from kind marked, all_sorted rest h)
    all_sorted (by_lexical_variable {kind = kind} {from = from} marked rest) h =
        let x = found ts from (plain.of_kind kind) marked h.0 in
        (subst (HasSort (shapes_of p) sorts (variable_term ns (slice_get (plain_tokens stems ts) from))) (sym (kind_found x.sort kind x.stemmed)) x.sorted, all_sorted rest h.1)
    all_sorted (by_part {kid = one} {kids = more} kid rest) h =
        (reads_sorted kid (all_left (Contains ns) (reading_names ts one) (names_of_kids ts more) h), all_sorted rest (all_right (Contains ns) (reading_names ts one) (names_of_kids ts more) h))

-- ---- lines and bodies

sort_is : (p : Parts) (sort : Sort) → IsSort p sort → sort_with p.sorts (sort_number sort) ≡ sort
sort_is p (TheSort.Lex kind) h = absurd h
sort_is p (TheSort.Plain n) h = ap (λ (b : Bool). cond b (TheSort.Typed n) (TheSort.Plain n)) h.1
sort_is p (TheSort.Typed n) h = ap (λ (b : Bool). cond b (TheSort.Typed n) (TheSort.Plain n)) h.1

pub reads_are_sorted : ReadsAreSorted
reads_are_sorted p fs vars stems sort line old new t sorts are is read have =
    let q = rule_parts p fs in
    let here = reads_sorted q stems (λ stem s e. own_stem p fs vars stems stem s are e) read.tokens new sorts have read.answer.1.0 (all_added old (reading_names read.tokens read.reading) new read.names) in
    subst (λ (u : Tree). HasSort (shapes_of q) sorts u sort) (sym read.term)
    (subst (HasSort (shapes_of q) sorts (term_of (plain_tokens stems read.tokens) new read.reading)) (sort_is q sort is) here)

-- the body is read as the subject's sort
body_read : (r : Reader) (line : Option Numbered) (subject : Option Sort) (old new : List Text) (t : Tree) → IsRuleBody r line subject old new (Some t) →
    (l : Numbered) × (sort : Sort) × (subject ≡ Some sort) × IsReadLine r.parts r.stems sort l.text old new t
body_read r None subject old new t h = absurd (none-some t (sym h.1))
body_read r (Some l) None old new t h = absurd (none-some t (sym h.1))
body_read r (Some l) (Some sort) old new t h = (l, sort, refl, h)

pub bodies_are_sorted : BodiesAreSorted
bodies_are_sorted p fs vars r l names q body by are can rule =
    let x = body_read r l.body (subject_sort r.forms q.rule.conclusion.form) rule.stated.last names body rule.stated.bodied in
    let is : IsSort (rule_parts p fs) x.1 = subst (λ (y : Parts). IsSort y x.1) by (can.subjects q.rule.conclusion.form x.1 x.2) in
    let read = subst (λ (y : Parts). IsReadLine y r.stems x.1 x.0.text rule.stated.last names body) by x.3 in
    let sorted = reads_are_sorted p fs vars r.stems x.1 x.0.text rule.stated.last names body q.rule.sorts are is read rule.sorts in
    (x.1, x.2, subst (λ (y : Parts). HasSort (shapes_of y) q.rule.sorts body x.1) (sym by) sorted)
