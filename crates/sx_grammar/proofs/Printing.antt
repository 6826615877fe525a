use Rattle.std.proofs.Common.{◌≡◌, ℕ, suc, ◌<◌, ◌≤◌, List, [], ◌∷◌, ◌++◌, Some, length, refl, sym, ap, subst, ◌⊎◌, inl, inr, arith, ◌∙◌}
use Rattle.std.specs.List.{slice_get}
use Rattle.std.proofs.lemmas.Option.{none-some}
use Rattle.std.proofs.lemmas.Bool.{cases_lt, lt-ltb, le-ltb}
use Rattle.sx_term.specs.declared.lex_kind.LexKind.{LexKind}
use Rattle.sx_term.specs.Tree.{Tree, Trees, node, lexeme, hole, ◌▹◌}
use Rattle.sx_grammar.specs.Grammar.{Text, Symbol, part, Production, Brackets, Grammar, pair_of, Stem, of_kind, of_sort, is_lexeme, Token}
use Rattle.sx_grammar.specs.Reading.{Marked, Reading, Readings, branch, bracket, leaf, done, ◌▸◌, Reads, by_production, by_brackets, ReadsAll, all_read, by_literal, by_lexeme, by_part}
use Rattle.sx_grammar.specs.Print.{literal_token, print_symbols, in_brackets, print_node, print, print_each, Fits, node_fits, lexeme_fits, hole_fits, AllFit, none_fit, past_literal_fit, lexical_fit, part_fit, HasBrackets, BracketsWhereAsked, leaf_term, term_of, terms_of}
use Rattle.sx_grammar.specs.Laws.{PrintsAreRead}

-- these tokens stand between two places
pub data Stands (tokens : List Token) : List Token → (from to : ℕ) → Type 0 where
  no_more : {from : ℕ} → Stands tokens [] from from
  one_more : {t : Token} {rest : List Token} {from to : ℕ} →
      slice_get tokens from ≡ Some t → Stands tokens rest (suc from) to → Stands tokens (t ∷ rest) from to

-- what stands in two parts
parts : {tokens : List Token} (xs ys : List Token) (from to : ℕ) → Stands tokens (xs ++ ys) from to →
    (middle : ℕ) × Stands tokens xs from middle × Stands tokens ys middle to
parts [] ys from to s = (from, no_more, s)
parts (x ∷ xs) ys from to (one_more e s) = let r = parts xs ys (suc from) to s in (r.0, one_more e r.1, r.2)

-- what stands in a list of one token
one_stands : {tokens : List Token} {t : Token} {from to : ℕ} → Stands tokens (t ∷ []) from to → (slice_get tokens from ≡ Some t) × (to ≡ suc from)
one_stands (one_more e no_more) = (e, refl)

-- one more token in front
further : {t : Token} {ts : List Token} {xs : List Token} {from to : ℕ} → Stands ts xs from to → Stands (t ∷ ts) xs (suc from) (suc to)
further no_more = no_more
further (one_more e s) = one_more e (further s)

-- a list of tokens stands in itself
pub all_stand : (ts : List Token) → Stands ts ts 0 (length ts)
all_stand [] = no_more
all_stand (t ∷ ts) = one_more refl (further (all_stand ts))

module _ (g : Grammar) (tokens : List Token) (names : List Text) (asked : BracketsWhereAsked g) where
  -- some reading at the least level between the places has the term
  abbrev pub HasReading : (sort least from to : ℕ) → Tree → Type 0
  HasReading sort least from to t = (r : Reading) × Reads g tokens sort least from to r × (term_of tokens names r ≡ t)

  abbrev pub HaveReadings : List Symbol → (from to : ℕ) → Trees → Type 0
  HaveReadings symbols from to ts = (rs : Readings) × ReadsAll g tokens symbols from to rs × (terms_of tokens names rs ≡ ts)

  -- each part of these symbols has the brackets that it may need
  abbrev pub PartsHaveBrackets : List Symbol → Type 0
  PartsHaveBrackets symbols = (place sort least : ℕ) → slice_get symbols place ≡ Some (part sort least) → HasBrackets g sort least

  -- a node whose symbols have readings has one
  node_plain : (label least from to : ℕ) (p : Production) (kids : Trees) → slice_get g.productions label ≡ Some p → least ≤ p.level →
      HaveReadings p.symbols from to kids → HasReading p.sort least from to (node label kids)
  node_plain label least from to p kids e high r = (branch label r.0 from to, by_production e high r.1, ap (node label) r.2)

  -- a term that is read at level 0 between two brackets
  node_bracketed : (sort least from to : ℕ) (t : Tree) (pair : Brackets) (inside : List Token) → pair_of g sort ≡ Some pair →
      ((f l : ℕ) → Stands tokens inside f l → HasReading sort 0 f l t) →
      Stands tokens (in_brackets (Some pair) inside) from to → HasReading sort least from to t
  node_bracketed sort least from to t pair inside e inner (one_more a more) =
      let split = parts inside (literal_token pair.closing ∷ []) (suc from) to more in
      let last = one_stands split.2 in
      let r = inner (suc from) split.0 split.1 in
      subst (λ end. HasReading sort least from end t) (sym last.1) (bracket r.0 from (suc split.0), by_brackets e a r.1 last.0, r.2)

  -- a node is read, in brackets if its level is too low
  node_read : (label least from to : ℕ) (p : Production) (kids : Trees) → slice_get g.productions label ≡ Some p → HasBrackets g p.sort least →
      ((f l : ℕ) → Stands tokens (print_symbols p.symbols (print_each g names kids)) f l → HaveReadings p.symbols f l kids) →
      Stands tokens (print_node g (slice_get g.productions label) (print_each g names kids) least) from to → HasReading p.sort least from to (node label kids)
  node_read label least from to p kids e brackets inner s = by_level (cases_lt p.level least)
    where
      by_level : (p.level < least) ⊎ (least ≤ p.level) → HasReading p.sort least from to (node label kids)
      by_level (inr high) =
          node_plain label least from to p kids e high (inner from to (rw (e, le-ltb p.level least) at s))
      by_level (inl low) =
          let b = brackets label p e refl low in
          node_bracketed p.sort least from to (node label kids) b.0 (print_symbols p.symbols (print_each g names kids)) b.1
          (λ f l q. node_plain label 0 f l p kids e (omega arith) (inner f l q))
          (rw (e, lt-ltb p.level least, b.1) at s)

  -- a lexical symbol's term without variables is a lexeme, which reads itself
  lexeme_read : (kind : LexKind) (t : Tree) (from to : ℕ) → Fits g [] (of_kind kind) t → Stands tokens (print g names t (of_kind kind) 0) from to →
      Marked tokens from (is_lexeme kind) × (to ≡ suc from) × (term_of tokens names (leaf from) ≡ t)
  lexeme_read kind (node label kids) from to fits s = elim fits [ ]
  lexeme_read kind (lexeme k text) from to lexeme_fits (one_more e no_more) = ((text, e), refl, ap leaf_term e)
  lexeme_read kind (hole v) from to (hole_fits h) s = absurd (none-some _ h)

  mutual
    pub printed : {place : Stem} {t : Tree} → Fits g [] place t → (sort least from to : ℕ) → place ≡ of_sort sort → HasBrackets g sort least →
        Stands tokens (print g names t place least) from to → HasReading sort least from to t
    printed (node_fits {label = label} {p = p} {kids = kids} e all) sort least from to is brackets s =
        let same : p.sort ≡ sort = cc in
        let r = node_read label least from to p kids e (subst (λ x. HasBrackets g x least) (sym same) brackets)
        (λ f l q. all_printed all f l (λ i part_sort part_least h. asked label p i part_sort part_least e h) q) s in
        subst (λ x. HasReading x least from to (node label kids)) same r
    printed lexeme_fits sort least from to is brackets s = cc
    printed (hole_fits h) sort least from to is brackets s = absurd (none-some _ h)

    pub all_printed : {symbols : List Symbol} {kids : Trees} → AllFit g [] symbols kids → (from to : ℕ) → PartsHaveBrackets symbols →
        Stands tokens (print_symbols symbols (print_each g names kids)) from to → HaveReadings symbols from to kids
    all_printed none_fit from to brackets no_more = (done, all_read, refl)
    all_printed (past_literal_fit fits) from to brackets (one_more e s) =
        let r = all_printed fits (suc from) to (λ i. brackets (suc i)) s in
        (r.0, by_literal e r.1, r.2)
    all_printed (lexical_fit {kind = kind} {rest = rest} {t = t} {kids = kids} one fits) from to brackets s =
        let split = parts (print g names t (of_kind kind) 0) (print_symbols rest (print_each g names kids)) from to s in
        let first = lexeme_read kind t from split.0 one split.1 in
        let r = all_printed fits (suc from) to (λ i. brackets (suc i)) (rw first.1 at split.2) in
        (leaf from ▸ r.0, by_lexeme first.0 r.1, ap (λ x. x ▹ terms_of tokens names r.0) first.2 ∙ ap (λ x. t ▹ x) r.2)
    all_printed (part_fit {sort = sort} {least = least} {rest = rest} {t = t} {kids = kids} one fits) from to brackets s =
        let split = parts (print g names t (of_sort sort) least) (print_symbols rest (print_each g names kids)) from to s in
        let first = printed one sort least from split.0 refl (brackets 0 sort least refl) split.1 in
        let r = all_printed fits split.0 to (λ i. brackets (suc i)) split.2 in
        (first.0 ▸ r.0, by_part first.1 r.1, ap (λ x. x ▹ terms_of tokens names r.0) first.2 ∙ ap (λ x. t ▹ x) r.2)

-- the printed tokens are read, and give the term
pub prints_read : PrintsAreRead
prints_read g names sort least t asked brackets fits =
    let tokens = print g names t (of_sort sort) least in
    printed g tokens names asked fits sort least 0 (length tokens) refl brackets (all_stand tokens)
