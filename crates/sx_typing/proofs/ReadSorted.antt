-- The term of what was read without metavariables is well sorted, and its lexemes are tokens.
use Rattle.std.proofs.Common.{◌≡◌, ℕ, zero, suc, ◌≤◌, Bool, false, List, [], ◌∷◌, Option, Some}
use Rattle.std.proofs.Common.{None, slice_get, length, option_map, refl, ap, ◌∙◌, sym, subst, arith}
use Rattle.std.specs.Prelude.{flat_map, cond}
use Rattle.std.specs.List.{AllByRecursion}
use Rattle.std.proofs.lemmas.Option.{slice_get-map}
use Rattle.sx_term.specs.declared.lex_kind.LexKind.{LexKind}
use Rattle.sx_term.specs.declared.role.Role.TheVariants.{Sub}
use Rattle.sx_term.specs.declared.mark.Mark.{Mark}
use Rattle.sx_term.specs.declared.mark.Mark.TheVariants.{Lit, Lex, Meta}
use Rattle.sx_term.specs.declared.sort.Sort.{Sort}
use Rattle.sx_term.specs.declared.sort.Sort.TheVariants as sorts
use Rattle.sx_term.specs.Tree.{Tree, depth_of}
use Rattle.sx_term.specs.Sorts.{HasSort, KidsHaveSorts}
use Rattle.sx_token.specs.declared.token.Token.{Token}
use Rattle.sx_grammar.specs.Grammar as plain
use Rattle.sx_grammar.specs.Grammar.{Text, Symbol, Production}
use Rattle.sx_grammar.specs.Parts.{Parts, numbered}
use Rattle.sx_grammar.specs.Extended.{extended}
use Rattle.sx_grammar.specs.Tables.{literals_of}
use Rattle.sx_grammar.specs.Told.{sort_with, kid_sorts, shape_of, shapes_of}
use Rattle.sx_grammar.specs.Reading.{Reading, Readings, Marked, Reads, ReadsAll, by_production}
use Rattle.sx_grammar.specs.Reading.{by_brackets, by_variable, all_read, by_literal, by_lexeme}
use Rattle.sx_grammar.specs.Reading.{by_lexical_variable, by_part}
use Rattle.sx_grammar.specs.Print.{leaf_term, term_of, terms_of}
use Rattle.sx_print.specs.Cut.{HasLexemes}
use Rattle.sx_earley.specs.Tokens.{read_token, plain_tokens}
use Rattle.sx_earley.specs.Completed.{IsSort, sort_number}
use Rattle.sx_notation.proofs.ReadLexemes.{cut_lexed, term_lexemes, term_depth}
use Rattle.sx_typing.specs.Body.{ReadsAs}
use Rattle.sx_typing.specs.Dialects.{IsDialect}
use Rattle.sx_typing.specs.Goals.{IsBody}
use Rattle.sx_typing.specs.BodySource.{BodySource, IsGoodTerm, IsTermFor, main_sort}
use Rattle.sx_typing.proofs.Bodies.{IsPlain, plain as plain_tokens_all}
use Rattle.sx_typing.proofs.Lexemes.{without_more}
use Rattle.sx_typing.proofs.MainSorts.{subject_is_sort}

shown_plain : (m : Mark) (text : Text) (stem : plain.Stem) (other : Text) → (m ≡ Meta → ⊥) →
    read_token [] m text ≡ record { mark = plain.is_variable stem; text = other } → ⊥
shown_plain (Lit n) text stem other h e = let f : plain.is_literal ≡ plain.is_variable stem =
    ap (λ (t : plain.Token). t.mark) e in cc
shown_plain (Lex kind) text stem other h e = let f : plain.is_lexeme kind ≡ plain.is_variable stem =
    ap (λ (t : plain.Token). t.mark) e in cc
shown_plain Meta text stem other h e = h refl

some_same : {A : Type 0} (x y : A) → Some x ≡ Some y → x ≡ y
some_same x y e = cc

no_variable : (ts : List Token) (place : ℕ) (stem : plain.Stem) → AllByRecursion IsPlain ts →
    Marked (plain_tokens [] ts) place (plain.is_variable stem) → ⊥
no_variable [] place stem all h =
    let e : None ≡ Some (record { mark = plain.is_variable stem; text = h.0 }) = h.1 in cc
no_variable (t ∷ ts) zero stem all h = shown_plain t.mark t.text stem h.0 all.0 (some_same _ _ h.1)
no_variable (t ∷ ts) (suc place) stem all h = no_variable ts place stem all.1 h

module _ (p : Parts) (ts : List Token) (all : AllByRecursion IsPlain ts) where
  shape_at : (label : ℕ) (r : Production) → slice_get (numbered p).productions label ≡ Some r →
      slice_get (shapes_of p) label ≡ Some (shape_of p.sorts r)
  shape_at label r at = slice_get-map (shape_of p.sorts) (numbered p).productions label ∙ ap
      (option_map (shape_of p.sorts)) at

  leaf_sorted : (place : ℕ) (kind : LexKind) →
      Marked (plain_tokens [] ts) place (plain.is_lexeme kind) →
      HasSort (shapes_of p) [] (leaf_term (slice_get (plain_tokens [] ts) place)) (sorts.Lex kind)
  leaf_sorted place kind h = subst
      (λ (o : Option plain.Token). HasSort (shapes_of p) [] (leaf_term o) (sorts.Lex kind))
      (sym h.1) refl

  mutual
    reads_sorted : {sort least from to : ℕ} {r : Reading} →
        Reads (numbered p) (plain_tokens [] ts) sort least from to r →
        HasSort (shapes_of p) [] (term_of (plain_tokens [] ts) [] r) (sort_with p.sorts sort)
    reads_sorted (by_production {label = label} {p = r} at level kids) =
        (shape_of p.sorts r, shape_at label r at, refl, all_sorted kids)
    reads_sorted (by_brackets pair opening inner closing) = reads_sorted inner
    reads_sorted (by_variable {sort = sort} {from = from} marked) =
        absurd (no_variable ts from (plain.of_sort sort) all marked)

    all_sorted : {symbols : List Symbol} {from to : ℕ} {kids : Readings} →
        ReadsAll (numbered p) (plain_tokens [] ts) symbols from to kids →
        KidsHaveSorts (shapes_of p) [] (terms_of (plain_tokens [] ts) [] kids)
        (flat_map (kid_sorts p.sorts) symbols)
    all_sorted all_read = tt
    all_sorted (by_literal is rest) = all_sorted rest
    all_sorted (by_lexeme {kind = kind} {from = from} marked rest) =
        (leaf_sorted from kind marked, all_sorted rest)
    all_sorted (by_lexical_variable {kind = kind} {from = from} marked rest) =
        absurd (no_variable ts from (plain.of_kind kind) all marked)
    all_sorted (by_part kid rest) = (reads_sorted kid, all_sorted rest)

-- a sort of the grammar is the one with its number
sort_is : (p : Parts) (sort : Sort) → IsSort p sort → sort_with p.sorts (sort_number sort) ≡ sort
sort_is p (sorts.Lex kind) h = absurd h
sort_is p (sorts.Plain n) h = ap (λ (b : Bool). cond b (sorts.Typed n) (sorts.Plain n)) h.1
sort_is p (sorts.Typed n) h = ap (λ (b : Bool). cond b (sorts.Typed n) (sorts.Plain n)) h.1

pub read_good : (p : Parts) (sort : Sort) (text : Text) (ts : List Token) (r : Reading) (t : Tree) →
    IsSort p sort → ReadsAs p sort text ts r t → IsGoodTerm (literals_of p) (shapes_of p) sort t
read_good p sort text ts r t is_sort read =
    let all = plain_tokens_all p text ts read.cut in
    let tokens = plain_tokens [] ts in
    let sorted = subst (HasSort (shapes_of p) [] (term_of tokens [] r)) (sort_is p sort is_sort)
    (reads_sorted p ts all read.answer.1.0) in
    let depth : depth_of (term_of tokens [] r) ≤ 1000 =
    omega (arith, term_depth tokens [] r, read.answer.2) in
    let lexemes = term_lexemes (literals_of p) [] ts
    (cut_lexed (literals_of p) false (length text) text ts read.cut.2) [] r in
    subst (IsGoodTerm (literals_of p) (shapes_of p) sort) (sym read.term)
    (record { sorted = sorted; depth = depth; lexemes = lexemes })

-- so the term of a body is one for the subject of the main form
pub body_is_term : (s : BodySource) → IsDialect s.dialect → (ts : List Token) (r : Reading) (t : Tree) →
    IsBody s ts r t → IsTermFor s.dialect Sub t
body_is_term s is ts r t read =
    let d = s.dialect in
    let good =
    read_good d.parts (main_sort d.language Sub) s.header.body ts r t (subject_is_sort d is) read in
    let there : HasLexemes (literals_of (extended d.language.parts is.more)) t =
    subst (λ (p : Parts). HasLexemes (literals_of p) t) is.goes_on good.lexemes in
    record {
      sorted = good.sorted;
      depth = good.depth;
      lexemes = without_more d.language.parts is.more t there;
    }
