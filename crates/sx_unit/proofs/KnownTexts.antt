-- Printed texts whose only reading is known.
use Rattle.std.proofs.Common.{◌≡◌, ℕ, ◌≤◌, false, List, [], ◌∷◌, ◌++◌, length}
use Rattle.std.proofs.Common.{map, slice_get, Some, refl, sym, ap, ◌∙◌, subst, arith, ⊎_elim}
use Rattle.std.proofs.Common.{length-append}
use Rattle.std.specs.Str.{IsUtf8}
use Rattle.std.specs.List.{AllByRecursion}
use Rattle.std.proofs.lemmas.Bool.{false≢true, cases_lt}
use Rattle.std.proofs.lemmas.List.{append-nil, append_assoc, length-map, nil_from_length}
use Rattle.sx_term.specs.declared.mark.Mark.{Mark}
use Rattle.sx_term.specs.declared.mark.Mark.TheVariants.{Lit, Lex, Meta}
use Rattle.sx_term.specs.declared.sort.Sort.{Sort}
use Rattle.sx_term.specs.Cutting.{Piece, Stands, Cuts, done, skip, piece, IsOutcome, tokens}
use Rattle.sx_term.specs.Spaced.{AreBlanks}
use Rattle.sx_term.specs.Tree.{Tree}
use Rattle.sx_term.proofs.CutLaws.{IsOutcome-same}
use Rattle.sx_token.specs.declared.token.Token.{Token}
use Rattle.sx_token.specs.Tokens.{pieces}
use Rattle.sx_grammar.specs.declared.numbered.NumberedProduction.{NumberedProduction}
use Rattle.sx_grammar.specs.Extended.{extended}
use Rattle.sx_grammar.specs.Grammar.{Text, Stem, of_sort}
use Rattle.sx_grammar.specs.Made.{IsGrammar}
use Rattle.sx_grammar.specs.Numbered.{production}
use Rattle.sx_grammar.specs.Parts.{Line, Parts, literals, names, numbered, numbered_line}
use Rattle.sx_grammar.specs.Print.{Fits, BracketsWhereAsked}
use Rattle.sx_grammar.specs.Reading.{Reading}
use Rattle.sx_grammar.specs.ReadOne.{IsAnswer, only}
use Rattle.sx_grammar.specs.Tables.{literals_of, AreNumbered}
use Rattle.sx_grammar.proofs.DistinctLaws.{distinct_from}
use Rattle.sx_grammar.proofs.Finding.{at_contains, distinct_are}
use Rattle.sx_earley.specs.Completed.{sort_number}
use Rattle.sx_earley.specs.Tokens.{meta_stem, stem_sort, found_stem, read_token, plain_tokens}
use Rattle.sx_print.specs.Cut.{HasLexemes}
use Rattle.sx_print.specs.Printed.{text_of}
use Rattle.sx_print.specs.Tokens.{shown_piece}
use Rattle.sx_print.proofs.Cutting.{cut_into}
use Rattle.sx_print.proofs.Good.{IsGood, AreGood}
use Rattle.sx_notation.proofs.ReadLexemes.{IsLexed, AreLexed, cut_lexed}
use Rattle.sx_typing.specs.Body.{IsCut, ReadsOnly}
use Rattle.sx_typing.specs.Dialects.{DialectData, IsDialect}
use Rattle.sx_unit.specs.Known.{behind_blanks, token_line}
use Rattle.sx_unit.specs.Texts.{printed, print_text}
use Rattle.sx_unit.proofs.Refusing.{same_pieces}
use Rattle.sx_unit.proofs.Reread.{parts_utf8, unblanked_utf8, plain_pieces, many_uncut, reads_only}
use Rattle.sx_unit.proofs.Reread.{are_printed, cut_short}

-- ---- dialects with the productions of their languages

as_many : (p : Parts) (ps : List NumberedProduction) → AreNumbered p ps → length ps ≡ length
    p.productions
as_many p ps are =
    sym (length-map ps (production (literals_of p))) ∙ ap length are
    ∙ length-map p.productions (numbered_line (names p))

none_more : (p : Parts) (more : List Line) → length (extended p more).productions ≡ length
    p.productions → extended p more ≡ p
none_more p more e =
    let none : more ≡ [] = nil_from_length more (omega (
      arith,
      e,
      length-append p.productions more,
    )) in
    ap (extended p) none
    ∙ (λ i. record { sorts = p.sorts; productions = append-nil p.productions i })

-- where there are as many productions, the parts are the same
pub same_parts : (d : DialectData) → IsDialect d → (own all : List NumberedProduction) → AreNumbered
    d.language.parts own → AreNumbered d.parts all → length all ≡ length own → d.parts ≡
    d.language.parts
same_parts d is own all are have e =
    let many : length d.parts.productions ≡ length d.language.parts.productions =
    sym (as_many d.parts all have) ∙ e ∙ as_many d.language.parts own are in
    is.goes_on ∙ none_more d.language.parts is.more
    (ap (λ (p : Parts). length p.productions) (sym is.goes_on) ∙ many)

-- ---- the line of tokens

text_same : (m : Mark) (text : Text) → (read_token [] m text).text ≡ text
text_same (Lit n) text = refl
text_same (Lex kind) text = refl
text_same Meta text = refl

texts_behind : (t : Token) (ts : List Token) → t.text ++ behind_blanks ts ≡ text_of
    (plain_tokens [] (t ∷ ts))
texts_behind t [] = append-nil t.text ∙ sym (text_same t.mark t.text)
texts_behind t (u ∷ ts) = λ i. sym (text_same t.mark t.text) i ++ 32 ∷ texts_behind u ts i

pub line_is : (ts : List Token) → token_line ts ≡ text_of (plain_tokens [] ts) ++ 10 ∷ []
line_is [] = refl
line_is (t ∷ ts) = sym (append_assoc t.text (behind_blanks ts) (10 ∷ []))
    ∙ ap (λ (l : List ℕ). l ++ 10 ∷ []) (texts_behind t ts)

-- ---- tokens of a text are literals of the grammar, and tokens of their kinds

abbrev HasNumber : List Text → Mark → Text → Type 0
HasNumber literals (Lit n) text = slice_get literals n ≡ Some text
HasNumber literals (Lex kind) text = Unit {0}
HasNumber literals Meta text = ⊥

mark_number : (literals : List Text) (m : Mark) (text rest : Text) → Stands literals false m text
    rest → HasNumber literals m text
mark_number literals (Lit n) text rest h = h.0
mark_number literals (Lex kind) text rest h = tt
mark_number literals Meta text rest h = false≢true h.0

have_numbers : {literals : List Text} {size : ℕ} {text rest : Text} {ps : List Piece} →
    Cuts literals false size text ps rest → AllByRecursion (λ q. HasNumber literals q.mark q.text)
    ps
have_numbers done = tt
have_numbers (skip blank more) = have_numbers more
have_numbers {literals = literals} (piece {more = more} {t = t} at rest) =
    (mark_number literals t.mark t.text more at.stands, have_numbers rest)

module _ (p : Parts) (is : IsGrammar p) where
  one_good : (m : Mark) (text : Text) → HasNumber (literals_of p) m text →
      IsLexed (literals_of p) m text → IsGood p (read_token [] m text).mark (read_token [] m text).text
  one_good (Lit n) text h lexed = (
    n,
    h,
    is.0.0.0.0.0.0 text (distinct_from (literals p) text (at_contains (literals_of p) n text h)),
  )
  one_good (Lex kind) text h lexed = lexed kind refl
  one_good Meta text h lexed = absurd h

  all_good : (ts : List Token) →
      AllByRecursion (λ q. HasNumber (literals_of p) q.mark q.text) (pieces ts) →
      AreLexed (literals_of p) ts → AreGood p (plain_tokens [] ts)
  all_good [] have lexed = tt
  all_good (t ∷ ts) have lexed =
      (one_good t.mark t.text have.0 lexed.0, all_good ts have.1 lexed.1)

  tokens_good : (text : Text) (ts : List Token) → IsCut p text ts → AreGood p (plain_tokens [] ts)
  tokens_good text ts cut = all_good ts (have_numbers cut.2)
      (cut_lexed (literals_of p) false (length text) text ts cut.2)

-- ---- a text that is the tokens of another text

abbrev token_of : Piece → Token
token_of q = record { mark = q.mark; text = q.text; from = q.from; to = q.to }

back : (ps : List Piece) → pieces (map token_of ps) ≡ ps
back [] = refl
back (q ∷ ps) = ap (λ (l : List Piece). q ∷ l) (back ps)

-- as many tokens are read
pub plain_many : (ts : List Token) → length (plain_tokens [] ts) ≡ length ts
plain_many ts = length-map ts (λ t. read_token [] t.mark t.text)

abbrev stem_for : Text → Stem
stem_for x = found_stem (stem_sort [] (meta_stem x))

-- tokens of the text that are read as these are
pub record IsSpelled (p : Parts) (text : Text) (ts : List Token) : Type 0 where
  pub tokens : List Token
  pub cut : IsCut p text tokens
  pub same : plain_tokens [] tokens ≡ plain_tokens [] ts

pub spelled : (p : Parts) → IsGrammar p → (source : Text) (ts : List Token) → IsCut p source ts →
    (text blanks : List ℕ) → AreBlanks blanks → text ≡ text_of (plain_tokens [] ts) ++ blanks →
    IsUtf8 text → IsSpelled p text ts
spelled p is source ts cut text blanks are same utf8 =
    let q = plain_tokens [] ts in
    let parts = parts_utf8 q (unblanked_utf8 (text_of q) blanks are (subst IsUtf8 same utf8)) in
    let whole = cut_into p q (tokens_good p is source ts cut) parts in
    let few : length q ≤ 10000 = omega (arith, cut_short p source ts cut, plain_many ts) in
    record {
      tokens = map token_of whole.pieces;
      cut = subst (λ (x : List ℕ). IsOutcome (literals_of p) false x
          (tokens (pieces (map token_of whole.pieces)))) (sym same)
          (subst (λ (ps : List Piece). IsOutcome (literals_of p) false (text_of q ++ blanks)
          (tokens ps)) (sym (back whole.pieces)) (whole.outcome false blanks are few));
      same = plain_pieces (map token_of whole.pieces)
          ∙ ap (map (shown_piece stem_for)) (back whole.pieces) ∙ whole.show stem_for;
    }

-- ---- a printed text with one reading

module _ (p : Parts) (sort : Sort) (t : Tree) (text blanks : List ℕ) (is : IsGrammar p)
    (asked : BracketsWhereAsked (numbered p))
    (fits : Fits (numbered p) [] (of_sort (sort_number sort)) t)
    (has : HasLexemes (literals_of p) t) (are : AreBlanks blanks)
    (same : text ≡ print_text p t ++ blanks) (utf8 : IsUtf8 text)
    (ts : List Token) (cut : IsCut p text ts) where
  few : length (printed p t) ≤ 10000
  few = ⊎_elim (λ many. absurd (many_uncut p sort t text blanks is asked fits has are same utf8 many
      ts cut)) (λ enough. enough) (cases_lt 10000 (length (printed p t)))

  one_cutting : (ps : List Piece) → IsOutcome (literals_of p) false text (tokens ps) → pieces ts ≡
      ps
  one_cutting ps h = same_pieces (pieces ts) ps
      (IsOutcome-same (literals_of p) false text (distinct_are (literals p)) (tokens (pieces ts))
      (tokens ps) cut h)

  -- its tokens are the printed ones
  pub tokens_printed : plain_tokens [] ts ≡ printed p t
  tokens_printed = are_printed p sort t text blanks is asked fits has are same utf8 few ts
      one_cutting

  -- the reading is that of the term
  pub known_read : (r : Reading) → IsAnswer (numbered p) (plain_tokens [] ts) (sort_number sort)
      (only r) → ReadsOnly p sort text t
  known_read r answer = reads_only p sort t text blanks is asked fits has are same utf8 few ts
      one_cutting cut (r, answer)
