-- A printed text is cut into the printed tokens, and they are read as the term.
use Rattle.std.proofs.Common.{◌≡◌, ℕ, ◌+◌, ◌-◌, ◌^◌, ◌<◌, ◌≤◌, false, List, [], ◌∷◌}
use Rattle.std.proofs.Common.{◌++◌, length, map, get_or, min, sym, refl, ap, ◌∙◌, subst}
use Rattle.std.proofs.Common.{inl, arith, length-append, lit<}
use Rattle.std.specs.Str.{IsUtf8}
use Rattle.std.proofs.lemmas.List.{append-nil, length-map}
use Rattle.std.proofs.lemmas.Option.{none-some}
use Rattle.std.proofs.lemmas.Str.{IsUtf8-take, IsUtf8-drop, IsCharBoundary-before_ascii}
use Rattle.std.proofs.lemmas.Str.{IsCharBoundary-after_ascii}
use Rattle.std.proofs.Math.Seq.{take-append_seam, drop-append-add, get_or-append_seam}
use Rattle.sx_term.specs.declared.mark.Mark as marks
use Rattle.sx_term.specs.declared.mark.Mark.TheVariants.{Lit, Lex, Meta}
use Rattle.sx_term.specs.declared.sort.Sort.{Sort}
use Rattle.sx_term.specs.Cutting.{Piece, Cuts, IsOutcome, tokens}
use Rattle.sx_term.specs.Spaced.{AreBlanks}
use Rattle.sx_term.specs.Tree.{Tree}
use Rattle.sx_term.proofs.CutLaws.{Cuts-same, IsStuck-nil}
use Rattle.sx_term.proofs.Firsts.{blank_low}
use Rattle.sx_token.specs.declared.token.Token.{Token}
use Rattle.sx_token.specs.Tokens.{piece_of, pieces}
use Rattle.sx_grammar.specs.Grammar as plain
use Rattle.sx_grammar.specs.Grammar.{Text, Grammar, Stem, of_sort}
use Rattle.sx_grammar.specs.Parts.{Parts, literals, numbered}
use Rattle.sx_grammar.specs.Tables.{literals_of}
use Rattle.sx_grammar.proofs.Finding.{distinct_are}
use Rattle.sx_grammar.specs.Made.{IsGrammar}
use Rattle.sx_grammar.specs.Reading.{Reading, ReadsWhole}
use Rattle.sx_grammar.specs.ReadOne.{IsAnswer, only}
use Rattle.sx_grammar.specs.Print.{print, term_of, Fits, node_fits, lexeme_fits, hole_fits}
use Rattle.sx_grammar.specs.Print.{BracketsWhereAsked}
use Rattle.sx_earley.specs.Tokens.{meta_stem, stem_sort, found_stem, read_token as shown_token}
use Rattle.sx_earley.specs.Tokens.{plain_tokens}
use Rattle.sx_earley.specs.Unknown.{HaveStems}
use Rattle.sx_earley.specs.Completed.{sort_number}
use Rattle.sx_earley.proofs.NoMetas.{cut_has_stems}
use Rattle.sx_print.specs.Tokens.{shown_piece, shown_mark}
use Rattle.sx_print.specs.Printed.{text_of, HaveUtf8}
use Rattle.sx_print.specs.Cut.{HasLexemes, IsCutInto, HasReading}
use Rattle.sx_print.proofs.Cutting.{cut_into}
use Rattle.sx_print.proofs.Good.{tokens_good}
use Rattle.sx_print.proofs.Fitting.{printed_read}
use Rattle.sx_typing.specs.Body.{IsCut, ReadsOnly}
use Rattle.sx_unit.specs.Texts.{printed, print_text}

-- ---- UTF-8

front_utf8 : (a b : List ℕ) (c : ℕ) → c < 128 → IsUtf8 (a ++ c ∷ b) → IsUtf8 a
front_utf8 a b c low utf8 =
    let at : get_or (a ++ c ∷ b) (length a) 0 ≡ c = get_or-append_seam a c b 0 in
    subst IsUtf8 (take-append_seam a (c ∷ b))
    (IsUtf8-take (a ++ c ∷ b) (length a) utf8 (IsCharBoundary-before_ascii (a ++ c ∷ b) (length a)
    (omega (arith, length-append a (c ∷ b))) (omega (arith, at, low))))

rest_utf8 : (a b : List ℕ) (c : ℕ) → c < 128 → IsUtf8 (a ++ c ∷ b) → IsUtf8 b
rest_utf8 a b c low utf8 =
    let at : get_or (a ++ c ∷ b) (length a) 0 ≡ c = get_or-append_seam a c b 0 in
    subst IsUtf8 (drop-append-add a (c ∷ b) 1)
    (IsUtf8-drop (a ++ c ∷ b) (length a + 1) utf8 (IsCharBoundary-after_ascii (a ++ c ∷ b)
    (length a) utf8 (omega (arith, length-append a (c ∷ b))) (omega (arith, at, low))))

-- each token of a UTF-8 text is UTF-8
pub parts_utf8 : (ts : List plain.Token) → IsUtf8 (text_of ts) → HaveUtf8 ts
parts_utf8 [] utf8 = tt
parts_utf8 (t ∷ []) utf8 = (utf8, tt)
parts_utf8 (t ∷ u ∷ ts) utf8 = (
  front_utf8 t.text (text_of (u ∷ ts)) 32 (lit< tt) utf8,
  parts_utf8 (u ∷ ts) (rest_utf8 t.text (text_of (u ∷ ts)) 32 (lit< tt) utf8),
)

pub unblanked_utf8 : (text blanks : List ℕ) → AreBlanks blanks → IsUtf8 (text ++ blanks) → IsUtf8 text
unblanked_utf8 text [] are utf8 = subst IsUtf8 (append-nil text) utf8
unblanked_utf8 text (b ∷ blanks) are utf8 = front_utf8 text blanks b (blank_low b are.0) utf8

-- ---- how many tokens

-- there is at most one token more than bytes
tokens_few : (ts : List plain.Token) → length ts ≤ length (text_of ts) + 1
tokens_few [] = omega arith
tokens_few (t ∷ []) = omega arith
tokens_few (t ∷ u ∷ ts) = omega (
  arith,
  tokens_few (u ∷ ts),
  length-append t.text
      (32 ∷ text_of (u ∷ ts)),
)

few_printed : (p : Parts) (t : Tree) (text blanks : List ℕ) (size : ℕ) →
    text ≡ print_text p t ++ blanks → length text ≤ size → length (printed p t) ≤ size + 1
few_printed p t text blanks size is within =
    omega (
      arith,
      within,
      ap length is,
      length-append (print_text p t) blanks,
      tokens_few (printed p t),
    )

-- so in a short file they are counted as they are
pub exact_count : (p : Parts) (t : Tree) (text blanks : List ℕ) (size count : ℕ) →
    text ≡ print_text p t ++ blanks → length text ≤ size → size ≤ 262144 →
    count ≡ min (length (printed p t)) (2 ^ 64 - 1) → count ≡ length (printed p t)
exact_count p t text blanks size count is within short counted =
    omega (arith, counted, short, few_printed p t text blanks size is within)

pub few_enough : (p : Parts) (t : Tree) (text blanks : List ℕ) (size count : ℕ) →
    text ≡ print_text p t ++ blanks → length text ≤ size → size ≤ 262144 →
    count ≡ min (length (printed p t)) (2 ^ 64 - 1) → count ≤ 10000 → length (printed p t) ≤ 10000
few_enough p t text blanks size count is within short counted few =
    omega (arith, few, exact_count p t text blanks size count is within short counted)

-- ---- tokens as a grammar reads them

shown_same : (mark : marks.Mark) (text : Text) → shown_token [] mark text ≡ record
    { mark = shown_mark (λ x. found_stem (stem_sort [] (meta_stem x))) mark text; text = text }
shown_same (Lit n) text = refl
shown_same (Lex kind) text = refl
shown_same Meta text = refl

pub plain_pieces : (ts : List Token) → plain_tokens [] ts ≡ map
    (shown_piece (λ x. found_stem (stem_sort [] (meta_stem x)))) (pieces ts)
plain_pieces [] = refl
plain_pieces (t ∷ ts) = λ i. shown_same t.mark t.text i ∷ plain_pieces ts i

-- a term without variables is printed in the same way at each place
same_print : {g : Grammar} {place : Stem} {t : Tree} → Fits g [] place t →
    (here there : Stem) (least : ℕ) → print g [] t here least ≡ print g [] t there least
same_print (node_fits e all) here there least = refl
same_print lexeme_fits here there least = refl
same_print (hole_fits h) here there least = absurd (none-some _ h)

-- ---- the printed text

module _ (p : Parts) (sort : Sort) (t : Tree) (text blanks : List ℕ) (is : IsGrammar p)
    (asked : BracketsWhereAsked (numbered p))
    (fits : Fits (numbered p) [] (of_sort (sort_number sort)) t)
    (has : HasLexemes (literals_of p) t) (are : AreBlanks blanks)
    (same : text ≡ print_text p t ++ blanks) (utf8 : IsUtf8 text) where
  cut_print : IsCutInto (literals_of p) (printed p t) (print_text p t)
  cut_print = cut_into p (printed p t) (tokens_good p [] is fits has (of_sort 0) 0)
      (parts_utf8 (printed p t) (unblanked_utf8 (print_text p t) blanks are
      (subst IsUtf8 same utf8)))

  -- it has tokens, where they are few enough
  print_stands : length (printed p t) ≤ 10000 → IsOutcome (literals_of p) false text
      (tokens cut_print.pieces)
  print_stands few = subst (λ x. IsOutcome (literals_of p) false x (tokens cut_print.pieces))
      (sym same) (cut_print.outcome false blanks are few)

  pub print_outcome : length (printed p t) ≤ 10000 → (ps : List Piece) × IsOutcome (literals_of p)
      false text (tokens ps)
  print_outcome few = (cut_print.pieces, print_stands few)

  -- and no tokens, where they are not
  pub many_uncut : 10000 < length (printed p t) → (ts : List Token) → IsCut p text ts → ⊥
  many_uncut many ts cut =
      let here = subst (λ x. Cuts (literals_of p) false (length x) x cut_print.pieces []) (sym same)
      (cut_print.cut false blanks are) in
      let alike = Cuts-same (distinct_are (literals p)) (IsStuck-nil (literals_of p) false)
      (IsStuck-nil (literals_of p) false) cut.2 here in
      let shown_as : plain.Text → Stem = λ x. found_stem (stem_sort [] (meta_stem x)) in
      let as_many : length (printed p t) ≡ length cut_print.pieces =
      ap length (sym (cut_print.show shown_as)) ∙ length-map cut_print.pieces (shown_piece shown_as)
      in
      omega (arith, many, cut.1, ap length alike.0, as_many)

  reading_at_zero : HasReading (numbered p) [] (printed p t) (sort_number sort) 0 t
  reading_at_zero =
      subst (λ x. HasReading (numbered p) [] x (sort_number sort) 0 t)
      (same_print fits (of_sort (sort_number sort)) (of_sort 0) 0)
      (printed_read (numbered p) [] 0 (sort_number sort) 0 t asked
      (record {
        stems = [];
        place = of_sort (sort_number sort);
        fits = fits;
        named = omega arith;
        asked = inl refl;
      }) fits)

  module _ (few : length (printed p t) ≤ 10000) (ts : List Token) (only_one : (ps : List Piece) →
      IsOutcome (literals_of p) false text (tokens ps) → pieces ts ≡ ps) where
    pub are_printed : plain_tokens [] ts ≡ printed p t
    are_printed =
        plain_pieces ts ∙ ap (map (shown_piece (λ x. found_stem (stem_sort [] (meta_stem x)))))
        (only_one cut_print.pieces (print_stands few)) ∙ cut_print.show
        (λ x. found_stem (stem_sort [] (meta_stem x)))

    reading_of_tokens : HasReading (numbered p) [] (plain_tokens [] ts) (sort_number sort) 0 t
    reading_of_tokens = subst (λ x. HasReading (numbered p) [] x (sort_number sort) 0 t)
        (sym are_printed) reading_at_zero

    pub print_reads : (r : Reading) × ReadsWhole (numbered p) (plain_tokens [] ts) (sort_number sort)
        r
    print_reads = (reading_of_tokens.0, reading_of_tokens.1)

    -- the only reading is that of the term
    pub reads_only : IsCut p text ts → (r : Reading) × IsAnswer (numbered p) (plain_tokens [] ts)
        (sort_number sort) (only r) → ReadsOnly p sort text t
    reads_only cut answer = (
      ts,
      answer.0,
      record {
        cut = cut;
        answer = answer.1;
        term = sym reading_of_tokens.2 ∙ ap (term_of (plain_tokens [] ts) [])
            (answer.1.1.1 reading_of_tokens.0 reading_of_tokens.1);
      },
    )

-- ---- tokens of a text without metavariables

pub cut_short : (p : Parts) (text : Text) (ts : List Token) → IsCut p text ts → length ts ≤ 10000
cut_short p text ts cut = omega (arith, cut.1, length-map ts piece_of)

pub cut_stems : (p : Parts) (text : Text) (ts : List Token) → IsCut p text ts → HaveStems [] ts
cut_stems p text ts cut = cut_has_stems [] ts cut.2
