-- A text that is written token by token is cut into these tokens.
use Rattle.std.proofs.Common.{◌≡◌, ℕ, zero, suc, get_or, ◌+◌, ◌<◌, ◌≤◌, ◌==◌, List, [], ◌∷◌, ◌++◌, length, IsTrue, Bool, true, false, ◌||◌, inl, inr, sym, refl, ap, ◌∙◌, append_assoc, length-append, arith, lit<}
use Rattle.std.specs.Char.{encode_utf8, is_ascii_digit, is_ascii_alphanumeric}
use Rattle.std.specs.List.{AllByRecursion}
use Rattle.std.proofs.lemmas.Str.{encode_same, encode_ascii, length-encode, len_utf8_bounds, IsUtf8-from_ascii, IsUtf8-nil, IsUtf8-append}
use Rattle.std.specs.Str.{IsUtf8}
use Rattle.std.proofs.lemmas.Bool.{false≢true}
use Rattle.std.proofs.lemmas.Bool.Decides.{nat_tests}
use Rattle.unicode_ident.specs.Ident.{is_xid_continue}
use Rattle.unicode_ident.proofs.IdentLemmas.{is_xid_continue-ascii}
use Rattle.sx_term.specs.declared.lex_kind.LexKind.TheVariants.{Id, Num, Str}
use Rattle.sx_term.specs.declared.mark.Mark.{Mark}
use Rattle.sx_term.specs.declared.mark.Mark.TheVariants.{Lit, Lex, Meta}
use Rattle.sx_term.specs.Cutting.{is_blank_or_feed, is_symbol, is_in_string, BeginsWhere, IsWord}
use Rattle.sx_term.specs.Cutting.{BeginsComment, Stands, Cuts, done, skip, piece, IsOutcome, tokens}
use Rattle.sx_term.specs.Spaced.{IsSymbolLiteral, IsTokenText, spaced, placed, AreBlanks}
use Rattle.sx_term.proofs.Firsts.{blank_low, blank_others, symbol_others}

-- a text that is empty or begins with a blank
data Ends : List ℕ → Type 0 where
  empty : Ends []
  blank : {b : ℕ} {more : List ℕ} → is_blank_or_feed b ≡ true → Ends (b ∷ more)

no_begin : (p : ℕ → Bool) (rest : List ℕ) → ((b : ℕ) → is_blank_or_feed b ≡ true → p b ≡ false) → Ends rest → ¬ (BeginsWhere p rest)
no_begin p [] fails empty (c, tail, pass, e) = absurd (omega (arith, ap length e, length-append (encode_utf8 c) tail, length-encode c, (len_utf8_bounds c).0))
no_begin p (b ∷ more) fails (blank h) (c, tail, pass, e) =
    let same = (encode_same b c more tail (ap (λ t. t ++ more) (encode_ascii b (blank_low b h)) ∙ e)).0 in
    absurd (false≢true (sym (fails b h) ∙ ap p same ∙ pass))

blank_no_digit : (b : ℕ) → is_blank_or_feed b ≡ true → is_ascii_digit b ≡ false
blank_no_digit b h = (blank_others b h).1

blank_no_alphanumeric : (b : ℕ) → is_blank_or_feed b ≡ true → (is_ascii_alphanumeric b || (b == 95)) ≡ false
blank_no_alphanumeric b h = grind (arith, nat_tests)

blank_no_continue : (b : ℕ) → is_blank_or_feed b ≡ true → is_xid_continue b ≡ false
blank_no_continue b h = is_xid_continue-ascii b (blank_low b h) ∙ blank_no_alphanumeric b h

quote_no_begin : (rest : List ℕ) → ¬ (BeginsWhere is_in_string (34 ∷ rest))
quote_no_begin rest (c, tail, pass, e) =
    let same = (encode_same 34 c rest tail (ap (λ t. t ++ rest) (encode_ascii 34 (lit< tt)) ∙ e)).0 in
    absurd (false≢true (ap is_in_string same ∙ pass))

word_ends : (text rest : List ℕ) → Ends rest → IsWord text [] → IsWord text rest
word_ends text rest ends w = record {
  first = w.first;
  others = w.others;
  begins = w.begins;
  split = w.split;
  goes_on = record { characters = w.goes_on.characters; maximal = no_begin is_xid_continue rest blank_no_continue ends };
}

-- symbol characters reach no further than the blank
no_further : (text rest other more : List ℕ) → Ends rest → AllByRecursion (λ b. IsTrue (is_symbol b)) other → text ++ rest ≡ other ++ more → length other ≤ length text
no_further text rest [] more ends all e = omega arith
no_further [] [] (o ∷ other) more empty all e = absurd (omega (arith, ap length e))
no_further [] (b ∷ rest) (o ∷ other) more (blank h) all e =
    let same : b ≡ o = cc in
    absurd (false≢true (sym (symbol_others o all.0).4 ∙ ap is_blank_or_feed (sym same) ∙ h))
no_further (t ∷ text) rest (o ∷ other) more ends all e =
    let tails : text ++ rest ≡ other ++ more = cc in
    omega (arith, no_further text rest other more ends all.1 tails)

no_comment_here : (text rest : List ℕ) → Ends rest → IsSymbolLiteral text → ¬ (BeginsComment (text ++ rest))
no_comment_here [] rest ends h (more, e) = absurd (omega (arith, h.0.0))
no_comment_here (x ∷ []) [] empty h (more, e) = absurd (omega (arith, ap length e))
no_comment_here (x ∷ []) (b ∷ rest) (blank h) s (more, e) =
    let same : b ≡ 47 = cc in
    absurd (false≢true (ap is_blank_or_feed (sym same) ∙ h))
no_comment_here (x ∷ y ∷ text) rest ends h (more, e) =
    let one : x ≡ 47 = cc in
    let two : y ≡ 47 = cc in
    absurd (h.1 [] text (λ i. one i ∷ two i ∷ text))

-- a token text stands before a blank and before the end
token_ends : (literals : List (List ℕ)) (metas : Bool) (mark : Mark) (text rest : List ℕ) → Ends rest → IsTokenText literals metas mark text → Stands literals metas mark text rest
token_ends literals metas (Lit i) text rest ends (e, inl w) = (e, inl (word_ends text rest ends w))
token_ends literals metas (Lit i) text rest ends (e, inr s) = (
  e,
  inr (record {
    symbols = s.0;
    no_comment = no_comment_here text rest ends s;
    longest = λ other more among all same. no_further text rest other more ends all.1 same;
  }),
)
token_ends literals metas (Lex Id) text rest ends (absent, w) = (absent, word_ends text rest ends w)
token_ends literals metas (Lex Num) text rest ends (some, digits) = (some, record { characters = digits; maximal = no_begin is_ascii_digit rest blank_no_digit ends })
token_ends literals metas (Lex Str) text rest ends (inside, e, run) = (inside, e, record { characters = run.characters; maximal = quote_no_begin rest })
token_ends literals metas Meta text rest ends (on, (w, e, is)) = (on, (w, e, word_ends w rest ends is))

blanks_cut : (literals : List (List ℕ)) (metas : Bool) (size : ℕ) (text : List ℕ) → AreBlanks text → Cuts literals metas size text [] []
blanks_cut literals metas size [] all = done
blanks_cut literals metas size (b ∷ text) all = skip (inl (b, all.0, refl)) (blanks_cut literals metas size text all.1)

blanks_end : (text : List ℕ) → AreBlanks text → Ends text
blanks_end [] all = empty
blanks_end (b ∷ text) all = blank all.0

pub spaced_cut : (literals : List (List ℕ)) (metas : Bool) (size from : ℕ) (ts : List (Mark × List ℕ)) (ending : List ℕ) → AllByRecursion (λ t. IsTokenText literals metas t.0 t.1) ts → AreBlanks ending
    → from + length (spaced ts ++ ending) ≡ size → Cuts literals metas size (spaced ts ++ ending) (placed from ts) []
spaced_cut literals metas size from [] ending all blanks at = blanks_cut literals metas size ending blanks
spaced_cut literals metas size from (t ∷ []) ending all blanks at =
    piece (record {
      split = refl;
      stands = token_ends literals metas t.0 t.1 ending (blanks_end ending blanks) all.0;
      from = at;
      to = omega (arith, at, length-append t.1 ending);
    }) (blanks_cut literals metas size ending blanks)
spaced_cut literals metas size from (t ∷ u ∷ ts) ending all blanks at =
    let others = spaced (u ∷ ts) ++ ending in
    let split : spaced (t ∷ u ∷ ts) ++ ending ≡ t.1 ++ (32 ∷ others) = append_assoc t.1 (32 ∷ spaced (u ∷ ts)) ending in
    let long : from + length t.1 + 1 + length others ≡ size = omega (arith, at, ap length split, length-append t.1 (32 ∷ others)) in
    piece (record {
      split = split;
      stands = token_ends literals metas t.0 t.1 (32 ∷ others) (blank refl) all.0;
      from = at;
      to = omega (arith, long);
    }) (skip (inl (32, refl, refl)) (spaced_cut literals metas size (from + length t.1 + 1) (u ∷ ts) ending all.1 blanks long))

blank_utf8 : (b : ℕ) → is_blank_or_feed b ≡ true → IsUtf8 (b ∷ [])
blank_utf8 b h = IsUtf8-from_ascii (b ∷ []) (λ i. one_low b (blank_low b h) i)
  where
    one_low : (b : ℕ) → b < 128 → (i : ℕ) → get_or (b ∷ []) i 0 < 128
    one_low b h zero = h
    one_low b h (suc i) = lit< tt

blanks_utf8 : (text : List ℕ) → AreBlanks text → IsUtf8 text
blanks_utf8 [] all = IsUtf8-nil
blanks_utf8 (b ∷ text) all = IsUtf8-append (b ∷ []) text (blank_utf8 b all.0) (blanks_utf8 text all.1)

spaced_utf8 : (ts : List (Mark × List ℕ)) → AllByRecursion (λ t. IsUtf8 t.1) ts → IsUtf8 (spaced ts)
spaced_utf8 [] all = IsUtf8-nil
spaced_utf8 (t ∷ []) all = all.0
spaced_utf8 (t ∷ u ∷ ts) all = IsUtf8-append t.1 (32 ∷ spaced (u ∷ ts)) all.0 (IsUtf8-append (32 ∷ []) (spaced (u ∷ ts)) (blank_utf8 32 refl) (spaced_utf8 (u ∷ ts) all.1))

length-placed : (from : ℕ) (ts : List (Mark × List ℕ)) → length (placed from ts) ≡ length ts
length-placed from [] = refl
length-placed from (t ∷ ts) = ap suc (length-placed (from + length t.1 + 1) ts)

pub spaced_outcome : (literals : List (List ℕ)) (metas : Bool) (ts : List (Mark × List ℕ)) (ending : List ℕ) → AllByRecursion (λ t. IsTokenText literals metas t.0 t.1) ts → AllByRecursion (λ t. IsUtf8 t.1) ts
    → AreBlanks ending → length ts ≤ 10000 → IsOutcome literals metas (spaced ts ++ ending) (tokens (placed 0 ts))
spaced_outcome literals metas ts ending all utf8 blanks few = (
  IsUtf8-append (spaced ts) ending (spaced_utf8 ts utf8) (blanks_utf8 ending blanks),
  omega (arith, few, length-placed 0 ts),
  spaced_cut literals metas (length (spaced ts ++ ending)) 0 ts ending all blanks (omega arith),
)
