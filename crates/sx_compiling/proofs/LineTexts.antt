-- Printed texts are those of lines.
use Rattle.std.proofs.Common.{◌≡◌, ◌≢◌, ℕ, ◌<◌, ◌≤◌, ◌⊎◌, Bool, false, eqb}
use Rattle.std.proofs.Common.{List, [], ◌∷◌, ◌++◌, length, inl, inr, refl, sym, ap, ◌∙◌, subst}
use Rattle.std.proofs.Common.{append_assoc, length-append, arith, lit<, ⊎_elim}
use Rattle.std.specs.Char.{encode_utf8, is_ascii_digit}
use Rattle.std.specs.List.{AllByRecursion}
use Rattle.std.specs.Prelude.{IsTrue}
use Rattle.std.specs.Str.{encode_utf8_all, IsUtf8}
use Rattle.std.proofs.lemmas.Bool.{false≢true}
use Rattle.std.proofs.lemmas.Bool.Decides.{nat_tests}
use Rattle.std.proofs.lemmas.Str.{length-encode, len_utf8_bounds}
use Rattle.unicode_ident.specs.Ident.{is_xid_continue}
use Rattle.unicode_ident.proofs.IdentLemmas.{is_xid_start-ascii, is_xid_continue-ascii}
use Rattle.sx_term.specs.declared.lex_kind.LexKind.TheVariants.{Id, Num, Str}
use Rattle.sx_term.specs.Cutting.{begins_word, is_symbol, is_in_string, AreCharacters, IsWord}
use Rattle.sx_term.specs.Cutting.{AreSymbols, IsString}
use Rattle.sx_term.specs.Spaced.{IsWordLiteral, IsSymbolLiteral}
use Rattle.sx_term.proofs.Utf8.{encode_1, encode_2, encode_3, encode_4}
use Rattle.sx_lines.specs.Lines.{NoFeed, stripped, IsLineText}
use Rattle.sx_lines.proofs.LineLaws.{stripped_push}
use Rattle.sx_lines.proofs.TextLaws.{IsInnerByte, IsPlain, IsPlain-append, plain_text}
use Rattle.sx_lines.proofs.Utf8Laws.{utf8_cut}
use Rattle.sx_grammar.specs.Grammar.{Text, Mark, is_literal, is_lexeme, is_variable, Token}
use Rattle.sx_grammar.specs.Parts.{Parts}
use Rattle.sx_print.specs.Printed.{text_of, HaveUtf8}
use Rattle.sx_print.proofs.Good.{IsGood, AreGood}
use Rattle.sx_print.proofs.Shapes.{good_shape}

-- ---- bytes of characters

-- a character has one byte, two, three or four
sizes : (c : ℕ) → (c < 128) ⊎ (((128 ≤ c) × (c < 2048)) ⊎ (((2048 ≤ c) × (c < 65536))
    ⊎ (65536 ≤ c)))
sizes c = grind arith

-- what holds of the character and of all bytes from 128 holds of its bytes
module _ (P : ℕ → Type 0) (high : (b : ℕ) → 128 ≤ b → P b) where
  char_bytes : (c : ℕ) → P c → AllByRecursion P (encode_utf8 c)
  char_bytes c h =
      ⊎_elim (λ a. subst (AllByRecursion P) (sym (encode_1 c a)) (h, tt))
      (⊎_elim
      (λ a. subst (AllByRecursion P) (sym (encode_2 c a.0 a.1))
      (high _ (omega arith), (high _ (omega arith), tt)))
      (⊎_elim
      (λ a. subst (AllByRecursion P) (sym (encode_3 c a.0 a.1))
      (high _ (omega arith), (high _ (omega arith), (high _ (omega arith), tt))))
      (λ a. subst (AllByRecursion P) (sym (encode_4 c a)) (
        high _ (omega arith),
        (high _ (omega arith), (high _ (omega arith), (high _ (omega arith), tt))),
      )))) (sizes c)

  all_append : (xs ys : List ℕ) → AllByRecursion P xs → AllByRecursion P ys →
      AllByRecursion P (xs ++ ys)
  all_append [] ys h k = k
  all_append (x ∷ xs) ys h k = (h.0, all_append xs ys h.1 k)

  module _ (test : ℕ → Bool) (passes : (c : ℕ) → IsTrue (test c) → P c) where
    chars_bytes : (cs : List ℕ) → AllByRecursion (λ c. IsTrue (test c)) cs →
        AllByRecursion P (encode_utf8_all cs)
    chars_bytes [] all = tt
    chars_bytes (c ∷ cs) all =
        all_append (encode_utf8 c) (encode_utf8_all cs) (char_bytes c (passes c all.0))
        (chars_bytes cs all.1)

    characters_bytes : (run : List ℕ) → AreCharacters test run → AllByRecursion P run
    characters_bytes run (cs, all, is) = subst (AllByRecursion P) (sym is) (chars_bytes cs all)

-- a character that passes a test is none that does not
no_such : (test : ℕ → Bool) (c n : ℕ) → test n ≡ false → IsTrue (test c) → c ≢ n
no_such test c n none h e = false≢true (sym none ∙ ap test (sym e) ∙ h)

-- ---- the bytes of tokens

high_inner : (b : ℕ) → 128 ≤ b → IsInnerByte b
high_inner b h = record { feed = λ e. omega (arith, h, e); return = λ e. omega (arith, h, e) }

inner_by : (test : ℕ → Bool) → test 10 ≡ false → test 13 ≡ false → (c : ℕ) → IsTrue (test c) →
    IsInnerByte c
inner_by test feed return c h = record {
  feed = no_such test c 10 feed h;
  return = no_such test c 13 return h;
}

continue_inner : (c : ℕ) → IsTrue (is_xid_continue c) → IsInnerByte c
continue_inner =
    inner_by is_xid_continue (is_xid_continue-ascii 10 (lit< tt))
    (is_xid_continue-ascii 13 (lit< tt))

begins_feed : begins_word 10 ≡ false
begins_feed = rw (is_xid_start-ascii 10 (lit< tt)) refl

begins_return : begins_word 13 ≡ false
begins_return = rw (is_xid_start-ascii 13 (lit< tt)) refl

word_plain : (text rest : List ℕ) → IsWord text rest → IsPlain text
word_plain text rest w =
    subst IsPlain (sym w.split)
    (IsPlain-append (encode_utf8 w.first) w.others
    (char_bytes IsInnerByte high_inner w.first
    (inner_by begins_word begins_feed begins_return w.first w.begins))
    (characters_bytes IsInnerByte high_inner is_xid_continue continue_inner w.others
    w.goes_on.characters))

word_long : (text rest : List ℕ) → IsWord text rest → 0 < length text
word_long text rest w =
    omega (
      arith,
      ap length w.split,
      length-append (encode_utf8 w.first) w.others,
      length-encode w.first,
      (len_utf8_bounds w.first).0,
    )

symbols_plain : (text : List ℕ) → AllByRecursion (λ b. IsTrue (is_symbol b)) text → IsPlain text
symbols_plain [] all = tt
symbols_plain (b ∷ text) all =
    (inner_by is_symbol refl refl b all.0, symbols_plain text all.1)

-- ---- texts that may end a line

-- it has no line feed, and behind whatever front nothing is dropped of it where a line ends
record EndsLine (text : List ℕ) : Type 0 where
  feed : NoFeed text
  ends : (front : List ℕ) → stripped (front ++ text) ≡ front ++ text

feeds_append : (xs ys : List ℕ) → NoFeed xs → NoFeed ys → NoFeed (xs ++ ys)
feeds_append [] ys h k = k
feeds_append (x ∷ xs) ys h k = (h.0, feeds_append xs ys h.1 k)

inner_last : (front : List ℕ) (b : ℕ) → b ≢ 13 → stripped (front ++ b ∷ []) ≡ front ++ b ∷ []
inner_last front b other =
    let test : eqb b 13 ≡ false = grind (arith, nat_tests) in
    stripped_push front b ∙ rw test refl

plain_last : (text front : List ℕ) → IsPlain text → 0 < length text →
    stripped (front ++ text) ≡ front ++ text
plain_last [] front h lt = absurd (omega (arith, lt))
plain_last (b ∷ []) front h lt = inner_last front b h.0.return
plain_last (b ∷ c ∷ more) front h lt =
    subst (λ (x : List ℕ). stripped x ≡ x) (append_assoc front (b ∷ []) (c ∷ more))
    (plain_last (c ∷ more) (front ++ b ∷ []) h.1 (omega arith))

plain_ends : (text : List ℕ) → IsPlain text → 0 < length text → EndsLine text
plain_ends text h lt = record {
  feed = (plain_text text h).feed;
  ends = λ front. plain_last text front h lt;
}

-- bytes that are no line feeds
no_feeds : (text : List ℕ) → AllByRecursion (λ b. b ≢ 10) text → NoFeed text
no_feeds [] all = tt
no_feeds (b ∷ text) all = (all.0, no_feeds text all.1)

string_ends : (text rest : List ℕ) → IsString text rest → EndsLine text
string_ends text rest (inside, is, run) =
    let within = no_feeds inside (characters_bytes (λ b. b ≢ 10) (λ b h e. omega (arith, h, e))
    is_in_string (λ c. no_such is_in_string c 10 refl) inside run.characters) in
    subst EndsLine (sym is) (record {
      feed = (
        λ e. omega (arith, e),
        feeds_append inside (34 ∷ []) within (
          λ e. omega (arith, e),
          tt,
        ),
      );
      ends = λ front. subst (λ (x : List ℕ). stripped x ≡ x)
          (append_assoc front (34 ∷ inside) (34 ∷ []))
          (inner_last (front ++ 34 ∷ inside) 34 (λ e. omega (arith, e)));
    })

word_ends : (text rest : List ℕ) → IsWord text rest → EndsLine text
word_ends text rest w = plain_ends text (word_plain text rest w) (word_long text rest w)

symbols_end : (text : List ℕ) → AreSymbols text → EndsLine text
symbols_end text h = plain_ends text (symbols_plain text h.1) h.0

token_ends : (p : Parts) (mark : Mark) (text : Text) → IsGood p mark text → IsUtf8 text →
    EndsLine text
token_ends p is_literal text good utf8 = by_shape (good_shape text utf8 good.2)
  where
    by_shape : IsWordLiteral text ⊎ IsSymbolLiteral text → EndsLine text
    by_shape (inl word) = word_ends text [] word
    by_shape (inr symbols) = symbols_end text symbols.0
token_ends p (is_lexeme Id) text good utf8 = word_ends text [] good.1
token_ends p (is_lexeme Num) text good utf8 =
    plain_ends text (characters_bytes IsInnerByte high_inner is_ascii_digit
    (inner_by is_ascii_digit refl refl) text good.1) good.0
token_ends p (is_lexeme Str) text good utf8 = string_ends text [] good
token_ends p (is_variable stem) text good utf8 = absurd good

-- ---- printed texts

behind : (text after : List ℕ) → NoFeed text → EndsLine after → EndsLine (text ++ 32 ∷ after)
behind text after h k = record {
  feed = feeds_append text (32 ∷ after) h (λ e. omega (arith, e), k.feed);
  ends = λ front. subst (λ (x : List ℕ). stripped x ≡ x)
      (append_assoc front (text ++ 32 ∷ []) after
      ∙ ap (λ (x : List ℕ). front ++ x) (append_assoc text (32 ∷ []) after))
      (k.ends (front ++ (text ++ 32 ∷ [])));
}

tokens_end : (p : Parts) (t : Token) (ts : List Token) → AreGood p (t ∷ ts) → HaveUtf8 (t ∷ ts) →
    EndsLine (text_of (t ∷ ts))
tokens_end p t [] good utf8 = token_ends p t.mark t.text good.0 utf8.0
tokens_end p t (u ∷ ts) good utf8 =
    behind t.text (text_of (u ∷ ts)) (token_ends p t.mark t.text good.0 utf8.0).feed
    (tokens_end p u ts good.1 utf8.1)

-- each token of a UTF-8 text is UTF-8
parts_utf8 : (ts : List Token) → IsUtf8 (text_of ts) → HaveUtf8 ts
parts_utf8 [] utf8 = tt
parts_utf8 (t ∷ []) utf8 = (utf8, tt)
parts_utf8 (t ∷ u ∷ ts) utf8 =
    let cut = utf8_cut t.text (text_of (u ∷ ts)) 32 (lit< tt) utf8 in
    (cut.0, parts_utf8 (u ∷ ts) cut.1)

-- the text of good tokens, which is UTF-8, is that of a line
pub tokens_line : (p : Parts) (ts : List Token) → AreGood p ts → IsUtf8 (text_of ts) →
    IsLineText (text_of ts)
tokens_line p [] good utf8 = record { feed = tt; end = refl }
tokens_line p (t ∷ ts) good utf8 =
    let ends = tokens_end p t ts good (parts_utf8 (t ∷ ts) utf8) in
    record { feed = ends.feed; end = ends.ends [] }
