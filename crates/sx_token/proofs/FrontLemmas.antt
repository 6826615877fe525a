-- What stands at the front of a text.
use Rattle.std.proofs.Common.{◌≡◌, ◌≢◌, ℕ, zero, suc, ◌+◌, ◌<◌, ◌≤◌, ◌==◌, List, [], ◌∷◌, ◌++◌, length, take, drop, get_or, IsTrue, Bool, true, false, Some, inl, inr, sym, refl, if◌then◌else◌, ap, ◌∙◌, subst, append_assoc, length-append, length-take-le, take-append-drop, length-drop, get_or-drop, add-zero, add-one, arith}
use Rattle.std.specs.Prelude.{slice_index, slice_get}
use Rattle.std.specs.Char.{encode_utf8, is_ascii_digit}
use Rattle.std.specs.Str.{IsCharBoundary, IsUtf8}
use Rattle.std.proofs.Math.Seq.{take-append_seam, drop-append_seam, drop-cons}
use Rattle.std.proofs.lemmas.Bool.Decides.{nat_tests}
use Rattle.std.proofs.lemmas.Str.{byte_from_char, encode_ascii, length-encode, len_utf8_bounds, IsCharBoundary-at_seam, IsCharBoundary-after_ascii, IsUtf8-drop}
use Rattle.sx_term.specs.declared.mark.Mark.{Mark}
use Rattle.sx_term.specs.Vars.{without_tilde}
use Rattle.sx_term.specs.Cutting.{is_blank_or_feed, is_symbol, is_in_line, is_in_string}
use Rattle.sx_term.specs.Cutting.{begins_word, BeginsWhere, IsMaximalRun, IsWord, IsString}
use Rattle.sx_term.specs.Cutting.{AreSymbols, IsLongestSymbol, Skips, IsOpenString, IsBadToken}
use Rattle.sx_term.proofs.Firsts.{Class, Quote, Tilde, Blank, Symbol, Other, class_of, HasClass, HasClass-same, HasClass-quote, HasClass-tilde, HasClass-blank, HasClass-symbol}
use Rattle.std.proofs.lemmas.Bool.{false_from_ne_true, eqb-true}
use Rattle.sx_term.proofs.CutLaws.{Classed, meta, symbol, at_class, Contains-at}
use Rattle.sx_token.specs.Front.{AreWholeCharacters, IsOther}
use Rattle.sx_token.specs.Symbol.{NoneLonger}

-- the text is its first byte and what follows
pub first_byte : (text : List ℕ) (b : ℕ) → slice_index text 0 ≡ b → 0 < b → text ≡ b ∷ drop 1 text
first_byte [] b e h = absurd (omega (arith, e))
first_byte (x ∷ text) b e h = ap (λ t. t ∷ text) e

pub boundary_1 : (text : List ℕ) (b : ℕ) → IsUtf8 text → slice_index text 0 ≡ b → 0 < b → b < 128 → IsCharBoundary text 1
boundary_1 text b utf8 e h low = IsCharBoundary-after_ascii text 0 utf8 (omega (arith, ap length (first_byte text b e h))) (omega (arith, e))

-- the text is cut after a front before whole characters
pub cut_front : (P : List ℕ → List ℕ → Type 0) (text a b : List ℕ) (n : ℕ) → text ≡ a ++ b → n ≡ length a → 0 < n → IsUtf8 b → P a b → AreWholeCharacters text n × P (take n text) (drop n text)
cut_front P text a b n e size some utf8 p =
    let front : take n text ≡ a = (λ i. take (size i) (e i)) ∙ take-append_seam a b in
    let back : drop n text ≡ b = (λ i. drop (size i) (e i)) ∙ drop-append_seam a b in
    ((some, subst (IsCharBoundary text) (sym size) (IsCharBoundary-at_seam text a b e utf8)), subst (λ t. P t (drop n text)) (sym front) (subst (P a) (sym back) p))

-- a text has a first character
class_some : (k : Class) (text : List ℕ) → HasClass k text → 0 < length text
class_some k text (c, tail, e, h) = omega (arith, ap length e, length-append (encode_utf8 c) tail, length-encode c, (len_utf8_bounds c).0)

-- where no token of the class stands, nothing does
bad_here : (literals : List (List ℕ)) (metas : Bool) (text : List ℕ) (k : Class) → HasClass k text → (Blank ≡ k → ⊥) → (Quote ≡ k → ⊥)
    → ((line rest : List ℕ) → text ≡ 47 ∷ 47 ∷ line ++ rest → ⊥) → ((m : Mark) (a x : List ℕ) → text ≡ a ++ x → Classed literals metas k m a x → ⊥) → IsBadToken literals metas text
bad_here literals metas text k has not_blank not_quote not_comment not_token = record {
  nonempty = class_some k text has;
  stuck = record {
    no_skip = λ rest skips. elim skips [
      | inl h ↦ not_blank (HasClass-same text (subst (HasClass Blank) (sym h.2) (HasClass-blank h.0 rest h.1)) has)
      | inr h ↦ not_comment h.0 rest h.1
    ];
    no_token = λ m a x e stands. not_token m a x e (at_class literals metas k m text a x has stands e);
  };
  no_quote = λ more e. not_quote (HasClass-same text (subst (HasClass Quote) (sym e) (HasClass-quote more)) has);
}

tail_same : {a b : ℕ} {x y : List ℕ} → a ∷ x ≡ b ∷ y → x ≡ y
tail_same e = cc

meta_token : {literals : List (List ℕ)} {metas : Bool} {m : Mark} {a x : List ℕ} → Classed literals metas Tilde m a x → IsTrue metas × ((w : List ℕ) × (a ≡ 126 ∷ w) × IsWord w x)
meta_token (meta on w e is) = (on, (w, e, is))

word_begins : (text word rest : List ℕ) → IsWord word rest → text ≡ word ++ rest → BeginsWhere begins_word text
word_begins text word rest w e = (w.first, w.others ++ rest, w.begins, e ∙ ap (λ t. t ++ rest) w.split ∙ append_assoc (encode_utf8 w.first) w.others rest)

-- a tilde where no metavariable may stand, or without a word
pub bad_tilde : (literals : List (List ℕ)) (metas : Bool) (text after : List ℕ) → text ≡ 126 ∷ after → (metas ≡ true → ¬ (BeginsWhere begins_word after)) → IsBadToken literals metas text
bad_tilde literals metas text after e none =
    bad_here literals metas text Tilde (subst (HasClass Tilde) (sym e) (HasClass-tilde after)) (λ h. cc) (λ h. cc) (λ line rest f. omega (arith, ap (λ t. get_or t 0 0) (sym e ∙ f)))
    (λ m a x f token. let it = meta_token token in none it.0 (word_begins after it.1.0 x it.1.2 (tail_same (sym e ∙ f ∙ ap (λ t. t ++ x) it.1.1))))

symbol_token : {literals : List (List ℕ)} {metas : Bool} {m : Mark} {a x : List ℕ} → Classed literals metas Symbol m a x → (i : ℕ) × (slice_get literals i ≡ Some a) × AreSymbols a
symbol_token (symbol {i = i} p s) = (i, p, s.symbols)

-- a symbol character at which no literal and no comment stands
pub bad_symbol : (literals : List (List ℕ)) (metas : Bool) (text : List ℕ) → is_symbol (slice_index text 0) ≡ true → ((more : List ℕ) → text ≢ 47 ∷ 47 ∷ more) → NoneLonger literals text 0 → IsBadToken literals metas text
bad_symbol literals metas [] h no_comment none = let clash : false ≡ true = h in cc
bad_symbol literals metas (b ∷ text) h no_comment none =
    bad_here literals metas (b ∷ text) Symbol (HasClass-symbol b text h) (λ h. cc) (λ h. cc) (λ line rest f. no_comment (line ++ rest) f)
    (λ m a x f token. let it = symbol_token token in absurd (omega (arith, none a x (Contains-at literals it.0 a it.1) it.2 f, it.2.0)))

class_of-other : (c : ℕ) → begins_word c ≡ false → is_ascii_digit c ≡ false → (c == 34) ≡ false → (c == 126) ≡ false → is_blank_or_feed c ≡ false → is_symbol c ≡ false → class_of c ≡ Other
unfolding class_of
class_of-other c w d q t b s = rw (s, b, w, d, q, t) refl

other_token : {literals : List (List ℕ)} {metas : Bool} {m : Mark} {a x : List ℕ} → Classed literals metas Other m a x → ⊥
other_token h = elim h [ ]

-- a character that begins nothing
pub bad_other : (literals : List (List ℕ)) (metas : Bool) (text : List ℕ) → IsOther text → ¬ (BeginsWhere begins_word text) → IsBadToken literals metas text
bad_other literals metas text o none =
    let no_word : begins_word o.first ≡ false = false_from_ne_true (begins_word o.first) (λ begins. none (o.first, o.others, begins, o.split)) in
    let has : HasClass Other text = (o.first, o.others, o.split, class_of-other o.first no_word o.no_digit o.no_quote o.no_tilde o.no_blank o.no_symbol) in
    bad_here literals metas text Other has (λ h. cc) (λ h. cc)
    (λ line rest e. let clash : Symbol ≡ Other = HasClass-same text (subst (HasClass Symbol) (sym e) (HasClass-symbol 47 (47 ∷ line ++ rest) refl)) has in cc)
    (λ m a x e token. other_token token)

-- a blank
blank_low : (c : ℕ) → is_blank_or_feed c ≡ true → c < 128
blank_low c h = grind (arith, nat_tests)

pub blank_here : (text rest : List ℕ) (c : ℕ) → is_blank_or_feed c ≡ true → IsUtf8 rest → text ≡ encode_utf8 c ++ rest → AreWholeCharacters text 1 × Skips text (drop 1 text)
blank_here text rest c h utf8 e =
    let all : text ≡ c ∷ rest = e ∙ ap (λ (front : List ℕ). front ++ rest) (encode_ascii c (blank_low c h)) in
    cut_front (λ _ more. Skips text more) text (c ∷ []) rest 1 all (omega arith) (omega arith) utf8 (inl (c, h, all))

-- a string
pub string_here : (text after : List ℕ) (n : ℕ) → IsUtf8 after → text ≡ 34 ∷ after → IsMaximalRun is_in_string (take n after) (drop n after) → n < length after → slice_index after n ≡ 34
    → AreWholeCharacters text (n + 2) × IsString (take (n + 2) text) (drop (n + 2) text)
string_here text after n utf8 e run lt quote =
    let rest = drop (suc n) after in
    let here : drop n after ≡ 34 ∷ rest = drop-cons after n 0 lt ∙ ap (λ b. b ∷ rest) quote in
    let all : text ≡ (34 ∷ take n after ++ 34 ∷ []) ++ rest =
    e ∙ ap (λ t. 34 ∷ t) (sym (take-append-drop n after) ∙ ap (λ t. take n after ++ t) here ∙ sym (append_assoc (take n after) (34 ∷ []) rest)) in
    let size : n + 2 ≡ length (34 ∷ take n after ++ 34 ∷ []) = omega (arith, length-append (take n after) (34 ∷ []), length-take-le n after (omega (arith, lt))) in
    let whole : IsUtf8 rest = IsUtf8-drop after (suc n) utf8 (rw add-one at (IsCharBoundary-after_ascii after n utf8 lt (omega (arith, quote)))) in
    cut_front IsString text (34 ∷ take n after ++ 34 ∷ []) rest (n + 2) all size (omega arith) whole
    (take n after, refl, subst (IsMaximalRun is_in_string (take n after)) here run)

pub open_here : (text after : List ℕ) (n : ℕ) → text ≡ 34 ∷ after → IsMaximalRun is_in_string (take n after) (drop n after) → (n < length after → slice_index after n ≢ 34) → IsOpenString text
open_here text after n e run none = (
  take n after,
  drop n after,
  e ∙ ap (λ t. 34 ∷ t) (sym (take-append-drop n after)),
  run,
  λ more f. none (omega (arith, ap length f, length-drop n after)) (sym (get_or-drop n after 0 0 ∙ ap (λ k. get_or after k 0) (add-zero n)) ∙ ap (λ t. get_or t 0 0) f),
)

-- a number
digit_low : (c : ℕ) → is_ascii_digit c ≡ true → c < 128
digit_low c h = grind (arith, nat_tests)

pub digits_some : (text : List ℕ) (n : ℕ) → is_ascii_digit (slice_index text 0) ≡ true → IsMaximalRun is_ascii_digit (take n text) (drop n text) → 0 < n
digits_some [] n h run = let clash : false ≡ true = h in cc
digits_some (x ∷ text) zero h run = absurd (run.maximal (x, text, h, ap (λ t. t ++ text) (sym (encode_ascii x (digit_low x h)))))
digits_some (x ∷ text) (suc n) h run = omega arith

-- a comment
pub comment_here : (text after : List ℕ) (n : ℕ) → IsUtf8 (drop n after) → text ≡ 47 ∷ 47 ∷ after → n ≤ length after → IsMaximalRun is_in_line (take n after) (drop n after) → AreWholeCharacters text (n + 2) × Skips text (drop (n + 2) text)
comment_here text after n utf8 e fits run =
    let a = 47 ∷ 47 ∷ take n after in
    let all : text ≡ a ++ drop n after = e ∙ ap (λ t. 47 ∷ 47 ∷ t) (sym (take-append-drop n after)) in
    cut_front (λ _ rest. Skips text rest) text a (drop n after) (n + 2) all (omega (arith, length-take-le n after fits)) (omega arith) utf8
    (inr (take n after, all, run))

-- a metavariable
pub meta_here : (text after : List ℕ) (n : ℕ) → IsUtf8 (drop n after) → text ≡ 126 ∷ after → n ≤ length after → IsWord (take n after) (drop n after) → AreWholeCharacters text (n + 1) × ((w : List ℕ) × (take (n + 1) text ≡ 126 ∷ w) × IsWord w (drop (n + 1) text))
meta_here text after n utf8 e fits word =
    let a = 126 ∷ take n after in
    let all : text ≡ a ++ drop n after = e ∙ ap (λ t. 126 ∷ t) (sym (take-append-drop n after)) in
    cut_front (λ t rest. (w : List ℕ) × (t ≡ 126 ∷ w) × IsWord w rest) text a (drop n after) (n + 1) all (omega (arith, length-take-le n after fits)) (omega arith) utf8
    (take n after, refl, word)

-- a literal of symbol characters
pub symbol_here : (literals : List (List ℕ)) (text : List ℕ) (n : ℕ) → ((more : List ℕ) → text ≢ 47 ∷ 47 ∷ more) → AreSymbols (take n text) → NoneLonger literals text n → n ≤ length text
    → IsLongestSymbol literals (take n text) (drop n text)
symbol_here literals text n no_comment symbols longest fits = record {
  symbols = symbols;
  no_comment = λ begins. no_comment begins.0 (sym (take-append-drop n text) ∙ begins.1);
  longest = λ other more among all e. omega (arith, longest other more among all (sym (take-append-drop n text) ∙ e), length-take-le n text fits);
}

pub boundary_2 : (text more : List ℕ) → IsUtf8 text → text ≡ 47 ∷ 47 ∷ more → IsCharBoundary text 2
boundary_2 text more utf8 e = IsCharBoundary-after_ascii text 1 utf8 (omega (arith, ap length e)) (omega (arith, ap (λ t. get_or t 1 0) e))

pub utf8_after : (text after : List ℕ) (n : ℕ) → IsUtf8 text → IsCharBoundary text n → after ≡ drop n text → IsUtf8 after
utf8_after text after n utf8 boundary e = subst IsUtf8 (sym e) (IsUtf8-drop text n utf8 boundary)

symbol_low : (c : ℕ) → is_symbol c ≡ true → c < 128
symbol_low c h = grind (arith, nat_tests)

-- a symbol character is one byte
pub symbol_first : (text rest : List ℕ) (c : ℕ) → is_symbol c ≡ true → text ≡ encode_utf8 c ++ rest → is_symbol (slice_index text 0) ≡ true
symbol_first text rest c h e = ap is_symbol (byte_from_char text rest c e (symbol_low c h)) ∙ h

-- a text that does not begin with `~` is its own name
pub no_tilde : (text : List ℕ) → ((rest : List ℕ) → text ≡ 126 ∷ rest → ⊥) → without_tilde text ≡ text
no_tilde [] h = refl
no_tilde (c ∷ cs) h = by (c == 126) refl
  where
    by : (b : Bool) → (c == 126) ≡ b → (if b then cs else c ∷ cs) ≡ c ∷ cs
    by true e = absurd (h cs (ap (λ x. x ∷ cs) (eqb-true c 126 e)))
    by false e = refl
