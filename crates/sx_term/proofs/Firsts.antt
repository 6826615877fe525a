-- The first character of a blank, a comment or a token says which kind it is.
use Rattle.std.proofs.Common.{◌≡◌, ℕ, ◌<◌, ◌==◌, List, [], ◌∷◌, ◌++◌, length, IsTrue, true, false, cond, ◌||◌, sym, refl, ap, ◌∙◌, subst, append_assoc, arith, lit<}
use Rattle.std.specs.Char.{encode_utf8, is_ascii_digit, is_ascii_alphabetic}
use Rattle.std.specs.Str.{encode_utf8_all}
use Rattle.std.specs.List.{AllByRecursion}
use Rattle.std.proofs.lemmas.Str.{encode_same, encode_ascii}
use Rattle.std.proofs.lemmas.Bool.Decides.{nat_tests}
use Rattle.unicode_ident.proofs.IdentLemmas.{is_xid_start-ascii}
use Rattle.sx_term.specs.Cutting.{is_blank_or_feed, is_symbol, begins_word, IsMaximalRun, IsWord}
use Rattle.sx_term.specs.Cutting.{IsString, AreSymbols}

-- the kinds of first characters
pub data Class : Type 0 where
  Word : Class
  Digit : Class
  Quote : Class
  Tilde : Class
  Blank : Class
  Symbol : Class
  Other : Class

unfoldable pub class_of : ℕ → Class
class_of c = cond (begins_word c) Word (cond (is_ascii_digit c) Digit (cond (c == 34) Quote (cond (c == 126) Tilde (cond (is_blank_or_feed c) Blank (cond (is_symbol c) Symbol Other)))))

-- the text begins with a character of the class
abbrev pub HasClass : Class → List ℕ → Type 0
HasClass k text = (c : ℕ) × (tail : List ℕ) × (text ≡ encode_utf8 c ++ tail) × (class_of c ≡ k)

pub HasClass-same : {j k : Class} (text : List ℕ) → HasClass j text → HasClass k text → j ≡ k
HasClass-same text (c, s, e, h) (d, t, f, g) = sym h ∙ ap class_of (encode_same c d s t (sym e ∙ f)).0 ∙ g

no_word : (c : ℕ) → c < 128 → (is_ascii_alphabetic c || (c == 95)) ≡ false → begins_word c ≡ false
no_word c h e = rw (is_xid_start-ascii c h) e

digit_low : (c : ℕ) → is_ascii_digit c ≡ true → c < 128
digit_low c h = grind (arith, nat_tests)

digit_no_word : (c : ℕ) → is_ascii_digit c ≡ true → (is_ascii_alphabetic c || (c == 95)) ≡ false
digit_no_word c h = grind (arith, nat_tests)

pub class_of-digit : (c : ℕ) → is_ascii_digit c ≡ true → class_of c ≡ Digit
unfolding class_of
class_of-digit c h = rw (no_word c (digit_low c h) (digit_no_word c h), h) refl

pub class_of-word : (c : ℕ) → begins_word c ≡ true → class_of c ≡ Word
unfolding class_of
class_of-word c h = rw h refl

pub class_of-quote : class_of 34 ≡ Quote
unfolding class_of
class_of-quote = rw (no_word 34 (lit< tt) refl) refl

pub class_of-tilde : class_of 126 ≡ Tilde
unfolding class_of
class_of-tilde = rw (no_word 126 (lit< tt) refl) refl

pub blank_low : (c : ℕ) → is_blank_or_feed c ≡ true → c < 128
blank_low c h = grind (arith, nat_tests)

pub blank_others : (c : ℕ) → is_blank_or_feed c ≡ true → ((is_ascii_alphabetic c || (c == 95)) ≡ false) × (is_ascii_digit c ≡ false) × ((c == 34) ≡ false) × ((c == 126) ≡ false)
blank_others c h = (grind (arith, nat_tests), grind (arith, nat_tests), grind (arith, nat_tests), grind (arith, nat_tests))

pub class_of-blank : (c : ℕ) → is_blank_or_feed c ≡ true → class_of c ≡ Blank
unfolding class_of
class_of-blank c h = let o = blank_others c h in rw (no_word c (blank_low c h) o.0, o.1, o.2, o.3, h) refl

pub symbol_low : (c : ℕ) → is_symbol c ≡ true → c < 128
symbol_low c h = grind (arith, nat_tests)

pub symbol_others : (c : ℕ) → is_symbol c ≡ true → ((is_ascii_alphabetic c || (c == 95)) ≡ false) × (is_ascii_digit c ≡ false) × ((c == 34) ≡ false) × ((c == 126) ≡ false) × (is_blank_or_feed c ≡ false)
symbol_others c h = (grind (arith, nat_tests), grind (arith, nat_tests), grind (arith, nat_tests), grind (arith, nat_tests), grind (arith, nat_tests))

pub class_of-symbol : (c : ℕ) → is_symbol c ≡ true → class_of c ≡ Symbol
unfolding class_of
class_of-symbol c h = let o = symbol_others c h in rw (no_word c (symbol_low c h) o.0, h, o.1, o.2, o.3, o.4) refl

-- the same at a text
HasClass-byte : (k : Class) (b : ℕ) (rest : List ℕ) → b < 128 → class_of b ≡ k → HasClass k (b ∷ rest)
HasClass-byte k b rest h e = (b, rest, ap (λ t. t ++ rest) (sym (encode_ascii b h)), e)

pub HasClass-blank : (b : ℕ) (rest : List ℕ) → is_blank_or_feed b ≡ true → HasClass Blank (b ∷ rest)
HasClass-blank b rest h = HasClass-byte Blank b rest (blank_low b h) (class_of-blank b h)

pub HasClass-quote : (rest : List ℕ) → HasClass Quote (34 ∷ rest)
HasClass-quote rest = HasClass-byte Quote 34 rest (lit< tt) class_of-quote

pub HasClass-tilde : (rest : List ℕ) → HasClass Tilde (126 ∷ rest)
HasClass-tilde rest = HasClass-byte Tilde 126 rest (lit< tt) class_of-tilde

pub HasClass-symbol : (b : ℕ) (rest : List ℕ) → is_symbol b ≡ true → HasClass Symbol (b ∷ rest)
HasClass-symbol b rest h = HasClass-byte Symbol b rest (symbol_low b h) (class_of-symbol b h)

pub HasClass-word : (text rest : List ℕ) → IsWord text rest → HasClass Word (text ++ rest)
HasClass-word text rest w = (w.first, w.others ++ rest, ap (λ t. t ++ rest) w.split ∙ append_assoc (encode_utf8 w.first) w.others rest, class_of-word w.first w.begins)

digits_begin : (cs text rest : List ℕ) → AllByRecursion (λ c. IsTrue (is_ascii_digit c)) cs → text ≡ encode_utf8_all cs → 0 < length text → HasClass Digit (text ++ rest)
digits_begin [] text rest all e h = absurd (omega (arith, ap length e))
digits_begin (c ∷ cs) text rest all e h = (c, encode_utf8_all cs ++ rest, ap (λ t. t ++ rest) e ∙ append_assoc (encode_utf8 c) (encode_utf8_all cs) rest, class_of-digit c all.0)

pub HasClass-number : (text rest : List ℕ) → 0 < length text → IsMaximalRun is_ascii_digit text rest → HasClass Digit (text ++ rest)
HasClass-number text rest h run = digits_begin run.characters.0 text rest run.characters.1 run.characters.2 h

pub HasClass-symbols : (text rest : List ℕ) → AreSymbols text → HasClass Symbol (text ++ rest)
HasClass-symbols [] rest h = absurd (omega (arith, h.0))
HasClass-symbols (b ∷ text) rest h = HasClass-symbol b (text ++ rest) h.1.0

pub HasClass-string : (text rest : List ℕ) → IsString text rest → HasClass Quote (text ++ rest)
HasClass-string text rest (inside, e, run) = subst (HasClass Quote) (ap (λ t. t ++ rest) (sym e)) (HasClass-quote ((inside ++ 34 ∷ []) ++ rest))
