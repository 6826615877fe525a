-- Words and names of a line.
use Rattle.std.proofs.Common.{◌≡◌, ◌≢◌, ℕ, zero, suc, ◌-◌, ◌<◌, ◌≤◌, Bool, true, false, leb, ◌&&◌, List, [], ◌∷◌, ◌++◌, length, get_or, take, drop, map, refl, sym, ap, ◌∙◌, subst, arith, append-nil, append_assoc}
use Rattle.std.specs.Str.{IsUtf8}
use Rattle.std.specs.List.{list_all}
use Rattle.std.specs.Char.{is_ascii_alphabetic}
use Rattle.std.proofs.lemmas.Bool.{and_parts}
use Rattle.std.proofs.lemmas.Bool.Decides.{nat_tests}
use Rattle.std.proofs.lemmas.List.{drop_more, take_all, drop_all, take-append-drop}
use Rattle.std.proofs.lemmas.Str.{IsUtf8-from_ascii}
use Rattle.sx_lines.specs.Blanks.{NoSpace}
use Rattle.sx_lines.specs.Words.{is_name, is_name_byte, after}
use Rattle.sx_lines.proofs.BlankLaws.{is_first_blank, no_space-all}
use Rattle.sx_lines.proofs.TextLaws.{NoBlank, name_no_blank}
use Rattle.sx_core.specs.File.{words_text}
use Rattle.sx_core.specs.Stated.{IsCoreName, AreStatedNames}
use Rattle.sx_term.specs.Text.{IsTextMade}
use Rattle.std.specs.Prelude.{Err, Option, Some, None, MatchOption}
use Rattle.std.specs.Borrow.{Bor}
use Rattle.std.specs.Option.{option_copied}
use Rattle.sx_lines.proofs.WordLaws.{after_front, front_of}
use Rattle.sx_term.specs.declared.text_error.TextError.{TextError}
use Rattle.sx_term.specs.declared.text_error.TextError.TheVariants.{NotUtf8, Memory as NoRoom}
use Rattle.sx_core.specs.Words.{core_text_error, BlankFirst, IsWordEnd, IsWordRead, NoWord, IsNameRead}
use Rattle.sx_core.specs.Words.{NameRefused, AreNamesRead, NamesRefused, NoName}
use Rattle.sx_core.specs.declared.terms_row.RowError.{RowError}
use Rattle.sx_core.specs.declared.terms_row.RowError.TheVariants.{Memory, Shape, TooDeep}
use Rattle.sx_core.proofs.TermsLaws.{tail_is, nothing_is, front_taken}

pub head_same : (a b : ℕ) (x y : List ℕ) → a ∷ x ≡ b ∷ y → a ≡ b
head_same a b x y e = cc

pub map_last : {A B : Type 0} (f : A → B) (xs : List A) (x : A) → map f (xs ++ x ∷ []) ≡ map f xs ++ f x ∷ []
map_last f [] x = refl
map_last f (y ∷ xs) x = ap (λ r. f y ∷ r) (map_last f xs x)

-- ---- names

low_byte : (dash : Bool) (c : ℕ) → is_name_byte dash c ≡ true → c < 128
low_byte true c e = grind (arith, nat_tests)
low_byte false c e = grind (arith, nat_tests)

low_letter : (c : ℕ) → is_ascii_alphabetic c ≡ true → c < 128
low_letter c e = grind (arith, nat_tests)

low_bytes : (dash : Bool) (text : List ℕ) → list_all (is_name_byte dash) text ≡ true → (i : ℕ) → get_or text i 0 < 128
low_bytes dash [] h i = omega arith
low_bytes dash (c ∷ cs) h zero = let p = and_parts (is_name_byte dash c) (list_all (is_name_byte dash) cs) h in low_byte dash c p.0
low_bytes dash (c ∷ cs) h (suc i) = let p = and_parts (is_name_byte dash c) (list_all (is_name_byte dash) cs) h in low_bytes dash cs p.1 i

name_low : (name : List ℕ) → is_name true name ≡ true → (i : ℕ) → get_or name i 0 < 128
unfolding is_name
name_low [] h i = omega arith
name_low (c ∷ cs) h zero =
    let p = and_parts (is_ascii_alphabetic c && leb (length cs) 63) (list_all (is_name_byte true) cs) h in
    let q = and_parts (is_ascii_alphabetic c) (leb (length cs) 63) p.0 in
    low_letter c q.0
name_low (c ∷ cs) h (suc i) =
    let p = and_parts (is_ascii_alphabetic c && leb (length cs) 63) (list_all (is_name_byte true) cs) h in
    low_bytes true cs p.1 i

pub name_utf8 : (name : List ℕ) → is_name true name ≡ true → IsUtf8 name
name_utf8 name h = IsUtf8-from_ascii name (name_low name h)

no_blank_space : (text : List ℕ) → NoBlank text → NoSpace text
no_blank_space [] h = tt
no_blank_space (b ∷ text) h = ((λ e. let k = h.0 in omega arith), no_blank_space text h.1)

pub name_space : (name : List ℕ) → is_name true name ≡ true → NoSpace name
name_space name h = no_blank_space name (name_no_blank true name h)

-- ---- words

pub word_end : (text : List ℕ) (at : ℕ) → ((k : ℕ) → k < at → get_or text k 0 ≢ 32) → at < length text → get_or text at 0 ≡ 32 → IsWordEnd text at
word_end text at h lt e =
    let b = is_first_blank text at h lt e in
    record {
      inside = omega arith;
      word = b.word;
      stops = subst BlankFirst (sym (drop_more text at 0 lt)) e;
    }

pub word_end_all : (text : List ℕ) → ((k : ℕ) → k < length text → get_or text k 0 ≢ 32) → IsWordEnd text (length text)
word_end_all text h = record {
  inside = omega arith;
  word = subst NoSpace (sym (take_all (length text) text (omega arith))) (no_space-all text h);
  stops = subst BlankFirst (sym (drop_all (length text) text (omega arith))) tt;
}

pub word_read : (text word rest : List ℕ) (at : ℕ) → 1 ≤ length text → get_or text 0 0 ≡ 32 → IsWordEnd (take (length text - 1) (drop 1 text)) at
    → word ≡ take at (take (length text - 1) (drop 1 text)) → rest ≡ drop at (take (length text - 1) (drop 1 text)) → IsWordRead text word rest
word_read text word rest at long first h e f =
    let others = take (length text - 1) (drop 1 text) in
    record {
      parts = front_taken text 32 long first ∙ ap (λ (x : List ℕ). 32 ∷ x) (sym (take-append-drop at others)) ∙ ap (λ (x : List ℕ). 32 ∷ (x ++ drop at others)) (sym e) ∙ ap (λ (x : List ℕ). 32 ∷ (word ++ x)) (sym f);
      spaceless = subst NoSpace (sym e) h.word;
      stops = subst BlankFirst (sym f) h.stops;
    }

-- a word and what follows it are one thing only
pub one_word : (n m x y : List ℕ) → NoSpace n → NoSpace m → BlankFirst x → BlankFirst y → n ++ x ≡ m ++ y → (n ≡ m) × (x ≡ y)
one_word [] [] x y h k s t e = (refl, e)
one_word [] (b ∷ m) [] y h k s t e = absurd (nothing_is b (m ++ y) e)
one_word [] (b ∷ m) (c ∷ x) y h k s t e = absurd (k.0 (sym (head_same c b x (m ++ y) e) ∙ s))
one_word (a ∷ n) [] x [] h k s t e = absurd (nothing_is a (n ++ x) (sym e))
one_word (a ∷ n) [] x (d ∷ y) h k s t e = absurd (h.0 (head_same a d (n ++ x) y e ∙ t))
one_word (a ∷ n) (b ∷ m) x y h k s t e =
    let q = one_word n m x y h.1 k.1 s t (tail_is a b (n ++ x) (m ++ y) e) in
    (ap (λ (z : List ℕ). a ∷ z) q.0 ∙ ap (λ (c : ℕ). c ∷ m) (head_same a b (n ++ x) (m ++ y) e), q.1)

pub words_stop : (words : List (List ℕ)) → BlankFirst (words_text words)
words_stop [] = tt
words_stop (word ∷ words) = refl

abbrev pub AreWords : List (List ℕ) → Type 0
AreWords [] = Unit {0}
AreWords (word ∷ words) = NoSpace word × AreWords words

pub names_words : (names : List (List ℕ)) → AreStatedNames names → AreWords names
names_words [] h = tt
names_words (name ∷ names) h = (name_space name h.0, names_words names h.1)

pub one_words : (ns ms : List (List ℕ)) → AreWords ns → AreWords ms → words_text ns ≡ words_text ms → ns ≡ ms
one_words [] [] h k e = refl
one_words [] (m ∷ ms) h k e = absurd (nothing_is 32 (m ++ words_text ms) e)
one_words (n ∷ ns) [] h k e = absurd (nothing_is 32 (n ++ words_text ns) (sym e))
one_words (n ∷ ns) (m ∷ ms) h k e =
    let q = one_word n m (words_text ns) (words_text ms) h.0 k.0 (words_stop ns) (words_stop ms) (tail_is 32 32 (n ++ words_text ns) (m ++ words_text ms) e) in
    ap (λ (x : List ℕ). x ∷ ns) q.0 ∙ ap (λ (x : List (List ℕ)). m ∷ x) (one_words ns ms h.1 k.1 q.1)

-- ---- fronts

pub after_cases : (front text : List ℕ) (r : Option (Bor (List ℕ))) → option_copied r ≡ after front text → MatchOption r ((rest : List ℕ) → text ≡ front ++ rest → ⊥) (λ rest. text ≡ front ++ rest.now)
after_cases front text None e = λ rest q.
    let k : Some rest ≡ None = sym (after_front front rest) ∙ ap (after front) (sym q) ∙ sym e in
    cc
after_cases front text (Some r) e = front_of front text r.now (sym e)

-- ---- one name

pub no_text : (word : List ℕ) (e : TextError) → IsTextMade word (Err e) → NoName word (core_text_error e)
no_text word (NotUtf8 place) h = λ k. h.0 (name_utf8 word k)
no_text word NoRoom h = tt

pub name_refused : (text word rest : List ℕ) (e : RowError) → IsWordRead text word rest → NoName word e → NameRefused text e
name_refused text word rest Memory w h = tt
name_refused text word rest Shape w h = λ name more n s e.
    let q = one_word word name rest more w.spaceless (name_space name n) w.stops s (tail_is 32 32 (word ++ rest) (name ++ more) (sym w.parts ∙ e)) in
    h (subst IsCoreName (sym q.0) n)
name_refused text word rest (TooDeep depth) w h = h

pub no_word_name : (text : List ℕ) → NoWord text → NameRefused text Shape
no_word_name text h = λ name rest n s e. h name rest e

pub no_word_nil : NoWord []
no_word_nil word rest e = nothing_is 32 (word ++ rest) e

pub no_word_other : (text : List ℕ) → 1 ≤ length text → (get_or text 0 0 ≡ 32 → ⊥) → NoWord text
no_word_other [] l h word rest e = nothing_is 32 (word ++ rest) e
no_word_other (b ∷ text) l h word rest e = h (head_same b 32 text (word ++ rest) e)

-- ---- names, one after another

pub words_snoc : (names : List (List ℕ)) (name rest : List ℕ) → words_text (names ++ name ∷ []) ++ rest ≡ words_text names ++ (32 ∷ (name ++ rest))
words_snoc [] name rest = ap (λ (x : List ℕ). 32 ∷ (x ++ rest)) (append-nil name)
words_snoc (n ∷ names) name rest =
    ap (λ (x : List ℕ). 32 ∷ x) (append_assoc n (words_text (names ++ name ∷ [])) rest ∙ ap (λ (x : List ℕ). n ++ x) (words_snoc names name rest) ∙ sym (append_assoc n (words_text names) (32 ∷ (name ++ rest))))

pub names_snoc : (names : List (List ℕ)) (name : List ℕ) → AreStatedNames names → IsCoreName name → AreStatedNames (names ++ name ∷ [])
names_snoc [] name h k = (k, tt)
names_snoc (n ∷ names) name h k = (h.0, names_snoc names name h.1 k)

-- the names so far, and what is left
pub record NamesSoFar (text : List ℕ) (names : List (List ℕ)) (left : List ℕ) : Type 0 where
  pub parts : text ≡ words_text names ++ left
  pub named : AreStatedNames names
  pub only : (all : List (List ℕ)) → AreStatedNames all → text ≡ words_text all → (more : List (List ℕ)) × AreStatedNames more × (left ≡ words_text more)

pub names_none : (text : List ℕ) (names : List (List ℕ)) → names ≡ [] → NamesSoFar text names text
names_none text names e = record {
  parts = sym (ap (λ (x : List (List ℕ)). words_text x ++ text) e);
  named = subst AreStatedNames (sym e) tt;
  only = λ all h q. (all, h, q);
}

one_more : (left name rest : List ℕ) → IsNameRead left name rest → (more : List (List ℕ)) → AreStatedNames more → left ≡ words_text more → (others : List (List ℕ)) × AreStatedNames others × (rest ≡ words_text others)
one_more left name rest r [] h e = absurd (nothing_is 32 (name ++ rest) (sym e ∙ r.parts))
one_more left name rest r (m ∷ more) h e =
    (more, h.1, (one_word name m rest (words_text more) (name_space name r.named) (name_space m h.0) r.stops (words_stop more) (tail_is 32 32 (name ++ rest) (m ++ words_text more) (sym r.parts ∙ e))).1)

pub names_more : (text : List ℕ) (names new : List (List ℕ)) (left name rest : List ℕ) → new ≡ names ++ name ∷ [] → NamesSoFar text names left → IsNameRead left name rest → NamesSoFar text new rest
names_more text names new left name rest e s r = record {
  parts = s.parts ∙ ap (λ (x : List ℕ). words_text names ++ x) r.parts ∙ sym (words_snoc names name rest) ∙ sym (ap (λ (x : List (List ℕ)). words_text x ++ rest) e);
  named = subst AreStatedNames (sym e) (names_snoc names name s.named r.named);
  only = λ all h q. let w = s.only all h q in one_more left name rest r w.0 w.1 w.2;
}

none_left : (left : List ℕ) → (left ≡ [] → ⊥) → NameRefused left Shape → (more : List (List ℕ)) → AreStatedNames more → left ≡ words_text more → ⊥
none_left left n r [] h e = n e
none_left left n r (m ∷ more) h e = r m (words_text more) h.0 (words_stop more) e

pub names_refused : (text : List ℕ) (names : List (List ℕ)) (left : List ℕ) (e : RowError) → NamesSoFar text names left → (left ≡ [] → ⊥) → NameRefused left e → NamesRefused text e
names_refused text names left Memory s n r = tt
names_refused text names left Shape s n r = λ all h q. let w = s.only all h q in none_left left n r w.0 w.1 w.2
names_refused text names left (TooDeep depth) s n r = r

pub names_read : (text : List ℕ) (names : List (List ℕ)) (left : List ℕ) → NamesSoFar text names left → left ≡ [] → AreNamesRead text names
names_read text names left s e = record {
  parts = s.parts ∙ ap (λ (x : List ℕ). words_text names ++ x) e ∙ append-nil (words_text names);
  named = s.named;
}
