-- Names of imports are words.
use Rattle.std.proofs.Common.{◌≡◌, ℕ, ◌<◌, ◌==◌, ◌||◌, ◌&&◌, Bool, true, false, IsTrue, List, []}
use Rattle.std.proofs.Common.{◌∷◌, ◌++◌, length, refl, sym, ap, ◌∙◌, arith}
use Rattle.std.specs.Prelude.{nat_le}
use Rattle.std.specs.Char.{is_ascii_alphabetic}
use Rattle.std.specs.List.{AllByRecursion, list_all}
use Rattle.std.specs.Str.{encode_utf8_all}
use Rattle.std.proofs.lemmas.Bool.Decides.{nat_tests}
use Rattle.std.proofs.lemmas.Str.{encode_ascii}
use Rattle.unicode_ident.specs.Ident.{is_xid_continue}
use Rattle.unicode_ident.proofs.IdentLemmas.{is_xid_start-ascii, is_xid_continue-ascii}
use Rattle.sx_term.specs.Cutting.{begins_word, IsWord}
use Rattle.sx_term.proofs.RunLemmas.{empty_begins}
use Rattle.sx_lines.specs.Words.{is_name, is_name_byte}

left_true : (a b : Bool) → (a && b) ≡ true → a ≡ true
left_true true b e = refl
left_true false b e = e

right_true : (a b : Bool) → (a && b) ≡ true → b ≡ true
right_true true b e = e
right_true false b e = let impossible : false ≡ true = e in cc

letter_low : (c : ℕ) → is_ascii_alphabetic c ≡ true → c < 128
letter_low c h = grind (arith, nat_tests)

byte_low : (c : ℕ) → is_name_byte false c ≡ true → c < 128
byte_low c h = grind (arith, nat_tests)

or_false : (a : Bool) → (a || false) ≡ a
or_false true = refl
or_false false = refl

or_true : (a b : Bool) → a ≡ true → (a || b) ≡ true
or_true a b e = ap (λ (x : Bool). x || b) e

starts : (c : ℕ) → is_ascii_alphabetic c ≡ true → begins_word c ≡ true
starts c h = or_true _ (c == 95) (is_xid_start-ascii c (letter_low c h) ∙ h)

continues : (c : ℕ) → is_name_byte false c ≡ true → is_xid_continue c ≡ true
continues c h = is_xid_continue-ascii c (byte_low c h) ∙ sym (or_false _) ∙ h

all_continue : (cs : List ℕ) → list_all (is_name_byte false) cs ≡ true →
    AllByRecursion (λ c. IsTrue (is_xid_continue c)) cs
all_continue [] h = tt
all_continue (c ∷ cs) h = (
  continues c (left_true (is_name_byte false c) (list_all (is_name_byte false) cs) h),
  all_continue cs (right_true (is_name_byte false c) (list_all (is_name_byte false) cs) h),
)

all_ascii : (cs : List ℕ) → list_all (is_name_byte false) cs ≡ true → cs ≡ encode_utf8_all cs
all_ascii [] h = refl
all_ascii (c ∷ cs) h =
    let low = byte_low c (left_true (is_name_byte false c) (list_all (is_name_byte false) cs) h) in
    let rest = all_ascii cs (right_true (is_name_byte false c) (list_all (is_name_byte false) cs) h)
    in
    ap (λ (ds : List ℕ). c ∷ ds) rest
    ∙ ap (λ (b : List ℕ). b ++ encode_utf8_all cs) (sym (encode_ascii c low))

pub name_is_word : (name : List ℕ) → is_name false name ≡ true → IsWord name []
unfolding is_name
name_is_word [] h = let impossible : false ≡ true = h in cc
name_is_word (c ∷ cs) h =
    let front = is_ascii_alphabetic c && nat_le (length cs) 63 in
    let all = right_true front (list_all (is_name_byte false) cs) h in
    let letter = left_true (is_ascii_alphabetic c) (nat_le (length cs) 63)
    (left_true front (list_all (is_name_byte false) cs) h) in
    record {
      first = c;
      others = cs;
      begins = starts c letter;
      split = ap (λ (b : List ℕ). b ++ cs) (sym (encode_ascii c (letter_low c letter)));
      goes_on = record {
        characters = (cs, all_continue cs all, all_ascii cs all);
        maximal = empty_begins is_xid_continue;
      };
    }
