-- UTF-8 is cut at ASCII bytes.
use Rattle.std.proofs.Common.{◌≡◌, ℕ, zero, suc, ◌+◌, ◌<◌, Bool, true, false, leb, ◌&&◌, List, [], ◌∷◌, ◌++◌, length, get_or, take, drop, refl, sym, ap, subst, ◌∙◌, append_assoc, arith}
use Rattle.std.proofs.Math.Seq.{get_or-append_seam}
use Rattle.std.proofs.lemmas.List.{take_at, drop_at, length-append, drop-drop}
use Rattle.std.proofs.lemmas.Str.{IsUtf8-take, IsUtf8-drop, IsCharBoundary-before_ascii, IsCharBoundary-after_ascii}
use Rattle.std.proofs.lemmas.Str.{IsUtf8-from_ascii}
use Rattle.std.proofs.lemmas.Bool.{and_parts}
use Rattle.std.proofs.lemmas.Bool.Decides.{nat_tests}
use Rattle.std.specs.Char.{is_ascii_alphabetic}
use Rattle.std.specs.List.{list_all}
use Rattle.std.specs.Str.{IsUtf8}
use Rattle.sx_lines.specs.Lines.{EndsAt}
use Rattle.sx_lines.specs.Words.{is_name, is_name_byte}

-- what stands before an ASCII byte, and what stands after it
pub utf8_cut : (before after : List ℕ) (b : ℕ) → b < 128 → IsUtf8 (before ++ b ∷ after) → IsUtf8 before × IsUtf8 after
utf8_cut before after b small u =
    let whole : List ℕ = before ++ b ∷ after in
    let len : length whole ≡ length before + length (b ∷ after) = length-append before (b ∷ after) in
    let inside : length before < length whole = omega arith in
    let at : get_or whole (length before) 0 ≡ b = get_or-append_seam before b after 0 in
    let ascii : get_or whole (length before) 0 < 128 = omega arith in
    let first = IsUtf8-take whole (length before) u (IsCharBoundary-before_ascii whole (length before) inside ascii) in
    let last = IsUtf8-drop whole (length before + 1) u (IsCharBoundary-after_ascii whole (length before) u inside ascii) in
    let joined : whole ≡ (before ++ b ∷ []) ++ after = sym (append_assoc before (b ∷ []) after) in
    let so_long : length (before ++ b ∷ []) ≡ length before + 1 = length-append before (b ∷ []) in
    let rest : drop (length before + 1) whole ≡ after = ap (λ (x : List ℕ). drop (length before + 1) x) joined ∙ drop_at (before ++ b ∷ []) after (length before + 1) so_long in
    (subst (λ (x : List ℕ). IsUtf8 x) (take_at before (b ∷ after) (length before) refl) first, subst (λ (x : List ℕ). IsUtf8 x) rest last)

-- the text of the first line, and the bytes after it
pub utf8_line : (bytes : List ℕ) (at : ℕ) → EndsAt bytes at → IsUtf8 bytes → IsUtf8 (take at bytes) × IsUtf8 (drop (at + 1) bytes)
utf8_line bytes at h u = utf8_cut (take at bytes) (drop (at + 1) bytes) 10 (omega arith) (subst (λ (x : List ℕ). IsUtf8 x) h.parts u)

-- a text without its last byte
pub utf8_front : (text front : List ℕ) (last : ℕ) → text ≡ front ++ last ∷ [] → last ≡ 13 → IsUtf8 text → IsUtf8 front
utf8_front text front last e is u = (utf8_cut front [] last (omega (arith, is)) (subst (λ (x : List ℕ). IsUtf8 x) e u)).0

-- the same, cut in two steps
pub utf8_split : (bytes : List ℕ) (at : ℕ) (text rest after : List ℕ) → EndsAt bytes at → IsUtf8 bytes → text ≡ take at bytes → rest ≡ drop at bytes → after ≡ drop 1 rest → IsUtf8 text × IsUtf8 after
utf8_split bytes at text rest after h u e f g =
    let p = utf8_line bytes at h u in
    let k : after ≡ drop (at + 1) bytes = g ∙ ap (λ (x : List ℕ). drop 1 x) f ∙ drop-drop 1 at bytes in
    (subst (λ (x : List ℕ). IsUtf8 x) (sym e) p.0, subst (λ (x : List ℕ). IsUtf8 x) (sym k) p.1)

-- ---- names are ASCII

low_byte : (dash : Bool) (c : ℕ) → is_name_byte dash c ≡ true → c < 128
low_byte true c e = grind (arith, nat_tests)
low_byte false c e = grind (arith, nat_tests)

low_letter : (c : ℕ) → is_ascii_alphabetic c ≡ true → c < 128
low_letter c e = grind (arith, nat_tests)

low_bytes : (dash : Bool) (text : List ℕ) → list_all (is_name_byte dash) text ≡ true → (i : ℕ) → get_or text i 0 < 128
low_bytes dash [] h i = omega arith
low_bytes dash (c ∷ cs) h zero = low_byte dash c (and_parts (is_name_byte dash c) (list_all (is_name_byte dash) cs) h).0
low_bytes dash (c ∷ cs) h (suc i) = low_bytes dash cs (and_parts (is_name_byte dash c) (list_all (is_name_byte dash) cs) h).1 i

low_name : (dash : Bool) (name : List ℕ) → is_name dash name ≡ true → (i : ℕ) → get_or name i 0 < 128
unfolding is_name
low_name dash [] h i = omega arith
low_name dash (c ∷ cs) h zero =
    let p = and_parts (is_ascii_alphabetic c && leb (length cs) 63) (list_all (is_name_byte dash) cs) h in
    low_letter c (and_parts (is_ascii_alphabetic c) (leb (length cs) 63) p.0).0
low_name dash (c ∷ cs) h (suc i) = low_bytes dash cs (and_parts (is_ascii_alphabetic c && leb (length cs) 63) (list_all (is_name_byte dash) cs) h).1 i

pub name_utf8 : (dash : Bool) (name : List ℕ) → is_name dash name ≡ true → IsUtf8 name
name_utf8 dash name h = IsUtf8-from_ascii name (low_name dash name h)
