-- The stems of names are UTF-8.
use Rattle.std.proofs.Common.{◌≡◌, sym, refl, subst, ℕ, ◌<◌, Bool, true, false, if◌then◌else◌, [], ◌∷◌, ◌++◌, append_assoc, arith}
use Rattle.std.proofs.lemmas.Bool.Decides.{nat_tests}
use Rattle.std.proofs.lemmas.List.{append-nil}
use Rattle.std.specs.Char.{is_ascii_digit}
use Rattle.std.specs.Str.{IsUtf8}
use Rattle.sx_grammar.specs.Grammar.{Text}
use Rattle.sx_grammar.specs.Stems.{kept_unless_digit, without_digits}
use Rattle.sx_lines.proofs.Utf8Laws.{utf8_cut}

digit_low : (c : ℕ) → is_ascii_digit c ≡ true → c < 128
digit_low c e = grind (arith, nat_tests)

utf8_kept : (front : Text) (c : ℕ) (rest : Text) → IsUtf8 (front ++ c ∷ rest) → IsUtf8 (front ++ kept_unless_digit c rest)
utf8_kept front c (d ∷ ds) u = u
utf8_kept front c [] u = by (is_ascii_digit c) refl
  where
    by : (b : Bool) → is_ascii_digit c ≡ b → IsUtf8 (front ++ (if b then [] else c ∷ []))
    by true e = subst IsUtf8 (sym (append-nil front)) (utf8_cut front [] c (digit_low c e) u).0
    by false e = u

utf8_behind : (front text : Text) → IsUtf8 (front ++ text) → IsUtf8 (front ++ without_digits text)
utf8_behind front [] u = u
utf8_behind front (c ∷ cs) u =
    let rest = utf8_behind (front ++ c ∷ []) cs (subst IsUtf8 (sym (append_assoc front (c ∷ []) cs)) u) in
    utf8_kept front c (without_digits cs) (subst IsUtf8 (append_assoc front (c ∷ []) (without_digits cs)) rest)

-- a text is UTF-8 without the digits at its end too
pub utf8_stem : (text : Text) → IsUtf8 text → IsUtf8 (without_digits text)
utf8_stem text u = utf8_behind [] text u
