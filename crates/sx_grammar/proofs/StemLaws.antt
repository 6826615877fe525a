-- Stems and the digits after them.
use Rattle.std.proofs.Common.{◌≡◌, ◌∙◌, sym, ap, refl, ℕ, Bool, true, false, if◌then◌else◌, [], ◌∷◌, ◌++◌}
use Rattle.std.specs.Char.{is_ascii_digit}
use Rattle.sx_grammar.specs.Grammar.{Text}
use Rattle.sx_grammar.specs.Stems.{kept_unless_digit, without_digits}

kept_more : (x c : ℕ) (xs : Text) → kept_unless_digit x (xs ++ c ∷ []) ≡ x ∷ xs ++ c ∷ []
kept_more x c [] = refl
kept_more x c (y ∷ ys) = refl

digits_last : (xs : Text) (c : ℕ) (b : Bool) → is_ascii_digit c ≡ b → without_digits (xs ++ c ∷ []) ≡ (if b then without_digits xs else (xs ++ c ∷ []))
digits_last [] c b e = ap (λ d. if d then [] else c ∷ []) e
digits_last (x ∷ xs) c true e = ap (kept_unless_digit x) (digits_last xs c true e)
digits_last (x ∷ xs) c false e = ap (kept_unless_digit x) (digits_last xs c false e) ∙ kept_more x c xs

-- a digit at the end is left out
pub digit_out : (text rest : Text) (c : ℕ) → text ≡ rest ++ c ∷ [] → is_ascii_digit c ≡ true → without_digits text ≡ without_digits rest
digit_out text rest c e d = ap without_digits e ∙ digits_last rest c true d

-- what does not end with a digit stays
pub no_digit : (text rest : Text) (c : ℕ) → text ≡ rest ++ c ∷ [] → is_ascii_digit c ≡ false → without_digits text ≡ text
no_digit text rest c e d = ap without_digits e ∙ digits_last rest c false d ∙ sym e
