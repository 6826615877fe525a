-- The first colon of a text.
use Rattle.std.proofs.Common.{◌≡◌, ◌≢◌, ℕ, zero, suc, ◌+◌, ◌<◌, ◌≤◌, false, eqb, List, [], ◌∷◌, ◌++◌, length, get_or, take, drop, Option, Some, None, refl, sym, ap, subst, ◌∙◌, arith}
use Rattle.std.specs.Str.{IsUtf8}
use Rattle.std.proofs.lemmas.Bool.Decides.{nat_tests}
use Rattle.std.proofs.lemmas.List.{drop_more, drop-drop, take_all, take-append-drop}
use Rattle.sx_lines.proofs.Utf8Laws.{utf8_cut}
use Rattle.sx_words.specs.Commands.{NoColon}
use Rattle.sx_words.specs.Reading.{at_colon}
use Rattle.sx_words.specs.Texts.{IsFirstColon}
use Rattle.sx_words.proofs.OptionLaws.{at_colon-again}

no_colon-take : (text : List ℕ) (n : ℕ) → ((k : ℕ) → k < n → get_or text k 0 ≢ 58) → n ≤ length text → NoColon (take n text)
no_colon-take text zero h le = tt
no_colon-take [] (suc n) h le = absurd (omega arith)
no_colon-take (b ∷ text) (suc n) h le =
    let ne = h 0 (omega arith) in
    let test : eqb b 58 ≡ false = grind (arith, nat_tests) in
    (test, no_colon-take text n (λ k lt. h (suc k) (omega arith)) (omega arith))

pub no_colon-all : (text : List ℕ) → ((k : ℕ) → k < length text → get_or text k 0 ≢ 58) → NoColon text
no_colon-all text h = subst (λ (x : List ℕ). NoColon x) (take_all (length text) text (omega arith)) (no_colon-take text (length text) h (omega arith))

pub is_first_colon : (text : List ℕ) (at : ℕ) → ((k : ℕ) → k < at → get_or text k 0 ≢ 58) → at < length text → get_or text at 0 ≡ 58 → IsFirstColon text at
is_first_colon text at h lt e = record {
  parts = sym (take-append-drop at text) ∙ ap (λ (x : List ℕ). take at text ++ x) (drop_more text at 0 lt ∙ ap (λ (b : ℕ). b ∷ drop (at + 1) text) e);
  kind = no_colon-take text at h (omega arith);
  inside = lt;
}

pub at_colon-none : (text : List ℕ) → NoColon text → at_colon text ≡ None
unfolding at_colon
at_colon-none [] h = refl
at_colon-none (b ∷ text) h = rw (h.0, at_colon-none text h.1) refl

-- the two parts, cut in two steps
pub colon_parts : (text : List ℕ) (at : ℕ) (kind rest setting : List ℕ) → IsFirstColon text at → kind ≡ take at text → rest ≡ drop at text → setting ≡ drop 1 rest → ◌≡◌ {A = Option (List ℕ × List ℕ)} (Some (kind, setting)) (at_colon text)
colon_parts text at kind rest setting h e f g =
    let k : setting ≡ drop (at + 1) text = g ∙ ap (λ (x : List ℕ). drop 1 x) f ∙ drop-drop 1 at text in
    rw (e, k) (sym (ap at_colon h.parts ∙ at_colon-again (take at text) (drop (at + 1) text) h.kind))

pub colon_utf8 : (text : List ℕ) (at : ℕ) (kind rest setting : List ℕ) → IsFirstColon text at → kind ≡ take at text → rest ≡ drop at text → setting ≡ drop 1 rest → IsUtf8 text → IsUtf8 kind × IsUtf8 setting
colon_utf8 text at kind rest setting h e f g u =
    let k : setting ≡ drop (at + 1) text = g ∙ ap (λ (x : List ℕ). drop 1 x) f ∙ drop-drop 1 at text in
    let cut = utf8_cut (take at text) (drop (at + 1) text) 58 (omega arith) (subst (λ (x : List ℕ). IsUtf8 x) h.parts u) in
    (subst (λ (x : List ℕ). IsUtf8 x) (sym e) cut.0, subst (λ (x : List ℕ). IsUtf8 x) (sym k) cut.1)
