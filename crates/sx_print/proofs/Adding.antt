-- Tokens that are written with a blank behind each.
use Rattle.std.proofs.Common.{◌≡◌, ℕ, zero, suc, get_or, lit<, subst, ◌+◌, ◌-◌, ◌<◌, ◌≤◌, List, [], ◌∷◌, ◌++◌, length, take, sym, refl, ap, ◌∙◌, append_assoc, length-append, arith}
use Rattle.std.specs.Str.{IsUtf8}
use Rattle.std.proofs.lemmas.List.{append-nil}
use Rattle.std.proofs.lemmas.Grind.{flat_map-append}
use Rattle.std.proofs.Math.Seq.{take-append_seam}
use Rattle.std.specs.Prelude.{Some, slice_get, slice_index_or}
use Rattle.std.proofs.lemmas.Option.{slice_get_read, get_or_from_slice_get}
use Rattle.std.proofs.lemmas.Str.{IsUtf8-from_ascii, IsUtf8-append}
use Rattle.sx_grammar.specs.Grammar.{Mark, is_literal, is_variable, Stem, Text, Token}
use Rattle.sx_grammar.specs.Print.{literal_token}
use Rattle.sx_print.specs.Printed.{text_of, written_tokens, HaveUtf8, AddsTokens}

-- the texts with a blank behind each are those with one blank between them, and a blank
last_blank : (a text : List ℕ) → (a ++ 32 ∷ []) ++ (text ++ 32 ∷ []) ≡ (a ++ 32 ∷ text) ++ 32 ∷ []
last_blank a text = simp append_assoc

written-text : (t : Token) (ts : List Token) → written_tokens (t ∷ ts) ≡ text_of (t ∷ ts) ++ 32 ∷ []
written-text t [] = append-nil (t.text ++ 32 ∷ [])
written-text t (u ∷ us) = ap (λ x. (t.text ++ 32 ∷ []) ++ x) (written-text u us) ∙ last_blank t.text (text_of (u ∷ us))

-- without the blank behind the last token
pub dropped : (tokens : List Token) (before old new : List ℕ) (end : ℕ) → old ≡ before ++ written_tokens tokens → length before < length old → end ≡ length old → new ≡ take (end - 1) old → new ≡ before ++ text_of tokens
dropped [] before old new end e lt at is = absurd (omega (arith, lt, ap length e, length-append before (written_tokens [])))
dropped (t ∷ ts) before old new end e lt at is =
    let front = before ++ text_of (t ∷ ts) in
    let whole : old ≡ front ++ 32 ∷ [] = e ∙ ap (λ x. before ++ x) (written-text t ts) ∙ sym (append_assoc before (text_of (t ∷ ts)) (32 ∷ [])) in
    let long : end - 1 ≡ length front = omega (arith, at, ap length whole, length-append front (32 ∷ [])) in
    is ∙ (λ i. take (long i) (whole i)) ∙ take-append_seam front (32 ∷ [])

-- where nothing was written
pub nothing : (tokens : List Token) (before old : List ℕ) → old ≡ before ++ written_tokens tokens → length old ≤ length before → old ≡ before ++ text_of tokens
nothing [] before old e le = e
nothing (t ∷ ts) before old e le =
    absurd (omega (arith, le, ap length e, length-append before (written_tokens (t ∷ ts)), ap length (written-text t ts), length-append (text_of (t ∷ ts)) (32 ∷ [])))

HaveUtf8-append : (xs ys : List Token) → HaveUtf8 xs → HaveUtf8 ys → HaveUtf8 (xs ++ ys)
HaveUtf8-append [] ys h k = k
HaveUtf8-append (x ∷ xs) ys h k = (h.0, HaveUtf8-append xs ys h.1 k)

pub AddsTokens-none : (text : List ℕ) → AddsTokens [] text text
AddsTokens-none text = record { text = sym (append-nil text); utf8 = tt }

pub AddsTokens-append : (xs ys : List Token) (a b c : List ℕ) → AddsTokens xs a b → AddsTokens ys b c → AddsTokens (xs ++ ys) a c
AddsTokens-append xs ys a b c h k = record {
  text = k.text ∙ ap (λ x. x ++ written_tokens ys) h.text ∙ append_assoc a (written_tokens xs) (written_tokens ys) ∙ ap (λ x. a ++ x) (sym (flat_map-append (λ token. token.text ++ 32 ∷ []) xs ys));
  utf8 = HaveUtf8-append xs ys h.utf8 k.utf8;
}

-- a literal by its number
pub literal_adds : (literals texts : List Text) (n : ℕ) (text : Text) (old new : List ℕ) → texts ≡ literals → n < length literals → text ≡ get_or texts n text → ((mark : Mark) → AddsTokens (record { mark = mark; text = text } ∷ []) old new)
    → AddsTokens (literal_token (slice_index_or literals n []) ∷ []) old new
literal_adds literals texts n text old new same lt at adds =
    let there = slice_get_read literals (length literals) n text refl lt (at ∙ ap (λ x. get_or x n text) same) in
    subst (λ x. AddsTokens (literal_token x ∷ []) old new) (sym (get_or_from_slice_get literals n text [] there)) (adds is_literal)

tilde_low : (i : ℕ) → get_or (126 ∷ []) i 0 < 128
tilde_low zero = lit< tt
tilde_low (suc i) = lit< tt

tilde_utf8 : (name : Text) → IsUtf8 name → IsUtf8 (126 ∷ name)
tilde_utf8 name utf8 = IsUtf8-append (126 ∷ []) name (IsUtf8-from_ascii (126 ∷ []) tilde_low) utf8

-- a variable by its number
pub name_adds : (vars : List Text) (v : ℕ) (name : Text) (old now new : List ℕ) → Some name ≡ slice_get vars v → now ≡ old ++ 126 ∷ [] → ((mark : Mark) → AddsTokens (record { mark = mark; text = name } ∷ []) now new)
    → (place : Stem) → AddsTokens (record { mark = is_variable place; text = 126 ∷ slice_index_or vars v [] } ∷ []) old new
name_adds vars v name old now new at pushed adds place =
    let h = adds (is_variable place) in
    let here : AddsTokens (record { mark = is_variable place; text = 126 ∷ name } ∷ []) old new = record {
      text = h.text ∙ ap (λ x. x ++ ((name ++ 32 ∷ []) ++ [])) pushed ∙ append_assoc old (126 ∷ []) ((name ++ 32 ∷ []) ++ []);
      utf8 = (tilde_utf8 name h.utf8.0, tt);
    } in
    subst (λ x. AddsTokens (record { mark = is_variable place; text = 126 ∷ x } ∷ []) old new) (sym (get_or_from_slice_get vars v name [] (sym at))) here
