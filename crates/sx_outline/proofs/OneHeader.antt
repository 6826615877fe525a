-- A file has one header.
use Rattle.std.proofs.Common.{◌≡◌, ◌≢◌, ℕ, List, Result, Ok, Err, refl, sym, ap, subst, ◌∙◌, inl, inr}
use Rattle.sx_lines.specs.Lines.{Lines, over, line, lines_from}
use Rattle.sx_lines.specs.declared.kind.Kind.{Kind}
use Rattle.sx_lines.specs.declared.kind.Kind.TheVariants.{Head, Shape}
use Rattle.sx_directives.specs.declared.file_kind.FileKind.TheVariants as files
use Rattle.sx_directives.specs.declared.row.Row.TheVariants.{Extension, Language, Use}
use Rattle.sx_outline.specs.declared.outline_error.OutlineError.{OutlineError}
use Rattle.sx_outline.specs.declared.outline_error.OutlineError.TheVariants.{Memory, NotUtf8}
use Rattle.sx_outline.specs.declared.outline_error.OutlineError.TheVariants.{Notation}
use Rattle.sx_outline.specs.Known.{kept_lines}
use Rattle.sx_outline.specs.Headers.{HeaderData, header_begun, with_use, IsUseLine, IsNewUse}
use Rattle.sx_outline.specs.Headers.{AreUses, IsLanguageNext, IsHeaderOf, IsHeader, IsHeaderIn}
use Rattle.sx_outline.specs.Headers.{IsHeaderAnswer}
use Rattle.sx_outline.proofs.SameRows.{same_row}

use_line : (h : HeaderData) (text used : List ℕ) → IsNewUse h text used → IsUseLine text
use_line h text used new = (new.0.rest, new.0.parts_are)

-- two outcomes of the same lines are of the same header and the same lines that are left, or of the same bad line
both_uses : (R : Type 0) (NextA NextB : HeaderData → Lines → Type 0) (BadA BadB : ℕ → Kind → Type 0) → ((h : HeaderData) (lines : Lines) → NextA h lines → NextB h lines → R)
    → ((n : ℕ) (bad : Kind) → BadA n bad → BadB n bad → R) → (h : HeaderData) (lines : Lines) → AreUses h lines NextA BadA → AreUses h lines NextB BadB → R
both_uses R NextA NextB BadA BadB f g h (over end) x y = f h (over end) x y
both_uses R NextA NextB BadA BadB f g h (line number text after more) (inl x) (inl y) =
    let same : x.0 ≡ y.0 = same_row files.Extension text (Use x.0) (Use y.0) x.1.0 y.1.0 in
    both_uses R NextA NextB BadA BadB f g (with_use h y.0) more (subst (λ (z : List ℕ). AreUses (with_use h z) more NextA BadA) same x.2) y.2
both_uses R NextA NextB BadA BadB f g h (line number text after more) (inl x) (inr (inl y)) = absurd (y.1 x.0 x.1)
both_uses R NextA NextB BadA BadB f g h (line number text after more) (inl x) (inr (inr y)) = absurd (y.0 (use_line h text x.0 x.1))
both_uses R NextA NextB BadA BadB f g h (line number text after more) (inr (inl x)) (inl y) = absurd (x.1 y.0 y.1)
both_uses R NextA NextB BadA BadB f g h (line number text after more) (inr (inl x)) (inr (inl y)) = g number Shape x.2 y.2
both_uses R NextA NextB BadA BadB f g h (line number text after more) (inr (inl x)) (inr (inr y)) = absurd (y.0 x.0)
both_uses R NextA NextB BadA BadB f g h (line number text after more) (inr (inr x)) (inl y) = absurd (x.0 (use_line h text y.0 y.1))
both_uses R NextA NextB BadA BadB f g h (line number text after more) (inr (inr x)) (inr (inl y)) = absurd (x.0 y.0)
both_uses R NextA NextB BadA BadB f g h (line number text after more) (inr (inr x)) (inr (inr y)) = f h (line number text after more) x.1 y.1

both_languages : (R : Type 0) (NextA NextB : HeaderData → Lines → Type 0) (BadA BadB : ℕ → Kind → Type 0) → ((h : HeaderData) (lines : Lines) → NextA h lines → NextB h lines → R)
    → ((n : ℕ) (bad : Kind) → BadA n bad → BadB n bad → R) → (name : List ℕ) (lines : Lines) → IsLanguageNext name lines NextA BadA → IsLanguageNext name lines NextB BadB → R
both_languages R NextA NextB BadA BadB f g name (over end) x y = g end Head x y
both_languages R NextA NextB BadA BadB f g name (line number text after more) (inl x) (inl y) =
    let same : x.0 ≡ y.0 = same_row files.Extension text (Language x.0) (Language y.0) x.1 y.1 in
    both_uses R NextA NextB BadA BadB f g (header_begun name y.0) more (subst (λ (z : List ℕ). AreUses (header_begun name z) more NextA BadA) same x.2) y.2
both_languages R NextA NextB BadA BadB f g name (line number text after more) (inl x) (inr y) = absurd (y.0 x.0 x.1)
both_languages R NextA NextB BadA BadB f g name (line number text after more) (inr x) (inl y) = absurd (x.0 y.0 y.1)
both_languages R NextA NextB BadA BadB f g name (line number text after more) (inr x) (inr y) = g number Head x.1 y.1

both_named : (R : Type 0) (NextA NextB : HeaderData → Lines → Type 0) (BadA BadB : ℕ → Kind → Type 0) → ((h : HeaderData) (lines : Lines) → NextA h lines → NextB h lines → R)
    → ((n : ℕ) (bad : Kind) → BadA n bad → BadB n bad → R) → (name : List ℕ) (lines : Lines) → IsHeaderOf name lines NextA BadA → IsHeaderOf name lines NextB BadB → R
both_named R NextA NextB BadA BadB f g name (over end) x y = g end Head x y
both_named R NextA NextB BadA BadB f g name (line number text after more) (inl x) (inl y) = both_languages R NextA NextB BadA BadB f g name more x.1 y.1
both_named R NextA NextB BadA BadB f g name (line number text after more) (inl x) (inr y) = absurd (y.0 x.0)
both_named R NextA NextB BadA BadB f g name (line number text after more) (inr x) (inl y) = absurd (x.0 y.0)
both_named R NextA NextB BadA BadB f g name (line number text after more) (inr x) (inr y) = g number Head x.1 y.1

pub both_headers : (R : Type 0) (NextA NextB : HeaderData → Lines → Type 0) (BadA BadB : ℕ → Kind → Type 0) → ((h : HeaderData) (lines : Lines) → NextA h lines → NextB h lines → R)
    → ((n : ℕ) (bad : Kind) → BadA n bad → BadB n bad → R) → (lines : Lines) → IsHeader lines NextA BadA → IsHeader lines NextB BadB → R
both_headers R NextA NextB BadA BadB f g (over end) x y = g end Head x y
both_headers R NextA NextB BadA BadB f g (line number text after more) (inl x) (inl y) =
    let same : x.0 ≡ y.0 = same_row files.Extension text (Extension x.0) (Extension y.0) x.1 y.1 in
    both_languages R NextA NextB BadA BadB f g y.0 more (subst (λ (z : List ℕ). IsLanguageNext z more NextA BadA) same x.2) y.2
both_headers R NextA NextB BadA BadB f g (line number text after more) (inl x) (inr y) = absurd (y.0 x.0 x.1)
both_headers R NextA NextB BadA BadB f g (line number text after more) (inr x) (inl y) = absurd (x.0 y.0 y.1)
both_headers R NextA NextB BadA BadB f g (line number text after more) (inr x) (inr y) = g number Head x.1 y.1

one_header : (name bytes : List ℕ) (a b : Result HeaderData OutlineError) → IsHeaderIn name bytes a → IsHeaderIn name bytes b → a ≡ b
one_header name bytes a b x y =
    both_named (a ≡ b) (λ h left. a ≡ Ok h) (λ h left. b ≡ Ok h) (λ n bad. a ≡ Err (Notation n bad)) (λ n bad. b ≡ Err (Notation n bad)) (λ h left e f. e ∙ sym f) (λ n bad e f. e ∙ sym f)
    name (kept_lines (lines_from 1 bytes)) x.1 y.1

pub one_header_answer : (name bytes : List ℕ) (a b : Result HeaderData OutlineError) → IsHeaderAnswer name bytes a → IsHeaderAnswer name bytes b → (a ≢ Err Memory) → (b ≢ Err Memory) → a ≡ b
one_header_answer name bytes (Err Memory) b h k n m = absurd (n refl)
one_header_answer name bytes a (Err Memory) h k n m = absurd (m refl)
one_header_answer name bytes (Ok x) (Ok y) h k n m = one_header name bytes (Ok x) (Ok y) h k
one_header_answer name bytes (Ok x) (Err (NotUtf8 place)) h k n m = absurd (k.0 h.0)
one_header_answer name bytes (Ok x) (Err (Notation l kind)) h k n m = one_header name bytes (Ok x) (Err (Notation l kind)) h k
one_header_answer name bytes (Err (NotUtf8 place)) (Ok y) h k n m = absurd (h.0 k.0)
one_header_answer name bytes (Err (NotUtf8 place)) (Err (NotUtf8 other)) h k n m = ap (λ x. Err (NotUtf8 x)) (h.1 ∙ sym k.1)
one_header_answer name bytes (Err (NotUtf8 place)) (Err (Notation l kind)) h k n m = absurd (h.0 k.0)
one_header_answer name bytes (Err (Notation l kind)) (Ok y) h k n m = one_header name bytes (Err (Notation l kind)) (Ok y) h k
one_header_answer name bytes (Err (Notation l kind)) (Err (NotUtf8 place)) h k n m = absurd (k.0 h.0)
one_header_answer name bytes (Err (Notation l kind)) (Err (Notation i other)) h k n m = one_header name bytes (Err (Notation l kind)) (Err (Notation i other)) h k
