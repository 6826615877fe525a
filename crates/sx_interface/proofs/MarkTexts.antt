-- Rows with a name and a digest state what was written in them, and nothing else.
use Rattle.std.proofs.Common.{◌≡◌, ℕ, Bool, true, false, cond, eqb, List, [], ◌∷◌, ◌++◌, length, Option, Some, None, Result, Ok, Err, refl, sym, ap, subst, ◌∙◌, inl, inr, ◌⊎◌, arith}
use Rattle.std.specs.Prelude.{option_and_then}
use Rattle.std.specs.List.{AllByRecursion}
use Rattle.std.specs.Str.{bytes_eq}
use Rattle.std.proofs.lemmas.Slice.Eq.{bytes_eq-Decides}
use Rattle.std.proofs.lemmas.Bool.Decides.{nat_tests}
use Rattle.hex.specs.declared.error.FromHexError.{FromHexError}
use Rattle.hex.specs.Hex.{encode_lower, lower_digits, decode_sized}
use Rattle.hex.proofs.HexLemmas.{decode_sized-ok, decode_sized-twice, decode_of-ok, length-encode_with}
use Rattle.sx_lines.specs.Blanks.{NoSpace}
use Rattle.sx_lines.specs.Words.{after, is_name}
use Rattle.sx_lines.specs.Rows.{word_of}
use Rattle.sx_lines.proofs.WordLaws.{after_front, front_of}
use Rattle.sx_lines.proofs.BlankLaws.{word_split}
use Rattle.sx_lines.proofs.TextLaws.{NoBlank, name_no_blank}
use Rattle.sx_lines.proofs.ReadLaws.{EachReads}
use Rattle.sx_interface.specs.Digests.{digest_if, digest_of}
use Rattle.sx_interface.specs.Interfaces.{MarkData, mark_text, mark_lines, mark_if, mark_of, mark_after, digest_after}
use Rattle.sx_interface.specs.Stated.{IsDigest, IsStatedMark}
use Rattle.sx_interface.proofs.DigestLaws.{digest_again}

-- ---- what is stated is read

no_space : (text : List ℕ) → NoBlank text → NoSpace text
no_space [] h = tt
no_space (b ∷ text) h = ((λ e. omega (arith, h.0)), no_space text h.1)

pub mark_again : (m : MarkData) → IsStatedMark m → mark_of (mark_text m) ≡ Some m
unfolding mark_of
mark_again m h =
    let split = word_split m.name (encode_lower m.digest) (no_space m.name (name_no_blank false m.name h.name)) in
    ap (λ (p : List ℕ × List ℕ). mark_if p.0 (digest_of p.1)) split ∙ ap (mark_if m.name) (digest_again m.digest h.digest.len h.digest.each) ∙ rw h.name refl

pub mark_after-again : (front : List ℕ) (m : MarkData) → IsStatedMark m → mark_after front (front ++ mark_text m) ≡ Some m
unfolding mark_after
mark_after-again front m h = ap (option_and_then mark_of) (after_front front (mark_text m)) ∙ mark_again m h

pub digest_after-again : (front bytes : List ℕ) → IsDigest bytes → digest_after front (front ++ encode_lower bytes) ≡ Some bytes
unfolding digest_after
digest_after-again front bytes h = ap (option_and_then digest_of) (after_front front (encode_lower bytes)) ∙ digest_again bytes h.len h.each

pub marks_again : (front : List ℕ) (marks : List MarkData) → AllByRecursion IsStatedMark marks → EachReads (mark_after front) (mark_lines front marks) marks
marks_again front [] h = tt
marks_again front (m ∷ marks) h = (mark_after-again front m h.0, marks_again front marks h.1)

-- ---- what is read is stated

digest_case : (text : List ℕ) (d : Result (List ℕ) FromHexError) (bytes : List ℕ) → decode_sized text 32 ≡ d → digest_if text d ≡ Some bytes → (text ≡ encode_lower bytes) × IsDigest bytes
digest_case text (Err x) bytes is e = absurd cc
digest_case text (Ok b) bytes is e = test_case text b bytes (bytes_eq (encode_lower b) text) refl is e
  where
    test_case : (text b bytes : List ℕ) (test : Bool) → bytes_eq (encode_lower b) text ≡ test → decode_sized text 32 ≡ Ok b → cond test (Some b) None ≡ Some bytes → (text ≡ encode_lower bytes) × IsDigest bytes
    test_case text b bytes false same is e = absurd cc
    test_case text b bytes true same is e =
        let len = decode_sized-ok text 32 b is in
        let ok = decode_of-ok text b (sym (decode_sized-twice text 32 len) ∙ is) in
        let whole : IsDigest b = record { len = omega (arith, len, ok.2); each = ok.3 } in
        let equal : b ≡ bytes = cc in
        subst (λ (x : List ℕ). (text ≡ encode_lower x) × IsDigest x) equal (sym ((bytes_eq-Decides (encode_lower b) text).0 same), whole)

pub digest_found : (text bytes : List ℕ) → digest_of text ≡ Some bytes → (text ≡ encode_lower bytes) × IsDigest bytes
unfolding digest_of
digest_found text bytes e = digest_case text (decode_sized text 32) bytes refl e

word_case : (b : ℕ) (bytes : List ℕ) (test : Bool) → eqb b 32 ≡ test → (bytes ≡ (word_of bytes).0 ++ 32 ∷ (word_of bytes).1) ⊎ ((word_of bytes).1 ≡ [])
    → let p : List ℕ × List ℕ = cond test ([], bytes) (b ∷ (word_of bytes).0, (word_of bytes).1) in (b ∷ bytes ≡ p.0 ++ 32 ∷ p.1) ⊎ (p.1 ≡ [])
word_case b bytes true e h = let same : b ≡ 32 = grind (arith, nat_tests) in inl (ap (λ (x : ℕ). x ∷ bytes) same)
word_case b bytes false e (inl h) = inl (ap (λ (x : List ℕ). b ∷ x) h)
word_case b bytes false e (inr h) = inr h

word_parts : (text : List ℕ) → (text ≡ (word_of text).0 ++ 32 ∷ (word_of text).1) ⊎ ((word_of text).1 ≡ [])
unfolding word_of
word_parts [] = inr refl
word_parts (b ∷ bytes) = word_case b bytes (eqb b 32) refl (word_parts bytes)

not_empty : (text bytes : List ℕ) → text ≡ [] → digest_of text ≡ Some bytes → ⊥
not_empty text bytes none e =
    let h = digest_found text bytes e in
    let len = length-encode_with lower_digits bytes in
    absurd (omega (arith, len, h.1.len, ap length h.0, ap length none))

mark_case : (text : List ℕ) (o : Option (List ℕ)) (m : MarkData) → digest_of (word_of text).1 ≡ o → mark_if (word_of text).0 o ≡ Some m → (text ≡ mark_text m) × IsStatedMark m
mark_case text None m is e = absurd cc
mark_case text (Some d) m is e = name_case text d m (is_name false (word_of text).0) refl is e (word_parts text)
  where
    name_case : (text d : List ℕ) (m : MarkData) (test : Bool) → is_name false (word_of text).0 ≡ test → digest_of (word_of text).1 ≡ Some d → ◌≡◌ {A = Option MarkData} (cond test (Some (record { name = (word_of text).0; digest = d })) None) (Some m)
        → (text ≡ (word_of text).0 ++ 32 ∷ (word_of text).1) ⊎ ((word_of text).1 ≡ []) → (text ≡ mark_text m) × IsStatedMark m
    name_case text d m false named is e parts = absurd cc
    name_case text d m true named is e (inr none) = absurd (not_empty (word_of text).1 d none is)
    name_case text d m true named is e (inl parts) =
        let h = digest_found (word_of text).1 d is in
        let made : MarkData = record { name = (word_of text).0; digest = d } in
        let same : made ≡ m = cc in
        subst (λ (x : MarkData). (text ≡ mark_text x) × IsStatedMark x) same (parts ∙ ap (λ (r : List ℕ). (word_of text).0 ++ 32 ∷ r) h.0, record { name = named; digest = h.1 })

pub mark_found : (text : List ℕ) (m : MarkData) → mark_of text ≡ Some m → (text ≡ mark_text m) × IsStatedMark m
unfolding mark_of
mark_found text m e = mark_case text (digest_of (word_of text).1) m refl e

and_then_some : {A B : Type 0} (o : Option A) (f : A → Option B) (y : B) → option_and_then f o ≡ Some y → (x : A) × (o ≡ Some x) × (f x ≡ Some y)
and_then_some (Some x) f y e = (x, refl, e)
and_then_some None f y e = absurd cc

pub mark_after-found : (front text : List ℕ) (m : MarkData) → mark_after front text ≡ Some m → (text ≡ front ++ mark_text m) × IsStatedMark m
unfolding mark_after
mark_after-found front text m e =
    let p = and_then_some (after front text) mark_of m e in
    let h = mark_found p.0 m p.2 in
    (front_of front text p.0 p.1 ∙ ap (λ (x : List ℕ). front ++ x) h.0, h.1)

pub digest_after-found : (front text bytes : List ℕ) → digest_after front text ≡ Some bytes → (text ≡ front ++ encode_lower bytes) × IsDigest bytes
unfolding digest_after
digest_after-found front text bytes e =
    let p = and_then_some (after front text) digest_of bytes e in
    let h = digest_found p.0 bytes p.2 in
    (front_of front text p.0 p.1 ∙ ap (λ (x : List ℕ). front ++ x) h.0, h.1)

pub marks_found : (front : List ℕ) (lines : List (List ℕ)) (marks : List MarkData) → EachReads (mark_after front) lines marks → (lines ≡ mark_lines front marks) × AllByRecursion IsStatedMark marks
marks_found front [] [] h = (refl, tt)
marks_found front [] (m ∷ marks) h = absurd h
marks_found front (text ∷ lines) [] h = absurd h
marks_found front (text ∷ lines) (m ∷ marks) h =
    let p = mark_after-found front text m h.0 in
    let q = marks_found front lines marks h.1 in
    (ap (λ (x : List ℕ). x ∷ lines) p.0 ∙ ap (λ (x : List (List ℕ)). (front ++ mark_text m) ∷ x) q.0, (p.1, q.1))
