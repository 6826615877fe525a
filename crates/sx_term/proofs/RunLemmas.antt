-- What `find` says of a run.
use Rattle.std.proofs.Common.{◌≡◌, ℕ, ◌+◌, ◌≤◌, List, [], ◌∷◌, ◌++◌, length, take, drop, IsTrue, Bool, true, false, not, Option, Some, None, sym, refl, ap, ◌∙◌, subst, append_assoc, length-append, take-append-drop, length-take-le, zero-add, arith}
use Rattle.std.specs.Prelude.{MatchOption, IfSome, unwrap_or}
use Rattle.std.specs.Char.{encode_utf8, len_utf8}
use Rattle.std.specs.Str.{NonePass, NoCharPasses, IsUtf8, IsCharBoundary}
use Rattle.std.specs.Str.Pattern.{FindsBy, MatchBeginsAt}
use Rattle.std.specs.List.{AllByRecursion}
use Rattle.std.proofs.Math.Seq.{take-length, drop-length, take-append_seam, drop-append_seam}
use Rattle.std.proofs.lemmas.Str.{encode_same, length-encode, len_utf8_bounds, drop_past_char, IsCharBoundary-past_char}
use Rattle.std.proofs.lemmas.Bool.{false≢true}
use Rattle.unicode_ident.specs.Ident.{is_xid_continue}
use Rattle.sx_term.specs.Cutting.{BeginsWhere, AreCharacters, IsMaximalRun, IsWord, begins_word}

not_false : (b : Bool) → not b ≡ false → b ≡ true
not_false true e = refl
not_false false e = cc

not_true : (b : Bool) → not b ≡ true → b ≡ true → ⊥
not_true true e f = cc
not_true false e f = cc

all_pass : (p : ℕ → Bool) (cs : List ℕ) → NonePass (λ c. not (p c)) cs → AllByRecursion (λ c. IsTrue (p c)) cs
all_pass p [] h = tt
all_pass p (c ∷ cs) h = (not_false (p c) h.0, all_pass p cs h.1)

are_characters : (p : ℕ → Bool) (run : List ℕ) → NoCharPasses (λ c. not (p c)) run → AreCharacters p run
are_characters p run (cs, e, none) = (cs, all_pass p cs none, sym e)

pub empty_begins : (p : ℕ → Bool) → ¬ (BeginsWhere p [])
empty_begins p (c, tail, pass, e) = absurd (omega (arith, ap length e, length-append (encode_utf8 c) tail, length-encode c, (len_utf8_bounds c).0))

stops : (p : ℕ → Bool) (c : ℕ) (text rest : List ℕ) → not (p c) ≡ true → text ≡ encode_utf8 c ++ rest → ¬ (BeginsWhere p text)
stops p c text rest fails e (d, tail, pass, f) = not_true (p c) fails (ap p (encode_same c d rest tail (sym e ∙ f)).0 ∙ pass)

pub found : (p : ℕ → Bool) (M : (ℕ → Bool) → Type 0) (text : List ℕ) (r : Option ℕ) (n : ℕ) → M (λ c. not (p c))
    → MatchOption r ((k : ℕ → Bool) → M k → NoCharPasses k text) (MatchBeginsAt (λ s o. (k : ℕ → Bool) → M k → FindsBy k s o) text)
    → n ≡ unwrap_or r (length text) → IsMaximalRun p (take n text) (drop n text)
found p M text None n answers h e =
    let all : take n text ≡ text = ap (λ k. take k text) e ∙ take-length text in
    let nothing : drop n text ≡ [] = ap (λ k. drop k text) e ∙ drop-length text in
    record {
      characters = subst (AreCharacters p) (sym all) (are_characters p text (h (λ c. not (p c)) answers));
      maximal = subst (λ t. ¬ (BeginsWhere p t)) (sym nothing) (empty_begins p);
    }
found p M text (Some i) n answers h e =
    let at = h.1 (λ c. not (p c)) answers in
    record {
      characters = subst (λ k. AreCharacters p (take k text)) (sym e) (are_characters p (take i text) at.0);
      maximal = subst (λ k. ¬ (BeginsWhere p (drop k text))) (sym e) (stops p at.1.0 (drop i text) (drop h.0 text) at.1.1 at.1.2.split);
    }

-- a text that begins with a character c
pub past_char : (text rest : List ℕ) (c : ℕ) → text ≡ encode_utf8 c ++ rest → text ≡ encode_utf8 c ++ drop (len_utf8 c) text
past_char text rest c e = e ∙ ap (λ t. encode_utf8 c ++ t) (sym (rw zero-add at (drop_past_char text rest 0 c e)))

pub past_char_boundary : (text rest : List ℕ) (c : ℕ) → IsUtf8 text → text ≡ encode_utf8 c ++ rest → IsCharBoundary text (len_utf8 c)
past_char_boundary text rest c utf8 e = rw zero-add at (IsCharBoundary-past_char text rest 0 c (omega arith) utf8 e)

pub no_begin_in_empty : (p : ℕ → Bool) (text : List ℕ) → text ≡ [] → ¬ (BeginsWhere p text)
no_begin_in_empty p text nothing = subst (λ t. ¬ (BeginsWhere p t)) (sym nothing) (empty_begins p)

pub no_begin_here : (p : ℕ → Bool) (text rest : List ℕ) (c : ℕ) → p c ≡ false → text ≡ encode_utf8 c ++ rest → ¬ (BeginsWhere p text)
no_begin_here p text rest c fails e (d, tail, pass, f) = absurd (false≢true (sym fails ∙ ap p (encode_same c d rest tail (sym e ∙ f)).0 ∙ pass))

pub word_here : (text others : List ℕ) (c n k : ℕ) → begins_word c ≡ true → text ≡ encode_utf8 c ++ others → n ≡ length (encode_utf8 c) → IsMaximalRun is_xid_continue (take k others) (drop k others)
    → k ≤ length others → IsWord (take (n + k) text) (drop (n + k) text)
word_here text others c n k begins e long run fits =
    let cut : text ≡ (encode_utf8 c ++ take k others) ++ drop k others = e ∙ ap (λ t. encode_utf8 c ++ t) (sym (take-append-drop k others)) ∙ sym (append_assoc (encode_utf8 c) (take k others) (drop k others)) in
    let size : n + k ≡ length (encode_utf8 c ++ take k others) = omega (arith, long, length-append (encode_utf8 c) (take k others), length-take-le k others fits) in
    let front : take (n + k) text ≡ encode_utf8 c ++ take k others = (λ i. take (size i) (cut i)) ∙ take-append_seam (encode_utf8 c ++ take k others) (drop k others) in
    let back : drop (n + k) text ≡ drop k others = (λ i. drop (size i) (cut i)) ∙ drop-append_seam (encode_utf8 c ++ take k others) (drop k others) in
    record { first = c; others = take k others; begins = begins; split = front; goes_on = subst (IsMaximalRun is_xid_continue (take k others)) (sym back) run }

pub first_some : (text before rest : List ℕ) (r : Option ℕ) (A : Type 0) → before ≡ text → MatchOption r A (λ c. before ≡ encode_utf8 c ++ rest) → IfSome r (λ c. text ≡ encode_utf8 c ++ drop (len_utf8 c) text)
first_some text before rest None A e h = tt
first_some text before rest (Some c) A e h = past_char text rest c (sym e ∙ h)

pub first_boundary : (text before rest : List ℕ) (r : Option ℕ) (A : Type 0) → IsUtf8 text → before ≡ text → MatchOption r A (λ c. before ≡ encode_utf8 c ++ rest) → IfSome r (λ c. IsCharBoundary text (len_utf8 c))
first_boundary text before rest None A utf8 e h = tt
first_boundary text before rest (Some c) A utf8 e h = past_char_boundary text rest c utf8 (sym e ∙ h)
