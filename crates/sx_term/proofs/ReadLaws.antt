-- What was written is read again.
use Rattle.std.proofs.Common.{◌≡◌, ℕ, ◌+◌, ◌-◌, ◌≤◌, List, [], ◌++◌, length, take, drop, take-append-drop, length-take, Result, Ok, Err, MatchResult, refl, ap, ◌∙◌, sym, subst, append-nil, arith}
use Rattle.std.proofs.Math.Seq.{take-append_seam, drop-append_seam}
use Rattle.sx_term.specs.declared.term.Term.{Term}
use Rattle.sx_term.specs.declared.core_error.CoreError.{CoreError}
use Rattle.sx_term.specs.declared.core_error.CoreError.TheVariants.{BadCore, TooDeep, Memory}
use Rattle.sx_term.specs.Tree.{Tree, depth_of}
use Rattle.sx_term.specs.Term.{tree}
use Rattle.sx_term.specs.Core.{core, HasCore, NoDigit}
use Rattle.sx_term.specs.Reading.{IsLongest, Want}
use Rattle.sx_term.specs.Read.{IsTermRead, StandsAt}
use Rattle.sx_term.proofs.OneReading.{one_reading, read_again}

-- the longest text at a place has one length
longest_at_most : (L : List ℕ → Type 0) (s : List ℕ) (a b : ℕ) → IsLongest L s a → IsLongest L s b → b ≤ a
longest_at_most L s a b h k =
    let w = k.within in
    let q = h.longest (take b s) (drop b s) k.text (sym (take-append-drop b s)) in
    omega (arith, length-take b s)

same_length : (L : List ℕ → Type 0) (s : List ℕ) (a b : ℕ) → IsLongest L s a → IsLongest L s b → a ≡ b
same_length L s a b h k = omega (arith, longest_at_most L s a b h k, longest_at_most L s b a k h)

nothing_no_digit : NoDigit []
nothing_no_digit d z h e = cc

-- the term that stands where a core text was written is the one that was written
stands_again : (before : List ℕ) (t u : Tree) (rest : List ℕ) (to : ℕ) → HasCore t → NoDigit rest → StandsAt (before ++ (core t ++ rest)) (length before) to u → (u ≡ t) × (to ≡ length before + length (core t))
stands_again before t u rest to h n s =
    let d : drop (length before) (before ++ (core t ++ rest)) ≡ core t ++ rest = drop-append_seam before (core t ++ rest) in
    let P : List ℕ → Type 0 = λ z. IsLongest (Want 0) z (to - length before) in
    let l = same_length (Want 0) (core t ++ rest) (to - length before) (length (core t)) (subst P d s.longest) (read_again t rest h n) in
    let e : core u ≡ core t = sym s.text ∙ ap (take (to - length before)) d ∙ ap (λ k. take k (core t ++ rest)) l ∙ take-append_seam (core t) rest in
    let past = s.past in
    ((one_reading u t [] [] s.has_core h nothing_no_digit nothing_no_digit (ap (λ z. z ++ []) e)).0, omega arith)

pub written_core_is_read : (before : List ℕ) (t : Tree) (rest : List ℕ) (read : Result (Term × ℕ) CoreError) → HasCore t → depth_of t ≤ 1000 → NoDigit rest → IsTermRead (before ++ (core t ++ rest)) (length before) read
    → MatchResult read (λ r. (tree r.0 ≡ t) × (r.1 ≡ length before + length (core t))) (λ e. e ≡ Memory)
written_core_is_read before t rest (Ok r) h l n s = stands_again before t (tree r.0) rest r.1 h n s.0
written_core_is_read before t rest (Err (BadCore place)) h l n s =
    absurd (s.1.none (core t) rest (t, h, [], sym (append-nil (core t)), refl) (drop-append_seam before (core t ++ rest)))
written_core_is_read before t rest (Err (TooDeep depth)) h l n s =
    let e = ap depth_of (stands_again before t s.0 rest s.1 h n s.2).0 in
    let d = s.3 in
    let more = s.4 in
    absurd (omega arith)
written_core_is_read before t rest (Err Memory) h l n s = refl
