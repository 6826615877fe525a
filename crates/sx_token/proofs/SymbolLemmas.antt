-- Runs of symbol characters, and the literals in them.
use Rattle.std.proofs.Common.{◌≡◌, ℕ, zero, suc, ◌-◌, ◌<◌, ◌≤◌, List, [], ◌∷◌, length, take, get_or, true, false, inl, inr, sym, ap, ◌∙◌, subst, length-append, add-one, arith}
use Rattle.std.specs.Prelude.{Contains}
use Rattle.std.specs.Str.{IsCharBoundary, IsUtf8}
use Rattle.std.proofs.Math.Seq.{take-append_seam}
use Rattle.std.proofs.Math.ListN.{get_or-append}
use Rattle.std.proofs.lemmas.Bool.{cases_lt, false≢true}
use Rattle.std.proofs.lemmas.Str.{IsCharBoundary-start, IsCharBoundary-after_ascii}
use Rattle.sx_term.specs.Cutting.{is_symbol}
use Rattle.sx_term.proofs.SymbolRuns.{Symbols, symbol_low}
use Rattle.sx_token.specs.Symbol.{NoneLonger}

-- the first n bytes of the text are symbol characters
abbrev pub SymbolsBelow : List ℕ → ℕ → Type 0
SymbolsBelow text n = (k : ℕ) → k < n → is_symbol (get_or text k 0) ≡ true

pub Symbols-take : (text : List ℕ) (n : ℕ) → SymbolsBelow text n → Symbols (take n text)
Symbols-take text zero h = tt
Symbols-take [] (suc n) h = tt
Symbols-take (x ∷ text) (suc n) h = (h 0 (omega arith), Symbols-take text n (λ k lt. h (suc k) (omega (arith, lt))))

Symbols-at : (xs : List ℕ) (k : ℕ) → Symbols xs → k < length xs → is_symbol (get_or xs k 0) ≡ true
Symbols-at [] k all lt = absurd (omega (arith, lt))
Symbols-at (x ∷ xs) zero all lt = all.0
Symbols-at (x ∷ xs) (suc k) all lt = Symbols-at xs k all.1 (omega (arith, lt))

-- a text may be cut before, among and after symbol characters
pub boundary_in_run : (text : List ℕ) (run k : ℕ) → IsUtf8 text → SymbolsBelow text run → run ≤ length text → k ≤ run → IsCharBoundary text k
boundary_in_run text run zero utf8 below fits le = IsCharBoundary-start text utf8
boundary_in_run text run (suc k) utf8 below fits le =
    rw add-one at (IsCharBoundary-after_ascii text k utf8 (omega (arith, fits, le)) (symbol_low (get_or text k 0) (below k (omega (arith, le)))))

-- a literal reaches no further than the run, or than the most that was counted
pub NoneLonger-run : (literals : List (List ℕ)) (text : List ℕ) (run most : ℕ) → NoneLonger literals text most → (run < most → run < length text → is_symbol (get_or text run 0) ≡ false) → NoneLonger literals text run
NoneLonger-run literals text run most longest stops = λ other more among all e.
    elim (cases_lt run (length other)) [
      | inl lt ↦ (
          let read : get_or text run 0 ≡ get_or other run 0 = ap (λ t. get_or t run 0) e ∙ get_or-append other more 0 run lt in
          let short : run < most = omega (arith, lt, longest other more among all e) in
          let within : run < length text = omega (arith, lt, ap length e, length-append other more) in
          absurd (false≢true (sym (stops short within) ∙ ap is_symbol read ∙ Symbols-at other run all.1 lt)))
      | inr ge ↦ ge
    ]

-- nor than the longest literal with the same first byte
pub NoneLonger-longest : (literals : List (List ℕ)) (text : List ℕ) (n : ℕ) → get_or text 0 0 < 128
    → ((first : ℕ) (others : List ℕ) → Contains literals (first ∷ others) → first < 128 → first ≡ get_or text 0 0 → length (first ∷ others) ≤ n) → NoneLonger literals text n
NoneLonger-longest literals text n low longest [] more among all e = omega arith
NoneLonger-longest literals text n low longest (o ∷ other) more among all e =
    let first : o ≡ get_or text 0 0 = ap (λ t. get_or t 0 0) (sym e) in
    longest o other among (omega (arith, low, first)) first

-- where a front is no literal, the longest is shorter
pub NoneLonger-less : (literals : List (List ℕ)) (text : List ℕ) (n : ℕ) → NoneLonger literals text n → ¬ (Contains literals (take n text)) → NoneLonger literals text (n - 1)
NoneLonger-less literals text n before absent = λ other more among all e.
    let most = before other more among all e in
    elim (cases_lt (length other) n) [
      | inl lt ↦ omega arith
      | inr ge ↦ (
          let long : n ≡ length other = omega arith in
          let same : take n text ≡ other = (λ i. take (long i) (e i)) ∙ take-append_seam other more in
          absurd (absent (subst (Contains literals) (sym same) among)))
    ]
