-- Runs of symbol characters, byte by byte.
use Rattle.std.proofs.Common.{◌≡◌, ℕ, ◌<◌, ◌≤◌, List, [], ◌∷◌, ◌++◌, length, take, drop, IsTrue, Bool, true, false, sym, refl, ap, ◌∙◌, subst, length-take-le, take-append-drop, length-drop, arith}
use Rattle.std.specs.Str.{encode_utf8_all}
use Rattle.std.specs.List.{AllByRecursion}
use Rattle.std.specs.Prelude.{not, ◌↔◌}
use Rattle.std.specs.Str.Iter.{HasSubslice}
use Rattle.std.proofs.Math.Seq.{take-length, drop-length}
use Rattle.std.proofs.lemmas.List.{append-nil}
use Rattle.std.proofs.lemmas.Bool.Decides.{nat_tests}
use Rattle.std.proofs.lemmas.Str.{encode_ascii}
use Rattle.sx_term.specs.Cutting.{is_symbol, begins_word, BeginsWhere, AreCharacters, IsMaximalRun}
use Rattle.sx_term.specs.Cutting.{IsWord, AreSymbols}
use Rattle.sx_term.specs.Spaced.{IsWordLiteral, IsSymbolLiteral}
use Rattle.sx_term.proofs.RunLaws.{IsWord-same}
use Rattle.sx_term.proofs.Firsts.{Word, Symbol, HasClass-same, HasClass-word, HasClass-symbols}

-- each byte is a symbol character
abbrev pub Symbols : List ℕ → Type 0
Symbols text = AllByRecursion (λ b. IsTrue (is_symbol b)) text

pub symbol_low : (c : ℕ) → is_symbol c ≡ true → c < 128
symbol_low c h = grind (arith, nat_tests)

encoded : (cs : List ℕ) → Symbols cs → encode_utf8_all cs ≡ cs
encoded [] all = refl
encoded (c ∷ cs) all = (λ i. encode_ascii c (symbol_low c all.0) i ++ encoded cs all.1 i)

pub Symbols-run : (run : List ℕ) → AreCharacters is_symbol run → Symbols run
Symbols-run run (cs, all, e) = subst Symbols (sym (e ∙ encoded cs all)) all

-- symbol characters at the front reach no further than the run
pub reaches : (run rest other more : List ℕ) → ¬ (BeginsWhere is_symbol rest) → Symbols other → run ++ rest ≡ other ++ more → length other ≤ length run
reaches run rest [] more stops all e = omega arith
reaches [] rest (o ∷ other) more stops all e = absurd (stops (o, other ++ more, all.0, e ∙ ap (λ t. t ++ (other ++ more)) (sym (encode_ascii o (symbol_low o all.0)))))
reaches (r ∷ run) rest (o ∷ other) more stops all e =
    let tails : run ++ rest ≡ other ++ more = cc in
    omega (arith, reaches run rest other more stops all.1 tails)

-- a text that is one word
pub word_whole : (text : List ℕ) (n : ℕ) → n ≡ length text → IsWord (take n text) (drop n text) → IsWordLiteral text
word_whole text n e w =
    let front : take n text ≡ text = ap (λ k. take k text) e ∙ take-length text in
    let back : drop n text ≡ [] = ap (λ k. drop k text) e ∙ drop-length text in
    subst (λ t. IsWord t []) front (subst (IsWord (take n text)) back w)

pub word_len_whole : (text : List ℕ) (n : ℕ) → n ≤ length text → IsWordLiteral text → IsWord (take n text) (drop n text) → n ≡ length text
word_len_whole text n fits literal w =
    let same = IsWord-same (take n text) text (drop n text) [] w literal (take-append-drop n text ∙ sym (append-nil text)) in
    omega (arith, fits, ap length same.1, length-drop n text)

pub word_begins : (text : List ℕ) → IsWordLiteral text → BeginsWhere begins_word text
word_begins text w = (w.first, w.others, w.begins, w.split)

-- a text that is one run of symbol characters
pub symbols_whole : (text : List ℕ) (n : ℕ) → n ≡ length text → IsMaximalRun is_symbol (take n text) (drop n text) → Symbols text
symbols_whole text n e run =
    let front : take n text ≡ text = ap (λ k. take k text) e ∙ take-length text in
    subst Symbols front (Symbols-run (take n text) run.characters)

pub run_len_whole : (text : List ℕ) (n : ℕ) → n ≤ length text → Symbols text → IsMaximalRun is_symbol (take n text) (drop n text) → n ≡ length text
run_len_whole text n fits all run =
    omega (arith, fits, reaches (take n text) (drop n text) text [] run.maximal all (take-append-drop n text ∙ sym (append-nil text)), length-take-le n text fits)

-- no text is a literal of both shapes
pub shapes_apart : (text : List ℕ) → IsWordLiteral text → IsSymbolLiteral text → ⊥
shapes_apart text w s =
    let clash : Word ≡ Symbol = HasClass-same (text ++ []) (HasClass-word text [] w) (HasClass-symbols text [] s.0) in cc

-- symbol characters are a literal where no `//` stands among them
pub symbol_literal_if : (text : List ℕ) (has : Bool) → (has ≡ true) ↔ HasSubslice text (47 ∷ 47 ∷ []) → AreSymbols text → (not has ≡ true) ↔ IsSymbolLiteral text
symbol_literal_if text true tells symbols = (λ e. cc, λ literal. let at = tells.0 refl in absurd (literal.1 at.0 at.1 at.2))
symbol_literal_if text false tells symbols = (λ _. (symbols, λ front more e. let clash : false ≡ true = tells.1 (front, more, e) in cc), λ _. refl)
