-- The rows of language and extension files.
use Rattle.std.proofs.Common.{◌≡◌, ℕ, ◌-◌, ◌≤◌, List, [], ◌∷◌, length, take, drop, sym, ap, subst, ◌∙◌, arith, Option}
use Rattle.std.specs.Borrow.{Bor}
use Rattle.std.proofs.lemmas.List.{take_all}
use Rattle.sx_grammar.specs.Parts.{Line}
use Rattle.sx_grammar.specs.declared.sort_line.SortLine.{SortLine}
use Rattle.sx_grammar.specs.declared.symbol.Symbol.{Symbol}
use Rattle.sx_grammar.specs.Parts.{texts}
use Rattle.sx_directives.specs.Spelling.{NoneIs, IsVariable, SpellsSymbol, SpellsForm, EachSpelled}
use Rattle.sx_directives.specs.Rows.{AreBrackets, IsSortRow, IsProdRow, IsFormRow, IsPlainRow}
use Rattle.sx_directives.specs.declared.row_error.RowError.{RowError}
use Rattle.sx_directives.specs.declared.rows.FormLine.{FormLine}
use Rattle.sx_directives.specs.declared.rows.PlainLine.{PlainLine}
use Rattle.sx_directives.specs.declared.spelled.FormSymbol.{FormSymbol}
use Rattle.sx_directives.proofs.SpellingLaws.{none_of}

tail_same : (a b : List ℕ) (x y : List (List ℕ)) → a ∷ x ≡ b ∷ y → x ≡ y
tail_same a b x y e = cc

-- what follows the first part
one_off : (parts : List (Bor (List ℕ))) (a : List ℕ) (rest : List (List ℕ)) → 1 ≤ length parts → texts parts ≡ a ∷ rest → rest ≡ texts (take (length parts - 1) (drop 1 parts))
one_off [] a rest le e = absurd (omega arith)
one_off (p ∷ parts) a rest le e = sym (tail_same p.now a (texts parts) rest e) ∙ ap texts (sym (take_all (length (p ∷ parts) - 1) parts (omega arith)))

-- what follows the first two parts
two_off : (parts : List (Bor (List ℕ))) (a b : List ℕ) (rest : List (List ℕ)) → 2 ≤ length parts → texts parts ≡ a ∷ b ∷ rest → rest ≡ texts (take (length parts - 2) (drop 2 parts))
two_off [] a b rest le e = absurd (omega arith)
two_off (p ∷ []) a b rest le e = absurd (omega arith)
two_off (p ∷ q ∷ parts) a b rest le e =
    sym (tail_same q.now b (texts parts) rest (tail_same p.now a (q.now ∷ texts parts) (b ∷ rest) e)) ∙ ap texts (sym (take_all (length (p ∷ q ∷ parts) - 2) parts (omega arith)))

-- what follows the first four parts
four_off : (parts : List (Bor (List ℕ))) (a b c d : List ℕ) (rest : List (List ℕ)) → 4 ≤ length parts → texts parts ≡ a ∷ b ∷ c ∷ d ∷ rest → rest ≡ texts (take (length parts - 4) (drop 4 parts))
four_off [] a b c d rest le e = absurd (omega arith)
four_off (p ∷ []) a b c d rest le e = absurd (omega arith)
four_off (p ∷ q ∷ []) a b c d rest le e = absurd (omega arith)
four_off (p ∷ q ∷ r ∷ []) a b c d rest le e = absurd (omega arith)
four_off (p ∷ q ∷ r ∷ s ∷ parts) a b c d rest le e =
    let one = tail_same p.now a (q.now ∷ r.now ∷ s.now ∷ texts parts) (b ∷ c ∷ d ∷ rest) e in
    let two = tail_same q.now b (r.now ∷ s.now ∷ texts parts) (c ∷ d ∷ rest) one in
    let three = tail_same r.now c (s.now ∷ texts parts) (d ∷ rest) two in
    sym (tail_same s.now d (texts parts) rest three) ∙ ap texts (sym (take_all (length (p ∷ q ∷ r ∷ s ∷ parts) - 4) parts (omega arith)))

brackets_in : (parts : List (Bor (List ℕ))) → 2 ≤ length parts → (y : SortLine) → IsSortRow (texts parts) y → (x : Option (List ℕ × List ℕ)) × AreBrackets (texts (take (length parts - 2) (drop 2 parts))) x
brackets_in parts le y h = (y.brackets, subst (λ x. AreBrackets x y.brackets) (two_off parts _ _ h.brackets le h.parts_are) h.pair)

pub no_brackets : (parts : List (Bor (List ℕ))) (e : RowError) → 2 ≤ length parts → NoneIs (AreBrackets (texts (take (length parts - 2) (drop 2 parts)))) e → NoneIs (IsSortRow (texts parts)) e
no_brackets parts e le n = none_of (AreBrackets (texts (take (length parts - 2) (drop 2 parts)))) (IsSortRow (texts parts)) e (brackets_in parts le) n

form_symbols_in : (parts : List (Bor (List ℕ))) → 2 ≤ length parts → (y : FormLine) → IsFormRow (texts parts) y → (x : List FormSymbol) × EachSpelled SpellsForm (texts (take (length parts - 2) (drop 2 parts))) x
form_symbols_in parts le y h = (y.symbols.items, subst (λ x. EachSpelled SpellsForm x y.symbols.items) (two_off parts _ _ h.symbols le h.parts_are) h.symbols_are)

pub no_form_symbols : (parts : List (Bor (List ℕ))) (e : RowError) → 2 ≤ length parts → NoneIs (EachSpelled SpellsForm (texts (take (length parts - 2) (drop 2 parts)))) e → NoneIs (IsFormRow (texts parts)) e
no_form_symbols parts e le n = none_of (EachSpelled SpellsForm (texts (take (length parts - 2) (drop 2 parts)))) (IsFormRow (texts parts)) e (form_symbols_in parts le) n

symbols_in : (parts : List (Bor (List ℕ))) → 4 ≤ length parts → (y : Line) → IsProdRow (texts parts) y → (x : List Symbol) × EachSpelled SpellsSymbol (texts (take (length parts - 4) (drop 4 parts))) x
symbols_in parts le y h = (y.symbols, subst (λ x. EachSpelled SpellsSymbol x y.symbols) (four_off parts _ _ _ _ h.symbols le h.parts_are) h.symbols_are)

pub no_symbols : (parts : List (Bor (List ℕ))) (e : RowError) → 4 ≤ length parts → NoneIs (EachSpelled SpellsSymbol (texts (take (length parts - 4) (drop 4 parts)))) e → NoneIs (IsProdRow (texts parts)) e
no_symbols parts e le n = none_of (EachSpelled SpellsSymbol (texts (take (length parts - 4) (drop 4 parts)))) (IsProdRow (texts parts)) e (symbols_in parts le) n

names_in : (parts : List (Bor (List ℕ))) → 1 ≤ length parts → (y : PlainLine) → IsPlainRow (texts parts) y → (x : List (List ℕ)) × EachSpelled IsVariable (texts (take (length parts - 1) (drop 1 parts))) x
names_in parts le y h = (y.names.items, subst (λ x. EachSpelled IsVariable x y.names.items) (one_off parts _ h.names le h.parts_are) h.names_are)

pub no_names : (parts : List (Bor (List ℕ))) (e : RowError) → 1 ≤ length parts → NoneIs (EachSpelled IsVariable (texts (take (length parts - 1) (drop 1 parts)))) e → NoneIs (IsPlainRow (texts parts)) e
no_names parts e le n = none_of (EachSpelled IsVariable (texts (take (length parts - 1) (drop 1 parts)))) (IsPlainRow (texts parts)) e (names_in parts le) n
