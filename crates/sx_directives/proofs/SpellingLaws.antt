-- How names, literals, sorts and symbols are spelled.
use Rattle.std.proofs.Common.{◌≡◌, ◌≢◌, ℕ, zero, suc, ◌+◌, ◌<◌, ◌≤◌, Bool, true, false, leb, ◌&&◌, List, [], ◌∷◌, ◌++◌, length, get_or, take, drop, Option, Some, None, Result, Ok, Err, refl, sym, ap, subst, ◌∙◌, arith, inl, inr}
use Rattle.std.specs.Prelude.{MatchOption, MatchResult}
use Rattle.std.specs.Borrow.{Bor}
use Rattle.std.specs.Option.{option_copied}
use Rattle.std.proofs.lemmas.List.{drop_more, drop-drop, take_all, take-append-drop}
use Rattle.std.specs.List.{list_all}
use Rattle.std.specs.Char.{is_ascii_alphabetic}
use Rattle.std.proofs.lemmas.Bool.{and_parts}
use Rattle.std.proofs.lemmas.Bool.Decides.{nat_tests}
use Rattle.sx_lines.specs.Words.{is_name, is_name_byte, after, number_within}
use Rattle.sx_lines.proofs.WordLaws.{after_front, front_of}
use Rattle.sx_lines.proofs.Utf8Laws.{name_utf8}
use Rattle.sx_directives.specs.Spelling.{NoneIs, IsModuleName, IsModuleNamed, IsName, IsSpelledName}
use Rattle.sx_directives.specs.Spelling.{IsTextOf, NoAt, NotLexical, SpellsSort, IsLevelled}
use Rattle.sx_directives.specs.Spelling.{IsQuoted, SpellsSymbol, EachSpelled}
use Rattle.sx_grammar.specs.Parts.{texts}
use Rattle.sx_grammar.specs.declared.symbol.Symbol.{Symbol}
use Rattle.sx_grammar.specs.declared.symbol.Symbol.TheVariants.{Lit, Lex as LexSymbol, Part}
use Rattle.sx_directives.specs.declared.row_error.RowError.{RowError}
use Rattle.sx_directives.specs.declared.row_error.RowError.TheVariants.{Memory, Shape}
use Rattle.sx_directives.specs.declared.spelled.SpelledSort.{SpelledSort}
use Rattle.sx_directives.specs.declared.spelled.SpelledSort.TheVariants.{Lex, Named}

-- where each value of one kind would be one of the other kind, and there is none of that
pub none_of : {A B : Type 0} (P : A → Type 0) (Q : B → Type 0) (e : RowError) → ((y : B) → Q y → (x : A) × P x) → NoneIs P e → NoneIs Q e
none_of P Q Memory f n = tt
none_of P Q Shape f n = λ y q. let w = f y q in n w.0 w.1

pub after_cases : (front text : List ℕ) (r : Option (Bor (List ℕ))) → option_copied r ≡ after front text → MatchOption r ((rest : List ℕ) → text ≡ front ++ rest → ⊥) (λ rest. text ≡ front ++ rest.now)
after_cases front text None e = λ rest q.
    let k : Some rest ≡ None = sym (after_front front rest) ∙ ap (after front) (sym q) ∙ sym e in
    cc
after_cases front text (Some r) e = front_of front text r.now (sym e)

pub named_text : (part : List ℕ) (r : Result (List ℕ) RowError) → is_name true part ≡ true → MatchResult r (IsTextOf part) (NoneIs (IsTextOf part)) → MatchResult r (IsSpelledName part) (NoneIs (IsSpelledName part))
named_text part (Ok text) e h = (h.0, subst IsName h.0 e)
named_text part (Err x) e h = none_of (IsTextOf part) (IsSpelledName part) x (λ name n. (name, (n.0, name_utf8 true name n.1))) h

pub module_text : (part : List ℕ) (r : Result (List ℕ) RowError) → is_name false part ≡ true → MatchResult r (IsTextOf part) (NoneIs (IsTextOf part)) → MatchResult r (IsModuleNamed part) (NoneIs (IsModuleNamed part))
module_text part (Ok text) e h = (h.0, subst IsModuleName h.0 e)
module_text part (Err x) e h = none_of (IsTextOf part) (IsModuleNamed part) x (λ name n. (name, (n.0, name_utf8 false name n.1))) h

-- ---- the sign before a level

no_at-take : (text : List ℕ) (n : ℕ) → ((k : ℕ) → k < n → get_or text k 0 ≢ 64) → n ≤ length text → NoAt (take n text)
no_at-take text zero h le = tt
no_at-take [] (suc n) h le = absurd (omega arith)
no_at-take (b ∷ text) (suc n) h le = (h 0 (omega arith), no_at-take text n (λ k lt. h (suc k) (omega arith)) (omega arith))

pub no_at-all : (text : List ℕ) → ((k : ℕ) → k < length text → get_or text k 0 ≢ 64) → NoAt text
no_at-all text h = subst (λ (x : List ℕ). NoAt x) (take_all (length text) text (omega arith)) (no_at-take text (length text) h (omega arith))

pub cut_at_sign : (text : List ℕ) (at : ℕ) (name rest digits : List ℕ) → ((k : ℕ) → k < at → get_or text k 0 ≢ 64) → at < length text → get_or text at 0 ≡ 64
    → name ≡ take at text → rest ≡ drop at text → digits ≡ drop 1 rest → (text ≡ name ++ 64 ∷ digits) × NoAt name
cut_at_sign text at name rest digits h lt e f g k =
    let d : digits ≡ drop (at + 1) text = k ∙ ap (λ (x : List ℕ). drop 1 x) g ∙ drop-drop 1 at text in
    let whole : text ≡ take at text ++ 64 ∷ drop (at + 1) text = sym (take-append-drop at text) ∙ ap (λ (x : List ℕ). take at text ++ x) (drop_more text at 0 lt ∙ ap (λ (b : ℕ). b ∷ drop (at + 1) text) e) in
    (whole ∙ ap (λ (x : List ℕ). x ++ 64 ∷ drop (at + 1) text) (sym f) ∙ ap (λ (x : List ℕ). name ++ 64 ∷ x) (sym d), subst (λ (x : List ℕ). NoAt x) (sym f) (no_at-take text at h (omega arith)))

-- ---- sorts

tail_same : (a b : ℕ) (x y : List ℕ) → a ∷ x ≡ b ∷ y → x ≡ y
tail_same a b x y e = cc

head_same : (a b : ℕ) (x y : List ℕ) → a ∷ x ≡ b ∷ y → a ≡ b
head_same a b x y e = cc

nothing_is : (b : ℕ) (x : List ℕ) → [] ≡ b ∷ x → ⊥
nothing_is b x e = cc

-- no name has the sign
at_in_name : (name digits rest : List ℕ) → NoAt rest → rest ≡ name ++ 64 ∷ digits → ⊥
at_in_name [] digits [] h e = nothing_is 64 digits e
at_in_name [] digits (b ∷ rest) h e = h.0 (head_same b 64 rest digits e)
at_in_name (c ∷ name) digits [] h e = nothing_is c (name ++ 64 ∷ digits) e
at_in_name (c ∷ name) digits (b ∷ rest) h e = at_in_name name digits rest h.1 (tail_same b c rest (name ++ 64 ∷ digits) e)

-- a text is cut at its first sign in one way
one_cut : (n m x y : List ℕ) → NoAt n → NoAt m → n ++ 64 ∷ x ≡ m ++ 64 ∷ y → (n ≡ m) × (x ≡ y)
one_cut [] [] x y h k e = (refl, tail_same 64 64 x y e)
one_cut [] (b ∷ m) x y h k e = absurd (k.0 (sym (head_same 64 b x (m ++ 64 ∷ y) e)))
one_cut (a ∷ n) [] x y h k e = absurd (h.0 (head_same a 64 (n ++ 64 ∷ x) y e))
one_cut (a ∷ n) (b ∷ m) x y h k e =
    let q = one_cut n m x y h.1 k.1 (tail_same a b (n ++ 64 ∷ x) (m ++ 64 ∷ y) e) in
    (ap (λ (z : List ℕ). a ∷ z) q.0 ∙ ap (λ (c : ℕ). c ∷ m) (head_same a b (n ++ 64 ∷ x) (m ++ 64 ∷ y) e), q.1)

no_at_byte : (dash : Bool) (c : ℕ) → is_name_byte dash c ≡ true → c ≢ 64
no_at_byte true c e = grind (arith, nat_tests)
no_at_byte false c e = grind (arith, nat_tests)

no_at_letter : (c : ℕ) → is_ascii_alphabetic c ≡ true → c ≢ 64
no_at_letter c e = grind (arith, nat_tests)

no_at_bytes : (text : List ℕ) → list_all (is_name_byte true) text ≡ true → NoAt text
no_at_bytes [] h = tt
no_at_bytes (c ∷ cs) h =
    let p = and_parts (is_name_byte true c) (list_all (is_name_byte true) cs) h in
    (no_at_byte true c p.0, no_at_bytes cs p.1)

-- a name has no sign
pub no_at_name : (name : List ℕ) → is_name true name ≡ true → NoAt name
unfolding is_name
no_at_name [] h = tt
no_at_name (c ∷ cs) h =
    let p = and_parts (is_ascii_alphabetic c && leb (length cs) 63) (list_all (is_name_byte true) cs) h in
    let q = and_parts (is_ascii_alphabetic c) (leb (length cs) 63) p.0 in
    (no_at_letter c q.0, no_at_bytes cs p.1)

level_in : (part name digits : List ℕ) → NotLexical part → part ≡ name ++ 64 ∷ digits → NoAt name → (y : SpelledSort) → SpellsSort part y → (x : SpelledSort) × IsLevelled name digits x
level_in part name digits n e h (Lex kind) s = absurd (n kind s)
level_in part name digits n e h (Named sort least) (named, inl alone) = absurd (at_in_name name digits sort (no_at_name sort named) (sym alone.part_is ∙ e))
level_in part name digits n e h (Named sort least) (named, inr level) =
    let q = one_cut name sort digits level.digits h (no_at_name sort named) (sym e ∙ level.part_is) in
    (Named sort least, ((q.0, named), ap (number_within 99) q.1 ∙ level.level))

pub sort_levelled : (part name digits : List ℕ) (r : Result SpelledSort RowError) → NotLexical part → (part ≡ name ++ 64 ∷ digits) × NoAt name
    → MatchResult r (IsLevelled name digits) (NoneIs (IsLevelled name digits)) → MatchResult r (SpellsSort part) (NoneIs (SpellsSort part))
sort_levelled part name digits (Ok (Lex kind)) n c h = absurd h
sort_levelled part name digits (Ok (Named sort least)) n c h =
    (h.0.1, inr (record { digits = digits; part_is = c.0 ∙ ap (λ (x : List ℕ). x ++ 64 ∷ digits) h.0.0; level = h.1 }))
sort_levelled part name digits (Err e) n c h = none_of (IsLevelled name digits) (SpellsSort part) e (level_in part name digits n c.0 c.1) h

name_in : (part : List ℕ) → NotLexical part → NoAt part → (y : SpelledSort) → SpellsSort part y → (x : List ℕ) × IsSpelledName part x
name_in part n h (Lex kind) s = absurd (n kind s)
name_in part n h (Named sort least) (named, inl alone) = (sort, (alone.part_is, named))
name_in part n h (Named sort least) (named, inr level) = absurd (at_in_name sort level.digits part h level.part_is)

pub sort_unnamed : (part : List ℕ) (e : RowError) → NotLexical part → NoAt part → NoneIs (IsSpelledName part) e → NoneIs (SpellsSort part) e
sort_unnamed part e n h k = none_of (IsSpelledName part) (SpellsSort part) e (name_in part n h) k

-- ---- symbols

sort_in : (part : List ℕ) → ((text : List ℕ) → IsQuoted part text → ⊥) → (y : Symbol) → SpellsSymbol part y → (x : SpelledSort) × SpellsSort part x
sort_in part n (Lit text) s = absurd (n text s)
sort_in part n (LexSymbol kind) s = (Lex kind, s)
sort_in part n (Part sort least) s = (Named sort least, s)

pub symbol_none : (part : List ℕ) (e : RowError) → ((text : List ℕ) → IsQuoted part text → ⊥) → NoneIs (SpellsSort part) e → NoneIs (SpellsSymbol part) e
symbol_none part e n h = none_of (SpellsSort part) (SpellsSymbol part) e (sort_in part n) h

-- ---- parts behind references

-- the part with this number
abbrev pub at : List (Bor (List ℕ)) → ℕ → List ℕ
at parts k = (get_or parts k (record { ref_ptr = (0, 0); now = [] })).now

texts_length : (parts : List (Bor (List ℕ))) → length (texts parts) ≡ length parts
texts_length [] = refl
texts_length (p ∷ parts) = ap suc (texts_length parts)

each_one : {S : Type 0} (R : List ℕ → S → Type 0) (parts : List (Bor (List ℕ))) (i : ℕ) (so_far : List S) (s : S) → i < length parts
    → EachSpelled R (take i (texts parts)) so_far → R (at parts i) s → EachSpelled R (take (suc i) (texts parts)) (so_far ++ s ∷ [])
each_one R [] i so_far s lt h r = absurd (omega arith)
each_one R (p ∷ parts) zero [] s lt h r = (r, tt)
each_one R (p ∷ parts) zero (x ∷ so_far) s lt h r = absurd h
each_one R (p ∷ parts) (suc i) [] s lt h r = absurd h
each_one R (p ∷ parts) (suc i) (x ∷ so_far) s lt h r = (h.0, each_one R parts i so_far s (omega arith) h.1 r)

pub each_more : {S : Type 0} (R : List ℕ → S → Type 0) (parts : List (Bor (List ℕ))) (i : ℕ) (so_far new : List S) (s : S) → i < length parts → new ≡ so_far ++ s ∷ []
    → EachSpelled R (take i (texts parts)) so_far → R (at parts i) s → EachSpelled R (take (i + 1) (texts parts)) new
each_more R parts i so_far new s lt e h r =
    let next : suc i ≡ i + 1 = omega arith in
    subst (λ (k : ℕ). EachSpelled R (take k (texts parts)) new) next (subst (λ x. EachSpelled R (take (suc i) (texts parts)) x) (sym e) (each_one R parts i so_far s lt h r))

each_at : {S : Type 0} (R : List ℕ → S → Type 0) (parts : List (Bor (List ℕ))) (i : ℕ) → i < length parts → (all : List S) → EachSpelled R (texts parts) all → (s : S) × R (at parts i) s
each_at R [] i lt all h = absurd (omega arith)
each_at R (p ∷ parts) i lt [] h = absurd h
each_at R (p ∷ parts) zero lt (x ∷ all) h = (x, h.0)
each_at R (p ∷ parts) (suc i) lt (x ∷ all) h = each_at R parts i (omega arith) all h.1

pub each_none : {S : Type 0} (R : List ℕ → S → Type 0) (parts : List (Bor (List ℕ))) (i : ℕ) (e : RowError) → i < length parts → NoneIs (R (at parts i)) e → NoneIs (EachSpelled R (texts parts)) e
each_none R parts i e lt h = none_of (R (at parts i)) (EachSpelled R (texts parts)) e (each_at R parts i lt) h

pub each_done : {S : Type 0} (R : List ℕ → S → Type 0) (parts : List (Bor (List ℕ))) (i : ℕ) (all : List S) → length parts ≤ i → EachSpelled R (take i (texts parts)) all → EachSpelled R (texts parts) all
each_done R parts i all le h =
    let len = texts_length parts in
    subst (λ (x : List (List ℕ)). EachSpelled R x all) (take_all i (texts parts) (omega arith)) h
