-- A part spells one thing.
use Rattle.std.proofs.Common.{◌≡◌, ◌≢◌, ℕ, Bool, true, false, leb, ◌&&◌, List, [], ◌∷◌, ◌++◌, length, Some, refl, sym, ap, subst, ◌∙◌, arith, inl, inr}
use Rattle.std.specs.List.{list_all}
use Rattle.std.specs.Char.{is_ascii_alphabetic}
use Rattle.std.proofs.lemmas.Bool.{and_parts, false≢true}
use Rattle.std.proofs.lemmas.Bool.Decides.{nat_tests}
use Rattle.sx_term.specs.declared.lex_kind.LexKind.{LexKind}
use Rattle.sx_term.specs.declared.lex_kind.LexKind.TheVariants.{Id, Num, Str}
use Rattle.sx_term.specs.declared.role.Role.{Role}
use Rattle.sx_term.specs.declared.role.Role.TheVariants.{In, Sub, Out}
use Rattle.sx_lines.specs.Words.{is_name, is_name_byte, number_within}
use Rattle.sx_grammar.specs.declared.symbol.Symbol.{Symbol}
use Rattle.sx_grammar.specs.declared.symbol.Symbol.TheVariants.{Lit, Lex, Part}
use Rattle.sx_directives.specs.Spelling.{IsName, IsQuoted, NoAt, SpellsSort, SpellsSymbol}
use Rattle.sx_directives.specs.Spelling.{SpellsForm, EachSpelled, lex_text, role_text}
use Rattle.sx_directives.specs.declared.spelled.SpelledSort.{SpelledSort}
use Rattle.sx_directives.specs.declared.spelled.SpelledSort.TheVariants.{Lex as Lexical, Named}
use Rattle.sx_directives.specs.declared.spelled.FormSymbol.{FormSymbol}
use Rattle.sx_directives.specs.declared.spelled.FormSymbol.TheVariants.{Lit as FormLit, Place}

-- ---- lists of bytes

abbrev first : List ℕ → ℕ
first [] = 0
first (b ∷ bytes) = b

tail_same : (a b : ℕ) (x y : List ℕ) → a ∷ x ≡ b ∷ y → x ≡ y
tail_same a b x y e = cc

head_same : (a b : ℕ) (x y : List ℕ) → a ∷ x ≡ b ∷ y → a ≡ b
head_same a b x y e = cc

nothing_is : (b : ℕ) (x : List ℕ) → [] ≡ b ∷ x → ⊥
nothing_is b x e = cc

no_end : (y : List ℕ) (c : ℕ) → [] ≡ y ++ c ∷ [] → ⊥
no_end [] c e = nothing_is c [] e
no_end (b ∷ y) c e = nothing_is b (y ++ c ∷ []) e

-- texts with the same byte at their ends are equal
front_same : (x y : List ℕ) (c : ℕ) → x ++ c ∷ [] ≡ y ++ c ∷ [] → x ≡ y
front_same [] [] c e = refl
front_same [] (b ∷ y) c e = absurd (no_end y c (tail_same c b [] (y ++ c ∷ []) e))
front_same (a ∷ x) [] c e = absurd (no_end x c (sym (tail_same a c (x ++ c ∷ []) [] e)))
front_same (a ∷ x) (b ∷ y) c e =
    ap (λ (z : List ℕ). a ∷ z) (front_same x y c (tail_same a b (x ++ c ∷ []) (y ++ c ∷ []) e)) ∙ ap (λ (d : ℕ). d ∷ y) (head_same a b (x ++ c ∷ []) (y ++ c ∷ []) e)

-- ---- names

letter_no_quote : (c : ℕ) → is_ascii_alphabetic c ≡ true → c ≢ 34
letter_no_quote c e = grind (arith, nat_tests)

name_first : (name : List ℕ) → IsName name → is_ascii_alphabetic (first name) ≡ true
unfolding is_name
name_first [] h = absurd (false≢true h)
name_first (c ∷ cs) h =
    let p = and_parts (is_ascii_alphabetic c && leb (length cs) 63) (list_all (is_name_byte true) cs) h in
    (and_parts (is_ascii_alphabetic c) (leb (length cs) 63) p.0).0

first_front : (name more : List ℕ) → IsName name → first (name ++ more) ≡ first name
unfolding is_name
first_front [] more h = absurd (false≢true h)
first_front (c ∷ cs) more h = refl

no_at_byte : (dash : Bool) (c : ℕ) → is_name_byte dash c ≡ true → c ≢ 64
no_at_byte true c e = grind (arith, nat_tests)
no_at_byte false c e = grind (arith, nat_tests)

no_at_letter : (c : ℕ) → is_ascii_alphabetic c ≡ true → c ≢ 64
no_at_letter c e = grind (arith, nat_tests)

no_at_bytes : (text : List ℕ) → list_all (is_name_byte true) text ≡ true → NoAt text
no_at_bytes [] h = tt
no_at_bytes (c ∷ cs) h =
    let p = and_parts (is_name_byte true c) (list_all (is_name_byte true) cs) h in
    (no_at_byte true c p.0, no_at_bytes cs p.1)

no_at_name : (name : List ℕ) → IsName name → NoAt name
unfolding is_name
no_at_name [] h = tt
no_at_name (c ∷ cs) h =
    let p = and_parts (is_ascii_alphabetic c && leb (length cs) 63) (list_all (is_name_byte true) cs) h in
    let q = and_parts (is_ascii_alphabetic c) (leb (length cs) 63) p.0 in
    (no_at_letter c q.0, no_at_bytes cs p.1)

-- no name has the sign
at_in_name : (name digits rest : List ℕ) → NoAt rest → rest ≡ name ++ 64 ∷ digits → ⊥
at_in_name [] digits [] h e = nothing_is 64 digits e
at_in_name [] digits (b ∷ rest) h e = h.0 (head_same b 64 rest digits e)
at_in_name (c ∷ name) digits [] h e = nothing_is c (name ++ 64 ∷ digits) e
at_in_name (c ∷ name) digits (b ∷ rest) h e = at_in_name name digits rest h.1 (tail_same b c rest (name ++ 64 ∷ digits) e)

-- a text is cut at its first sign in one way
one_cut : (n m x y : List ℕ) → NoAt n → NoAt m → n ++ 64 ∷ x ≡ m ++ 64 ∷ y → (n ≡ m) × (x ≡ y)
one_cut [] [] x y h k e = (refl, tail_same 64 64 x y e)
one_cut [] (b ∷ m) x y h k e = absurd (k.0 (sym (head_same 64 b x (m ++ 64 ∷ y) e)))
one_cut (a ∷ n) [] x y h k e = absurd (h.0 (head_same a 64 (n ++ 64 ∷ x) y e))
one_cut (a ∷ n) (b ∷ m) x y h k e =
    let q = one_cut n m x y h.1 k.1 (tail_same a b (n ++ 64 ∷ x) (m ++ 64 ∷ y) e) in
    (ap (λ (z : List ℕ). a ∷ z) q.0 ∙ ap (λ (c : ℕ). c ∷ m) (head_same a b (n ++ 64 ∷ x) (m ++ 64 ∷ y) e), q.1)

no_at_lexical : (kind : LexKind) → NoAt (lex_text kind)
no_at_lexical Id = ((omega arith), ((omega arith), tt))
no_at_lexical Num = ((omega arith), ((omega arith), ((omega arith), tt)))
no_at_lexical Str = ((omega arith), ((omega arith), ((omega arith), tt)))

-- ---- sorts

some_same : (x y : ℕ) → Some x ≡ Some y → x ≡ y
some_same x y e = cc

kind_told : (a b : LexKind) → first (lex_text a) ≡ first (lex_text b) → a ≡ b
kind_told Id Id e = refl
kind_told Num Num e = refl
kind_told Str Str e = refl
kind_told Id Num e = absurd (omega (arith, e))
kind_told Id Str e = absurd (omega (arith, e))
kind_told Num Id e = absurd (omega (arith, e))
kind_told Num Str e = absurd (omega (arith, e))
kind_told Str Id e = absurd (omega (arith, e))
kind_told Str Num e = absurd (omega (arith, e))

named_is : (a b : List ℕ) (l m : ℕ) → a ≡ b → l ≡ m → Named a l ≡ Named b m
named_is a b l m e f = ap (λ (x : List ℕ). Named x l) e ∙ ap (λ (n : ℕ). Named b n) f

pub one_sort : (part : List ℕ) (a b : SpelledSort) → SpellsSort part a → SpellsSort part b → a ≡ b
one_sort part (Lexical k) (Lexical l) h g = ap Lexical (kind_told k l (ap first (sym h ∙ g)))
one_sort part (Lexical k) (Named s m) h (named, inl alone) = absurd (alone.named k (sym alone.part_is ∙ h))
one_sort part (Lexical k) (Named s m) h (named, inr level) = absurd (at_in_name s level.digits (lex_text k) (no_at_lexical k) (sym h ∙ level.part_is))
one_sort part (Named s m) (Lexical k) (named, inl alone) h = absurd (alone.named k (sym alone.part_is ∙ h))
one_sort part (Named s m) (Lexical k) (named, inr level) h = absurd (at_in_name s level.digits (lex_text k) (no_at_lexical k) (sym h ∙ level.part_is))
one_sort part (Named s m) (Named t n) (named, inl alone) (other, inl single) = named_is s t m n (sym alone.part_is ∙ single.part_is) (alone.level ∙ sym single.level)
one_sort part (Named s m) (Named t n) (named, inl alone) (other, inr level) = absurd (at_in_name t level.digits s (no_at_name s named) (sym alone.part_is ∙ level.part_is))
one_sort part (Named s m) (Named t n) (named, inr level) (other, inl alone) = absurd (at_in_name s level.digits t (no_at_name t other) (sym alone.part_is ∙ level.part_is))
one_sort part (Named s m) (Named t n) (named, inr level) (other, inr second) =
    let q = one_cut s t level.digits second.digits (no_at_name s named) (no_at_name t other) (sym level.part_is ∙ second.part_is) in
    named_is s t m n q.0 (some_same m n (sym level.level ∙ ap (number_within 99) q.1 ∙ second.level))

-- ---- symbols

pub one_quoted : (part x y : List ℕ) → IsQuoted part x → IsQuoted part y → x ≡ y
one_quoted part x y h k = front_same x y 34 (tail_same 34 34 (x ++ 34 ∷ []) (y ++ 34 ∷ []) (sym h.quotes ∙ k.quotes))

-- what spells a sort begins with no quote
sort_no_quote : (part text : List ℕ) (s : SpelledSort) → SpellsSort part s → IsQuoted part text → ⊥
sort_no_quote part text (Lexical Id) h q = (let e : first (lex_text Id) ≡ 34 = ap first (sym h ∙ q.quotes) in omega arith)
sort_no_quote part text (Lexical Num) h q = (let e : first (lex_text Num) ≡ 34 = ap first (sym h ∙ q.quotes) in omega arith)
sort_no_quote part text (Lexical Str) h q = (let e : first (lex_text Str) ≡ 34 = ap first (sym h ∙ q.quotes) in omega arith)
sort_no_quote part text (Named s m) (named, inl alone) q = letter_no_quote (first s) (name_first s named) (ap first (sym alone.part_is ∙ q.quotes))
sort_no_quote part text (Named s m) (named, inr level) q = letter_no_quote (first s) (name_first s named) (sym (first_front s (64 ∷ level.digits) named) ∙ ap first (sym level.part_is ∙ q.quotes))

abbrev symbol_of : SpelledSort → Symbol
symbol_of (Lexical kind) = Lex kind
symbol_of (Named sort least) = Part sort least

pub one_symbol : (part : List ℕ) (a b : Symbol) → SpellsSymbol part a → SpellsSymbol part b → a ≡ b
one_symbol part (Lit x) (Lit y) h k = ap Lit (one_quoted part x y h k)
one_symbol part (Lit x) (Lex k) h g = absurd (sort_no_quote part x (Lexical k) g h)
one_symbol part (Lit x) (Part s m) h g = absurd (sort_no_quote part x (Named s m) g h)
one_symbol part (Lex k) (Lit x) g h = absurd (sort_no_quote part x (Lexical k) g h)
one_symbol part (Part s m) (Lit x) g h = absurd (sort_no_quote part x (Named s m) g h)
one_symbol part (Lex k) (Lex l) h g = ap symbol_of (one_sort part (Lexical k) (Lexical l) h g)
one_symbol part (Lex k) (Part s m) h g = ap symbol_of (one_sort part (Lexical k) (Named s m) h g)
one_symbol part (Part s m) (Lex k) h g = ap symbol_of (one_sort part (Named s m) (Lexical k) h g)
one_symbol part (Part s m) (Part t n) h g = ap symbol_of (one_sort part (Named s m) (Named t n) h g)

role_no_quote : (role : Role) (rest text : List ℕ) → IsQuoted (role_text role ++ rest) text → ⊥
role_no_quote In rest text q = (let e : first (role_text In) ≡ 34 = ap first q.quotes in omega arith)
role_no_quote Sub rest text q = (let e : first (role_text Sub) ≡ 34 = ap first q.quotes in omega arith)
role_no_quote Out rest text q = (let e : first (role_text Out) ≡ 34 = ap first q.quotes in omega arith)

one_role : (r s : Role) (x y : List ℕ) → role_text r ++ x ≡ role_text s ++ y → (r ≡ s) × (x ≡ y)
one_role In In x y e = (refl, cc)
one_role Sub Sub x y e = (refl, cc)
one_role Out Out x y e = (refl, cc)
one_role In Sub x y e = absurd (let f : first (role_text In) ≡ first (role_text Sub) = ap first e in omega arith)
one_role In Out x y e = absurd (let f : first (role_text In) ≡ first (role_text Out) = ap first e in omega arith)
one_role Sub In x y e = absurd (let f : first (role_text Sub) ≡ first (role_text In) = ap first e in omega arith)
one_role Sub Out x y e = absurd (let f : first (role_text Sub) ≡ first (role_text Out) = ap first e in omega arith)
one_role Out In x y e = absurd (let f : first (role_text Out) ≡ first (role_text In) = ap first e in omega arith)
one_role Out Sub x y e = absurd (let f : first (role_text Out) ≡ first (role_text Sub) = ap first e in omega arith)

pub one_form_symbol : (part : List ℕ) (a b : FormSymbol) → SpellsForm part a → SpellsForm part b → a ≡ b
one_form_symbol part (FormLit x) (FormLit y) h k = ap FormLit (one_quoted part x y h k)
one_form_symbol part (FormLit x) (Place r s) h g = absurd (role_no_quote r g.rest x (subst (λ (z : List ℕ). IsQuoted z x) g.part_is h))
one_form_symbol part (Place r s) (FormLit x) g h = absurd (role_no_quote r g.rest x (subst (λ (z : List ℕ). IsQuoted z x) g.part_is h))
one_form_symbol part (Place r s) (Place q t) h g =
    let w = one_role r q h.rest g.rest (sym h.part_is ∙ g.part_is) in
    let same : s ≡ t = one_sort h.rest s t h.sort_is (subst (λ (z : List ℕ). SpellsSort z t) (sym w.1) g.sort_is) in
    ap (λ (x : Role). Place x s) w.0 ∙ ap (λ (x : SpelledSort). Place q x) same

pub each_same : {S : Type 0} (R : List ℕ → S → Type 0) → ((part : List ℕ) (a b : S) → R part a → R part b → a ≡ b) → (parts : List (List ℕ)) (xs ys : List S) → EachSpelled R parts xs → EachSpelled R parts ys → xs ≡ ys
each_same R f [] [] [] h k = refl
each_same R f [] [] (y ∷ ys) h k = absurd k
each_same R f [] (x ∷ xs) ys h k = absurd h
each_same R f (part ∷ parts) [] ys h k = absurd h
each_same R f (part ∷ parts) (x ∷ xs) [] h k = absurd k
each_same {S} R f (part ∷ parts) (x ∷ xs) (y ∷ ys) h k =
    ap (λ (z : S). z ∷ xs) (f part x y h.0 k.0) ∙ ap (λ (z : List S). y ∷ z) (each_same R f parts xs ys h.1 k.1)
