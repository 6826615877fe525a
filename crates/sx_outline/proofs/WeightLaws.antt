-- How much rows declare.
use Rattle.std.proofs.Common.{◌≡◌, ℕ, zero, suc, ◌+◌, ◌≤◌, List, [], ◌∷◌, ◌++◌, length, Option, Some, None, refl, ap, subst, ◌∙◌, inl, inr, arith}
use Rattle.std.specs.Prelude.{flat_map, Contains}
use Rattle.std.specs.List.{AllByRecursion}
use Rattle.std.proofs.lemmas.List.{length-append}
use Rattle.sx_lines.specs.Words.{number_within}
use Rattle.sx_lines.proofs.DecimalLaws.{number_spelled}
use Rattle.sx_grammar.specs.Parts.{Line, line, literals, bracket_literals, symbol_literals}
use Rattle.sx_grammar.specs.Tables.{HasGoodLevels}
use Rattle.sx_grammar.specs.declared.sort_line.SortLine.{SortLine}
use Rattle.sx_grammar.specs.declared.symbol.Symbol.{Symbol}
use Rattle.sx_grammar.specs.declared.symbol.Symbol.TheVariants.{Lit, Lex, Part}
use Rattle.sx_directives.specs.Parts as directives
use Rattle.sx_directives.specs.Spelling.{IsName, SpellsSymbol, SpellsSort, SpellsForm, EachSpelled}
use Rattle.sx_directives.specs.Rows.{IsRow, IsSortRow, IsProdRow, AreBrackets}
use Rattle.sx_directives.specs.declared.spelled.SpelledSort.TheVariants.{Lex as Lexical, Named}
use Rattle.sx_directives.specs.declared.spelled.FormSymbol.{FormSymbol}
use Rattle.sx_directives.specs.declared.spelled.FormSymbol.TheVariants.{Lit as FormLit, Place}
use Rattle.sx_directives.specs.declared.file_kind.FileKind.{FileKind}
use Rattle.sx_directives.specs.declared.row.Row.{Row}
use Rattle.sx_directives.specs.declared.row.Row.TheVariants.{Sort, Prod, Var, Form, Main}
use Rattle.sx_outline.specs.Declarations.{Declared, DeclaredForm, declared_form, declare}
use Rattle.sx_outline.specs.Declarations.{declared_parts}
use Rattle.sx_outline.specs.Sized.{HaveGoodLevels, HasName}

-- ---- lists

pub all_push : {X : Type 0} (P : X → Type 0) (xs : List X) (x : X) → AllByRecursion P xs → P x → AllByRecursion P (xs ++ x ∷ [])
all_push P [] x h k = (k, tt)
all_push P (y ∷ xs) x h k = (h.0, all_push P xs x h.1 k)

pub all_weaker : {X : Type 0} (P Q : X → Type 0) → ((x : X) → P x → Q x) → (xs : List X) → AllByRecursion P xs → AllByRecursion Q xs
all_weaker P Q f [] h = tt
all_weaker P Q f (x ∷ xs) h = (f x h.0, all_weaker P Q f xs h.1)

pub all_in : {X : Type 0} (P : X → Type 0) (xs : List X) (x : X) → AllByRecursion P xs → Contains xs x → P x
all_in P [] x all (k, h, e) = absurd (omega (arith, h))
all_in P (y ∷ xs) x all (zero, h, e) = subst P e all.0
all_in P (y ∷ xs) x all (suc k, h, e) = all_in P xs x all.1 (k, omega (arith, h), e)

pushed : {X : Type 0} (xs : List X) (x : X) → length (xs ++ x ∷ []) ≡ length xs + 1
pushed xs x = length-append xs (x ∷ [])

flat_pushed : {X A : Type 0} (f : X → List A) (xs : List X) (x : X) → length (flat_map f (xs ++ x ∷ [])) ≡ length (flat_map f xs) + length (f x)
flat_pushed f [] x = length-append (f x) [] ∙ zero_off (length (f x))
  where
    zero_off : (n : ℕ) → n + 0 ≡ 0 + n
    zero_off n = omega arith
flat_pushed f (y ∷ xs) x =
    let e = flat_pushed f xs x in
    let a = length-append (f y) (flat_map f (xs ++ x ∷ [])) in
    let b = length-append (f y) (flat_map f xs) in
    omega arith

-- ---- how much is declared

brackets_of : SortLine → List (List ℕ)
brackets_of s = bracket_literals s.brackets

literals_in : Line → List (List ℕ)
literals_in r = flat_map symbol_literals r.symbols

pub weight : Declared → ℕ
weight d = length d.sorts + length d.productions + length d.vars + length d.forms + (length (literals (declared_parts d)) + length (flat_map (λ f. f.symbols) d.forms))

pub weight_is : (d : Declared)
    → weight d ≡ length d.sorts + length d.productions + length d.vars + length d.forms + (length (literals (declared_parts d)) + length (flat_map (λ f. f.symbols) d.forms))
unfolding weight
weight_is d = refl

pub literals_many : (d : Declared) → length (literals (declared_parts d)) ≡ length (flat_map (λ s. bracket_literals s.brackets) d.sorts) + length (flat_map (λ r. flat_map symbol_literals r.symbols) d.productions)
literals_many d = length-append (flat_map (λ s. bracket_literals s.brackets) d.sorts) (flat_map (λ r. flat_map symbol_literals r.symbols) d.productions)

bracket_few : (parts : List (List ℕ)) (pair : Option (List ℕ × List ℕ)) → AreBrackets parts pair → length (bracket_literals pair) ≤ length parts
bracket_few [] None h = omega arith
bracket_few [] (Some pair) h = absurd h
bracket_few (a ∷ []) None h = absurd h
bracket_few (a ∷ []) (Some pair) h = absurd h
bracket_few (a ∷ b ∷ []) None h = absurd h
bracket_few (a ∷ b ∷ []) (Some pair) h = omega arith
bracket_few (a ∷ b ∷ c ∷ parts) None h = absurd h
bracket_few (a ∷ b ∷ c ∷ parts) (Some pair) h = absurd h

spelled_few : {S : Type 0} (R : List ℕ → S → Type 0) (parts : List (List ℕ)) (symbols : List S) → EachSpelled R parts symbols → length symbols ≤ length parts
spelled_few R [] [] h = omega arith
spelled_few R [] (s ∷ symbols) h = absurd h
spelled_few R (p ∷ parts) [] h = omega arith
spelled_few R (p ∷ parts) (s ∷ symbols) h = let k = spelled_few R parts symbols h.1 in omega arith

literal_few : (symbols : List Symbol) → length (flat_map symbol_literals symbols) ≤ length symbols
literal_few [] = omega arith
literal_few (Lit text ∷ symbols) = let k = literal_few symbols in omega arith
literal_few (Lex kind ∷ symbols) = let k = literal_few symbols in omega arith
literal_few (Part sort least ∷ symbols) = let k = literal_few symbols in omega arith

sort_weighs : (d : Declared) (parts : List (List ℕ)) (s : SortLine) → IsSortRow parts s → weight (declare d (Sort s)) ≤ weight d + length parts
unfolding weight
sort_weighs d parts s h =
    let a = pushed d.sorts s in
    let b = flat_pushed (λ (s : SortLine). bracket_literals s.brackets) d.sorts s in
    let l = literals_many d in
    let m = literals_many (declare d (Sort s)) in
    let few = bracket_few h.brackets s.brackets h.pair in
    let e : length parts ≡ suc (suc (length h.brackets)) = ap length h.parts_are in
    omega arith

prod_weighs : (d : Declared) (parts : List (List ℕ)) (p : Line) → IsProdRow parts p
    → weight (record { sorts = d.sorts; productions = d.productions ++ p ∷ []; vars = d.vars; forms = d.forms; mains = d.mains; uses = d.uses }) ≤ weight d + length parts
unfolding weight
prod_weighs d parts p h =
    let a = pushed d.productions p in
    let b = flat_pushed (λ (r : Line). flat_map symbol_literals r.symbols) d.productions p in
    let l = literals_many d in
    let m = literals_many (record { sorts = d.sorts; productions = d.productions ++ p ∷ []; vars = d.vars; forms = d.forms; mains = d.mains; uses = d.uses }) in
    let few = literal_few p.symbols in
    let fewer = spelled_few SpellsSymbol h.symbols p.symbols h.symbols_are in
    let e : length parts ≡ suc (suc (suc (suc (length h.symbols)))) = ap length h.parts_are in
    omega arith

form_weighs : (d : Declared) (parts : List (List ℕ)) (f : DeclaredForm) (symbols : List (List ℕ)) → parts ≡ f.name ∷ (58 ∷ []) ∷ symbols → EachSpelled SpellsForm symbols f.symbols
    → weight (record { sorts = d.sorts; productions = d.productions; vars = d.vars; forms = d.forms ++ f ∷ []; mains = d.mains; uses = d.uses }) ≤ weight d + length parts
unfolding weight
form_weighs d parts f symbols are h =
    let a = pushed d.forms f in
    let b = flat_pushed (λ (f : DeclaredForm). f.symbols) d.forms f in
    let few = spelled_few SpellsForm symbols f.symbols h in
    let e : length parts ≡ suc (suc (length symbols)) = ap length are in
    omega arith

-- a row declares no more than it has parts
pub row_weighs : (kind : FileKind) (d : Declared) (text : List ℕ) (row : Row) → IsRow kind text row → weight (declare d row) ≤ weight d + length (directives.parts_of text)
row_weighs kind d text (Sort s) h =
    let e : length (directives.parts_of text) ≡ suc (length h.rest) = ap length h.parts_are in
    let k = sort_weighs d h.rest s h.follows in
    omega arith
row_weighs kind d text (Prod p) h =
    let e : length (directives.parts_of text) ≡ suc (length h.rest) = ap length h.parts_are in
    let k = prod_weighs d h.rest (line p) h.follows in
    omega arith
row_weighs kind d text (Var v) h =
    let e : length (directives.parts_of text) ≡ suc (length h.rest) = ap length h.parts_are in
    let a = pushed d.vars v in
    let w = weight_is d in
    let x = weight_is (declare d (Var v)) in
    omega arith
row_weighs kind d text (Form f) h =
    let e : length (directives.parts_of text) ≡ suc (length h.rest) = ap length h.parts_are in
    let k = form_weighs d h.rest (declared_form f) h.follows.symbols h.follows.parts_are h.follows.symbols_are in
    omega arith
row_weighs kind d text (Main m) h =
    let w = weight_is d in
    let x = weight_is (declare d (Main m)) in
    omega arith
row_weighs kind d text _ h = omega arith

-- ---- levels

abbrev pub IsGoodSymbol : Symbol → Type 0
IsGoodSymbol (Lit text) = Unit {0}
IsGoodSymbol (Lex kind) = Unit {0}
IsGoodSymbol (Part sort least) = least ≤ 99

abbrev pub IsGoodLine : Line → Type 0
IsGoodLine p = (p.level ≤ 99) × AllByRecursion IsGoodSymbol p.symbols

abbrev pub IsGoodPlace : FormSymbol → Type 0
IsGoodPlace (FormLit text) = Unit {0}
IsGoodPlace (Place role (Lexical kind)) = Unit {0}
IsGoodPlace (Place role (Named sort least)) = (least ≤ 99) × IsName sort

abbrev pub IsGoodForm : DeclaredForm → Type 0
IsGoodForm f = AllByRecursion IsGoodPlace f.symbols

-- levels are at most 99, and the sorts of places are names
pub record AreGood (d : Declared) : Type 0 where
  pub lines : AllByRecursion IsGoodLine d.productions
  pub forms : AllByRecursion IsGoodForm d.forms

at_most : (digits : List ℕ) (n : ℕ) → number_within 99 digits ≡ Some n → n ≤ 99
at_most digits n e = let k : n ≤ 99 = (number_spelled 99 n digits (omega arith) e).1 in k

named_level : (part sort : List ℕ) (least : ℕ) → SpellsSort part (Named sort least) → least ≤ 99
named_level part sort least (named, inl alone) = let e : least ≡ 0 = alone.level in omega arith
named_level part sort least (named, inr level) = at_most level.digits least level.level

good_symbol : (part : List ℕ) (s : Symbol) → SpellsSymbol part s → IsGoodSymbol s
good_symbol part (Lit text) h = tt
good_symbol part (Lex kind) h = tt
good_symbol part (Part sort least) h = named_level part sort least h

good_place : (part : List ℕ) (s : FormSymbol) → SpellsForm part s → IsGoodPlace s
good_place part (FormLit text) h = tt
good_place part (Place role (Lexical kind)) h = tt
good_place part (Place role (Named sort least)) h = (named_level h.rest sort least h.sort_is, h.sort_is.0)

good_each : {S : Type 0} (R : List ℕ → S → Type 0) (P : S → Type 0) → ((part : List ℕ) (s : S) → R part s → P s) → (parts : List (List ℕ)) (symbols : List S) → EachSpelled R parts symbols
    → AllByRecursion P symbols
good_each R P f [] [] h = tt
good_each R P f [] (s ∷ symbols) h = absurd h
good_each R P f (p ∷ parts) [] h = absurd h
good_each R P f (p ∷ parts) (s ∷ symbols) h = (f p s h.0, good_each R P f parts symbols h.1)

good_line : (parts : List (List ℕ)) (p : Line) → IsProdRow parts p → IsGoodLine p
good_line parts p h = (at_most h.level p.level h.level_is, good_each SpellsSymbol IsGoodSymbol good_symbol h.symbols p.symbols h.symbols_are)

pub row_good : (kind : FileKind) (d : Declared) (text : List ℕ) (row : Row) → IsRow kind text row → AreGood d → AreGood (declare d row)
row_good kind d text (Sort s) h g = record { lines = g.lines; forms = g.forms }
row_good kind d text (Prod p) h g = record { lines = all_push IsGoodLine d.productions (line p) g.lines (good_line h.rest (line p) h.follows); forms = g.forms }
row_good kind d text (Var v) h g = record { lines = g.lines; forms = g.forms }
row_good kind d text (Form f) h g = record {
  lines = g.lines;
  forms = all_push IsGoodForm d.forms (declared_form f) g.forms (good_each SpellsForm IsGoodPlace good_place h.follows.symbols f.symbols.items h.follows.symbols_are);
}
row_good kind d text (Main m) h g = record { lines = g.lines; forms = g.forms }
row_good kind d text _ h g = g

pub good_levels : (d : Declared) → AreGood d → HasGoodLevels (declared_parts d)
good_levels d g = record {
  levels = λ r inside. (all_in IsGoodLine d.productions r g.lines inside).0;
  asked = λ r name least inside here. all_in IsGoodSymbol r.symbols (Part name least) (all_in IsGoodLine d.productions r g.lines inside).1 here;
}

pub good_places : (forms : List DeclaredForm) → AllByRecursion IsGoodForm forms → HaveGoodLevels forms
good_places forms g = λ f role name least inside here. (all_in IsGoodPlace f.symbols (Place role (Named name least)) (all_in IsGoodForm forms f g inside) here).0

has_name : (s : FormSymbol) → IsGoodPlace s → HasName s
has_name (FormLit text) h = tt
has_name (Place role (Lexical kind)) h = tt
has_name (Place role (Named sort least)) h = h.1

pub good_names : (forms : List DeclaredForm) → AllByRecursion IsGoodForm forms → AllByRecursion (λ f. AllByRecursion HasName f.symbols) forms
good_names forms g = all_weaker IsGoodForm (λ f. AllByRecursion HasName f.symbols) (λ f h. all_weaker IsGoodPlace HasName has_name f.symbols h) forms g
