-- A line spells one row.
use Rattle.std.proofs.Common.{◌≡◌, ℕ, ◌+◌, ◌*◌, Bool, true, false, List, [], ◌∷◌, get_or, Option, Some, None, refl, sym, ap, subst, ◌∙◌, arith}
use Rattle.std.specs.Prelude.{codes}
use Rattle.sx_lines.specs.Words.{number_within}
use Rattle.sx_grammar.specs.Parts.{Line, line}
use Rattle.sx_grammar.specs.declared.sort_line.SortLine.{SortLine}
use Rattle.sx_directives.specs.Spelling.{IsVariable, SpellsSymbol, SpellsForm, EachSpelled}
use Rattle.sx_directives.specs.Rows.{IsRow, IsNameRow, IsSortRow, IsProdRow, IsVarRow, IsFormRow}
use Rattle.sx_directives.specs.Rows.{IsMainRow, IsModuleRow, IsPlainRow, AreBrackets, Follows}
use Rattle.sx_directives.specs.Rows.{keyword_text, kind_text, row_word}
use Rattle.sx_directives.specs.declared.rows.VarLine.{VarLine}
use Rattle.sx_directives.specs.declared.rows.FormLine.{FormLine}
use Rattle.sx_directives.specs.declared.rows.MainLine.{MainLine}
use Rattle.sx_directives.specs.declared.rows.PlainLine.{PlainLine}
use Rattle.sx_directives.specs.declared.file_kind.FileKind.{FileKind}
use Rattle.sx_directives.specs.declared.row.Row.{Row}
use Rattle.sx_directives.specs.declared.row.Row.TheVariants.{Language, Sort, Prod, Var, Form, Main}
use Rattle.sx_directives.specs.declared.row.Row.TheVariants.{Rule, Bar, End, Extension, Use, Plain}
use Rattle.sx_directives.specs.declared.row.Row.TheVariants.{To}
use Rattle.sx_outline.specs.Declarations.{DeclaredForm, declared_form}
use Rattle.sx_directives.proofs.BodyLaws.{one_body}
use Rattle.sx_outline.proofs.SpelledOnce.{one_quoted, one_symbol, one_form_symbol, each_same}

-- the rows state the same
abbrev pub SameRow : Row → Row → Type 0
SameRow (Language n) (Language m) = n ≡ m
SameRow (Sort s) (Sort t) = s ≡ t
SameRow (Prod p) (Prod q) = line p ≡ line q
SameRow (Var v) (Var w) = v ≡ w
SameRow (Form f) (Form g) = declared_form f ≡ declared_form g
SameRow (Main m) (Main n) = m ≡ n
SameRow (Rule n) (Rule m) = n ≡ m
SameRow Bar Bar = Unit {0}
SameRow End End = Unit {0}
SameRow (Extension n) (Extension m) = n ≡ m
SameRow (Use n) (Use m) = n ≡ m
SameRow (Plain p) (Plain q) = (p.label ≡ q.label) × (p.names.items ≡ q.names.items)
SameRow (To n) (To m) = n ≡ m
SameRow _ _ = ⊥

-- ---- words

tail_same : (a b : List ℕ) (x y : List (List ℕ)) → a ∷ x ≡ b ∷ y → x ≡ y
tail_same a b x y e = cc

head_same : (a b : List ℕ) (x y : List (List ℕ)) → a ∷ x ≡ b ∷ y → a ≡ b
head_same a b x y e = cc

-- ---- the parts after a word

same_name : (rest : List (List ℕ)) (n m : List ℕ) → IsNameRow rest n → IsNameRow rest m → n ≡ m
same_name rest n m h k = head_same n m [] [] (sym h.parts_are ∙ k.parts_are)

same_kind : (a b : Bool) → kind_text a ≡ kind_text b → a ≡ b
same_kind true true e = refl
same_kind false false e = refl
same_kind true false e = absurd (let f : get_or (kind_text true) 0 0 ≡ get_or (kind_text false) 0 0 = ap (λ (t : List ℕ). get_or t 0 0) e in omega arith)
same_kind false true e = absurd (let f : get_or (kind_text false) 0 0 ≡ get_or (kind_text true) 0 0 = ap (λ (t : List ℕ). get_or t 0 0) e in omega arith)

same_pair : (a b : List ℕ × List ℕ) → a.0 ≡ b.0 → a.1 ≡ b.1 → a ≡ b
same_pair a b e f = λ i. (e i, f i)

same_brackets : (parts : List (List ℕ)) (x y : Option (List ℕ × List ℕ)) → AreBrackets parts x → AreBrackets parts y → x ≡ y
same_brackets [] None None h k = refl
same_brackets (left ∷ right ∷ []) (Some a) (Some b) h k = ap Some (same_pair a b (one_quoted left a.0 b.0 h.0 k.0) (one_quoted right a.1 b.1 h.1 k.1))
same_brackets [] None (Some b) h k = absurd k
same_brackets [] (Some a) y h k = absurd h
same_brackets (left ∷ []) x y h k = absurd h
same_brackets (left ∷ right ∷ []) None y h k = absurd h
same_brackets (left ∷ right ∷ []) (Some a) None h k = absurd k
same_brackets (left ∷ right ∷ more ∷ others) x y h k = absurd h

sort_is : (s t : SortLine) → s.name ≡ t.name → s.typed ≡ t.typed → s.brackets ≡ t.brackets → s ≡ t
sort_is s t e f g = λ i. record { name = e i; typed = f i; brackets = g i }

same_sort : (rest : List (List ℕ)) (s t : SortLine) → IsSortRow rest s → IsSortRow rest t → s ≡ t
same_sort rest s t h k =
    let all : s.name ∷ kind_text s.typed ∷ h.brackets ≡ t.name ∷ kind_text t.typed ∷ k.brackets = sym h.parts_are ∙ k.parts_are in
    let off : kind_text s.typed ∷ h.brackets ≡ kind_text t.typed ∷ k.brackets = tail_same s.name t.name (kind_text s.typed ∷ h.brackets) (kind_text t.typed ∷ k.brackets) all in
    let pair : h.brackets ≡ k.brackets = tail_same (kind_text s.typed) (kind_text t.typed) h.brackets k.brackets off in
    sort_is s t (head_same s.name t.name (kind_text s.typed ∷ h.brackets) (kind_text t.typed ∷ k.brackets) all)
    (same_kind s.typed t.typed (head_same (kind_text s.typed) (kind_text t.typed) h.brackets k.brackets off))
    (same_brackets h.brackets s.brackets t.brackets h.pair (subst (λ (z : List (List ℕ)). AreBrackets z t.brackets) (sym pair) k.pair))

some_same : (x y : ℕ) → Some x ≡ Some y → x ≡ y
some_same x y e = cc

line_is : (p q : Line) → p.label ≡ q.label → p.sort ≡ q.sort → p.level ≡ q.level → p.symbols ≡ q.symbols → p ≡ q
line_is p q e f g h = λ i. record { label = e i; sort = f i; level = g i; symbols = h i }

same_prod : (rest : List (List ℕ)) (p q : Line) → IsProdRow rest p → IsProdRow rest q → p ≡ q
same_prod rest p q h k =
    let colon = codes ":" in
    let one : p.label ∷ p.sort ∷ h.level ∷ colon ∷ h.symbols ≡ q.label ∷ q.sort ∷ k.level ∷ colon ∷ k.symbols = sym h.parts_are ∙ k.parts_are in
    let two : p.sort ∷ h.level ∷ colon ∷ h.symbols ≡ q.sort ∷ k.level ∷ colon ∷ k.symbols = tail_same p.label q.label (p.sort ∷ h.level ∷ colon ∷ h.symbols) (q.sort ∷ k.level ∷ colon ∷ k.symbols) one in
    let three : h.level ∷ colon ∷ h.symbols ≡ k.level ∷ colon ∷ k.symbols = tail_same p.sort q.sort (h.level ∷ colon ∷ h.symbols) (k.level ∷ colon ∷ k.symbols) two in
    let four : colon ∷ h.symbols ≡ colon ∷ k.symbols = tail_same h.level k.level (colon ∷ h.symbols) (colon ∷ k.symbols) three in
    let five : h.symbols ≡ k.symbols = tail_same colon colon h.symbols k.symbols four in
    let level : h.level ≡ k.level = head_same h.level k.level (colon ∷ h.symbols) (colon ∷ k.symbols) three in
    line_is p q (head_same p.label q.label (p.sort ∷ h.level ∷ colon ∷ h.symbols) (q.sort ∷ k.level ∷ colon ∷ k.symbols) one)
    (head_same p.sort q.sort (h.level ∷ colon ∷ h.symbols) (k.level ∷ colon ∷ k.symbols) two)
    (some_same p.level q.level (sym h.level_is ∙ ap (number_within 99) level ∙ k.level_is))
    (each_same SpellsSymbol one_symbol h.symbols p.symbols q.symbols h.symbols_are (subst (λ (z : List (List ℕ)). EachSpelled SpellsSymbol z q.symbols) (sym five) k.symbols_are))

var_is : (v w : VarLine) → v.stem ≡ w.stem → v.sort ≡ w.sort → v ≡ w
var_is v w e f = λ i. record { stem = e i; sort = f i }

same_var : (rest : List (List ℕ)) (v w : VarLine) → IsVarRow rest v → IsVarRow rest w → v ≡ w
same_var rest v w h k =
    let colon = codes ":" in
    let one : v.stem ∷ colon ∷ v.sort ∷ [] ≡ w.stem ∷ colon ∷ w.sort ∷ [] = sym h.parts_are ∙ k.parts_are in
    let two : colon ∷ v.sort ∷ [] ≡ colon ∷ w.sort ∷ [] = tail_same v.stem w.stem (colon ∷ v.sort ∷ []) (colon ∷ w.sort ∷ []) one in
    let three : v.sort ∷ [] ≡ w.sort ∷ [] = tail_same colon colon (v.sort ∷ []) (w.sort ∷ []) two in
    var_is v w (head_same v.stem w.stem (colon ∷ v.sort ∷ []) (colon ∷ w.sort ∷ []) one) (head_same v.sort w.sort [] [] three)

form_is : (f g : DeclaredForm) → f.name ≡ g.name → f.symbols ≡ g.symbols → f ≡ g
form_is f g d e = λ i. record { name = d i; symbols = e i }

same_form : (rest : List (List ℕ)) (f g : FormLine) → IsFormRow rest f → IsFormRow rest g → declared_form f ≡ declared_form g
same_form rest f g h k =
    let colon = codes ":" in
    let one : f.name ∷ colon ∷ h.symbols ≡ g.name ∷ colon ∷ k.symbols = sym h.parts_are ∙ k.parts_are in
    let two : colon ∷ h.symbols ≡ colon ∷ k.symbols = tail_same f.name g.name (colon ∷ h.symbols) (colon ∷ k.symbols) one in
    let three : h.symbols ≡ k.symbols = tail_same colon colon h.symbols k.symbols two in
    form_is (declared_form f) (declared_form g) (head_same f.name g.name (colon ∷ h.symbols) (colon ∷ k.symbols) one)
    (each_same SpellsForm one_form_symbol h.symbols f.symbols.items g.symbols.items h.symbols_are (subst (λ (z : List (List ℕ)). EachSpelled SpellsForm z g.symbols.items) (sym three) k.symbols_are))

main_is : (m n : MainLine) → m.form ≡ n.form → m.empty ≡ n.empty → m.add ≡ n.add → m ≡ n
main_is m n e f g = λ i. record { form = e i; empty = f i; add = g i }

same_main : (rest : List (List ℕ)) (m n : MainLine) → IsMainRow rest m → IsMainRow rest n → m ≡ n
same_main rest m n h k =
    let one : m.form ∷ m.empty ∷ m.add ∷ [] ≡ n.form ∷ n.empty ∷ n.add ∷ [] = sym h.parts_are ∙ k.parts_are in
    let two : m.empty ∷ m.add ∷ [] ≡ n.empty ∷ n.add ∷ [] = tail_same m.form n.form (m.empty ∷ m.add ∷ []) (n.empty ∷ n.add ∷ []) one in
    let three : m.add ∷ [] ≡ n.add ∷ [] = tail_same m.empty n.empty (m.add ∷ []) (n.add ∷ []) two in
    main_is m n (head_same m.form n.form (m.empty ∷ m.add ∷ []) (n.empty ∷ n.add ∷ []) one) (head_same m.empty n.empty (m.add ∷ []) (n.add ∷ []) two) (head_same m.add n.add [] [] three)

same_module : (rest : List (List ℕ)) (n m : List ℕ) → IsModuleRow rest n → IsModuleRow rest m → n ≡ m
same_module rest n m h k = head_same n m [] [] (sym h.parts_are ∙ k.parts_are)

-- a part is one variable
one_variable : (part n m : List ℕ) → IsVariable part n → IsVariable part m → n ≡ m
one_variable part n m h k = sym h.0.0 ∙ k.0.0

same_plain : (rest : List (List ℕ)) (p q : PlainLine) → IsPlainRow rest p → IsPlainRow rest q → (p.label ≡ q.label) × (p.names.items ≡ q.names.items)
same_plain rest p q h k =
    let all : p.label ∷ h.names ≡ q.label ∷ k.names = sym h.parts_are ∙ k.parts_are in
    let names : h.names ≡ k.names = tail_same p.label q.label h.names k.names all in (
      head_same p.label q.label h.names k.names all,
      each_same IsVariable one_variable h.names p.names.items q.names.items h.names_are (subst (λ (z : List (List ℕ)). EachSpelled IsVariable z q.names.items) (sym names) k.names_are),
    )

-- ---- rows

-- the first two bytes of a row's word, which tell the word
abbrev told : Row → ℕ
told r = get_or (keyword_text (row_word r)) 0 0 * 256 + get_or (keyword_text (row_word r)) 1 0

-- rows of one line with one word state the same
same_follows : (text : List ℕ) (rest : List (List ℕ)) (r s : Row) → told r ≡ told s → Follows text rest r → Follows text rest s → SameRow r s
same_follows text rest (Language n) (Language m) e h k = same_name rest n m h k
same_follows text rest (Sort s) (Sort t) e h k = same_sort rest s t h k
same_follows text rest (Prod p) (Prod q) e h k = same_prod rest (line p) (line q) h k
same_follows text rest (Var v) (Var w) e h k = same_var rest v w h k
same_follows text rest (Form f) (Form g) e h k = same_form rest f g h k
same_follows text rest (Main m) (Main n) e h k = same_main rest m n h k
same_follows text rest (Rule n) (Rule m) e h k = same_name rest n m h k
same_follows text rest Bar Bar e h k = tt
same_follows text rest End End e h k = tt
same_follows text rest (Extension n) (Extension m) e h k = same_module rest n m h k
same_follows text rest (Use n) (Use m) e h k = same_module rest n m h k
same_follows text rest (Plain p) (Plain q) e h k = same_plain rest p q h k
same_follows text rest (To n) (To m) e h k = one_body text n m h.0 k.0
same_follows text rest r s e h k = absurd (omega (arith, e))

-- two rows of the same line state the same
pub same_row : (kind : FileKind) (text : List ℕ) (r s : Row) → IsRow kind text r → IsRow kind text s → SameRow r s
same_row kind text r s h k =
    let all : keyword_text (row_word r) ∷ h.rest ≡ keyword_text (row_word s) ∷ k.rest = sym h.parts_are ∙ k.parts_are in
    let same : keyword_text (row_word r) ≡ keyword_text (row_word s) = head_same (keyword_text (row_word r)) (keyword_text (row_word s)) h.rest k.rest all in
    let rest : h.rest ≡ k.rest = tail_same (keyword_text (row_word r)) (keyword_text (row_word s)) h.rest k.rest all in
    same_follows text h.rest r s (ap (λ (t : List ℕ). get_or t 0 0 * 256 + get_or t 1 0) same) h.follows (subst (λ (z : List (List ℕ)). Follows text z s) (sym rest) k.follows)
