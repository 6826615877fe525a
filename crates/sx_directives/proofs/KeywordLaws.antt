-- The words that begin lines.
use Rattle.std.proofs.Common.{◌≡◌, ℕ, List, ◌∷◌, get_or, refl, sym, ap, subst, ◌∙◌}
use Rattle.std.specs.Prelude.{◌==◌, if◌then◌else◌}
use Rattle.sx_grammar.specs.Parts.{Line, line}
use Rattle.sx_directives.specs.Spelling.{NoneIs}
use Rattle.sx_directives.specs.Rows.{keyword_text, IsProdRow, IsVarRow, IsDirectiveOf}
use Rattle.sx_directives.specs.declared.rows.VarLine.{VarLine}
use Rattle.sx_directives.specs.declared.row_error.RowError.{RowError}
use Rattle.sx_directives.specs.declared.directive.Directive.{Directive}
use Rattle.sx_directives.specs.declared.directive.Directive.TheVariants.{Prod as ProdRead, Var as VarRead}
use Rattle.sx_directives.specs.declared.keyword.Keyword.{Keyword}
use Rattle.sx_directives.specs.declared.keyword.Keyword.TheVariants.{Language, Sort, Prod, Var, Form, Main, Rule, Bar, End, Extension, Use, Plain, To}
use Rattle.sx_directives.proofs.SpellingLaws.{none_of}

pub tail_same : (a b : List ℕ) (x y : List (List ℕ)) → a ∷ x ≡ b ∷ y → x ≡ y
tail_same a b x y e = cc

pub head_same : (a b : List ℕ) (x y : List (List ℕ)) → a ∷ x ≡ b ∷ y → a ≡ b
head_same a b x y e = cc

-- a word is told by its first two bytes
told : ℕ → ℕ → Keyword
told n m =
    if n == 108 then Language
    else if n == 115 then Sort
    else if n == 112 then (if m == 108 then Plain else Prod)
    else if n == 118 then Var
    else if n == 102 then Form
    else if n == 109 then Main
    else if n == 114 then Rule
    else if n == 45 then Bar
    else if n == 117 then Use
    else if n == 116 then To
    else (if m == 120 then Extension else End)

-- the word that a text tells
abbrev told_by : List ℕ → Keyword
told_by text = told (get_or text 0 0) (get_or text 1 0)

told_is : (k : Keyword) → told_by (keyword_text k) ≡ k
unfolding told
told_is Language = refl
told_is Sort = refl
told_is Prod = refl
told_is Var = refl
told_is Form = refl
told_is Main = refl
told_is Rule = refl
told_is Bar = refl
told_is End = refl
told_is Extension = refl
told_is Use = refl
told_is Plain = refl
told_is To = refl

pub one_keyword : (k l : Keyword) (x y : List (List ℕ)) → keyword_text k ∷ x ≡ keyword_text l ∷ y → (k ≡ l) × (x ≡ y)
one_keyword k l x y e =
    let same : keyword_text k ≡ keyword_text l = head_same (keyword_text k) (keyword_text l) x y e in
    (sym (told_is k) ∙ ap told_by same ∙ told_is l, tail_same (keyword_text k) (keyword_text l) x y e)

-- ---- directives

abbrev is_prod : Keyword → Type 0
is_prod Prod = Unit {0}
is_prod _ = ⊥

prod_in : (rest : List (List ℕ)) (y : Directive) → IsDirectiveOf (keyword_text Prod ∷ rest) y → (p : Line) × IsProdRow rest p
prod_in rest (ProdRead p) h =
    let q = one_keyword Prod Prod rest h.0 h.1 in
    (line p, subst (λ x. IsProdRow x (line p)) (sym q.1) h.2)
prod_in rest (VarRead stem sort) h =
    let q = one_keyword Prod Var rest h.0 h.1 in
    absurd (subst is_prod q.0 tt)

var_in : (rest : List (List ℕ)) (y : Directive) → IsDirectiveOf (keyword_text Var ∷ rest) y → (v : VarLine) × IsVarRow rest v
var_in rest (ProdRead p) h =
    let q = one_keyword Prod Var h.0 rest (sym h.1) in
    absurd (subst is_prod q.0 tt)
var_in rest (VarRead stem sort) h =
    let q = one_keyword Var Var rest h.0 h.1 in
    (record { stem = stem; sort = sort }, subst (λ x. IsVarRow x (record { stem = stem; sort = sort })) (sym q.1) h.2)

pub no_prod : (k : Keyword) (rest : List (List ℕ)) (e : RowError) → k ≡ Prod → NoneIs (IsProdRow rest) e → NoneIs (IsDirectiveOf (keyword_text k ∷ rest)) e
no_prod k rest e is n = subst (λ l. NoneIs (IsDirectiveOf (keyword_text l ∷ rest)) e) (sym is) (none_of (IsProdRow rest) (IsDirectiveOf (keyword_text Prod ∷ rest)) e (prod_in rest) n)

pub no_var : (k : Keyword) (rest : List (List ℕ)) (e : RowError) → k ≡ Var → NoneIs (IsVarRow rest) e → NoneIs (IsDirectiveOf (keyword_text k ∷ rest)) e
no_var k rest e is n = subst (λ l. NoneIs (IsDirectiveOf (keyword_text l ∷ rest)) e) (sym is) (none_of (IsVarRow rest) (IsDirectiveOf (keyword_text Var ∷ rest)) e (var_in rest) n)

-- a line whose first part is no word of the table
pub no_directive : (parts : List (List ℕ)) → ((k : Keyword) (rest : List (List ℕ)) → parts ≡ keyword_text k ∷ rest → ⊥) → (y : Directive) → IsDirectiveOf parts y → ⊥
no_directive parts n (ProdRead p) h = n Prod h.0 h.1
no_directive parts n (VarRead stem sort) h = n Var h.0 h.1
