-- Rows of the same line are as good as each other.
use Rattle.std.proofs.Common.{◌≡◌, ℕ, Bool, false, List, [], ◌∷◌, ◌++◌, refl, ap, subst}
use Rattle.std.specs.Prelude.{Contains}
use Rattle.std.specs.List.{AllByRecursion}
use Rattle.sx_grammar.specs.Parts.{Line}
use Rattle.sx_grammar.specs.declared.production.Production.{Production}
use Rattle.sx_grammar.specs.declared.sort_line.SortLine.{SortLine}
use Rattle.sx_directives.specs.declared.file_kind.FileKind.{FileKind}
use Rattle.sx_directives.specs.Rows.{Follows, HasBody, IsRow, HasWord, row_word}
use Rattle.sx_directives.specs.declared.rows.VarLine.{VarLine}
use Rattle.sx_directives.specs.declared.rows.FormLine.{FormLine}
use Rattle.sx_directives.specs.declared.rows.MainLine.{MainLine}
use Rattle.sx_directives.specs.declared.rows.PlainLine.{PlainLine}
use Rattle.sx_directives.specs.declared.row.Row.{Row}
use Rattle.sx_directives.specs.declared.row.Row.TheVariants.{Language, Sort, Prod, Var, Form, Main}
use Rattle.sx_directives.specs.declared.row.Row.TheVariants.{Rule, Bar, End, Extension, Use, Plain}
use Rattle.sx_directives.specs.declared.row.Row.TheVariants.{To}
use Rattle.sx_outline.specs.Declarations.{Declared, DeclaredForm, declare}
use Rattle.sx_outline.specs.Fitting.{ArePartNames, RowFits, SymbolFits, HasOneSubjectSymbol}
use Rattle.sx_outline.specs.Fitting.{IsKnownSort, stems, declared_form_names}
use Rattle.sx_outline.specs.Known.{RowGoesOn}
use Rattle.sx_outline.specs.Stages.{Stage, at_declarations, at_plains, MayStandAt, HasMain}
use Rattle.sx_outline.proofs.SameRows.{SameRow}

-- a row of `to` has a body
body_there : (text : List ℕ) (parts : List (List ℕ)) (r : Row) → Follows text parts r → HasBody (row_word r) text
body_there text parts (To body) h = (body, h.0)
body_there text parts _ h = tt

pub has_word : (kind : FileKind) (text : List ℕ) (r : Row) → IsRow kind text r → HasWord kind text
has_word kind text r h = (row_word r, h.rest, h.parts_are, (h.word, body_there text h.rest r h.follows))

prod_stands : (at : Stage) (mains : List MainLine) (p q : Production) → MayStandAt at mains (Prod p) → MayStandAt at mains (Prod q)
prod_stands at_declarations mains p q h = tt
prod_stands _ mains p q h = absurd h

form_stands : (at : Stage) (mains : List MainLine) (f g : FormLine) → MayStandAt at mains (Form f) → MayStandAt at mains (Form g)
form_stands at_declarations mains f g h = tt
form_stands _ mains f g h = absurd h

plain_stands : (at : Stage) (mains : List MainLine) (p q : PlainLine) → MayStandAt at mains (Plain p) → MayStandAt at mains (Plain q)
plain_stands at_declarations mains p q h = tt
plain_stands at_plains mains p q h = tt
plain_stands _ mains p q h = absurd h

pub same_stands : (at : Stage) (mains : List MainLine) (r s : Row) → SameRow r s → MayStandAt at mains r → MayStandAt at mains s
same_stands at mains (Language n) (Language m) e h = subst (λ x. MayStandAt at mains (Language x)) e h
same_stands at mains (Sort s) (Sort t) e h = subst (λ x. MayStandAt at mains (Sort x)) e h
same_stands at mains (Prod p) (Prod q) e h = prod_stands at mains p q h
same_stands at mains (Var v) (Var w) e h = subst (λ x. MayStandAt at mains (Var x)) e h
same_stands at mains (Form f) (Form g) e h = form_stands at mains f g h
same_stands at mains (Main m) (Main n) e h = subst (λ x. MayStandAt at mains (Main x)) e h
same_stands at mains (Rule n) (Rule m) e h = subst (λ x. MayStandAt at mains (Rule x)) e h
same_stands at mains Bar Bar e h = h
same_stands at mains End End e h = h
same_stands at mains (Extension n) (Extension m) e h = subst (λ x. MayStandAt at mains (Extension x)) e h
same_stands at mains (Use n) (Use m) e h = subst (λ x. MayStandAt at mains (Use x)) e h
same_stands at mains (Plain p) (Plain q) e h = plain_stands at mains p q h
same_stands at mains (To n) (To m) e h = subst (λ x. MayStandAt at mains (To x)) e h
same_stands at mains _ _ e h = absurd e

pub same_declare : (d : Declared) (r s : Row) → SameRow r s → declare d r ≡ declare d s
same_declare d (Language n) (Language m) e = refl
same_declare d (Sort s) (Sort t) e = ap (λ (x : SortLine). declare d (Sort x)) e
same_declare d (Prod p) (Prod q) e =
    ap (λ (x : Line). let all : Declared = record { sorts = d.sorts; productions = d.productions ++ x ∷ []; vars = d.vars; forms = d.forms; mains = d.mains; uses = d.uses } in all) e
same_declare d (Var v) (Var w) e = ap (λ (x : VarLine). declare d (Var x)) e
same_declare d (Form f) (Form g) e =
    ap (λ (x : DeclaredForm). let all : Declared = record { sorts = d.sorts; productions = d.productions; vars = d.vars; forms = d.forms ++ x ∷ []; mains = d.mains; uses = d.uses } in all) e
same_declare d (Main m) (Main n) e = ap (λ (x : MainLine). declare d (Main x)) e
same_declare d (Rule n) (Rule m) e = refl
same_declare d Bar Bar e = refl
same_declare d End End e = refl
same_declare d (Extension n) (Extension m) e = refl
same_declare d (Use n) (Use m) e = refl
same_declare d (Plain p) (Plain q) e = refl
same_declare d (To n) (To m) e = refl
same_declare d _ _ e = absurd e

pub same_fits : (known before : Declared) (r s : Row) → SameRow r s → RowFits known before r → RowFits known before s
same_fits known before (Language n) (Language m) e h = h
same_fits known before (Sort s) (Sort t) e h = h
same_fits known before (Prod p) (Prod q) e h = h
same_fits known before (Var v) (Var w) e h = subst (λ (x : VarLine). (Contains (stems before) x.stem → ⊥) × IsKnownSort known x.sort) e h
same_fits known before (Form f) (Form g) e h =
    subst (λ (x : DeclaredForm). (Contains (declared_form_names before) x.name → ⊥) × AllByRecursion (SymbolFits known) x.symbols × HasOneSubjectSymbol x.symbols) e h
same_fits known before (Main m) (Main n) e h = h
same_fits known before (Rule n) (Rule m) e h = h
same_fits known before Bar Bar e h = h
same_fits known before End End e h = h
same_fits known before (Extension n) (Extension m) e h = h
same_fits known before (Use n) (Use m) e h = subst (λ (x : List ℕ). Contains known.uses x → ⊥) e h
same_fits known before (Plain p) (Plain q) e h =
    subst (ArePartNames known q.label) e.1 (subst (λ (x : List ℕ). ArePartNames known x p.names.items) e.0 h)
same_fits known before (To n) (To m) e h = h
same_fits known before _ _ e h = absurd e

pub same_main : (known : Declared) (r s : Row) → SameRow r s → HasMain known r → HasMain known s
same_main known (Language n) (Language m) e h = h
same_main known (Sort s) (Sort t) e h = h
same_main known (Prod p) (Prod q) e h = h
same_main known (Var v) (Var w) e h = h
same_main known (Form f) (Form g) e h = h
same_main known (Main m) (Main n) e h = subst (λ x. HasMain known (Main x)) e h
same_main known (Rule n) (Rule m) e h = h
same_main known Bar Bar e h = h
same_main known End End e h = h
same_main known (Extension n) (Extension m) e h = h
same_main known (Use n) (Use m) e h = h
same_main known (Plain p) (Plain q) e h = h
same_main known (To n) (To m) e h = h
same_main known _ _ e h = absurd e

pub same_goes : (d : Declared) (r s : Row) (all : Declared) (Next : Bool → Declared → Type 0) → SameRow r s → RowGoesOn d r all Next → RowGoesOn d s all Next
same_goes d (Language n) (Language m) all Next e h = h
same_goes d (Sort s) (Sort t) all Next e h = subst (Next false) (same_declare d (Sort s) (Sort t) e) h
same_goes d (Prod p) (Prod q) all Next e h = subst (Next false) (same_declare d (Prod p) (Prod q) e) h
same_goes d (Var v) (Var w) all Next e h = subst (Next false) (same_declare d (Var v) (Var w) e) h
same_goes d (Form f) (Form g) all Next e h = subst (Next false) (same_declare d (Form f) (Form g) e) h
same_goes d (Main m) (Main n) all Next e h = subst (Next false) (same_declare d (Main m) (Main n) e) h
same_goes d (Rule n) (Rule m) all Next e h = h
same_goes d Bar Bar all Next e h = h
same_goes d End End all Next e h = h
same_goes d (Extension n) (Extension m) all Next e h = h
same_goes d (Use n) (Use m) all Next e h = h
same_goes d (Plain p) (Plain q) all Next e h = h
same_goes d (To n) (To m) all Next e h = h
same_goes d _ _ all Next e h = absurd e
