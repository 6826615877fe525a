-- The main lines of a file.
use Rattle.std.proofs.Common.{◌≡◌, List, [], ◌∷◌, ◌++◌, length, refl, sym, ap, subst, ◌∙◌, append_assoc, append-nil, arith}
use Rattle.std.proofs.lemmas.List.{length-append}
use Rattle.sx_directives.specs.declared.file_kind.FileKind.{FileKind}
use Rattle.sx_directives.specs.declared.rows.MainLine.{MainLine}
use Rattle.sx_directives.specs.declared.row.Row.TheVariants.{Sort, Prod, Var, Form, Main}
use Rattle.sx_outline.specs.declared.main_form.MainForm.{MainForm}
use Rattle.sx_outline.specs.Declarations.{Declared, declare}
use Rattle.sx_outline.specs.Fitting.{IsMainOf}
use Rattle.sx_outline.specs.Stages.{Numbered}
use Rattle.sx_outline.specs.Structure.{AreDeclarations}
use Rattle.sx_outline.specs.BadLines.{AreMains}

-- main lines stay
pub mains_stay : (kind : FileKind) (known d all : Declared) (lines : List Numbered) → AreDeclarations kind known d lines all → (more : List MainLine) × (all.mains ≡ d.mains ++ more)
mains_stay kind known d all [] h = ([], ap (λ (x : Declared). x.mains) (sym h) ∙ sym (append-nil d.mains))
mains_stay kind known d all (l ∷ lines) (Sort s, spelled, declaring, fits, h) = mains_stay kind known (declare d (Sort s)) all lines h
mains_stay kind known d all (l ∷ lines) (Prod p, spelled, declaring, fits, h) = mains_stay kind known (declare d (Prod p)) all lines h
mains_stay kind known d all (l ∷ lines) (Var v, spelled, declaring, fits, h) = mains_stay kind known (declare d (Var v)) all lines h
mains_stay kind known d all (l ∷ lines) (Form f, spelled, declaring, fits, h) = mains_stay kind known (declare d (Form f)) all lines h
mains_stay kind known d all (l ∷ lines) (Main m, spelled, declaring, fits, h) =
    let k = mains_stay kind known (declare d (Main m)) all lines h in
    (m ∷ k.0, k.1 ∙ append_assoc d.mains (m ∷ []) k.0)
mains_stay kind known d all (l ∷ lines) (_, spelled, declaring, fits, h) = absurd declaring

-- so a main line is the first, and of a main form
pub first_main : (known : Declared) (mains before more : List MainLine) (m : MainLine) → mains ≡ before ++ m ∷ more → AreMains known mains → (before ≡ []) × ((main : MainForm) × IsMainOf known m main)
first_main known [] before more m e h =
    let many = length-append before (m ∷ more) in
    let same : 0 ≡ length (before ++ m ∷ more) = ap (λ (x : List MainLine). length x) e in
    absurd (omega arith)
first_main known (l ∷ []) [] more m e h = (refl, (h.0, subst (λ x. IsMainOf known x h.0) (first_same l m more e) h.1))
  where
    first_same : (l m : MainLine) (more : List MainLine) → l ∷ [] ≡ m ∷ more → l ≡ m
    first_same l m more e = cc
first_main known (l ∷ []) (b ∷ before) more m e h =
    let many = length-append before (m ∷ more) in
    let same : length (l ∷ []) ≡ length (b ∷ before ++ m ∷ more) = ap length e in
    absurd (omega arith)
first_main known (l ∷ k ∷ mains) before more m e h = absurd h
