-- Good lines that declare what is known, with a main line, are those of an outline.
use Rattle.std.proofs.Common.{◌≡◌, ℕ, List, [], ◌∷◌, ◌++◌, sym, ap, subst, ◌∙◌}
use Rattle.sx_grammar.specs.Parts.{Parts}
use Rattle.sx_directives.specs.declared.file_kind.FileKind.{FileKind}
use Rattle.sx_directives.specs.declared.file_kind.FileKind.TheVariants as files
use Rattle.sx_directives.specs.declared.rows.MainLine.{MainLine}
use Rattle.sx_directives.specs.declared.row.Row.TheVariants.{Sort, Prod, Var, Form, Main}
use Rattle.sx_outline.specs.declared.main_form.MainForm.{MainForm}
use Rattle.sx_outline.specs.Declarations.{Declared, nothing, declare, declared_parts}
use Rattle.sx_outline.specs.Fitting.{IsMainOf}
use Rattle.sx_outline.specs.Stages.{Numbered}
use Rattle.sx_outline.specs.Outlined.{OutlineData, declared_by}
use Rattle.sx_outline.specs.Structure.{AreDeclarations, AreOutlineLines}
use Rattle.sx_outline.specs.BadLines.{AreMains, AreLanguageLines}
use Rattle.sx_outline.proofs.LanguageLines.{no_pairs}

-- no declaration changes what is used
uses_stay : (kind : FileKind) (known d all : Declared) (lines : List Numbered) → AreDeclarations kind known d lines all → all.uses ≡ d.uses
uses_stay kind known d all [] h = ap (λ (x : Declared). x.uses) (sym h)
uses_stay kind known d all (l ∷ lines) (Sort s, spelled, declaring, fits, h) = uses_stay kind known (declare d (Sort s)) all lines h
uses_stay kind known d all (l ∷ lines) (Prod p, spelled, declaring, fits, h) = uses_stay kind known (declare d (Prod p)) all lines h
uses_stay kind known d all (l ∷ lines) (Var v, spelled, declaring, fits, h) = uses_stay kind known (declare d (Var v)) all lines h
uses_stay kind known d all (l ∷ lines) (Form f, spelled, declaring, fits, h) = uses_stay kind known (declare d (Form f)) all lines h
uses_stay kind known d all (l ∷ lines) (Main m, spelled, declaring, fits, h) = uses_stay kind known (declare d (Main m)) all lines h
uses_stay kind known d all (l ∷ lines) (_, spelled, declaring, fits, h) = absurd declaring

main_form : (known : Declared) (mains : List MainLine) (m : MainLine) → mains ≡ m ∷ [] → AreMains known mains → (main : MainForm) × IsMainOf known m main
main_form known mains m e h = subst (AreMains known) e h

pub good_outlined : (name : List ℕ) (known : Declared) (m : MainLine) (lines : List Numbered) (h : AreLanguageLines name known lines) → h.among.all ≡ known → known.mains ≡ m ∷ []
    → (o : OutlineData) × AreOutlineLines name lines o
good_outlined name known m lines h all mains =
    let good = h.among in
    let main = main_form known good.all.mains m (ap (λ (x : Declared). x.mains) all ∙ mains) good.mains in
    let parts : Parts = declared_parts known in
    let o : OutlineData = record { parts = parts; vars = known.vars; forms = known.forms; main = main.0; rules = good.stated } in
    let uses : known.uses ≡ [] = ap (λ (x : Declared). x.uses) (sym all) ∙ uses_stay files.Language known nothing good.all good.declarations good.declared in
    let same : known ≡ declared_by o m = λ i.
    record { sorts = known.sorts; productions = known.productions; vars = known.vars; forms = known.forms; mains = mains i; uses = uses i } in
    let none : good.pairs ≡ [] = no_pairs known good.pairs good.plains good.pairs_are in
    let declared : AreDeclarations files.Language known nothing good.declarations known = subst (AreDeclarations files.Language known nothing good.declarations) all good.declared in (
      o,
      record {
        first = h.first;
        declarations = good.declarations;
        rules = good.rules;
        lines_are = h.lines_are ∙ ap (λ (x : List Numbered). h.first ∷ x) (good.lines_are ∙ ap (λ (x : List Numbered). good.declarations ++ (x ++ good.rules)) none);
        named = h.named;
        main_line = m;
        declared = subst (λ (x : Declared). AreDeclarations files.Language x nothing good.declarations x) same declared;
        main = subst (λ (x : Declared). IsMainOf x m main.0) same main.1;
        rules_are = good.rules_are;
      },
    )
