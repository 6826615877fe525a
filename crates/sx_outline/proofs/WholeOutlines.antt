-- Whole lines after a header are those of an outline of an extension file.
use Rattle.std.proofs.Common.{◌≡◌, List, [], ◌∷◌, ◌++◌, sym, ap, subst}
use Rattle.std.proofs.lemmas.Bool.{false≢true}
use Rattle.sx_grammar.specs.declared.sort_line.SortLine.{SortLine}
use Rattle.sx_directives.specs.declared.file_kind.FileKind.TheVariants as files
use Rattle.sx_directives.specs.declared.rows.VarLine.{VarLine}
use Rattle.sx_directives.specs.declared.row.Row.TheVariants.{Sort, Prod, Var, Form, Main}
use Rattle.sx_outline.specs.Declarations.{Declared, declare, declared_before}
use Rattle.sx_outline.specs.Headers.{HeaderData}
use Rattle.sx_outline.specs.Stages.{Numbered}
use Rattle.sx_outline.specs.ExtensionOutlined.{ExtensionOutlineData, extension_declares}
use Rattle.sx_outline.specs.Structure.{AreDeclarations, ArePlainPairs, AreHeaderLines, AreExtensionLines}
use Rattle.sx_outline.specs.BadExtensions.{AreWhole}

-- the same but for productions and stems
record IsExtended (d all : Declared) : Type 0 where
  sorts : all.sorts ≡ d.sorts
  forms : all.forms ≡ d.forms
  mains : all.mains ≡ d.mains
  uses : all.uses ≡ d.uses

extended : (known d all : Declared) (lines : List Numbered) → AreDeclarations files.Extension known d lines all → IsExtended d all
extended known d all [] h = record {
  sorts = ap (λ (x : Declared). x.sorts) (sym h);
  forms = ap (λ (x : Declared). x.forms) (sym h);
  mains = ap (λ (x : Declared). x.mains) (sym h);
  uses = ap (λ (x : Declared). x.uses) (sym h);
}
extended known d all (l ∷ lines) (Prod p, spelled, declaring, fits, h) =
    let k = extended known (declare d (Prod p)) all lines h in
    record { sorts = k.sorts; forms = k.forms; mains = k.mains; uses = k.uses }
extended known d all (l ∷ lines) (Var v, spelled, declaring, fits, h) =
    let k = extended known (declare d (Var v)) all lines h in
    record { sorts = k.sorts; forms = k.forms; mains = k.mains; uses = k.uses }
extended known d all (l ∷ lines) (Sort s, spelled, declaring, fits, h) = absurd (false≢true spelled.word)
extended known d all (l ∷ lines) (Form f, spelled, declaring, fits, h) = absurd (false≢true spelled.word)
extended known d all (l ∷ lines) (Main m, spelled, declaring, fits, h) = absurd (false≢true spelled.word)
extended known d all (l ∷ lines) (_, spelled, declaring, fits, h) = absurd declaring

pub whole_outlined : (sorts : List SortLine) (vars : List VarLine) (header : HeaderData) (front lines : List Numbered) → AreHeaderLines front header
    → AreWhole (declared_before sorts vars header.uses) lines → (o : ExtensionOutlineData) × AreExtensionLines sorts vars (front ++ lines) o
whole_outlined sorts vars header front lines is h =
    let base : Declared = declared_before sorts vars header.uses in
    let good = h.good in
    let known : Declared = h.known in
    let e : IsExtended base known = subst (IsExtended base) h.is (extended known base good.all good.declarations good.declared) in
    let o : ExtensionOutlineData = record { header = header; productions = known.productions; vars = known.vars; plains = good.plains; rules = good.stated } in
    let same : known ≡ extension_declares sorts o = λ i.
    record { sorts = e.sorts i; productions = known.productions; vars = known.vars; forms = e.forms i; mains = e.mains i; uses = e.uses i } in
    let declared : AreDeclarations files.Extension known base good.declarations known = subst (AreDeclarations files.Extension known base good.declarations) h.is good.declared in (
      o,
      record {
        header = front;
        declarations = good.declarations;
        pairs = good.pairs;
        rules = good.rules;
        lines_are = ap (λ (x : List Numbered). front ++ x) good.lines_are;
        header_is = is;
        declared = subst (λ (x : Declared). AreDeclarations files.Extension x base good.declarations x) same declared;
        pairs_are = subst (λ (x : Declared). ArePlainPairs files.Extension x good.pairs good.plains) same good.pairs_are;
        rules_are = good.rules_are;
      },
    )
