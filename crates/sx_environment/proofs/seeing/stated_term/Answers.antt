use Rattle.std.proofs.Common.{◌≡◌, true, false, refl, sym, subst}
use Rattle.sx_term.specs.Term.{tree}
use Rattle.sx_term.specs.Tree.{Tree}
use Rattle.sx_interface.specs.InterfaceView.{interface_view}
use Rattle.sx_notation.proofs.TextReading.{err_if}
use Rattle.sx_plain.specs.declared.table.PlainTable.{PlainTable}
use Rattle.sx_plain.specs.Plain.{image}
use Rattle.sx_plain.specs.Views.{table_of}
use Rattle.sx_environment.specs.declared.import_error.ImportError.{ImportError}
use Rattle.sx_environment.specs.declared.row.Row.TheVariants.{Signature, Stated}
use Rattle.sx_environment.specs.ImportErrors.{IsBadImport}
use Rattle.sx_environment.specs.SeenFrom.{seen_from}
use Rattle.sx_environment.proofs.Rows.{row_good}
use Rattle.sx_environment.proofs.seeing.stated_term.Goals as goal

pub returns-in_err-stated-clause-refused : goal.returns-in_err-stated-clause-refused
returns-in_err-stated-clause-refused c =
    let s = seen_from c.args.given.now in
    let it = interface_view c.args.import.now.interface.now in
    let P : ImportError → Type 0 =
    λ e. (before : Tree) → IsBadImport s c.args.import.now.number before it e in
    err_if c.from_residual.result _ P c.from_residual.ensures.1
    (λ e is. subst P (sym is) (λ before. c.in_err-stated.ensures.refused before c.requires.due))

pub is_image-requires-clause-shallow : goal.is_image-requires-clause-shallow
is_image-requires-clause-shallow c =
    (row_good (seen_from c.args.given.now) (interface_view c.args.import.now.interface.now) Stated
    (tree c.in_ok-stated.stated) c.requires.dialect.is c.in_ok-stated.ensures.read).depth

pub is_image-requires-clause-other : goal.is_image-requires-clause-other
is_image-requires-clause-other c =
    (row_good (seen_from c.args.given.now) (interface_view c.args.import.now.interface.now)
    Signature (tree c.args.signature.now) c.requires.dialect.is c.requires.signature).depth

pub returns-clause-refused : goal.returns-clause-refused
returns-clause-refused c =
    let s = seen_from c.args.given.now in
    let it = interface_view c.args.import.now.interface.now in
    let P : ImportError → Type 0 =
    λ e. (before : Tree) → IsBadImport s c.args.import.now.number before it e in
    let other : image s.dialect.set.table (tree c.in_ok-stated.stated) ≡ tree c.args.signature.now →
    ⊥ =
    λ is. let impossible : false ≡ true = c.if-is_image.ensures.1
    (subst (λ (p : PlainTable). image (table_of p) (tree c.in_ok-stated.stated) ≡ tree
    c.args.signature.now) (sym c.plain.ensures) is) in cc in
    subst P (sym c.in_ok-stated_differs.ensures) (λ before. (
      refl,
      refl,
      refl,
      record {
        due = c.requires.due;
        signature = tree c.args.signature.now;
        stated = tree c.in_ok-stated.stated;
        read = c.requires.signature;
        read_stated = c.in_ok-stated.ensures.read;
        other = other;
      },
    ))
