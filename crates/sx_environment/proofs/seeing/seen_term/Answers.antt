use Rattle.std.proofs.Common.{refl, sym, subst}
use Rattle.sx_term.specs.Term.{tree}
use Rattle.sx_term.specs.Tree.{Tree}
use Rattle.sx_interface.specs.InterfaceView.{interface_view}
use Rattle.sx_notation.proofs.TextReading.{err_if}
use Rattle.sx_environment.specs.declared.import_error.ImportError.{ImportError}
use Rattle.sx_environment.specs.ImportErrors.{IsBadImport}
use Rattle.sx_environment.specs.SeenFrom.{seen_from}
use Rattle.sx_environment.proofs.SeenTerms.{sees_stated}
use Rattle.sx_environment.proofs.seeing.seen_term.Goals as goal

pub returns-in_err-signature-clause-refused : goal.returns-in_err-signature-clause-refused
returns-in_err-signature-clause-refused c =
    let s = seen_from c.args.given.now in
    let it = interface_view c.args.import.now.interface.now in
    let P : ImportError → Type 0 =
    λ e. (before : Tree) → IsBadImport s c.args.import.now.number before it e in
    err_if c.from_residual-in_err-signature.result _ P c.from_residual-in_err-signature.ensures.1
    (λ e is. subst P (sym is)
    (λ before. c.in_err-signature.ensures.refused before c.in_ok-check_language.ensures.good))

pub returns-clause-good : goal.returns-clause-good
returns-clause-good c =
    sees_stated (seen_from c.args.given.now) (interface_view c.args.import.now.interface.now)
    (tree c.in_ok-signature.signature) c.stated_term-stated.result
    c.in_ok-check_language.ensures.good c.in_ok-signature.ensures.read
    (c.if-not-sees_stated.ensures.0 refl) c.stated_term-stated.ensures.read
    c.stated_term-stated.ensures.plain
