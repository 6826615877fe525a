use Rattle.std.proofs.Common.{sym, subst}
use Rattle.sx_notation.proofs.TextReading.{err_if}
use Rattle.sx_words.specs.declared.print_defect.PrintedPart.TheVariants.{Signature}
use Rattle.sx_unit.specs.Modules.{module_data}
use Rattle.sx_unit.specs.PrintedParts.{printed_of}
use Rattle.sx_unit.specs.Written.{IsUnwritten}
use Rattle.sx_unit.proofs.PartTexts.{good_part, bad_part}
use Rattle.sx_unit.proofs.signature_writing.check_signature.Goals as goal

pub returns-in_err-check_part-clause-refused : goal.returns-in_err-check_part-clause-refused
returns-in_err-check_part-clause-refused c =
    let m = module_data c.args.given.now in
    let t = printed_of c.args.terms.now in
    err_if c.from_residual.result _ (IsUnwritten m t) c.from_residual.ensures.1
    (λ e is. subst (IsUnwritten m t) (sym is)
    (bad_part m t Signature c.args.size c.args.shown.now c.requires.size c.requires.text _
    c.requires.body c.in_err-check_part.ensures.refused))

pub returns-clause-good : goal.returns-clause-good
returns-clause-good c =
    good_part (module_data c.args.given.now) (printed_of c.args.terms.now) Signature c.args.size
    c.args.shown.now c.requires.size c.requires.text c.in_ok-check_part.ensures.good
