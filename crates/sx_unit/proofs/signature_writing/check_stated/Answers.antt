use Rattle.std.proofs.Common.{List, ℕ, [], sym, subst, ◌∙◌}
use Rattle.std.proofs.lemmas.List.{append-nil}
use Rattle.std.proofs.lemmas.Slice.Eq.{bytes_eq-Decides}
use Rattle.sx_notation.proofs.TextReading.{err_if}
use Rattle.sx_words.specs.declared.print_defect.PrintedPart.TheVariants.{Signature, Stated}
use Rattle.sx_typing.specs.Body.{ReadsOnly}
use Rattle.sx_typing.proofs.TypedBodies.{ok_if}
use Rattle.sx_unit.specs.Modules.{module_data}
use Rattle.sx_unit.specs.PrintedParts.{printed_of, part_sort_of}
use Rattle.sx_unit.specs.Written.{IsUnwritten}
use Rattle.sx_unit.proofs.KnownParts.{err_so, stated_read}
use Rattle.sx_unit.proofs.PartSorts.{stated_good}
use Rattle.sx_unit.proofs.PartTexts.{good_part, bad_part}
use Rattle.sx_unit.proofs.signature_writing.check_stated.Goals as goal

pub returns-then-eq-clause-good : goal.returns-then-eq-clause-good
returns-then-eq-clause-good c =
    let m = module_data c.args.given.now in
    let t = printed_of c.args.terms.now in
    let d = m.source.dialect in
    let shown = c.args.shown.now in
    let same = (bytes_eq-Decides shown c.args.signature.now).0 (sym c.if-eq.ensures)
    ∙ c.requires.printed in
    let read = subst (λ (text : List ℕ). ReadsOnly d.language.parts (part_sort_of d Signature) text
    t.signature) (sym same) c.requires.signature.read in
    ok_if c.check_known.result _ _ c.check_known.ensures.short
    (λ _ short. good_part m t Stated c.args.size shown c.requires.size c.requires.text
    (record {
      short = short;
      read = stated_read d c.requires.can.dialect.is
          (c.adds_nothing.ensures c.if-adds_nothing.true) c.facts.ensures.grammar
          c.facts.ensures.brackets t c.requires.terms shown c.requires.utf8 read c.requires.text;
    }))

pub returns-then-eq-clause-refused : goal.returns-then-eq-clause-refused
returns-then-eq-clause-refused c =
    let m = module_data c.args.given.now in
    let t = printed_of c.args.terms.now in
    err_so c.check_known.result _ (IsUnwritten m t) c.check_known.ensures.refused
    (λ e bad. bad_part m t Stated c.args.size c.args.shown.now c.requires.size c.requires.text e
    (c.requires.body, c.requires.signature, c.requires.free)
    (bad m.source.dialect c.args.shown.now t.stated))

pub check_part-requires-clause-good : goal.check_part-requires-clause-good
check_part-requires-clause-good c =
    stated_good (module_data c.args.given.now).source.dialect (printed_of c.args.terms.now)
    c.requires.terms c.requires.free

pub check_part-requires-clause-text : goal.check_part-requires-clause-text
check_part-requires-clause-text c = ([], tt, c.requires.text ∙ sym (append-nil _))

pub returns-in_err-check_part-clause-refused : goal.returns-in_err-check_part-clause-refused
returns-in_err-check_part-clause-refused c =
    let m = module_data c.args.given.now in
    let t = printed_of c.args.terms.now in
    err_if c.from_residual.result _ (IsUnwritten m t) c.from_residual.ensures.1
    (λ e is. subst (IsUnwritten m t) (sym is)
    (bad_part m t Stated c.args.size c.args.shown.now c.requires.size c.requires.text _
    (c.requires.body, c.requires.signature, c.requires.free)
    c.in_err-check_part.ensures.refused))

pub returns-clause-good : goal.returns-clause-good
returns-clause-good c =
    good_part (module_data c.args.given.now) (printed_of c.args.terms.now) Stated c.args.size
    c.args.shown.now c.requires.size c.requires.text c.in_ok-check_part.ensures.good
