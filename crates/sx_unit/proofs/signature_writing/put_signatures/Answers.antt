use Rattle.std.proofs.Common.{◌≡◌, ◌≤◌, ◌+◌, length, ap, arith}
use Rattle.sx_earley.specs.Completed.{sort_number}
use Rattle.sx_words.specs.declared.print_defect.PrintedPart.TheVariants.{Signature, Stated}
use Rattle.sx_unit.specs.Modules.{module_data}
use Rattle.sx_unit.specs.PrintedParts.{printed_of, part_sort_of}
use Rattle.sx_unit.specs.Texts.{written_interface}
use Rattle.sx_interface.proofs.Lengths.{size_of}
use Rattle.sx_unit.proofs.PartSorts.{part_fits, stated_fits}
use Rattle.sx_unit.proofs.PartTexts.{signatures_within}
use Rattle.sx_unit.proofs.signature_writing.put_signatures.Goals as goal

pub show-requires-clause-fits : goal.show-requires-clause-fits
show-requires-clause-fits c =
    let d = (module_data c.args.given.now).source.dialect in
    let t = printed_of c.args.terms.now in (
      sort_number (part_sort_of d Signature),
      part_fits d c.requires.can.dialect.is Signature t.signature
          c.requires.terms.signature,
    )

pub show-requires-2-clause-fits : goal.show-requires-2-clause-fits
show-requires-2-clause-fits c =
    let d = (module_data c.args.given.now).source.dialect in (
      sort_number (part_sort_of d Stated),
      stated_fits d c.requires.can.dialect.is
          (printed_of c.args.terms.now) c.requires.terms,
    )

pub check_signature-requires-clause-within : goal.check_signature-requires-clause-within
check_signature-requires-clause-within c =
    let it = written_interface (module_data c.args.given.now) c.args.base.now c.deref.result.now
    c.deref-2.result.now in
    let text = c.in_ok-text.text.items in
    let within : length c.deref.result.now + (length c.deref-2.result.now + 1) ≤ length text =
    signatures_within it text c.in_ok-text.ensures in
    let here : length c.deref.result.now ≡ length c.in_ok-signature.signature.items =
    ap length c.deref.ensures.value in
    let again : length c.deref-3.result.now ≡ length c.in_ok-signature.signature.items =
    ap length c.deref-3.ensures.value in
    let line : length c.deref-2.result.now ≡ length c.in_ok-stated.stated.items =
    ap length c.deref-2.ensures.value in
    omega (
      arith,
      within,
      here,
      again,
      line,
      size_of c.in_ok-text.text c.len-size.result
          c.len-size.ensures,
      size_of c.in_ok-stated.stated c.len.result c.len.ensures,
    )

pub check_stated-requires-clause-within : goal.check_stated-requires-clause-within
check_stated-requires-clause-within c =
    let it = written_interface (module_data c.args.given.now) c.args.base.now c.deref.result.now
    c.deref-2.result.now in
    let text = c.in_ok-text.text.items in
    let within : length c.deref.result.now + (length c.deref-2.result.now + 1) ≤ length text =
    signatures_within it text c.in_ok-text.ensures in
    let line : length c.deref-2.result.now ≡ length c.in_ok-stated.stated.items =
    ap length c.deref-2.ensures.value in
    let again : length c.deref-5.result.now ≡ length c.in_ok-stated.stated.items =
    ap length c.deref-5.ensures.value in
    omega (
      arith,
      within,
      line,
      again,
      size_of c.in_ok-text.text c.len-size.result
          c.len-size.ensures,
    )
