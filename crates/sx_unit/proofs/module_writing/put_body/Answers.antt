use Rattle.std.proofs.Common.{◌≡◌, ◌≤◌, ◌++◌, ◌∷◌, [], List, ℕ, length, sym, subst, ap, ◌∙◌, arith}
use Rattle.std.specs.Str.{IsUtf8}
use Rattle.sx_earley.specs.Completed.{sort_number}
use Rattle.sx_notation.proofs.TextReading.{err_if}
use Rattle.sx_words.specs.declared.print_defect.PrintedPart.TheVariants.{Body}
use Rattle.sx_unit.specs.Modules.{module_data}
use Rattle.sx_unit.specs.PrintedParts.{printed_of, part_sort_of}
use Rattle.sx_unit.specs.Texts.{base_bytes}
use Rattle.sx_unit.specs.Written.{IsUnwritten}
use Rattle.sx_interface.proofs.Lengths.{size_of}
use Rattle.sx_unit.proofs.PartSorts.{part_fits}
use Rattle.sx_unit.proofs.PartTexts.{good_part, bad_part, base_within}
use Rattle.sx_unit.proofs.Shown.{line_utf8}
use Rattle.sx_unit.proofs.module_writing.put_body.Goals as goal

pub show-requires-clause-fits : goal.show-requires-clause-fits
show-requires-clause-fits c =
    let d = (module_data c.args.given.now).source.dialect in
    let t = printed_of c.args.terms.now in (
      sort_number (part_sort_of d Body),
      part_fits d c.requires.can.dialect.is Body t.subject
          c.requires.terms.subject,
    )

pub check_body-requires-clause-utf8 : goal.check_body-requires-clause-utf8
check_body-requires-clause-utf8 c =
    subst IsUtf8 (sym (c.deref-2.ensures.value ∙ c.in_ok-end_line.ensures))
    (line_utf8 c.in_ok-shown.shown.items c.in_ok-shown.ensures.1)

pub check_body-requires-clause-within : goal.check_body-requires-clause-within
check_body-requires-clause-within c =
    let h = (module_data c.args.given.now).source.header in
    let shown = c.in_ok-shown.shown.items in
    let text = c.in_ok-text.text.items in
    let within : length (shown ++ 10 ∷ []) ≤ length text = base_within h shown text
    (c.in_ok-text.ensures (module_data c.args.given.now).source.bytes
    ∙ ap (base_bytes h) c.deref.ensures.value) in
    let line : length c.deref-2.result.now ≡ length (shown ++ 10 ∷ []) =
    ap length (c.deref-2.ensures.value ∙ c.in_ok-end_line.ensures) in
    let size : c.len-size.result ≡ length text = size_of c.in_ok-text.text c.len-size.result
    c.len-size.ensures in
    omega (arith, within, line, size)

pub check_body-requires-clause-text : goal.check_body-requires-clause-text
check_body-requires-clause-text c = c.deref-2.ensures.value ∙ c.in_ok-end_line.ensures
    ∙ ap (λ (l : List ℕ). l ++ 10 ∷ []) c.in_ok-shown.ensures.0

pub returns-in_err-tokens-clause-refused : goal.returns-in_err-tokens-clause-refused
returns-in_err-tokens-clause-refused c =
    let m = module_data c.args.given.now in
    let t = printed_of c.args.terms.now in
    let shown = c.in_ok-shown.ensures.0 in
    let text = c.in_ok-text.ensures m.source.bytes ∙ ap (base_bytes m.source.header)
    (c.deref.ensures.value ∙ shown) in
    err_if c.from_residual-in_err-tokens.result _ (IsUnwritten m t)
    c.from_residual-in_err-tokens.ensures.1 (λ e is. subst (IsUnwritten m t) (sym is)
    (bad_part m t Body c.len-size.result c.deref-2.result.now
    (size_of c.in_ok-text.text c.len-size.result c.len-size.ensures ∙ ap length text)
    (c.deref-2.ensures.value ∙ c.in_ok-end_line.ensures ∙ ap (λ (l : List ℕ). l ++ 10 ∷ []) shown) _
    tt c.in_err-tokens.ensures.refused))

pub returns-clause-text : goal.returns-clause-text
returns-clause-text c =
    let m = module_data c.args.given.now in
    c.in_ok-text.ensures m.source.bytes ∙ ap (base_bytes m.source.header)
    (c.deref.ensures.value ∙ c.in_ok-shown.ensures.0)

pub returns-clause-good : goal.returns-clause-good
returns-clause-good c =
    let m = module_data c.args.given.now in
    let t = printed_of c.args.terms.now in
    let shown = c.in_ok-shown.ensures.0 in
    let text = c.in_ok-text.ensures m.source.bytes ∙ ap (base_bytes m.source.header)
    (c.deref.ensures.value ∙ shown) in
    good_part m t Body c.len-size.result c.deref-2.result.now
    (size_of c.in_ok-text.text c.len-size.result c.len-size.ensures ∙ ap length text)
    (c.deref-2.ensures.value ∙ c.in_ok-end_line.ensures ∙ ap (λ (l : List ℕ). l ++ 10 ∷ []) shown)
    c.in_ok-tokens.ensures.good
