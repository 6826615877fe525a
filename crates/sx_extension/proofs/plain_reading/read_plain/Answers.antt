use Rattle.std.proofs.Common.{◌≡◌, List, Some, ap, ◌∙◌, sym, subst}
use Rattle.std.specs.Prelude.{slice_get}
use Rattle.sx_grammar.specs.Grammar.{Text}
use Rattle.sx_grammar.specs.Parts.{labels}
use Rattle.sx_outline.specs.Stages.{plain_data}
use Rattle.sx_notation.specs.ReadAmong.{IsRefusedAmong}
use Rattle.sx_language.proofs.Premising.{or_memory}
use Rattle.sx_extension.specs.Readings.{IsBadPlain}
use Rattle.sx_extension.proofs.plain_reading.read_plain.Goals as goal

pub read_plain_body-requires-clause-sort : goal.read_plain_body-requires-clause-sort
read_plain_body-requires-clause-sort c = c.requires.can.sort c.in_ok-label.label c.sort_of-sort.result c.sort_of-sort.ensures

pub returns-in-Err-clause-refused : goal.returns-in-Err-clause-refused
returns-in-Err-clause-refused c =
    let l = plain_data c.args.lines.now in
    let r = c.args.tables.now in
    let p = c.args.grammar.now.parts in
    let e = c.in-Err.error in
    let sort = c.sort_of-sort.result in
    let labelled : slice_get (labels p) c.in_ok-label.label ≡ Some l.label = ap (λ (ns : List Text). slice_get ns c.in_ok-label.label) (sym c.requires.known) ∙ c.in_ok-label.ensures.number in
    or_memory (IsBadPlain p r l) e (
      c.in_ok-label.label,
      sort,
      (labelled, c.sort_of-sort.ensures),
      subst (λ (ns : List Text). IsRefusedAmong r.parts r.stems sort l.body.text ns l.body.number e) (c.in_ok-parts.ensures.same ∙ c.deref.ensures.value) c.in-Err.ensures.refused,
    )
