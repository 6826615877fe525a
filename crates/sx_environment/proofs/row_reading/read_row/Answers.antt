use Rattle.std.proofs.Common.{◌∙◌, sym, subst}
use Rattle.sx_term.specs.declared.sort.Sort.{Sort}
use Rattle.sx_earley.specs.Completed.{IsSort}
use Rattle.sx_grammar.specs.Parts.{Parts}
use Rattle.sx_interface.specs.InterfaceView.{interface_view}
use Rattle.sx_environment.specs.Seen.{row_parts, row_sort, import_row_text}
use Rattle.sx_environment.specs.SeenFrom.{seen_from}
use Rattle.sx_environment.proofs.Rows.{row_is_sort, unread_row}
use Rattle.sx_environment.proofs.row_reading.read_row.Goals as goal

pub read_body_text-requires-clause-sort : goal.read_body_text-requires-clause-sort
read_body_text-requires-clause-sort c =
    let s = seen_from c.args.given.now in
    let there = row_is_sort s c.args.row c.requires.dialect.is in
    subst (λ (sort : Sort). IsSort c.row_grammar.result.now.parts sort)
    (sym c.main_sort-sort.ensures)
    (subst (λ (p : Parts). IsSort p (row_sort s)) (sym c.row_grammar.ensures) there)

pub refusal-requires-clause-unread : goal.refusal-requires-clause-unread
refusal-requires-clause-unread c =
    let s = seen_from c.args.given.now in
    let it = interface_view c.args.import.now.interface.now in (
      s,
      unread_row c.row_grammar.result.now.parts (row_parts s c.args.row) c.main_sort-sort.result
          (row_sort s) c.bytes.result.now (import_row_text it c.args.row) c.in-Err.error
          c.row_grammar.ensures c.main_sort-sort.ensures
          (c.bytes.ensures.value ∙ c.text-text.ensures)
          c.in-Err.ensures.refused,
    )

pub returns-in-Err-clause-refused : goal.returns-in-Err-clause-refused
returns-in-Err-clause-refused c =
    let s = seen_from c.args.given.now in
    let it = interface_view c.args.import.now.interface.now in
    λ before due. c.refusal.ensures s before
    (unread_row c.row_grammar.result.now.parts (row_parts s c.args.row) c.main_sort-sort.result
    (row_sort s) c.bytes.result.now (import_row_text it c.args.row) c.in-Err.error
    c.row_grammar.ensures c.main_sort-sort.ensures (c.bytes.ensures.value ∙ c.text-text.ensures)
    c.in-Err.ensures.refused) due
