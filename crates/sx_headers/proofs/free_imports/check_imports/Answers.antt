use Rattle.std.proofs.Common.{ℕ, ◌+◌, List, ap, ◌∙◌, subst}
use Rattle.sx_lines.specs.Lines.{lines_from}
use Rattle.sx_lines.specs.Reading.{kept}
use Rattle.sx_grammar.specs.Tables.{literals_of}
use Rattle.sx_interface.proofs.Lengths.{size_of}
use Rattle.sx_headers.specs.FreeImports.{IsTakenAt}
use Rattle.sx_headers.specs.HeaderRows.{number_at}
use Rattle.sx_headers.specs.HeaderStops.{bad_header}
use Rattle.sx_headers.proofs.free_imports.check_imports.Goals as goal

pub returns-in-Ok-clause-step : goal.returns-in-Ok-clause-step
returns-in-Ok-clause-step c =
    let number = c.in-Some.number in
    let uses = size_of c.args.source.now.header.uses c.len.result c.len.ensures in (
      number,
      subst (λ (names : List (List ℕ)). IsTakenAt (literals_of c.args.grammar.now.parts) names
          number)
          c.deref.ensures.value c.in-Some.ensures.taken,
      c.in-Ok.ensures ∙ ap (bad_header c.args.file.now) (c.row_line-line.ensures ∙ (λ i.
          number_at (kept (lines_from 1 (c.deref-in-Some.ensures.value i))) (2 + uses i + number))),
    )
