use Rattle.sx_lines.specs.Left.{left}
use Rattle.sx_lines.specs.Lines.{lines_from}
use Rattle.sx_directives.specs.declared.file_kind.FileKind.TheVariants as files
use Rattle.sx_outline.specs.Tables.{declared_in}
use Rattle.sx_outline.specs.View as view
use Rattle.sx_outline.proofs.ReadLaws.{answered, declares_from}
use Rattle.sx_outline.proofs.FitLaws.{sized_answer, fit_answer}
use Rattle.sx_outline.proofs.read.read_outline.Goals as goal

pub returns-in_ok-known-in-Ok-clause-answer : goal.returns-in_ok-known-in-Ok-clause-answer
returns-in_ok-known-in-Ok-clause-answer c =
    let k = view.known c.in_ok-known-in-Ok.known in
    answered k c.args.name.now c.args.bytes.now c.read_language.result c.in-Ok.ensures.cases.1
    (declares_from files.Language (declared_in c.new-rows.result) (left c.all.result) (lines_from 1 c.args.bytes.now) k c.new-rows.ensures c.all.ensures.lines c.in_ok-known-in-Ok.ensures) c.read_language.ensures

pub returns-in_ok-known-in-Ok-clause-sized : goal.returns-in_ok-known-in-Ok-clause-sized
returns-in_ok-known-in-Ok-clause-sized c =
    let k = view.known c.in_ok-known-in-Ok.known in
    sized_answer c.args.name.now c.args.bytes.now c.read_language.result
    (answered k c.args.name.now c.args.bytes.now c.read_language.result c.in-Ok.ensures.cases.1
    (declares_from files.Language (declared_in c.new-rows.result) (left c.all.result) (lines_from 1 c.args.bytes.now) k c.new-rows.ensures c.all.ensures.lines c.in_ok-known-in-Ok.ensures) c.read_language.ensures)

pub returns-in_ok-known-in-Ok-clause-fit : goal.returns-in_ok-known-in-Ok-clause-fit
returns-in_ok-known-in-Ok-clause-fit c =
    let k = view.known c.in_ok-known-in-Ok.known in
    fit_answer c.args.name.now c.args.bytes.now c.read_language.result
    (answered k c.args.name.now c.args.bytes.now c.read_language.result c.in-Ok.ensures.cases.1
    (declares_from files.Language (declared_in c.new-rows.result) (left c.all.result) (lines_from 1 c.args.bytes.now) k c.new-rows.ensures c.all.ensures.lines c.in_ok-known-in-Ok.ensures) c.read_language.ensures)

pub read_language-requires-clause-declares : goal.read_language-requires-clause-declares
read_language-requires-clause-declares c =
    let k = view.known c.in_ok-known-in-Ok.known in
    declares_from files.Language (declared_in c.new-rows.result) (left c.all.result) (lines_from 1 c.args.bytes.now) k c.new-rows.ensures c.all.ensures.lines c.in_ok-known-in-Ok.ensures
