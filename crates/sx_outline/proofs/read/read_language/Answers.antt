use Rattle.std.proofs.Common.{Ok, Err, false}
use Rattle.sx_directives.specs.declared.file_kind.FileKind.TheVariants as files
use Rattle.sx_outline.specs.Declarations.{nothing}
use Rattle.sx_lines.specs.Left.{left}
use Rattle.sx_lines.specs.Lines.{lines_from}
use Rattle.sx_outline.specs.Known.{kept_lines}
use Rattle.sx_outline.specs.View as view
use Rattle.sx_outline.proofs.ReadLaws.{language_ends, language_read, language_refused, uses_stay}
use Rattle.sx_outline.proofs.read.read_language.Goals as goal

pub returns-in-Ok : goal.returns-in-Ok
returns-in-Ok c =
    language_ends (view.known c.args.known) c.args.name.now (kept_lines (lines_from 1 c.args.bytes.now)) c.in-Ok.reader c.in-Ok.number c.finish.result
    (language_read (view.known c.args.known) c.args.name.now (left c.all.result) (lines_from 1 c.args.bytes.now) c.new-reader.result (Ok (c.in-Ok.reader, c.in-Ok.number)) c.all.ensures.lines
    c.requires.declares c.new-reader.ensures c.in-Ok.ensures) c.finish.ensures

pub returns-in-Err : goal.returns-in-Err
returns-in-Err c =
    language_refused (view.known c.args.known) c.args.name.now (kept_lines (lines_from 1 c.args.bytes.now)) c.in-Err.e
    (language_read (view.known c.args.known) c.args.name.now (left c.all.result) (lines_from 1 c.args.bytes.now) c.new-reader.result (Err c.in-Err.e) c.all.ensures.lines
    c.requires.declares c.new-reader.ensures c.in-Err.ensures)

pub finish-requires : goal.finish-requires
finish-requires c = uses_stay files.Language false nothing (kept_lines (lines_from 1 c.args.bytes.now)) (view.known c.args.known) c.requires.declares
