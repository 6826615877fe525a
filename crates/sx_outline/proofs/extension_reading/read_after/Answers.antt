use Rattle.std.proofs.Common.{false, length, refl}
use Rattle.sx_lines.specs.Left.{left}
use Rattle.sx_directives.specs.declared.file_kind.FileKind.TheVariants as files
use Rattle.sx_outline.specs.Declarations.{Declared, declared_before}
use Rattle.sx_outline.specs.Headers.{header}
use Rattle.sx_outline.specs.Known.{Declares, kept_lines}
use Rattle.sx_outline.specs.Stages.{start_after}
use Rattle.sx_outline.specs.Tables.{declared_in}
use Rattle.sx_outline.specs.View as view
use Rattle.sx_outline.proofs.ReadLaws.{uses_stay}
use Rattle.sx_outline.proofs.ExtensionLaws.{after_read, after_refused, reader_after, declares_after, alike_of, end_as}
use Rattle.sx_outline.proofs.extension_reading.read_after.Goals as goal

pub returns-in-Ok : goal.returns-in-Ok
returns-in-Ok c =
    let k = view.known c.in_ok-known.known in
    let sorts = c.args.sorts.now in
    let vars = c.args.vars.now in
    let uses = c.args.header.uses.items in
    let base : Declared = declared_before sorts vars uses in
    let lines = kept_lines (left c.args.lines) in
    let declares : Declares files.Extension false base lines k = declares_after base (declared_in c.in_ok-rows.rows) k lines c.in_ok-rows.ensures c.in_ok-known.ensures in
    after_read sorts vars k (header c.args.header) lines c.in-Ok.reader c.in-Ok._number c.finish_extension.result declares
    (c.in-Ok.ensures (start_after base) (reader_after k sorts vars uses c.after_header-reader.result (length vars) refl c.after_header-reader.ensures) declares)
    (λ s reader begun whole.
    end_as k sorts c.args.header.name c.args.header.language uses s c.finish_extension.result (alike_of false base lines k declares).sorts (uses_stay files.Extension false base lines k declares)
    (c.finish_extension.ensures s reader begun whole))

pub returns-in-Err : goal.returns-in-Err
returns-in-Err c =
    let k = view.known c.in_ok-known.known in
    let sorts = c.args.sorts.now in
    let vars = c.args.vars.now in
    let uses = c.args.header.uses.items in
    let base : Declared = declared_before sorts vars uses in
    let lines = kept_lines (left c.args.lines) in
    let declares : Declares files.Extension false base lines k = declares_after base (declared_in c.in_ok-rows.rows) k lines c.in_ok-rows.ensures c.in_ok-known.ensures in
    after_refused sorts vars k (header c.args.header) lines c.in-Err.e declares
    (c.in-Err.ensures (start_after base) (reader_after k sorts vars uses c.after_header-reader.result (length vars) refl c.after_header-reader.ensures) declares)

pub finish_extension-requires-clause-no_forms : goal.finish_extension-requires-clause-no_forms
finish_extension-requires-clause-no_forms c =
    let base : Declared = declared_before c.args.sorts.now c.args.vars.now c.args.header.uses.items in
    let lines = kept_lines (left c.args.lines) in
    (alike_of false base lines (view.known c.in_ok-known.known) (declares_after base (declared_in c.in_ok-rows.rows) (view.known c.in_ok-known.known) lines c.in_ok-rows.ensures c.in_ok-known.ensures)).forms

pub finish_extension-requires-clause-no_mains : goal.finish_extension-requires-clause-no_mains
finish_extension-requires-clause-no_mains c =
    let base : Declared = declared_before c.args.sorts.now c.args.vars.now c.args.header.uses.items in
    let lines = kept_lines (left c.args.lines) in
    (alike_of false base lines (view.known c.in_ok-known.known) (declares_after base (declared_in c.in_ok-rows.rows) (view.known c.in_ok-known.known) lines c.in_ok-rows.ensures c.in_ok-known.ensures)).mains
