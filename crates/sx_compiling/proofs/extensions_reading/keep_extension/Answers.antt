use Rattle.sx_outside.specs.Views.{clean_files_of}
use Rattle.sx_uses.specs.ExtensionFile.{extension_file}
use Rattle.sx_compiling.proofs.KeptReads.{are_after, stands_as}
use Rattle.sx_compiling.proofs.extensions_reading.keep_extension.Goals as goal

pub returns : goal.returns
returns c = λ files are stands.
    let extension = c.args.extension.now in
    are_after (clean_files_of c.args.kept.now) files c.in_ok-file.file c.in_ok-bytes.bytes.items are
    (stands_as files (extension_file extension.header.name) c.in_ok-file.file
    extension.bytes.items c.in_ok-bytes.bytes.items c.deref.result.now stands
    c.in_ok-file.ensures c.in_ok-bytes.ensures.items c.deref.ensures.value) c.put.result
    (clean_files_of c.put.new.self) c.put.ensures.ok c.put.ensures.err
