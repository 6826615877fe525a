use Rattle.sx_outside.specs.Views.{clean_files_of}
use Rattle.sx_compiling.proofs.KeptReads.{put_stands}
use Rattle.sx_compiling.proofs.kept_extensions.shelf_of.Goals as goal

pub returns : goal.returns
returns c =
    put_stands (clean_files_of c.new-shelf.result) (clean_files_of c.put.new.self)
    c.in_ok-name.name c.args.file.now c.in_ok-bytes.bytes.items c.args.bytes.now
    c.in_ok-put.ensures.ok c.in_ok-name.ensures c.in_ok-bytes.ensures.items
