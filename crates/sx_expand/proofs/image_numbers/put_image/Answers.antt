use Rattle.sx_plain.specs.Views.{table_of}
use Rattle.sx_arena.specs.Arena.{tree_at}
use Rattle.sx_expand.specs.Readers.{terms_in}
use Rattle.sx_expand.proofs.NumbersPut.{blank-put}
use Rattle.sx_expand.proofs.image_numbers.put_image.Goals as goal

pub returns-in_ok-node-in-Typed : goal.returns-in_ok-node-in-Typed
returns-in_ok-node-in-Typed c =
    blank-put (table_of c.args.table.now) c.args.sort c.in-Typed.field-0 (tree_at (terms_in c.args.reader.now) c.args.term) c.args.reader.now c.node.new.self c.in_ok-node-in-Typed.field-0 _ c.in-Typed.is c.new.ensures.items c.requires.reader
    c.in_ok-node-in-Typed.ensures
