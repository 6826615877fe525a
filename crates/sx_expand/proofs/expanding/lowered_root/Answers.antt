use Rattle.sx_plain.specs.Views.{table_of}
use Rattle.sx_arena.specs.Arena.{trees}
use Rattle.sx_expand.proofs.expanding.lowered_root.Goals as goal

pub read_root-judgement-requires-clause-reader : goal.read_root-judgement-requires-clause-reader
read_root-judgement-requires-clause-reader c = record {
  arena = c.in-Ok.ensures.arena;
  images = c.new.ensures (table_of c.args.reading.now.listing.set.now.plain) (trees c.enter_places.new.arena);
}
