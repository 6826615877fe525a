use Rattle.std.proofs.Common.{arith}
use Rattle.std.proofs.lemmas.Option.{slice_get_within}
use Rattle.sx_forest.proofs.ends.index_at.Goals as goal

pub loop-low-init : goal.loop-low-init
loop-low-init c = record {
  first = omega arith;
  along = omega arith;
  last = omega arith;
  before = λ i e first low at. absurd (omega arith);
  after = λ i e high at. let within = slice_get_within c.args.entries.now i e at in absurd (omega arith);
}
