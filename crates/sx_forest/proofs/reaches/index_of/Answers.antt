use Rattle.std.proofs.Common.{◌≡◌, get_or, rules}
use Rattle.std.proofs.lemmas.Option.{slice_get-get_or}
use Rattle.sx_forest.proofs.Reaching.{no_reach}
use Rattle.sx_forest.proofs.reaches.index_of.Goals as goal

pub returns-then-eq : goal.returns-then-eq
returns-then-eq c =
    let r = get_or c.args.reaches.now c.loop-index.index no_reach in
    let same : r.maker ≡ c.args.maker = search rules in
    (r, slice_get-get_or c.args.reaches.now c.loop-index.index no_reach c.loop-index-test.true, same)
