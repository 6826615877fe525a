use Rattle.sx_rules.specs.Sets.{shapes_in, forms_in, names_in}
use Rattle.sx_rules.proofs.Facts.{kept_distinct}
use Rattle.sx_rules.proofs.ListLaws.{place_is}
use Rattle.sx_rules.proofs.list_reading.place_of.Goals as goal

pub returns : goal.returns
returns c =
    let s = c.args.rules.now in
    place_is (names_in s) c.args.name.now c.find_bytes.result (kept_distinct (shapes_in s) (forms_in s) s.rules.items s.good) c.find_bytes.ensures
