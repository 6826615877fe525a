use Rattle.std.proofs.Common.{◌∙◌}
use Rattle.sx_outline.specs.Fitting.{declared_sort_names}
use Rattle.sx_outline.specs.View.{known}
use Rattle.sx_outline.proofs.PlaceLaws.{found_first}
use Rattle.sx_outline.proofs.FindLaws.{known_sort}
use Rattle.sx_outline.proofs.known.Known.is_known_sort.Goals as goal

pub returns-in-None : goal.returns-in-None
returns-in-None c =
    let k = c.args.self.now in
    known_sort (known k) c.args.name.now c.place.result c.is_some.result (λ lexical. c.in-None.ensures lexical.0 (c.bytes.ensures.value ∙ lexical.1))
    (found_first (declared_sort_names (known k)) k.tables.sorts c.args.name.now c.place.result k.tabled.sorts_found c.place.ensures) c.is_some.ensures
