use Rattle.std.proofs.Common.{◌∙◌, refl}
use Rattle.sx_outline.specs.Fitting.{declared_sort_names}
use Rattle.sx_outline.specs.View.{known}
use Rattle.sx_outline.proofs.PlaceLaws.{found_first}
use Rattle.sx_outline.proofs.FindLaws.{typed_found, typed_none}
use Rattle.sx_outline.proofs.known.Known.typed_of.Goals as goal

pub returns-in-Some : goal.returns-in-Some
returns-in-Some c =
    let k = c.args.self.now in
    typed_found k.rows.sorts.items c.args.name.now c.in-Some.place c.index.result.now (known k) refl
    (found_first (declared_sort_names (known k)) k.tables.sorts c.args.name.now c.place.result k.tabled.sorts_found c.place.ensures ∙ c.in-Some.is) c.index.ensures

pub returns-in-None : goal.returns-in-None
returns-in-None c =
    let k = c.args.self.now in
    typed_none c.args.name.now (known k) (found_first (declared_sort_names (known k)) k.tables.sorts c.args.name.now c.place.result k.tabled.sorts_found c.place.ensures ∙ c.in-None.is)
