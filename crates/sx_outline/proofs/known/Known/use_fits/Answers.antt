use Rattle.std.proofs.Common.{refl, ◌∙◌}
use Rattle.sx_outline.specs.View.{known}
use Rattle.sx_outline.proofs.PlaceLaws.{found_first}
use Rattle.sx_outline.proofs.FindLaws.{use_there, use_none}
use Rattle.sx_outline.proofs.known.Known.use_fits.Goals as goal

pub returns-in-Some : goal.returns-in-Some
returns-in-Some c =
    let k = c.args.self.now in
    use_there (known k) c.args.name.now c.in-Some.field-0 _ (found_first (known k).uses k.tables.uses c.args.name.now c.place.result k.tabled.uses_found c.place.ensures ∙ c.in-Some.is) refl

pub returns-in-None : goal.returns-in-None
returns-in-None c =
    let k = c.args.self.now in
    use_none (known k) c.args.name.now _ (found_first (known k).uses k.tables.uses c.args.name.now c.place.result k.tabled.uses_found c.place.ensures ∙ c.in-None.is) refl
