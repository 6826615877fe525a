use Rattle.std.proofs.Common.{◌≡◌, Some, None, refl, ap, ◌∙◌}
use Rattle.std.specs.HashMap.{get_by_text}
use Rattle.sx_grammar.specs.Stems.{without_digits}
use Rattle.sx_outline.specs.Fitting.{kid_sort, stems}
use Rattle.sx_outline.specs.View.{known}
use Rattle.sx_outline.proofs.PlaceLaws.{first_at, found_first}
use Rattle.sx_outline.proofs.FindLaws.{var_found, variable_is, variable_none}
use Rattle.sx_outline.proofs.known.Known.name_fits.Goals as goal

pub returns-in-Some : goal.returns-in-Some
returns-in-Some c = λ kid is.
    let k = c.args.self.now in
    let stem = without_digits c.args.name.now in
    let there : first_at stem (stems (known k)) ≡ Some c.in-Some.place =
    found_first (stems (known k)) k.tables.stems stem c.place_of.result k.tabled.stems_found (c.place_of.ensures ∙ ap (get_by_text k.tables.stems.entries) c.stem_of.ensures) ∙ c.in-Some.is in
    variable_is (known k) c.args.name.now (kid_sort kid) c.index.result.now c.is_sort_of.result (var_found (known k) k.rows.vars.items stem c.in-Some.place c.index.result.now refl there c.index.ensures)
    (c.is_sort_of.ensures kid is)

pub returns-in-None : goal.returns-in-None
returns-in-None c = λ kid is.
    let k = c.args.self.now in
    let stem = without_digits c.args.name.now in
    let none : first_at stem (stems (known k)) ≡ None =
    found_first (stems (known k)) k.tables.stems stem c.place_of.result k.tabled.stems_found (c.place_of.ensures ∙ ap (get_by_text k.tables.stems.entries) c.stem_of.ensures) ∙ c.in-None.is in
    variable_none (known k) c.args.name.now (kid_sort kid) _ none refl
