use Rattle.std.proofs.Common.{◌≡◌, Some, sym, ap, ◌∙◌}
use Rattle.std.specs.List.{slice_get}
use Rattle.std.proofs.lemmas.Option.{slice_get-get_or, slice_get_past, same_Some, none-some}
use Rattle.sx_forest.proofs.Marking.{sort_there, no_sort_there}
use Rattle.sx_forest.proofs.first_entries.variable_at.Goals as goal

pub returns-in-Sort : goal.returns-in-Sort
returns-in-Sort c = λ d.
    let shown = c.args.shown.now in let place = c.args.place in let token = c.in-Some.token.now in
    let there = c.in-Some.ensures.lookup.3 in
    sort_there d shown place c.in-Sort.sort (slice_get-get_or shown place token there.0 ∙ ap Some (sym (there.1 token) ∙ c.in-Sort.is))

pub returns-in_default : goal.returns-in_default
returns-in_default c = λ d.
    let shown = c.args.shown.now in let place = c.args.place in let token = c.in-Some.token.now in
    let there = c.in-Some.ensures.lookup.3 in
    let at : slice_get shown place ≡ Some token = slice_get-get_or shown place token there.0 ∙ ap Some (sym (there.1 token)) in
    no_sort_there d shown place (λ n e. c.in_default.not-Sort n (same_Some _ _ (sym at ∙ e)))

pub returns-in-None : goal.returns-in-None
returns-in-None c = λ d.
    let shown = c.args.shown.now in let place = c.args.place in
    no_sort_there d shown place (λ n e. none-some _ (sym (slice_get_past shown place c.in-None.ensures.lookup.3) ∙ e))
