use Rattle.std.proofs.Common.{◌∙◌, ap, subst, ◌≡◌, ℕ, List, None, map, length, arith, ◌<◌}
use Rattle.sx_core.specs.Stated.{NamesSort}
use Rattle.std.specs.Prelude.{slice_get, Some, Contains, MatchOption}
use Rattle.sx_core.specs.Rows.{sort_row}
use Rattle.sx_core.specs.Resolving.{sort_names, rows_in}
use Rattle.sx_core.proofs.SortLaws.{no_sort, sort_found_at}
use Rattle.std.proofs.lemmas.Option.{slice_get_within}
use Rattle.std.proofs.lemmas.List.{length-map}
use Rattle.sx_core.proofs.sort_table.SortTable.sort.Goals as goal

pub returns-in-Some : goal.returns-in-Some
returns-in-Some c =
    sort_found_at (rows_in c.args.self.now) c.args.name.now c.in-Some.number c.sort_at.result
    (subst (λ names. slice_get names c.in-Some.number ≡ Some c.args.name.now) c.requires.names (c.in-Some.ensures.exact ∙ ap Some c.bytes.ensures.value))
    (subst (λ rows. MatchOption c.sort_at.result (slice_get (sort_names (map sort_row rows)) c.in-Some.number ≡ None)
    (λ s. (name : List ℕ) → slice_get (sort_names (map sort_row rows)) c.in-Some.number ≡ Some name → NamesSort (map sort_row rows) name s)) c.deref.ensures.value c.sort_at.ensures)

pub returns-in-None : goal.returns-in-None
returns-in-None c =
    no_sort (rows_in c.args.self.now) c.args.name.now (subst (λ names. Contains names c.args.name.now → ⊥) c.requires.names (rw c.bytes.ensures.value at c.in-None.ensures.exact))

pub overflow_cast-number : goal.overflow_cast-number
overflow_cast-number c =
    let rows = rows_in c.args.self.now in
    let at = subst (λ names. slice_get names c.in-Some.number ≡ Some c.bytes.result.now) c.requires.names c.in-Some.ensures.exact in
    let within : c.in-Some.number < length (sort_names rows) = slice_get_within (sort_names rows) c.in-Some.number c.bytes.result.now at in
    omega (arith, within, c.requires.few, length-map rows (λ r. r.name))
