use Rattle.std.proofs.Common.{◌==◌, take, sym, ap, ◌∙◌, length-take-le}
use Rattle.std.specs.HashSet.{contains_by}
use Rattle.std.proofs.lemmas.Bool.{false≢true}
use Rattle.sx_token.proofs.table.place_of_front.Goals as goal

pub returns-then-not-contains-clause-none : goal.returns-then-not-contains-clause-none
returns-then-not-contains-clause-none c = λ has.
    let size = length-take-le c.args.len c.args.text.now c.requires.boundary.0 in
    let there = c.requires.table.sized (take c.args.len c.args.text.now) has in
    false≢true (sym c.if-not-contains.true ∙ c.contains.ensures ∙ ap (λ k. contains_by (λ n. k == n) c.args.table.now.lengths) (sym size) ∙ there)
