use Rattle.std.proofs.Common.{◌≡◌, ◌∙◌, sym}
use Rattle.sx_earley.specs.Shown.{plain}
use Rattle.sx_earley.specs.Chart.{Joins, moved}
use Rattle.sx_earley.proofs.Growth.{only_more}
use Rattle.sx_earley.proofs.growing.join_complete.Goals as goal

pub returns-then-makes-clause-only : goal.returns-then-makes-clause-only
returns-then-makes-clause-only c =
    let joins : Joins (plain c.args.grammar.now) c.args.before c.args.filling = record {
      sort = c.in-Some.sort;
      least = c.in-Some.least;
      waits = sym c.requires.waits.is ∙ c.in-Some.is;
      fits = c.makes.ensures.0 c.if-makes.true;
      complete = c.requires.complete;
      meets = c.if-before-filling.true;
    } in
    only_more c.args.found.now c.add_noted.new.found (λ i. i ≡ moved c.args.before c.args.filling.end)
    (λ i. Joins (plain c.args.grammar.now) c.args.before c.args.filling × (i ≡ moved c.args.before c.args.filling.end))
    (λ i e. (joins, e)) c.add_noted.ensures.only
