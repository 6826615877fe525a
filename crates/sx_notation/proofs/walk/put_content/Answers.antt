use Rattle.std.proofs.Common.{sym, subst}
use Rattle.std.proofs.lemmas.Result.{on_ok_weaker}
use Rattle.sx_grammar.specs.Parts.{numbered}
use Rattle.sx_print.specs.Printed.{AddsTokens}
use Rattle.sx_notation.specs.GoalText.{printer}
use Rattle.sx_notation.specs.Placed.{shown_term}
use Rattle.sx_notation.proofs.walk.put_content.Goals as goal

pub returns-in-Some-clause-ok : goal.returns-in-Some-clause-ok
returns-in-Some-clause-ok c =
    on_ok_weaker c.put_term.result
    (λ adds place. subst (λ x. AddsTokens (printer (numbered c.args.grammar.now.parts) c.args.vars.now (shown_term x) place c.args.least) c.args.into.now.items c.put_term.new.into.items) (sym c.in-Some.is) (adds place))
    c.put_term.ensures.ok
