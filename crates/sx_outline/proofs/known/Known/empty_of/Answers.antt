use Rattle.std.proofs.Common.{◌≡◌, [], Some, sym, ap, ◌∙◌}
use Rattle.std.specs.Prelude.{slice_get}
use Rattle.std.proofs.lemmas.Bool.{false≢true}
use Rattle.sx_grammar.specs.Parts.{line}
use Rattle.sx_outline.specs.Fitting.{parts_of_symbols}
use Rattle.sx_outline.specs.View.{known}
use Rattle.sx_outline.proofs.FindLaws.{constructor_place, constructor_of, constructor_other, line_found}
use Rattle.sx_outline.proofs.known.Known.empty_of.Goals as goal
use Rattle.sx_outline.proofs.known.Known.empty_of.Goals.{After-has_no_kid}

-- the production at the number
line_here : (c : After-has_no_kid) → slice_get (known c.args.self.now).productions c.in-Some.number ≡ Some (line c.index.result.now)
line_here c =
    let h = c.in-Some.ensures in
    line_found c.args.self.now.rows.productions.items c.args.label.now c.in-Some.number c.index.result.now
    (constructor_place (known c.args.self.now) c.args.label.now c.args.environment.now c.in-Some.number h.0 h.1) c.index.ensures

pub returns-then-has_no_kid : goal.returns-then-has_no_kid
returns-then-has_no_kid c =
    let h = c.in-Some.ensures in
    constructor_of (known c.args.self.now) c.args.label.now c.args.environment.now c.in-Some.number (line c.index.result.now) h.0 [] h.1
    (line_here (goal.at.returns-then-has_no_kid c).After-has_no_kid) (ap parts_of_symbols (sym c.deref.ensures.value) ∙ c.has_no_kid.ensures.0 c.if-has_no_kid.true)

pub returns-else-has_no_kid : goal.returns-else-has_no_kid
returns-else-has_no_kid c = λ number k.
    let h = c.in-Some.ensures in
    constructor_other (known c.args.self.now) c.args.label.now c.args.environment.now c.in-Some.number number (line c.index.result.now) h.0 [] h.1
    (line_here (goal.at.returns-else-has_no_kid c).After-has_no_kid) (λ e. false≢true (sym c.if-has_no_kid.false ∙ c.has_no_kid.ensures.1 (ap parts_of_symbols c.deref.ensures.value ∙ e))) k

pub returns-in-None : goal.returns-in-None
returns-in-None c = λ number k. c.in-None.ensures number [] k
