use Rattle.std.proofs.Common.{◌≡◌, ◌∷◌, [], Some, sym, ap, ◌∙◌}
use Rattle.std.specs.Prelude.{slice_get}
use Rattle.std.proofs.lemmas.Bool.{false≢true}
use Rattle.sx_term.specs.declared.lex_kind.LexKind.TheVariants.{Id}
use Rattle.sx_grammar.specs.Parts.{line}
use Rattle.sx_outline.specs.Fitting.{parts_of_symbols, of_sort, of_kind}
use Rattle.sx_outline.specs.View.{known}
use Rattle.sx_outline.proofs.FindLaws.{constructor_place, constructor_of, constructor_other, line_found}
use Rattle.sx_outline.proofs.known.Known.add_of.Goals as goal
use Rattle.sx_outline.proofs.known.Known.add_of.Goals.{After-are_add_kids}

-- the production at the number
line_here : (c : After-are_add_kids) → slice_get (known c.args.self.now).productions c.in-Some.number ≡ Some (line c.index.result.now)
line_here c =
    let h = c.in-Some.ensures in
    line_found c.args.self.now.rows.productions.items c.args.label.now c.in-Some.number c.index.result.now
    (constructor_place (known c.args.self.now) c.args.label.now c.args.environment.now c.in-Some.number h.0 h.1) c.index.ensures

pub returns-then-are_add_kids : goal.returns-then-are_add_kids
returns-then-are_add_kids c =
    let h = c.in-Some.ensures in
    constructor_of (known c.args.self.now) c.args.label.now c.args.environment.now c.in-Some.number (line c.index.result.now) h.0 (of_sort c.args.environment.now ∷ of_kind Id ∷ of_sort c.args.signature.now ∷ []) h.1
    (line_here (goal.at.returns-then-are_add_kids c).After-are_add_kids) (ap parts_of_symbols (sym c.deref.ensures.value) ∙ c.are_add_kids.ensures.0 c.if-are_add_kids.true)

pub returns-else-are_add_kids : goal.returns-else-are_add_kids
returns-else-are_add_kids c = λ number k.
    let h = c.in-Some.ensures in
    constructor_other (known c.args.self.now) c.args.label.now c.args.environment.now c.in-Some.number number (line c.index.result.now) h.0 (of_sort c.args.environment.now ∷ of_kind Id ∷ of_sort c.args.signature.now ∷ []) h.1
    (line_here (goal.at.returns-else-are_add_kids c).After-are_add_kids) (λ e. false≢true (sym c.if-are_add_kids.false ∙ c.are_add_kids.ensures.1 (ap parts_of_symbols c.deref.ensures.value ∙ e))) k

pub returns-in-None : goal.returns-in-None
returns-in-None c = λ number k. c.in-None.ensures number (of_sort c.args.environment.now ∷ of_kind Id ∷ of_sort c.args.signature.now ∷ []) k
