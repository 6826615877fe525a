use Rattle.std.proofs.Common.{◌∙◌, ap, map, subst}
use Rattle.std.specs.Prelude.{◌≡◌}
use Rattle.sx_term.specs.Shapes.{shape}
use Rattle.sx_grammar.specs.Parts.{parts}
use Rattle.sx_grammar.specs.Told.{numbered_shape, shapes_of}
use Rattle.sx_grammar.proofs.TableLaws.{shapes_are}
use Rattle.sx_grammar.proofs.grammar.Grammar.shapes.Goals as goal

pub returns : goal.returns
returns c =
    let p = parts c.self.inside.parts in
    let made = map shape c.in_ok-cons.field-0.items in
    subst (λ d. made ≡ shapes_of d.parts) c.self.view_is
    (shapes_are p c.self.inside.productions.items made c.self.invariant.has_productions
    (c.in_ok-cons.ensures ∙ ap (λ ss. map (numbered_shape ss) c.deref-2.result.now) c.deref.ensures.value ∙ ap (map (numbered_shape p.sorts)) c.deref-2.ensures.value))
