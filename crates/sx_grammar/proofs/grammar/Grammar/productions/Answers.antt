use Rattle.std.proofs.Common.{refl, sym, subst, length}
use Rattle.sx_grammar.specs.Parts.{parts}
use Rattle.sx_grammar.specs.Cycles.{HaveSortsBelow, HavePartsBelow}
use Rattle.sx_grammar.specs.Tables.{AreNumbered}
use Rattle.sx_grammar.proofs.LevelLaws.{sorts_below, parts_below}
use Rattle.sx_grammar.proofs.grammar.Grammar.productions.Goals as goal

pub returns-clause-same : goal.returns-clause-same
returns-clause-same c =
    subst (λ d. AreNumbered d.parts c.deref.result.now) c.self.view_is (subst (AreNumbered (parts c.self.inside.parts)) (sym c.deref.ensures.value) c.self.invariant.has_productions)

pub returns-clause-sorts : goal.returns-clause-sorts
returns-clause-sorts c =
    let p = parts c.self.inside.parts in
    let ps = c.self.inside.productions.items in
    subst (λ d. HaveSortsBelow (length d.parts.sorts) c.deref.result.now) c.self.view_is
    (subst (HaveSortsBelow (length p.sorts)) (sym c.deref.ensures.value) (sorts_below p ps (length p.sorts) c.self.invariant.is_grammar.0.0.0.0 c.self.invariant.has_productions refl))

pub returns-clause-parts : goal.returns-clause-parts
returns-clause-parts c =
    let p = parts c.self.inside.parts in
    let ps = c.self.inside.productions.items in
    subst (λ d. HavePartsBelow (length d.parts.sorts) c.deref.result.now) c.self.view_is
    (subst (HavePartsBelow (length p.sorts)) (sym c.deref.ensures.value) (parts_below p ps (length p.sorts) c.self.invariant.is_grammar.0.0.0.0 c.self.invariant.has_productions refl))
