use Rattle.std.proofs.Common.{ap, subst, sym, ◌∙◌, ◌<◌, length, arith}
use Rattle.sx_grammar.specs.Numbered.{production}
use Rattle.sx_grammar.specs.Parts.{parts}
use Rattle.sx_grammar.specs.Tables.{literals_of}
use Rattle.sx_grammar.specs.Told.{IsSortOfLabel, sort_with}
use Rattle.sx_grammar.proofs.TableLaws.{numbered_length, production_at}
use Rattle.sx_grammar.proofs.grammar.Grammar.sort_of.Goals as goal

pub index-production-requires : goal.index-production-requires
index-production-requires c =
    let p = parts c.self.inside.parts in
    let known : c.args.label < length p.productions = subst (λ d. c.args.label < length d.parts.productions) (sym c.self.view_is) c.requires in
    omega (arith, known, numbered_length p c.self.inside.productions.items c.self.invariant.has_productions)

pub returns : goal.returns
returns c =
    let p = parts c.self.inside.parts in
    let q = c.index-production.result.now in
    subst (λ d. IsSortOfLabel d.parts c.args.label c.sort_with.result) c.self.view_is (
      production (literals_of p) q,
      production_at p c.self.inside.productions.items c.args.label q c.self.invariant.has_productions (subst (λ d. c.args.label < length d.parts.productions) (sym c.self.view_is) c.requires) c.index-production.ensures,
      c.sort_with.ensures ∙ ap (λ ss. sort_with ss q.sort) c.deref.ensures.value,
    )
