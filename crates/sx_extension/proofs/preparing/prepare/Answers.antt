use Rattle.std.proofs.Common.{List, refl, sym, subst}
use Rattle.std.specs.List.{AllByRecursion}
use Rattle.sx_directives.specs.declared.rows.VarLine.{VarLine}
use Rattle.sx_language.specs.States.{IsNameOfSort, AreStems}
use Rattle.sx_extension.specs.Grounds.{ground}
use Rattle.sx_extension.proofs.Prepares.{prepared}
use Rattle.sx_extension.proofs.preparing.prepare.Goals as goal

pub make_tables-made-requires-clause-sorts : goal.make_tables-made-requires-clause-sorts
make_tables-made-requires-clause-sorts c =
    subst (λ (vs : List VarLine). AllByRecursion
    (λ v. IsNameOfSort (ground c.args.before.now).language v.sort) vs) (sym c.deref.ensures.value)
    c.in-Ok.ensures.usable.sorts

pub returns-in-Ok-made-clause-prepared : goal.returns-in-Ok-made-clause-prepared
returns-in-Ok-made-clause-prepared c =
    let made = c.in-Ok-made.field-0.grammars in
    prepared (ground c.args.before.now) c.args.bytes.now c.requires.before c.in-Ok.outline
    c.in-Ok.ensures.usable made.grammar made.rule_grammar c.in-Ok-made.ensures.made _ refl refl
    (subst (λ (vs : List VarLine). AreStems made.grammar.parts vs
    c.in-Ok-made.field-0.metas.stems.items) c.deref.ensures.value c.in-Ok-made.ensures.stems)
    c.name_of-name.ensures refl refl
