use Rattle.std.proofs.Common.{◌≡◌, refl, sym, subst}
use Rattle.std.specs.List.{AllByRecursion}
use Rattle.sx_grammar.specs.Parts.{parts}
use Rattle.sx_grammar.specs.Made.{IsGrammar}
use Rattle.sx_notation.specs.RuleParts.{rule_parts}
use Rattle.sx_notation.specs.RuleLaws.{HaveSortsOf}
use Rattle.sx_language.specs.States.{IsNameOfSort, AreStems}
use Rattle.sx_language.specs.Prepared.{whole, IsNoGrammars}
use Rattle.sx_language.proofs.Stating.{grammar_refused, sorts_named, forms_known, prepared, no_forms, some_forms}
use Rattle.sx_language.proofs.preparing.prepare.Goals as goal

pub returns-in-Err-make_grammars-clause-refused : goal.returns-in-Err-make_grammars-clause-refused
returns-in-Err-make_grammars-clause-refused c =
    grammar_refused c.args.name.now c.args.bytes.now c.in-Ok.outline c.in-Err-make_grammars.error c.in-Ok.ensures.usable.outlined
    (subst (λ fs. IsNoGrammars (parts c.in-Ok.outline.parts) fs c.in-Err-make_grammars.error) c.deref.ensures.value c.in-Err-make_grammars.ensures.refused)

pub metas_of-requires : goal.metas_of-requires
metas_of-requires c =
    subst (AllByRecursion (λ v. IsNameOfSort c.in-Ok-make_grammars.grammars.base.parts v.sort)) (sym c.deref-2.ensures.value)
    (sorts_named c.args.name.now c.args.bytes.now c.in-Ok.outline c.in-Ok-make_grammars.grammars.base c.in-Ok-make_grammars.ensures.base.0 c.in-Ok.ensures.usable)

pub unreachable-requires : goal.unreachable-requires
unreachable-requires c =
    let fs = c.in-Ok.outline.forms.items in
    let is = subst (λ l. IsGrammar (rule_parts (parts c.in-Ok.outline.parts) l)) c.deref.ensures.value c.in-Ok-make_grammars.ensures.rule.1 in
    no_forms c.in-Ok-make_grammars.grammars.base.parts c.deref-3.result.now c.in-Ok-None.field-0 c.in-Ok-None.field-0-is c.in-Ok-None.ensures
    (subst (HaveSortsOf c.in-Ok-make_grammars.grammars.base.parts) (sym c.deref-3.ensures.value)
    (forms_known c.args.name.now c.args.bytes.now c.in-Ok.outline c.in-Ok-make_grammars.grammars.base c.in-Ok-make_grammars.ensures.base.0 is c.in-Ok.ensures.usable))

pub returns-in-Ok-Some-clause-prepared : goal.returns-in-Ok-Some-clause-prepared
returns-in-Ok-Some-clause-prepared c =
    let p = parts c.in-Ok.outline.parts in
    let base = c.in-Ok-make_grammars.grammars.base in
    let rule = c.in-Ok-make_grammars.grammars.rule in
    prepared c.args.name.now c.args.bytes.now c.in-Ok.outline _ base c.in-Ok.ensures.usable c.in-Ok-make_grammars.ensures.base.0 c.in-Ok-make_grammars.ensures.base.1
    (subst (λ l. (rule ≡ whole (rule_parts p l)) × IsGrammar (rule_parts p l)) c.deref.ensures.value c.in-Ok-make_grammars.ensures.rule) refl
    (subst (λ l. AreStems base.parts l c.in-Ok-metas_of.metas.stems.items) c.deref-2.ensures.value c.in-Ok-metas_of.ensures)
    (some_forms base.parts c.deref-3.result.now c.in-Ok-Some.field-0 c.in-Ok.outline.forms.items c.in-Ok-Some.known c.deref-3.ensures.value c.in-Ok-Some.field-0-is c.in-Ok-Some.ensures) refl refl
