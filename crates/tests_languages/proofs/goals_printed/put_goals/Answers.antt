use Rattle.std.proofs.Common.{◌∷◌, [], length, refl}
use Rattle.sx_term.specs.declared.sort.Sort.TheVariants.{Plain}
use Rattle.sx_term.specs.Shapes.{shapes}
use Rattle.sx_rules.specs.Sets.{forms_in}
use Rattle.sx_rules.specs.Views as view
use Rattle.tests_languages.proofs.ShownGoals.{has_forms, checked_fits}
use Rattle.tests_languages.proofs.goals_printed.put_goals.Goals as goal

pub print_goal-requires-clause-forms : goal.print_goal-requires-clause-forms
print_goal-requires-clause-forms c =
    let language = c.args.language.now in
    let is = c.requires.language in
    has_forms language.grammar.parts language.rule_grammar.parts is.lines (forms_in language.rules) is.known is.read_by is.forms

pub print_goal-requires-clause-fits : goal.print_goal-requires-clause-fits
print_goal-requires-clause-fits c =
    let language = c.args.language.now in
    let is = c.requires.language in
    (checked_fits language.grammar.parts language.rule_grammar.parts is.lines (forms_in language.rules) (view.form c.args.form.now) (Plain 1 ∷ []) (length c.args.vars.now)
    (shapes c.in_ok-shapes.shapes) c.deref.result.now c.deref-2.result.now c.args.inputs.items c.deref-3.result.now c.args.outputs.items
    c.facts.ensures.grammar is.read_by c.requires.names c.requires.first c.in_ok-shapes.ensures c.deref.ensures.value c.deref-2.ensures.value c.deref-3.ensures.value
    (c.if-not-fit.ensures.inputs refl) (c.if-not-fit.ensures.outputs refl)).0

pub print_goal-requires-2-clause-forms : goal.print_goal-requires-2-clause-forms
print_goal-requires-2-clause-forms c =
    let language = c.args.language.now in
    let is = c.requires.language in
    has_forms language.grammar.parts language.rule_grammar.parts is.lines (forms_in language.rules) is.known is.read_by is.forms

pub print_goal-requires-2-clause-fits : goal.print_goal-requires-2-clause-fits
print_goal-requires-2-clause-fits c =
    let language = c.args.language.now in
    let is = c.requires.language in
    (checked_fits language.grammar.parts language.rule_grammar.parts is.lines (forms_in language.rules) (view.form c.args.form.now) (Plain 1 ∷ []) (length c.args.vars.now)
    (shapes c.in_ok-shapes.shapes) c.deref.result.now c.deref-2.result.now c.args.inputs.items c.deref-3.result.now c.args.outputs.items
    c.facts.ensures.grammar is.read_by c.requires.names c.requires.first c.in_ok-shapes.ensures c.deref.ensures.value c.deref-2.ensures.value c.deref-3.ensures.value
    (c.if-not-fit.ensures.inputs refl) (c.if-not-fit.ensures.outputs refl)).1
