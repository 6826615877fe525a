use Rattle.std.proofs.Common.{◌≡◌, map, length, option_map, unwrap_or, [], Some, None, Option, subst, ap, ◌∙◌, arith, Bor, Vec}
use Rattle.std.specs.declared.alloc.Global.{Global}
use Rattle.std.specs.Prelude.{MatchOption}
use Rattle.sx_term.specs.declared.term.Term.{Term}
use Rattle.sx_term.specs.Term.{tree}
use Rattle.sx_grammar.specs.Parts.{numbered}
use Rattle.sx_print.specs.Printed.{AddsTokens}
use Rattle.sx_print.proofs.Cutting.{text_utf8}
use Rattle.sx_rules.specs.Deep.{AreShallow}
use Rattle.sx_rules.specs.Sets.{forms_in}
use Rattle.sx_rules.specs.Views as view
use Rattle.sx_notation.specs.GoalText.{goal_tokens}
use Rattle.sx_notation.specs.Placed.{shown_term}
use Rattle.sx_notation.proofs.Fitting.{contents_of, as_many_forms, here_is, row_is, as_many, puttable}
use Rattle.sx_notation.proofs.goal_printing.print_goal.Goals as goal
use Rattle.sx_notation.proofs.goal_printing.print_goal.Goals.{In_ok-here}

-- the contents are those of the goal
shown_here : (c : In_ok-here)
    → map shown_term c.in_ok-here.here.items ≡ contents_of (forms_in c.args.language.now.rules) (view.goal c.args.goal.now) (option_map (λ w. map tree w.now.items) c.args.got)
shown_here c =
    here_is c.forms-forms.result.now (forms_in c.args.language.now.rules) c.args.goal.now.form c.requires.fits.form c.index-forms-goal.result c.deref.result.now
    (map tree c.deref-2.result.now) (map tree c.args.goal.now.inputs.items) _ _
    c.forms-forms.ensures c.requires.fits.is c.index-forms-goal.is c.deref.ensures.value (ap (map tree) c.deref-2.ensures.value) c.in_ok-here.ensures

shallow_outputs : (got : Option (Bor (Vec Term Global))) → MatchOption got Unit (λ w. AreShallow (map tree w.now.items)) → AreShallow (unwrap_or (option_map (λ w. map tree w.now.items) got) [])
shallow_outputs None h = tt
shallow_outputs (Some w) h = h

pub put_places-requires-clause-many : goal.put_places-requires-clause-many
put_places-requires-clause-many c =
    let known = forms_in c.args.language.now.rules in
    let at = shown_here (goal.at.put_places-requires-clause-many c).In_ok-here in
    as_many c.args.grammar.now.parts known (view.goal c.args.goal.now) (length c.forms-forms.result.now) c.production_of-production.result.now c.deref-3.result.now
    (as_many_forms c.forms-forms.result.now known c.forms-forms.ensures) c.production_of-production.ensures.same c.deref-3.ensures.value
    (length c.args.vars.now) (option_map (λ w. map tree w.now.items) c.args.got) c.deref-4.result.now c.requires.forms c.requires.fits (ap (map shown_term) c.deref-4.ensures.value ∙ at)

pub put_places-requires-clause-puttable : goal.put_places-requires-clause-puttable
put_places-requires-clause-puttable c =
    let known = forms_in c.args.language.now.rules in
    let at = shown_here (goal.at.put_places-requires-clause-puttable c).In_ok-here in
    puttable (numbered c.args.grammar.now.parts) (length c.args.vars.now) known (view.goal c.args.goal.now) (option_map (λ w. map tree w.now.items) c.args.got) c.deref-4.result.now
    c.requires.fits c.requires.inputs (shallow_outputs c.args.got c.requires.outputs) (ap (map shown_term) c.deref-4.ensures.value ∙ at)

adds_here : (c : goal.After-drop-here)
    → map shown_term c.in_ok-here.here.items ≡ contents_of (forms_in c.args.language.now.rules) (view.goal c.args.goal.now) (option_map (λ w. map tree w.now.items) c.args.got)
    → AddsTokens (goal_tokens c.args.grammar.now.parts c.args.vars.now (forms_in c.args.language.now.rules) (view.goal c.args.goal.now) (option_map (λ w. map tree w.now.items) c.args.got)) c.args.into.now.items c.put_places.new.into.items
adds_here c at =
    let known = forms_in c.args.language.now.rules in
    subst (λ x. AddsTokens x c.args.into.now.items c.put_places.new.into.items)
    (row_is c.args.grammar.now.parts known (view.goal c.args.goal.now) (length c.forms-forms.result.now) c.production_of-production.result.now c.deref-3.result.now
    (as_many_forms c.forms-forms.result.now known c.forms-forms.ensures) c.production_of-production.ensures.same c.deref-3.ensures.value
    c.args.vars.now (option_map (λ w. map tree w.now.items) c.args.got) (map shown_term c.deref-4.result.now) (ap (map shown_term) c.deref-4.ensures.value ∙ at))
    c.in-Ok.ensures.ok

pub returns-in-Ok-clause-text : goal.returns-in-Ok-clause-text
returns-in-Ok-clause-text c =
    c.drop_last_blank.ensures (goal_tokens c.args.grammar.now.parts c.args.vars.now (forms_in c.args.language.now.rules) (view.goal c.args.goal.now) (option_map (λ w. map tree w.now.items) c.args.got))
    c.args.into.now.items (omega arith) (adds_here c (shown_here (goal.at.returns-in-Ok-clause-text c).In_ok-here)).text

pub returns-in-Ok-clause-utf8 : goal.returns-in-Ok-clause-utf8
returns-in-Ok-clause-utf8 c = text_utf8 _ (adds_here c (shown_here (goal.at.returns-in-Ok-clause-utf8 c).In_ok-here)).utf8
