use Rattle.std.proofs.Common.{◌≡◌, List, length, map, ap, ◌∙◌, sym, subst, arith}
use Rattle.std.proofs.lemmas.List.{length-map}
use Rattle.sx_term.specs.Shapes.{shapes}
use Rattle.sx_rules.specs.Views as view
use Rattle.sx_rules.specs.Views.{FormData}
use Rattle.sx_outline.specs.declared.rule_lines.RuleLines.{RuleLines}
use Rattle.sx_outline.specs.Stages.{rule_data}
use Rattle.sx_language.proofs.UsableRules.{rules_are_usable}
use Rattle.sx_extension.specs.Bodies.{AreReadBodies}
use Rattle.sx_extension.specs.Grounds.{ground}
use Rattle.sx_extension.specs.Stages.{reader_of}
use Rattle.sx_extension.specs.ReadTexts.{read_texts}
use Rattle.sx_extension.proofs.Lacking.{as_many}
use Rattle.sx_extension.proofs.BodiesRead.{bodies_read, defect_there, bad_body}
use Rattle.sx_extension.proofs.bodies_of_rules.check_bodies.Goals as goal

pub first_defect-requires-clause-read : goal.first_defect-requires-clause-read
first_defect-requires-clause-read c =
    let g = ground c.args.before.now in
    let x = c.args.prepared.now in
    let t = read_texts c.args.texts.now in
    subst (λ (fs : List FormData). AreReadBodies fs (map rule_data c.deref.result.now) t.rules t.bodies) (sym c.forms-forms.ensures)
    (subst (λ (ls : List RuleLines). AreReadBodies g.forms (map rule_data ls) t.rules t.bodies) (sym c.deref.ensures.value)
    (bodies_read (reader_of g x) (map rule_data x.rules.items) t.names t.rules t.bodies c.requires.rules))

pub first_defect-requires-clause-shallow : goal.first_defect-requires-clause-shallow
first_defect-requires-clause-shallow c =
    let g = ground c.args.before.now in
    let x = c.args.prepared.now in
    let t = read_texts c.args.texts.now in
    (rules_are_usable.shallow (reader_of g x) (map rule_data x.rules.items) t.names t.rules t.bodies c.requires.rules).1

pub index-rule-requires : goal.index-rule-requires
index-rule-requires c =
    let t = read_texts c.args.texts.now in
    let low = defect_there (view.forms c.forms-forms.result.now) (shapes c.args.all.now) c.len.result (map rule_data c.deref.result.now) t.rules t.bodies c.in-Some.number c.in-Some.defect c.in-Some.ensures in
    omega (arith, low, length-map c.deref.result.now rule_data, c.deref.ensures.len)

pub returns-in-Some-clause-refused : goal.returns-in-Some-clause-refused
returns-in-Some-clause-refused c =
    let g = ground c.args.before.now in
    let t = read_texts c.args.texts.now in
    let long : c.len.result ≡ length c.shapes.result.now.cons.items = omega arith in
    let first : c.len.result ≡ length g.shapes = long ∙ sym (as_many c.shapes.result.now.cons.items) ∙ ap length c.shapes.ensures in
    bad_body g.forms (view.forms c.forms-forms.result.now) (shapes c.args.all.now) (length g.shapes) c.len.result c.deref.result.now c.args.prepared.now.rules.items t.rules t.bodies c.in-Some.number c.in-Some.defect
    c.index-rule.result.now c.body_refusal.result c.forms-forms.ensures first c.deref.ensures.value c.in-Some.ensures c.index-rule.ensures c.body_refusal.ensures
