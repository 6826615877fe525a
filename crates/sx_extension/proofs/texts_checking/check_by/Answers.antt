use Rattle.std.proofs.Common.{List, length, map, refl, sym, subst}
use Rattle.std.specs.List.{AllByRecursion}
use Rattle.sx_term.specs.Shapes.{shapes}
use Rattle.sx_outline.specs.Stages.{plain_data}
use Rattle.sx_extension.specs.declared.plain_body.PlainBody.{PlainBody}
use Rattle.sx_extension.specs.Grounds.{ground}
use Rattle.sx_extension.specs.PlainBodies.{body_data, IsBodyOf}
use Rattle.sx_extension.specs.TableRefusals.{HaveParts}
use Rattle.sx_extension.specs.Checks.{HaveRuleSet}
use Rattle.sx_extension.proofs.Checking.{begins, parts, shallow, bodies, has_set, no_set, no_table, ok_all}
use Rattle.sx_extension.proofs.texts_checking.check_by.Goals as goal

pub check_rule_set-requires-clause-shallow : goal.check_rule_set-requires-clause-shallow
check_rule_set-requires-clause-shallow c =
    shallow (ground c.args.before.now) c.requires.before c.requires.prepared.0 c.args.prepared.now c.requires.prepared.1 (shapes c.args.all.now) c.requires.all c.args.texts.now c.requires.texts
    c.args.texts.now.rules.rules.items refl

pub check_rule_set-requires-clause-begins : goal.check_rule_set-requires-clause-begins
check_rule_set-requires-clause-begins c = begins (ground c.args.before.now) c.requires.before c.requires.prepared.0 c.args.prepared.now c.requires.prepared.1 (shapes c.args.all.now) c.requires.all

pub make_table-requires-clause-bodies : goal.make_table-requires-clause-bodies
make_table-requires-clause-bodies c =
    let g = ground c.args.before.now in
    let all = shapes c.args.all.now in
    subst (λ (ps : List PlainBody). AllByRecursion (IsBodyOf all (length g.shapes)) (map body_data ps)) (sym c.deref-in-Ok.ensures.value)
    (bodies g c.requires.before c.requires.prepared.0 c.args.prepared.now c.requires.prepared.1 all c.requires.all c.args.texts.now c.requires.texts)

pub make_table-requires-clause-parts : goal.make_table-requires-clause-parts
make_table-requires-clause-parts c =
    subst (λ (ps : List PlainBody). HaveParts (map plain_data c.args.prepared.now.plains.items) (map body_data ps)) (sym c.deref-in-Ok.ensures.value)
    (parts (ground c.args.before.now) c.requires.before c.requires.prepared.0 c.args.prepared.now c.requires.prepared.1 (shapes c.args.all.now) c.requires.all c.args.texts.now c.requires.texts)

pub returns-in-Ok-clause-rules : goal.returns-in-Ok-clause-rules
returns-in-Ok-clause-rules c =
    let g = ground c.args.before.now in
    ok_all (HaveRuleSet g c.args.prepared.now c.args.texts.now) c.make_table.result
    (has_set g c.requires.before c.args.prepared.now c.args.texts.now (shapes c.args.all.now) c.requires.all c.in-Ok.ensures.good)

pub returns-in-Ok-clause-refused : goal.returns-in-Ok-clause-refused
returns-in-Ok-clause-refused c =
    let g = ground c.args.before.now in
    no_table g c.requires.before c.args.prepared.now c.args.texts.now (shapes c.args.all.now) c.requires.all c.make_table.result c.deref-in-Ok.result.now c.deref-in-Ok.ensures.value
    (has_set g c.requires.before c.args.prepared.now c.args.texts.now (shapes c.args.all.now) c.requires.all c.in-Ok.ensures.good) c.make_table.ensures.refused

pub returns-in-Err-clause-refused : goal.returns-in-Err-clause-refused
returns-in-Err-clause-refused c =
    no_set (ground c.args.before.now) c.requires.before c.args.prepared.now c.args.texts.now (shapes c.args.all.now) c.requires.all c.deref.result.now c.deref.ensures.value c.in-Err.error c.notation_error.result
    c.in-Err.ensures.refused c.notation_error.ensures
