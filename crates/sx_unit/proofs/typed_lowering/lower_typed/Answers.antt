use Rattle.std.proofs.Common.{sym, ◌∙◌}
use Rattle.sx_unit.specs.Modules.{module_data}
use Rattle.sx_unit.proofs.ExpandedTypings.{goal_has_one, goal_is_shallow, is_listed, lowered_so}
use Rattle.sx_unit.proofs.ExpandedTypings.{unlowered_so}
use Rattle.sx_unit.proofs.typed_lowering.lower_typed.Goals as goal

pub expand-requires-clause-shallow : goal.expand-requires-clause-shallow
expand-requires-clause-shallow c =
    let s = (module_data c.args.given.now).source in
    let t = c.requires.typed in
    goal_is_shallow s c.requires.can.dialect.is _ (sym c.facts.ensures.forms ∙
    c.requires.can.dialect.forms) t.0 t.1 c.args.typed.now t.3 c.requires.can.environment t.2

pub expand-requires-clause-one : goal.expand-requires-clause-one
expand-requires-clause-one c =
    let s = (module_data c.args.given.now).source in
    let t = c.requires.typed in
    goal_has_one s c.requires.can.dialect.is _ (sym c.facts.ensures.forms ∙
    c.requires.can.dialect.forms) t.0 t.1 c.args.typed.now t.3

pub expand-requires-clause-listed : goal.expand-requires-clause-listed
expand-requires-clause-listed c =
    let s = (module_data c.args.given.now).source in
    let t = c.requires.typed in (
      t.3.answer,
      is_listed s c.requires.can.dialect.is _
          (sym c.facts.ensures.forms ∙ c.requires.can.dialect.forms) t.0 t.1 c.args.typed.now t.3
          c.deref.result.now c.deref.ensures.value,
    )

pub returns-in-Ok : goal.returns-in-Ok
returns-in-Ok c = λ tries subject t.
    let s = (module_data c.args.given.now).source in
    let forms = sym c.facts.ensures.forms ∙ c.requires.can.dialect.forms in
    lowered_so s.dialect _ forms t.answer.0 c.args.nodes c.in-Ok.expanded
    (c.in-Ok.ensures t.answer (is_listed s c.requires.can.dialect.is _ forms tries subject
    c.args.typed.now t c.deref.result.now c.deref.ensures.value))

pub returns-in-Err : goal.returns-in-Err
returns-in-Err c = λ tries subject t.
    let s = (module_data c.args.given.now).source in
    let forms = sym c.facts.ensures.forms ∙ c.requires.can.dialect.forms in
    unlowered_so s.dialect _ forms t.answer.0 c.args.nodes c.in-Err.error
    (c.in-Err.ensures t.answer (is_listed s c.requires.can.dialect.is _ forms tries subject
    c.args.typed.now t c.deref.result.now c.deref.ensures.value))
