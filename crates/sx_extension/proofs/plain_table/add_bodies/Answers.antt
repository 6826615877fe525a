use Rattle.std.proofs.Common.{ℕ, ◌∙◌, subst, length}
use Rattle.sx_term.specs.Shapes.{shapes}
use Rattle.sx_plain.specs.Views.{table_of}
use Rattle.sx_plain.specs.Adds.{IsBodyAdded}
use Rattle.std.specs.Prelude.{Ok, Err}
use Rattle.sx_extension.specs.PlainBodies.{body_data, IsBodyOf}
use Rattle.sx_extension.proofs.AddedBodies.{body_at, adds_on, refuses_on, not_added}
use Rattle.sx_extension.proofs.plain_table.add_bodies.Goals as goal

pub add_body-requires-clause-body : goal.add_body-requires-clause-body
add_body-requires-clause-body c =
    body_at (IsBodyOf (shapes c.args.layers.now.all.now) (length (shapes c.args.layers.now.before.now)))
    c.args.bodies.now c.loop-number.number c.index-bodies-number.result c.requires.bodies c.loop-number-test.true c.index-bodies-number.is

pub returns-in-Err-clause-added : goal.returns-in-Err-clause-added
returns-in-Err-clause-added c =
    let n = c.args.before.base in
    let old = table_of c.loop-number.table in
    let new = table_of c.add_body.new.table in
    let x = c.index-bodies-number.result in
    let refused = subst (λ (m : ℕ). IsBodyAdded m old new x.label x.parts (body_data x).term (Err c.in-Err.error)) c.loop-number.invariant.base c.in-Err.ensures.answer in
    not_added n (table_of c.args.before) c.args.bodies.now old new c.loop-number.number x c.loop-number-test.true c.index-bodies-number.is
    c.in-Err.error refused c.loop-number.invariant.refuses c.refusal.result c.refusal.ensures

pub loop-number-preserved : goal.loop-number-preserved
loop-number-preserved c =
    let n = c.args.before.base in
    let start = table_of c.args.before in
    let old = table_of c.loop-number.table in
    let new = table_of c.add_body.new.table in
    let i = c.loop-number.number in
    let x = c.index-bodies-number.result in
    let added = subst (λ (m : ℕ). IsBodyAdded m old new x.label x.parts (body_data x).term (Ok tt)) c.loop-number.invariant.base c.in-Ok.ensures.answer in
    record {
      base = c.add_body.ensures.base ∙ c.loop-number.invariant.base;
      bodies = c.in-Ok.ensures.bodies;
      adds = adds_on n start c.args.bodies.now old new i x c.loop-number-test.true c.index-bodies-number.is added c.loop-number.invariant.adds;
      refuses = refuses_on n start c.args.bodies.now old new i x c.loop-number-test.true c.index-bodies-number.is added c.loop-number.invariant.refuses;
    }
