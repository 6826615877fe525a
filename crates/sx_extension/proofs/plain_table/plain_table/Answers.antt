use Rattle.std.proofs.Common.{◌≡◌, ℕ, ◌∙◌, sym, subst, length, map, arith}
use Rattle.sx_term.specs.Shapes.{shapes}
use Rattle.sx_plain.specs.Plain.{Table}
use Rattle.sx_plain.specs.Tables.{IsPlainTable, HasBodies}
use Rattle.sx_plain.specs.Views.{table_of}
use Rattle.sx_extension.specs.PlainBodies.{body_data}
use Rattle.sx_extension.specs.PlainTables.{AddsAll, HasAll}
use Rattle.sx_extension.proofs.Lacking.{as_many}
use Rattle.sx_extension.proofs.AddedBodies.{more_shapes, keeps_below, every_entry}
use Rattle.sx_extension.proofs.plain_table.plain_table.Goals as goal

pub add_bodies-requires-clause-known : goal.add_bodies-requires-clause-known
add_bodies-requires-clause-known c =
    let base = shapes c.args.layers.now.base.now in
    let before = shapes c.args.layers.now.before.now in
    let all = shapes c.args.layers.now.all.now in
    subst (λ (t : Table). HasBodies base all t) (sym c.in_ok-copy.ensures.table)
    (more_shapes base before all (table_of c.args.before.now) c.requires.new c.requires.known.bodies)

pub returns-in-None-clause-keeps : goal.returns-in-None-clause-keeps
returns-in-None-clause-keeps c =
    let before = shapes c.args.layers.now.before.now in
    let all = shapes c.args.layers.now.all.now in
    keeps_below all (length before) c.in_ok-copy.copy.base (table_of c.args.before.now) (table_of c.in_ok-table.table) (map body_data c.args.bodies.now) c.requires.bodies
    (subst (λ (t : Table). AddsAll c.in_ok-copy.copy.base t (map body_data c.args.bodies.now) (table_of c.in_ok-table.table)) c.in_ok-copy.ensures.table c.in_ok-table.ensures.added)

pub returns-in-None-clause-desugars : goal.returns-in-None-clause-desugars
returns-in-None-clause-desugars c =
    let base = shapes c.args.layers.now.base.now in
    let before = shapes c.args.layers.now.before.now in
    let all = shapes c.args.layers.now.all.now in
    let old = table_of c.args.before.now in
    let new = table_of c.in_ok-table.table in
    let bodies = map body_data c.args.bodies.now in
    let added = subst (λ (t : Table). AddsAll c.in_ok-copy.copy.base t bodies new) c.in_ok-copy.ensures.table c.in_ok-table.ensures.added in
    let long : c.len.result ≡ length c.args.layers.now.before.now.cons.items = omega arith in
    let has = subst (λ (n : ℕ). HasAll all n new) (long ∙ sym (as_many c.args.layers.now.before.now.cons.items)) c.in-None.ensures in
    record {
      is_table = subst (λ (n : ℕ). IsPlainTable n new) (c.in_ok-table.ensures.base ∙ c.in_ok-copy.ensures.base ∙ c.requires.base) c.facts.ensures;
      bodies = c.in_ok-table.ensures.bodies;
      every = every_entry base before all old new c.requires.new c.requires.known has
          (keeps_below all (length before) c.in_ok-copy.copy.base old new bodies c.requires.bodies added);
    }
