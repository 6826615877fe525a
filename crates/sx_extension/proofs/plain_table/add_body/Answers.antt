use Rattle.std.proofs.Common.{◌<◌, ℕ, length, sym, subst}
use Rattle.sx_term.specs.Tree.{Tree}
use Rattle.sx_term.specs.Instances.{Stands}
use Rattle.sx_plain.specs.Tables.{FitsTable}
use Rattle.sx_plain.proofs.Tables.{fits-sorted}
use Rattle.sx_term.specs.Shapes.{shapes}
use Rattle.sx_term.specs.Term.{tree}
use Rattle.sx_plain.specs.Views.{table_of}
use Rattle.sx_extension.specs.PlainBodies.{body_data}
use Rattle.sx_extension.proofs.AddedBodies.{variable_below, begins_on, after_add}
use Rattle.sx_extension.proofs.plain_table.add_body.Goals as goal

pub add-requires-clause-parts : goal.add-requires-clause-parts
add-requires-clause-parts c v s =
    let b = c.requires.body in
    let all = shapes c.args.layers.now.all.now in
    subst (λ (n : ℕ). v < n) (sym b.many)
    (variable_below all b.shape.kids v (tree c.args.body.now.term) b.shape.sort b.sorted (subst (λ (t : Tree). Stands v t) c.in_ok-copy.ensures s))

pub add-requires-clause-fits : goal.add-requires-clause-fits
add-requires-clause-fits c =
    let b = c.requires.body in
    let base = shapes c.args.layers.now.base.now in
    let all = shapes c.args.layers.now.all.now in
    subst (λ (t : Tree). FitsTable (table_of c.args.table.now) t) (sym c.in_ok-copy.ensures)
    (fits-sorted base all (table_of c.args.table.now) b.shape.kids c.requires.bodies (tree c.args.body.now.term) b.shape.sort b.sorted)

pub returns-clause-bodies : goal.returns-clause-bodies
returns-clause-bodies c =
    let base = shapes c.args.layers.now.base.now in
    let before = shapes c.args.layers.now.before.now in
    let all = shapes c.args.layers.now.all.now in
    after_add base all (length before) c.args.table.now.base (table_of c.args.table.now) (table_of c.add.new.self) (body_data c.args.body.now) (tree c.in_ok-copy.field-0)
    c.requires.body c.requires.base (begins_on base before all c.requires.begins c.requires.new) c.requires.bodies c.in_ok-copy.ensures c.add.result c.add.ensures.answer
