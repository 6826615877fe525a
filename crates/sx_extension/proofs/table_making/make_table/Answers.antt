use Rattle.std.proofs.Common.{List, Err, length, map, sym, subst}
use Rattle.sx_term.specs.Shapes.{shapes}
use Rattle.sx_term.specs.Sorts.{Shape}
use Rattle.sx_outline.specs.declared.plain_lines.PlainLines.{PlainLines}
use Rattle.sx_outline.specs.Stages.{plain_data}
use Rattle.sx_extension.specs.Grounds.{ground}
use Rattle.sx_extension.specs.PlainBodies.{body_data}
use Rattle.sx_extension.specs.PlainTables.{IsTableMade}
use Rattle.sx_extension.specs.TableRefusals.{CanNameTable}
use Rattle.sx_extension.proofs.Defining.{can_name, many_shapes}
use Rattle.sx_extension.proofs.table_making.make_table.Goals as goal

pub table_refusal-requires : goal.table_refusal-requires
table_refusal-requires c =
    let g = ground c.args.before.now in
    let p = c.args.prepared.now.grammar.parts in
    let all = shapes c.args.all.now in
    let bodies = map body_data c.args.plains.now in
    let e = c.in-Err.error in
    subst (λ (ls : List PlainLines). CanNameTable p (map plain_data ls) e) (sym c.deref.ensures.value)
    (can_name all (length g.shapes) g.base p (many_shapes p all c.requires.all) (map plain_data c.args.prepared.now.plains.items) bodies c.requires.bodies c.requires.parts g.table e
    (subst (λ (ss : List Shape). IsTableMade g.base all (length ss) g.table bodies (Err e)) c.shapes-2.ensures c.in-Err.ensures.answer))
