use Rattle.std.proofs.Common.{◌≡◌}
use Rattle.sx_term.specs.Shapes.{shapes}
use Rattle.sx_plain.specs.Tables.{HasBodies}
use Rattle.sx_plain.specs.Views.{table_of}
use Rattle.sx_extension.proofs.AddedBodies.{AddsOn, RefusesOn}
use Rattle.sx_extension.proofs.plain_table.add_bodies.Given as goal

abbrev pub invariant-loop-number : goal.invariant-loop-number
invariant-loop-number l = record {
  base : l.table.base ≡ l.fn.before.base;
  bodies : HasBodies (shapes l.layers.base.now) (shapes l.layers.all.now) (table_of l.table);
  adds : AddsOn l.fn.before.base (table_of l.fn.before) l.bodies (table_of l.table) l.number;
  refuses : RefusesOn l.fn.before.base (table_of l.fn.before) l.bodies (table_of l.table) l.number;
}
