-- Rows by place and sort.
use Rattle.std.specs.Prelude.{◌==◌, ◌&&◌, Bool, List, [], Option, Some, None}
use Rattle.std.specs.Global.{Vec}
use Rattle.std.specs.HashMap.{get_by}
use Rattle.sx_earley.specs.declared.slot.Slot.{Slot}
use Rattle.sx_earley.specs.declared.table.Table.{Table}

abbrev pub same_slot : Slot → Slot → Bool
same_slot x y = (x.place == y.place) && (x.sort == y.sort)

abbrev pub sort_row_in : {T : Type 0} → Option (Vec T) → List T
sort_row_in None = []
sort_row_in (Some row) = row.items

-- the row of the slot
abbrev pub row_at : {T : Type 0} → Table T → Slot → List T
row_at t slot = sort_row_in (get_by (same_slot slot) t.rows)
