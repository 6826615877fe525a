-- Items in little room.
use Rattle.std.specs.Prelude.{◌≡◌, ℕ, ◌+◌, ◌*◌, ◌/◌, ◌%◌, ◌^◌, ◌≤◌, zero, suc, Option, Some, None}
use Rattle.sx_slots.specs.Mixed.{mixed_with, folded}
use Rattle.sx_grammar.specs.declared.head.Head.{Head}
use Rattle.sx_grammar.specs.declared.head.Head.TheVariants.{Labelled, Bracketed}
use Rattle.sx_grammar.specs.declared.item.Item.{Item}
use Rattle.sx_earley.specs.declared.packed_item.PackedItem.{PackedItem}

-- the head with the number, of a production for 0, and else of brackets
abbrev pub head_by : ℕ → ℕ → Head
head_by zero number = Labelled number
head_by (suc _) number = Bracketed number

-- the item that is packed so
abbrev pub unpacked : PackedItem → Item
unpacked p = record {
  head = head_by (p.shape % 2) p.number;
  dot = p.shape / 2;
  origin = p.origin;
  end = p.end;
}

-- the hash of an item
abbrev pub packed_hash : PackedItem → ℕ
packed_hash p =
    folded (mixed_with (p.shape * 2 ^ 32 + p.number) (p.origin * 2 ^ 32 + p.end))

-- the item is packed, or its dot has no room
abbrev pub IsPacked : Item → Option PackedItem → Type 0
IsPacked i None = 2 ^ 31 ≤ i.dot
IsPacked i (Some p) = unpacked p ≡ i
