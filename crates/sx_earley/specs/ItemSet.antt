-- Items, each once, that are found by their hashes.
use Rattle.std.specs.Prelude.{◌≡◌, ◌⊎◌, ℕ, List, [], ◌∷◌, ◌++◌, map, Contains}
use Rattle.sx_slots.specs.Slots.{IsSlotTable}
use Rattle.sx_grammar.specs.declared.item.Item.{Item}
use Rattle.sx_grammar.specs.Tally.{EachOnce}
use Rattle.sx_earley.specs.declared.packed_item.PackedItem.{PackedItem}
use Rattle.sx_earley.specs.PackedItem.{unpacked, packed_hash}

-- the items stand once each, and are in slots by their hashes
pub record IsItemSet (items : List PackedItem) (links lasts : List ℕ) : Type 0 where
  pub once : EachOnce (map unpacked items)
  pub table : IsSlotTable (map packed_hash items) links lasts

-- the item is added last, if it was not there
abbrev pub IsItemAdded : Item → List Item → List Item → Type 0
IsItemAdded item old new =
    (Contains old item × (new ≡ old)) ⊎ ((Contains old item → ⊥) × (new ≡ old ++ item ∷ []))
