-- The order of a lowered derivation.
use Rattle.std.specs.Prelude.{ℕ, List, [], ◌∷◌, ◌++◌, Option, Some, None, slice_get, slice_index_or}
use Rattle.sx_rules.specs.Derivations.{Proof, Proofs, by, given, no_more, ◌⊳◌}
use Rattle.sx_rules.specs.Orders.{Entry, of_given, of_rule}
use Rattle.sx_rewrite.specs.Accepted.{Known, basic, checked, Accepted, known_of}

-- the lists one after another
abbrev pub all_entries : List (List Entry) → List Entry
all_entries [] = []
all_entries (list ∷ lists) = list ++ all_entries lists

-- the order of a proof with others in the place of its givens, by the orders of these
abbrev mutual
  pub grafted_order : List (List Entry) → Proof → List Entry
  grafted_order lists (by r binds kids) = of_rule r ∷ grafted_orders lists kids
  grafted_order lists (given i) = slice_index_or lists i (of_given i ∷ [])

  -- of each of the proofs, one after another
  pub grafted_orders : List (List Entry) → Proofs → List Entry
  grafted_orders lists no_more = []
  grafted_orders lists (p ⊳ ps) = grafted_order lists p ++ grafted_orders lists ps

-- the order of a lowered node, by the orders of its lowered kids
abbrev pub order_at : Option Known → ℕ → List (List Entry) → List Entry
order_at None r lists = []
order_at (Some (basic rule)) r lists = of_rule r ∷ all_entries lists
order_at (Some (checked c)) r lists = grafted_order lists c.proof

-- the order of what the derivation is lowered to
abbrev mutual
  pub lowered_order : Accepted → Proof → List Entry
  lowered_order a (by r binds kids) =
      order_at (slice_get (known_of a) r) r (lowered_orders a kids)
  lowered_order a (given i) = of_given i ∷ []

  -- of each of these
  pub lowered_orders : Accepted → Proofs → List (List Entry)
  lowered_orders a no_more = []
  lowered_orders a (p ⊳ ps) = lowered_order a p ∷ lowered_orders a ps
