use Rattle.std.proofs.Common.{take, Contains, ◌≤◌, ◌≡◌, ◌⊎◌}
use Rattle.sx_grammar.specs.declared.item.Item.{Item}
use Rattle.sx_earley.proofs.spanned.reach.Given as goal

abbrev pub invariant-loop-place : goal.invariant-loop-place
invariant-loop-place l = record {
  bound : (i : Item) → Contains (take l.place l.found) i → i.end ≤ l.most;
  some : ((i : Item) × Contains l.found i × (i.end ≡ l.most)) ⊎ (l.most ≡ 0);
}
