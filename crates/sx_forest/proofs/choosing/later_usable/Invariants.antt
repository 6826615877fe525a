use Rattle.std.proofs.Common.{◌≡◌, ◌<◌, ◌≤◌, ℕ, Some}
use Rattle.std.specs.List.{slice_get}
use Rattle.sx_earley.specs.Shown.{plain}
use Rattle.sx_forest.specs.declared.entry.Entry.{Entry}
use Rattle.sx_forest.specs.Tallies.{ways_of}
use Rattle.sx_forest.specs.Forests.{IsUsableEntry}
use Rattle.sx_forest.proofs.choosing.later_usable.Given as goal

abbrev pub invariant-loop-index : goal.invariant-loop-index
invariant-loop-index l = (i : ℕ) (e : Entry) → l.first ≤ i → i < l.index → slice_get l.choice.entries.now i ≡ Some e → IsUsableEntry (plain l.choice.grammar.now) l.choice.sort l.choice.least (ways_of l.choice.rest.now) e → ⊥
