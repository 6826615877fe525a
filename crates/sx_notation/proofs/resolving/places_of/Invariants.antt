use Rattle.std.proofs.Common.{◌≡◌, take}
use Rattle.std.specs.Prelude.{flat_map}
use Rattle.std.specs.List.{AllByRecursion}
use Rattle.sx_notation.specs.RuleLaws.{HasSortOf, places_of}
use Rattle.sx_notation.proofs.resolving.places_of.Given as goal

abbrev pub invariant-loop-i : goal.invariant-loop-i
invariant-loop-i l = record {
  known : AllByRecursion (HasSortOf l.grammar.parts) (take l.i l.symbols);
  made : l.places.items ≡ flat_map (places_of l.grammar.parts) (take l.i l.symbols);
}
