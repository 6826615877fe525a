use Rattle.std.proofs.Common.{◌≡◌, ◌++◌, drop}
use Rattle.std.specs.Prelude.{flat_map}
use Rattle.sx_grammar.specs.Told.{numbered_kids}
use Rattle.sx_grammar.proofs.shaping.con.Given as goal

abbrev pub invariant-loop-symbol : goal.invariant-loop-symbol
invariant-loop-symbol l = l.kids.items ++ flat_map (numbered_kids l.sorts) (drop l.symbol-index l.symbol-items) ≡ flat_map (numbered_kids l.sorts) l.symbol-items
