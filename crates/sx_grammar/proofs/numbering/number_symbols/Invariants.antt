use Rattle.std.proofs.Common.{◌≡◌, map, take, length}
use Rattle.sx_grammar.specs.Parts.{numbered_symbol}
use Rattle.sx_grammar.specs.Numbered.{symbol}
use Rattle.sx_grammar.specs.Known.{LiteralsAreBelow}
use Rattle.sx_grammar.proofs.numbering.number_symbols.Given as goal

abbrev pub invariant-loop-symbol : goal.invariant-loop-symbol
invariant-loop-symbol l = record {
  same : map (symbol l.literals) l.out.items ≡ map (numbered_symbol l.sorts) (take l.symbol-index l.symbols);
  below : LiteralsAreBelow (length l.literals) l.out.items;
}
