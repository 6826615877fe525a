use Rattle.std.proofs.Common.{take}
use Rattle.sx_grammar.specs.Parts.{texts}
use Rattle.sx_directives.specs.Spelling.{SpellsSymbol, EachSpelled}
use Rattle.sx_directives.proofs.symbols.symbols_of.Given as goal

abbrev pub invariant-loop-part : goal.invariant-loop-part
invariant-loop-part l = EachSpelled SpellsSymbol (take l.part-index (texts l.parts)) l.symbols.items
