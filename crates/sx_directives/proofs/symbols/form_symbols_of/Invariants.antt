use Rattle.std.proofs.Common.{take}
use Rattle.sx_grammar.specs.Parts.{texts}
use Rattle.sx_directives.specs.Spelling.{SpellsForm, EachSpelled}
use Rattle.sx_directives.proofs.symbols.form_symbols_of.Given as goal

abbrev pub invariant-loop-part : goal.invariant-loop-part
invariant-loop-part l = EachSpelled SpellsForm (take l.part-index (texts l.parts)) l.symbols.items
