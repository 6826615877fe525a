use Rattle.std.proofs.Common.{◌≡◌, ◌++◌, List, take}
use Rattle.sx_grammar.specs.Grammar.{Text}
use Rattle.sx_grammar.specs.Parts.{texts}
use Rattle.sx_grammar.specs.Distinct.{distinct}
use Rattle.sx_grammar.proofs.distinct.fill.Given as goal

abbrev pub invariant-loop-text : goal.invariant-loop-text
invariant-loop-text l = record {
  has_texts : (start : List Text) → l.fn.out.items ≡ distinct start → l.fn.names ≡ distinct start → l.out.items ≡ distinct (start ++ take l.text-index (texts l.list));
  has_names : (start : List Text) → l.fn.names ≡ distinct start → l.names ≡ distinct (start ++ take l.text-index (texts l.list));
}
