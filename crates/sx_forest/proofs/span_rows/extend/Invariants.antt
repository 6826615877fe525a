use Rattle.std.proofs.Common.{option_map}
use Rattle.sx_grammar.specs.Numbered.{symbol}
use Rattle.sx_earley.specs.Shown.{plain, literal_texts, tokens_of}
use Rattle.sx_forest.specs.Tallies.{ways_of}
use Rattle.sx_forest.proofs.Skipping.{IsExtendedTo}
use Rattle.sx_forest.proofs.span_rows.extend.Given as goal

abbrev pub invariant-loop-place : goal.invariant-loop-place
invariant-loop-place l =
    IsExtendedTo (plain l.basis.grammar.now) (tokens_of l.basis.grammar.now l.basis.shown.now) l.basis.table.now.lists.items (option_map (symbol (literal_texts l.basis.grammar.now)) l.expected) (ways_of l.next) l.places l.fn.row l.place l.row

abbrev pub decreases-loop-place : goal.decreases-loop-place
decreases-loop-place l = l.place
