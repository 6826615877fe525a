use Rattle.std.proofs.Common.{◌≡◌, ◌≤◌, length, drop}
use Rattle.std.specs.HashMap.{get_by}
use Rattle.std.specs.Str.{bytes_eq}
use Rattle.sx_grammar.specs.Grammar.{Text}
use Rattle.sx_earley.specs.Tokens.{stem_sort}
use Rattle.sx_earley.proofs.stem_table.stem_table.Given as goal

abbrev pub invariant-loop-left : goal.invariant-loop-left
invariant-loop-left l = record {
  within : l.left ≤ length l.metas.stems.items;
  known : (text : Text) → get_by (λ k. bytes_eq text k.now) l.sorts ≡ stem_sort (drop l.left l.metas.stems.items) text;
}

abbrev pub decreases-loop-left : goal.decreases-loop-left
decreases-loop-left l = l.left
