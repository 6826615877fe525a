use Rattle.std.proofs.Common.{◌≡◌, ℕ, [], None, length}
use Rattle.sx_grammar.specs.Ranks.{rank_in, waiting_at}
use Rattle.sx_grammar.proofs.progress.blank.Given as goal

abbrev pub invariant-loop : goal.invariant-loop
invariant-loop l = record {
  ranks : length l.ranks.items ≡ l.counter;
  none : (x : ℕ) → rank_in l.ranks.items x ≡ None;
  lists : length l.waiting.items ≡ l.counter;
  still : (x : ℕ) → waiting_at l.waiting.items x ≡ [];
}
