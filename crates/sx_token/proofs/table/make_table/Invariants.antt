use Rattle.std.specs.Str.{bytes_eq}
use Rattle.std.specs.Prelude.{◌==◌}
use Rattle.std.specs.HashMap.{get_by}
use Rattle.std.specs.HashSet.{contains_by}
use Rattle.sx_token.proofs.TableLemmas.{TableBefore}
use Rattle.sx_token.proofs.table.make_table.Given as goal

abbrev pub invariant-loop-i : goal.invariant-loop-i
invariant-loop-i l = TableBefore l.literals l.i (λ text. get_by (λ k. bytes_eq text k.now) l.places) (λ q. contains_by (λ n. q == n) l.lengths) l.longest
