use Rattle.std.proofs.Common.{◌≡◌, ◌+◌, refl, ◌∙◌, length, arith}
use Rattle.sx_forest.proofs.RowWays.{none_before}
use Rattle.sx_forest.proofs.widening.lengthen.Goals as goal

pub returns-else-places : goal.returns-else-places
returns-else-places c = record {
  each = λ p is. let a = is.0 in let b = is.1 in let none = c.if-places.false in absurd (omega arith);
  kept = λ p past. refl;
  none = λ p early before nothing. nothing;
}

pub returns-in_ok-extend : goal.returns-in_ok-extend
returns-in_ok-extend c =
    let made = c.in_ok-extend.ensures in let begun = c.in_ok-begin_at.ensures in let some = c.if-places.true in
    record {
      each = λ p is. made.each p is;
      kept = λ p past. made.kept p (λ is. let b = is.1 in omega arith) ∙ begun.kept p past;
      none = λ p early before nothing.
          let first : c.extend.new.row.end ≡ c.args.places.first + length c.extend.new.row.ways = made.first (omega arith) in
          none_before c.extend.new.row p (omega (arith, first));
    }
