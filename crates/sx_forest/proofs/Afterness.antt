-- Of two texts one is not after the other.
use Rattle.std.proofs.Common.{◌≡◌, ℕ, List, sym, ap, ◌∙◌, Ordering, Greater}
use Rattle.std.specs.Cmp.Lexicographic.{slice_cmp}
use Rattle.std.specs.Ordering.{is_le, nat_cmp, ordering_reverse}
use Rattle.std.proofs.lemmas.Cmp.{nat_list_cmp_total}
use Rattle.sx_forest.specs.Verdict.{IsNotAfter}

turned : (xs ys : List ℕ) → slice_cmp nat_cmp xs ys ≡ Greater → IsNotAfter ys xs
turned xs ys e = ap is_le (nat_list_cmp_total.antisymm ys xs ∙ ap ordering_reverse e)

-- where one is greater, the other is not after it
pub beyond : (xs ys : List ℕ) (o : Ordering) → o ≡ slice_cmp nat_cmp xs ys → o ≡ Greater → IsNotAfter ys xs
beyond xs ys o e h = turned xs ys (sym e ∙ h)
