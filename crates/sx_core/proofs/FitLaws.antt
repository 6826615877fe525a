-- Terms that have sorts.
use Rattle.std.proofs.Common.{◌≡◌, List, [], ◌∷◌, length, suc, refl, ap}
use Rattle.sx_term.specs.Tree.{Tree}
use Rattle.sx_term.specs.declared.sort.Sort.{Sort}
use Rattle.sx_term.specs.Sorts.{Shape, HaveSorts}

pub have_length : (S : List Shape) (V : List Sort) (ts : List Tree) (ss : List Sort) → HaveSorts S V ts ss → length ts ≡ length ss
have_length S V [] [] h = refl
have_length S V [] (s ∷ ss) h = absurd h
have_length S V (t ∷ ts) [] h = absurd h
have_length S V (t ∷ ts) (s ∷ ss) h = ap suc (have_length S V ts ss h.1)
