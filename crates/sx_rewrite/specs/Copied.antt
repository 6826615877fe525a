-- How many nodes are copied where a derivation is lowered:
-- a lowered kid is moved to the last place of its given, and copied for the others.
use Rattle.std.specs.Prelude.{ℕ, ◌+◌, ◌-◌, ◌*◌, List, [], ◌∷◌, Option, Some, None, slice_get}
use Rattle.std.specs.Prelude.{nat_eq, if◌then◌else◌}
use Rattle.sx_rules.specs.Discipline.{one_when}
use Rattle.sx_rules.specs.Derivations.{Proof, Proofs, by, given, no_more, ◌⊳◌}
use Rattle.sx_rewrite.specs.Accepted.{Known, basic, checked, Accepted, known_of}
use Rattle.sx_plain.specs.Measures.{total}
use Rattle.sx_rewrite.specs.Used.{lowered_nodes_of}
use Rattle.sx_rewrite.specs.Measured.{is_used}

-- how often the given i stands in the proof
abbrev mutual
  pub times_given : ℕ → Proof → ℕ
  times_given i (by r binds kids) = times_given_in i kids
  times_given i (given j) = one_when (nat_eq i j)

  -- in all
  pub times_given_in : ℕ → Proofs → ℕ
  times_given_in i no_more = 0
  times_given_in i (p ⊳ ps) = times_given i p + times_given_in i ps

-- the nodes of the kids, counted from i, as often as their
-- givens stand in the certificate beyond the first time
abbrev pub copies : Proof → ℕ → List ℕ → ℕ
copies certificate i [] = 0
copies certificate i (n ∷ ns) = (times_given i certificate - 1) * n + copies certificate (i + 1) ns

-- what is copied for the kids, counted from i, whose givens the certificate uses
abbrev pub used_total : Proof → ℕ → List ℕ → ℕ
used_total certificate i [] = 0
used_total certificate i (n ∷ ns) =
    (if is_used i certificate then n else 0) + used_total certificate (i + 1) ns

-- what is copied at a node, by the nodes of its lowered kids, and for these
abbrev pub copied_at : Option Known → List ℕ → List ℕ → ℕ
copied_at None ns cs = 0
copied_at (Some (basic rule)) ns cs = total cs
copied_at (Some (checked c)) ns cs = copies c.proof 0 ns + used_total c.proof 0 cs

-- how many nodes are copied where the derivation is lowered
abbrev mutual
  pub copied : Accepted → Proof → ℕ
  copied a (by r binds kids) =
      copied_at (slice_get (known_of a) r) (lowered_nodes_of a kids) (copied_of a kids)
  copied a (given i) = 0

  -- for each of these
  pub copied_of : Accepted → Proofs → List ℕ
  copied_of a no_more = []
  copied_of a (p ⊳ ps) = copied a p ∷ copied_of a ps
