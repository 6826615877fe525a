-- Laws of the size of lowered nodes.
use Rattle.std.specs.Prelude.{◌≡◌, ℕ, ◌+◌, ◌<◌, max, List, length, Some, slice_get}
use Rattle.sx_term.specs.Sorts.{Shape}
use Rattle.sx_rules.specs.Rules.{judgements_of}
use Rattle.sx_rules.specs.Derivations.{Proof}
use Rattle.sx_rewrite.specs.Accepted.{Checked, checked, Accepted, known_of, Signature, IsAccepted}
use Rattle.sx_rewrite.specs.Used.{IsUsed, grafted_nodes, grafted_height}
use Rattle.sx_rewrite.specs.Measured.{is_used}
use Rattle.sx_rewrite.specs.Copied.{times_given}
use Rattle.sx_rewrite.specs.Counts.{own_nodes, own_height, nodes_above, sum_of, most_of}

-- a certificate uses the givens of its rule's premises alone
abbrev pub CertificatesUsePremises : Type 0
CertificatesUsePremises =
    (sig : Signature) (base shapes : List Shape) (a : Accepted) → IsAccepted sig base shapes a →
    (r : ℕ) (c : Checked) → slice_get (known_of a) r ≡ Some (checked c) → (i : ℕ) →
    IsUsed i c.proof → i < length (judgements_of c.rule.premises)

-- the nodes of a proof with others in the place of its givens are its own,
-- and those of each other as often as its given stands
abbrev pub NodesAreSummed : Type 0
NodesAreSummed =
    (p : Proof) (ns : List ℕ) → ((i : ℕ) → IsUsed i p → i < length ns) →
    grafted_nodes ns p ≡ own_nodes p + sum_of (λ i. times_given i p) 0 ns

-- and it is as deep as it is by itself, or as one of the others that stand,
-- with the nodes above it
abbrev pub HeightIsGreatest : Type 0
HeightIsGreatest =
    (p : Proof) (hs : List ℕ) → ((i : ℕ) → IsUsed i p → i < length hs) →
    grafted_height hs p ≡ max (own_height p)
    (most_of (λ i. is_used i p) (λ i. nodes_above i p) 0 hs)
