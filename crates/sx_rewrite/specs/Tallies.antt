-- What is counted of lowered derivations.
use Rattle.std.specs.Prelude.{◌≡◌, ◌+◌, ◌-◌, ◌*◌, ◌≤◌, max, nat_lt, if◌then◌else◌}
use Rattle.sx_rules.specs.Derivations.{Proof, Proofs, height_of, most_height}
use Rattle.sx_plain.specs.Measures.{total, greatest}
use Rattle.sx_rewrite.specs.declared.certificate_size.CertificateSize.{CertificateSize}
use Rattle.sx_rewrite.specs.declared.given_use.GivenUse.{GivenUse}
use Rattle.sx_rewrite.specs.declared.lowered_tally.LoweredTally.{LoweredTally}
use Rattle.sx_rewrite.specs.Accepted.{Accepted}
use Rattle.sx_rewrite.specs.Copied.{copied, copied_of}
use Rattle.sx_rewrite.specs.Sizes.{in_u64, in_u128, used_sum, used_most, used_copies}
use Rattle.sx_rewrite.specs.Used.{lowered_nodes, lowered_nodes_of}
use Rattle.sx_rewrite.specs.Used.{lowered_height, lowered_heights_of}
use Rattle.sx_rules.specs.Limits.{most_levels}

-- the counts are those of the lowered derivation
pub record IsTallyOf (a : Accepted) (p : Proof) (t : LoweredTally) : Type 0 where
  pub nodes : t.nodes ≡ in_u128 (lowered_nodes a p)
  pub height : t.height ≡ lowered_height a p
  pub small : t.height ≤ most_levels * height_of p
  pub copied : in_u64 t.copied ≡ in_u64 (copied a p)

-- those of a node over the derivations by an extension rule whose certificate has the size
pub record IsSizedTally (a : Accepted) (size : CertificateSize) (ps : Proofs)
    (t : LoweredTally) : Type 0 where
  pub nodes : t.nodes ≡ in_u128 (size.nodes + used_sum size.uses.items (lowered_nodes_of a ps))
  pub height : t.height ≡ max size.height (used_most size.uses.items (lowered_heights_of a ps))
  pub small : t.height ≤ most_levels * (most_height ps + 1)
  pub copied : in_u64 t.copied
      ≡ in_u64 (used_copies size.uses.items (lowered_nodes_of a ps) (copied_of a ps))

-- those of a node over the derivations by a base rule
pub record IsBaseTally (a : Accepted) (ps : Proofs) (t : LoweredTally) : Type 0 where
  pub nodes : t.nodes ≡ in_u128 (total (lowered_nodes_of a ps) + 1)
  pub height : t.height ≡ greatest (lowered_heights_of a ps) + 1
  pub small : t.height ≤ most_levels * (most_height ps + 1)
  pub copied : in_u64 t.copied ≡ in_u64 (total (copied_of a ps))

-- the one counts are the others with those of a kid whose given is used so
pub record IsWithKid (a : Accepted) (u : GivenUse) (p : Proof) (old new : LoweredTally) :
    Type 0 where
  pub nodes : new.nodes ≡ in_u128 (old.nodes + u.times * lowered_nodes a p)
  pub height : new.height
      ≡ max old.height (if nat_lt 0 u.times then u.above + lowered_height a p else 0)
  pub small : new.height ≤ max old.height (most_levels * (height_of p + 1))
  pub copied : in_u64 new.copied
      ≡ in_u64 (old.copied + ((u.times - 1) * lowered_nodes a p
      + (if nat_lt 0 u.times then copied a p else 0)))
