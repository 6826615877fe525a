-- The size of a lowered derivation, as it is counted before any term is made.
use Rattle.std.specs.Prelude.{◌≡◌, ℕ, ◌+◌, ◌<◌, ◌≤◌, length, Option, Some, None, slice_get}
use Rattle.sx_rules.specs.Rules.{judgements_of}
use Rattle.sx_rules.specs.Derivations.{Proof, Proofs, by, given, no_more, ◌⊳◌}
use Rattle.sx_rewrite.specs.declared.lowered_size.LoweredSize.{LoweredSize}
use Rattle.sx_rewrite.specs.Accepted.{Known, rule_in, Accepted, known_of}
use Rattle.sx_rewrite.specs.Used.{lowered_nodes, lowered_height}
use Rattle.sx_rewrite.specs.Copied.{copied}
use Rattle.sx_rewrite.specs.Sizes.{in_u64}

-- how many proofs there are
abbrev pub proof_count : Proofs → ℕ
proof_count no_more = 0
proof_count (p ⊳ ps) = proof_count ps + 1

-- there is a rule, and a kid for each judgement among its premises
abbrev pub FitKids : Option Known → Proofs → Type 0
FitKids None kids = ⊥
FitKids (Some known) kids = proof_count kids ≡ length (judgements_of (rule_in known).premises)

-- each node of the proof is by a rule of the set,
-- and has a kid for each judgement among its premises
abbrev mutual
  pub HasFitKids : Accepted → Proof → Type 0
  HasFitKids a (by r binds kids) = FitKids (slice_get (known_of a) r) kids × HaveFitKids a kids
  HasFitKids a (given i) = Unit {0}

  -- so it is of each of the proofs
  pub HaveFitKids : Accepted → Proofs → Type 0
  HaveFitKids a no_more = Unit {0}
  HaveFitKids a (p ⊳ ps) = HasFitKids a p × HaveFitKids a ps

-- the size of what the proof is lowered to, or there are more nodes than the budget
abbrev pub IsLoweredSize : Accepted → Proof → ℕ → Option LoweredSize → Type 0
IsLoweredSize a p budget None = budget < lowered_nodes a p
IsLoweredSize a p budget (Some size) =
    (lowered_nodes a p ≤ budget) × (size.nodes ≡ lowered_nodes a p)
    × (size.height ≡ lowered_height a p) × (size.copied ≡ in_u64 (copied a p))
