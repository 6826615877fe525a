-- Kids that are taken one after another.
use Rattle.std.specs.Prelude.{◌≡◌, ℕ, ◌+◌, ◌<◌, ◌≤◌, List, length, slice_index_or}
use Rattle.std.specs.Global.{Box}
use Rattle.sx_rules.specs.declared.proof.Proof.{Proof as ProofOf}
use Rattle.sx_rules.specs.Derivations.{most_height, HaveShallowBinds, proof_at}
use Rattle.sx_rules.specs.ProofView.{boxed}
use Rattle.sx_rules.specs.Limits.{most_levels}

-- one place less is left for the kid with the number, and each kid with a place left is as before
pub record IsPlaceTaken (number : ℕ) (left then : List ℕ) (kids now : List
    (Box ProofOf)) : Type 0 where
  pub less : slice_index_or left number 0 ≡ slice_index_or then number 0 + 1
  pub others : (g : ℕ) → (g ≡ number → ⊥) → slice_index_or then g 0 ≡ slice_index_or left g 0
  pub left_many : length then ≡ length left
  pub kids_many : length now ≡ length kids
  pub kept : (g : ℕ) → 0 < slice_index_or then g 0 →
      proof_at (boxed now) g ≡ proof_at (boxed kids) g
  pub height : most_height (boxed now) ≤ most_levels
  pub binds : HaveShallowBinds (boxed now)
