-- What lowering a list answers.
use Rattle.std.specs.Prelude.{◌≡◌, ℕ, ◌<◌, ◌≤◌, Result, Ok, Err}
use Rattle.sx_rules.specs.Derivations.{Proof}
use Rattle.sx_rules.specs.EntryView.{entries}
use Rattle.sx_rewrite.specs.declared.rewrite_error.RewriteError.{RewriteError}
use Rattle.sx_rewrite.specs.declared.rewrite_error.RewriteError.TheVariants.{Memory, RewriteSpent}
use Rattle.sx_rewrite.specs.declared.rewrite_error.RewriteError.TheVariants.{RewriteDeep}
use Rattle.sx_rewrite.specs.declared.rewrite_error.RewriteError.TheVariants.{TooDeep, TooBig}
use Rattle.sx_rewrite.specs.Accepted.{Accepted}
use Rattle.sx_rewrite.specs.Copied.{copied}
use Rattle.sx_rewrite.specs.Sizes.{in_u64}
use Rattle.sx_rewrite.specs.Used.{lowered_nodes, lowered_height}
use Rattle.sx_expand.specs.declared.lowered_list.LoweredList.{LoweredList}
use Rattle.sx_expand.specs.LoweredOrders.{lowered_order}
use Rattle.sx_rules.specs.Limits.{most_levels}

-- the list of what the derivation is lowered to, and how many nodes are copied for it;
-- or it has more nodes than the budget, or else is deeper than 3,000
abbrev pub IsListLowered : Accepted → Proof → ℕ → Result LoweredList RewriteError → Type 0
IsListLowered a p budget (Ok x) =
    (lowered_nodes a p ≤ budget) × (lowered_height a p ≤ most_levels)
    × (x.copied ≡ in_u64 (copied a p)) × (entries x.entries.items ≡ lowered_order a p)
IsListLowered a p budget (Err Memory) = Unit {0}
IsListLowered a p budget (Err (RewriteSpent nodes)) =
    (nodes ≡ budget) × (budget < lowered_nodes a p)
IsListLowered a p budget (Err RewriteDeep) =
    (lowered_nodes a p ≤ budget) × (most_levels < lowered_height a p)
IsListLowered a p budget (Err (TooDeep depth)) = ⊥
IsListLowered a p budget (Err (TooBig nodes)) = ⊥
