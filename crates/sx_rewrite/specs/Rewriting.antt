-- What rewriting a derivation answers.
use Rattle.std.specs.Prelude.{◌≡◌, ℕ, ◌-◌, ◌^◌, ◌<◌, ◌≤◌, min, List, [], ◌∷◌, Option, Some, None}
use Rattle.std.specs.Prelude.{Result, Ok, Err, if◌then◌else◌, nat_lt}
use Rattle.sx_term.specs.Tree.{Tree, depth_of, size_of}
use Rattle.sx_rules.specs.Rules.{Judgement, Hypotheses}
use Rattle.sx_rules.specs.Modes.{Modes}
use Rattle.sx_rules.specs.Derivations.{Proof}
use Rattle.sx_rewrite.specs.Accepted.{Accepted}
use Rattle.sx_rewrite.specs.Lowers.{Lowers}
use Rattle.sx_rewrite.specs.Used.{lowered_nodes, lowered_height}
use Rattle.sx_rewrite.specs.Measured.{Measures}
use Rattle.sx_rewrite.specs.Copied.{copied}
use Rattle.sx_rules.specs.Limits.{most_levels}
use Rattle.sx_term.specs.Limits.{most_depth, most_size}

-- why no lowered derivation is answered: it has more nodes than the budget, it is too deep,
-- or a term of it passes a limit
pub data RewriteRefusal : Type 0 where
  spent : RewriteRefusal
  deep : RewriteRefusal
  too_deep : ℕ → RewriteRefusal
  too_big : ℕ → RewriteRefusal

-- the first of the terms that is deeper than 1,000, or else has more than 1,000,000 nodes,
-- lexemes and variables
abbrev pub first_over : List Tree → Option RewriteRefusal
first_over [] = None
first_over (t ∷ ts) =
    if nat_lt most_depth (depth_of t) then Some (too_deep (depth_of t)) else
    if nat_lt most_size (size_of t) then Some (too_big (min (size_of t) (2 ^ 64 - 1)))
    else first_over ts

-- a lowered derivation, its judgement, and how many nodes were copied for it,
-- or the greatest u64 where they are more
pub record Rewritten : Type 0 where
  pub proof : Proof
  pub judgement : Judgement
  pub copied : ℕ

-- the numbers are within the budget and the depth of derivations,
-- and this is the first of the measured terms that passes a limit
abbrev pub FirstOver : Accepted → Modes → Hypotheses → Proof → ℕ → Option RewriteRefusal → Type 0
FirstOver a subjects hyps p budget over =
    (lowered_nodes a p ≤ budget) × (lowered_height a p ≤ most_levels)
    × ((ts : List Tree) × Measures a subjects hyps p ts × (first_over ts ≡ over))

-- the lowered derivation of p from the hypotheses, or the first limit that it passes
abbrev pub IsRewritten : Accepted → Modes → Hypotheses → Proof → ℕ →
    Result Rewritten RewriteRefusal → Type 0
IsRewritten a subjects hyps p budget (Ok x) =
    Lowers a subjects hyps p x.proof x.judgement × (x.copied ≡ min (copied a p) (2 ^ 64 - 1))
    × FirstOver a subjects hyps p budget None
IsRewritten a subjects hyps p budget (Err spent) = budget < lowered_nodes a p
IsRewritten a subjects hyps p budget (Err deep) =
    (lowered_nodes a p ≤ budget) × (most_levels < lowered_height a p)
IsRewritten a subjects hyps p budget (Err over) = FirstOver a subjects hyps p budget (Some over)
