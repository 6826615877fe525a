-- Which derivations are rewritten.
use Rattle.std.specs.Prelude.{◌≡◌, ℕ, ◌≤◌}
use Rattle.sx_rules.specs.Rules.{Judgement, Hypotheses}
use Rattle.sx_rules.specs.Derivations.{Proof, Derives, HasShallowBinds, ShallowJudgements}
use Rattle.sx_rules.specs.Derivations.{height_of}
use Rattle.sx_rewrite.specs.declared.source.Source.{Source}
use Rattle.sx_rewrite.specs.Accepted.{Accepted, extended_rules}
use Rattle.sx_rewrite.specs.AcceptedView.{accepted}
use Rattle.sx_rewrite.specs.Copied.{copied}
use Rattle.sx_rewrite.specs.Lowering.{BindsFit}
use Rattle.sx_rewrite.specs.LoweredSizes.{HasFitKids}
use Rattle.sx_rewrite.specs.Lowers.{HypothesesBelow}
use Rattle.sx_rewrite.specs.SourceView.{set_of}
use Rattle.sx_rewrite.specs.Used.{lowered_nodes, lowered_height}
use Rattle.sx_rules.specs.Limits.{most_levels}

-- the proof derives a judgement by the rules of the set and is no deeper than 3,000,
-- no term of it is deeper than 1,000, and its terms have as many parts as the table asks for
pub record CanRewrite (a : Accepted) (hyps : Hypotheses) (p : Proof) : Type 0 where
  pub judgement : Judgement
  pub derives : Derives (extended_rules a) hyps judgement p
  pub height : height_of p ≤ most_levels
  pub binds : HasShallowBinds p
  pub fit : BindsFit a.table p

-- the labels of the hypotheses are below the number, and no term of them is deeper than 1,000
pub record AreGood (n : ℕ) (hyps : Hypotheses) : Type 0 where
  pub below : HypothesesBelow n hyps
  pub near : ShallowJudgements hyps.judgements

-- a derivation counts as much by these rules as by the extended rules
abbrev pub CountsAlike : Source → Type 0
CountsAlike s =
    (p : Proof) → (HasFitKids (set_of s) p → HasFitKids (accepted s.set.now) p)
    × (lowered_nodes (set_of s) p ≡ lowered_nodes (accepted s.set.now) p)
    × (lowered_height (set_of s) p ≡ lowered_height (accepted s.set.now) p)
    × (copied (set_of s) p ≡ copied (accepted s.set.now) p)
