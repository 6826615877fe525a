-- Laws of what is counted of lowered derivations.
use Rattle.std.specs.Prelude.{◌≡◌}
use Rattle.sx_rules.specs.Rules.{Judgement, Hypotheses}
use Rattle.sx_rules.specs.Derivations.{Proof, Derives}
use Rattle.sx_rewrite.specs.Accepted.{Accepted, extended_rules}
use Rattle.sx_rewrite.specs.PlainRules.{plain_of}
use Rattle.sx_rewrite.specs.Used.{lowered_nodes, lowered_height}
use Rattle.sx_rewrite.specs.Copied.{copied}
use Rattle.sx_rewrite.specs.LoweredSizes.{HasFitKids}

-- a derivation by the extended rules has the kids that they ask for
abbrev pub DerivationsFit : Type 0
DerivationsFit =
    (a : Accepted) (hyps : Hypotheses) (j : Judgement) (p : Proof) →
    Derives (extended_rules a) hyps j p → HasFitKids a p

-- so has one by the plain rules, and it counts as much by the extended rules
abbrev pub PlainRulesCountAlike : Type 0
PlainRulesCountAlike =
    (a : Accepted) (p : Proof) → (HasFitKids (plain_of a) p → HasFitKids a p)
    × (lowered_nodes (plain_of a) p ≡ lowered_nodes a p)
    × (lowered_height (plain_of a) p ≡ lowered_height a p) × (copied (plain_of a) p ≡ copied a p)
