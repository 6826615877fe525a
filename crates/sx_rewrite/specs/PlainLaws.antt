-- Laws of plain rules.
use Rattle.std.specs.Prelude.{List}
use Rattle.sx_term.specs.Sorts.{Shape}
use Rattle.sx_rules.specs.Rules.{Judgement, Hypotheses}
use Rattle.sx_rules.specs.Derivations.{Proof}
use Rattle.sx_rewrite.specs.Accepted.{Accepted, Signature, IsAccepted}
use Rattle.sx_rewrite.specs.Lowers.{Lowers}
use Rattle.sx_rewrite.specs.PlainRules.{plain_of}

-- the base rules with the plain rules are an accepted set,
-- so plain rules are moded and disciplined, and open derivations by them are lowered as others are
abbrev pub PlainRulesAreAccepted : Type 0
PlainRulesAreAccepted =
    (sig : Signature) (base shapes : List Shape) (a : Accepted) → IsAccepted sig base shapes a →
    IsAccepted sig base shapes (plain_of a)

-- what is lowered by the rules of a set is lowered to the same by its plain rules
abbrev pub PlainRulesLowerAlike : Type 0
PlainRulesLowerAlike =
    (sig : Signature) (base shapes : List Shape) (a : Accepted) → IsAccepted sig base shapes a →
    (hyps : Hypotheses) (p q : Proof) (k : Judgement) → Lowers a sig.subjects hyps p q k →
    Lowers (plain_of a) sig.subjects hyps p q k
