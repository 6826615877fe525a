-- Laws of measured terms.
use Rattle.std.specs.Prelude.{◌≡◌, Bool, List}
use Rattle.sx_term.specs.Tree.{Tree}
use Rattle.sx_term.specs.Sorts.{Shape}
use Rattle.sx_rules.specs.Rules.{Judgement, Hypotheses}
use Rattle.sx_rules.specs.Derivations.{Proof, Derives}
use Rattle.sx_rewrite.specs.Accepted.{Accepted, Signature, IsAccepted, extended_rules}
use Rattle.sx_rewrite.specs.Lowers.{Lowers}
use Rattle.sx_rewrite.specs.Measured.{Measures, AllPass, ProofPasses}

-- each derivation has a list of measured terms
abbrev pub TermsAreMeasured : Type 0
TermsAreMeasured =
    (sig : Signature) (base shapes : List Shape) (a : Accepted) → IsAccepted sig base shapes a →
    (hyps : Hypotheses) (p : Proof) (j : Judgement) → Derives (extended_rules a) hyps j p →
    (ts : List Tree) × Measures a sig.subjects hyps p ts

-- and one alone
abbrev pub MeasuringIsUnique : Type 0
MeasuringIsUnique =
    (sig : Signature) (base shapes : List Shape) (a : Accepted) → IsAccepted sig base shapes a →
    (hyps : Hypotheses) (p : Proof) (ts us : List Tree) → Measures a sig.subjects hyps p ts →
    Measures a sig.subjects hyps p us → ts ≡ us

-- where all measured terms pass a test, all terms of the lowered derivation do
abbrev pub MeasuredAreAll : Type 0
MeasuredAreAll =
    (sig : Signature) (base shapes : List Shape) (a : Accepted) → IsAccepted sig base shapes a →
    (hyps : Hypotheses) (p q : Proof) (k : Judgement) (ts : List Tree) →
    Lowers a sig.subjects hyps p q k → Measures a sig.subjects hyps p ts →
    (test : Tree → Bool) → AllPass test ts → ProofPasses test a.base q
