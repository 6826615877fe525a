-- What is read of derivations, by the numbers of terms.
use Rattle.std.specs.Prelude.{◌≡◌, ℕ, Bool, true, List, length, get_or, Option, Some, None}
use Rattle.sx_term.specs.Tree.{Tree}
use Rattle.sx_rules.specs.Derivations.{Proof, Proofs, proof_at}
use Rattle.sx_rules.specs.Discipline.{subjects_of}
use Rattle.sx_rules.specs.Modes.{Modes}
use Rattle.sx_rules.specs.Rules.{Judgement, Hypotheses}
use Rattle.sx_rewrite.specs.Accepted.{Accepted}
use Rattle.sx_rewrite.specs.LoweredSizes.{proof_count}
use Rattle.sx_rewrite.specs.Lowers.{Lowers}
use Rattle.sx_rewrite.specs.Measured.{Measures}
use Rattle.sx_rewrite.specs.Rewriting.{first_over}
use Rattle.sx_expand.specs.KidSubjects.{IsSubjectAt}

-- no term that is measured for the derivation passes a limit, and the subject of what it is
-- lowered to stands at the number
pub record IsKidRead (a : Accepted) (subjects : Modes) (hyps : Hypotheses) (terms : List Tree)
    (p : Proof) (number : Option ℕ) : Type 0 where
  pub small : (ts : List Tree) → Measures a subjects hyps p ts → first_over ts ≡ None
  pub subject : (q : Proof) (k : Judgement) → Lowers a subjects hyps p q k →
      IsSubjectAt terms (subjects_of subjects k) number

-- so it is of each kid that is needed
pub record AreKidsRead (a : Accepted) (subjects : Modes) (hyps : Hypotheses) (need : ℕ → Bool)
    (terms : List Tree) (kids : Proofs) (numbers : List (Option ℕ)) : Type 0 where
  pub many : proof_count kids ≡ length numbers
  pub each : (i : ℕ) (p : Proof) → need i ≡ true → proof_at kids i ≡ Some p →
      IsKidRead a subjects hyps terms p (get_or numbers i None)
