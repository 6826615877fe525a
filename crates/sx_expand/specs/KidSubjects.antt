-- The subjects of lowered kids, by number.
use Rattle.std.specs.Prelude.{◌≡◌, ℕ, ◌<◌, Bool, true, List, [], ◌∷◌, length, get_or, Option}
use Rattle.std.specs.Prelude.{Some, None}
use Rattle.sx_term.specs.Tree.{Tree}
use Rattle.sx_rules.specs.Derivations.{Proof, Proofs, proof_at, Derives}
use Rattle.sx_rules.specs.Discipline.{subjects_of}
use Rattle.sx_rules.specs.Modes.{Modes}
use Rattle.sx_rules.specs.Rules.{Judgement, Rule, Hypotheses}
use Rattle.sx_arena.specs.Arena.{tree_at}
use Rattle.sx_rewrite.specs.LoweredSizes.{proof_count}
use Rattle.sx_rewrite.specs.Puts.{IsSmallTerm}

-- the first of the subjects stands at the number and passes no limit, or there is none
abbrev pub IsSubjectAt : List Tree → List Tree → Option ℕ → Type 0
IsSubjectAt terms subjects None = subjects ≡ []
IsSubjectAt terms subjects (Some i) =
    (i < length terms) × IsSmallTerm (tree_at terms i)
    × ((rest : List Tree) × (subjects ≡ tree_at terms i ∷ rest))

-- so it is of the subject of what the kid derives, and it derives a judgement
pub record IsKidSubject (subjects : Modes) (rules : List Rule) (hyps : Hypotheses)
    (terms : List Tree) (kid : Proof) (number : Option ℕ) : Type 0 where
  pub judgement : Judgement
  pub derives : Derives rules hyps judgement kid
  pub is : (k : Judgement) → Derives rules hyps k kid →
      IsSubjectAt terms (subjects_of subjects k) number

-- so it is of each kid that is needed
pub record AreKidSubjects (subjects : Modes) (rules : List Rule) (hyps : Hypotheses)
    (need : ℕ → Bool) (terms : List Tree) (kids : Proofs) (numbers : List (Option ℕ)) :
    Type 0 where
  pub many : proof_count kids ≡ length numbers
  pub each : (i : ℕ) (kid : Proof) → need i ≡ true → proof_at kids i ≡ Some kid →
      IsKidSubject subjects rules hyps terms kid (get_or numbers i None)
