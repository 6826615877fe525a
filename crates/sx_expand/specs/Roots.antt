-- The judgement that a derivation is lowered to, by the numbers of terms.
use Rattle.std.specs.Prelude.{◌≡◌, ℕ, ◌<◌, ◌≤◌, true, List, [], ◌∷◌, map, length, Option, Some}
use Rattle.std.specs.Prelude.{None, Result, Ok, Err}
use Rattle.sx_term.specs.Tree.{Tree, depth_of}
use Rattle.sx_term.specs.declared.role.Role.{Role}
use Rattle.sx_term.specs.declared.role.Role.TheVariants.{In, Sub, Out}
use Rattle.sx_rules.specs.declared.rule.Judgement.{Judgement as JudgementOf}
use Rattle.sx_rules.specs.declared.rule.Place.{Place}
use Rattle.sx_rules.specs.Deep.{AreShallow}
use Rattle.sx_rules.specs.Derivations.{Proof}
use Rattle.sx_rules.specs.Modes.{Goal, goal_of, outputs_of}
use Rattle.sx_rules.specs.Rules.{Judgement}
use Rattle.sx_rules.specs.Views.{judgement}
use Rattle.sx_plain.specs.Plain.{Table, image}
use Rattle.sx_plain.specs.Tables.{FitsTable}
use Rattle.sx_arena.specs.Arena.{tree_at}
use Rattle.sx_rewrite.specs.declared.rewrite_error.RewriteError.{RewriteError}
use Rattle.sx_rewrite.specs.Lowering.{IsLoweringRefused}
use Rattle.sx_rewrite.specs.Lowers.{Lowers}
use Rattle.sx_rewrite.specs.Measured.{Measures}
use Rattle.sx_rewrite.specs.Puts.{IsSmallTerm}
use Rattle.sx_rewrite.specs.Rewriting.{first_over}
use Rattle.sx_expand.specs.declared.reading.Reading.{Reading}
use Rattle.sx_expand.specs.ReadDerivations.{CanReadDerivation}
use Rattle.sx_expand.specs.Readings.{set_by, signature_by, hyps_by}
use Rattle.sx_term.specs.Limits.{most_depth}

-- the roles of the places
abbrev pub roles_of : List Place → List Role
roles_of places = map (λ p. p.role) places

-- the term is the plain image of the one with this number, and passes no limit
pub record IsImagePlace (table : Table) (terms : List Tree) (number : ℕ) (k : Tree) : Type 0 where
  pub within : number < length terms
  pub shallow : depth_of (tree_at terms number) ≤ most_depth
  pub fits : FitsTable table (tree_at terms number)
  pub is : k ≡ image table (tree_at terms number)
  pub small : IsSmallTerm k

-- the term stands at the number, if there is one
abbrev pub IsSubjectPlace : List Tree → Option ℕ → Tree → Type 0
IsSubjectPlace terms None k = ⊥
IsSubjectPlace terms (Some number) k = (number < length terms) × (tree_at terms number ≡ k)

-- at a place of the role stands the plain image of the term, or the subject
abbrev pub IsRootPlace : Table → List Tree → Option ℕ → Role → ℕ → Tree → Type 0
IsRootPlace table terms subject In number k = IsImagePlace table terms number k
IsRootPlace table terms subject Sub number k = IsSubjectPlace terms subject k
IsRootPlace table terms subject Out number k = IsImagePlace table terms number k

-- so it is at the places of these roles, with the inputs and the outputs in their order
abbrev pub StandAt : Table → List Tree → Option ℕ → List Role → (inputs outputs : List ℕ) →
    List Tree → Type 0
StandAt table terms subject [] [] [] [] = Unit {0}
StandAt table terms subject (In ∷ roles) (i ∷ is) os (k ∷ ks) =
    IsRootPlace table terms subject In i k × StandAt table terms subject roles is os ks
StandAt table terms subject (Sub ∷ roles) (i ∷ is) os (k ∷ ks) =
    IsRootPlace table terms subject Sub i k × StandAt table terms subject roles is os ks
StandAt table terms subject (Out ∷ roles) is (o ∷ os) (k ∷ ks) =
    IsRootPlace table terms subject Out o k × StandAt table terms subject roles is os ks
StandAt table terms subject _ _ _ _ = ⊥

-- a derivation of the goal stands at the begin of the list; its outputs are no deeper than 1,000
pub record IsRoot (l : Reading) (goal : Goal) (j : Judgement) (p : Proof) : Type 0 where
  pub can : CanReadDerivation l 0 true j p
  pub goal_is : goal_of (signature_by l).modes j ≡ goal
  pub near : AreShallow (outputs_of (signature_by l).modes j)

-- this is the judgement that the derivation is lowered to, and no measured term passes a limit;
-- or the error tells the first that does
abbrev pub IsRootLowered : Reading → Proof → Result JudgementOf RewriteError → Type 0
IsRootLowered l p (Ok x) =
    ((q : Proof) (k : Judgement) → Lowers (set_by l) (signature_by l).subjects (hyps_by l) p q k →
    judgement x ≡ k)
    × ((ts : List Tree) → Measures (set_by l) (signature_by l).subjects (hyps_by l) p ts →
    first_over ts ≡ None)
IsRootLowered l p (Err e) = IsLoweringRefused (set_by l) (signature_by l).subjects (hyps_by l) p e
