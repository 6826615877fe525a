-- A node of a derivation in a list, whose kids are read one after another.
use Rattle.std.specs.Prelude.{◌≡◌, ℕ, true, List, [], ◌∷◌, Vec, Option, Some, Result, Ok, Err}
use Rattle.std.specs.Prelude.{slice_get}
use Rattle.std.specs.declared.alloc.Global.{Global}
use Rattle.sx_term.specs.Tree.{Tree}
use Rattle.sx_rules.specs.Derivations.{Proof, Proofs, by}
use Rattle.sx_rules.specs.Instances.{bound_by}
use Rattle.sx_rules.specs.Rules.{Judgement, Premise, holds, Rule, judgement_instance}
use Rattle.sx_rules.specs.Views.{judgement}
use Rattle.sx_arena.specs.Matching.{Assignment}
use Rattle.sx_rewrite.specs.declared.rewrite_error.RewriteError.{RewriteError}
use Rattle.sx_rewrite.specs.Accepted.{extended_rules}
use Rattle.sx_rewrite.specs.Needed.{needed}
use Rattle.sx_rewrite.specs.Stored.{certificate_at}
use Rattle.sx_expand.specs.declared.kid.Kid.{Kid}
use Rattle.sx_expand.specs.declared.node.Node.{Node}
use Rattle.sx_expand.specs.declared.reading.Reading.{Reading}
use Rattle.sx_expand.specs.declared.work.Work.{Work}
use Rattle.sx_expand.specs.Followed.{FollowsNode, bindings_of}
use Rattle.sx_expand.specs.KidsRead.{IsKidRead, AreKidsRead}
use Rattle.sx_expand.specs.ReadDerivations.{CanReadDerivation, IsReadRefused}
use Rattle.sx_expand.specs.Readings.{set_by, signature_by, hyps_by}

-- the rule of a node, what the node derives, its terms and its kids
pub record NodeData : Type 0 where
  pub rule : Rule
  pub judgement : Judgement
  pub binds : List Tree
  pub kids : Proofs

-- the derivation that ends with the node
abbrev pub proof_by : Node → NodeData → Proof
proof_by n d = by n.number d.binds d.kids

-- the node stands in the list and is by the rule
pub record IsNodeIn (l : Reading) (n : Node) (d : NodeData) : Type 0 where
  pub found : slice_get (extended_rules (set_by l)) n.number ≡ Some d.rule
  pub can : CanReadDerivation l n.at n.is_needed d.judgement (proof_by n d)

-- of a node with these terms so much is bound with these premises left
abbrev pub AreFollowed : Reading → Rule → List Tree → List Premise → Assignment → Type 0
AreFollowed l rule binds ps env = FollowsNode (signature_by l).modes rule (bound_by binds) ps env

-- all premises are followed, and the kids of a node that is needed are read
pub record IsNodeRead (l : Reading) (n : Node) (terms : List Tree) (w : Work)
    (numbers : List (Option ℕ)) (d : NodeData) : Type 0 where
  pub followed : AreFollowed l d.rule d.binds [] (bindings_of terms w)
  pub kids : n.is_needed ≡ true → AreKidsRead (set_by l) (signature_by l).subjects (hyps_by l)
      (needed (certificate_at (set_by l) n.number)) terms d.kids numbers

-- the kids of a node are read, or the node is refused
abbrev pub AreRead : Reading → Node → List Tree → Work → NodeData →
    Result (Vec (Option ℕ) Global) RewriteError → Type 0
AreRead l n terms w d (Ok numbers) = IsNodeRead l n terms w numbers.items d
AreRead l n terms w d (Err e) = IsReadRefused l n.is_needed (proof_by n d) e

-- the rule and the terms of a node, a kid, and the premises after that of the kid
pub record KidData : Type 0 where
  pub rule : Rule
  pub binds : List Tree
  pub rest : List Premise
  pub proof : Proof

-- the kid derives the instance of its premise, which is the first that is left
pub record IsKidIn (l : Reading) (k : Kid) (env : Assignment) (d : KidData) : Type 0 where
  pub can : CanReadDerivation l k.at k.is_needed
      (judgement_instance (bound_by d.binds) (judgement k.premise.now)) d.proof
  pub followed : AreFollowed l d.rule d.binds (holds (judgement k.premise.now) ∷ d.rest) env

-- its premise is followed and the kid is read, or it is refused
abbrev pub IsKidDone : Reading → Kid → List Tree → Work → KidData →
    Result (Option ℕ) RewriteError → Type 0
IsKidDone l k terms w d (Ok number) =
    AreFollowed l d.rule d.binds d.rest (bindings_of terms w)
    × (k.is_needed ≡ true →
    IsKidRead (set_by l) (signature_by l).subjects (hyps_by l) terms d.proof number)
IsKidDone l k terms w d (Err e) = IsReadRefused l k.is_needed d.proof e

-- the subject of what a node is lowered to is read where the node is needed, or the node is refused
abbrev pub IsSubjectRead : Reading → Node → List Tree → NodeData →
    Result (Option ℕ) RewriteError → Type 0
IsSubjectRead l n terms d (Ok number) =
    n.is_needed ≡ true → IsKidRead (set_by l) (signature_by l).subjects (hyps_by l) terms
    (proof_by n d) number
IsSubjectRead l n terms d (Err e) = IsReadRefused l n.is_needed (proof_by n d) e
