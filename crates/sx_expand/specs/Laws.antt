-- Laws of lowered derivations.
use Rattle.std.specs.Prelude.{◌≡◌, ℕ, Bool, List, length, Option, Some, None, slice_get}
use Rattle.sx_term.specs.Sorts.{Shape}
use Rattle.sx_term.specs.Tree.{Tree}
use Rattle.sx_rules.specs.Rules.{Judgement, Hypotheses}
use Rattle.sx_rules.specs.Derivations.{Proof, Proofs, by, DeriveEach, ShallowJudgements}
use Rattle.sx_rules.specs.Discipline.{subjects_of}
use Rattle.sx_rules.specs.Modes.{Modes}
use Rattle.sx_rules.specs.Orders.{order_of}
use Rattle.sx_rewrite.specs.declared.rewrite_error.RewriteError.{RewriteError}
use Rattle.sx_rewrite.specs.Accepted.{Accepted, Known, Signature, IsAccepted, known_of}
use Rattle.sx_rewrite.specs.Accepted.{extended_rules}
use Rattle.sx_rewrite.specs.Lowering.{CanLower, AreLoweredTo, IsLoweringRefused}
use Rattle.sx_rewrite.specs.Lowers.{Lowers, HypothesesBelow}
use Rattle.sx_rewrite.specs.Measured.{Measures}
use Rattle.sx_rewrite.specs.Needed.{needed}
use Rattle.sx_rewrite.specs.Rewriting.{first_over}
use Rattle.sx_rewrite.specs.Stored.{certificate_at}
use Rattle.sx_expand.specs.KidSubjects.{IsSubjectAt, AreKidSubjects}
use Rattle.sx_expand.specs.KidsRead.{AreKidsRead}
use Rattle.sx_expand.specs.LoweredNodes.{IsOwnSubject, IsNodeRefused}
use Rattle.sx_expand.specs.LoweredOrders.{lowered_order}

-- what a derivation is lowered to has the order that its own order determines
abbrev pub OrdersAreLowered : Type 0
OrdersAreLowered =
    (a : Accepted) (subjects : Modes) (hyps : Hypotheses) (p q : Proof) (k : Judgement) →
    Lowers a subjects hyps p q k → order_of q ≡ lowered_order a p

-- kids that are read have what they are lowered to, with their subjects at the numbers
abbrev pub KidsAreLowered : Type 0
KidsAreLowered =
    (sig : Signature) (base shapes : List Shape) (a : Accepted) → IsAccepted sig base shapes a →
    (hyps : Hypotheses) → HypothesesBelow (length base) hyps →
    (need : ℕ → Bool) (terms : List Tree) (kids : Proofs) (numbers : List (Option ℕ)) →
    (js : List Judgement) → DeriveEach (extended_rules a) hyps js kids →
    AreKidsRead a sig.subjects hyps need terms kids numbers →
    (news : Proofs) × AreLoweredTo a sig.subjects hyps need kids news
    × AreKidSubjects sig.subjects a.base hyps need terms news numbers

-- over these a node whose own terms pass no limit has no measured term that passes one,
-- and where it is refused the error tells the first that does
abbrev pub NodesAreMeasured : Type 0
NodesAreMeasured =
    (sig : Signature) (base shapes : List Shape) (a : Accepted) → IsAccepted sig base shapes a →
    (hyps : Hypotheses) → HypothesesBelow (length base) hyps →
    ShallowJudgements hyps.judgements →
    (r : ℕ) (binds : List Tree) (kids news : Proofs) → CanLower a hyps (by r binds kids) →
    (known : Known) → slice_get (known_of a) r ≡ Some known →
    (terms : List Tree) (numbers : List (Option ℕ)) →
    AreLoweredTo a sig.subjects hyps (needed (certificate_at a r)) kids news →
    AreKidSubjects sig.subjects a.base hyps (needed (certificate_at a r)) terms news numbers →
    ((later : List Tree) (number : Option ℕ) → IsOwnSubject a sig.subjects hyps later
    (record { rule = r; known = known; binds = binds; kids = news; count = length numbers })
    number → (ts : List Tree) → Measures a sig.subjects hyps (by r binds kids) ts →
    first_over ts ≡ None)
    × ((e : RewriteError) → IsNodeRefused a sig.subjects hyps
    (record { rule = r; known = known; binds = binds; kids = news; count = length numbers }) e →
    IsLoweringRefused a sig.subjects hyps (by r binds kids) e)

-- and the subject of what it is lowered to stands at the number
abbrev pub NodesHaveSubjects : Type 0
NodesHaveSubjects =
    (sig : Signature) (base shapes : List Shape) (a : Accepted) → IsAccepted sig base shapes a →
    (hyps : Hypotheses) → HypothesesBelow (length base) hyps →
    ShallowJudgements hyps.judgements →
    (r : ℕ) (binds : List Tree) (kids news : Proofs) → CanLower a hyps (by r binds kids) →
    (known : Known) → slice_get (known_of a) r ≡ Some known →
    (terms : List Tree) (numbers : List (Option ℕ)) →
    AreLoweredTo a sig.subjects hyps (needed (certificate_at a r)) kids news →
    AreKidSubjects sig.subjects a.base hyps (needed (certificate_at a r)) terms news numbers →
    (later : List Tree) (number : Option ℕ) → IsOwnSubject a sig.subjects hyps later
    (record { rule = r; known = known; binds = binds; kids = news; count = length numbers })
    number → (q : Proof) (k : Judgement) → Lowers a sig.subjects hyps (by r binds kids) q k →
    IsSubjectAt later (subjects_of sig.subjects k) number
