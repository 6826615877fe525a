-- A node whose kids are read is read, or refused.
use Rattle.std.proofs.Common.{◌≡◌, ℕ, true, false, List, [], length, Option, Some, sym, ap, ◌∙◌, subst}
use Rattle.std.specs.Prelude.{slice_get, Result, Ok, Err}
use Rattle.sx_term.specs.Tree.{Tree}
use Rattle.sx_term.specs.Sorts.{Shape}
use Rattle.sx_rules.specs.Derivations.{Proofs, ShallowJudgements}
use Rattle.sx_rules.specs.Discipline.{AreBareSubjects}
use Rattle.sx_rules.specs.Rules.{Rule, Hypotheses, judgements_of}
use Rattle.sx_rules.specs.Sets.{shapes_in}
use Rattle.sx_rewrite.specs.declared.rewrite_error.RewriteError.{RewriteError}
use Rattle.sx_rewrite.specs.Accepted.{Known, rule_in, Accepted, known_of, extended_rules, Signature}
use Rattle.sx_rewrite.specs.Accepted.{IsAccepted}
use Rattle.sx_rewrite.specs.Lowering.{CanLower}
use Rattle.sx_rewrite.specs.Needed.{needed}
use Rattle.sx_rewrite.specs.PutSubjects.{IsNodeOf}
use Rattle.sx_rewrite.specs.Stored.{certificate_at}
use Rattle.sx_rewrite.proofs.Known.{known-at, accepted-disciplined}
use Rattle.sx_expand.specs.declared.reading.Reading.{Reading}
use Rattle.sx_expand.specs.declared.node.Node.{Node}
use Rattle.sx_expand.specs.declared.work.Work.{Work}
use Rattle.sx_expand.specs.KidSubjects.{AreKidSubjects}
use Rattle.sx_expand.specs.Readings.{IsListReading, set_by, signature_by, hyps_by}
use Rattle.sx_expand.specs.LoweredNodes.{NodeOver, IsNodeLowered}
use Rattle.sx_expand.specs.ReadNodes.{NodeData, IsNodeIn, proof_by, IsNodeRead, IsSubjectRead}
use Rattle.sx_expand.proofs.Bindings.{is-by}
use Rattle.sx_expand.proofs.Givens.{given-near}
use Rattle.sx_expand.proofs.KidSteps.{can-lower}
use Rattle.sx_expand.proofs.KidsLowered.{KidsLoweredTo, kids-lowered}
use Rattle.sx_expand.proofs.NodeRead.{node-small, node-refused}
use Rattle.sx_expand.proofs.NodeSubject.{node-subject}
use Rattle.sx_expand.proofs.Nodes.{kids-many}
use Rattle.sx_rewrite.proofs.Tallied.{derived-fit}

module _ (l : Reading) (good : IsListReading l) (n : Node) (need : n.is_needed ≡ true) (d : NodeData) (is : IsNodeIn l n d)
    (terms : List Tree) (w : Work) (numbers : List (Option ℕ)) (read : IsNodeRead l n terms w numbers d) where
  ok : IsAccepted (signature_by l) (shapes_in l.listing.set.now.base) (shapes_in l.listing.set.now.rules) (set_by l)
  ok = good.rules.accepted_with

  abbrev a : Accepted
  a = set_by l

  abbrev base : List Shape
  base = shapes_in l.listing.set.now.base

  abbrev shapes : List Shape
  shapes = shapes_in l.listing.set.now.rules

  near : ShallowJudgements (hyps_by l).judgements
  near = given-near l.listing.set.now (hyps_by l) good.given

  abbrev sig : Signature
  sig = signature_by l

  can : CanLower a (hyps_by l) (proof_by n d)
  can = can-lower l n d is need

  known-here : (known : Known) × (slice_get (known_of a) n.number ≡ Some known) × (rule_in known ≡ d.rule)
  known-here = known-at (known_of a) n.number d.rule is.found

  -- its kids are lowered
  lowered : KidsLoweredTo a sig (hyps_by l) (needed (certificate_at a n.number)) terms d.kids numbers
  lowered =
      kids-lowered sig base shapes a ok (hyps_by l) good.given.below (needed (certificate_at a n.number)) terms d.kids numbers _
      (is-by (extended_rules a) (hyps_by l) n.number d.rule d.judgement d.binds d.kids is.found is.can.derives).each (read.kids need)

  pub kids-have-subjects : (hyps : Hypotheses) × (kids : Proofs) × AreKidSubjects sig.subjects a.base hyps (needed (certificate_at a n.number)) terms kids numbers
  kids-have-subjects = ((hyps_by l), lowered.news, lowered.subjects)

  pub node-of : (rules : List Rule) → rules ≡ extended_rules a → (count : ℕ) → count ≡ length d.binds → IsNodeOf rules sig.subjects n.number count (length numbers)
  node-of rules same count many =
      let b = is-by (extended_rules a) (hyps_by l) n.number d.rule d.judgement d.binds d.kids is.found is.can.derives in
      let bare = (accepted-disciplined sig base shapes a ok n.number known-here.0 known-here.1).bare in
      record {
        rule = d.rule;
        at = ap (λ (rs : List Rule). slice_get rs n.number) same ∙ is.found;
        binds_many = many ∙ b.many;
        kids_many = sym (read.kids need).many ∙ kids-many a n.number d.binds d.kids d.rule (derived-fit a (hyps_by l) d.judgement (proof_by n d) is.can.derives) is.found;
        bare = subst (λ (x : Rule). AreBareSubjects sig.subjects x.conclusion [] (judgements_of x.premises)) known-here.2 bare;
      }

  -- the node lowered, with the terms that are bound
  abbrev over : List Tree → NodeOver
  over bs = record { rule = n.number; known = known-here.0; binds = bs; kids = lowered.news; count = length numbers }

  pub subject-read : (later bs : List Tree) → bs ≡ d.binds → (r : Result (Option ℕ) RewriteError) →
      ((x : Known) → slice_get (known_of a) n.number ≡ Some x → (hyps : Hypotheses) (kids : Proofs) → AreKidSubjects sig.subjects a.base hyps (needed (certificate_at a n.number)) terms kids numbers →
      IsNodeLowered a sig.subjects hyps later (record { rule = n.number; known = x; binds = bs; kids = kids; count = length numbers }) r) →
      IsSubjectRead l n later d r
  subject-read later bs same r f = go r (subst (λ (us : List Tree). IsNodeLowered a sig.subjects (hyps_by l) later (over us) r) same (f known-here.0 known-here.1 (hyps_by l) lowered.news lowered.subjects))
    where
      go : (r : Result (Option ℕ) RewriteError) → IsNodeLowered a sig.subjects (hyps_by l) later (over d.binds) r → IsSubjectRead l n later d r
      go (Ok number) own = λ needs. record {
        small = node-small sig base shapes a ok (hyps_by l) good.given.below near n.number d.binds d.kids can known-here.0 known-here.1 terms numbers lowered later number own;
        subject = node-subject sig base shapes a ok (hyps_by l) good.given.below near n.number d.binds d.kids can known-here.0 known-here.1 terms numbers lowered later number own;
      }
      go (Err e) h = (
        (λ needs. node-refused sig base shapes a ok (hyps_by l) good.given.below near n.number d.binds d.kids can known-here.0 known-here.1 terms numbers lowered e h),
        (λ lacks. let z : true ≡ false = sym need ∙ lacks in cc),
      )
