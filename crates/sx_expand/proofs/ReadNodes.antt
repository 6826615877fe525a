-- A node that begins where its derivation stands, and a hypothesis that is read.
use Rattle.std.proofs.Common.{◌≡◌, ℕ, ◌<◌, Bool, true, List, length, map, Some, sym, ap, subst}
use Rattle.std.specs.Prelude.{get_or, slice_get, Result, Ok}
use Rattle.sx_term.specs.Tree.{Tree}
use Rattle.sx_rules.specs.declared.entry.Entry.{Entry as EntryOf}
use Rattle.sx_rules.specs.declared.entry.Entry.TheVariants.{Rule as OfRule, Given}
use Rattle.sx_rules.specs.Derivations.{Proof, Proofs, by, given, Derives}
use Rattle.sx_rules.specs.Discipline.{subjects_of}
use Rattle.sx_rules.specs.Modes.{outputs_of}
use Rattle.sx_rules.specs.Rules.{Judgement, Rule}
use Rattle.sx_arena.specs.Arena.{tree_at, AreBelow}
use Rattle.sx_rewrite.specs.declared.rewrite_error.RewriteError.{RewriteError}
use Rattle.sx_rewrite.specs.declared.rewrite_error.RewriteError.TheVariants.{Memory}
use Rattle.sx_rewrite.specs.Accepted.{extended_rules}
use Rattle.sx_rewrite.specs.Rewriting.{first_over}
use Rattle.sx_expand.specs.declared.reading.Reading.{Reading}
use Rattle.sx_expand.specs.declared.read.Read.{Read}
use Rattle.sx_expand.specs.KidSubjects.{IsSubjectAt}
use Rattle.sx_expand.specs.Listed.{set_in}
use Rattle.sx_expand.specs.Readings.{set_by, signature_by, hyps_by}
use Rattle.sx_expand.specs.ReadDerivations.{CanReadDerivation, IsDerivationRead, IsReadRefused}
use Rattle.sx_expand.specs.ReadNodes.{NodeData, IsNodeIn}
use Rattle.sx_expand.proofs.EndsAt.{listed-within}
use Rattle.sx_expand.proofs.Givens.{one-given}
use Rattle.sx_expand.proofs.NodeRead.{tells-memory}
use Rattle.sx_expand.proofs.Standing.{IsBy, rule-stands, given-stands}

-- the node with which a derivation ends
pub record NodeFor (l : Reading) (at r : ℕ) (need : Bool) (j : Judgement) (binds : List Tree)
    (kids : Proofs) : Type 0 where
  pub rule : Rule
  pub is : IsNodeIn l (record { number = r; at = at; is_needed = need })
      (record { rule = rule; judgement = j; binds = binds; kids = kids })

abbrev pub data_of : {l : Reading} {at r : ℕ} {need : Bool} {j : Judgement} {binds : List Tree}
    {kids : Proofs} → NodeFor l at r need j binds kids → NodeData
data_of {l} {at} {r} {need} {j} {binds} {kids} n =
    record { rule = n.rule; judgement = j; binds = binds; kids = kids }

-- a derivation that is a hypothesis
pub record IsGivenAt (l : Reading) (n : ℕ) (j : Judgement) (p : Proof) : Type 0 where
  pub is : p ≡ given n
  pub found : slice_get (hyps_by l).judgements n ≡ Some j

module _ (l : Reading) (at : ℕ) (need : Bool) (j : Judgement) (p : Proof)
    (can : CanReadDerivation l at need j p) where
  pub can-within : at < length l.listing.list.now
  can-within = listed-within (set_in l.listing) l.listing.list.now at p can.stands

  -- the entry tells whether it ends by a rule or is a hypothesis
  module _ (x : EntryOf) (here : x ≡ get_or l.listing.list.now at x) (n : ℕ) where
    pub entry-rule : x ≡ OfRule n → IsBy p n
    entry-rule is = rule-stands l.listing.list.now at x n p can-within here is can.stands.stands

    pub entry-given : x ≡ Given n → IsGivenAt l n j p
    entry-given is =
        let e = given-stands l.listing.list.now at x n p can-within here is can.stands.stands in
        record {
          is = e;
          found = subst (λ (q : Proof). Derives (extended_rules (set_by l)) (hyps_by l) j q) e can.derives;
        }

  module _ (r : ℕ) (binds : List Tree) (kids : Proofs) (same : p ≡ by r binds kids) where
    pub node-for : NodeFor l at r need j binds kids
    node-for = go (subst (λ (x : Proof). CanReadDerivation l at need j x) same can)
      where
        ruled : Derives (extended_rules (set_by l)) (hyps_by l) j (by r binds kids) →
            (rule : Rule) × (slice_get (extended_rules (set_by l)) r ≡ Some rule)
        ruled (rule, found, many, concluded, apart_ones, each) = (rule, found)

        go : CanReadDerivation l at need j (by r binds kids) → NodeFor l at r need j binds kids
        go it = let x = ruled it.derives in record { rule = x.0; is = record { found = x.1; can = it } }

    pub read-for : (terms : List Tree) (x : Result Read RewriteError) →
        IsDerivationRead l terms need j (by r binds kids) x → IsDerivationRead l terms need j p x
    read-for terms x h = subst (λ (q : Proof). IsDerivationRead l terms need j q x) (sym same) h

  -- nothing is measured for a hypothesis
  module _ (n : ℕ) (it : IsGivenAt l n j p) where
    pub given-read : (terms : List Tree) (r : Read) → AreBelow (length terms) r.outputs.items →
        map (tree_at terms) r.outputs.items ≡ outputs_of (signature_by l).modes j →
        (need ≡ true → IsSubjectAt terms (subjects_of (signature_by l).subjects j) r.subject) →
        IsDerivationRead l terms need j p (Ok r)
    given-read terms r below outs subject =
        let own = (signature_by l).subjects in
        subst (λ (q : Proof). IsDerivationRead l terms need j q (Ok r)) (sym it.is) (
          below,
          outs,
          λ needs. record {
            small = λ ts m. ap first_over m;
            subject = λ q k lowers.
                subst (λ (y : Judgement). IsSubjectAt terms (subjects_of own y) r.subject)
                (one-given (hyps_by l) n j k it.found lowers.1) (subject needs);
          },
        )

  pub memory-refused : (e : RewriteError) → e ≡ Memory → IsReadRefused l need p e
  memory-refused e same = ((λ needs ts m. tells-memory (first_over ts) e same), (λ lacks. same))
