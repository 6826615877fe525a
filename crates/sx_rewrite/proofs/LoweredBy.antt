-- A node whose kids are lowered, by what is stored of its rule.
use Rattle.std.proofs.Common.{◌≡◌, arith, ℕ, ◌<◌, ◌≤◌, inl, inr, true, List, [], ◌∷◌, ◌++◌, length, Option, Some, None, refl, sym, ap, ◌∙◌, subst}
use Rattle.std.specs.Prelude.{slice_get, option_map}
use Rattle.sx_term.specs.Tree.{Tree}
use Rattle.sx_term.specs.Sorts.{Shape}
use Rattle.sx_rules.specs.Rules.{Rule, Hypotheses, judgements_of}
use Rattle.sx_rules.specs.Derivations.{Proof, Proofs, by, given, no_more, ◌⊳◌, proof_at, Derives}
use Rattle.sx_rules.specs.Derivations.{ShallowJudgements, height_of, most_height, HaveShallowBinds}
use Rattle.sx_rules.specs.Derivations.{graft}
use Rattle.sx_rewrite.specs.declared.rewrite_error.RewriteError.{RewriteError}
use Rattle.sx_rewrite.specs.Accepted.{Known, basic, checked, rule_in, Accepted, known_of}
use Rattle.sx_rewrite.specs.Accepted.{extended_rules, Signature, IsAccepted}
use Rattle.sx_rewrite.specs.Stored.{stored_in, certificate_at}
use Rattle.sx_rewrite.specs.Givens.{givens_of, givens_of_all, NumbersBelow}
use Rattle.sx_rewrite.specs.Lowers.{HypothesesBelow}
use Rattle.sx_rewrite.specs.Used.{IsUsed, IsUsedAmong, grafted_height, height_at}
use Rattle.sx_rewrite.specs.Used.{lowered_heights_of}
use Rattle.sx_rewrite.specs.LoweredSizes.{proof_count, FitKids}
use Rattle.sx_rewrite.specs.Needed.{needed}
use Rattle.sx_rewrite.specs.Puts.{Tells}
use Rattle.sx_rewrite.specs.PutImages.{images_for}
use Rattle.sx_rewrite.specs.PutSubjects.{AreReady, ArePutBelow, IsNodeOf}
use Rattle.sx_rewrite.specs.Rewriting.{first_over}
use Rattle.sx_rewrite.specs.Lowering.{CanLower, IsLoweredTo, AreLoweredTo, IsLoweringRefused}
use Rattle.sx_rewrite.specs.Lowering.{AreRefused, own_terms, own_proof, CanGraft}
use Rattle.sx_rewrite.proofs.Known.{known-at, rule-at, accepted-disciplined}
use Rattle.sx_rewrite.proofs.Measured.{used-test}
use Rattle.sx_rewrite.proofs.Tallied.{derived-fit}
use Rattle.sx_rewrite.proofs.LoweredKids.{need_of, kid-can, kids-ready, kids-high, kids-binds, whole-low}
use Rattle.sx_rewrite.proofs.LoweredNode.{kids-refuse, binds-many, node-lowers, node-refuses}
use Rattle.sx_rewrite.proofs.LoweredNode as node
use Rattle.sx_rewrite.proofs.Summed.{certificates_use_premises}

all-both : (n : ℕ) (xs ys : List ℕ) → NumbersBelow n xs → NumbersBelow n ys → NumbersBelow n (xs ++ ys)
all-both n [] ys h k = k
all-both n (x ∷ xs) ys h k = (h.0, all-both n xs ys h.1 k)

mutual
  givens-below : (n : ℕ) (p : Proof) → ((i : ℕ) → IsUsed i p → i < n) → NumbersBelow n (givens_of p)
  givens-below n (by r binds kids) f = all_givens-below n kids f
  givens-below n (given i) f = (f i refl, tt)

  all_givens-below : (n : ℕ) (ps : Proofs) → ((i : ℕ) → IsUsedAmong i ps → i < n) → NumbersBelow n (givens_of_all ps)
  all_givens-below n no_more f = tt
  all_givens-below n (p ⊳ ps) f = all-both n (givens_of p) (givens_of_all ps) (givens-below n p (λ i u. f i (inl u))) (all_givens-below n ps (λ i u. f i (inr u)))

-- the certificate that is stored of a rule
abbrev cert_of : Known → Option Proof
cert_of known = option_map (λ c. c.proof) (stored_in (Some known))

own_terms-are : (a : Accepted) (known : Known) (r : ℕ) (more : List Tree) → own_terms a.base (cert_of known) r more ≡ node.own_terms a known r more
own_terms-are a (basic rule) r more = refl
own_terms-are a (checked c) r more = refl

own_proof-is : (known : Known) (r : ℕ) (more : List Tree) (qs : Proofs) → own_proof (cert_of known) r more qs ≡ node.own_proof known r more qs
own_proof-is (basic rule) r more qs = refl
own_proof-is (checked c) r more qs = refl

module _ (sig : Signature) (base shapes : List Shape) (a : Accepted) (ok : IsAccepted sig base shapes a) (hyps : Hypotheses) (below : HypothesesBelow (length base) hyps) (near : ShallowJudgements hyps.judgements)
    (r : ℕ) (binds : List Tree) (kids : Proofs) (can : CanLower a hyps (by r binds kids)) (cert : Option Proof) (stored : certificate_at a r ≡ cert) where
  known-here : (known : Known) × (slice_get (known_of a) r ≡ Some known)
  known-here = go can.derives
    where
      go : Derives (extended_rules a) hyps can.judgement (by r binds kids) → (known : Known) × (slice_get (known_of a) r ≡ Some known)
      go (found, at, many, concluded, apart_ones, each) = let k = known-at (known_of a) r found at in (k.0, k.1)

  abbrev known : Known
  known = known-here.0

  at_r : slice_get (known_of a) r ≡ Some known
  at_r = known-here.1

  cert-is : cert_of known ≡ cert
  cert-is = sym (ap (λ (o : Option Known). option_map (λ c. c.proof) (stored_in o)) at_r) ∙ stored

  pub by-can : (i : ℕ) (p : Proof) → needed cert i ≡ true → proof_at kids i ≡ Some p → CanLower a hyps p
  by-can i p n e = kid-can sig base shapes a ok hyps below near r binds kids can known at_r i p (ap (λ (o : Option Proof). needed o i) cert-is ∙ n) e

  pub by-refuse : (e : RewriteError) → AreRefused a sig.subjects hyps (needed cert) kids e → IsLoweringRefused a sig.subjects hyps (by r binds kids) e
  by-refuse e f = kids-refuse sig base shapes a ok hyps below near r binds kids can known at_r e (subst (λ (o : Option Proof). AreRefused a sig.subjects hyps (needed o) kids e) (sym cert-is) f)

  kids-fit : proof_count kids ≡ length (judgements_of (rule_in known).premises)
  kids-fit = subst (λ (o : Option Known). FitKids o kids) at_r (derived-fit a hyps can.judgement (by r binds kids) can.derives).0

  module _ (news : Proofs) (is : AreLoweredTo a sig.subjects hyps (needed cert) kids news) where
    is-known : AreLoweredTo a sig.subjects hyps (need_of known) kids news
    is-known = subst (λ (o : Option Proof). AreLoweredTo a sig.subjects hyps (needed o) kids news) (sym cert-is) is

    pub by-ready : AreReady a.base hyps (needed cert) news
    by-ready = subst (λ (o : Option Proof). AreReady a.base hyps (needed o) news) cert-is (kids-ready sig base shapes a ok hyps below near r binds kids can known at_r news is-known)

    pub by-high : most_height news ≤ 3000
    by-high = kids-high sig base shapes a ok hyps below near r binds kids can known at_r news is-known

    pub by-binds : HaveShallowBinds news
    by-binds = kids-binds sig base shapes a ok hyps below near r binds kids can known at_r news is-known

    pub by-node : IsNodeOf (extended_rules a) sig.subjects r (length binds) (proof_count news)
    by-node = record {
      rule = rule_in known;
      at = rule-at (known_of a) r known at_r;
      binds_many = binds-many sig base shapes a ok hyps below near r binds kids can known at_r;
      kids_many = is.many ∙ kids-fit;
      bare = (accepted-disciplined sig base shapes a ok r known at_r).bare;
    }

    pub by-graft : CanGraft cert news
    by-graft p e = go known at_r (cert-is ∙ e) refl
      where
        go : (y : Known) → slice_get (known_of a) r ≡ Some y → cert_of y ≡ Some p → y ≡ known → NumbersBelow (proof_count news) (givens_of p) × (height_of (graft news p) ≤ 3000)
        go (basic x) at f same = let z : None ≡ Some p = f in cc
        go (checked c) at f same =
            let z : Some c.proof ≡ Some p = f in
            let q : c.proof ≡ p = cc in
            let uses : (i : ℕ) → IsUsed i c.proof → need_of known i ≡ true = (λ i u. ap (λ (w : Known). need_of w i) (sym same) ∙ used-test i c.proof u) in
            let high : height_at (Some known) (lowered_heights_of a kids) ≡ grafted_height (lowered_heights_of a kids) c.proof =
            ap (λ (w : Known). let o : Option Known = Some w in height_at o (lowered_heights_of a kids)) (sym same) in
            let m = is.many in
            let k = kids-fit in
            let w = ap (λ (v : Known). length (judgements_of (rule_in v).premises)) same in
            subst (λ (v : Proof). NumbersBelow (proof_count news) (givens_of v) × (height_of (graft news v) ≤ 3000)) q (
              givens-below (proof_count news) c.proof (λ i u. let l = certificates_use_premises sig base shapes a ok r c at i u in omega (arith, l, m, k, w)),
              whole-low sig base shapes a ok hyps below near r binds kids can known at_r news is-known c.proof uses high,
            )

    module _ (n : ℕ) (many : n ≡ proof_count news) (more : List Tree) (x : Rule) (at_x : slice_get (extended_rules a) r ≡ Some x)
        (put : ArePutBelow sig.subjects a.base hyps (needed cert) (judgements_of x.premises) news n (images_for a.table x.sorts binds) more) where
      put-known : ArePutBelow sig.subjects a.base hyps (need_of known) (judgements_of (rule_in known).premises) news n (images_for a.table (rule_in known).sorts binds) more
      put-known =
          let q : Some x ≡ Some (rule_in known) = sym at_x ∙ rule-at (known_of a) r known at_r in
          let same : x ≡ rule_in known = cc in
          subst (λ (y : Rule). ArePutBelow sig.subjects a.base hyps (need_of known) (judgements_of y.premises) news n (images_for a.table y.sorts binds) more) same
          (subst (λ (o : Option Proof). ArePutBelow sig.subjects a.base hyps (needed o) (judgements_of x.premises) news n (images_for a.table x.sorts binds) more) (sym cert-is) put)

      terms-here : own_terms a.base cert r more ≡ node.own_terms a known r more
      terms-here = ap (λ (o : Option Proof). own_terms a.base o r more) (sym cert-is) ∙ own_terms-are a known r more

      pub by-lowers : (q : Proof) → (first_over (own_terms a.base cert r more) ≡ None) × (q ≡ own_proof cert r more news) → IsLoweredTo a sig.subjects hyps (by r binds kids) q
      by-lowers q h =
          node-lowers sig base shapes a ok hyps below near r binds kids can known at_r news is-known n many more put-known q
          (h.1 ∙ ap (λ (o : Option Proof). own_proof o r more news) (sym cert-is) ∙ own_proof-is known r more news) (ap first_over (sym terms-here) ∙ h.0)

      pub by-refuses : (e : RewriteError) → Tells (first_over (own_terms a.base cert r more)) e → IsLoweringRefused a sig.subjects hyps (by r binds kids) e
      by-refuses e h =
          node-refuses sig base shapes a ok hyps below near r binds kids can known at_r news is-known n many more put-known e
          (subst (λ (us : List Tree). Tells (first_over us) e) terms-here h)
