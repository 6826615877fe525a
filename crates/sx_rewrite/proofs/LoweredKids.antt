-- The kids of a node that are lowered.
use Rattle.std.proofs.Common.{◌≡◌, arith, ℕ, zero, suc, ◌+◌, ◌<◌, ◌≤◌, inl, inr, Bool, true, false, List, [], ◌∷◌, map, length, Option, Some, None, refl, sym, ap, ◌∙◌, subst}
use Rattle.std.specs.Prelude.{slice_get, slice_index_or, option_map}
use Rattle.sx_term.specs.Tree.{Tree}
use Rattle.sx_term.specs.Sorts.{Shape}
use Rattle.sx_rules.specs.Instances.{bound_by}
use Rattle.sx_rules.specs.Rules.{Judgement, Rule, Hypotheses, judgement_instance, judgements_of}
use Rattle.sx_rules.specs.Derivations.{Proof, Proofs, by, given, no_more, ◌⊳◌, proof_at, put_for}
use Rattle.sx_rules.specs.Derivations.{Derives, DeriveEach, height_of, most_height, HasShallowBinds}
use Rattle.sx_rules.specs.Derivations.{HaveShallowBinds, ShallowJudgements, graft, grafts}
use Rattle.sx_plain.specs.Plain.{Table}
use Rattle.sx_plain.specs.Measures.{greatest}
use Rattle.sx_rewrite.specs.Accepted.{Known, basic, checked, Accepted, known_of, extended_rules}
use Rattle.sx_rewrite.specs.Accepted.{Signature, IsAccepted}
use Rattle.sx_rewrite.specs.Stored.{stored_in}
use Rattle.sx_rewrite.specs.Lowers.{Lowers, LowersEach, HypothesesBelow}
use Rattle.sx_rewrite.specs.Used.{IsUsed, IsUsedAmong, grafted_height, grafted_height_of, height_at}
use Rattle.sx_rewrite.specs.Used.{lowered_height, lowered_heights_of}
use Rattle.sx_rewrite.specs.Measured.{Measures}
use Rattle.sx_rewrite.specs.LoweredSizes.{proof_count}
use Rattle.sx_rewrite.specs.Needed.{needed}
use Rattle.sx_rewrite.specs.PutSubjects.{IsProofReady, AreReady}
use Rattle.sx_rewrite.specs.Lowering.{BindsFit, AllBindsFit, CanLower, IsLoweredTo, AreLoweredTo}
use Rattle.sx_rewrite.proofs.Lowerings.{lowered_are_derivations}
use Rattle.sx_rewrite.proofs.LoweredAlways.{lowering_exists, all_lowered}
use Rattle.sx_rewrite.proofs.Counted.{height_each, lowered_are_counted, all_counted}
use Rattle.sx_rewrite.proofs.Measured.{terms_are_measured, measured_are_all}
use Rattle.sx_rewrite.proofs.Rewriting.{is_shallow, not_over, binds-shallow, places-shallow}
use Rattle.sx_rewrite.proofs.Used.{graft-same}
use Rattle.sx_rewrite.proofs.Needs.{test-used}

-- what is at a place
derives-at : (rules : List Rule) (hyps : Hypotheses) (js : List Judgement) (ps : Proofs) (i : ℕ) (p : Proof) → DeriveEach rules hyps js ps → proof_at ps i ≡ Some p → (j : Judgement) × Derives rules hyps j p
derives-at rules hyps js no_more i p d e = cc
derives-at rules hyps [] (x ⊳ ps) i p d e = absurd d
derives-at rules hyps (j ∷ js) (x ⊳ ps) zero p d e = let q : x ≡ p = cc in (j, subst (λ (y : Proof). Derives rules hyps j y) q d.0)
derives-at rules hyps (j ∷ js) (x ⊳ ps) (suc i) p d e = derives-at rules hyps js ps i p d.1 e

binds-at : (ps : Proofs) (i : ℕ) (p : Proof) → HaveShallowBinds ps → proof_at ps i ≡ Some p → HasShallowBinds p
binds-at no_more i p h e = cc
binds-at (x ⊳ ps) zero p h e = let q : x ≡ p = cc in subst HasShallowBinds q h.0
binds-at (x ⊳ ps) (suc i) p h e = binds-at ps i p h.1 e

fit-at : (table : Table) (ps : Proofs) (i : ℕ) (p : Proof) → AllBindsFit table ps → proof_at ps i ≡ Some p → BindsFit table p
fit-at table no_more i p h e = cc
fit-at table (x ⊳ ps) zero p h e = let q : x ≡ p = cc in subst (BindsFit table) q h.0
fit-at table (x ⊳ ps) (suc i) p h e = fit-at table ps i p h.1 e

height-at : (a : Accepted) (ps : Proofs) (i : ℕ) (p : Proof) → proof_at ps i ≡ Some p → (i < length (lowered_heights_of a ps)) × (slice_index_or (lowered_heights_of a ps) i 1 ≡ lowered_height a p)
height-at a no_more i p e = cc
height-at a (x ⊳ ps) zero p e = let q : x ≡ p = cc in (omega arith, ap (lowered_height a) q)
height-at a (x ⊳ ps) (suc i) p e = let h = height-at a ps i p e in let l = h.0 in (omega (arith, l), h.1)

-- the heights that count
within-greatest : (hs : List ℕ) (i : ℕ) → i < length hs → slice_index_or hs i 1 ≤ greatest hs
within-greatest [] i l = absurd (omega (arith, l))
within-greatest (h ∷ hs) zero l = omega arith
within-greatest (h ∷ hs) (suc i) l = let r = within-greatest hs i (omega (arith, l)) in omega (arith, r)

mutual
  within-grafted : (hs : List ℕ) (i : ℕ) (p : Proof) → IsUsed i p → slice_index_or hs i 1 ≤ grafted_height hs p
  within-grafted hs i (by r binds kids) u = let h = within-grafteds hs i kids u in omega (arith, h)
  within-grafted hs i (given j) u = let e = ap (λ (n : ℕ). slice_index_or hs n 1) u in omega (arith, e)

  within-grafteds : (hs : List ℕ) (i : ℕ) (ps : Proofs) → IsUsedAmong i ps → slice_index_or hs i 1 ≤ grafted_height_of hs ps
  within-grafteds hs i no_more u = absurd u
  within-grafteds hs i (p ⊳ ps) (inl u) = let h = within-grafted hs i p u in omega (arith, h)
  within-grafteds hs i (p ⊳ ps) (inr u) = let h = within-grafteds hs i ps u in omega (arith, h)

-- the kids that a node by the rule needs
abbrev pub need_of : Known → ℕ → Bool
need_of known = needed (option_map (λ c. c.proof) (stored_in (Some known)))

kid-low : (known : Known) (hs : List ℕ) (i : ℕ) → need_of known i ≡ true → i < length hs → slice_index_or hs i 1 ≤ height_at (Some known) hs
kid-low (basic rule) hs i n l = let h = within-greatest hs i l in omega (arith, h)
kid-low (checked c) hs i n l = within-grafted hs i c.proof (test-used i c.proof n)

-- as many proofs
pub at-both : (ps qs : Proofs) (i : ℕ) (q : Proof) → proof_count qs ≡ proof_count ps → proof_at qs i ≡ Some q → (p : Proof) × (proof_at ps i ≡ Some p)
at-both ps no_more i q n e = cc
at-both no_more (y ⊳ qs) i q n e = absurd (omega (arith, n))
at-both (x ⊳ ps) (y ⊳ qs) zero q n e = (x, refl)
at-both (x ⊳ ps) (y ⊳ qs) (suc i) q n e = at-both ps qs i q (omega (arith, n)) e

pub none-both : (ps qs : Proofs) (i : ℕ) → proof_count qs ≡ proof_count ps → proof_at ps i ≡ None → proof_at qs i ≡ None
none-both ps no_more i n e = refl
none-both no_more (y ⊳ qs) i n e = absurd (omega (arith, n))
none-both (x ⊳ ps) (y ⊳ qs) zero n e = cc
none-both (x ⊳ ps) (y ⊳ qs) (suc i) n e = none-both ps qs i (omega (arith, n)) e

all-high : (qs : Proofs) (n : ℕ) → ((i : ℕ) (q : Proof) → proof_at qs i ≡ Some q → height_of q ≤ n) → most_height qs ≤ n
all-high no_more n f = omega arith
all-high (q ⊳ qs) n f = let a = f 0 q refl in let b = all-high qs n (λ i x e. f (suc i) x e) in omega (arith, a, b)

all-binds : (qs : Proofs) → ((i : ℕ) (q : Proof) → proof_at qs i ≡ Some q → HasShallowBinds q) → HaveShallowBinds qs
all-binds no_more f = tt
all-binds (q ⊳ qs) f = (f 0 q refl, all-binds qs (λ i x e. f (suc i) x e))

-- how deep a graft is
put-high : (qs : Proofs) (i n : ℕ) → height_of (put_for (proof_at qs i) n) ≡ slice_index_or (height_each qs) i 1
put-high no_more i n = refl
put-high (q ⊳ qs) zero n = refl
put-high (q ⊳ qs) (suc i) n = put-high qs i n

mutual
  graft-high : (qs : Proofs) (p : Proof) → height_of (graft qs p) ≡ grafted_height (height_each qs) p
  graft-high qs (by r binds kids) = ap (λ (n : ℕ). n + 1) (grafts-high qs kids)
  graft-high qs (given i) = put-high qs i i

  grafts-high : (qs ps : Proofs) → most_height (grafts qs ps) ≡ grafted_height_of (height_each qs) ps
  grafts-high qs no_more = refl
  grafts-high qs (p ⊳ ps) =
      let a = graft-high qs p in
      let b = grafts-high qs ps in cc

-- what each kid is lowered to
pub record LoweredAt (a : Accepted) (sig : Signature) (hyps : Hypotheses) (p : Proof) (os : Proofs) (ls : List Judgement) (i : ℕ) : Type 0 where
  pub other : Proof
  pub judgement : Judgement
  pub at : proof_at os i ≡ Some other
  pub at_judgement : slice_get ls i ≡ Some judgement
  pub lowers : Lowers a sig.subjects hyps p other judgement

pub lowered-at : (a : Accepted) (sig : Signature) (hyps : Hypotheses) (ps os : Proofs) (ls : List Judgement) (i : ℕ) (p : Proof) → LowersEach a sig.subjects hyps ps os ls → proof_at ps i ≡ Some p → LoweredAt a sig hyps p os ls i
lowered-at a sig hyps no_more os ls i p l e = cc
lowered-at a sig hyps (x ⊳ ps) no_more ls i p l e = absurd l
lowered-at a sig hyps (x ⊳ ps) (o ⊳ os) [] i p l e = absurd l
lowered-at a sig hyps (x ⊳ ps) (o ⊳ os) (k ∷ ls) zero p l e =
    let q : x ≡ p = cc in
    record { other = o; judgement = k; at = refl; at_judgement = refl; lowers = subst (λ (y : Proof). Lowers a sig.subjects hyps y o k) q l.0 }
lowered-at a sig hyps (x ⊳ ps) (o ⊳ os) (k ∷ ls) (suc i) p l e =
    let r = lowered-at a sig hyps ps os ls i p l.1 e in
    record { other = r.other; judgement = r.judgement; at = r.at; at_judgement = r.at_judgement; lowers = r.lowers }

pub lowered-many : (a : Accepted) (sig : Signature) (hyps : Hypotheses) (ps os : Proofs) (ls : List Judgement) → LowersEach a sig.subjects hyps ps os ls → proof_count os ≡ proof_count ps
lowered-many a sig hyps no_more no_more [] l = refl
lowered-many a sig hyps no_more no_more (k ∷ ls) l = absurd l
lowered-many a sig hyps no_more (o ⊳ os) ls l = absurd l
lowered-many a sig hyps (x ⊳ ps) no_more ls l = absurd l
lowered-many a sig hyps (x ⊳ ps) (o ⊳ os) [] l = absurd l
lowered-many a sig hyps (x ⊳ ps) (o ⊳ os) (k ∷ ls) l = let h = lowered-many a sig hyps ps os ls l.1 in omega (arith, h)

module _ (sig : Signature) (base shapes : List Shape) (a : Accepted) (ok : IsAccepted sig base shapes a) (hyps : Hypotheses) (below : HypothesesBelow (length base) hyps) (near : ShallowJudgements hyps.judgements) where
  -- what a derivation is lowered to is ready
  pub lowered-ready : (p q : Proof) → CanLower a hyps p → IsLoweredTo a sig.subjects hyps p q → IsProofReady a.base hyps q
  lowered-ready p q can is = go (lowering_exists sig base shapes a ok hyps p can.judgement can.derives) (terms_are_measured sig base shapes a ok hyps p can.judgement can.derives)
    where
      go : (o : Proof) × (k : Judgement) × Lowers a sig.subjects hyps p o k → (ts : List Tree) × Measures a sig.subjects hyps p ts → IsProofReady a.base hyps q
      go (o, k, l) (ts, m) =
          let same = sym (is.lowered o k l) in
          let d = (lowered_are_derivations sig base shapes a ok hyps below p o can.judgement k can.derives l).0 in
          let passes = measured_are_all sig base shapes a ok hyps p o k ts l m is_shallow (not_over ts (is.small ts m)) in
          record {
            binds = subst HasShallowBinds same (binds-shallow a.base o passes);
            judgement = k;
            derives = subst (λ (x : Proof). Derives a.base hyps k x) same d;
            places = places-shallow a.base hyps o k near d passes;
          }

  pub lowered-low : (p q : Proof) → CanLower a hyps p → IsLoweredTo a sig.subjects hyps p q → height_of q ≤ 3000
  lowered-low p q can is =
      let x = lowering_exists sig base shapes a ok hyps p can.judgement can.derives in
      let c = (lowered_are_counted sig a hyps p x.0 x.1 x.2).1 in
      let e = ap height_of (is.lowered x.0 x.1 x.2) in
      let l = can.low in omega (arith, c, e, l)

  -- a node
  module _ (r : ℕ) (binds : List Tree) (kids : Proofs) (can : CanLower a hyps (by r binds kids)) (known : Known) (at_r : slice_get (known_of a) r ≡ Some known) where
    node-heights : lowered_height a (by r binds kids) ≡ height_at (Some known) (lowered_heights_of a kids)
    node-heights = ap (λ (o : Option Known). height_at o (lowered_heights_of a kids)) at_r

    kids-derive : (js : List Judgement) × DeriveEach (extended_rules a) hyps js kids
    kids-derive = go can.derives
      where
        go : Derives (extended_rules a) hyps can.judgement (by r binds kids) → (js : List Judgement) × DeriveEach (extended_rules a) hyps js kids
        go (rule, at, many, concluded, apart_ones, each) = (map (judgement_instance (bound_by binds)) (judgements_of rule.premises), each)

    pub kid-can : (i : ℕ) (p : Proof) → need_of known i ≡ true → proof_at kids i ≡ Some p → CanLower a hyps p
    kid-can i p n e =
        let d = derives-at (extended_rules a) hyps kids-derive.0 kids i p kids-derive.1 e in
        let h = height-at a kids i p e in
        let h1 = h.1 in
        let k = kid-low known (lowered_heights_of a kids) i n h.0 in
        let l = can.low in
        let m = node-heights in
        record { judgement = d.0; derives = d.1; binds = binds-at kids i p can.binds.1 e; fit = fit-at a.table kids i p can.fit.1 e; low = omega (arith, h1, k, l, m) }

    module _ (news : Proofs) (is : AreLoweredTo a sig.subjects hyps (need_of known) kids news) where
      pub kids-ready : AreReady a.base hyps (need_of known) news
      kids-ready i q n e =
          let p = at-both kids news i q is.many e in
          lowered-ready p.0 q (kid-can i p.0 n p.1) (is.each i p.0 q n p.1 e)

      pub kids-high : most_height news ≤ 3000
      kids-high = all-high news 3000 (λ i q e. go i q e (need_of known i) refl)
        where
          go : (i : ℕ) (q : Proof) → proof_at news i ≡ Some q → (b : Bool) → need_of known i ≡ b → height_of q ≤ 3000
          go i q e true n = let p = at-both kids news i q is.many e in lowered-low p.0 q (kid-can i p.0 n p.1) (is.each i p.0 q n p.1 e)
          go i q e false n = let b = is.blank i q n e in let h = ap height_of b.1 in omega (arith, h)

      pub kids-binds : HaveShallowBinds news
      kids-binds = all-binds news (λ i q e. go i q e (need_of known i) refl)
        where
          go : (i : ℕ) (q : Proof) → proof_at news i ≡ Some q → (b : Bool) → need_of known i ≡ b → HasShallowBinds q
          go i q e true n = (kids-ready i q n e).binds
          go i q e false n = let b = is.blank i q n e in subst HasShallowBinds (sym b.1) tt

      -- the kids that are needed are those that each is lowered to
      module _ (os : Proofs) (ls : List Judgement) (each : LowersEach a sig.subjects hyps kids os ls) where
        pub same-kid : (i : ℕ) → need_of known i ≡ true → proof_at news i ≡ proof_at os i
        same-kid i n = go (proof_at kids i) refl (proof_at news i) refl
          where
            go : (o : Option Proof) → proof_at kids i ≡ o → (m : Option Proof) → proof_at news i ≡ m → proof_at news i ≡ proof_at os i
            go None e m f = none-both kids news i is.many e ∙ sym (none-both kids os i (lowered-many a sig hyps kids os ls each) e)
            go (Some p) e None f = let z : Some p ≡ None = sym e ∙ none-both news kids i (sym is.many) f in cc
            go (Some p) e (Some q) f =
                let w = lowered-at a sig hyps kids os ls i p each e in
                let s = (is.each i p q n e f).lowered w.other w.judgement w.lowers in
                f ∙ ap (λ (x : Proof). let y : Option Proof = Some x in y) s ∙ sym w.at

      pub whole-low : (certificate : Proof) → ((i : ℕ) → IsUsed i certificate → need_of known i ≡ true) → height_at (Some known) (lowered_heights_of a kids) ≡ grafted_height (lowered_heights_of a kids) certificate →
          height_of (graft news certificate) ≤ 3000
      whole-low certificate u h =
          let x = all_lowered sig base shapes a ok hyps kids kids-derive.0 kids-derive.1 in
          let s = ap height_of (graft-same news x.0 certificate (λ i v. same-kid x.0 x.1 x.2 i (u i v))) in
          let g = graft-high x.0 certificate in
          let c = ap (λ (hs : List ℕ). grafted_height hs certificate) (all_counted sig a hyps kids x.0 x.1 x.2).1 in
          let m = node-heights in
          let l = can.low in omega (arith, s, g, c, h, m, l)
