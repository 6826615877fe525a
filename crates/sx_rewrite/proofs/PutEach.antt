-- Subjects that are put, one premise after another.
use Rattle.std.proofs.Common.{◌≡◌, arith, ℕ, zero, suc, ◌+◌, ◌<◌, ◌≤◌, ◌⊎◌, inl, inr, length, drop, get_or, Bool, true, false, List, [], ◌∷◌, map, Box, Option, Some, refl, sym, ap, ◌∙◌, subst}
use Rattle.std.specs.declared.alloc.Global.{Global}
use Rattle.std.specs.Prelude.{slice_get}
use Rattle.sx_term.specs.Tree.{Tree, hole}
use Rattle.sx_term.specs.Instances.{bound_by}
use Rattle.sx_rules.specs.declared.proof.Proof.{Proof as ProofOf}
use Rattle.sx_rules.specs.declared.rule.Premise.{Premise as PremiseOf}
use Rattle.sx_rules.specs.declared.rule.Premise.TheVariants.{Holds, Apart}
use Rattle.sx_rules.specs.declared.rule.Judgement.{Judgement as JudgementOf}
use Rattle.sx_term.specs.declared.term.Term.{Term}
use Rattle.sx_rules.specs.Views.{premise, judgement}
use Rattle.sx_rules.specs.Rules.{Judgement, Rule, Hypotheses, judgements_of}
use Rattle.sx_rules.specs.Modes.{Modes}
use Rattle.sx_rules.specs.Discipline.{subjects_of, IsSubjectIn, AreBareSubjects}
use Rattle.sx_rules.specs.Derivations.{Proof, Proofs, proof_at, Derives}
use Rattle.sx_rules.specs.ProofView.{proof, boxed}
use Rattle.sx_rewrite.specs.declared.put_terms.PutTerms.{PutTerms}
use Rattle.sx_rewrite.specs.Put.{ArePut}
use Rattle.sx_rewrite.specs.PutSubjects.{IsSubjectPut, ArePutBelow}
use Rattle.sx_rewrite.proofs.LoweredAlways.{not_before}
use Rattle.sx_rewrite.proofs.UsedKids.{bare-at}

subject-among : (subjects : Modes) (js : List Judgement) (i : ℕ) (j : Judgement) (w : ℕ) → slice_get js i ≡ Some j → subjects_of subjects j ≡ hole w ∷ [] → IsSubjectIn subjects w js
subject-among subjects [] i j w e f = cc
subject-among subjects (x ∷ js) zero j w e f = let q : x ≡ j = cc in inl (ap (subjects_of subjects) q ∙ f)
subject-among subjects (x ∷ js) (suc i) j w e f = inr (subject-among subjects js i j w e f)

-- two premises have two subjects
two-subjects : (subjects : Modes) (conclusion : Judgement) (before js : List Judgement) (i n : ℕ) (j k : Judgement) (w : ℕ) → AreBareSubjects subjects conclusion before js → i < n →
    slice_get js i ≡ Some j → slice_get js n ≡ Some k → subjects_of subjects j ≡ hole w ∷ [] → subjects_of subjects k ≡ hole w ∷ [] → ⊥
two-subjects subjects conclusion before [] i n j k w a l e f g h = cc
two-subjects subjects conclusion before (x ∷ js) i zero j k w a l e f g h = absurd (omega (arith, l))
two-subjects subjects conclusion before (x ∷ js) zero (suc n) j k w a l e f g h =
    let q : x ≡ j = cc in
    not_before subjects conclusion (x ∷ before) js w a.1 (subject-among subjects js n k w f h) (inl (ap (subjects_of subjects) q ∙ g))
two-subjects subjects conclusion before (x ∷ js) (suc i) (suc n) j k w a l e f g h = two-subjects subjects conclusion (x ∷ before) js i n j k w a.1 (omega (arith, l)) e f g h

bare-one : (ts : List Tree) (w : ℕ) (rest : List Tree) → (ts ≡ []) ⊎ (v : ℕ) × (ts ≡ hole v ∷ []) → ts ≡ hole w ∷ rest → ts ≡ hole w ∷ []
bare-one ts w rest (inl e) f = let q : [] ≡ hole w ∷ rest = sym e ∙ f in cc
bare-one ts w rest (inr x) f = let q : hole x.0 ∷ [] ≡ hole w ∷ rest = sym x.1 ∙ f in let r : x.0 ≡ w = cc in x.1 ∙ ap (λ (v : ℕ). hole v ∷ []) r

below-next : (i n : ℕ) → i < n + 1 → (i ≡ n) ⊎ (i < n)
below-next i n l = grind arith

module _ (subjects : Modes) (rules : List Rule) (hyps : Hypotheses) (need : ℕ → Bool) (js : List Judgement) (kids : Proofs) (old : List Tree) where
  pub none-put : ArePutBelow subjects rules hyps need js kids 0 old old
  none-put = record { many = refl; others = λ w n. refl; here = λ i j w l. absurd (omega (arith, l)) }

  module _ (conclusion : Judgement) (bare : AreBareSubjects subjects conclusion [] js) (n : ℕ) (more : List Tree) (so : ArePutBelow subjects rules hyps need js kids n old more) where
    -- the kid is not needed
    pub put-not : need n ≡ false → ArePutBelow subjects rules hyps need js kids (n + 1) old more
    put-not lacks = record {
      many = so.many;
      others = so.others;
      here = λ i j w l e f m need_i kid at k d t us g. go i j w e f m need_i kid at k d t us g (below-next i n l);
    }
      where
        go : (i : ℕ) (j : Judgement) (w : ℕ) → slice_get js i ≡ Some j → subjects_of subjects j ≡ hole w ∷ [] → w < length old → need i ≡ true →
            (kid : Proof) → proof_at kids i ≡ Some kid → (k : Judgement) → Derives rules hyps k kid → (t : Tree) (us : List Tree) → subjects_of subjects k ≡ t ∷ us → (i ≡ n) ⊎ (i < n) → bound_by more w ≡ t
        go i j w e f m need_i kid at k d t us g (inl same) = let q : true ≡ false = sym need_i ∙ ap need same ∙ lacks in cc
        go i j w e f m need_i kid at k d t us g (inr less) = so.here i j w less e f m need_i kid at k d t us g

    -- or its subject is put
    module _ (j : Judgement) (at_j : slice_get js n ≡ Some j) (q : Proof) (at_q : proof_at kids n ≡ Some q) (new : List Tree) (is : IsSubjectPut subjects rules hyps j q more new) where
      pub put-one : ArePutBelow subjects rules hyps need js kids (n + 1) old new
      put-one = record {
        many = is.many ∙ so.many;
        others = λ w free. is.others w (λ rest e. free (subject-among subjects js n j w at_j (bare-one (subjects_of subjects j) w rest (bare-at subjects conclusion [] js n j bare at_j) e))) ∙ so.others w free;
        here = λ i x w l e f m need_i kid at k d t us g. go i x w e f m need_i kid at k d t us g (below-next i n l);
      }
        where
          go : (i : ℕ) (x : Judgement) (w : ℕ) → slice_get js i ≡ Some x → subjects_of subjects x ≡ hole w ∷ [] → w < length old → need i ≡ true →
              (kid : Proof) → proof_at kids i ≡ Some kid → (k : Judgement) → Derives rules hyps k kid → (t : Tree) (us : List Tree) → subjects_of subjects k ≡ t ∷ us → (i ≡ n) ⊎ (i < n) → bound_by new w ≡ t
          go i x w e f m need_i kid at k d t us g (inl same) =
              let a : Some x ≡ Some j = sym e ∙ ap (slice_get js) same ∙ at_j in
              let b : x ≡ j = cc in
              let c : Some kid ≡ Some q = sym at ∙ ap (proof_at kids) same ∙ at_q in
              let h : kid ≡ q = cc in
              is.here w [] (ap (subjects_of subjects) (sym b) ∙ f) (let o = so.many in omega (arith, o, m)) k (subst (λ (p : Proof). Derives rules hyps k p) h d) t us g
          go i x w e f m need_i kid at k d t us g (inr less) =
              is.others w (λ rest y. two-subjects subjects conclusion [] js i n x j w bare less e at_j f (bare-one (subjects_of subjects j) w rest (bare-at subjects conclusion [] js n j bare at_j) y))
              ∙ so.here i x w less e f m need_i kid at k d t us g

-- the premises from one on, and their judgements from one on
premises-drop : (ps : List PremiseOf) (i : ℕ) (p : PremiseOf) → i < length ps → p ≡ get_or ps i p → map premise (drop i ps) ≡ premise p ∷ map premise (drop (i + 1) ps)
premises-drop [] i p l e = absurd (omega (arith, l))
premises-drop (x ∷ ps) zero p l e = ap (λ (y : PremiseOf). premise y ∷ map premise ps) (sym e)
premises-drop (x ∷ ps) (suc i) p l e = let n : suc i + 1 ≡ suc (i + 1) = omega arith in rw n (premises-drop ps i p (omega (arith, l)) e)

premises-end : (ps : List PremiseOf) (i : ℕ) → length ps ≤ i → map premise (drop i ps) ≡ []
premises-end [] zero l = refl
premises-end [] (suc i) l = refl
premises-end (x ∷ ps) zero l = absurd (omega (arith, l))
premises-end (x ∷ ps) (suc i) l = premises-end ps i (omega (arith, l))

drop-head : (js : List Judgement) (n : ℕ) (j : Judgement) (rest : List Judgement) → drop n js ≡ j ∷ rest → (n < length js) × (slice_get js n ≡ Some j) × (drop (n + 1) js ≡ rest)
drop-head [] zero j rest e = cc
drop-head [] (suc n) j rest e = cc
drop-head (x ∷ js) zero j rest e = let q : x ≡ j = cc in let r : js ≡ rest = cc in (omega arith, ap (λ (y : Judgement). let o : Option Judgement = Some y in o) q, r)
drop-head (x ∷ js) (suc n) j rest e =
    let h = drop-head js n j rest e in
    let l = h.0 in
    let m : suc n + 1 ≡ suc (n + 1) = omega arith in
    (omega (arith, l), h.1, rw m h.2)

drop-none : (js : List Judgement) (n : ℕ) → drop n js ≡ [] → length js ≤ n
drop-none [] n e = omega arith
drop-none (x ∷ js) zero e = cc
drop-none (x ∷ js) (suc n) e = let h = drop-none js n e in omega (arith, h)

pub boxed-at : (ks : List (Box ProofOf Global)) (i : ℕ) (k : Box ProofOf Global) (q : ProofOf) → i < length ks → k ≡ get_or ks i k → q ≡ k.value → proof_at (boxed ks) i ≡ Some (proof q)
boxed-at [] i k q l e s = absurd (omega (arith, l))
boxed-at (x ∷ ks) zero k q l e s =
    let a = ap (λ (y : Box ProofOf Global). proof y.value) e in
    let b = ap proof s in ap (λ (y : Proof). let o : Option Proof = Some y in o) (sym (b ∙ a))
boxed-at (x ∷ ks) (suc i) k q l e s = boxed-at ks i k q (omega (arith, l)) e s

-- what is put so far
pub record PutSoFar (subjects : Modes) (rules : List Rule) (hyps : Hypotheses) (need : ℕ → Bool) (ps : List PremiseOf) (kids : Proofs) (i n : ℕ) (start now : PutTerms) : Type 0 where
  pub rest : judgements_of (map premise (drop i ps)) ≡ drop n (judgements_of (map premise ps))
  pub goes : (old : List Tree) → ArePut old start → (more : List Tree) × ArePut more now × ArePutBelow subjects rules hyps need (judgements_of (map premise ps)) kids n old more

module _ (subjects : Modes) (rules : List Rule) (hyps : Hypotheses) (need : ℕ → Bool) (ps : List PremiseOf) (kids : Proofs) where
  abbrev js : List Judgement
  js = judgements_of (map premise ps)

  pub put-start : (start : PutTerms) → PutSoFar subjects rules hyps need ps kids 0 0 start start
  put-start start = record { rest = refl; goes = λ old h. (old, h, none-put subjects rules hyps need js kids old) }

  module _ (i n : ℕ) (start now : PutTerms) (so : PutSoFar subjects rules hyps need ps kids i n start now) (within : i < length ps) (p : PremiseOf) (at : p ≡ get_or ps i p) where
    pub apart-step : (t u : Term) → p ≡ Apart t u → PutSoFar subjects rules hyps need ps kids (i + 1) n start now
    apart-step t u is = record {
      rest = sym (ap judgements_of (premises-drop ps i p within at) ∙ ap (λ (x : PremiseOf). judgements_of (premise x ∷ map premise (drop (i + 1) ps))) is) ∙ so.rest;
      goes = so.goes;
    }

    module _ (j : JudgementOf) (is : p ≡ Holds j) where
      head : (n < length js) × (slice_get js n ≡ Some (judgement j)) × (drop (n + 1) js ≡ judgements_of (map premise (drop (i + 1) ps)))
      head = drop-head js n (judgement j) (judgements_of (map premise (drop (i + 1) ps)))
          (sym so.rest ∙ ap judgements_of (premises-drop ps i p within at) ∙ ap (λ (x : PremiseOf). judgements_of (premise x ∷ map premise (drop (i + 1) ps))) is)

      pub holds-within : n < length js
      holds-within = head.0

      module _ (bare : (conclusion : Judgement) × AreBareSubjects subjects conclusion [] js) where
        pub skip-step : need n ≡ false → PutSoFar subjects rules hyps need ps kids (i + 1) (n + 1) start now
        skip-step lacks = record {
          rest = sym head.2;
          goes = λ old h. let w = so.goes old h in (w.0, w.1, put-not subjects rules hyps need js kids old bare.0 bare.1 n w.0 w.2 lacks);
        }

        pub put-step : (q : Proof) → proof_at kids n ≡ Some q → (new : PutTerms) →
            ((old : List Tree) → ArePut old now → (more : List Tree) × ArePut more new × IsSubjectPut subjects rules hyps (judgement j) q old more) →
            PutSoFar subjects rules hyps need ps kids (i + 1) (n + 1) start new
        put-step q at_q new f = record {
          rest = sym head.2;
          goes = λ old h.
              let w = so.goes old h in
              let x = f w.0 w.1 in
              (x.0, x.1, put-one subjects rules hyps need js kids old bare.0 bare.1 n w.0 w.2 (judgement j) head.1 q at_q x.0 x.2);
        }

  pub put-all : (i n : ℕ) (start now : PutTerms) → PutSoFar subjects rules hyps need ps kids i n start now → length ps ≤ i → (many : ℕ) → many ≡ length js →
      (old : List Tree) → ArePut old start → (more : List Tree) × ArePut more now × ArePutBelow subjects rules hyps need js kids many old more
  put-all i n start now so l many e old h =
      let w = so.goes old h in
      let z = drop-none js n (sym so.rest ∙ ap judgements_of (premises-end ps i l)) in
      (w.0, w.1, record { many = w.2.many; others = w.2.others; here = λ k j v m. w.2.here k j v (omega (arith, m, e, z)) })
