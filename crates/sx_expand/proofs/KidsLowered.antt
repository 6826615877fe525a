-- Kids that are read have what they are lowered to.
use Rattle.std.proofs.Common.{◌≡◌, arith, ℕ, zero, suc, ◌+◌, Bool, true, false, List, [], ◌∷◌, length, Option, Some, None, if◌then◌else◌, refl, sym, ap, ◌∙◌, subst}
use Rattle.std.specs.Prelude.{get_or}
use Rattle.sx_term.specs.Tree.{Tree}
use Rattle.sx_term.specs.Sorts.{Shape}
use Rattle.sx_rules.specs.Discipline.{subjects_of}
use Rattle.sx_rules.specs.Instances.{bound_by}
use Rattle.sx_rules.specs.Rules.{Judgement, Rule, Hypotheses, judgement_instance}
use Rattle.sx_rules.specs.Derivations.{Proof, Proofs, by, given, no_more, ◌⊳◌, proof_at, Derives}
use Rattle.sx_rules.specs.Derivations.{DeriveEach}
use Rattle.sx_rewrite.specs.Accepted.{Accepted, extended_rules, Signature, IsAccepted}
use Rattle.sx_rewrite.specs.LoweredSizes.{proof_count}
use Rattle.sx_rewrite.specs.Lowering.{AreLoweredTo}
use Rattle.sx_rewrite.specs.Lowers.{HypothesesBelow}
use Rattle.sx_rewrite.proofs.Lowerings.{lowered_are_derivations}
use Rattle.sx_rewrite.proofs.LoweredAlways.{all_lowered}
use Rattle.sx_rewrite.proofs.LoweredKids.{lowered-at, lowered-many, at-both}
use Rattle.sx_rewrite.proofs.LoweredOnce.{lowering_is_unique}
use Rattle.sx_expand.specs.KidSubjects.{IsSubjectAt, AreKidSubjects}
use Rattle.sx_expand.specs.KidsRead.{AreKidsRead}

-- a proof derives one judgement
pub derives-once : (rules : List Rule) (hyps : Hypotheses) (p : Proof) (j k : Judgement) → Derives rules hyps j p → Derives rules hyps k p → j ≡ k
derives-once rules hyps (given i) j k d e = let q : Some j ≡ Some k = sym d ∙ e in cc
derives-once rules hyps (by r binds kids) j k (rule, at, many, concluded, apart_ones, each) (other, at_other, many_other, concluded_other, apart_others, each_other) =
    let q : Some rule ≡ Some other = sym at ∙ at_other in
    let same : rule ≡ other = cc in
    sym concluded ∙ ap (λ (x : Rule). judgement_instance (bound_by binds) x.conclusion) same ∙ concluded_other

-- the judgement at a place is derived
pub derived-at : (rules : List Rule) (hyps : Hypotheses) (js : List Judgement) (ps : Proofs) (i : ℕ) (p : Proof) → DeriveEach rules hyps js ps → proof_at ps i ≡ Some p → (j : Judgement) × Derives rules hyps j p
derived-at rules hyps js no_more i p d e = cc
derived-at rules hyps [] (x ⊳ ps) i p d e = absurd d
derived-at rules hyps (j ∷ js) (x ⊳ ps) zero p d e = let q : x ≡ p = cc in (j, subst (λ (y : Proof). Derives rules hyps j y) q d.0)
derived-at rules hyps (j ∷ js) (x ⊳ ps) (suc i) p d e = derived-at rules hyps js ps i p d.1 e

-- the proofs that are needed, and a given in the place of each other
abbrev pub masked : (ℕ → Bool) → ℕ → Proofs → Proofs
masked need n no_more = no_more
masked need n (q ⊳ qs) = (if need n then q else given 0) ⊳ masked need (suc n) qs

masked-many : (need : ℕ → Bool) (n : ℕ) (qs : Proofs) → proof_count (masked need n qs) ≡ proof_count qs
masked-many need n no_more = refl
masked-many need n (q ⊳ qs) = let h = masked-many need (suc n) qs in omega (arith, h)

masked-at : (need : ℕ → Bool) (n : ℕ) (qs : Proofs) (i : ℕ) (q : Proof) → need (n + i) ≡ true → proof_at (masked need n qs) i ≡ Some q → proof_at qs i ≡ Some q
masked-at need n no_more i q e f = cc
masked-at need n (x ⊳ qs) zero q e f =
    let z : n + zero ≡ n = omega arith in
    let b : need n ≡ true = sym (ap need z) ∙ e in
    let g : (if need n then x else given 0) ≡ x = ap (λ (y : Bool). if y then x else given 0) b in
    let h : Some (if need n then x else given 0) ≡ Some q = f in
    ap (λ (y : Proof). let o : Option Proof = Some y in o) (sym g) ∙ h
masked-at need n (x ⊳ qs) (suc i) q e f = let z : n + suc i ≡ suc n + i = omega arith in masked-at need (suc n) qs i q (sym (ap need z) ∙ e) f

masked-blank : (need : ℕ → Bool) (n : ℕ) (qs : Proofs) (i : ℕ) (q : Proof) → need (n + i) ≡ false → proof_at (masked need n qs) i ≡ Some q → (m : ℕ) × (q ≡ given m)
masked-blank need n no_more i q e f = cc
masked-blank need n (x ⊳ qs) zero q e f =
    let z : n + zero ≡ n = omega arith in
    let b : need n ≡ false = sym (ap need z) ∙ e in
    let g : (if need n then x else given 0) ≡ given 0 = ap (λ (y : Bool). if y then x else given 0) b in
    let h : Some (if need n then x else given 0) ≡ Some q = f in
    let k : (if need n then x else given 0) ≡ q = cc in (0, sym k ∙ g)
masked-blank need n (x ⊳ qs) (suc i) q e f = let z : n + suc i ≡ suc n + i = omega arith in masked-blank need (suc n) qs i q (sym (ap need z) ∙ e) f

-- what the kids are lowered to, with the subjects at the numbers
pub record KidsLoweredTo (a : Accepted) (sig : Signature) (hyps : Hypotheses) (need : ℕ → Bool) (terms : List Tree) (kids : Proofs) (numbers : List (Option ℕ)) : Type 0 where
  pub news : Proofs
  pub lowered : AreLoweredTo a sig.subjects hyps need kids news
  pub subjects : AreKidSubjects sig.subjects a.base hyps need terms news numbers

module _ (sig : Signature) (base shapes : List Shape) (a : Accepted) (ok : IsAccepted sig base shapes a) (hyps : Hypotheses) (below : HypothesesBelow (length base) hyps) where
  pub kids-lowered : (need : ℕ → Bool) (terms : List Tree) (kids : Proofs) (numbers : List (Option ℕ)) (js : List Judgement) → DeriveEach (extended_rules a) hyps js kids → AreKidsRead a sig.subjects hyps need terms kids numbers →
      KidsLoweredTo a sig hyps need terms kids numbers
  kids-lowered need terms kids numbers js derived read =
      let all = all_lowered sig base shapes a ok hyps kids js derived in
      let news = masked need 0 all.0 in
      let many = masked-many need 0 all.0 ∙ lowered-many a sig hyps kids all.0 all.1 all.2 in
      let whole = read.many in
      record {
        news = news;
        lowered = record {
          many = many;
          each = λ i p q n e f.
              let w = lowered-at a sig hyps kids all.0 all.1 i p all.2 e in
              let o : Some q ≡ Some w.other = sym (masked-at need 0 all.0 i q (zeroed i n) f) ∙ w.at in
              let same : q ≡ w.other = cc in
              record {
                lowered = λ other k l. same ∙ (lowering_is_unique sig base shapes a ok hyps p w.other other w.judgement k w.lowers l).0;
                small = (read.each i p n e).small;
              };
          blank = λ i q n f. masked-blank need 0 all.0 i q (zeroed_not i n) f;
        };
        subjects = record {
          many = many ∙ whole;
          each = λ i q n f.
              let p = at-both kids news i q many f in
              let w = lowered-at a sig hyps kids all.0 all.1 i p.0 all.2 p.1 in
              let o : Some q ≡ Some w.other = sym (masked-at need 0 all.0 i q (zeroed i n) f) ∙ w.at in
              let same : w.other ≡ q = cc in
              let j = derived-at (extended_rules a) hyps js kids i p.0 derived p.1 in
              let d = subst (λ (x : Proof). Derives a.base hyps w.judgement x) same (lowered_are_derivations sig base shapes a ok hyps below p.0 w.other j.0 w.judgement j.1 w.lowers).0 in
              let is = (read.each i p.0 n p.1).subject w.other w.judgement w.lowers in
              record {
                judgement = w.judgement;
                derives = d;
                is = λ k e. subst (λ (x : Judgement). IsSubjectAt terms (subjects_of sig.subjects x) (get_or numbers i None)) (derives-once a.base hyps q w.judgement k d e) is;
              };
        };
      }
    where
      zeroed : (i : ℕ) → need i ≡ true → need (0 + i) ≡ true
      zeroed i n = let z : 0 + i ≡ i = omega arith in ap need z ∙ n

      zeroed_not : (i : ℕ) → need i ≡ false → need (0 + i) ≡ false
      zeroed_not i n = let z : 0 + i ≡ i = omega arith in ap need z ∙ n
