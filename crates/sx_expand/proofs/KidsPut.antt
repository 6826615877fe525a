-- Subjects of kids that are put by number, one premise after another.
use Rattle.std.proofs.Common.{◌≡◌, arith, ℕ, zero, suc, ◌+◌, ◌<◌, ◌≤◌, length, drop, get_or, Bool, true, false, List, [], ◌∷◌, map, Option, Some, None, refl, sym, ap, ◌∙◌, subst}
use Rattle.std.specs.Prelude.{slice_get, slice_set}
use Rattle.sx_term.specs.declared.term.Term.{Term}
use Rattle.sx_term.specs.Tree.{Tree, hole, depth_of}
use Rattle.sx_term.specs.Instances.{bound_by}
use Rattle.sx_rules.specs.declared.rule.Premise.{Premise as PremiseOf}
use Rattle.sx_rules.specs.declared.rule.Premise.TheVariants.{Holds, Apart}
use Rattle.sx_rules.specs.declared.rule.Judgement.{Judgement as JudgementOf}
use Rattle.sx_rules.specs.Views.{premise, judgement}
use Rattle.sx_rules.specs.Rules.{Judgement, Rule, Hypotheses, judgements_of}
use Rattle.sx_rules.specs.Modes.{Modes}
use Rattle.sx_rules.specs.Discipline.{subjects_of, AreBareSubjects}
use Rattle.sx_rules.specs.Derivations.{Proof, Proofs, no_more, ◌⊳◌, proof_at, Derives}
use Rattle.sx_plain.specs.declared.measure.Measure.{Measure}
use Rattle.sx_arena.specs.declared.arena.Cell.{Cell}
use Rattle.sx_arena.specs.Arena.{tree_at, AreBelow, IsCellRead}
use Rattle.sx_arena.proofs.Arenas.{depth_read, size_read}
use Rattle.sx_rewrite.specs.LoweredSizes.{proof_count}
use Rattle.sx_rewrite.specs.Puts.{IsMeasureOf, AreMeasuresOf, AreMadeOf}
use Rattle.sx_rewrite.specs.PutSubjects.{IsSubjectPut, ArePutBelow}
use Rattle.sx_rewrite.proofs.PutSubjects.{greatest-set, measures-set}
use Rattle.sx_rewrite.proofs.PutEach.{none-put, put-not, put-one}
use Rattle.sx_expand.specs.declared.put_numbers.PutNumbers.{PutNumbers}
use Rattle.sx_expand.specs.KidSubjects.{IsKidSubject, AreKidSubjects}
use Rattle.sx_expand.specs.Put.{ArePutAt}

length-set : (ts : List Tree) (v : ℕ) (t : Tree) → length (slice_set ts v t) ≡ length ts
length-set [] v t = refl
length-set (x ∷ ts) zero t = refl
length-set (x ∷ ts) (suc v) t = let h = length-set ts v t in omega (arith, h)

set-here : (ts : List Tree) (v : ℕ) (t : Tree) → v < length ts → bound_by (slice_set ts v t) v ≡ t
set-here [] v t l = absurd (omega (arith, l))
set-here (x ∷ ts) zero t l = refl
set-here (x ∷ ts) (suc v) t l = set-here ts v t (omega (arith, l))

set-other : (ts : List Tree) (v w : ℕ) (t : Tree) → (w ≡ v → ⊥) → bound_by (slice_set ts v t) w ≡ bound_by ts w
set-other [] v w t n = refl
set-other (x ∷ ts) zero zero t n = absurd (n refl)
set-other (x ∷ ts) zero (suc w) t n = refl
set-other (x ∷ ts) (suc v) zero t n = refl
set-other (x ∷ ts) (suc v) (suc w) t n = set-other ts v w t (λ e. n (ap (λ (m : ℕ). suc m) e))

set-past : (ts : List Tree) (v : ℕ) (t : Tree) → length ts ≤ v → slice_set ts v t ≡ ts
set-past [] v t l = refl
set-past (x ∷ ts) zero t l = absurd (omega (arith, l))
set-past (x ∷ ts) (suc v) t l = ap (λ (us : List Tree). x ∷ us) (set-past ts v t (omega (arith, l)))

below-set : (n : ℕ) (is : List ℕ) (v i : ℕ) → AreBelow n is → i < n → AreBelow n (slice_set is v i)
below-set n [] v i h l = tt
below-set n (j ∷ is) zero i h l = (l, h.1)
below-set n (j ∷ is) (suc v) i h l = (h.0, below-set n is v i h.1 l)

made-set : (f : ℕ → Tree) (ts : List Tree) (is : List ℕ) (v i : ℕ) → AreMadeOf ts (map f is) → AreMadeOf (slice_set ts v (f i)) (map f (slice_set is v i))
made-set f [] [] v i h = tt
made-set f [] (j ∷ is) v i h = absurd h
made-set f (t ∷ ts) [] v i h = absurd h
made-set f (t ∷ ts) (j ∷ is) zero i h = ((λ s. refl), h.1)
made-set f (t ∷ ts) (j ∷ is) (suc v) i h = (h.0, made-set f ts is v i h.1)

many-measures : (ts : List Tree) (ms : List Measure) → AreMeasuresOf ts ms → length ts ≡ length ms
many-measures [] [] h = refl
many-measures [] (m ∷ ms) h = absurd h
many-measures (t ∷ ts) [] h = absurd h
many-measures (t ∷ ts) (m ∷ ms) h = let r = many-measures ts ms h.1 in omega (arith, r)

many-made : (f : ℕ → Tree) (ts : List Tree) (is : List ℕ) → AreMadeOf ts (map f is) → length ts ≡ length is
many-made f [] [] h = refl
many-made f [] (j ∷ is) h = absurd h
many-made f (t ∷ ts) [] h = absurd h
many-made f (t ∷ ts) (j ∷ is) h = let r = many-made f ts is h.1 in omega (arith, r)

-- the cell tells the measure of a term that is not too deep
pub cell-measure : (terms : List Tree) (i d : ℕ) (c : Cell) → depth_of (tree_at terms i) ≤ 1000 → IsCellRead terms i c → (c.depth ≤ 1000 → d ≡ c.depth) → IsMeasureOf (tree_at terms i) (record { depth = d; size = c.size })
cell-measure terms i d c s r f =
    let a = depth_read terms i c r in
    let b = size_read terms i c r in
    let e = f (omega (arith, a, s)) in (omega (arith, a, e, s), b)

-- a term of the arena is put
pub put-set : (terms old : List Tree) (ns : List ℕ) (ms : List Measure) (v i : ℕ) (m : Measure) → ArePutAt terms old ns ms → i < length terms → depth_of (tree_at terms i) ≤ 1000 → IsMeasureOf (tree_at terms i) m →
    ArePutAt terms (slice_set old v (tree_at terms i)) (slice_set ns v i) (slice_set ms v m)
put-set terms old ns ms v i m h l d is =
    let a = is.0 in
    record {
      below = below-set (length terms) ns v i h.below l;
      measured = measures-set old ms v (tree_at terms i) m h.measured is;
      made = made-set (tree_at terms) old ns v i h.made;
      low = greatest-set ms v m 1001000 h.low (omega (arith, a, d));
    }

-- past the end nothing is
module _ (terms old : List Tree) (ns : List ℕ) (ms : List Measure) (v : ℕ) (t : Tree) (h : ArePutAt terms old ns ms) where
  stays : length old ≤ v → ArePutAt terms (slice_set old v t) ns ms
  stays l = subst (λ (xs : List Tree). ArePutAt terms xs ns ms) (sym (set-past old v t l)) h

  pub past-numbers : length ns ≤ v → ArePutAt terms (slice_set old v t) ns ms
  past-numbers l = let e = many-made (tree_at terms) old ns h.made in stays (omega (arith, e, l))

  pub past-measures : length ms ≤ v → ArePutAt terms (slice_set old v t) ns ms
  past-measures l = let e = many-measures old ms h.measured in stays (omega (arith, e, l))

-- the subject of a kid is put, or there is none
module _ (subjects : Modes) (rules : List Rule) (hyps : Hypotheses) (j : Judgement) (kid : Proof) (old : List Tree) where
  pub number-put : (v : ℕ) → (rest : List Tree) × (subjects_of subjects j ≡ hole v ∷ rest) → (t : Tree) → ((k : Judgement) → Derives rules hyps k kid → (rest : List Tree) × (subjects_of subjects k ≡ t ∷ rest)) →
      IsSubjectPut subjects rules hyps j kid old (slice_set old v t)
  number-put v variable t f = record {
    many = length-set old v t;
    others = λ w n. set-other old v w t (λ e. n variable.0 (variable.1 ∙ ap (λ (x : ℕ). hole x ∷ variable.0) (sym e)));
    here = λ w rest e l k d u us g.
        let q : hole w ∷ rest ≡ hole v ∷ variable.0 = sym e ∙ variable.1 in
        let same : w ≡ v = cc in
        let x = f k d in
        let z : u ∷ us ≡ t ∷ x.0 = sym g ∙ x.1 in
        let r : u ≡ t = cc in
        ap (λ (n : ℕ). bound_by (slice_set old v t) n) same ∙ set-here old v t (subst (λ (n : ℕ). n < length old) same l) ∙ sym r;
  }

  pub none-lacks : (terms : List Tree) → IsKidSubject subjects rules hyps terms kid None → IsSubjectPut subjects rules hyps j kid old old
  none-lacks terms s = record {
    many = refl;
    others = λ w n. refl;
    here = λ w rest e l k d t us g. let q : [] ≡ t ∷ us = sym (s.is k d) ∙ g in cc;
  }

-- the premises from one on, and their judgements from one on
premises-drop : (ps : List PremiseOf) (i : ℕ) (p : PremiseOf) → i < length ps → p ≡ get_or ps i p → map premise (drop i ps) ≡ premise p ∷ map premise (drop (i + 1) ps)
premises-drop [] i p l e = absurd (omega (arith, l))
premises-drop (x ∷ ps) zero p l e = ap (λ (y : PremiseOf). premise y ∷ map premise ps) (sym e)
premises-drop (x ∷ ps) (suc i) p l e = let n : suc i + 1 ≡ suc (i + 1) = omega arith in rw n (premises-drop ps i p (omega (arith, l)) e)

premises-end : (ps : List PremiseOf) (i : ℕ) → length ps ≤ i → map premise (drop i ps) ≡ []
premises-end [] zero l = refl
premises-end [] (suc i) l = refl
premises-end (x ∷ ps) zero l = absurd (omega (arith, l))
premises-end (x ∷ ps) (suc i) l = premises-end ps i (omega (arith, l))

drop-head : (js : List Judgement) (n : ℕ) (j : Judgement) (rest : List Judgement) → drop n js ≡ j ∷ rest → (n < length js) × (slice_get js n ≡ Some j) × (drop (n + 1) js ≡ rest)
drop-head [] zero j rest e = cc
drop-head [] (suc n) j rest e = cc
drop-head (x ∷ js) zero j rest e = let q : x ≡ j = cc in let r : js ≡ rest = cc in (omega arith, ap (λ (y : Judgement). let o : Option Judgement = Some y in o) q, r)
drop-head (x ∷ js) (suc n) j rest e =
    let h = drop-head js n j rest e in
    let l = h.0 in
    let m : suc n + 1 ≡ suc (n + 1) = omega arith in
    (omega (arith, l), h.1, rw m h.2)

drop-none : (js : List Judgement) (n : ℕ) → drop n js ≡ [] → length js ≤ n
drop-none [] n e = omega arith
drop-none (x ∷ js) zero e = cc
drop-none (x ∷ js) (suc n) e = let h = drop-none js n e in omega (arith, h)

pub proof-within : (ps : Proofs) (i : ℕ) → i < proof_count ps → (p : Proof) × (proof_at ps i ≡ Some p)
proof-within no_more i l = absurd (omega (arith, l))
proof-within (p ⊳ ps) zero l = (p, refl)
proof-within (p ⊳ ps) (suc i) l = proof-within ps i (omega (arith, l))

module _ (subjects : Modes) (rules : List Rule) (need : ℕ → Bool) (terms : List Tree) (ps : List PremiseOf) (numbers : List (Option ℕ)) where
  abbrev js : List Judgement
  js = judgements_of (map premise ps)

  -- what is put so far
  pub record KidsSoFar (i n : ℕ) (start now : PutNumbers) : Type 0 where
    pub rest : judgements_of (map premise (drop i ps)) ≡ drop n js
    pub goes : (hyps : Hypotheses) (kids : Proofs) → AreKidSubjects subjects rules hyps need terms kids numbers → (old : List Tree) → ArePutAt terms old start.numbers.items start.measures.items →
        (more : List Tree) × ArePutAt terms more now.numbers.items now.measures.items × ArePutBelow subjects rules hyps need js kids n old more

  pub kids-start : (start : PutNumbers) → KidsSoFar 0 0 start start
  kids-start start = record { rest = refl; goes = λ hyps kids a old h. (old, h, none-put subjects rules hyps need js kids old) }

  module _ (i n : ℕ) (start now : PutNumbers) (so : KidsSoFar i n start now) (within : i < length ps) (p : PremiseOf) (at : p ≡ get_or ps i p) where
    pub apart-next : (t u : Term) → p ≡ Apart t u → KidsSoFar (i + 1) n start now
    apart-next t u is = record {
      rest = sym (ap judgements_of (premises-drop ps i p within at) ∙ ap (λ (x : PremiseOf). judgements_of (premise x ∷ map premise (drop (i + 1) ps))) is) ∙ so.rest;
      goes = so.goes;
    }

    module _ (j : JudgementOf) (is : p ≡ Holds j) where
      head : (n < length js) × (slice_get js n ≡ Some (judgement j)) × (drop (n + 1) js ≡ judgements_of (map premise (drop (i + 1) ps)))
      head = drop-head js n (judgement j) (judgements_of (map premise (drop (i + 1) ps)))
          (sym so.rest ∙ ap judgements_of (premises-drop ps i p within at) ∙ ap (λ (x : PremiseOf). judgements_of (premise x ∷ map premise (drop (i + 1) ps))) is)

      pub next-within : n < length js
      next-within = head.0

      module _ (bare : (conclusion : Judgement) × AreBareSubjects subjects conclusion [] js) where
        pub skip-next : need n ≡ false → KidsSoFar (i + 1) (n + 1) start now
        skip-next lacks = record {
          rest = sym head.2;
          goes = λ hyps kids a old h. let w = so.goes hyps kids a old h in (w.0, w.1, put-not subjects rules hyps need js kids old bare.0 bare.1 n w.0 w.2 lacks);
        }

        pub put-next : need n ≡ true → length numbers ≡ length js → (new : PutNumbers) →
            ((hyps : Hypotheses) (kid : Proof) → IsKidSubject subjects rules hyps terms kid (get_or numbers n None) → (old : List Tree) → ArePutAt terms old now.numbers.items now.measures.items →
            (more : List Tree) × ArePutAt terms more new.numbers.items new.measures.items × IsSubjectPut subjects rules hyps (judgement j) kid old more) →
            KidsSoFar (i + 1) (n + 1) start new
        put-next needs many new f = record {
          rest = sym head.2;
          goes = λ hyps kids a old h.
              let w = so.goes hyps kids a old h in
              let l = head.0 in
              let m = a.many in
              let q = proof-within kids n (omega (arith, l, m, many)) in
              let x = f hyps q.0 (a.each n q.0 needs q.1) w.0 w.1 in
              (x.0, x.1, put-one subjects rules hyps need js kids old bare.0 bare.1 n w.0 w.2 (judgement j) head.1 q.0 q.1 x.0 x.2);
        }

  pub kids-end : (i n : ℕ) (start now : PutNumbers) → KidsSoFar i n start now → length ps ≤ i → (many : ℕ) → many ≡ length js → (hyps : Hypotheses) (kids : Proofs) → AreKidSubjects subjects rules hyps need terms kids numbers →
      (old : List Tree) → ArePutAt terms old start.numbers.items start.measures.items → (more : List Tree) × ArePutAt terms more now.numbers.items now.measures.items × ArePutBelow subjects rules hyps need js kids many old more
  kids-end i n start now so l many e hyps kids a old h =
      let w = so.goes hyps kids a old h in
      let z = drop-none js n (sym so.rest ∙ ap judgements_of (premises-end ps i l)) in
      (w.0, w.1, record { many = w.2.many; others = w.2.others; here = λ k j v m. w.2.here k j v (omega (arith, m, e, z)) })
