-- Subjects that are put.
use Rattle.std.proofs.Common.{◌≡◌, arith, ℕ, zero, suc, ◌<◌, ◌≤◌, length, List, [], ◌∷◌, map, Option, Some, None, refl, sym, ap, ◌∙◌, subst}
use Rattle.std.specs.Prelude.{slice_set, MatchOption}
use Rattle.sx_term.specs.declared.term.Term.{Term}
use Rattle.sx_term.specs.Term.{tree}
use Rattle.sx_term.specs.Tree.{Tree, hole, depth_of, greatest_depth, forest}
use Rattle.sx_term.specs.Instances.{bound_by}
use Rattle.sx_rules.specs.Rules.{Judgement, Rule, Hypotheses}
use Rattle.sx_rules.specs.Modes.{Modes}
use Rattle.sx_rules.specs.Discipline.{subjects_of}
use Rattle.sx_rules.specs.Derivations.{Proof, Derives}
use Rattle.sx_plain.specs.declared.measure.Measure.{Measure}
use Rattle.sx_plain.specs.Measures.{greatest}
use Rattle.sx_plain.specs.PartMeasures.{depths_of}
use Rattle.sx_rewrite.specs.Puts.{IsMeasureOf, AreMeasuresOf, AreMadeOf}
use Rattle.sx_rules.specs.SubjectTerms.{IsSubject}
use Rattle.sx_rewrite.specs.PutSubjects.{IsSubjectPut}

length-set : (ts : List Tree) (v : ℕ) (t : Tree) → length (slice_set ts v t) ≡ length ts
length-set [] v t = refl
length-set (x ∷ ts) zero t = refl
length-set (x ∷ ts) (suc v) t = let h = length-set ts v t in omega (arith, h)

set-here : (ts : List Tree) (v : ℕ) (t : Tree) → v < length ts → bound_by (slice_set ts v t) v ≡ t
set-here [] v t l = absurd (omega (arith, l))
set-here (x ∷ ts) zero t l = refl
set-here (x ∷ ts) (suc v) t l = set-here ts v t (omega (arith, l))

set-other : (ts : List Tree) (v w : ℕ) (t : Tree) → (w ≡ v → ⊥) → bound_by (slice_set ts v t) w ≡ bound_by ts w
set-other [] v w t n = refl
set-other (x ∷ ts) zero zero t n = absurd (n refl)
set-other (x ∷ ts) zero (suc w) t n = refl
set-other (x ∷ ts) (suc v) zero t n = refl
set-other (x ∷ ts) (suc v) (suc w) t n = set-other ts v w t (λ e. n (ap (λ (m : ℕ). suc m) e))

-- what is put at a place
pub deep-set : (ts : List Term) (v : ℕ) (t : Term) (n : ℕ) → greatest_depth (forest (map tree ts)) ≤ n → depth_of (tree t) ≤ n → greatest_depth (forest (map tree (slice_set ts v t))) ≤ n
deep-set [] v t n h k = h
deep-set (x ∷ ts) zero t n h k = omega (arith, h, k)
deep-set (x ∷ ts) (suc v) t n h k = let r = deep-set ts v t n (omega (arith, h)) k in omega (arith, h, r)

pub greatest-set : (ms : List Measure) (v : ℕ) (m : Measure) (n : ℕ) → greatest (depths_of ms) ≤ n → m.depth ≤ n → greatest (depths_of (slice_set ms v m)) ≤ n
greatest-set [] v m n h k = h
greatest-set (x ∷ ms) zero m n h k = omega (arith, h, k)
greatest-set (x ∷ ms) (suc v) m n h k = let r = greatest-set ms v m n (omega (arith, h)) k in omega (arith, h, r)

pub measures-set : (ts : List Tree) (ms : List Measure) (v : ℕ) (t : Tree) (m : Measure) → AreMeasuresOf ts ms → IsMeasureOf t m → AreMeasuresOf (slice_set ts v t) (slice_set ms v m)
measures-set [] [] v t m h k = tt
measures-set [] (x ∷ ms) v t m h k = absurd h
measures-set (u ∷ ts) [] v t m h k = absurd h
measures-set (u ∷ ts) (x ∷ ms) zero t m h k = (k, h.1)
measures-set (u ∷ ts) (x ∷ ms) (suc v) t m h k = (h.0, measures-set ts ms v t m h.1 k)

pub made-set : (ts : List Tree) (us : List Term) (v : ℕ) (t : Term) → AreMadeOf ts (map tree us) → AreMadeOf (slice_set ts v (tree t)) (map tree (slice_set us v t))
made-set [] [] v t h = tt
made-set [] (u ∷ us) v t h = absurd h
made-set (x ∷ ts) [] v t h = absurd h
made-set (x ∷ ts) (u ∷ us) zero t h = ((λ s. refl), h.1)
made-set (x ∷ ts) (u ∷ us) (suc v) t h = (h.0, made-set ts us v t h.1)

set-past : (ts : List Tree) (v : ℕ) (t : Tree) → length ts ≤ v → slice_set ts v t ≡ ts
set-past [] v t l = refl
set-past (x ∷ ts) zero t l = absurd (omega (arith, l))
set-past (x ∷ ts) (suc v) t l = ap (λ (us : List Tree). x ∷ us) (set-past ts v t (omega (arith, l)))

many-measures : (ts : List Tree) (ms : List Measure) → AreMeasuresOf ts ms → length ts ≡ length ms
many-measures [] [] h = refl
many-measures [] (m ∷ ms) h = absurd h
many-measures (t ∷ ts) [] h = absurd h
many-measures (t ∷ ts) (m ∷ ms) h = let r = many-measures ts ms h.1 in omega (arith, r)

many-made : (ts : List Tree) (us : List Term) → AreMadeOf ts (map tree us) → length ts ≡ length us
many-made [] [] h = refl
many-made [] (m ∷ ms) h = absurd h
many-made (t ∷ ts) [] h = absurd h
many-made (t ∷ ts) (m ∷ ms) h = let r = many-made ts ms h.1 in omega (arith, r)

-- past the end nothing is put
module _ (ts : List Tree) (us : List Term) (ms : List Measure) (v : ℕ) (t : Tree) (h : AreMeasuresOf ts ms) (k : AreMadeOf ts (map tree us)) where
  stays : length ts ≤ v → AreMeasuresOf (slice_set ts v t) ms × AreMadeOf (slice_set ts v t) (map tree us)
  stays l = subst (λ (xs : List Tree). AreMeasuresOf xs ms × AreMadeOf xs (map tree us)) (sym (set-past ts v t l)) (h, k)

  pub past-terms : length us ≤ v → AreMeasuresOf (slice_set ts v t) ms × AreMadeOf (slice_set ts v t) (map tree us)
  past-terms l = let e = many-made ts us k in stays (omega (arith, e, l))

  pub past-measures : length ms ≤ v → AreMeasuresOf (slice_set ts v t) ms × AreMadeOf (slice_set ts v t) (map tree us)
  past-measures l = let e = many-measures ts ms h in stays (omega (arith, e, l))

-- the subject of a kid is put, or there is none
module _ (subjects : Modes) (rules : List Rule) (hyps : Hypotheses) (j : Judgement) (kid : Proof) (old : List Tree) where
  module _ (v : ℕ) (variable : (rest : List Tree) × (subjects_of subjects j ≡ hole v ∷ rest)) where
    same-variable : (w : ℕ) (rest : List Tree) → subjects_of subjects j ≡ hole w ∷ rest → w ≡ v
    same-variable w rest e = let q : hole w ∷ rest ≡ hole v ∷ variable.0 = sym e ∙ variable.1 in cc

    pub subject-put : (term : Term) → ((k : Judgement) → Derives rules hyps k kid → IsSubject (subjects_of subjects k) (Some term)) → IsSubjectPut subjects rules hyps j kid old (slice_set old v (tree term))
    subject-put term f = record {
      many = length-set old v (tree term);
      others = λ w n. set-other old v w (tree term) (λ e. n variable.0 (variable.1 ∙ ap (λ (x : ℕ). hole x ∷ variable.0) (sym e)));
      here = λ w rest e l k d t us g.
          let same = same-variable w rest e in
          let x = f k d in
          let q : t ∷ us ≡ tree term ∷ x.0 = sym g ∙ x.1 in
          let r : t ≡ tree term = cc in
          ap (λ (n : ℕ). bound_by (slice_set old v (tree term)) n) same ∙ set-here old v (tree term) (subst (λ (n : ℕ). n < length old) same l) ∙ sym r;
    }

  pub nothing-put : ((v : ℕ) (rest : List Tree) → subjects_of subjects j ≡ hole v ∷ rest → ⊥) → IsSubjectPut subjects rules hyps j kid old old
  nothing-put n = record {
    many = refl;
    others = λ w m. refl;
    here = λ w rest e l k d t us g. absurd (n w rest e);
  }

  pub subject-lacks : ((k : Judgement) → Derives rules hyps k kid → subjects_of subjects k ≡ []) → IsSubjectPut subjects rules hyps j kid old old
  subject-lacks f = record {
    many = refl;
    others = λ w n. refl;
    here = λ w rest e l k d t us g. let q : [] ≡ t ∷ us = sym (f k d) ∙ g in cc;
  }

-- what a bare subject is
module _ (ts : List Tree) (t : Tree) (bare : (rest : List Tree) × (ts ≡ t ∷ rest)) where
  pub is-variable : (o : Option ℕ) → MatchOption o ((v : ℕ) → t ≡ hole v → ⊥) (λ v. t ≡ hole v) → MatchOption o ((v : ℕ) (rest : List Tree) → ts ≡ hole v ∷ rest → ⊥) (λ v. (rest : List Tree) × (ts ≡ hole v ∷ rest))
  is-variable None h = λ v rest e. h v (let q : t ∷ bare.0 ≡ hole v ∷ rest = sym bare.1 ∙ e in cc)
  is-variable (Some v) h = (bare.0, bare.1 ∙ ap (λ (x : Tree). x ∷ bare.0) h)

pub no-variable : (ts : List Tree) → ts ≡ [] → (v : ℕ) (rest : List Tree) → ts ≡ hole v ∷ rest → ⊥
no-variable ts e v rest f = let q : [] ≡ hole v ∷ rest = sym e ∙ f in cc
