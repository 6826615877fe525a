-- The judgement that a derivation derives, and the one that it is lowered to, place by place.
use Rattle.std.proofs.Common.{◌≡◌, arith, ℕ, zero, suc, ◌<◌, ◌≤◌, inl, inr, length, Bool, true, false, List, [], ◌∷◌, map, Option, Some, None, refl, sym, ap, ◌∙◌, subst}
use Rattle.std.specs.Prelude.{slice_get}
use Rattle.std.proofs.lemmas.List.{length-map}
use Rattle.sx_term.specs.Tree.{Tree, Trees, node, lexeme, hole, none, ◌▹◌, depth_of, forest, listed}
use Rattle.sx_term.specs.Instances.{instance, instances, bound_by, Stands, StandsInKids}
use Rattle.sx_term.specs.Roles.{is_out, is_sub}
use Rattle.sx_term.specs.Sorts.{Shape, HaveSorts}
use Rattle.sx_term.specs.declared.role.Role.{Role}
use Rattle.sx_term.specs.declared.role.Role.TheVariants.{In, Sub, Out}
use Rattle.sx_term.specs.declared.sort.Sort.{Sort}
use Rattle.sx_rules.specs.declared.rule.Place.{Place}
use Rattle.sx_rules.specs.Deep.{AreShallow}
use Rattle.sx_rules.specs.Derivations.{Proof, by, given, Derives}
use Rattle.sx_rules.specs.Modes.{inputs, outputs}
use Rattle.sx_rules.specs.Rules.{Judgement, Rule, Hypotheses}
use Rattle.sx_rules.specs.Sorts.{FormSorts, RulesAreSorted}
use Rattle.sx_rules.proofs.ModeLaws.{inside}
use Rattle.sx_plain.specs.Plain.{Body, Table, image}
use Rattle.sx_plain.specs.Tables.{Desugars, FitsTable, FitTable, HasParts}
use Rattle.sx_plain.proofs.Tables.{sorted-fits}
use Rattle.sx_arena.specs.Arena.{tree_at, AreBelow}
use Rattle.sx_rewrite.specs.Lowering.{BindsFit}
use Rattle.sx_rewrite.specs.Puts.{IsSmallTerm}
use Rattle.sx_rewrite.proofs.Known.{sorted-at}
use Rattle.sx_expand.specs.KidSubjects.{IsSubjectAt}
use Rattle.sx_expand.specs.Readings.{AllSmall}
use Rattle.sx_expand.specs.Roots.{IsImagePlace, IsSubjectPlace, StandAt, roles_of}

-- each of the terms is the subject
abbrev pub AreSubject : List Tree → Option ℕ → List Tree → Type 0
AreSubject terms o [] = Unit {0}
AreSubject terms o (k ∷ ks) = IsSubjectPlace terms o k × AreSubject terms o ks

module _ (table : Table) (terms : List Tree) (subject : Option ℕ) where
  image-place : (i : ℕ) (j k : Tree) → i < length terms → tree_at terms i ≡ j → depth_of j ≤ 1000 → FitsTable table j → k ≡ image table j → IsSmallTerm k → IsImagePlace table terms i k
  image-place i j k l e near fits is small = record {
    within = l;
    shallow = subst (λ (t : Tree). depth_of t ≤ 1000) (sym e) near;
    fits = subst (FitsTable table) (sym e) fits;
    is = is ∙ ap (image table) (sym e);
    small = small;
  }

  -- by the inputs and the outputs of the one judgement, and by the subject and the other terms of
  -- the other
  pub stand-at : (roles : List Role) (ins outs : List ℕ) (js ks : List Tree) → AreBelow (length terms) ins → AreBelow (length terms) outs →
      map (tree_at terms) ins ≡ inputs (map is_out roles) js → map (tree_at terms) outs ≡ outputs (map is_out roles) js →
      inputs (map is_sub roles) ks ≡ map (image table) (inputs (map is_sub roles) js) → AreSubject terms subject (outputs (map is_sub roles) ks) →
      length js ≡ length roles → length ks ≡ length roles → AreShallow js → FitTable table (forest js) → AllSmall ks →
      StandAt table terms subject roles ins outs ks
  stand-at [] [] [] [] [] a b c d e f g h near fits small = tt
  stand-at [] [] [] [] (k ∷ ks) a b c d e f g h near fits small = absurd (omega (arith, h))
  stand-at [] [] [] (j ∷ js) ks a b c d e f g h near fits small = absurd (omega (arith, g))
  stand-at [] [] (o ∷ outs) js ks a b c d e f g h near fits small = cc
  stand-at [] (i ∷ ins) outs [] ks a b c d e f g h near fits small = cc
  stand-at [] (i ∷ ins) outs (j ∷ js) ks a b c d e f g h near fits small = absurd (omega (arith, g))
  stand-at (r ∷ roles) ins outs [] ks a b c d e f g h near fits small = absurd (omega (arith, g))
  stand-at (r ∷ roles) ins outs (j ∷ js) [] a b c d e f g h near fits small = absurd (omega (arith, h))
  stand-at (In ∷ roles) [] outs (j ∷ js) (k ∷ ks) a b c d e f g h near fits small = cc
  stand-at (In ∷ roles) (i ∷ ins) outs (j ∷ js) (k ∷ ks) a b c d e f g h near fits small =
      let p : tree_at terms i ≡ j = cc in
      let q : map (tree_at terms) ins ≡ inputs (map is_out roles) js = cc in
      let r : k ≡ image table j = cc in
      let s : inputs (map is_sub roles) ks ≡ map (image table) (inputs (map is_sub roles) js) = cc in (
        image-place i j k a.0 p near.0 fits.0 r small.0,
        stand-at roles ins outs js ks a.1 b q d s f (omega (arith, g)) (omega (arith, h)) near.1 fits.1 small.1,
      )
  stand-at (Sub ∷ roles) [] outs (j ∷ js) (k ∷ ks) a b c d e f g h near fits small = cc
  stand-at (Sub ∷ roles) (i ∷ ins) outs (j ∷ js) (k ∷ ks) a b c d e f g h near fits small =
      let q : map (tree_at terms) ins ≡ inputs (map is_out roles) js = cc in
      (f.0, stand-at roles ins outs js ks a.1 b q d e f.1 (omega (arith, g)) (omega (arith, h)) near.1 fits.1 small.1)
  stand-at (Out ∷ roles) ins [] (j ∷ js) (k ∷ ks) a b c d e f g h near fits small = cc
  stand-at (Out ∷ roles) ins (o ∷ outs) (j ∷ js) (k ∷ ks) a b c d e f g h near fits small =
      let p : tree_at terms o ≡ j = cc in
      let q : map (tree_at terms) outs ≡ outputs (map is_out roles) js = cc in
      let r : k ≡ image table j = cc in
      let s : inputs (map is_sub roles) ks ≡ map (image table) (inputs (map is_sub roles) js) = cc in (
        image-place o j k b.0 p near.0 fits.0 r small.0,
        stand-at roles ins outs js ks a b.1 c q s f (omega (arith, g)) (omega (arith, h)) near.1 fits.1 small.1,
      )

-- masks of places by their roles
pub outs-same : (ps : List Place) → map (λ p. is_out p.role) ps ≡ map is_out (roles_of ps)
outs-same [] = refl
outs-same (p ∷ ps) = ap (λ (bs : List Bool). is_out p.role ∷ bs) (outs-same ps)

pub subs-same : (ps : List Place) → map (λ p. is_sub p.role) ps ≡ map is_sub (roles_of ps)
subs-same [] = refl
subs-same (p ∷ ps) = ap (λ (bs : List Bool). is_sub p.role ∷ bs) (subs-same ps)

-- terms are shallow where the inputs and the outputs among them are
pub both-shallow : (mask : List Bool) (ts : List Tree) → AreShallow (inputs mask ts) → AreShallow (outputs mask ts) → AreShallow ts
both-shallow [] ts a b = a
both-shallow (x ∷ mask) [] a b = tt
both-shallow (true ∷ mask) (t ∷ ts) a b = (b.0, both-shallow mask ts a b.1)
both-shallow (false ∷ mask) (t ∷ ts) a b = (a.0, both-shallow mask ts a.1 b)

-- as many outputs stand in each list of the mask's length
pub outputs-many : {X Y : Type 0} → (mask : List Bool) (xs : List X) (ys : List Y) → length xs ≡ length mask → length ys ≡ length mask → length (outputs mask xs) ≡ length (outputs mask ys)
outputs-many [] xs ys a b = refl
outputs-many (m ∷ mask) [] ys a b = absurd (omega (arith, a))
outputs-many (m ∷ mask) (x ∷ xs) [] a b = absurd (omega (arith, b))
outputs-many (true ∷ mask) (x ∷ xs) (y ∷ ys) a b = let h = outputs-many mask xs ys (omega (arith, a)) (omega (arith, b)) in omega (arith, h)
outputs-many (false ∷ mask) (x ∷ xs) (y ∷ ys) a b = outputs-many mask xs ys (omega (arith, a)) (omega (arith, b))

-- one subject at most is the one at the number
pub one-subject : (terms subjects : List Tree) (o : Option ℕ) → length subjects ≤ 1 → IsSubjectAt terms subjects o → AreSubject terms o subjects
one-subject terms [] o l h = tt
one-subject terms (k ∷ k' ∷ ks) o l h = absurd (omega (arith, l))
one-subject terms (k ∷ []) None l h = cc
one-subject terms (k ∷ []) (Some i) l (within, small, (rest, e)) = let q : tree_at terms i ≡ k = cc in ((within, q), tt)

module _ (shapes : List Shape) (forms : FormSorts) (rules : List Rule) (sorted : RulesAreSorted shapes forms rules) where
  sorts-many : (vars : List Sort) (ts : List Tree) (sorts : List Sort) → HaveSorts shapes vars ts sorts → length ts ≡ length sorts
  sorts-many vars [] [] h = refl
  sorts-many vars [] (s ∷ sorts) h = absurd h
  sorts-many vars (t ∷ ts) [] h = absurd h
  sorts-many vars (t ∷ ts) (s ∷ sorts) h = let e = sorts-many vars ts sorts h.1 in omega (arith, e)

  -- a derived judgement has a term for each place of its form
  pub places-many : (hyps : Hypotheses) → ((i : ℕ) (j : Judgement) → slice_get hyps.judgements i ≡ Some j → length j.places ≡ length (forms j.form)) →
      (p : Proof) (j : Judgement) → Derives rules hyps j p → length j.places ≡ length (forms j.form)
  places-many hyps f (given i) j d = f i j d
  places-many hyps f (by r binds kids) j (rule, at, many, concluded, apart_ones, each) =
      let s = sorted-at shapes forms rules r rule sorted at in
      subst (λ (k : Judgement). length k.places ≡ length (forms k.form)) concluded
      (length-map rule.conclusion.places (instance (bound_by binds)) ∙ sorts-many rule.sorts rule.conclusion.places (forms rule.conclusion.form) s.0)

  module _ (base : List Shape) (table : Table) (desugars : Desugars base shapes table) where
    parts-same : (o : Option Body) (ts us : Trees) → length (listed us) ≡ length (listed ts) → HasParts o ts → HasParts o us
    parts-same None ts us e h = tt
    parts-same (Some body) ts us e h = e ∙ h

    instances-many : (s : ℕ → Tree) (ts : Trees) → length (listed (instances s ts)) ≡ length (listed ts)
    instances-many s none = refl
    instances-many s (t ▹ ts) = let h = instances-many s ts in omega (arith, h)

    mutual
      instance-fits : (s : ℕ → Tree) (t : Tree) → FitsTable table t → ((v : ℕ) → Stands v t → FitsTable table (s v)) → FitsTable table (instance s t)
      instance-fits s (node label kids) h f = (parts-same (table label) kids (instances s kids) (instances-many s kids) h.0, instances-fit s kids h.1 f)
      instance-fits s (lexeme kind text) h f = tt
      instance-fits s (hole v) h f = f v refl

      instances-fit : (s : ℕ → Tree) (ts : Trees) → FitTable table ts → ((v : ℕ) → StandsInKids v ts → FitsTable table (s v)) → FitTable table (instances s ts)
      instances-fit s none h f = tt
      instances-fit s (t ▹ ts) h f = (instance-fits s t h.0 (λ v k. f v (inl k)), instances-fit s ts h.1 (λ v k. f v (inr k)))

    bound-fits : (binds : List Tree) (v : ℕ) → FitTable table (forest binds) → v < length binds → FitsTable table (bound_by binds v)
    bound-fits [] v h l = absurd (omega (arith, l))
    bound-fits (t ∷ ts) zero h l = h.0
    bound-fits (t ∷ ts) (suc v) h l = bound-fits ts v h.1 (omega (arith, l))

    row-fits : (vars : List Sort) (binds ts : List Tree) (sorts : List Sort) → length binds ≡ length vars → FitTable table (forest binds) → HaveSorts shapes vars ts sorts → FitTable table (forest (map (instance (bound_by binds)) ts))
    row-fits vars binds [] sorts m h s = tt
    row-fits vars binds (t ∷ ts) [] m h s = absurd s
    row-fits vars binds (t ∷ ts) (x ∷ xs) m h s = (
      instance-fits (bound_by binds) t (sorted-fits base shapes table vars desugars t x s.0)
          (λ v k. let l = inside shapes vars t x s.0 v k in bound-fits binds v h (omega (arith, l, m))),
      row-fits vars binds ts xs m h s.1,
    )

    -- its terms have as many parts as the table asks for, where those that are bound do
    pub places-fit : (hyps : Hypotheses) → ((i : ℕ) (j : Judgement) → slice_get hyps.judgements i ≡ Some j → FitTable table (forest j.places)) →
        (p : Proof) (j : Judgement) → Derives rules hyps j p → BindsFit table p → FitTable table (forest j.places)
    places-fit hyps f (given i) j d h = f i j d
    places-fit hyps f (by r binds kids) j (rule, at, many, concluded, apart_ones, each) h =
        let s = sorted-at shapes forms rules r rule sorted at in
        subst (λ (k : Judgement). FitTable table (forest k.places)) concluded
        (row-fits rule.sorts binds rule.conclusion.places (forms rule.conclusion.form) many h.0 s.0)
