-- Terms of lowered nodes that are measured one by one.
use Rattle.std.proofs.Common.{◌≡◌, ℕ, ◌+◌, ◌<◌, ◌≤◌, List, [], ◌∷◌, ◌++◌, length, drop, take, get_or, map, Box, Vec, Option, None, refl, sym, ap, ◌∙◌, subst, arith}
use Rattle.std.specs.Prelude.{Result, Ok, Err, slice_get}
use Rattle.std.specs.declared.alloc.Global.{Global}
use Rattle.std.proofs.lemmas.List.{at_drop_more, drop_all, map-append, take_more, take_all, get_or-map, length-map}
use Rattle.sx_term.specs.declared.term.Term.{Term}
use Rattle.sx_term.specs.Term.{tree}
use Rattle.sx_term.specs.Tree.{Tree}
use Rattle.sx_term.specs.Instances.{instance, bound_by}
use Rattle.sx_rules.specs.declared.proof.Proof.{Proof as ProofOf, By}
use Rattle.sx_rules.specs.Rules.{Rule}
use Rattle.sx_rules.specs.Derivations.{Proof, Proofs, ◌⊳◌}
use Rattle.sx_rules.specs.ProofView.{proof, boxed}
use Rattle.sx_rules.proofs.ProofRows.{proof-at_by}
use Rattle.sx_plain.specs.declared.measure.Measure.{Measure}
use Rattle.sx_plain.specs.Measures.{greatest}
use Rattle.sx_plain.specs.PartMeasures.{depths_of}
use Rattle.sx_rewrite.specs.declared.rewrite_error.RewriteError.{RewriteError}
use Rattle.sx_rewrite.specs.Measured.{node_terms, certificate_terms, certificate_terms_of}
use Rattle.sx_rewrite.specs.Put.{conclusion_terms}
use Rattle.sx_rewrite.specs.Puts.{AreMeasuresOf, IsLimited, Tells, Answers}
use Rattle.sx_rewrite.specs.Rewriting.{first_over}
use Rattle.sx_rewrite.proofs.Instanced.{IsMeasured, measure-is, here-tells, here-passes, measures-both, greatest-both, none-over}
use Rattle.sx_rewrite.proofs.Puts.{over-left, over-right, node-left, node-right, limited-small}

-- the instances up to a place pass no limit, and are measured
pub record MeasuredTo (s : ℕ → Tree) (ts : List Tree) (i : ℕ) (ms : List Measure) : Type 0 where
  pub over : first_over (map (instance s) ts) ≡ first_over (map (instance s) (drop i ts))
  pub measures : AreMeasuresOf (map (instance s) (take i ts)) ms

-- whatever the parts are
pub record MeasuresSoFar (parts : List Measure) (ts : List Term) (i : ℕ) (ms : List Measure) : Type 0 where
  pub low : greatest (depths_of ms) ≤ 1001000
  pub goes : (more : List Tree) → AreMeasuresOf more parts → MeasuredTo (bound_by more) (map tree ts) i ms

pub measures-none : (parts : List Measure) (ts : List Term) (ms : List Measure) → ms ≡ [] → MeasuresSoFar parts ts 0 ms
measures-none parts ts ms e = subst (λ (ns : List Measure). MeasuresSoFar parts ts 0 ns) (sym e) (record { low = omega arith; goes = λ more h. record { over = refl; measures = tt } })

module _ (parts : List Measure) (ts : List Term) (i : ℕ) (ms : List Measure) (so : MeasuresSoFar parts ts i ms) (k : Term) (within : i < length ts) (same : k ≡ get_or ts i k) (m : Measure) (is : IsMeasured parts (tree k) m) where
  pub measures-tell : (e : RewriteError) → IsLimited m (Err e) → (more : List Tree) → AreMeasuresOf more parts → Tells (first_over (map (instance (bound_by more)) (map tree ts))) e
  measures-tell e l more h = here-tells (bound_by more) ts i k within same m e (so.goes more h).over l (measure-is more parts (tree k) m h is)

  up-to : take (i + 1) (map tree ts) ≡ take i (map tree ts) ++ tree k ∷ []
  up-to =
      let n = length-map ts tree in
      take_more (map tree ts) i (tree k) (omega (arith, n, within))
      ∙ ap (λ (t : Tree). take i (map tree ts) ++ t ∷ []) (get_or-map tree ts i k (tree k) within ∙ sym (ap tree same))

  pub measures-more : (m.depth ≤ 1000) × (m.size ≤ 1000000) → (new : List Measure) → new ≡ ms ++ m ∷ [] → MeasuresSoFar parts ts (i + 1) new
  measures-more small new e = subst (λ (ns : List Measure). MeasuresSoFar parts ts (i + 1) ns) (sym e) (record {
    low = (let d = small.0 in greatest-both ms m 1001000 so.low (omega (arith, d)));
    goes = λ more h.
        let s = bound_by more in
        let r = so.goes more h in
        let it = measure-is more parts (tree k) m h is in
        let all : map (instance s) (take (i + 1) (map tree ts)) ≡ map (instance s) (take i (map tree ts)) ++ instance s (tree k) ∷ [] =
        ap (map (instance s)) up-to ∙ map-append (instance s) (take i (map tree ts)) (tree k ∷ []) in
        record {
          over = here-passes s ts i k within same r.over (limited-small (instance s (tree k)) m small it);
          measures = subst (λ (xs : List Tree). AreMeasuresOf xs (ms ++ m ∷ [])) (sym all) (measures-both (map (instance s) (take i (map tree ts))) (instance s (tree k) ∷ []) ms (m ∷ []) r.measures (it, tt));
        };
  })

pub measures-all : (parts : List Measure) (ts : List Term) (i : ℕ) (ms : List Measure) → length ts ≤ i → MeasuresSoFar parts ts i ms → (more : List Tree) → AreMeasuresOf more parts →
    (first_over (map (instance (bound_by more)) (map tree ts)) ≡ None) × AreMeasuresOf (map (instance (bound_by more)) (map tree ts)) ms
measures-all parts ts i ms l so more h =
    let s = bound_by more in
    let r = so.goes more h in
    let n = length-map ts tree in
    let all = take_all i (map tree ts) (omega (arith, n, l)) in
    (none-over s ts i l r.over, subst (λ (xs : List Tree). AreMeasuresOf (map (instance s) xs) ms) all r.measures)

-- a node of a certificate, and the kids that are left
module _ (base : List Rule) (s : ℕ → Tree) (p : ProofOf) (r : ℕ) (binds : Vec Term Global) (kids : Vec (Box ProofOf Global) Global) (is : p ≡ By r binds kids) (xs : List Term) (row : xs ≡ binds.items) where
  terms-are : certificate_terms base s (proof p) ≡ node_terms (slice_get base r) (map (instance s) (map tree xs)) ++ certificate_terms_of base s (boxed kids.items)
  terms-are =
      ap (certificate_terms base s) (proof-at_by p r binds kids is)
      ∙ ap (λ (ys : List Term). node_terms (slice_get base r) (map (instance s) (map tree ys)) ++ certificate_terms_of base s (boxed kids.items)) (sym row)

  pub binds-tell : (e : RewriteError) → Tells (first_over (map (instance s) (map tree xs))) e → Tells (first_over (certificate_terms base s (proof p))) e
  binds-tell e h =
      let ts = map (instance s) (map tree xs) in
      subst (λ (us : List Tree). Tells (first_over us) e) (sym terms-are) (over-left (node_terms (slice_get base r) ts) (certificate_terms_of base s (boxed kids.items)) e (node-left (slice_get base r) ts e h))

  pub conclusion-tells : (e : RewriteError) → first_over (map (instance s) (map tree xs)) ≡ None → Tells (first_over (conclusion_terms (slice_get base r) (map (instance s) (map tree xs)))) e → Tells (first_over (certificate_terms base s (proof p))) e
  conclusion-tells e none h =
      let ts = map (instance s) (map tree xs) in
      let here : Tells (first_over (node_terms (slice_get base r) ts)) e = subst (λ o. Tells o e) (sym (node-right (slice_get base r) ts none)) h in
      subst (λ (us : List Tree). Tells (first_over us) e) (sym terms-are) (over-left (node_terms (slice_get base r) ts) (certificate_terms_of base s (boxed kids.items)) e here)

  pub kids-follow : (ks : List (Box ProofOf Global)) → ks ≡ kids.items → first_over (map (instance s) (map tree xs)) ≡ None → first_over (conclusion_terms (slice_get base r) (map (instance s) (map tree xs))) ≡ None →
      first_over (certificate_terms base s (proof p)) ≡ first_over (certificate_terms_of base s (boxed (drop 0 ks)))
  kids-follow ks kid_row none later =
      let ts = map (instance s) (map tree xs) in
      ap first_over terms-are
      ∙ over-right (node_terms (slice_get base r) ts) (certificate_terms_of base s (boxed kids.items)) (node-right (slice_get base r) ts none ∙ later)
      ∙ ap (λ (x : List (Box ProofOf Global)). first_over (certificate_terms_of base s (boxed x))) (sym kid_row)

-- the kids of a certificate, one on
module _ (base : List Rule) (s : ℕ → Tree) (all : Proof) (ks : List (Box ProofOf Global)) (i : ℕ) (k : Box ProofOf Global) (q : ProofOf) (within : i < length ks) (at_k : k ≡ get_or ks i k) (same : q ≡ k.value)
    (so : first_over (certificate_terms base s all) ≡ first_over (certificate_terms_of base s (boxed (drop i ks)))) where
  row : boxed (drop i ks) ≡ proof q ⊳ boxed (drop (i + 1) ks)
  row =
      at_drop_more boxed ks i k within ∙ ap (λ (x : Box ProofOf Global). proof x.value ⊳ boxed (drop (i + 1) ks)) (sym at_k) ∙ ap (λ (x : ProofOf). proof x ⊳ boxed (drop (i + 1) ks)) (sym same)

  pub kid-tells : (e : RewriteError) → Tells (first_over (certificate_terms base s (proof q))) e → Tells (first_over (certificate_terms base s all)) e
  kid-tells e h =
      let later = over-left (certificate_terms base s (proof q)) (certificate_terms_of base s (boxed (drop (i + 1) ks))) e h in
      subst (λ o. Tells o e) (sym (so ∙ ap (λ (x : Proofs). first_over (certificate_terms_of base s x)) row)) later

  pub kid-passes : first_over (certificate_terms base s (proof q)) ≡ None → first_over (certificate_terms base s all) ≡ first_over (certificate_terms_of base s (boxed (drop (i + 1) ks)))
  kid-passes none =
      so ∙ ap (λ (x : Proofs). first_over (certificate_terms_of base s x)) row ∙ over-right (certificate_terms base s (proof q)) (certificate_terms_of base s (boxed (drop (i + 1) ks))) none

pub kids-end : (base : List Rule) (s : ℕ → Tree) (all : Proof) (ks : List (Box ProofOf Global)) (i : ℕ) → length ks ≤ i → first_over (certificate_terms base s all) ≡ first_over (certificate_terms_of base s (boxed (drop i ks))) → first_over (certificate_terms base s all) ≡ None
kids-end base s all ks i l so = so ∙ ap (λ (x : List (Box ProofOf Global)). first_over (certificate_terms_of base s (boxed x))) (drop_all i ks l)

-- the places of the conclusion after what is bound
pub conclusion-answers : (o : Option Rule) (binds : List Tree) → first_over binds ≡ None → (r : Result (Unit {0}) RewriteError) → Answers (first_over (conclusion_terms o binds)) (λ x. Unit {0}) r → Answers (first_over (node_terms o binds)) (λ x. Unit {0}) r
conclusion-answers o binds none (Ok x) h = (node-right o binds none ∙ h.0, tt)
conclusion-answers o binds none (Err e) h = subst (λ v. Tells v e) (sym (node-right o binds none)) h
