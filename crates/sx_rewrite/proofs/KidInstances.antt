-- Instances of certificates, kid by kid.
use Rattle.std.proofs.Common.{◌≡◌, arith, ℕ, zero, suc, ◌+◌, ◌<◌, ◌≤◌, drop, get_or, length, List, [], ◌∷◌, ◌++◌, map, Box, Vec, Option, None, refl, sym, ap, ◌∙◌, subst, append_assoc, append-nil}
use Rattle.std.specs.Prelude.{Result, Ok, Err, IfOk, MatchResult, slice_get}
use Rattle.std.specs.declared.alloc.Global.{Global}
use Rattle.std.proofs.lemmas.List.{map-append}
use Rattle.sx_term.specs.declared.term.Term.{Term}
use Rattle.sx_term.specs.Term.{tree}
use Rattle.sx_term.specs.Tree.{Tree, greatest_depth, forest}
use Rattle.sx_term.specs.Instances.{instance, bound_by}
use Rattle.sx_rules.specs.declared.proof.Proof.{Proof as ProofOf, By, Given}
use Rattle.sx_rules.specs.Rules.{Rule}
use Rattle.sx_rules.specs.Derivations.{Proof, Proofs, by, given, no_more, ◌⊳◌, proof_instance, proof_instances, height_of, most_height, HasShallowBinds, HaveShallowBinds}
use Rattle.sx_rules.specs.ProofView.{proof, row_of, boxed}
use Rattle.sx_rules.proofs.ProofRows.{proof-at_by}
use Rattle.sx_rewrite.specs.declared.put_terms.PutTerms.{PutTerms}
use Rattle.sx_rewrite.specs.declared.rewrite_error.RewriteError.{RewriteError}
use Rattle.sx_rewrite.specs.declared.rewrite_error.RewriteError.TheVariants.{Memory}
use Rattle.sx_rewrite.specs.Givens.{givens_of, givens_of_all, numbered_proof, all_numbered}
use Rattle.sx_rewrite.specs.Measured.{node_terms, certificate_terms, certificate_terms_of}
use Rattle.sx_rewrite.specs.Rewriting.{RewriteRefusal, first_over}
use Rattle.sx_rewrite.specs.Puts.{Tells, Answers}
use Rattle.sx_rewrite.specs.Put.{ArePut}
use Rattle.sx_rewrite.proofs.Puts.{over-left, over-right}
use Rattle.sx_rewrite.proofs.Instanced.{all-shallow}
use Rattle.sx_rewrite.proofs.Grafted.{views}

-- an instance has the givens
mutual
  pub givens-instance : (s : ℕ → Tree) (p : Proof) → givens_of (proof_instance s p) ≡ givens_of p
  givens-instance s (by r binds kids) = givens-instances s kids
  givens-instance s (given i) = refl

  givens-instances : (s : ℕ → Tree) (ps : Proofs) → givens_of_all (proof_instances s ps) ≡ givens_of_all ps
  givens-instances s no_more = refl
  givens-instances s (p ⊳ ps) =
      let a = givens-instance s p in
      let b = givens-instances s ps in cc

-- proofs after a list of them
abbrev pub after : List Proof → Proofs → Proofs
after [] qs = qs
after (p ∷ ps) qs = p ⊳ after ps qs

after-one : (ps : List Proof) (p : Proof) (qs : Proofs) → after (ps ++ p ∷ []) qs ≡ after ps (p ⊳ qs)
after-one [] p qs = refl
after-one (x ∷ ps) p qs = ap (λ (r : Proofs). x ⊳ r) (after-one ps p qs)

after-none : (ps : List Proof) → after ps no_more ≡ row_of ps
after-none [] = refl
after-none (p ∷ ps) = ap (λ (r : Proofs). p ⊳ r) (after-none ps)

boxed-from : (ks : List (Box ProofOf Global)) (i : ℕ) (k : Box ProofOf Global) (p : ProofOf) → i < length ks → k ≡ get_or ks i k → p ≡ k.value → boxed (drop i ks) ≡ proof p ⊳ boxed (drop (i + 1) ks)
boxed-from [] i k p l e is = absurd (omega arith)
boxed-from (x ∷ ks) zero k p l e is =
    let f = ap (λ (y : Box ProofOf Global). proof y.value) e in
    let g = ap proof is in ap (λ (y : Proof). y ⊳ boxed ks) (sym (g ∙ f))
boxed-from (x ∷ ks) (suc i) k p l e is = let n : suc i + 1 ≡ suc (i + 1) = omega arith in rw n (boxed-from ks i k p (omega arith) e is)

boxed-end : (ks : List (Box ProofOf Global)) (i : ℕ) → length ks ≤ i → boxed (drop i ks) ≡ no_more
boxed-end [] zero l = refl
boxed-end [] (suc i) l = refl
boxed-end (k ∷ ks) zero l = absurd (omega arith)
boxed-end (k ∷ ks) (suc i) l = boxed-end ks i (omega arith)

many-both : (xs ys : List ℕ) → length (xs ++ ys) ≡ length xs + length ys
many-both [] ys = omega arith
many-both (x ∷ xs) ys = let h = many-both xs ys in omega arith

-- the kids up to a place are made, and those from it on are to be
pub record KidsMade (rules : List Rule) (s : ℕ → Tree) (kids : Proofs) (rest : Proofs) (first next : ℕ) (made : List Proof) : Type 0 where
  pub over : first_over (certificate_terms_of rules s kids) ≡ first_over (certificate_terms_of rules s rest)
  pub made_are : after made (all_numbered next (proof_instances s rest)) ≡ all_numbered first (proof_instances s kids)

pub record KidsSoFar (rules : List Rule) (puts : PutTerms) (kids : List (Box ProofOf Global)) (i : ℕ) (old now : List ℕ) (made : List (Box ProofOf Global)) : Type 0 where
  pub givens_are : now ++ givens_of_all (boxed (drop i kids)) ≡ old ++ givens_of_all (boxed kids)
  pub goes : (more : List Tree) → ArePut more puts → KidsMade rules (bound_by more) (boxed kids) (boxed (drop i kids)) (length old) (length now) (views made)

pub no-kids : (rules : List Rule) (puts : PutTerms) (kids : List (Box ProofOf Global)) (old : List ℕ) → KidsSoFar rules puts kids 0 old old []
no-kids rules puts kids old = record { givens_are = refl; goes = λ more p. record { over = refl; made_are = refl } }

module _ (rules : List Rule) (puts : PutTerms) (kids : List (Box ProofOf Global)) (i : ℕ) (old now : List ℕ) (made : List (Box ProofOf Global)) (so : KidsSoFar rules puts kids i old now made) where
  module _ (k : Box ProofOf Global) (p : ProofOf) (within : i < length kids) (at : k ≡ get_or kids i k) (is : p ≡ k.value) where
    here : boxed (drop i kids) ≡ proof p ⊳ boxed (drop (i + 1) kids)
    here = boxed-from kids i k p within at is

    -- a kid is refused
    pub kids-tell : (e : RewriteError) (more : List Tree) → ArePut more puts → Tells (first_over (certificate_terms rules (bound_by more) (proof p))) e → Tells (first_over (certificate_terms_of rules (bound_by more) (boxed kids))) e
    kids-tell e more q t =
        let a = over-left (certificate_terms rules (bound_by more) (proof p)) (certificate_terms_of rules (bound_by more) (boxed (drop (i + 1) kids))) e t in
        subst (λ (o : Option RewriteRefusal). Tells o e) (sym ((so.goes more q).over ∙ ap (λ (x : Proofs). first_over (certificate_terms_of rules (bound_by more) x)) here)) a

    -- or it is made
    pub kids-step : (new : Box ProofOf Global) (then : List ℕ) → then ≡ now ++ givens_of (proof p) →
        ((more : List Tree) → ArePut more puts → (first_over (certificate_terms rules (bound_by more) (proof p)) ≡ None) × (proof new.value ≡ numbered_proof (length now) (proof_instance (bound_by more) (proof p)))) →
        KidsSoFar rules puts kids (i + 1) old then (made ++ new ∷ [])
    kids-step new then e f = record {
      givens_are =
          ap (λ (xs : List ℕ). xs ++ givens_of_all (boxed (drop (i + 1) kids))) e
          ∙ append_assoc now (givens_of (proof p)) (givens_of_all (boxed (drop (i + 1) kids)))
          ∙ sym (ap (λ (x : Proofs). now ++ givens_of_all x) here) ∙ so.givens_are;
      goes = λ more q.
          let w = so.goes more q in
          let g = f more q in
          let s = bound_by more in
          let n : length now + length (givens_of (proof_instance s (proof p))) ≡ length then =
          ap (λ (xs : List ℕ). length now + length xs) (givens-instance s (proof p)) ∙ sym (many-both now (givens_of (proof p))) ∙ sym (ap length e) in
          record {
            over =
                w.over ∙ ap (λ (x : Proofs). first_over (certificate_terms_of rules s x)) here
                ∙ over-right (certificate_terms rules s (proof p)) (certificate_terms_of rules s (boxed (drop (i + 1) kids))) g.0;
            made_are =
                ap (λ (xs : List Proof). after xs (all_numbered (length then) (proof_instances s (boxed (drop (i + 1) kids))))) (map-append (λ x. proof x.value) made (new ∷ []))
                ∙ after-one (views made) (proof new.value) (all_numbered (length then) (proof_instances s (boxed (drop (i + 1) kids))))
                ∙ ap (λ (x : Proof). after (views made) (x ⊳ all_numbered (length then) (proof_instances s (boxed (drop (i + 1) kids))))) g.1
                ∙ sym (ap (λ (m : ℕ). after (views made) (numbered_proof (length now) (proof_instance s (proof p)) ⊳ all_numbered m (proof_instances s (boxed (drop (i + 1) kids))))) n)
                ∙ sym (ap (λ (x : Proofs). after (views made) (all_numbered (length now) (proof_instances s x))) here)
                ∙ w.made_are;
          };
    }

  module _ (end : length kids ≤ i) where
    pub kids-givens : now ≡ old ++ givens_of_all (boxed kids)
    kids-givens = sym (append-nil now) ∙ sym (ap (λ (x : Proofs). now ++ givens_of_all x) (boxed-end kids i end)) ∙ so.givens_are

    pub kids-end : (more : List Tree) → ArePut more puts →
        (first_over (certificate_terms_of rules (bound_by more) (boxed kids)) ≡ None) × (boxed made ≡ all_numbered (length old) (proof_instances (bound_by more) (boxed kids)))
    kids-end more q =
        let w = so.goes more q in
        let e = boxed-end kids i end in (
          w.over ∙ ap (λ (x : Proofs). first_over (certificate_terms_of rules (bound_by more) x)) e,
          sym (after-none (views made)) ∙ sym (ap (λ (x : Proofs). after (views made) (all_numbered (length now) (proof_instances (bound_by more) x))) e) ∙ w.made_are,
        )

-- a node by a rule, and its instance
module _ (p : ProofOf) (rule : ℕ) (binds : Vec Term Global) (kids : Vec (Box ProofOf Global) Global) (is : p ≡ By rule binds kids) (terms : List Term) (parts : List (Box ProofOf Global)) (same : terms ≡ binds.items) (row : parts ≡ kids.items) where
  pub node-view : proof p ≡ by rule (map tree terms) (boxed parts)
  node-view =
      proof-at_by p rule binds kids is ∙ ap (λ (xs : List (Box ProofOf Global)). by rule (map tree binds.items) (boxed xs)) (sym row)
      ∙ ap (λ (xs : List Term). by rule (map tree xs) (boxed parts)) (sym same)

  pub node-low : height_of (proof p) ≤ 3000 → most_height (boxed parts) < 3000
  node-low h = let a = ap height_of node-view in omega (arith, a, h)

  pub node-lower : most_height (boxed parts) < height_of (proof p)
  node-lower = let a = ap height_of node-view in omega (arith, a)

  pub node-binds : HasShallowBinds (proof p) → greatest_depth (forest (map tree terms)) ≤ 1000
  node-binds h = all-shallow (map tree terms) (subst HasShallowBinds node-view h).0

  pub node-kids : HasShallowBinds (proof p) → HaveShallowBinds (boxed parts)
  node-kids h = (subst HasShallowBinds node-view h).1

  pub node-givens : (old now : List ℕ) → now ≡ old ++ givens_of_all (boxed parts) → now ≡ old ++ givens_of (proof p)
  node-givens old now e = e ∙ sym (ap (λ (x : Proof). old ++ givens_of x) node-view)

  module _ (rules : List Rule) (s : ℕ → Tree) where
    abbrev own : List Tree
    own = node_terms (slice_get rules rule) (map (instance s) (map tree terms))

    pub node-tells : (e : RewriteError) → Tells (first_over (node_terms (slice_get rules rule) (map (instance s) (map tree terms)))) e → Tells (first_over (certificate_terms rules s (proof p))) e
    node-tells e h = subst (λ (q : Proof). Tells (first_over (certificate_terms rules s q)) e) (sym node-view) (over-left own (certificate_terms_of rules s (boxed parts)) e h)

    pub later-tells : (e : RewriteError) → first_over (node_terms (slice_get rules rule) (map (instance s) (map tree terms))) ≡ None → Tells (first_over (certificate_terms_of rules s (boxed parts))) e →
        Tells (first_over (certificate_terms rules s (proof p))) e
    later-tells e n h =
        subst (λ (q : Proof). Tells (first_over (certificate_terms rules s q)) e) (sym node-view)
        (subst (λ (o : Option RewriteRefusal). Tells o e) (sym (over-right own (certificate_terms_of rules s (boxed parts)) n)) h)

    pub node-answers : (n : ℕ) (made : List Tree) (new : Proofs) (result : Result (Box ProofOf Global) RewriteError) →
        (first_over (node_terms (slice_get rules rule) (map (instance s) (map tree terms))) ≡ None) × (made ≡ map (instance s) (map tree terms)) →
        (first_over (certificate_terms_of rules s (boxed parts)) ≡ None) × (new ≡ all_numbered n (proof_instances s (boxed parts))) →
        MatchResult result (λ x. proof x.value ≡ by rule made new) (λ e. e ≡ Memory) →
        Answers (first_over (certificate_terms rules s (proof p))) (λ x. proof x.value ≡ numbered_proof n (proof_instance s (proof p))) result
    node-answers n made new (Err e) a b h = subst (λ (x : RewriteError). Tells (first_over (certificate_terms rules s (proof p))) x) (sym h) tt
    node-answers n made new (Ok x) a b h = (
      ap (λ (q : Proof). first_over (certificate_terms rules s q)) node-view ∙ over-right own (certificate_terms_of rules s (boxed parts)) a.0 ∙ b.0,
      h ∙ ap (λ (ts : List Tree). by rule ts new) a.1 ∙ ap (by rule (map (instance s) (map tree terms))) b.1
          ∙ sym (ap (λ (q : Proof). numbered_proof n (proof_instance s q)) node-view),
    )

-- a given is no term
pub given-answers : (p : ProofOf) (i : ℕ) (rules : List Rule) (s : ℕ → Tree) (n : ℕ) (result : Result (Box ProofOf Global) RewriteError) → p ≡ Given i →
    MatchResult result (λ x. proof x.value ≡ given n) (λ e. e ≡ Memory) →
    Answers (first_over (certificate_terms rules s (proof p))) (λ x. proof x.value ≡ numbered_proof n (proof_instance s (proof p))) result
given-answers p i rules s n (Ok x) is h =
    (ap (λ (q : ProofOf). first_over (certificate_terms rules s (proof q))) is, h ∙ sym (ap (λ (q : ProofOf). numbered_proof n (proof_instance s (proof q))) is))
given-answers p i rules s n (Err e) is h = subst (λ (x : RewriteError). Tells (first_over (certificate_terms rules s (proof p))) x) (sym h) tt

pub any-ok : {X E : Type 0} (r : Result X E) (P : Type 0) → P → IfOk r (λ x. P)
any-ok (Ok x) P h = h
any-ok (Err e) P h = tt

-- a kid is no deeper than the deepest, and its terms are not too deep
pub kid-high : (ks : List (Box ProofOf Global)) (n : ℕ) (k : Box ProofOf Global) (p : ProofOf) → n < length ks → k ≡ get_or ks n k → p ≡ k.value → height_of (proof p) ≤ most_height (boxed ks)
kid-high [] n k p l e is = absurd (omega (arith, l))
kid-high (x ∷ ks) zero k p l e is =
    let a = ap (λ (y : Box ProofOf Global). height_of (proof y.value)) e in
    let b = ap (λ (y : ProofOf). height_of (proof y)) is in omega (arith, a, b)
kid-high (x ∷ ks) (suc n) k p l e is = let h = kid-high ks n k p (omega (arith, l)) e is in omega (arith, h)

pub kid-shallow : (ks : List (Box ProofOf Global)) (n : ℕ) (k : Box ProofOf Global) (p : ProofOf) → n < length ks → k ≡ get_or ks n k → p ≡ k.value → HaveShallowBinds (boxed ks) → HasShallowBinds (proof p)
kid-shallow [] n k p l e is h = absurd (omega (arith, l))
kid-shallow (x ∷ ks) zero k p l e is h = subst (λ (y : ProofOf). HasShallowBinds (proof y)) (sym is) (subst (λ (y : Box ProofOf Global). HasShallowBinds (proof y.value)) (sym e) h.0)
kid-shallow (x ∷ ks) (suc n) k p l e is h = kid-shallow ks n k p (omega (arith, l)) e is h.1
