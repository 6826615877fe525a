-- Kids that are lowered one after another.
use Rattle.std.proofs.Common.{◌≡◌, arith, ℕ, zero, suc, ◌+◌, ◌<◌, ◌≤◌, ◌⊎◌, inl, inr, Bool, true, false, List, [], ◌∷◌, ◌++◌, length, get_or, Box, Option, Some, None, if◌then◌else◌, refl, sym, ap, ◌∙◌, subst}
use Rattle.std.specs.declared.alloc.Global.{Global}
use Rattle.sx_term.specs.Tree.{Tree}
use Rattle.sx_rules.specs.declared.proof.Proof.{Proof as ProofOf}
use Rattle.sx_rules.specs.Rules.{Hypotheses}
use Rattle.sx_rules.specs.Modes.{Modes}
use Rattle.sx_rules.specs.Derivations.{Proof, Proofs, given, no_more, ◌⊳◌, proof_at}
use Rattle.sx_rules.specs.ProofView.{proof, boxed}
use Rattle.sx_rewrite.specs.declared.rewrite_error.RewriteError.{RewriteError}
use Rattle.sx_rewrite.specs.Accepted.{Accepted}
use Rattle.sx_rewrite.specs.LoweredSizes.{proof_count}
use Rattle.sx_rewrite.specs.Measured.{Measures, MeasuresEach}
use Rattle.sx_rewrite.specs.Rewriting.{RewriteRefusal, first_over}
use Rattle.sx_rewrite.specs.Puts.{Tells}
use Rattle.sx_rewrite.specs.Lowering.{IsLoweredTo, AreLoweredTo, AreRefused, needed_terms}
use Rattle.sx_rewrite.specs.Lowering.{IsKidLowered, IsKidRefused}
use Rattle.sx_rewrite.proofs.Puts.{over-left, over-right}
use Rattle.sx_rewrite.proofs.Tallied.{number-boxed}
use Rattle.sx_rewrite.proofs.PutEach.{boxed-at}

-- what is pushed
pushed-at : (made : List (Box ProofOf Global)) (new : Box ProofOf Global) (n : ℕ) (q : Proof) → proof_at (boxed (made ++ new ∷ [])) n ≡ Some q →
    (proof_at (boxed made) n ≡ Some q) ⊎ ((n ≡ length made) × (proof new.value ≡ q))
pushed-at [] new zero q e = inr (refl, (let s : Some (proof new.value) ≡ Some q = e in cc))
pushed-at [] new (suc n) q e = let s : None ≡ Some q = e in cc
pushed-at (x ∷ made) new zero q e = inl e
pushed-at (x ∷ made) new (suc n) q e = go (pushed-at made new n q e)
  where
    go : (proof_at (boxed made) n ≡ Some q) ⊎ ((n ≡ length made) × (proof new.value ≡ q)) → (proof_at (boxed made) n ≡ Some q) ⊎ ((suc n ≡ suc (length made)) × (proof new.value ≡ q))
    go (inl h) = inl h
    go (inr h) = inr (ap (λ (m : ℕ). suc m) h.0, h.1)

module _ (a : Accepted) (subjects : Modes) (hyps : Hypotheses) where
  refused-at : (need : ℕ → Bool) (e : RewriteError) (n : ℕ) (ps qs : Proofs) (i : ℕ) (p : Proof) (tss : List (List Tree)) → proof_count qs ≡ i →
      ((m : ℕ) (x y : Proof) → need (n + m) ≡ true → proof_at ps m ≡ Some x → proof_at qs m ≡ Some y → IsLoweredTo a subjects hyps x y) →
      proof_at ps i ≡ Some p → IsKidRefused a subjects hyps (need (n + i)) p e → MeasuresEach a subjects hyps ps tss → Tells (first_over (needed_terms need n tss)) e
  refused-at need e n no_more qs i p tss m f g k h = cc
  refused-at need e n (x ⊳ ps) qs i p [] m f g k h = absurd h
  refused-at need e n (x ⊳ ps) qs zero p (ts ∷ tss) m f g k h =
      let same : x ≡ p = cc in
      let measures = subst (λ (y : Proof). Measures a subjects hyps y ts) same h.0 in
      let z : n + 0 ≡ n = omega arith in
      over-left (if need n then ts else []) (needed_terms need (n + 1) tss) e (subst (λ (l : ℕ). Tells (first_over (if need l then ts else [])) e) z (k ts measures))
  refused-at need e n (x ⊳ ps) no_more (suc i) p (ts ∷ tss) m f g k h = absurd (omega (arith, m))
  refused-at need e n (x ⊳ ps) (q ⊳ qs) (suc i) p (ts ∷ tss) m f g k h =
      let z : n + suc i ≡ n + 1 + i = omega arith in
      let rest = refused-at need e (n + 1) ps qs i p tss (omega (arith, m)) (λ l y w c b d. f (suc l) y w (let v : n + suc l ≡ n + 1 + l = omega arith in ap need v ∙ c) b d) g
      (subst (λ (l : ℕ). IsKidRefused a subjects hyps (need l) p e) z k) h.1 in
      subst (λ (o : Option RewriteRefusal). Tells o e) (sym (over-right (if need n then ts else []) (needed_terms need (n + 1) tss) (here (need n) refl))) rest
    where
      here : (b : Bool) → need n ≡ b → first_over (if b then ts else []) ≡ None
      here true c = (f 0 x q (let v : n + 0 ≡ n = omega arith in ap need v ∙ c) refl refl).small ts h.0
      here false c = refl

-- the kids up to a place are lowered
pub record LoweredSoFar (a : Accepted) (subjects : Modes) (hyps : Hypotheses) (need : ℕ → Bool) (ks : List (Box ProofOf Global)) (i : ℕ) (made : List (Box ProofOf Global)) : Type 0 where
  pub many : length made ≡ i
  pub each : (n : ℕ) (p q : Proof) → need n ≡ true → proof_at (boxed ks) n ≡ Some p → proof_at (boxed made) n ≡ Some q → IsLoweredTo a subjects hyps p q
  pub blank : (n : ℕ) (q : Proof) → need n ≡ false → proof_at (boxed made) n ≡ Some q → (m : ℕ) × (q ≡ given m)

length-push : {X : Type 0} (xs : List X) (x : X) → length (xs ++ x ∷ []) ≡ length xs + 1
length-push [] x = refl
length-push (y ∷ xs) x = let h = length-push xs x in omega (arith, h)

module _ (a : Accepted) (subjects : Modes) (hyps : Hypotheses) (need : ℕ → Bool) (ks : List (Box ProofOf Global)) where
  pub none-lowered : (made : List (Box ProofOf Global)) → made ≡ [] → LoweredSoFar a subjects hyps need ks 0 made
  none-lowered made e = record {
    many = ap length e;
    each = λ n p q u f g. let z : None ≡ Some q = sym (ap (λ (xs : List (Box ProofOf Global)). proof_at (boxed xs) n) e) ∙ g in cc;
    blank = λ n q u g. let z : None ≡ Some q = sym (ap (λ (xs : List (Box ProofOf Global)). proof_at (boxed xs) n) e) ∙ g in cc;
  }

  module _ (i : ℕ) (made : List (Box ProofOf Global)) (so : LoweredSoFar a subjects hyps need ks i made) where
    module _ (k : Box ProofOf Global) (p : ProofOf) (within : i < length ks) (at : k ≡ get_or ks i k) (is : p ≡ k.value) where
      here : proof_at (boxed ks) i ≡ Some (proof p)
      here = boxed-at ks i k p within at is

      pub one-lowered : (new : Box ProofOf Global) → IsKidLowered a subjects hyps (need i) (proof p) (proof new.value) → LoweredSoFar a subjects hyps need ks (i + 1) (made ++ new ∷ [])
      one-lowered new h = record {
        many = (let m = so.many in let l = length-push made new in omega (arith, m, l));
        each = λ n x y u f g. each-at n x y u f (pushed-at made new n y g);
        blank = λ n y u g. blank-at n y u (pushed-at made new n y g);
      }
        where
          each-at : (n : ℕ) (x y : Proof) → need n ≡ true → proof_at (boxed ks) n ≡ Some x → (proof_at (boxed made) n ≡ Some y) ⊎ ((n ≡ length made) × (proof new.value ≡ y)) → IsLoweredTo a subjects hyps x y
          each-at n x y u f (inl g) = so.each n x y u f g
          each-at n x y u f (inr g) =
              let same = g.0 ∙ so.many in
              let s : Some (proof p) ≡ Some x = sym here ∙ sym (ap (proof_at (boxed ks)) same) ∙ f in
              let q : proof p ≡ x = cc in
              subst (λ (z : Proof). IsLoweredTo a subjects hyps x z) g.1 (subst (λ (z : Proof). IsLoweredTo a subjects hyps z (proof new.value)) q (h.0 (sym (ap need same) ∙ u)))

          blank-at : (n : ℕ) (y : Proof) → need n ≡ false → (proof_at (boxed made) n ≡ Some y) ⊎ ((n ≡ length made) × (proof new.value ≡ y)) → (m : ℕ) × (y ≡ given m)
          blank-at n y u (inl g) = so.blank n y u g
          blank-at n y u (inr g) = let b = h.1 (sym (ap need (g.0 ∙ so.many)) ∙ u) in (b.0, sym g.1 ∙ b.1)

      pub one-refused : (e : RewriteError) → IsKidRefused a subjects hyps (need i) (proof p) e → AreRefused a subjects hyps need (boxed ks) e
      one-refused e h tss m =
          let n = number-boxed made in
          let l = so.many in
          refused-at a subjects hyps need e 0 (boxed ks) (boxed made) i (proof p) tss (omega (arith, n, l))
          (λ v x y u f g. so.each v x y (let z : 0 + v ≡ v = omega arith in sym (ap need z) ∙ u) f g) here
          (subst (λ (v : ℕ). IsKidRefused a subjects hyps (need v) (proof p) e) (let z : i ≡ 0 + i = omega arith in z) h) m

    pub all-lowered : length ks ≤ i → i ≤ length ks → AreLoweredTo a subjects hyps need (boxed ks) (boxed made)
    all-lowered l m = record {
      many = (let x = number-boxed made in let y = number-boxed ks in let z = so.many in omega (arith, x, y, z, l, m));
      each = so.each;
      blank = so.blank;
    }
