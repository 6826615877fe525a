-- Kids at the places of givens that are numbered.
use Rattle.std.proofs.Common.{◌≡◌, arith, ℕ, suc, ◌+◌, ◌≤◌, length, map, List, [], ◌∷◌, ◌++◌, Box, Option, Some, refl, sym, ap, ◌∙◌, subst}
use Rattle.std.specs.declared.alloc.Global.{Global}
use Rattle.std.proofs.Math.ListN.{length-map}
use Rattle.sx_term.specs.Tree.{Tree}
use Rattle.sx_rules.specs.declared.proof.Proof.{Proof as ProofOf}
use Rattle.sx_rules.specs.ProofView.{proof, row_of, boxed}
use Rattle.sx_rules.specs.Derivations.{Proof, Proofs, by, given, no_more, ◌⊳◌, proof_at, put_for}
use Rattle.sx_rules.specs.Derivations.{proof_instance, proof_instances, graft, grafts, height_of}
use Rattle.sx_rules.specs.Derivations.{most_height}
use Rattle.sx_rewrite.proofs.KidInstances.{givens-instance}
use Rattle.sx_rewrite.specs.Givens.{givens_of, givens_of_all, numbered_proof, all_numbered, placed_at}
use Rattle.sx_rewrite.specs.Givens.{CountUpFrom}

-- from a number on the proofs are those of the givens
abbrev AreAt : Proofs → Proofs → ℕ → List ℕ → Type 0
AreAt proofs ks n [] = Unit {0}
AreAt proofs ks n (g ∷ gs) = (proof_at ks n ≡ Some (put_for (proof_at proofs g) g)) × AreAt proofs ks (suc n) gs

at-front : (proofs ks : Proofs) (n : ℕ) (xs ys : List ℕ) → AreAt proofs ks n (xs ++ ys) → AreAt proofs ks n xs
at-front proofs ks n [] ys h = tt
at-front proofs ks n (x ∷ xs) ys h = (h.0, at-front proofs ks (suc n) xs ys h.1)

at-back : (proofs ks : Proofs) (n : ℕ) (xs ys : List ℕ) → AreAt proofs ks n (xs ++ ys) → AreAt proofs ks (n + length xs) ys
at-back proofs ks n [] ys h = let e : n ≡ n + 0 = omega arith in subst (λ (m : ℕ). AreAt proofs ks m ys) e h
at-back proofs ks n (x ∷ xs) ys h =
    let e : suc n + length xs ≡ n + length (x ∷ xs) = omega arith in
    subst (λ (m : ℕ). AreAt proofs ks m ys) e (at-back proofs ks (suc n) xs ys h.1)

at-later : (proofs ks : Proofs) (k : Proof) (n : ℕ) (gs : List ℕ) → AreAt proofs ks n gs → AreAt proofs (k ⊳ ks) (suc n) gs
at-later proofs ks k n [] h = tt
at-later proofs ks k n (g ∷ gs) h = (h.0, at-later proofs ks k (suc n) gs h.1)

placed_at-at : (proofs : Proofs) (gs : List ℕ) → AreAt proofs (placed_at proofs gs) 0 gs
placed_at-at proofs [] = tt
placed_at-at proofs (g ∷ gs) = (refl, at-later proofs (placed_at proofs gs) (put_for (proof_at proofs g) g) 0 gs (placed_at-at proofs gs))

mutual
  graft-at : (proofs ks : Proofs) (n : ℕ) (p : Proof) → AreAt proofs ks n (givens_of p) → graft ks (numbered_proof n p) ≡ graft proofs p
  graft-at proofs ks n (by r binds kids) h = ap (by r binds) (grafts-at proofs ks n kids h)
  graft-at proofs ks n (given i) h = ap (λ (o : Option Proof). put_for o n) h.0

  grafts-at : (proofs ks : Proofs) (n : ℕ) (ps : Proofs) → AreAt proofs ks n (givens_of_all ps) → grafts ks (all_numbered n ps) ≡ grafts proofs ps
  grafts-at proofs ks n no_more h = refl
  grafts-at proofs ks n (p ⊳ ps) h =
      let a = graft-at proofs ks n p (at-front proofs ks n (givens_of p) (givens_of_all ps) h) in
      let b = grafts-at proofs ks (n + length (givens_of p)) ps (at-back proofs ks n (givens_of p) (givens_of_all ps) h) in cc

-- where givens are numbered, the kids at their places stand for the kids
pub graft-placed : (proofs : Proofs) (p : Proof) → graft (placed_at proofs (givens_of p)) (numbered_proof 0 p) ≡ graft proofs p
graft-placed proofs p = graft-at proofs (placed_at proofs (givens_of p)) 0 p (placed_at-at proofs (givens_of p))

-- givens that are numbered count up
many-both : (xs ys : List ℕ) → length (xs ++ ys) ≡ length xs + length ys
many-both [] ys = omega arith
many-both (x ∷ xs) ys = let h = many-both xs ys in omega arith

numbered-both : (n : ℕ) (xs ys : List ℕ) → CountUpFrom n xs → CountUpFrom (n + length xs) ys → CountUpFrom n (xs ++ ys)
numbered-both n [] ys h k = let e : n + 0 ≡ n = omega arith in subst (λ (m : ℕ). CountUpFrom m ys) e k
numbered-both n (x ∷ xs) ys h k =
    let e : n + length (x ∷ xs) ≡ suc n + length xs = omega arith in
    (h.0, numbered-both (suc n) xs ys h.1 (subst (λ (m : ℕ). CountUpFrom m ys) e k))

mutual
  pub numbered-many : (n : ℕ) (p : Proof) → length (givens_of (numbered_proof n p)) ≡ length (givens_of p)
  numbered-many n (by r binds kids) = all_numbered-many n kids
  numbered-many n (given i) = refl

  all_numbered-many : (n : ℕ) (ps : Proofs) → length (givens_of_all (all_numbered n ps)) ≡ length (givens_of_all ps)
  all_numbered-many n no_more = refl
  all_numbered-many n (p ⊳ ps) =
      let a = numbered-many n p in
      let b = all_numbered-many (n + length (givens_of p)) ps in
      let c = many-both (givens_of (numbered_proof n p)) (givens_of_all (all_numbered (n + length (givens_of p)) ps)) in
      let d = many-both (givens_of p) (givens_of_all ps) in omega (arith, a, b, c, d)

mutual
  pub numbered-counts : (n : ℕ) (p : Proof) → CountUpFrom n (givens_of (numbered_proof n p))
  numbered-counts n (by r binds kids) = all_numbered-count n kids
  numbered-counts n (given i) = (refl, tt)

  all_numbered-count : (n : ℕ) (ps : Proofs) → CountUpFrom n (givens_of_all (all_numbered n ps))
  all_numbered-count n no_more = tt
  all_numbered-count n (p ⊳ ps) =
      let e : n + length (givens_of p) ≡ n + length (givens_of (numbered_proof n p)) = (let m = numbered-many n p in omega (arith, m)) in
      numbered-both n (givens_of (numbered_proof n p)) (givens_of_all (all_numbered (n + length (givens_of p)) ps)) (numbered-counts n p)
      (subst (λ (m : ℕ). CountUpFrom m (givens_of_all (all_numbered (n + length (givens_of p)) ps))) e (all_numbered-count (n + length (givens_of p)) ps))

-- an instance is as deep
mutual
  height-instance : (qs : Proofs) (s : ℕ → Tree) (p : Proof) → height_of (graft qs (proof_instance s p)) ≡ height_of (graft qs p)
  height-instance qs s (by r binds kids) = let h = heights-instance qs s kids in omega (arith, h)
  height-instance qs s (given i) = refl

  heights-instance : (qs : Proofs) (s : ℕ → Tree) (ps : Proofs) → most_height (grafts qs (proof_instances s ps)) ≡ most_height (grafts qs ps)
  heights-instance qs s no_more = refl
  heights-instance qs s (p ⊳ ps) =
      let a = height-instance qs s p in
      let b = heights-instance qs s ps in omega (arith, a, b)

length-placed : (qs : Proofs) (ks : List (Box ProofOf Global)) (gs : List ℕ) → boxed ks ≡ placed_at qs gs → length ks ≡ length gs
length-placed qs ks gs e = go (map (λ k. proof k.value) ks) gs e (length-map ks (λ k. proof k.value))
  where
    many : Proofs → ℕ
    many no_more = 0
    many (p ⊳ ps) = suc (many ps)

    many-row : (ps : List Proof) → many (row_of ps) ≡ length ps
    many-row [] = refl
    many-row (p ∷ ps) = ap suc (many-row ps)

    many-placed : (xs : List ℕ) → many (placed_at qs xs) ≡ length xs
    many-placed [] = refl
    many-placed (x ∷ xs) = ap suc (many-placed xs)

    go : (ps : List Proof) (xs : List ℕ) → row_of ps ≡ placed_at qs xs → length ps ≡ length ks → length ks ≡ length xs
    go ps xs f l = sym l ∙ sym (many-row ps) ∙ ap many f ∙ many-placed xs

-- the instance of a certificate with kids at its places
module _ (cert : Proof) (s : ℕ → Tree) (kids ks : List (Box ProofOf Global)) (body : Proof) (gs : List ℕ) (givens : gs ≡ [] ++ givens_of cert) (is : body ≡ numbered_proof 0 (proof_instance s cert)) (at : boxed ks ≡ placed_at (boxed kids) gs) where
  placed_at-instance : boxed ks ≡ placed_at (boxed kids) (givens_of (proof_instance s cert))
  placed_at-instance = at ∙ ap (placed_at (boxed kids)) (givens ∙ sym (givens-instance s cert))

  pub body-grafted : graft (boxed ks) body ≡ graft (boxed kids) (proof_instance s cert)
  body-grafted =
      ap (λ (x : Proofs). graft x body) placed_at-instance ∙ ap (graft (placed_at (boxed kids) (givens_of (proof_instance s cert)))) is
      ∙ graft-placed (boxed kids) (proof_instance s cert)

  pub body-numbered : CountUpFrom 0 (givens_of body)
  body-numbered = subst (λ (x : Proof). CountUpFrom 0 (givens_of x)) (sym is) (numbered-counts 0 (proof_instance s cert))

  pub body-many : length (givens_of body) ≡ length ks
  body-many =
      ap (λ (x : Proof). length (givens_of x)) is ∙ numbered-many 0 (proof_instance s cert)
      ∙ sym (length-placed (boxed kids) ks (givens_of (proof_instance s cert)) placed_at-instance)

  pub body-low : height_of (graft (boxed kids) cert) ≤ 3000 → height_of (graft (boxed ks) body) ≤ 3000
  body-low h =
      let a = ap height_of body-grafted in
      let b = height-instance (boxed kids) s cert in omega (arith, a, b, h)
