-- Derivations whose givens give way one after another.
use Rattle.std.proofs.Common.{◌≡◌, ℕ, zero, suc, ◌+◌, ◌<◌, ◌≤◌, length, drop, take, set, get_or, List, [], ◌∷◌, ◌++◌, Box, Vec, map, ap, sym, refl, subst, ◌∙◌, arith, append_assoc}
use Rattle.std.proofs.lemmas.List.{map-append, drop-drop, drop_all, take-set, take_more_set, length-set, drop-set-lt}
use Rattle.std.specs.Prelude.{Some}
use Rattle.std.specs.declared.alloc.Global.{Global}
use Rattle.sx_term.specs.declared.term.Term.{Term}
use Rattle.sx_term.specs.Term.{tree}
use Rattle.sx_rules.specs.declared.proof.Proof.{Proof as ProofOf, By, Given}
use Rattle.sx_rules.specs.Derivations.{Proof, Proofs, by, given, no_more, ◌⊳◌, proof_at, put_for}
use Rattle.sx_rules.specs.Derivations.{graft, grafts, height_of, most_height}
use Rattle.sx_rules.specs.ProofView.{proof, row_of, boxed}
use Rattle.sx_rules.proofs.ProofRows.{proof-at_by}
use Rattle.sx_rewrite.specs.Givens.{givens_of, givens_of_all, CountUpFrom}

-- numbers that count up, in two parts
numbered-front : (n : ℕ) (xs ys : List ℕ) → CountUpFrom n (xs ++ ys) → CountUpFrom n xs
numbered-front n [] ys h = tt
numbered-front n (x ∷ xs) ys (e, h) = (e, numbered-front (suc n) xs ys h)

numbered-back : (n : ℕ) (xs ys : List ℕ) → CountUpFrom n (xs ++ ys) → CountUpFrom (n + length xs) ys
numbered-back n [] ys h = let e : n ≡ n + 0 = omega arith in subst (λ (m : ℕ). CountUpFrom m ys) e h
numbered-back n (x ∷ xs) ys (e, h) = let s : suc n + length xs ≡ n + length (x ∷ xs) = omega arith in subst (λ (m : ℕ). CountUpFrom m ys) s (numbered-back (suc n) xs ys h)

length-both : (xs ys : List ℕ) → length (xs ++ ys) ≡ length xs + length ys
length-both [] ys = omega arith
length-both (x ∷ xs) ys = let h = length-both xs ys in omega arith

-- two lists of proofs have the same from a number on
abbrev AgreeFrom : ℕ → Proofs → Proofs → Type 0
AgreeFrom n ps qs = (i : ℕ) → n ≤ i → proof_at ps i ≡ proof_at qs i

mutual
  graft-alike : (ps qs : Proofs) (n : ℕ) (p : Proof) → CountUpFrom n (givens_of p) → AgreeFrom n ps qs → graft ps p ≡ graft qs p
  graft-alike ps qs n (by r binds kids) h a = ap (by r binds) (grafts-alike ps qs n kids h a)
  graft-alike ps qs n (given i) h a = ap (λ o. put_for o i) (a i (let e = h.0 in omega arith))

  grafts-alike : (ps qs : Proofs) (n : ℕ) (kids : Proofs) → CountUpFrom n (givens_of_all kids) → AgreeFrom n ps qs → grafts ps kids ≡ grafts qs kids
  grafts-alike ps qs n no_more h a = refl
  grafts-alike ps qs n (p ⊳ kids) h a =
      let e = graft-alike ps qs n p (numbered-front n (givens_of p) (givens_of_all kids) h) a in
      let f = grafts-alike ps qs (n + length (givens_of p)) kids (numbered-back n (givens_of p) (givens_of_all kids) h) (λ i l. a i (omega arith)) in
      cc

-- lists that are the same from a number on
agree-none : (ks : List (Box ProofOf Global)) (n : ℕ) → [] ≡ drop n ks → AgreeFrom n no_more (boxed ks)
agree-none [] n e i l = refl
agree-none (k ∷ ks) (suc n) e zero l = absurd (omega arith)
agree-none (k ∷ ks) (suc n) e (suc i) l = agree-none ks n e i (omega arith)
agree-none (k ∷ ks) zero e i l = absurd (let f = ap length e in omega arith)

agree-from : (n : ℕ) (ks js : List (Box ProofOf Global)) → drop n ks ≡ drop n js → AgreeFrom n (boxed ks) (boxed js)
agree-from zero ks js e i l = ap (λ (x : List (Box ProofOf Global)). proof_at (boxed x) i) e
agree-from (suc n) [] js e i l = agree-none js (suc n) e i l
agree-from (suc n) (k ∷ ks) [] e i l = sym (agree-none (k ∷ ks) (suc n) (sym e) i l)
agree-from (suc n) (k ∷ ks) (j ∷ js) e zero l = absurd (omega arith)
agree-from (suc n) (k ∷ ks) (j ∷ js) e (suc i) l = agree-from n ks js e i (omega arith)

-- the views of boxed proofs
abbrev pub views : List (Box ProofOf Global) → List Proof
views ps = map (λ p. proof p.value) ps

-- what stands in the place of the parts
grafts-row : (ks : Proofs) (ps : List Proof) → grafts ks (row_of ps) ≡ row_of (map (graft ks) ps)
grafts-row ks [] = refl
grafts-row ks (p ∷ ps) = ap (λ (x : Proofs). graft ks p ⊳ x) (grafts-row ks ps)

-- the parts up to a place have given way, and those from it on are to
pub record PutSoFar (first : ℕ) (old : List (Box ProofOf Global)) (parts : List (Box ProofOf Global)) (i after : ℕ) (now : List (Box ProofOf Global)) (made : List (Box ProofOf Global)) : Type 0 where
  pub numbered : CountUpFrom after (givens_of_all (boxed (drop i parts)))
  pub room : after + length (givens_of_all (boxed (drop i parts))) ≡ first + length (givens_of_all (boxed parts))
  pub rest : drop after now ≡ drop after old
  pub made_are : views (take i made) ++ map (graft (boxed old)) (views (drop i parts)) ≡ map (graft (boxed old)) (views parts)
  pub later : drop i made ≡ drop i parts
  pub many : length made ≡ length parts
  pub kept : length now ≡ length old

-- at the first part
pub put-none : (first : ℕ) (old parts : List (Box ProofOf Global)) → CountUpFrom first (givens_of_all (boxed parts)) → PutSoFar first old parts 0 first old parts
put-none first old parts h = record { numbered = h; room = refl; rest = refl; made_are = refl; later = refl; many = refl; kept = refl }

-- the element at a place begins what is left from there
drop-at : (xs : List (Box ProofOf Global)) (i : ℕ) (k : Box ProofOf Global) → i < length xs → k ≡ get_or xs i k → drop i xs ≡ k ∷ drop (i + 1) xs
drop-at [] i k l e = absurd (omega arith)
drop-at (x ∷ xs) zero k l e = ap (λ (y : Box ProofOf Global). y ∷ xs) (sym e)
drop-at (x ∷ xs) (suc i) k l e = let n : suc i + 1 ≡ suc (i + 1) = omega arith in rw n (drop-at xs i k (omega arith) e)

drop-later : (n d : ℕ) (xs ys : List (Box ProofOf Global)) → drop n xs ≡ drop n ys → drop (n + d) xs ≡ drop (n + d) ys
drop-later n d xs ys e = sym (drop-drop d n xs) ∙ ap (drop d) e ∙ drop-drop d n ys

most-from : (i : ℕ) (xs : List (Box ProofOf Global)) → most_height (boxed (drop i xs)) ≤ most_height (boxed xs)
most-from zero xs = omega arith
most-from (suc i) [] = omega arith
most-from (suc i) (x ∷ xs) = let h = most-from i xs in omega arith

module _ (first : ℕ) (old parts : List (Box ProofOf Global)) (i after : ℕ) (now made : List (Box ProofOf Global)) (so : PutSoFar first old parts i after now made) (k : Box ProofOf Global) (p : ProofOf) (within : i < length made) (at : k ≡ get_or made i k) (is : p ≡ k.value) where
  -- what is left begins with the part at the place
  here : drop i parts ≡ k ∷ drop (i + 1) parts
  here =
      let a = drop-at made i k within at in
      let b : drop (i + 1) made ≡ drop (i + 1) parts = drop-later i 1 made parts so.later in
      sym so.later ∙ a ∙ ap (λ (xs : List (Box ProofOf Global)). k ∷ xs) b

  boxed-here : boxed (drop i parts) ≡ proof p ⊳ boxed (drop (i + 1) parts)
  boxed-here = ap boxed here ∙ ap (λ (x : ProofOf). proof x ⊳ boxed (drop (i + 1) parts)) (sym is)

  numbered-here : CountUpFrom after (givens_of (proof p) ++ givens_of_all (boxed (drop (i + 1) parts)))
  numbered-here = subst (λ (x : Proofs). CountUpFrom after (givens_of_all x)) boxed-here so.numbered

  room-here : after + (length (givens_of (proof p)) + length (givens_of_all (boxed (drop (i + 1) parts)))) ≡ first + length (givens_of_all (boxed parts))
  room-here =
      let a = length-both (givens_of (proof p)) (givens_of_all (boxed (drop (i + 1) parts))) in
      let b = ap (λ (x : Proofs). length (givens_of_all x)) boxed-here in
      let r = so.room in omega arith

  -- the part may give way
  pub put-height : height_of (proof p) ≤ most_height (boxed parts)
  put-height =
      let a = most-from i parts in
      let b = ap most_height boxed-here in omega arith

  pub put-numbered : CountUpFrom after (givens_of (proof p))
  put-numbered = numbered-front after (givens_of (proof p)) (givens_of_all (boxed (drop (i + 1) parts))) numbered-here

  pub put-room : first + length (givens_of_all (boxed parts)) ≤ length old → after + length (givens_of (proof p)) ≤ length now
  put-room h =
      let r = room-here in
      let s = so.kept in omega arith

  -- and then those after it are to
  pub put-step : (more : ℕ) (new : List (Box ProofOf Global)) (a b : Box ProofOf Global) → proof b.value ≡ graft (boxed now) (proof p) → more ≡ after + length (givens_of (proof p)) →
      drop more new ≡ drop more now → length new ≡ length now → PutSoFar first old parts (i + 1) more new (set (set made i a) i b)
  put-step more new a b e m r l = record {
    numbered = subst (λ (n : ℕ). CountUpFrom n (givens_of_all (boxed (drop (i + 1) parts)))) (sym m) (numbered-back after (givens_of (proof p)) (givens_of_all (boxed (drop (i + 1) parts))) numbered-here);
    room = let x = room-here in omega arith;
    rest = r ∙ subst (λ (n : ℕ). drop n now ≡ drop n old) (sym m) (drop-later after (length (givens_of (proof p))) now old so.rest);
    made_are =
        let same : graft (boxed now) (proof p) ≡ graft (boxed old) (proof p) = graft-alike (boxed now) (boxed old) after (proof p) put-numbered (agree-from after now old so.rest) in
        let t : take (i + 1) (set (set made i a) i b) ≡ take i made ++ b ∷ [] =
        take_more_set (set made i a) i b (let z = length-set made i a in omega arith) ∙ ap (λ (xs : List (Box ProofOf Global)). xs ++ b ∷ []) (take-set made i a) in
        let left : views (take (i + 1) (set (set made i a) i b)) ≡ views (take i made) ++ graft (boxed old) (proof p) ∷ [] =
        ap views t ∙ map-append (λ x. proof x.value) (take i made) (b ∷ []) ∙ ap (λ (x : Proof). views (take i made) ++ x ∷ []) (e ∙ same) in
        let right : map (graft (boxed old)) (views (drop i parts)) ≡ graft (boxed old) (proof p) ∷ map (graft (boxed old)) (views (drop (i + 1) parts)) =
        ap (λ (xs : List (Box ProofOf Global)). map (graft (boxed old)) (views xs)) here ∙ ap (λ (x : ProofOf). graft (boxed old) (proof x) ∷ map (graft (boxed old)) (views (drop (i + 1) parts))) (sym is) in
        ap (λ (xs : List Proof). xs ++ map (graft (boxed old)) (views (drop (i + 1) parts))) left
        ∙ append_assoc (views (take i made)) (graft (boxed old) (proof p) ∷ []) (map (graft (boxed old)) (views (drop (i + 1) parts)))
        ∙ ap (λ (xs : List Proof). views (take i made) ++ xs) (sym right)
        ∙ so.made_are;
    later =
        drop-set-lt (i + 1) (set made i a) i b (omega arith) ∙ drop-set-lt (i + 1) made i a (omega arith) ∙ drop-later i 1 made parts so.later;
    many = length-set (set made i a) i b ∙ length-set made i a ∙ so.many;
    kept = l ∙ so.kept;
  }

-- past the last part all have given way
take-all : (xs : List (Box ProofOf Global)) (i : ℕ) → length xs ≤ i → take i xs ≡ xs
take-all [] zero l = refl
take-all [] (suc i) l = refl
take-all (x ∷ xs) zero l = absurd (omega arith)
take-all (x ∷ xs) (suc i) l = ap (λ (ys : List (Box ProofOf Global)). x ∷ ys) (take-all xs i (omega arith))

append-none : (ps : List Proof) → ps ++ [] ≡ ps
append-none [] = refl
append-none (p ∷ ps) = ap (λ (qs : List Proof). p ∷ qs) (append-none ps)

module _ (first : ℕ) (old parts : List (Box ProofOf Global)) (i after : ℕ) (now made : List (Box ProofOf Global)) (so : PutSoFar first old parts i after now made) (end : length parts ≤ i) where
  pub put-all : boxed made ≡ grafts (boxed old) (boxed parts)
  put-all =
      let t : take i made ≡ made = take-all made i (let m = so.many in omega arith) in
      let d : drop i parts ≡ [] = drop_all i parts end in
      let e : views made ≡ map (graft (boxed old)) (views parts) =
      sym (append-none (views made)) ∙ sym (ap (λ (xs : List (Box ProofOf Global)). views xs ++ []) t)
      ∙ sym (ap (λ (xs : List (Box ProofOf Global)). views (take i made) ++ map (graft (boxed old)) (views xs)) d) ∙ so.made_are in
      ap row_of e ∙ sym (grafts-row (boxed old) (views parts))

  pub put-next : after ≡ first + length (givens_of_all (boxed parts))
  put-next =
      let d = ap (λ (xs : List (Box ProofOf Global)). length (givens_of_all (boxed xs))) (drop_all i parts end) in
      let r = so.room in omega arith

-- a given gives way
pub put-given : (ks : List (Box ProofOf Global)) (i n : ℕ) (k : Box ProofOf Global) → i ≡ n → n < length ks → k ≡ get_or ks n k → proof k.value ≡ put_for (proof_at (boxed ks) i) i
put-given ks i n k e l at = go ks n l at ∙ ap (λ (m : ℕ). put_for (proof_at (boxed ks) m) m) (sym e)
  where
    found : (js : List (Box ProofOf Global)) (m : ℕ) → m < length js → k ≡ get_or js m k → proof_at (boxed js) m ≡ Some (proof k.value)
    found [] m h g = absurd (omega arith)
    found (j ∷ js) zero h g = ap (λ (x : Box ProofOf Global). Some (proof x.value)) (sym g)
    found (j ∷ js) (suc m) h g = found js m (omega arith) g

    go : (js : List (Box ProofOf Global)) (m : ℕ) → m < length js → k ≡ get_or js m k → proof k.value ≡ put_for (proof_at (boxed js) m) m
    go js m h g = sym (ap (λ o. put_for o m) (found js m h g))

-- a derivation is no deeper than with others in the place of its givens
low : (p : Proof) → 1 ≤ height_of p
low (by r binds kids) = omega arith
low (given i) = omega arith

mutual
  pub height-grafted : (ks : Proofs) (p : Proof) → height_of p ≤ height_of (graft ks p)
  height-grafted ks (by r binds kids) = let h = heights-grafted ks kids in omega arith
  height-grafted ks (given i) = low (put_for (proof_at ks i) i)

  heights-grafted : (ks : Proofs) (ps : Proofs) → most_height ps ≤ most_height (grafts ks ps)
  heights-grafted ks no_more = omega arith
  heights-grafted ks (p ⊳ ps) =
      let a = height-grafted ks p in
      let b = heights-grafted ks ps in omega arith

module _ (p : ProofOf) (rule : ℕ) (binds : Vec Term Global) (kids : Vec (Box ProofOf Global) Global) (is : p ≡ By rule binds kids) (parts : List (Box ProofOf Global)) (same : parts ≡ kids.items) where
  -- the view of a node is that of its parts
  node-is : proof p ≡ by rule (map tree binds.items) (boxed parts)
  node-is = proof-at_by p rule binds kids is ∙ ap (λ (xs : List (Box ProofOf Global)). by rule (map tree binds.items) (boxed xs)) (sym same)

  pub node-shallow : height_of (proof p) ≤ 3000 → most_height (boxed parts) < 3000
  node-shallow h = let a = ap height_of node-is in omega arith

  pub node-less : most_height (boxed parts) < height_of (proof p)
  node-less = let a = ap height_of node-is in omega arith

  pub node-numbered : (n : ℕ) → CountUpFrom n (givens_of (proof p)) → CountUpFrom n (givens_of_all (boxed parts))
  node-numbered n h = subst (λ (x : Proof). CountUpFrom n (givens_of x)) node-is h

  pub node-many : length (givens_of (proof p)) ≡ length (givens_of_all (boxed parts))
  node-many = ap (λ (x : Proof). length (givens_of x)) node-is

  pub node-grafted : (ks : Proofs) (new : Vec (Box ProofOf Global) Global) → boxed new.items ≡ grafts ks (boxed parts) → proof (By rule binds new) ≡ graft ks (proof p)
  node-grafted ks new e = proof-at_by (By rule binds new) rule binds new refl ∙ ap (by rule (map tree binds.items)) e ∙ sym (ap (graft ks) node-is)

-- a given gives way to the kid at its place
pub given-grafted : (p : ProofOf) (i n : ℕ) (ks : List (Box ProofOf Global)) (k : Box ProofOf Global) (q : ProofOf) → p ≡ Given i → CountUpFrom n (givens_of (proof p)) →
    n + length (givens_of (proof p)) ≤ length ks → k ≡ get_or ks n k → q ≡ k.value → proof q ≡ graft (boxed ks) (proof p)
given-grafted p i n ks k q is h m at same =
    let e : proof p ≡ given i = ap proof is in
    let one = ap (λ (x : Proof). length (givens_of x)) e in
    let l : n < length ks = omega arith in
    let f : CountUpFrom n (i ∷ []) = subst (λ (x : Proof). CountUpFrom n (givens_of x)) e h in
    ap proof same ∙ put-given ks i n k f.0 l at ∙ sym (ap (graft (boxed ks)) e)
