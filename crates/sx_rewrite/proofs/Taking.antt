-- Kids that are taken one after another.
use Rattle.std.proofs.Common.{◌≡◌, arith, ℕ, zero, suc, ◌+◌, ◌-◌, ◌<◌, ◌≤◌, Bool, true, false, drop, set, get_or, length, List, [], ◌∷◌, ◌++◌, Box, Option, Some, ◌⊎◌, inl, inr, refl, sym, ap, ◌∙◌, subst}
use Rattle.std.specs.Prelude.{nat_eq, Result, Ok, Err, IfOk}
use Rattle.std.specs.declared.alloc.Global.{Global}
use Rattle.std.proofs.lemmas.Bool.{eq-eqb, eqb-true}
use Rattle.std.proofs.lemmas.List.{map-append, length-set, get_or-set_same, get_or-set_other}
use Rattle.sx_rules.specs.declared.proof.Proof.{Proof as ProofOf, Given}
use Rattle.sx_rules.specs.Discipline.{one_when}
use Rattle.sx_rules.specs.Derivations.{Proof, Proofs, no_more, ◌⊳◌, proof_at, put_for, height_of}
use Rattle.sx_rules.specs.Derivations.{most_height, HasShallowBinds, HaveShallowBinds}
use Rattle.sx_rules.specs.ProofView.{proof, row_of, boxed}
use Rattle.sx_rewrite.specs.Givens.{placed_at, number_times, NumbersBelow}
use Rattle.sx_rewrite.specs.Taken.{IsPlaceTaken}
use Rattle.sx_rewrite.proofs.Grafted.{views}

-- numbers from a place on
numbers-from : (xs : List ℕ) (i x : ℕ) → i < length xs → x ≡ get_or xs i x → drop i xs ≡ x ∷ drop (i + 1) xs
numbers-from [] i x l e = absurd (omega (arith, l))
numbers-from (y ∷ xs) zero x l e = ap (λ (z : ℕ). z ∷ xs) (sym e)
numbers-from (y ∷ xs) (suc i) x l e = let n : suc i + 1 ≡ suc (i + 1) = omega arith in rw n (numbers-from xs i x (omega (arith, l)) e)

numbers-end : (xs : List ℕ) (i : ℕ) → length xs ≤ i → drop i xs ≡ []
numbers-end [] zero l = refl
numbers-end [] (suc i) l = refl
numbers-end (x ∷ xs) zero l = absurd (omega (arith, l))
numbers-end (x ∷ xs) (suc i) l = numbers-end xs i (omega (arith, l))

-- a number that is read, with whatever would be read past the end
pub read-at : (xs : List ℕ) (i d : ℕ) → i < length xs → get_or xs i d ≡ get_or xs i (get_or xs i d)
read-at [] i d l = absurd (omega (arith, l))
read-at (x ∷ xs) zero d l = refl
read-at (x ∷ xs) (suc i) d l = read-at xs i d (omega (arith, l))

pub read-any : (xs : List ℕ) (i d e : ℕ) → i < length xs → get_or xs i d ≡ get_or xs i e
read-any [] i d e l = absurd (omega (arith, l))
read-any (x ∷ xs) zero d e l = refl
read-any (x ∷ xs) (suc i) d e l = read-any xs i d e (omega (arith, l))

pub below-at : (n : ℕ) (xs : List ℕ) (i x : ℕ) → NumbersBelow n xs → i < length xs → x ≡ get_or xs i x → x < n
below-at n [] i x h l e = absurd (omega (arith, l))
below-at n (y ∷ xs) zero x h l e = let a = h.0 in omega (arith, a, e)
below-at n (y ∷ xs) (suc i) x h l e = below-at n xs i x h.1 (omega (arith, l)) e

differ-eqb : (i j : ℕ) → (i ≡ j → ⊥) → nat_eq i j ≡ false
differ-eqb i j h = go (nat_eq i j) refl
  where
    go : (b : Bool) → nat_eq i j ≡ b → nat_eq i j ≡ false
    go true e = absurd (h (eqb-true i j e))
    go false e = e

times-same : (i : ℕ) (xs : List ℕ) → number_times i (i ∷ xs) ≡ 1 + number_times i xs
times-same i xs = ap (λ (b : Bool). one_when b + number_times i xs) (eq-eqb i i refl)

times-other : (i j : ℕ) (xs : List ℕ) → (i ≡ j → ⊥) → number_times i (j ∷ xs) ≡ number_times i xs
times-other i j xs h = let e = ap (λ (b : Bool). one_when b + number_times i xs) (differ-eqb i j h) in omega (arith, e)

either : (i j : ℕ) → (i ≡ j) ⊎ (i ≡ j → ⊥)
either i j = go (nat_eq i j) refl
  where
    go : (b : Bool) → nat_eq i j ≡ b → (i ≡ j) ⊎ (i ≡ j → ⊥)
    go true e = inl (eqb-true i j e)
    go false e = inr (λ f. let t = eq-eqb i j f in let c : true ≡ false = sym t ∙ e in cc)

-- the places up to one are counted
pub record CountedTo (many : ℕ) (givens : List ℕ) (i : ℕ) (left : List ℕ) : Type 0 where
  pub many_are : length left ≡ many
  pub times : (g : ℕ) → g < many → get_or left g 0 + number_times g (drop i givens) ≡ number_times g givens
  pub few : (g : ℕ) → g < many → get_or left g 0 ≤ i

pub counted-step : (many : ℕ) (givens : List ℕ) (i : ℕ) (left : List ℕ) (j n : ℕ) → CountedTo many givens i left → i < length givens → j ≡ get_or givens i j → j < many → n ≡ get_or left j 0 + 1 →
    CountedTo many givens (i + 1) (set left j n)
counted-step many givens i left j n so l e b is = record {
  many_are = length-set left j n ∙ so.many_are;
  times = λ g w. times g w (either g j);
  few = λ g w. few g w (either g j);
}
  where
    within : j < length left
    within = let m = so.many_are in omega (arith, m, b)

    times : (g : ℕ) → g < many → (g ≡ j) ⊎ (g ≡ j → ⊥) → get_or (set left j n) g 0 + number_times g (drop (i + 1) givens) ≡ number_times g givens
    times g w (inl same) =
        let a : get_or (set left j n) g 0 ≡ n = ap (λ (x : ℕ). get_or (set left j n) x 0) same ∙ get_or-set_same left j n 0 within in
        let c = ap (number_times g) (numbers-from givens i j l e) in
        let d : number_times g (j ∷ drop (i + 1) givens) ≡ 1 + number_times g (drop (i + 1) givens) =
        subst (λ (x : ℕ). number_times g (x ∷ drop (i + 1) givens) ≡ 1 + number_times g (drop (i + 1) givens)) same (times-same g (drop (i + 1) givens)) in
        let t = so.times g w in
        let k = ap (λ (x : ℕ). get_or left x 0) same in omega (arith, a, c, d, t, is, k)
    times g w (inr other) =
        let a = get_or-set_other left j g n 0 other in
        let c = ap (number_times g) (numbers-from givens i j l e) in
        let d = times-other g j (drop (i + 1) givens) other in
        let t = so.times g w in omega (arith, a, c, d, t)

    few : (g : ℕ) → g < many → (g ≡ j) ⊎ (g ≡ j → ⊥) → get_or (set left j n) g 0 ≤ i + 1
    few g w (inl same) =
        let a : get_or (set left j n) g 0 ≡ n = ap (λ (x : ℕ). get_or (set left j n) x 0) same ∙ get_or-set_same left j n 0 within in
        let f = so.few g w in
        let k = ap (λ (x : ℕ). get_or left x 0) same in omega (arith, a, f, is, k)
    few g w (inr other) =
        let a = get_or-set_other left j g n 0 other in
        let f = so.few g w in omega (arith, a, f)

pub counted-all : (many : ℕ) (givens : List ℕ) (i : ℕ) (left : List ℕ) → CountedTo many givens i left → length givens ≤ i → (g : ℕ) → g < many → get_or left g 0 ≡ number_times g givens
counted-all many givens i left so l g w =
    let t = so.times g w in
    let e = ap (number_times g) (numbers-end givens i l) in omega (arith, t, e)

-- proofs after a list of them
abbrev after : List Proof → Proofs → Proofs
after [] qs = qs
after (p ∷ ps) qs = p ⊳ after ps qs

after-one : (ps : List Proof) (p : Proof) (qs : Proofs) → after (ps ++ p ∷ []) qs ≡ after ps (p ⊳ qs)
after-one [] p qs = refl
after-one (x ∷ ps) p qs = ap (λ (r : Proofs). x ⊳ r) (after-one ps p qs)

after-none : (ps : List Proof) → after ps no_more ≡ row_of ps
after-none [] = refl
after-none (p ∷ ps) = ap (λ (r : Proofs). p ⊳ r) (after-none ps)

-- the kids up to a place are taken
pub record TakenTo (givens : List ℕ) (i : ℕ) (old now : List (Box ProofOf Global)) (left : List ℕ) (made : List (Box ProofOf Global)) : Type 0 where
  pub left_many : length left ≡ length now
  pub kids_many : length now ≡ length old
  pub times : (g : ℕ) → g < length now → get_or left g 0 ≡ number_times g (drop i givens)
  pub kept : (g : ℕ) → 0 < get_or left g 0 → proof_at (boxed now) g ≡ proof_at (boxed old) g
  pub made_are : after (views made) (placed_at (boxed old) (drop i givens)) ≡ placed_at (boxed old) givens
  pub height : most_height (boxed now) ≤ 3000
  pub binds : HaveShallowBinds (boxed now)

module _ (givens : List ℕ) (i : ℕ) (old now : List (Box ProofOf Global)) (left : List ℕ) (made : List (Box ProofOf Global)) (so : TakenTo givens i old now left made)
    (j : ℕ) (l : i < length givens) (e : j ≡ get_or givens i j) (b : NumbersBelow (length old) givens) where
  from : drop i givens ≡ j ∷ drop (i + 1) givens
  from = numbers-from givens i j l e

  pub taken-within : j < length now
  taken-within = let w = below-at (length old) givens i j b l e in let m = so.kids_many in omega (arith, w, m)

  pub taken-some : 0 < get_or left j 0
  taken-some =
      let t = so.times j taken-within in
      let c = ap (number_times j) from in
      let d = times-same j (drop (i + 1) givens) in omega (arith, t, c, d)

  pub taken-step : (then : List ℕ) (new : List (Box ProofOf Global)) (kid : Box ProofOf Global) → IsPlaceTaken j left then now new → Some (proof kid.value) ≡ proof_at (boxed now) j →
      TakenTo givens (i + 1) old new then (made ++ kid ∷ [])
  taken-step then new kid t k = record {
    left_many = t.left_many ∙ so.left_many ∙ sym t.kids_many;
    kids_many = t.kids_many ∙ so.kids_many;
    times = λ g w. times g (let m = t.kids_many in omega (arith, w, m)) (either g j);
    kept = λ g w. t.kept g w ∙ so.kept g (some g w (either g j));
    made_are =
        let is : put_for (proof_at (boxed old) j) j ≡ proof kid.value = sym (ap (λ (o : Option Proof). put_for o j) (k ∙ so.kept j taken-some)) in
        ap (λ (xs : List Proof). after xs (placed_at (boxed old) (drop (i + 1) givens))) (map-append (λ x. proof x.value) made (kid ∷ []))
        ∙ after-one (views made) (proof kid.value) (placed_at (boxed old) (drop (i + 1) givens))
        ∙ sym (ap (λ (x : Proof). after (views made) (x ⊳ placed_at (boxed old) (drop (i + 1) givens))) is)
        ∙ sym (ap (λ (xs : List ℕ). after (views made) (placed_at (boxed old) xs)) from)
        ∙ so.made_are;
    height = t.height;
    binds = t.binds;
  }
    where
      times : (g : ℕ) → g < length now → (g ≡ j) ⊎ (g ≡ j → ⊥) → get_or then g 0 ≡ number_times g (drop (i + 1) givens)
      times g w (inl same) =
          let a = so.times j taken-within in
          let c = ap (number_times j) from in
          let d = times-same j (drop (i + 1) givens) in
          let m = t.less in
          let r : get_or then j 0 ≡ number_times j (drop (i + 1) givens) = omega (arith, a, c, d, m) in
          subst (λ (x : ℕ). get_or then x 0 ≡ number_times x (drop (i + 1) givens)) (sym same) r
      times g w (inr other) =
          let a = so.times g w in
          let c = ap (number_times g) from in
          let d = times-other g j (drop (i + 1) givens) other in
          let m = t.others g other in omega (arith, a, c, d, m)

      some : (g : ℕ) → 0 < get_or then g 0 → (g ≡ j) ⊎ (g ≡ j → ⊥) → 0 < get_or left g 0
      some g w (inl same) = subst (λ (x : ℕ). 0 < get_or left x 0) (sym same) taken-some
      some g w (inr other) = let m = t.others g other in omega (arith, m, w)

pub taken-all : (givens : List ℕ) (i : ℕ) (old now : List (Box ProofOf Global)) (left : List ℕ) (made : List (Box ProofOf Global)) → TakenTo givens i old now left made → length givens ≤ i →
    boxed made ≡ placed_at (boxed old) givens
taken-all givens i old now left made so l =
    sym (after-none (views made)) ∙ sym (ap (λ (xs : List ℕ). after (views made) (placed_at (boxed old) xs)) (numbers-end givens i l)) ∙ so.made_are

-- one kid is taken
found : (ks : List (Box ProofOf Global)) (n : ℕ) (k : Box ProofOf Global) → n < length ks → k ≡ get_or ks n k → proof_at (boxed ks) n ≡ Some (proof k.value)
found [] n k l e = absurd (omega (arith, l))
found (x ∷ ks) zero k l e = ap (λ (y : Box ProofOf Global). let o : Option Proof = Some (proof y.value) in o) (sym e)
found (x ∷ ks) (suc n) k l e = found ks n k (omega (arith, l)) e

pub kid-found : (ks : List (Box ProofOf Global)) (n : ℕ) (k : Box ProofOf Global) (p : ProofOf) → n < length ks → k ≡ get_or ks n k → p ≡ k.value → Some (proof p) ≡ proof_at (boxed ks) n
kid-found ks n k p l e is = ap (λ (x : ProofOf). let o : Option Proof = Some (proof x) in o) is ∙ sym (found ks n k l e)

pub kid-found-ok : {E : Type 0} (r : Result (Box ProofOf Global) E) (ks : List (Box ProofOf Global)) (n : ℕ) (k : Box ProofOf Global) (p : ProofOf) → n < length ks → k ≡ get_or ks n k → p ≡ k.value →
    IfOk r (λ x. proof x.value ≡ proof p) → IfOk r (λ x. Some (proof x.value) ≡ proof_at (boxed ks) n)
kid-found-ok (Ok x) ks n k p l e is h = ap (λ (y : Proof). let o : Option Proof = Some y in o) h ∙ kid-found ks n k p l e is
kid-found-ok (Err x) ks n k p l e is h = tt

pub kid-low : (ks : List (Box ProofOf Global)) (n : ℕ) (k : Box ProofOf Global) (p : ProofOf) → n < length ks → k ≡ get_or ks n k → p ≡ k.value → most_height (boxed ks) ≤ 3000 → height_of (proof p) ≤ 3000
kid-low [] n k p l e is h = absurd (omega (arith, l))
kid-low (x ∷ ks) zero k p l e is h =
    let a = ap (λ (y : Box ProofOf Global). height_of (proof y.value)) e in
    let b = ap (λ (y : ProofOf). height_of (proof y)) is in omega (arith, a, b, h)
kid-low (x ∷ ks) (suc n) k p l e is h = kid-low ks n k p (omega (arith, l)) e is (omega (arith, h))

shallow-at : (ks : List (Box ProofOf Global)) (n : ℕ) (k : Box ProofOf Global) → HaveShallowBinds (boxed ks) → n < length ks → k ≡ get_or ks n k → HasShallowBinds (proof k.value)
shallow-at [] n k h l e = absurd (omega (arith, l))
shallow-at (x ∷ ks) zero k h l e = subst (λ (y : Box ProofOf Global). HasShallowBinds (proof y.value)) (sym e) h.0
shallow-at (x ∷ ks) (suc n) k h l e = shallow-at ks n k h.1 (omega (arith, l)) e

pub kid-shallow : (ks : List (Box ProofOf Global)) (n : ℕ) (k : Box ProofOf Global) (p : ProofOf) → n < length ks → k ≡ get_or ks n k → p ≡ k.value → HaveShallowBinds (boxed ks) → HasShallowBinds (proof p)
kid-shallow ks n k p l e is h = subst (λ (x : ProofOf). HasShallowBinds (proof x)) (sym is) (shallow-at ks n k h l e)

other-at : (ks : List (Box ProofOf Global)) (n g : ℕ) (k : Box ProofOf Global) → (g ≡ n → ⊥) → proof_at (boxed (set ks n k)) g ≡ proof_at (boxed ks) g
other-at [] n g k h = refl
other-at (x ∷ ks) zero zero k h = absurd (h refl)
other-at (x ∷ ks) zero (suc g) k h = refl
other-at (x ∷ ks) (suc n) zero k h = refl
other-at (x ∷ ks) (suc n) (suc g) k h = other-at ks n g k (λ e. h (ap suc e))

set-low : (ks : List (Box ProofOf Global)) (n : ℕ) (k : Box ProofOf Global) → height_of (proof k.value) ≤ 3000 → most_height (boxed ks) ≤ 3000 → most_height (boxed (set ks n k)) ≤ 3000
set-low [] n k a h = h
set-low (x ∷ ks) zero k a h = omega (arith, a, h)
set-low (x ∷ ks) (suc n) k a h = let r = set-low ks n k a (omega (arith, h)) in omega (arith, h, r)

set-shallow : (ks : List (Box ProofOf Global)) (n : ℕ) (k : Box ProofOf Global) → HasShallowBinds (proof k.value) → HaveShallowBinds (boxed ks) → HaveShallowBinds (boxed (set ks n k))
set-shallow [] n k a h = h
set-shallow (x ∷ ks) zero k a h = (a, h.1)
set-shallow (x ∷ ks) (suc n) k a h = (h.0, set-shallow ks n k a h.1)

module _ (number : ℕ) (left : List ℕ) (kids : List (Box ProofOf Global)) (n : ℕ) (within : number < length left) (some : 0 < get_or left number 0) (is : n ≡ get_or left number 0 - 1)
    (height : most_height (boxed kids) ≤ 3000) (binds : HaveShallowBinds (boxed kids)) where
  pub take-copied : IsPlaceTaken number left (set left number n) kids kids
  take-copied = record {
    less = let s = get_or-set_same left number n 0 within in omega (arith, s, some, is);
    others = λ g other. get_or-set_other left number g n 0 other;
    left_many = length-set left number n;
    kids_many = refl;
    kept = λ g w. refl;
    height = height;
    binds = binds;
  }

  pub take-moved : (k : Box ProofOf Global) (i : ℕ) → k.value ≡ Given i → n ≡ 0 → IsPlaceTaken number left (set left number n) kids (set kids number k)
  take-moved k i e none = record {
    less = let s = get_or-set_same left number n 0 within in omega (arith, s, some, is);
    others = λ g other. get_or-set_other left number g n 0 other;
    left_many = length-set left number n;
    kids_many = length-set kids number k;
    kept = λ g w. other-at kids number g k
        (λ same. let s = get_or-set_same left number n 0 within in let a = ap (λ (x : ℕ). get_or (set left number n) x 0) same in absurd (omega (arith, s, a, w, none)));
    height = set-low kids number k (let a = ap (λ (x : ProofOf). height_of (proof x)) e in omega (arith, a)) height;
    binds = set-shallow kids number k (subst (λ (x : ProofOf). HasShallowBinds (proof x)) (sym e) tt) binds;
  }
