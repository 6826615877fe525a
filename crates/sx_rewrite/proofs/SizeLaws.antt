-- What the sizes of certificates say of nodes that are lowered.
use Rattle.std.proofs.Common.{◌≡◌, ℕ, zero, suc, ◌+◌, ◌-◌, ◌*◌, ◌^◌, ◌<◌, ◌≤◌, min, Bool, true, false, ◌||◌, ◌⊎◌, inl, inr, List, [], ◌∷◌, length, drop, get_or, refl, sym, ap, ◌∙◌, arith, if◌then◌else◌}
use Rattle.std.specs.Prelude.{nat_eq, nat_lt}
use Rattle.std.proofs.lemmas.Bool.{ltb-true, ltb-false, lt-ltb, le-ltb}
use Rattle.std.proofs.lemmas.List.{drop_more}
use Rattle.sx_rules.specs.Discipline.{one_when}
use Rattle.sx_rules.specs.Derivations.{Proof, Proofs, by, given, no_more, ◌⊳◌, height_of, most_height}
use Rattle.sx_rewrite.specs.declared.given_use.GivenUse.{GivenUse}
use Rattle.sx_rewrite.specs.Measured.{is_used, is_used_among}
use Rattle.sx_rewrite.specs.Copied.{times_given, times_given_in, copies, used_total}
use Rattle.sx_rewrite.specs.Counts.{own_height, own_height_of, nodes_above, nodes_above_in, sum_of, most_of}
use Rattle.sx_rewrite.specs.Sizes.{in_u128, in_u64, IsUseOf, AreUsesOf, AreGivensNear, used_sum, used_most, used_copies}

either : (a b : ℕ) → (a ≤ b) ⊎ (b < a)
either a b = grind arith

no_times : (n : ℕ) → 0 * n ≡ 0
no_times n = grind arith

more_times : (times n : ℕ) → suc times * n ≡ times * n + n
more_times times n = grind arith

turned : (a b : ℕ) → a * b ≡ b * a
turned a b = grind arith

-- a factor may stay at a number that is no less than that at which the product stays
least-right : (m k s x : ℕ) → m ≤ k → min (s * min x k) m ≡ min (s * x) m
least-right m k zero x l = ap (λ (n : ℕ). min n m) (no_times (min x k) ∙ sym (no_times x))
least-right m k (suc s) x l = go (either x k)
  where
    go : (x ≤ k) ⊎ (k < x) → min (suc s * min x k) m ≡ min (suc s * x) m
    go (inl a) = let e : min x k ≡ x = omega arith in ap (λ (n : ℕ). min (suc s * n) m) e
    go (inr b) =
        let e : min x k ≡ k = omega arith in
        let p = more_times s (min x k) in
        let q = more_times s x in omega arith

least-left : (m k s x : ℕ) → m ≤ k → min (min s k * x) m ≡ min (s * x) m
least-left m k s x l =
    ap (λ (n : ℕ). min n m) (turned (min s k) x) ∙ least-right m k x s l ∙ ap (λ (n : ℕ). min n m) (turned x s)

-- what is counted so far, with a kid
pub kid-nodes : (so_far times n : ℕ) → in_u128 (so_far + in_u128 (times * in_u128 n)) ≡ in_u128 (so_far + times * n)
kid-nodes so_far times n = let e = least-right (2 ^ 128 - 1) (2 ^ 128 - 1) times n (omega arith) in omega (arith, e)

pub kid-copied : (so_far times n c d : ℕ) → in_u64 c ≡ in_u64 d → in_u64 (in_u128 (in_u128 (so_far + in_u128 (times * in_u128 n)) + c)) ≡ in_u64 (so_far + (times * n + d))
kid-copied so_far times n c d f = let e = least-right (2 ^ 64 - 1) (2 ^ 128 - 1) times n (omega arith) in omega (arith, e, f)

-- a given stands where it stands more than 0 times
positive-both : (a b : ℕ) → nat_lt 0 (a + b) ≡ nat_lt 0 a || nat_lt 0 b
positive-both a b = go (nat_lt 0 a) (nat_lt 0 b) refl refl
  where
    go : (x y : Bool) → nat_lt 0 a ≡ x → nat_lt 0 b ≡ y → nat_lt 0 (a + b) ≡ x || y
    go true y e f = let l = ltb-true 0 a e in lt-ltb 0 (a + b) (omega (arith, l))
    go false true e f = let l = ltb-true 0 b f in lt-ltb 0 (a + b) (omega (arith, l))
    go false false e f =
        let l = ltb-false 0 a e in
        let m = ltb-false 0 b f in le-ltb 0 (a + b) (omega (arith, l, m))

positive-one : (b : Bool) → nat_lt 0 (one_when b) ≡ b
positive-one true = refl
positive-one false = refl

mutual
  pub stands-times : (i : ℕ) (p : Proof) → nat_lt 0 (times_given i p) ≡ is_used i p
  stands-times i (by r binds kids) = stand-times i kids
  stands-times i (given j) = positive-one (nat_eq i j)

  pub stand-times : (i : ℕ) (ps : Proofs) → nat_lt 0 (times_given_in i ps) ≡ is_used_among i ps
  stand-times i no_more = refl
  stand-times i (p ⊳ ps) =
      let a = stands-times i p in
      let b = stand-times i ps in
      positive-both (times_given i p) (times_given_in i ps) ∙ (λ k. a k || b k)

positive-least : (n : ℕ) → nat_lt 0 (in_u128 n) ≡ nat_lt 0 n
positive-least n = go (nat_lt 0 n) refl
  where
    go : (x : Bool) → nat_lt 0 n ≡ x → nat_lt 0 (in_u128 n) ≡ x
    go true e = let l = ltb-true 0 n e in lt-ltb 0 (in_u128 n) (omega (arith, l))
    go false e = let l = ltb-false 0 n e in le-ltb 0 (in_u128 n) (omega (arith, l))

-- what does not stand stands 0 times
pub none-positive : (n : ℕ) (b : Bool) → nat_lt 0 n ≡ b → b ≡ false → n ≡ 0
none-positive n b e f = let l = ltb-false 0 n (e ∙ f) in omega (arith, l)

pub use-stands : (i : ℕ) (p : Proof) (u : GivenUse) → IsUseOf i p u → nat_lt 0 u.times ≡ is_used i p
use-stands i p u h = ap (nat_lt 0) h.0 ∙ positive-least (times_given i p) ∙ stands-times i p

-- the numbers by the uses that are kept
pub used-nodes : (i : ℕ) (p : Proof) (us : List GivenUse) (ns : List ℕ) → AreUsesOf i p us → length ns ≡ length us → in_u128 (used_sum us ns) ≡ in_u128 (sum_of (λ j. times_given j p) i ns)
used-nodes i p [] [] h e = refl
used-nodes i p [] (n ∷ ns) h e = absurd (omega (arith, e))
used-nodes i p (u ∷ us) [] h e = absurd (omega (arith, e))
used-nodes i p (u ∷ us) (n ∷ ns) h e =
    let a = ap (λ (t : ℕ). in_u128 (t * n)) h.0.0 ∙ least-left (2 ^ 128 - 1) (2 ^ 128 - 1) (times_given i p) n (omega arith) in
    let b = used-nodes (i + 1) p us ns h.1 (omega (arith, e)) in omega (arith, a, b)

higher : (b c : Bool) (u v h : ℕ) → b ≡ c → u ≡ (if c then v else 0) → (if b then u + h else 0) ≡ (if c then v + h else 0)
higher true true u v h e f = omega (arith, f)
higher false false u v h e f = refl
higher true false u v h e f = absurd (let q : true ≡ false = e in cc)
higher false true u v h e f = absurd (let q : false ≡ true = e in cc)

pub used-height : (i : ℕ) (p : Proof) (us : List GivenUse) (hs : List ℕ) → AreUsesOf i p us → length hs ≡ length us → used_most us hs ≡ most_of (λ j. is_used j p) (λ j. nodes_above j p) i hs
used-height i p [] [] h e = refl
used-height i p [] (n ∷ ns) h e = absurd (omega (arith, e))
used-height i p (u ∷ us) [] h e = absurd (omega (arith, e))
used-height i p (u ∷ us) (n ∷ hs) h e =
    let a = higher (nat_lt 0 u.times) (is_used i p) u.above (nodes_above i p) n (use-stands i p u h.0) h.0.1 in
    let b = used-height (i + 1) p us hs h.1 (omega (arith, e)) in omega (arith, a, b)

less-one : (t : ℕ) → in_u128 t - 1 ≡ min (t - 1) (2 ^ 128 - 2)
less-one t = omega arith

pub used-copied : (i : ℕ) (p : Proof) (us : List GivenUse) (ns cs : List ℕ) → AreUsesOf i p us → length ns ≡ length us → length cs ≡ length us →
    in_u64 (used_copies us ns cs) ≡ in_u64 (copies p i ns + used_total p i cs)
used-copied i p [] [] [] h e f = refl
used-copied i p [] [] (c ∷ cs) h e f = absurd (omega (arith, f))
used-copied i p [] (n ∷ ns) cs h e f = absurd (omega (arith, e))
used-copied i p (u ∷ us) [] cs h e f = absurd (omega (arith, e))
used-copied i p (u ∷ us) (n ∷ ns) [] h e f = absurd (omega (arith, f))
used-copied i p (u ∷ us) (n ∷ ns) (c ∷ cs) h e f =
    let t = ap (λ (x : ℕ). x - 1) h.0.0 ∙ less-one (times_given i p) in
    let a = ap (λ (x : ℕ). in_u64 (x * n)) t ∙ least-left (2 ^ 64 - 1) (2 ^ 128 - 2) (times_given i p - 1) n (omega arith) in
    let b = ap (λ (x : Bool). if x then c else 0) (use-stands i p u h.0) in
    let g = used-copied (i + 1) p us ns cs h.1 (omega (arith, e)) (omega (arith, f)) in omega (arith, a, b, g)

-- a proof's own nodes are no more, and its own height is no more, than with its givens
mutual
  pub own_height-within : (p : Proof) → own_height p ≤ height_of p
  own_height-within (by r binds kids) = let h = all_own_height-within kids in omega (arith, h)
  own_height-within (given i) = omega arith

  pub all_own_height-within : (ps : Proofs) → own_height_of ps ≤ most_height ps
  all_own_height-within no_more = omega arith
  all_own_height-within (p ⊳ ps) =
      let a = own_height-within p in
      let b = all_own_height-within ps in omega (arith, a, b)

either-within : (b : Bool) (x m : ℕ) → x ≤ m → (if b then x else 0) ≤ m
either-within true x m h = h
either-within false x m h = omega arith

mutual
  above-within : (i : ℕ) (p : Proof) → nodes_above i p ≤ height_of p
  above-within i (by r binds kids) = let h = all_above-within i kids in omega (arith, h)
  above-within i (given j) = omega arith

  all_above-within : (i : ℕ) (ps : Proofs) → nodes_above_in i ps ≤ most_height ps
  all_above-within i no_more = omega arith
  all_above-within i (p ⊳ ps) =
      let a = either-within (is_used i p) (nodes_above i p) (height_of p) (above-within i p) in
      let b = all_above-within i ps in omega (arith, a, b)

pub uses-near : (i : ℕ) (p : Proof) (us : List GivenUse) → height_of p ≤ 3000 → AreUsesOf i p us → AreGivensNear us
uses-near i p [] l h = tt
uses-near i p (u ∷ us) l h =
    let a = either-within (is_used i p) (nodes_above i p) (height_of p) (above-within i p) in
    let b = h.0.1 in
    ((omega (arith, a, b, l)), uses-near (i + 1) p us l h.1)

-- the use at a place
pub near-at : (us : List GivenUse) (i : ℕ) (u : GivenUse) → i < length us → u ≡ get_or us i u → AreGivensNear us → u.above ≤ 3000
near-at [] i u l e h = absurd (omega (arith, l))
near-at (x ∷ us) zero u l e h = let q = ap (λ (y : GivenUse). y.above) e in let k = h.0 in omega (arith, q, k)
near-at (x ∷ us) (suc i) u l e h = near-at us i u (omega (arith, l)) e h.1

pub uses-drop : (us : List GivenUse) (i : ℕ) (u : GivenUse) → i < length us → u ≡ get_or us i u → drop i us ≡ u ∷ drop (i + 1) us
uses-drop us i u l e = drop_more us i u l ∙ ap (λ (x : GivenUse). x ∷ drop (i + 1) us) (sym e)
