-- What a walk over a certificate notes.
use Rattle.std.proofs.Common.{◌≡◌, ℕ, zero, suc, ◌+◌, ◌<◌, ◌≤◌, max, Bool, true, false, ◌||◌, List, [], ◌∷◌, ◌++◌, length, set, get_or, map, drop, Box, Vec, refl, sym, ap, ◌∙◌, subst, arith, if◌then◌else◌}
use Rattle.std.specs.Prelude.{nat_eq, nat_lt}
use Rattle.std.specs.declared.alloc.Global.{Global}
use Rattle.std.proofs.lemmas.Bool.{eqb-true, eq-eqb}
use Rattle.std.proofs.lemmas.List.{at_drop_more, drop_all}
use Rattle.sx_rules.specs.Discipline.{one_when}
use Rattle.sx_rules.specs.declared.proof.Proof.{Proof as ProofOf, By}
use Rattle.sx_term.specs.declared.term.Term.{Term}
use Rattle.sx_term.specs.Term.{tree}
use Rattle.sx_rules.specs.declared.rule.Premise.{Premise}
use Rattle.sx_rules.specs.declared.rule.Premise.TheVariants.{Holds, Apart}
use Rattle.sx_rules.specs.declared.rule.Judgement.{Judgement}
use Rattle.sx_rules.specs.Rules.{judgements_of}
use Rattle.sx_rules.specs.Views.{premise}
use Rattle.sx_rules.specs.Derivations.{Proof, Proofs, by, given, no_more, ◌⊳◌, height_of}
use Rattle.sx_rules.specs.Derivations.{most_height}
use Rattle.sx_rules.specs.ProofView.{proof, boxed}
use Rattle.sx_rules.proofs.ProofRows.{proof-at_by}
use Rattle.sx_rewrite.specs.declared.given_use.GivenUse.{GivenUse}
use Rattle.sx_rewrite.specs.Measured.{is_used, is_used_among}
use Rattle.sx_rewrite.specs.Copied.{times_given, times_given_in}
use Rattle.sx_rewrite.specs.Counts.{own_nodes, own_nodes_of, own_height, own_height_of, nodes_above}
use Rattle.sx_rewrite.specs.Counts.{nodes_above_in}
use Rattle.sx_rewrite.specs.Sizes.{in_u128, unused_givens, noted_givens, AreUsesOf}
use Rattle.sx_rewrite.proofs.Summed.{nothing-above}
use Rattle.sx_rewrite.proofs.SizeLaws.{stands-times, stand-times, none-positive}

-- the uses with those in the proofs, and in a proof
abbrev pub noted_in : Proofs → ℕ → ℕ → List GivenUse → List GivenUse
noted_in ps over i us = noted_givens (λ j. times_given_in j ps) (λ j. is_used_among j ps) (λ j. nodes_above_in j ps) over i us

abbrev pub noted_by : Proof → ℕ → ℕ → List GivenUse → List GivenUse
noted_by p over i us = noted_givens (λ j. times_given j p) (λ j. is_used j p) (λ j. nodes_above j p) over i us

-- no proofs use nothing
pub noted-none : (over i : ℕ) (us : List GivenUse) → noted_in no_more over i us ≡ us
noted-none over i [] = refl
noted-none over i (u ∷ us) = ap (λ (vs : List GivenUse). u ∷ vs) (noted-none over (i + 1) us)

-- under one more node
pub noted-up : (r : ℕ) (binds : _) (ps : Proofs) (over i : ℕ) (us : List GivenUse) → noted_in ps (over + 1) i us ≡ noted_by (by r binds ps) over i us
noted-up r binds ps over i [] = refl
noted-up r binds ps over i (u ∷ us) =
    let n : over + 1 + nodes_above_in i ps ≡ over + (nodes_above_in i ps + 1) = omega arith in
    let v : ℕ → GivenUse = (λ x. if is_used_among i ps then record { times = in_u128 (u.times + times_given_in i ps); above = max u.above x } else u) in
    let rest = noted-up r binds ps over (i + 1) us in
    λ k. v (n k) ∷ rest k

-- one proof more
abbrev use_more : Bool → ℕ → ℕ → GivenUse → GivenUse
use_more b t x u = if b then record { times = in_u128 (u.times + t); above = max u.above x } else u

one-more : (b c : Bool) (s t x y over : ℕ) (u : GivenUse) → (b ≡ false → s ≡ 0) → (c ≡ false → t ≡ 0) → (c ≡ false → y ≡ 0) →
    use_more (b || c) (s + t) (over + max (if b then x else 0) y) u ≡ use_more c t (over + y) (use_more b s (over + x) u)
one-more true true s t x y over u f g h =
    let m : in_u128 (u.times + (s + t)) ≡ in_u128 (in_u128 (u.times + s) + t) = omega arith in
    let n : max u.above (over + max x y) ≡ max (max u.above (over + x)) (over + y) = omega arith in
    λ k. record { times = m k; above = n k }
one-more true false s t x y over u f g h =
    let a = g refl in
    let b = h refl in
    let m : in_u128 (u.times + (s + t)) ≡ in_u128 (u.times + s) = omega (arith, a) in
    let n : max u.above (over + max x y) ≡ max u.above (over + x) = omega (arith, b) in
    λ k. record { times = m k; above = n k }
one-more false true s t x y over u f g h =
    let a = f refl in
    let m : in_u128 (u.times + (s + t)) ≡ in_u128 (u.times + t) = omega (arith, a) in
    let n : max u.above (over + max 0 y) ≡ max u.above (over + y) = omega arith in
    λ k. record { times = m k; above = n k }
one-more false false s t x y over u f g h = refl

pub noted-more : (p : Proof) (ps : Proofs) (over i : ℕ) (us : List GivenUse) → noted_in (p ⊳ ps) over i us ≡ noted_in ps over i (noted_by p over i us)
noted-more p ps over i [] = refl
noted-more p ps over i (u ∷ us) =
    let here = one-more (is_used i p) (is_used_among i ps) (times_given i p) (times_given_in i ps) (nodes_above i p) (nodes_above_in i ps) over u
    (none-positive (times_given i p) (is_used i p) (stands-times i p)) (none-positive (times_given_in i ps) (is_used_among i ps) (stand-times i ps)) (nothing-above i ps) in
    let rest = noted-more p ps over (i + 1) us in
    λ k. here k ∷ rest k

-- a given alone
differs : (i j : ℕ) → (i ≡ j → ⊥) → nat_eq i j ≡ false
differs i j n = go (nat_eq i j) refl
  where
    go : (b : Bool) → nat_eq i j ≡ b → nat_eq i j ≡ false
    go true e = absurd (n (eqb-true i j e))
    go false e = e

not-here : (i j over : ℕ) (u : GivenUse) → (i ≡ j → ⊥) → use_more (nat_eq i j) (one_when (nat_eq i j)) (over + 0) u ≡ u
not-here i j over u n = ap (λ (b : Bool). use_more b (one_when (nat_eq i j)) (over + 0) u) (differs i j n)

pub noted-before : (j over i : ℕ) (us : List GivenUse) → j < i → noted_by (given j) over i us ≡ us
noted-before j over i [] l = refl
noted-before j over i (u ∷ us) l =
    let here = not-here i j over u (λ e. omega (arith, l, e)) in
    let rest = noted-before j over (i + 1) us (omega (arith, l)) in
    λ k. here k ∷ rest k

pub noted-past : (j over i : ℕ) (us : List GivenUse) → i + length us ≤ j → noted_by (given j) over i us ≡ us
noted-past j over i [] l = refl
noted-past j over i (u ∷ us) l =
    let here = not-here i j over u (λ e. omega (arith, l, e)) in
    let rest = noted-past j over (i + 1) us (omega (arith, l)) in
    λ k. here k ∷ rest k

pub noted-at : (j over i d : ℕ) (us : List GivenUse) (u v : GivenUse) → j ≡ i + d → d < length us → u ≡ get_or us d u →
    v ≡ record { times = in_u128 (u.times + 1); above = max u.above over } → noted_by (given j) over i us ≡ set us d v
noted-at j over i d [] u v e l g w = absurd (omega (arith, l))
noted-at j over i zero (x ∷ us) u v e l g w =
    let b : nat_eq i j ≡ true = eq-eqb i j (omega (arith, e)) in
    let o : over + 0 ≡ over = omega arith in
    let here = ap (λ (c : Bool). use_more c (one_when c) (over + 0) x) b ∙ ap (λ (n : ℕ). use_more true 1 n x) o ∙ ap (use_more true 1 over) (sym g) ∙ sym w in
    let rest = noted-before j over (i + 1) us (omega (arith, e)) in
    λ k. here k ∷ rest k
noted-at j over i (suc d) (x ∷ us) u v e l g w =
    let here = not-here i j over x (λ f. omega (arith, e, f)) in
    let rest = noted-at j over (i + 1) d us u v (omega (arith, e)) (omega (arith, l)) g w in
    λ k. here k ∷ rest k

-- from nothing
pub uses-noted : (p : Proof) (i n : ℕ) → AreUsesOf i p (noted_by p 0 i (unused_givens n))
uses-noted p i zero = tt
uses-noted p i (suc n) = (here (is_used i p) (stands-times i p), uses-noted p (i + 1) n)
  where
    here : (b : Bool) → nat_lt 0 (times_given i p) ≡ b →
        ((use_more b (times_given i p) (0 + nodes_above i p) (record { times = 0; above = 0 })).times ≡ in_u128 (times_given i p))
        × ((use_more b (times_given i p) (0 + nodes_above i p) (record { times = 0; above = 0 })).above ≡ (if b then nodes_above i p else 0))
    here true e = (omega arith, omega arith)
    here false e = (let z = none-positive (times_given i p) false e refl in omega (arith, z), refl)

pub many-noted : (p : Proof) (over i : ℕ) (us : List GivenUse) → length (noted_by p over i us) ≡ length us
many-noted p over i [] = refl
many-noted p over i (u ∷ us) = ap suc (many-noted p over (i + 1) us)

pub many-unused : (n : ℕ) → length (unused_givens n) ≡ n
many-unused zero = refl
many-unused (suc n) = ap suc (many-unused n)

pub unused_givens-push : (n : ℕ) (u : GivenUse) → u ≡ record { times = 0; above = 0 } → unused_givens n ++ u ∷ [] ≡ unused_givens (n + 1)
unused_givens-push zero u e = ap (λ (x : GivenUse). x ∷ []) e
unused_givens-push (suc n) u e =
    let m : suc n + 1 ≡ suc (n + 1) = omega arith in
    rw m (ap (λ (us : List GivenUse). record { times = 0; above = 0 } ∷ us) (unused_givens-push n u e))

-- the proofs from a place on
pub kids-drop : (ks : List (Box ProofOf Global)) (i : ℕ) (k : Box ProofOf Global) (q : ProofOf) → i < length ks → k ≡ get_or ks i k → q ≡ k.value → boxed (drop i ks) ≡ proof q ⊳ boxed (drop (i + 1) ks)
kids-drop ks i k q h e same =
    at_drop_more boxed ks i k h ∙ ap (λ (x : Box ProofOf Global). proof x.value ⊳ boxed (drop (i + 1) ks)) (sym e) ∙ ap (λ (x : ProofOf). proof x ⊳ boxed (drop (i + 1) ks)) (sym same)

-- a node, by its kids
module _ (p : ProofOf) (r : ℕ) (binds : Vec Term Global) (kids : Vec (Box ProofOf Global) Global) (ks : List (Box ProofOf Global)) (is : p ≡ By r binds kids) (same : ks ≡ kids.items) where
  node-is : proof p ≡ by r (map tree binds.items) (boxed ks)
  node-is = proof-at_by p r binds kids is ∙ ap (λ (x : List (Box ProofOf Global)). by r (map tree binds.items) (boxed x)) (sym same)

  pub noted-height : height_of (proof p) ≡ most_height (boxed ks) + 1
  noted-height = ap height_of node-is

  pub noted-own_nodes : own_nodes (proof p) ≡ own_nodes_of (boxed ks) + 1
  noted-own_nodes = ap own_nodes node-is

  pub noted-own_height : own_height (proof p) ≡ own_height_of (boxed ks) + 1
  noted-own_height = ap own_height node-is

  pub noted-node : (over : ℕ) (us : List GivenUse) → noted_in (boxed ks) (over + 1) 0 us ≡ noted_by (proof p) over 0 us
  noted-node over us = noted-up r (map tree binds.items) (boxed ks) over 0 us ∙ sym (ap (λ (x : Proof). noted_by x over 0 us) node-is)

-- a given for each judgement among the premises before a place, none of which is used
pub record UsesSoFar (ps : List Premise) (i : ℕ) (us : List GivenUse) : Type 0 where
  pub made : us ≡ unused_givens (length us)
  pub many : length us + length (judgements_of (map premise (drop i ps))) ≡ length (judgements_of (map premise ps))

length-push : (us : List GivenUse) (u : GivenUse) → length (us ++ u ∷ []) ≡ length us + 1
length-push [] u = omega arith
length-push (x ∷ us) u = let h = length-push us u in omega (arith, h)

premise-drop : (ps : List Premise) (i : ℕ) (p : Premise) → i < length ps → p ≡ get_or ps i p → map premise (drop i ps) ≡ premise p ∷ map premise (drop (i + 1) ps)
premise-drop ps i p l e = at_drop_more (map premise) ps i p l ∙ ap (λ (x : Premise). premise x ∷ map premise (drop (i + 1) ps)) (sym e)

pub uses-held : (ps : List Premise) (i : ℕ) (p : Premise) (j : Judgement) (us new : List GivenUse) → i < length ps → p ≡ get_or ps i p → p ≡ Holds j →
    new ≡ us ++ record { times = 0; above = 0 } ∷ [] → UsesSoFar ps i us → UsesSoFar ps (i + 1) new
uses-held ps i p j us new l e is more so =
    let n = ap length more ∙ length-push us (record { times = 0; above = 0 }) in
    let d = ap (λ x. length (judgements_of x)) (premise-drop ps i p l e ∙ ap (λ (x : Premise). premise x ∷ map premise (drop (i + 1) ps)) is) in
    let m = so.many in
    let made : us ++ record { times = 0; above = 0 } ∷ [] ≡ unused_givens (length us + 1) =
    ap (λ (x : List GivenUse). x ++ record { times = 0; above = 0 } ∷ []) so.made ∙ unused_givens-push (length us) (record { times = 0; above = 0 }) refl in
    record {
      made = more ∙ made ∙ ap unused_givens (sym n);
      many = omega (arith, n, d, m);
    }

pub uses-apart : (ps : List Premise) (i : ℕ) (p : Premise) (t u : Term) (us : List GivenUse) → i < length ps → p ≡ get_or ps i p → p ≡ Apart t u → UsesSoFar ps i us → UsesSoFar ps (i + 1) us
uses-apart ps i p t u us l e is so =
    let d = ap (λ x. length (judgements_of x)) (premise-drop ps i p l e ∙ ap (λ (x : Premise). premise x ∷ map premise (drop (i + 1) ps)) is) in
    let m = so.many in
    record { made = so.made; many = omega (arith, d, m) }

pub uses-all : (ps : List Premise) (i : ℕ) (us : List GivenUse) → length ps ≤ i → UsesSoFar ps i us → us ≡ unused_givens (length (judgements_of (map premise ps)))
uses-all ps i us l so =
    let d = ap (λ (x : List Premise). length (judgements_of (map premise x))) (drop_all i ps l) in
    let m = so.many in
    let n : length us ≡ length (judgements_of (map premise ps)) = omega (arith, d, m) in
    so.made ∙ ap unused_givens n

pub uses-none : (ps : List Premise) (us : List GivenUse) → us ≡ [] → UsesSoFar ps 0 us
uses-none ps us e = subst (λ (x : List GivenUse). UsesSoFar ps 0 x) (sym e) (record { made = refl; many = omega arith })
