-- The size of a proof with others in the place of its givens.
use Rattle.std.proofs.Common.{◌≡◌, ℕ, zero, suc, ◌+◌, ◌*◌, ◌<◌, max, Bool, true, false, ◌||◌, inl, inr, List, [], ◌∷◌, length, map, refl, ap, arith, if◌then◌else◌}
use Rattle.std.specs.Prelude.{slice_index_or, nat_eq, None}
use Rattle.std.proofs.lemmas.Bool.{eqb-true, eq-eqb}
use Rattle.std.proofs.lemmas.Option.{slice_get_within}
use Rattle.std.proofs.Math.ListN.{length-map}
use Rattle.sx_rules.specs.Discipline.{one_when}
use Rattle.sx_rules.specs.Rules.{Judgement, Rule, Hypotheses, judgements_of, judgement_instance}
use Rattle.sx_rules.specs.Instances.{bound_by}
use Rattle.sx_rules.specs.Derivations.{Proof, Proofs, by, given, no_more, ◌⊳◌, Derives, DeriveEach}
use Rattle.sx_rewrite.specs.Flat.{flat_judgement, flat_hypotheses}
use Rattle.sx_rewrite.specs.Used.{IsUsed, IsUsedAmong, grafted_nodes_of, grafted_height_of}
use Rattle.sx_rewrite.specs.Measured.{is_used, is_used_among}
use Rattle.sx_rewrite.specs.Copied.{times_given, times_given_in}
use Rattle.sx_rewrite.specs.Counts.{own_nodes_of, own_height_of, nodes_above, nodes_above_in, sum_of, most_of}
use Rattle.sx_rewrite.specs.CountLaws.{CertificatesUsePremises, NodesAreSummed, HeightIsGreatest}
use Rattle.sx_rewrite.proofs.Known.{certified-at}

distributes : (a b n : ℕ) → (a + b) * n ≡ a * n + b * n
distributes a b n = grind arith

-- sums by parts
sum-both : (f g : ℕ → ℕ) (i : ℕ) (ns : List ℕ) → sum_of (λ j. f j + g j) i ns ≡ sum_of f i ns + sum_of g i ns
sum-both f g i [] = refl
sum-both f g i (n ∷ ns) =
    let a = distributes (f i) (g i) n in
    let b = sum-both f g (i + 1) ns in omega arith

sum-none : (i : ℕ) (ns : List ℕ) → sum_of (λ j. 0) i ns ≡ 0
sum-none i [] = refl
sum-none i (n ∷ ns) = let b = sum-none (i + 1) ns in grind arith

-- the sum where one stands alone
differs : (i j : ℕ) → j < i → nat_eq i j ≡ false
differs i j l = go (nat_eq i j) refl
  where
    go : (b : Bool) → nat_eq i j ≡ b → nat_eq i j ≡ false
    go true e = let q = eqb-true i j e in absurd (omega arith)
    go false e = e

sum-past : (i j : ℕ) (ns : List ℕ) → j < i → sum_of (λ k. one_when (nat_eq k j)) i ns ≡ 0
sum-past i j [] l = refl
sum-past i j (n ∷ ns) l =
    let a = ap (λ (b : Bool). one_when b * n) (differs i j l) in
    let b = sum-past (i + 1) j ns (omega arith) in grind arith

sum-one : (i j d : ℕ) (ns : List ℕ) → j ≡ i + d → d < length ns → sum_of (λ k. one_when (nat_eq k j)) i ns ≡ slice_index_or ns d 1
sum-one i j d [] e l = absurd (omega arith)
sum-one i j zero (n ∷ ns) e l =
    let a = ap (λ (b : Bool). one_when b * n) (eq-eqb i j (omega arith)) in
    let b = sum-past (i + 1) j ns (omega arith) in grind arith
sum-one i j (suc d) (n ∷ ns) e l =
    let c : nat_eq i j ≡ false = go (nat_eq i j) refl in
    let a = ap (λ (b : Bool). one_when b * n) c in
    let b = sum-one (i + 1) j d ns (omega arith) (omega arith) in grind arith
  where
    go : (b : Bool) → nat_eq i j ≡ b → nat_eq i j ≡ false
    go true f = let q = eqb-true i j f in absurd (omega arith)
    go false f = f

mutual
  pub nodes_are_summed : NodesAreSummed
  nodes_are_summed (by r binds kids) ns h = let k = all_summed kids ns h in omega arith
  nodes_are_summed (given j) ns h = let s = sum-one 0 j j ns (omega arith) (h j refl) in omega (arith, s)

  all_summed : (ps : Proofs) (ns : List ℕ) → ((i : ℕ) → IsUsedAmong i ps → i < length ns) → grafted_nodes_of ns ps ≡ own_nodes_of ps + sum_of (λ i. times_given_in i ps) 0 ns
  all_summed no_more ns h = let s = sum-none 0 ns in omega (arith, s)
  all_summed (p ⊳ ps) ns h =
      let a = nodes_are_summed p ns (λ i u. h i (inl u)) in
      let b = all_summed ps ns (λ i u. h i (inr u)) in
      let c = sum-both (λ i. times_given i p) (λ i. times_given_in i ps) 0 ns in omega arith

-- the greatest by parts
greatest-at : (b c : Bool) (x y h : ℕ) → (c ≡ false → y ≡ 0) → (if b || c then max (if b then x else 0) y + h else 0) ≡ max (if b then x + h else 0) (if c then y + h else 0)
greatest-at true true x y h none = omega arith
greatest-at true false x y h none = let z = none refl in omega arith
greatest-at false true x y h none = omega arith
greatest-at false false x y h none = omega arith

most-both : (s t : ℕ → Bool) (f g : ℕ → ℕ) (i : ℕ) (hs : List ℕ) → ((j : ℕ) → t j ≡ false → g j ≡ 0) →
    most_of (λ j. s j || t j) (λ j. max (if s j then f j else 0) (g j)) i hs ≡ max (most_of s f i hs) (most_of t g i hs)
most-both s t f g i [] none = omega arith
most-both s t f g i (h ∷ hs) none =
    let a = greatest-at (s i) (t i) (f i) (g i) h (none i) in
    let b = most-both s t f g (i + 1) hs none in omega (arith, a, b)

or-left : (b c : Bool) → b || c ≡ false → b ≡ false
or-left true c e = e
or-left false c e = refl

or-right : (b c : Bool) → b || c ≡ false → c ≡ false
or-right true c e = absurd (let q : true ≡ false = e in cc)
or-right false c e = e

pub nothing-above : (i : ℕ) (ps : Proofs) → is_used_among i ps ≡ false → nodes_above_in i ps ≡ 0
nothing-above i no_more e = refl
nothing-above i (p ⊳ ps) e =
    let a = ap (λ (b : Bool). if b then nodes_above i p else 0) (or-left (is_used i p) (is_used_among i ps) e) in
    let b = nothing-above i ps (or-right (is_used i p) (is_used_among i ps) e) in omega (arith, a, b)

-- under one more node
up-at : (b : Bool) (o x h m n : ℕ) → max (o + 1) m ≡ max o n + 1 → max (o + 1) (max (if b then (x + 1) + h else 0) m) ≡ max o (max (if b then x + h else 0) n) + 1
up-at true o x h m n e = omega (arith, e)
up-at false o x h m n e = omega (arith, e)

most-up : (s : ℕ → Bool) (f : ℕ → ℕ) (o i : ℕ) (hs : List ℕ) → max (o + 1) (most_of s (λ j. f j + 1) i hs) ≡ max o (most_of s f i hs) + 1
most-up s f o i [] = omega arith
most-up s f o i (h ∷ hs) = up-at (s i) o (f i) h (most_of s (λ j. f j + 1) (i + 1) hs) (most_of s f (i + 1) hs) (most-up s f o (i + 1) hs)

-- where one stands alone
most-none : (i : ℕ) (hs : List ℕ) → most_of (λ j. false) (λ j. 0) i hs ≡ 0
most-none i [] = refl
most-none i (h ∷ hs) = let r = most-none (i + 1) hs in omega (arith, r)

most-past : (i j : ℕ) (hs : List ℕ) → j < i → most_of (λ k. nat_eq k j) (λ k. 0) i hs ≡ 0
most-past i j [] l = refl
most-past i j (h ∷ hs) l =
    let a = ap (λ (b : Bool). if b then 0 + h else 0) (differs i j l) in
    let b = most-past (i + 1) j hs (omega arith) in omega (arith, a, b)

most-one : (i j d : ℕ) (hs : List ℕ) → j ≡ i + d → d < length hs → most_of (λ k. nat_eq k j) (λ k. 0) i hs ≡ slice_index_or hs d 1
most-one i j d [] e l = absurd (omega arith)
most-one i j zero (h ∷ hs) e l =
    let a = ap (λ (b : Bool). if b then 0 + h else 0) (eq-eqb i j (omega arith)) in
    let b = most-past (i + 1) j hs (omega arith) in omega (arith, a, b)
most-one i j (suc d) (h ∷ hs) e l =
    let c : nat_eq i j ≡ false = go (nat_eq i j) refl in
    let a = ap (λ (b : Bool). if b then 0 + h else 0) c in
    let b = most-one (i + 1) j d hs (omega arith) (omega arith) in omega (arith, a, b)
  where
    go : (b : Bool) → nat_eq i j ≡ b → nat_eq i j ≡ false
    go true f = let q = eqb-true i j f in absurd (omega arith)
    go false f = f

mutual
  pub height_is_greatest : HeightIsGreatest
  height_is_greatest (by r binds kids) hs h =
      let k = all_greatest kids hs h in
      let u = most-up (λ i. is_used_among i kids) (λ i. nodes_above_in i kids) (own_height_of kids) 0 hs in omega (arith, k, u)
  height_is_greatest (given j) hs h = let s = most-one 0 j j hs (omega arith) (h j refl) in omega (arith, s)

  all_greatest : (ps : Proofs) (hs : List ℕ) → ((i : ℕ) → IsUsedAmong i ps → i < length hs) →
      grafted_height_of hs ps ≡ max (own_height_of ps) (most_of (λ i. is_used_among i ps) (λ i. nodes_above_in i ps) 0 hs)
  all_greatest no_more hs h = let s = most-none 0 hs in omega (arith, s)
  all_greatest (p ⊳ ps) hs h =
      let a = height_is_greatest p hs (λ i u. h i (inl u)) in
      let b = all_greatest ps hs (λ i u. h i (inr u)) in
      let c = most-both (λ i. is_used i p) (λ i. is_used_among i ps) (λ i. nodes_above i p) (λ i. nodes_above_in i ps) 0 hs (λ i e. nothing-above i ps e) in omega (arith, a, b, c)

-- a derivation uses givens that are hypotheses
mutual
  used-within : (rules : List Rule) (hyps : Hypotheses) (j : Judgement) (p : Proof) → Derives rules hyps j p → (i : ℕ) → IsUsed i p → i < length hyps.judgements
  used-within rules hyps j (by r binds kids) (rule, at, many, is, apart, each) i u = used-among rules hyps (map (judgement_instance (bound_by binds)) (judgements_of rule.premises)) kids each i u
  used-within rules hyps j (given k) d i u = let w = slice_get_within hyps.judgements k j d in omega (arith, w, u)

  used-among : (rules : List Rule) (hyps : Hypotheses) (js : List Judgement) (ps : Proofs) → DeriveEach rules hyps js ps → (i : ℕ) → IsUsedAmong i ps → i < length hyps.judgements
  used-among rules hyps js no_more d i u = absurd u
  used-among rules hyps [] (p ⊳ ps) d i u = absurd d
  used-among rules hyps (j ∷ js) (p ⊳ ps) d i (inl u) = used-within rules hyps j p d.0 i u
  used-among rules hyps (j ∷ js) (p ⊳ ps) d i (inr u) = used-among rules hyps js ps d.1 i u

pub certificates_use_premises : CertificatesUsePremises
certificates_use_premises sig base shapes a ok r c e i u =
    let d = (certified-at a.table sig.subjects sig.forms base a.base a.base a.more r c ok.certified e).0 in
    let w = used-within a.base (flat_hypotheses a.table sig.subjects c.rule.premises) _ c.proof d i u in
    let l = length-map (judgements_of c.rule.premises) (flat_judgement a.table sig.subjects None) in omega (arith, w, l)
