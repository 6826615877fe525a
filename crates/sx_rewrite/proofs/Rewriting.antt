-- What rewriting answers.
use Rattle.std.proofs.Common.{◌≡◌, ℕ, zero, suc, ◌<◌, ◌≤◌, ◌-◌, ◌^◌, min, Bool, true, false, List, [], ◌∷◌, ◌++◌, ◌⊎◌, inl, inr, Option, Some, None, if◌then◌else◌, refl, sym, ap, ◌∙◌, subst, arith}
use Rattle.std.specs.Prelude.{Result, Ok, Err, nat_lt, slice_get}
use Rattle.std.proofs.lemmas.Bool.{ltb-false}
use Rattle.sx_term.specs.Tree.{Tree, depth_of, size_of}
use Rattle.sx_term.specs.Sorts.{Shape}
use Rattle.sx_rules.specs.Instances.{bound_by}
use Rattle.sx_rules.specs.Rules.{Judgement, Rule, Hypotheses, judgement_instance}
use Rattle.sx_rules.specs.Derivations.{Proof, Proofs, by, given, no_more, ◌⊳◌, Derives, HasShallowBinds, HaveShallowBinds, AreShallow, ShallowJudgements}
use Rattle.sx_rewrite.specs.Accepted.{Accepted, Signature, IsAccepted, extended_rules}
use Rattle.sx_rewrite.specs.Used.{lowered_nodes, lowered_height}
use Rattle.sx_rewrite.specs.Measured.{Measures, node_terms, AllPass, ProofPasses, ProofsPass}
use Rattle.sx_rewrite.specs.Rewriting.{RewriteRefusal, spent, deep, too_deep, too_big, first_over, Rewritten, FirstOver, IsRewritten}
use Rattle.sx_rewrite.specs.Copied.{copied}
use Rattle.sx_rewrite.specs.RewritingLaws.{RewritingAnswers, RewritingIsUnique, RewritingIsGood}
use Rattle.sx_rewrite.proofs.Lowerings.{lowered_are_derivations}
use Rattle.sx_rewrite.proofs.LoweredOnce.{lowering_is_unique}
use Rattle.sx_rewrite.proofs.LoweredAlways.{lowering_exists}
use Rattle.sx_rewrite.proofs.LoweredSorted.{lowered_are_sorted}
use Rattle.sx_rewrite.proofs.Counted.{lowered_are_counted}
use Rattle.sx_rewrite.proofs.Measured.{terms_are_measured, measuring_is_unique, measured_are_all}

abbrev Answer : Type 0
Answer = Result Rewritten RewriteRefusal

either : (a b : ℕ) → (a < b) ⊎ (b ≤ a)
either a b = grind arith

-- what is over is a term
abbrev IsOfTerm : RewriteRefusal → Type 0
IsOfTerm spent = ⊥
IsOfTerm deep = ⊥
IsOfTerm (too_deep n) = Unit {0}
IsOfTerm (too_big n) = Unit {0}

over-term : (ts : List Tree) (r : RewriteRefusal) → first_over ts ≡ Some r → IsOfTerm r
over-term [] r e = cc
over-term (t ∷ ts) r e = go (over-term ts r) (nat_lt 1000 (depth_of t)) (nat_lt 1000000 (size_of t)) e
  where
    go : (first_over ts ≡ Some r → IsOfTerm r) → (x y : Bool) → (if x then Some (too_deep (depth_of t)) else if y then Some (too_big (min (size_of t) (2 ^ 64 - 1))) else first_over ts) ≡ Some r → IsOfTerm r
    go again true y f = let q : too_deep (depth_of t) ≡ r = cc in subst IsOfTerm q tt
    go again false true f = let q : too_big (min (size_of t) (2 ^ 64 - 1)) ≡ r = cc in subst IsOfTerm q tt
    go again false false f = again f

module _ (sig : Signature) (base shapes : List Shape) (a : Accepted) (ok : IsAccepted sig base shapes a) (hyps : Hypotheses) (p : Proof) (budget : ℕ) where
  refused : (r : RewriteRefusal) → IsOfTerm r → FirstOver a sig.subjects hyps p budget (Some r) → IsRewritten a sig.subjects hyps p budget (Err r)
  refused spent t h = absurd t
  refused deep t h = absurd t
  refused (too_deep n) t h = h
  refused (too_big n) t h = h

  answered : (j : Judgement) → Derives (extended_rules a) hyps j p → (answer : Answer) × IsRewritten a sig.subjects hyps p budget answer
  answered j d = by_nodes (either budget (lowered_nodes a p)) (either 3000 (lowered_height a p))
    where
      by_terms : lowered_nodes a p ≤ budget → lowered_height a p ≤ 3000 → (ts : List Tree) → Measures a sig.subjects hyps p ts → (o : Option RewriteRefusal) → first_over ts ≡ o →
          (answer : Answer) × IsRewritten a sig.subjects hyps p budget answer
      by_terms n h ts m None e =
          let l = lowering_exists sig base shapes a ok hyps p j d in
          (Ok (record { proof = l.0; judgement = l.1; copied = min (copied a p) (2 ^ 64 - 1) }), (l.2, refl, (n, h, (ts, m, e))))
      by_terms n h ts m (Some r) e = (Err r, refused r (over-term ts r e) (n, h, (ts, m, e)))

      by_nodes : (budget < lowered_nodes a p) ⊎ (lowered_nodes a p ≤ budget) → (3000 < lowered_height a p) ⊎ (lowered_height a p ≤ 3000) → (answer : Answer) × IsRewritten a sig.subjects hyps p budget answer
      by_nodes (inl more) h = (Err spent, more)
      by_nodes (inr few) (inl more) = (Err deep, (few, more))
      by_nodes (inr few) (inr less) =
          let t = terms_are_measured sig base shapes a ok hyps p j d in by_terms few less t.0 t.1 (first_over t.0) refl

  same_over : (o r : Option RewriteRefusal) → FirstOver a sig.subjects hyps p budget o → FirstOver a sig.subjects hyps p budget r → o ≡ r
  same_over o r (n, h, (ts, m, e)) (n', h', (us, m', e')) = sym e ∙ ap first_over (measuring_is_unique sig base shapes a ok hyps p ts us m m') ∙ e'

  -- within the numbers, not over the budget and not too deep
  within : (o : Option RewriteRefusal) → FirstOver a sig.subjects hyps p budget o → (lowered_nodes a p ≤ budget) × (lowered_height a p ≤ 3000)
  within o (n, h, t) = (n, h)

  not_spent : (o : Option RewriteRefusal) → FirstOver a sig.subjects hyps p budget o → budget < lowered_nodes a p → ⊥
  not_spent o f l = let w = (within o f).0 in omega (arith, w, l)

  not_deep : (o : Option RewriteRefusal) → FirstOver a sig.subjects hyps p budget o → (lowered_nodes a p ≤ budget) × (3000 < lowered_height a p) → ⊥
  not_deep o f l = let w = (within o f).1 in let m = l.1 in omega (arith, w, m)

  some_differ : (r : RewriteRefusal) → (let o : Option RewriteRefusal = None in o) ≡ Some r → ⊥
  some_differ r e = cc

  once : (x y : Answer) → IsRewritten a sig.subjects hyps p budget x → IsRewritten a sig.subjects hyps p budget y → x ≡ y
  once (Ok x) (Ok y) h k =
      let e = lowering_is_unique sig base shapes a ok hyps p x.proof y.proof x.judgement y.judgement h.0 k.0 in
      let c : x.copied ≡ y.copied = h.1 ∙ sym k.1 in
      λ i. Ok (record { proof = e.0 i; judgement = e.1 i; copied = c i })
  once (Ok x) (Err spent) h k = absurd (not_spent None h.2 k)
  once (Ok x) (Err deep) h k = absurd (not_deep None h.2 k)
  once (Ok x) (Err (too_deep n)) h k = absurd (some_differ (too_deep n) (same_over None (Some (too_deep n)) h.2 k))
  once (Ok x) (Err (too_big n)) h k = absurd (some_differ (too_big n) (same_over None (Some (too_big n)) h.2 k))
  once (Err spent) (Ok y) h k = absurd (not_spent None k.2 h)
  once (Err spent) (Err spent) h k = refl
  once (Err spent) (Err deep) h k = let w = k.0 in absurd (omega (arith, h, w))
  once (Err spent) (Err (too_deep n)) h k = absurd (not_spent (Some (too_deep n)) k h)
  once (Err spent) (Err (too_big n)) h k = absurd (not_spent (Some (too_big n)) k h)
  once (Err deep) (Ok y) h k = absurd (not_deep None k.2 h)
  once (Err deep) (Err spent) h k = let w = h.0 in absurd (omega (arith, k, w))
  once (Err deep) (Err deep) h k = refl
  once (Err deep) (Err (too_deep n)) h k = absurd (not_deep (Some (too_deep n)) k h)
  once (Err deep) (Err (too_big n)) h k = absurd (not_deep (Some (too_big n)) k h)
  once (Err (too_deep n)) (Ok y) h k = absurd (some_differ (too_deep n) (same_over None (Some (too_deep n)) k.2 h))
  once (Err (too_deep n)) (Err spent) h k = absurd (not_spent (Some (too_deep n)) h k)
  once (Err (too_deep n)) (Err deep) h k = absurd (not_deep (Some (too_deep n)) h k)
  once (Err (too_deep n)) (Err (too_deep m)) h k = let e = same_over (Some (too_deep n)) (Some (too_deep m)) h k in cc
  once (Err (too_deep n)) (Err (too_big m)) h k = let e = same_over (Some (too_deep n)) (Some (too_big m)) h k in cc
  once (Err (too_big n)) (Ok y) h k = absurd (some_differ (too_big n) (same_over None (Some (too_big n)) k.2 h))
  once (Err (too_big n)) (Err spent) h k = absurd (not_spent (Some (too_big n)) h k)
  once (Err (too_big n)) (Err deep) h k = absurd (not_deep (Some (too_big n)) h k)
  once (Err (too_big n)) (Err (too_deep m)) h k = let e = same_over (Some (too_big n)) (Some (too_deep m)) h k in cc
  once (Err (too_big n)) (Err (too_big m)) h k = let e = same_over (Some (too_big n)) (Some (too_big m)) h k in cc

pub rewriting_answers : RewritingAnswers
rewriting_answers sig base shapes a ok hyps p j d budget = answered sig base shapes a ok hyps p budget j d

pub rewriting_is_unique : RewritingIsUnique
rewriting_is_unique sig base shapes a ok hyps p budget x y h k = once sig base shapes a ok hyps p budget x y h k

-- terms that are not over are not deep
abbrev pub is_shallow : Tree → Bool
is_shallow t = if nat_lt 1000 (depth_of t) then false else true

pub not_over : (ts : List Tree) → first_over ts ≡ None → AllPass is_shallow ts
not_over [] e = tt
not_over (t ∷ ts) e = go (not_over ts) (nat_lt 1000 (depth_of t)) (nat_lt 1000000 (size_of t)) refl e
  where
    go : (first_over ts ≡ None → AllPass is_shallow ts) → (x y : Bool) → nat_lt 1000 (depth_of t) ≡ x → (if x then Some (too_deep (depth_of t)) else if y then Some (too_big (min (size_of t) (2 ^ 64 - 1))) else first_over ts) ≡ None → AllPass is_shallow (t ∷ ts)
    go again true y q f = cc
    go again false true q f = cc
    go again false false q f = (ap (λ (b : Bool). if b then false else true) q, again f)

shallow : (ts : List Tree) → AllPass is_shallow ts → AreShallow ts
shallow [] h = tt
shallow (t ∷ ts) h = (go (nat_lt 1000 (depth_of t)) refl h.0, shallow ts h.1)
  where
    go : (x : Bool) → nat_lt 1000 (depth_of t) ≡ x → (if x then false else true) ≡ true → depth_of t ≤ 1000
    go true q f = cc
    go false q f = ltb-false 1000 (depth_of t) q

left : (test : Tree → Bool) (ts us : List Tree) → AllPass test (ts ++ us) → AllPass test ts
left test [] us h = tt
left test (t ∷ ts) us h = (h.0, left test ts us h.1)

right : (test : Tree → Bool) (ts us : List Tree) → AllPass test (ts ++ us) → AllPass test us
right test [] us h = h
right test (t ∷ ts) us h = right test ts us h.1

own : (test : Tree → Bool) (o : Option Rule) (binds : List Tree) → AllPass test (node_terms o binds) → AllPass test binds
own test None binds h = h
own test (Some rule) binds h = left test binds (judgement_instance (bound_by binds) rule.conclusion).places h

mutual
  pub binds-shallow : (rules : List Rule) (p : Proof) → ProofPasses is_shallow rules p → HasShallowBinds p
  binds-shallow rules (by r binds kids) h = (shallow binds (own is_shallow (slice_get rules r) binds h.0), all_binds-shallow rules kids h.1)
  binds-shallow rules (given i) h = tt

  all_binds-shallow : (rules : List Rule) (ps : Proofs) → ProofsPass is_shallow rules ps → HaveShallowBinds ps
  all_binds-shallow rules no_more h = tt
  all_binds-shallow rules (p ⊳ ps) h = (binds-shallow rules p h.0, all_binds-shallow rules ps h.1)

given-shallow : (js : List Judgement) (i : ℕ) (j : Judgement) → ShallowJudgements js → slice_get js i ≡ Some j → AreShallow j.places
given-shallow [] i j h e = cc
given-shallow (x ∷ xs) zero j h e = let q : x ≡ j = cc in subst (λ (y : Judgement). AreShallow y.places) q h.0
given-shallow (x ∷ xs) (suc i) j h e = given-shallow xs i j h.1 e

pub places-shallow : (rules : List Rule) (hyps : Hypotheses) (q : Proof) (k : Judgement) → ShallowJudgements hyps.judgements → Derives rules hyps k q → ProofPasses is_shallow rules q → AreShallow k.places
places-shallow rules hyps (given i) k near d h = given-shallow hyps.judgements i k near d
places-shallow rules hyps (by r binds kids) k near (rule, at_r, many, concluded, apart_ones, each) h =
    let all = subst (λ (o : Option Rule). AllPass is_shallow (node_terms o binds)) at_r h.0 in
    let at_places = right is_shallow binds (judgement_instance (bound_by binds) rule.conclusion).places all in
    subst (λ (j : Judgement). AreShallow j.places) concluded (shallow (judgement_instance (bound_by binds) rule.conclusion).places at_places)

pub rewriting_is_good : RewritingIsGood
rewriting_is_good sig base shapes a ok hyps vars sorted below near p j d g budget r (l, w, (n, h, (ts, m, e))) =
    let x = lowered_are_derivations sig base shapes a ok hyps below p r.proof j r.judgement d l in
    let y = lowered_are_sorted sig base shapes a ok hyps vars sorted below p r.proof j r.judgement d g l in
    let c = lowered_are_counted sig a hyps p r.proof r.judgement l in
    let passes = measured_are_all sig base shapes a ok hyps p r.proof r.judgement ts l m is_shallow (not_over ts e) in
    let c0 = c.0 in
    let c1 = c.1 in
    record {
      derives = x.0;
      images = x.1;
      judgement_sorted = y.0;
      proof_sorted = y.1;
      nodes = omega (arith, c0, n);
      height = omega (arith, c1, h);
      places = places-shallow a.base hyps r.proof r.judgement near x.0 passes;
      binds = binds-shallow a.base r.proof passes;
    }
