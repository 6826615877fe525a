-- Lists of nodes of which one is refused are refused at one node alone.
use Rattle.std.proofs.Common.{◌≡◌, Bool, true, false, if◌then◌else◌, List, [], ◌∷◌, ◌++◌}
use Rattle.std.proofs.Common.{ap, sym, refl, subst, ◌∙◌, append_assoc}
use Rattle.std.specs.List.{AllByRecursion}
use Rattle.std.proofs.lemmas.Bool.{false≢true}
use Rattle.sx_audit.specs.Meaning.{Node, Meaning, after_node, verdict}
use Rattle.sx_audit.specs.Shown.{after_nodes, Admits, AllAdmit, Refusal}
use Rattle.sx_audit.proofs.ShownNodes.{admits-first, admits-rest}

-- ---- lists in general

-- what holds of all holds of each
pub all-front : {A : Type 0} (P : A → Type 0) (xs ys : List A) → AllByRecursion P (xs ++ ys) →
    AllByRecursion P xs
all-front P [] ys h = tt
all-front P (x ∷ xs) ys h = (h.0, all-front P xs ys h.1)

pub all-back : {A : Type 0} (P : A → Type 0) (xs ys : List A) → AllByRecursion P (xs ++ ys) →
    AllByRecursion P ys
all-back P [] ys h = h
all-back P (x ∷ xs) ys h = all-back P xs ys h.1

pub all-joined : {A : Type 0} (P : A → Type 0) (xs ys : List A) → AllByRecursion P xs →
    AllByRecursion P ys → AllByRecursion P (xs ++ ys)
all-joined P [] ys h k = k
all-joined P (x ∷ xs) ys h k = (h.0, all-joined P xs ys h.1 k)

-- the first elements of a list for which something does not hold
record FirstOf {A : Type 0} (a b : List A) (x y : A) : Type 0 where
  fronts : a ≡ b
  ones : x ≡ y

first-same : {A : Type 0} (P : A → Type 0) (a : List A) (x : A) (b c : List A) (y : A)
    (d : List A) → a ++ x ∷ b ≡ c ++ y ∷ d → AllByRecursion P a → (P x → ⊥) →
    AllByRecursion P c → (P y → ⊥) → FirstOf a c x y
first-same P [] x b [] y d e h n k m = record { fronts = refl; ones = cc }
first-same P [] x b (z ∷ c) y d e h n k m =
    let same : z ≡ x = cc in absurd (n (subst P same k.0))
first-same P (w ∷ a) x b [] y d e h n k m =
    let same : w ≡ y = cc in absurd (m (subst P same h.0))
first-same P (w ∷ a) x b (z ∷ c) y d e h n k m =
    let tails : a ++ x ∷ b ≡ c ++ y ∷ d = cc in
    let same : w ≡ z = cc in
    let r = first-same P a x b c y d tails h.1 n k.1 m in
    let fronts : a ≡ c = r.fronts in
    record { fronts = cc; ones = r.ones }

-- the first part for which something does not hold, which holds of what is before
front-same : {A : Type 0} (Q : List A → Type 0) → ((a b : List A) → Q (a ++ b) → Q a) →
    (a : List A) (x : A) (b c : List A) (y : A) (d : List A) → a ++ x ∷ b ≡ c ++ y ∷ d →
    Q a → (Q (a ++ x ∷ []) → ⊥) → Q c → (Q (c ++ y ∷ []) → ⊥) → FirstOf a c x y
front-same Q closed [] x b [] y d e h n k m = record { fronts = refl; ones = cc }
front-same {A} Q closed [] x b (z ∷ c) y d e h n k m =
    let same : z ≡ x = cc in
    absurd (n (subst (λ (v : A). Q (v ∷ [])) same (closed (z ∷ []) c k)))
front-same {A} Q closed (w ∷ a) x b [] y d e h n k m =
    let same : w ≡ y = cc in
    absurd (m (subst (λ (v : A). Q (v ∷ [])) same (closed (w ∷ []) a h)))
front-same {A} Q closed (w ∷ a) x b (z ∷ c) y d e h n k m =
    let tails : a ++ x ∷ b ≡ c ++ y ∷ d = cc in
    let same : z ≡ w = cc in
    let r = front-same (λ (p : List A). Q (w ∷ p)) (λ p q. closed (w ∷ p) q) a x b c y d tails h n
    (subst (λ (v : A). Q (v ∷ c)) same k)
    (λ q. m (subst (λ (v : A). Q (v ∷ (c ++ y ∷ []))) (sym same) q)) in
    let fronts : a ≡ c = r.fronts in
    record { fronts = cc; ones = r.ones }

-- ---- nodes

admits-more : (m : Meaning) (n : Node) (ns : List Node) → verdict m n ≡ true →
    Admits ns (after_node m n) → Admits (n ∷ ns) m
admits-more m n ns v h =
    ap (λ (b : Bool). (if◌then◌else◌ {A = Meaning × Bool} b (after_nodes (after_node m n) ns)
    (after_node m n, false)).1) v ∙ h

-- what admits nodes admits those before
admits-front : (a b : List Node) (m : Meaning) → Admits (a ++ b) m → Admits a m
admits-front [] b m h = refl
admits-front (n ∷ a) b m h =
    admits-more m n a (admits-first m n (a ++ b) h)
    (admits-front a b (after_node m n) (admits-rest m n (a ++ b) h))

all-admit-front : (ms : List Meaning) (a b : List Node) → AllAdmit (a ++ b) ms → AllAdmit a ms
all-admit-front [] a b h = tt
all-admit-front (m ∷ ms) a b h = (admits-front a b m h.0, all-admit-front ms a b h.1)

module _ (old : List Meaning) (ns : List Node) where
  -- not all admit the node, and what is before
  not-all : (new : List Meaning) (r : Refusal old ns new) →
      AllAdmit (r.seen ++ r.node ∷ []) old → ⊥
  not-all new r h =
      let last = r.seen ++ r.node ∷ [] in
      let one = all-back (Admits last) r.before (r.one ∷ r.behind)
      (subst (AllAdmit last) r.auditors h) in
      false≢true (sym r.refused ∙ one.0)

  -- so they do not admit all nodes
  pub not-admitted : (new : List Meaning) (r : Refusal old ns new) → AllAdmit ns old → ⊥
  not-admitted new r h =
      not-all new r (all-admit-front old (r.seen ++ r.node ∷ []) r.later
      (subst (λ (xs : List Node). AllAdmit xs old)
      (r.nodes ∙ sym (append_assoc r.seen (r.node ∷ []) r.later)) h))

  -- the same node is refused by the same auditor
  pub record SameRefusal (new other : List Meaning) (r : Refusal old ns new)
      (s : Refusal old ns other) : Type 0 where
    pub seen : r.seen ≡ s.seen
    pub node : r.node ≡ s.node
    pub one : r.one ≡ s.one

  pub refused-once : (new other : List Meaning) (r : Refusal old ns new)
      (s : Refusal old ns other) → SameRefusal new other r s
  refused-once new other r s =
      let f = front-same (λ (p : List Node). AllAdmit p old) (λ a b. all-admit-front old a b)
      r.seen r.node r.later s.seen s.node s.later (sym r.nodes ∙ s.nodes) r.passed
      (not-all new r) s.passed (not-all other s) in
      let last = ap (λ (n : Node). r.seen ++ n ∷ []) f.ones
      ∙ ap (λ (p : List Node). p ++ s.node ∷ []) f.fronts in
      let g = first-same (Admits (s.seen ++ s.node ∷ [])) r.before r.one r.behind
      s.before s.one s.behind (sym r.auditors ∙ s.auditors)
      (subst (λ (p : List Node). AllAdmit p r.before) last r.admitted)
      (λ h. false≢true (sym r.refused
      ∙ ap (λ (p : List Node). (after_nodes r.one p).1) last ∙ h))
      s.admitted (λ h. false≢true (sym s.refused ∙ h)) in
      record { seen = f.fronts; node = f.ones; one = g.ones }
