-- Two readings are the same or differ.
use Rattle.std.proofs.Common.{◌≡◌, ◌≢◌, ℕ, ◌⊎◌, inl, inr, refl, true, false}
use Rattle.std.proofs.Math.Dec.{eqb}
use Rattle.std.proofs.lemmas.Bool.Decides.{eqb_tells}
use Rattle.sx_grammar.specs.Reading.{Reading, Readings, branch, bracket, leaf, variable, done, ◌▸◌}

abbrev Either : {A : Type 0} → A → A → Type 0
Either x y = (x ≡ y) ⊎ (x ≢ y)

told : (a b : ℕ) → ((eqb a b ≡ true) × (a ≡ b)) ⊎ ((eqb a b ≡ false) × (a ≢ b)) → Either a b
told a b (inl h) = inl h.1
told a b (inr h) = inr h.1

same_number : (a b : ℕ) → Either a b
same_number a b = told a b (eqb_tells a b)

same_branch : (a b f g t u : ℕ) (k l : Readings) → Either a b → Either k l → Either f g → Either t u → Either (branch a k f t) (branch b l g u)
same_branch a b f g t u k l (inl p) (inl q) (inl m) (inl n) = inl (λ i. branch (p i) (q i) (m i) (n i))
same_branch a b f g t u k l (inr p) q m n = inr (λ e. let is : a ≡ b = cc in p is)
same_branch a b f g t u k l (inl p) (inr q) m n = inr (λ e. let is : k ≡ l = cc in q is)
same_branch a b f g t u k l (inl p) (inl q) (inr m) n = inr (λ e. let is : f ≡ g = cc in m is)
same_branch a b f g t u k l (inl p) (inl q) (inl m) (inr n) = inr (λ e. let is : t ≡ u = cc in n is)

same_bracket : (r s : Reading) (f g t u : ℕ) → Either r s → Either f g → Either t u → Either (bracket r f t) (bracket s g u)
same_bracket r s f g t u (inl p) (inl m) (inl n) = inl (λ i. bracket (p i) (m i) (n i))
same_bracket r s f g t u (inr p) m n = inr (λ e. let is : r ≡ s = cc in p is)
same_bracket r s f g t u (inl p) (inr m) n = inr (λ e. let is : f ≡ g = cc in m is)
same_bracket r s f g t u (inl p) (inl m) (inr n) = inr (λ e. let is : t ≡ u = cc in n is)

same_leaf : (a b : ℕ) → Either a b → Either (leaf a) (leaf b)
same_leaf a b (inl p) = inl (λ i. leaf (p i))
same_leaf a b (inr p) = inr (λ e. let is : a ≡ b = cc in p is)

same_variable : (a b : ℕ) → Either a b → Either (variable a) (variable b)
same_variable a b (inl p) = inl (λ i. variable (p i))
same_variable a b (inr p) = inr (λ e. let is : a ≡ b = cc in p is)

same_row : (r s : Reading) (k l : Readings) → Either r s → Either k l → Either (r ▸ k) (s ▸ l)
same_row r s k l (inl p) (inl q) = inl (λ i. p i ▸ q i)
same_row r s k l (inr p) q = inr (λ e. let is : r ≡ s = cc in p is)
same_row r s k l (inl p) (inr q) = inr (λ e. let is : k ≡ l = cc in q is)

mutual
  pub same_reading : (r s : Reading) → Either r s
  same_reading (branch a k f t) (branch b l g u) = same_branch a b f g t u k l (same_number a b) (same_readings k l) (same_number f g) (same_number t u)
  same_reading (branch a k f t) (bracket s g u) = inr (λ e. cc)
  same_reading (branch a k f t) (leaf b) = inr (λ e. cc)
  same_reading (branch a k f t) (variable b) = inr (λ e. cc)
  same_reading (bracket r f t) (branch b l g u) = inr (λ e. cc)
  same_reading (bracket r f t) (bracket s g u) = same_bracket r s f g t u (same_reading r s) (same_number f g) (same_number t u)
  same_reading (bracket r f t) (leaf b) = inr (λ e. cc)
  same_reading (bracket r f t) (variable b) = inr (λ e. cc)
  same_reading (leaf a) (branch b l g u) = inr (λ e. cc)
  same_reading (leaf a) (bracket s g u) = inr (λ e. cc)
  same_reading (leaf a) (leaf b) = same_leaf a b (same_number a b)
  same_reading (leaf a) (variable b) = inr (λ e. cc)
  same_reading (variable a) (branch b l g u) = inr (λ e. cc)
  same_reading (variable a) (bracket s g u) = inr (λ e. cc)
  same_reading (variable a) (leaf b) = inr (λ e. cc)
  same_reading (variable a) (variable b) = same_variable a b (same_number a b)

  same_readings : (k l : Readings) → Either k l
  same_readings done done = inl refl
  same_readings done (s ▸ l) = inr (λ e. cc)
  same_readings (r ▸ k) done = inr (λ e. cc)
  same_readings (r ▸ k) (s ▸ l) = same_row r s k l (same_reading r s) (same_readings k l)
