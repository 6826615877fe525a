-- What a plain table keeps holds as it stands.
use Rattle.std.proofs.Common.{◌≡◌, arith, ℕ, ◌+◌, ◌<◌, ◌≤◌, ◌⊎◌, inl, inr, max, List, [], ◌∷◌, length, Option, Some, None, refl}
use mathlib.Core.Logic.{∥∥₁_elim}
use Rattle.sx_term.specs.Tree.{Tree, Trees, node, lexeme, hole, none, ◌▹◌}
use Rattle.sx_term.specs.Instances.{Stands, StandsInKids}
use Rattle.sx_plain.specs.Plain.{Body, Table}
use Rattle.sx_plain.specs.declared.part_use.PartUse.{PartUse}
use Rattle.sx_plain.specs.Measures.{depth_with, size_with}
use Rattle.sx_plain.specs.Uses.{AreNear, ArePositive, used_depth, used_size, IsMeasured}
use Rattle.sx_plain.specs.Tables.{LabelsBelow, AllLabelsBelow, IsFlat, IsPlainTable}

-- the fact is not refuted
abbrev pub Unrefuted : Type 0 → Type 0
Unrefuted P = (P → ⊥) → ⊥

pub unrefuted : {P : Type 0} → ∥ P ∥₁ → Unrefuted P
unrefuted t n = ∥∥₁_elim t (λ x y. absurd x) n

either : (a b : ℕ) → (a < b) ⊎ (b ≤ a)
either a b = grind arith

pub less : (a b : ℕ) → Unrefuted (a < b) → a < b
less a b h = go (either a b)
  where
    go : (a < b) ⊎ (b ≤ a) → a < b
    go (inl l) = l
    go (inr l) = absurd (h (λ k. omega (arith, k, l)))

mutual
  labels : (n : ℕ) (t : Tree) → Unrefuted (LabelsBelow n t) → LabelsBelow n t
  labels n (node label ts) h = (less label n (λ f. h (λ x. f x.0)), all_labels n ts (λ f. h (λ x. f x.1)))
  labels n (lexeme kind text) h = tt
  labels n (hole v) h = tt

  all_labels : (n : ℕ) (ts : Trees) → Unrefuted (AllLabelsBelow n ts) → AllLabelsBelow n ts
  all_labels n none h = tt
  all_labels n (t ▹ ts) h = (labels n t (λ f. h (λ x. f x.0)), all_labels n ts (λ f. h (λ x. f x.1)))

pub same_or_not : (v w : ℕ) → (v ≡ w) ⊎ (v ≡ w → ⊥)
same_or_not v w = go (either v w) (either w v)
  where
    go : (v < w) ⊎ (w ≤ v) → (w < v) ⊎ (v ≤ w) → (v ≡ w) ⊎ (v ≡ w → ⊥)
    go (inl a) b = inr (λ e. omega (arith, a, e))
    go (inr a) (inl b) = inr (λ e. omega (arith, b, e))
    go (inr a) (inr b) = inl (omega (arith, a, b))

join : {A B : Type 0} → A ⊎ (A → ⊥) → B ⊎ (B → ⊥) → (A ⊎ B) ⊎ (A ⊎ B → ⊥)
join (inl a) b = inl (inl a)
join (inr a) (inl b) = inl (inr b)
join (inr a) (inr b) = inr (elim [ inl x ↦ a x | inr y ↦ b y ])

mutual
  stands_or_not : (v : ℕ) (t : Tree) → Stands v t ⊎ (Stands v t → ⊥)
  stands_or_not v (node label ts) = stand_or_not v ts
  stands_or_not v (lexeme kind text) = inr (λ h. h)
  stands_or_not v (hole w) = same_or_not v w

  stand_or_not : (v : ℕ) (ts : Trees) → StandsInKids v ts ⊎ (StandsInKids v ts → ⊥)
  stand_or_not v none = inr (λ h. h)
  stand_or_not v (t ▹ ts) = join (stands_or_not v t) (stand_or_not v ts)

stands : (v : ℕ) (t : Tree) → Unrefuted (Stands v t) → Stands v t
stands v t h = go (stands_or_not v t)
  where
    go : Stands v t ⊎ (Stands v t → ⊥) → Stands v t
    go (inl x) = x
    go (inr n) = absurd (h n)

pub kept_flat : (base : ℕ) (b : Body) → Unrefuted (IsFlat base b) → IsFlat base b
kept_flat base b h = record {
  labels = labels base b.flat (λ f. h (λ x. f x.labels));
  parts = λ v. (λ s. less v b.arity (λ f. h (λ x. f ((x.parts v).0 s))), λ l. stands v b.flat (λ f. h (λ x. f ((x.parts v).1 l))));
}

no_entry : (o : Option Body) → Unrefuted (o ≡ None) → o ≡ None
no_entry None h = refl
no_entry (Some b) h = absurd (h (λ e. cc))

pub table_kept : (base : ℕ) (table : Table) → Unrefuted (IsPlainTable base table) → IsPlainTable base table
table_kept base table h = record {
  keeps_base = λ label l. no_entry (table label) (λ f. h (λ x. f (x.keeps_base label l)));
  flat = λ label body e. kept_flat base body (λ f. h (λ x. f (x.flat label body e)));
}

pub kept_table : (base : ℕ) (table : Table) → ∥ IsPlainTable base table ∥₁ → IsPlainTable base table
kept_table base table t = table_kept base table (unrefuted t)

-- what an entry keeps of its flat body
same : (v w : ℕ) → Unrefuted (v ≡ w) → v ≡ w
same v w h = go (same_or_not v w)
  where
    go : (v ≡ w) ⊎ (v ≡ w → ⊥) → v ≡ w
    go (inl e) = e
    go (inr n) = absurd (h n)

at_most : (a b : ℕ) → Unrefuted (a ≤ b) → a ≤ b
at_most a b h = go (either b a)
  where
    go : (b < a) ⊎ (a ≤ b) → a ≤ b
    go (inl l) = absurd (h (λ k. omega (arith, k, l)))
    go (inr l) = l

all_near : (us : List PartUse) → Unrefuted (AreNear us) → AreNear us
all_near [] h = tt
all_near (u ∷ us) h = (at_most u.above 1000 (λ f. h (λ x. f x.0)), all_near us (λ f. h (λ x. f x.1)))

pub kept_near : (flat : Tree) (own depth : ℕ) (us : List PartUse) → ∥ IsMeasured flat own depth us ∥₁ → AreNear us
kept_near flat own depth us t = all_near us (λ f. unrefuted t (λ m. f m.near))

pub kept_sizes : (flat : Tree) (own depth : ℕ) (us : List PartUse) (ns : List ℕ) → ∥ IsMeasured flat own depth us ∥₁ → length ns ≡ length us →
    size_with ns flat ≡ own + used_size us ns
kept_sizes flat own depth us ns t e = same (size_with ns flat) (own + used_size us ns) (λ f. unrefuted t (λ m. f (m.sizes ns e)))

pub kept_depths : (flat : Tree) (own depth : ℕ) (us : List PartUse) (ds : List ℕ) → ∥ IsMeasured flat own depth us ∥₁ → length ds ≡ length us → ArePositive ds →
    depth_with ds flat ≡ max depth (used_depth us ds)
kept_depths flat own depth us ds t e p = same (depth_with ds flat) (max depth (used_depth us ds)) (λ f. unrefuted t (λ m. f (m.depths ds e p)))
