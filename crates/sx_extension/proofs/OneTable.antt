-- Plain bodies make one plain table, or one of them is refused, for one reason.
use Rattle.std.proofs.Common.{◌≡◌, ◌≢◌, ℕ, zero, suc, ◌<◌, ◌≤◌, ◌⊎◌, inl, inr, List, [], ◌∷◌}
use Rattle.std.proofs.Common.{Option, Some, None, Ok, Err, refl, ap, ◌∙◌, sym, subst, arith}
use Rattle.std.specs.Prelude.{IsSome, min, ◌-◌, ◌^◌}
use Rattle.std.proofs.lemmas.Bool.{cases_order, false≢true}
use Rattle.sx_term.specs.Tree.{Tree, depth_of, size_of}
use Rattle.sx_term.specs.Sorts.{Shape}
use Rattle.sx_plain.specs.declared.plain_error.PlainError.{PlainError}
use Rattle.sx_plain.specs.declared.plain_error.PlainError.TheVariants as plain
use Rattle.sx_plain.specs.declared.table.PlainTable.{PlainTable}
use Rattle.sx_plain.specs.Plain.{Body, Table, image}
use Rattle.sx_plain.specs.Adds.{first_uncovered, IsFirstDropped, UsesAll, IsBodyAdded}
use Rattle.sx_plain.specs.Views.{table_of}
use Rattle.sx_language.proofs.Stepwise.{AreAlike, Step, step_alike, step_none}
use Rattle.sx_extension.specs.declared.table_error.TableError.{TableError}
use Rattle.sx_extension.specs.declared.table_error.TableError.TheVariants.{Memory, Plain, NoPlain}
use Rattle.sx_extension.specs.PlainBodies.{BodyData}
use Rattle.sx_extension.specs.PlainTables.{AddsAll, IsFirstRefused, IsFirstWithoutEntry, IsPlainReason}
use Rattle.sx_extension.specs.PlainTables.{IsTableMade}

-- ---- one body

same_number : (a b : ℕ) → Some a ≡ Some b → a ≡ b
same_number a b e = cc

missing : (o : Option Body) → o ≡ None → IsSome o → ⊥
missing o none some = false≢true (subst (λ (x : Option Body). IsSome x) none some)

module _ (base : ℕ) (old : Table) (label arity : ℕ) (body : Tree) where
  -- the refusals in order
  abbrev ByTwice : PlainError → Type 0
  ByTwice e = (e ≡ plain.Twice label) × IsSome (old label)

  abbrev ByUse : PlainError → Type 0
  ByUse e = (l : ℕ) × (e ≡ plain.UsesLater l) × (first_uncovered base old body ≡ Some l)

  abbrev ByDrop : PlainError → Type 0
  ByDrop e = (v : ℕ) × (e ≡ plain.Drops v) × IsFirstDropped arity body v

  abbrev ByDepth : PlainError → Type 0
  ByDepth e = (e ≡ plain.TooDeep (depth_of (image old body))) × (1000 < depth_of (image old body))

  abbrev BySize : PlainError → Type 0
  BySize e = (e ≡ plain.TooBig (min (size_of (image old body)) (2 ^ 64 - 1))) ×
      (1000000 < size_of (image old body))

  abbrev AfterDrop : PlainError → Type 0
  AfterDrop = Step ByDepth (depth_of (image old body) ≤ 1000) BySize

  abbrev AfterUse : PlainError → Type 0
  AfterUse = Step ByDrop (UsesAll arity body) AfterDrop

  abbrev AfterTwice : PlainError → Type 0
  AfterTwice = Step ByUse (first_uncovered base old body ≡ None) AfterUse

  abbrev IsDue : PlainError → Type 0
  IsDue = Step ByTwice (old label ≡ None) AfterTwice

  due : (e : PlainError) → IsPlainReason e → IsBodyAdded base old old label arity body (Err e) → IsDue e
  due plain.Memory n h = absurd n
  due (plain.Twice l) n h = inl (ap plain.Twice h.0, h.1)
  due (plain.UsesLater l) n h = inr (h.0, inl (l, refl, h.1))
  due (plain.Drops v) n h = inr (h.0, inr (h.1, inl (v, refl, h.2)))
  due (plain.TooDeep depth) n h = inr (h.0, inr (h.1, inr (h.2, inl (ap plain.TooDeep h.4, h.3))))
  due (plain.TooBig nodes) n h = inr (
    h.0,
    inr (h.1, inr (h.2, inr (h.3, (ap plain.TooBig h.5, h.4)))),
  )

  not_twice : (e : PlainError) → ByTwice e → old label ≡ None → ⊥
  not_twice e h none = missing (old label) none h.1

  not_use : (e : PlainError) → ByUse e → first_uncovered base old body ≡ None → ⊥
  not_use e h none = let clash : Some h.0 ≡ None = sym h.2 ∙ none in cc

  not_drop : (e : PlainError) → ByDrop e → UsesAll arity body → ⊥
  not_drop e h all = h.2.dropped (all h.0 h.2.within)

  not_depth : (e : PlainError) → ByDepth e → depth_of (image old body) ≤ 1000 → ⊥
  not_depth e h low = omega (arith, h.1, low)

  not_size : (e : PlainError) → BySize e → size_of (image old body) ≤ 1000000 → ⊥
  not_size e h low = omega (arith, h.1, low)

  dropped_one : (v w : ℕ) → IsFirstDropped arity body v → IsFirstDropped arity body w → v ≡ w
  dropped_one v w h k = by (cases_order v w)
    where
      by : (v ≡ w) ⊎ ((v < w) ⊎ (w < v)) → v ≡ w
      by (inl e) = e
      by (inr (inl low)) = absurd (h.dropped (k.before v low))
      by (inr (inr low)) = absurd (k.dropped (h.before w low))

  abbrev same : PlainError → PlainError → Type 0
  same e d = e ≡ d

  depth_one : AreAlike same AfterDrop
  depth_one = step_alike ByDepth (depth_of (image old body) ≤ 1000) BySize not_depth same
      (λ e d h k. h.0 ∙ sym k.0) (λ e d h k. h.0 ∙ sym k.0)

  drop_one : AreAlike same AfterUse
  drop_one = step_alike ByDrop (UsesAll arity body) AfterDrop not_drop same
      (λ e d h k. h.1 ∙ ap plain.Drops (dropped_one h.0 k.0 h.2 k.2) ∙ sym k.1) depth_one

  use_one : AreAlike same AfterTwice
  use_one =
      step_alike ByUse (first_uncovered base old body ≡ None) AfterUse not_use same
      (λ e d h k. h.1 ∙ ap plain.UsesLater (same_number h.0 k.0 (sym h.2 ∙ k.2)) ∙ sym k.1)
      drop_one

  due_one : AreAlike same IsDue
  due_one = step_alike ByTwice (old label ≡ None) AfterTwice not_twice same
      (λ e d h k. h.0 ∙ sym k.0) use_one

  refused_one : (e d : PlainError) → IsPlainReason e → IsPlainReason d →
      IsBodyAdded base old old label arity body (Err e) →
      IsBodyAdded base old old label arity body (Err d) → e ≡ d
  refused_one e d n m h k = due_one e d (due e n h) (due d m k)

  -- a body that is added is not refused
  added_or_refused : (new : Table) (e : PlainError) → IsPlainReason e →
      IsBodyAdded base old new label arity body (Ok tt) →
      IsBodyAdded base old old label arity body (Err e) → ⊥
  added_or_refused new e n h k =
      step_none ByTwice (old label ≡ None) AfterTwice not_twice h.0
      (step_none ByUse (first_uncovered base old body ≡ None) AfterUse not_use h.1
      (step_none ByDrop (UsesAll arity body) AfterDrop not_drop h.2
      (step_none ByDepth (depth_of (image old body) ≤ 1000) BySize not_depth h.3
      (λ x b. not_size x b h.4)))) e (due e n k)

  added_one : (m n : Table) → IsBodyAdded base old m label arity body (Ok tt) →
      IsBodyAdded base old n label arity body (Ok tt) → m ≡ n
  added_one m n h k = λ i other. (h.5 other ∙ sym (k.5 other)) i

-- ---- all bodies

module _ (base : ℕ) where
  pub all_one : (bs : List BodyData) (old m n : Table) → AddsAll base old bs m →
      AddsAll base old bs n → m ≡ n
  all_one [] old m n h k = λ i label. (h label ∙ sym (k label)) i
  all_one (b ∷ bs) old m n h k =
      let here = added_one base old b.label b.parts b.term h.0 k.0 h.1 k.1 in
      all_one bs k.0 m n (subst (λ (t : Table). AddsAll base t bs m) here h.2) k.2

  first_one : (bs : List BodyData) (old : Table) (n m : ℕ) (e d : PlainError) → IsPlainReason e →
      IsPlainReason d → IsFirstRefused base old bs n e → IsFirstRefused base old bs m d →
      (n ≡ m) × (e ≡ d)
  first_one [] old n m e d x y h k = absurd h
  first_one (b ∷ bs) old zero zero e d x y h k =
      (refl, refused_one base old b.label b.parts b.term e d x y h k)
  first_one (b ∷ bs) old zero (suc m) e d x y h k = absurd
      (added_or_refused base old b.label b.parts b.term k.0 e x k.1 h)
  first_one (b ∷ bs) old (suc n) zero e d x y h k = absurd
      (added_or_refused base old b.label b.parts b.term h.0 d y h.1 k)
  first_one (b ∷ bs) old (suc n) (suc m) e d x y h k =
      let here = added_one base old b.label b.parts b.term h.0 k.0 h.1 k.1 in
      let rest = first_one bs k.0 n m e d x y
      (subst (λ (t : Table). IsFirstRefused base t bs n e) here h.2) k.2 in
      (ap suc rest.0, rest.1)

  all_or_first : (bs : List BodyData) (old new : Table) (n : ℕ) (e : PlainError) → IsPlainReason e →
      AddsAll base old bs new → IsFirstRefused base old bs n e → ⊥
  all_or_first [] old new n e x h k = k
  all_or_first (b ∷ bs) old new zero e x h k = added_or_refused base old b.label b.parts b.term h.0
      e x h.1 k
  all_or_first (b ∷ bs) old new (suc n) e x h k =
      let here = added_one base old b.label b.parts b.term k.0 h.0 k.1 h.1 in
      all_or_first bs h.0 new n e x h.2 (subst (λ (t : Table). IsFirstRefused base t bs n e) here
      k.2)

-- ---- tables

without_one : (shapes : List Shape) (first : ℕ) (t : Table) (a b : ℕ) →
    IsFirstWithoutEntry shapes first t a → IsFirstWithoutEntry shapes first t b → a ≡ b
without_one shapes first t a b h k = by (cases_order a b)
  where
    by : (a ≡ b) ⊎ ((a < b) ⊎ (b < a)) → a ≡ b
    by (inl e) = e
    by (inr (inl low)) = absurd (missing (t a) h.lacks.1 (k.before a h.new low h.lacks.0))
    by (inr (inr low)) = absurd (missing (t b) k.lacks.1 (h.before b k.new low k.lacks.0))

module _ (base : ℕ) (shapes : List Shape) (first : ℕ) (old : Table) (bs : List BodyData) where
  pub table_one : (t u : PlainTable) → IsTableMade base shapes first old bs (Ok t) →
      IsTableMade base shapes first old bs (Ok u) → (t.base ≡ u.base) × (table_of t ≡ table_of u)
  table_one t u h k = (h.0 ∙ sym k.0, all_one base bs old (table_of t) (table_of u) h.1 k.1)

  pub no_table_one : (x y : TableError) → x ≢ Memory → y ≢ Memory →
      IsTableMade base shapes first old bs (Err x) → IsTableMade base shapes first old bs (Err y) →
      x ≡ y
  no_table_one Memory y n m h k = absurd (n refl)
  no_table_one (Plain a e) Memory n m h k = absurd (m refl)
  no_table_one (Plain a e) (Plain b d) n m h k =
      let same = first_one base bs old a b e d h.0 k.0 h.1 k.1 in λ i. Plain (same.0 i) (same.1 i)
  no_table_one (Plain a e) (NoPlain l) n m h k = absurd
      (all_or_first base bs old k.0 a e h.0 k.1 h.1)
  no_table_one (NoPlain a) Memory n m h k = absurd (m refl)
  no_table_one (NoPlain a) (Plain b d) n m h k = absurd
      (all_or_first base bs old h.0 b d k.0 h.1 k.1)
  no_table_one (NoPlain a) (NoPlain b) n m h k =
      let same = all_one base bs old h.0 k.0 h.1 k.1 in
      ap NoPlain (without_one shapes first k.0 a b
      (subst (λ (t : Table). IsFirstWithoutEntry shapes first t a) same h.2) k.2)

  pub table_or_not : (t : PlainTable) (x : TableError) → x ≢ Memory →
      IsTableMade base shapes first old bs (Ok t) → IsTableMade base shapes first old bs (Err x) →
      ⊥
  table_or_not t Memory n h k = n refl
  table_or_not t (Plain a e) n h k = all_or_first base bs old (table_of t) a e k.0 h.1 k.1
  table_or_not t (NoPlain a) n h k =
      let same = all_one base bs old k.0 (table_of t) k.1 h.1 in
      let lacks : IsFirstWithoutEntry shapes first (table_of t) a = subst
      (λ (x : Table). IsFirstWithoutEntry shapes first x a) same k.2 in
      missing (table_of t a) lacks.lacks.1 (h.2 a lacks.new lacks.lacks.0)
