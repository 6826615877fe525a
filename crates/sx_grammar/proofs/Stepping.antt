-- The steps of each sort, one production after another, and the search along them.
use Rattle.std.proofs.Common.{◌≡◌, ℕ, zero, suc, ◌+◌, ◌<◌, List, [], ◌∷◌, ◌++◌, length, Bool, ◌⊎◌, inl, inr, ⊎_elim, Some, sym, ap, ◌∙◌, subst, arith, Vec, Contains}
use Rattle.std.specs.declared.alloc.Global.{Global}
use Rattle.std.specs.Prelude.{slice_get}
use Rattle.std.proofs.lemmas.Bool.{cases_lt}
use Rattle.sx_grammar.specs.declared.numbered.NumberedSymbol.{NumberedSymbol}
use Rattle.sx_grammar.specs.declared.numbered.NumberedProduction.{NumberedProduction}
use Rattle.sx_grammar.specs.declared.numbered.NumberedSymbol.TheVariants.{Part}
use Rattle.sx_grammar.specs.Cycles.{list_at, unmarked, IsPartOpen, IsTarget, HasStep}

-- the same element at a place
pub same_at : {X : Type 0} (xs : List X) (i j : ℕ) (x y : X) → i ≡ j → slice_get xs i ≡ Some x → slice_get xs j ≡ Some y → x ≡ y
same_at xs i j x y e at there =
    let alike : Some x ≡ Some y = sym at ∙ ap (slice_get xs) e ∙ there in
    cc

-- what the first n symbols of a production of the sort have put into the lists
pub record FiledBefore (marks : List Bool) (count sort : ℕ) (symbols : List NumberedSymbol) (old new : List (Vec ℕ Global)) (n : ℕ) : Type 0 where
  pub same : length new ≡ length old
  pub kept : (p x : ℕ) → Contains (list_at old p) x → Contains (list_at new p) x
  pub only : (p x : ℕ) → Contains (list_at new p) x → Contains (list_at old p) x ⊎ ((p ≡ sort) × ((k : ℕ) × (s : NumberedSymbol) × (slice_get symbols k ≡ Some s) × IsPartOpen marks count s x))
  pub all : (k x : ℕ) (s : NumberedSymbol) → k < n → slice_get symbols k ≡ Some s → IsPartOpen marks count s x → Contains (list_at new sort) x

pub filed_more : (marks : List Bool) (count sort n item : ℕ) (symbols : List NumberedSymbol) (old new later : List (Vec ℕ Global)) (s : NumberedSymbol)
    → FiledBefore marks count sort symbols old new n → slice_get symbols n ≡ Some s → IsPartOpen marks count s item
    → length later ≡ length new → Contains (list_at later sort) item
    → ((p x : ℕ) → Contains (list_at new p) x → Contains (list_at later p) x)
    → ((p x : ℕ) → Contains (list_at later p) x → Contains (list_at new p) x ⊎ ((p ≡ sort) × (x ≡ item)))
    → ((x : ℕ) → IsPartOpen marks count s x → x ≡ item)
    → FiledBefore marks count sort symbols old later (n + 1)
filed_more marks count sort n item symbols old new later s before at is same there kept only one = record {
  same = same ∙ before.same;
  kept = λ p x has. kept p x (before.kept p x has);
  only = λ p x has. ⊎_elim (λ was. before.only p x was) (λ e. inr (e.0, (n, s, at, subst (IsPartOpen marks count s) (sym e.1) is))) (only p x has);
  all = λ k x r lt here this. elim (cases_lt k n) [
    | inl below ↦ kept sort x (before.all k x r below here this)
    | inr above ↦ (
        let same : r ≡ s = same_at symbols k n r s (omega (arith, lt, above)) here at in
        subst (λ x. Contains (list_at later sort) x) (sym (one x (subst (λ r. IsPartOpen marks count r x) same this))) there)
  ];
}

pub filed_kept : (marks : List Bool) (count sort n : ℕ) (symbols : List NumberedSymbol) (old new : List (Vec ℕ Global)) (s : NumberedSymbol)
    → FiledBefore marks count sort symbols old new n → slice_get symbols n ≡ Some s → ((x : ℕ) → ¬ (IsPartOpen marks count s x)) → FiledBefore marks count sort symbols old new (n + 1)
filed_kept marks count sort n symbols old new s before at none = record {
  same = before.same;
  kept = before.kept;
  only = before.only;
  all = λ k x r lt here this. elim (cases_lt k n) [
    | inl below ↦ before.all k x r below here this
    | inr above ↦ (
        let same : r ≡ s = same_at symbols k n r s (omega (arith, lt, above)) here at in
        absurd (none x (subst (λ r. IsPartOpen marks count r x) same this)))
  ];
}

-- what the first n productions have put into the lists
pub record StepsBefore (marks : List Bool) (ps : List NumberedProduction) (sorts : ℕ) (lists : List (Vec ℕ Global)) (n : ℕ) : Type 0 where
  pub same : length lists ≡ sorts
  pub only : (sort other : ℕ) → Contains (list_at lists sort) other → HasStep marks ps sort other
  pub all : (label : ℕ) (p : NumberedProduction) (other : ℕ) → label < n → slice_get ps label ≡ Some p → IsTarget marks p.symbols.items other → Contains (list_at lists p.sort) other

pub steps_more : (marks : List Bool) (ps : List NumberedProduction) (sorts n : ℕ) (lists later : List (Vec ℕ Global)) (q : NumberedProduction)
    → StepsBefore marks ps sorts lists n → slice_get ps n ≡ Some q
    → length later ≡ length lists
    → ((p x : ℕ) → Contains (list_at lists p) x → Contains (list_at later p) x)
    → ((p x : ℕ) → Contains (list_at later p) x → Contains (list_at lists p) x ⊎ ((p ≡ q.sort) × IsTarget marks q.symbols.items x))
    → ((x : ℕ) → IsTarget marks q.symbols.items x → Contains (list_at later q.sort) x)
    → StepsBefore marks ps sorts later (n + 1)
steps_more marks ps sorts n lists later q before at same kept only all = record {
  same = same ∙ before.same;
  only = λ sort other has. ⊎_elim (λ was. before.only sort other was) (λ e. (n, q, at, sym e.0, e.1)) (only sort other has);
  all = λ label p other lt here is. elim (cases_lt label n) [
    | inl below ↦ kept p.sort other (before.all label p other below here is)
    | inr above ↦ (
        let same : p ≡ q = same_at ps label n p q (omega (arith, lt, above)) here at in
        subst (λ s. Contains (list_at later s) other) (ap (λ r. r.sort) (sym same)) (all other (subst (λ r. IsTarget marks r.symbols.items other) same is)))
  ];
}

-- a symbol is a part of one sort
pub one_sort : (marks : List Bool) (count item x : ℕ) (s : NumberedSymbol) → IsPartOpen marks count s item → IsPartOpen marks count s x → x ≡ item
one_sort marks count item x s is other =
    let same : Part item is.0 ≡ Part x other.0 = sym is.1 ∙ other.1 in
    cc

-- a part among the symbols that were seen is a target, and the other way round
pub target_of : (marks : List Bool) (count x : ℕ) (seen symbols : List NumberedSymbol) → seen ≡ symbols → count ≡ unmarked marks symbols
    → (k : ℕ) × (s : NumberedSymbol) × (slice_get seen k ≡ Some s) × IsPartOpen marks count s x → IsTarget marks symbols x
target_of marks count x seen symbols e size is =
    (is.0, is.1, ap (λ t. slice_get t is.0) (sym e) ∙ is.2, subst (λ n. IsPartOpen marks n is.1 x) size is.3)

pub target_seen : (marks : List Bool) (count x : ℕ) (seen symbols : List NumberedSymbol) → seen ≡ symbols → count ≡ unmarked marks symbols → IsTarget marks symbols x
    → (k : ℕ) × (s : NumberedSymbol) × (slice_get seen k ≡ Some s) × IsPartOpen marks count s x
target_seen marks count x seen symbols e size is =
    (is.0, is.1, ap (λ t. slice_get t is.0) e ∙ is.2, subst (λ n. IsPartOpen marks n is.1 x) (sym size) is.3)

-- one more list without elements
pub none_push : (lists : List (Vec ℕ Global)) (v : Vec ℕ Global) → v.items ≡ [] → ((p x : ℕ) → Contains (list_at lists p) x → ⊥) → (p x : ℕ) → Contains (list_at (lists ++ v ∷ []) p) x → ⊥
none_push [] v e none zero x has = omega (arith, has.1, ap length e)
none_push [] v e none (suc p) x has = omega (arith, has.1)
none_push (w ∷ lists) v e none zero x has = none zero x has
none_push (w ∷ lists) v e none (suc p) x has = none_push lists v e (λ p x has. none (suc p) x has) p x has
