-- Spans that stand once each still do when they change places.
use Rattle.std.proofs.Common.{◌≡◌, ℕ, zero, suc, Bool, true, false, true≢false, List, [], ◌∷◌, Some, refl, sym, subst, ap, ◌∙◌, map, inl, inr, arith}
use Rattle.std.specs.List.{slice_get, IsDistinct, AllByRecursion}
use Rattle.std.specs.List.Sorted.{IsPermutation}
use Rattle.std.proofs.lemmas.Bool.Decides.{nat_tests}
use Rattle.std.proofs.lemmas.Option.{same_Some, none-some}
use Rattle.std.proofs.lemmas.Map.Keys.{IsDistinct-cons, IsDistinct-head, IsDistinct-tail, IsDistinct-IsPermutation}
use Rattle.sx_grammar.specs.Tally.{Among, EachOnce}
use Rattle.sx_earley.specs.declared.span.Span.{Span}
use Rattle.sx_earley.specs.declared.span.SpanOf.{SpanOf}
use Rattle.sx_earley.specs.declared.span.SpanOf.TheVariants.{Node, Bracket}
use Rattle.sx_earley.specs.contracts.span.SpanOfPartialEq.TheImpl as of_eq
use Rattle.sx_earley.specs.contracts.span.SpanPartialEq.TheImpl as span_eq
use Rattle.sx_forest.specs.declared.ordered.Ordered.{Ordered}

same_of : (x y : SpanOf) → (of_eq.ghosts).eq x y ≡ true → x ≡ y
same_of (Node a) (Node b) h = grind (arith, nat_tests)
same_of (Node a) (Bracket b) h = cc
same_of (Bracket a) (Node b) h = cc
same_of (Bracket a) (Bracket b) h = grind (arith, nat_tests)

abbrev same : Span → Span → Bool
same = (span_eq.ghosts).eq

same_spans : (x y : Span) → same x y ≡ true → x ≡ y
same_spans x y h = grind (arith, nat_tests, same_of)

same_refl : (x : Span) → same x x ≡ true
same_refl x = grind (arith, nat_tests)

-- listed spans are the same
abbrev alike : Ordered → Ordered → Bool
alike a b = same a.span b.span

by_bools : (x y : Span) (b c : Bool) → same x y ≡ b → same y x ≡ c → b ≡ c
by_bools x y true true e f = refl
by_bools x y false false e f = refl
by_bools x y true false e f = let z = same_spans x y e in absurd (true≢false (sym (same_refl x) ∙ (ap (λ w. same w x) z ∙ f)))
by_bools x y false true e f = let z = same_spans y x f in absurd (true≢false (sym (same_refl y) ∙ (ap (λ w. same w y) z ∙ e)))

flips : (x y : Ordered) → alike x y ≡ alike y x
flips x y = by_bools x.span y.span (alike x y) (alike y x) refl refl

apart : (x y : Span) (b : Bool) → same x y ≡ b → (x ≡ y → ⊥) → same x y ≡ false
apart x y true e differ = absurd (differ (same_spans x y e))
apart x y false e differ = e

all_apart : (x : Ordered) (xs : List Ordered) → (Among x.span (map (λ o. o.span) xs) → ⊥) → AllByRecursion (λ y. alike x y ≡ false) xs
all_apart x [] alone = tt
all_apart x (y ∷ ys) alone = (apart x.span y.span (alike x y) refl (λ e. alone (inl e)), all_apart x ys (λ h. alone (inr h)))

no_keys : IsDistinct alike []
unfolding IsDistinct
no_keys = tt

distinct : (xs : List Ordered) → EachOnce (map (λ o. o.span) xs) → IsDistinct alike xs
distinct [] once = no_keys
distinct (x ∷ xs) once = IsDistinct-cons alike x xs (all_apart x xs once.0) (distinct xs once.1)

not_there : (x : Ordered) (xs : List Ordered) → AllByRecursion (λ y. alike x y ≡ false) xs → (j : ℕ) (b : Ordered) → slice_get xs j ≡ Some b → x.span ≡ b.span → ⊥
not_there x [] differ j b at e = none-some b at
not_there x (y ∷ ys) differ zero b at e =
    let is : y ≡ b = same_Some y b at in
    let f : same x.span x.span ≡ false = subst (λ s. same x.span s ≡ false) (ap (λ o. o.span) is ∙ sym e) differ.0 in
    true≢false (sym (same_refl x.span) ∙ f)
not_there x (y ∷ ys) differ (suc j) b at e = not_there x ys differ.1 j b at e

one_place : (xs : List Ordered) → IsDistinct alike xs → (i j : ℕ) (a b : Ordered) → slice_get xs i ≡ Some a → slice_get xs j ≡ Some b → a.span ≡ b.span → i ≡ j
one_place [] d i j a b at bt e = absurd (none-some a at)
one_place (x ∷ xs) d zero zero a b at bt e = refl
one_place (x ∷ xs) d zero (suc j) a b at bt e =
    absurd (not_there x xs (IsDistinct-head alike x xs d) j b bt (ap (λ o. o.span) (same_Some x a at) ∙ e))
one_place (x ∷ xs) d (suc i) zero a b at bt e =
    absurd (not_there x xs (IsDistinct-head alike x xs d) i a at (ap (λ o. o.span) (same_Some x b bt) ∙ sym e))
one_place (x ∷ xs) d (suc i) (suc j) a b at bt e = ap suc (one_place xs (IsDistinct-tail alike x xs d) i j a b at bt e)

-- a span has one place after sorting
pub once_sorted : (spans : _) (list sorted : List Ordered) → EachOnce spans → map (λ o. o.span) list ≡ spans → IsPermutation list sorted →
    (i j : ℕ) (a b : Ordered) → slice_get sorted i ≡ Some a → slice_get sorted j ≡ Some b → a.span ≡ b.span → i ≡ j
once_sorted spans list sorted once is moved =
    one_place sorted (IsDistinct-IsPermutation alike flips list sorted moved (distinct list (subst EachOnce (sym is) once)))
