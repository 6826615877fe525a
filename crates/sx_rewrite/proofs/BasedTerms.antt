-- Terms that are put for the variables of a base rule.
use Rattle.std.proofs.Common.{◌≡◌, arith, ℕ, zero, suc, ◌+◌, ◌-◌, ◌^◌, min, ◌<◌, ◌≤◌, drop, get_or, length, Bool, true, false, List, [], ◌∷◌, Option, Some, None, if◌then◌else◌, refl, sym, ap, ◌∙◌, subst}
use Rattle.std.specs.Prelude.{Err, nat_lt}
use Rattle.std.proofs.lemmas.Bool.{ltb-false}
use Rattle.sx_term.specs.Tree.{Tree, depth_of, size_of}
use Rattle.sx_plain.specs.declared.measure.Measure.{Measure}
use Rattle.sx_rewrite.specs.declared.rewrite_error.RewriteError.{RewriteError}
use Rattle.sx_rewrite.specs.Rewriting.{RewriteRefusal, too_deep, too_big, first_over}
use Rattle.sx_rewrite.specs.Puts.{IsMeasureOf, AreMeasuresOf, IsSmallTerm, AreMadeOf, IsLimited}
use Rattle.sx_rewrite.specs.Puts.{Tells}
use Rattle.sx_rewrite.proofs.Puts.{over-none, limited-small, limited-tells}

-- the term whose measure stands at a place
record IsAt (ts : List Tree) (i : ℕ) (m : Measure) : Type 0 where
  term : Tree
  from : drop i ts ≡ term ∷ drop (i + 1) ts
  is : IsMeasureOf term m

is-at : (ts : List Tree) (ms : List Measure) (i : ℕ) (d : Measure) → AreMeasuresOf ts ms → i < length ms → IsAt ts i (get_or ms i d)
is-at [] [] i d h l = absurd (omega (arith, l))
is-at [] (x ∷ ms) i d h l = absurd h
is-at (t ∷ ts) [] i d h l = absurd h
is-at (t ∷ ts) (x ∷ ms) zero d h l = record { term = t; from = refl; is = h.0 }
is-at (t ∷ ts) (x ∷ ms) (suc i) d h l =
    let r = is-at ts ms i d h.1 (omega (arith, l)) in
    let n : suc i + 1 ≡ suc (i + 1) = omega arith in
    record { term = r.term; from = rw n r.from; is = r.is }

past : (ts : List Tree) (ms : List Measure) (i : ℕ) → AreMeasuresOf ts ms → length ms ≤ i → drop i ts ≡ []
past [] [] zero h l = refl
past [] [] (suc i) h l = refl
past [] (x ∷ ms) i h l = absurd h
past (t ∷ ts) [] i h l = absurd h
past (t ∷ ts) (x ∷ ms) zero h l = absurd (omega (arith, l))
past (t ∷ ts) (x ∷ ms) (suc i) h l = past ts ms i h.1 (omega (arith, l))

module _ (ms : List Measure) (i : ℕ) (so : (ts : List Tree) → AreMeasuresOf ts ms → first_over ts ≡ first_over (drop i ts)) where
  module _ (d : Measure) (within : i < length ms) where
    pub measures-tell : (e : RewriteError) → IsLimited (get_or ms i d) (Err e) → (ts : List Tree) → AreMeasuresOf ts ms → Tells (first_over ts) e
    measures-tell e l ts h =
        let r = is-at ts ms i d h within in
        subst (λ (o : Option RewriteRefusal). Tells o e) (sym (so ts h ∙ ap first_over r.from)) (limited-tells r.term (drop (i + 1) ts) (get_or ms i d) e l r.is)

    pub measures-step : ((get_or ms i d).depth ≤ 1000) × ((get_or ms i d).size ≤ 1000000) → (ts : List Tree) → AreMeasuresOf ts ms → first_over ts ≡ first_over (drop (i + 1) ts)
    measures-step small ts h =
        let r = is-at ts ms i d h within in
        so ts h ∙ ap first_over r.from ∙ over-none r.term (drop (i + 1) ts) (limited-small r.term (get_or ms i d) small r.is)

  pub measures-end : length ms ≤ i → (ts : List Tree) → AreMeasuresOf ts ms → first_over ts ≡ None
  measures-end l ts h = so ts h ∙ ap first_over (past ts ms i h l)

-- where no term passes a limit, each is made
pub small-here : (t : Tree) (ts : List Tree) → first_over (t ∷ ts) ≡ None → IsSmallTerm t × (first_over ts ≡ None)
small-here t ts e = go (nat_lt 1000 (depth_of t)) (nat_lt 1000000 (size_of t)) refl refl e
  where
    go : (x y : Bool) → nat_lt 1000 (depth_of t) ≡ x → nat_lt 1000000 (size_of t) ≡ y → (if x then Some (too_deep (depth_of t)) else if y then Some (too_big (min (size_of t) (2 ^ 64 - 1))) else first_over ts) ≡ None → IsSmallTerm t × (first_over ts ≡ None)
    go true y p q f = cc
    go false true p q f = cc
    go false false p q f = ((ltb-false 1000 (depth_of t) p, ltb-false 1000000 (size_of t) q), f)

pub all-made : (ts us : List Tree) → AreMadeOf ts us → first_over ts ≡ None → us ≡ ts
all-made [] [] h e = refl
all-made [] (u ∷ us) h e = absurd h
all-made (t ∷ ts) [] h e = absurd h
all-made (t ∷ ts) (u ∷ us) h e =
    let s = small-here t ts e in
    let a = h.0 s.0 in
    let b = all-made ts us h.1 s.1 in
    λ i. a i ∷ b i
