-- Names that are added in order, and the numbers of variables.
use Rattle.std.proofs.Common.{◌≡◌, ℕ, ◌+◌, ◌≤◌, ◌⊎◌, inl, inr, zero, suc, Bool, true, false, cond, nat_lt, not, List, [], ◌∷◌, ◌++◌, Some, None, unwrap_or, Result, Ok, Err, OnErr, IfOk, slice_get, take, length, length-append, append_assoc, refl, ap, ◌∙◌, sym, subst, arith}
use Rattle.std.specs.List.{position, position_or_len}
use Rattle.std.specs.Str.{bytes_eq}
use Rattle.std.proofs.lemmas.List.{append-nil}
use Rattle.std.proofs.lemmas.Bool.{lt-ltb}
use Rattle.std.proofs.lemmas.Option.{slice_get_within}
use Rattle.std.proofs.lemmas.Slice.Eq.{bytes_eq-Decides}
use Rattle.sx_term.specs.Cutting.{AreDistinct}
use Rattle.sx_term.specs.Vars.{IsAdded}
use Rattle.sx_grammar.specs.Grammar.{Text}
use Rattle.sx_forest.specs.Names.{AddsEach, AddsFront}

added_long : (old new : List Text) (name : Text) (number : ℕ) → IsAdded old new name number → length new ≤ length old + 1
added_long old new name number a = by a.list
  where
    by : {P Q : Type 0} → ((P × (new ≡ old)) ⊎ (Q × (new ≡ old ++ name ∷ []))) → length new ≤ length old + 1
    by (inl h) = omega (arith, ap length h.1)
    by (inr h) = omega (arith, ap length h.1, length-append old (name ∷ []))

added_more : (old new : List Text) (name : Text) (number : ℕ) → IsAdded old new name number → (more : List Text) × (new ≡ old ++ more)
added_more old new name number a = by a.list
  where
    by : {P Q : Type 0} → ((P × (new ≡ old)) ⊎ (Q × (new ≡ old ++ name ∷ []))) → (more : List Text) × (new ≡ old ++ more)
    by (inl h) = ([], h.1 ∙ sym (append-nil old))
    by (inr h) = (name ∷ [], h.1)

pub each_long : (old names new : List Text) → AddsEach old names new → length new ≤ length old + length names
each_long old [] new e = omega (arith, ap length e)
each_long old (name ∷ names) new a =
    let l = added_long old a.0 name a.1 a.2 in
    let r = each_long a.0 names new a.3 in
    omega arith

pub each_more : (old names new : List Text) → AddsEach old names new → (more : List Text) × (new ≡ old ++ more)
each_more old [] new e = ([], e ∙ sym (append-nil old))
each_more old (name ∷ names) new a =
    let m = added_more old a.0 name a.1 a.2 in
    let r = each_more a.0 names new a.3 in
    (m.0 ++ r.0, r.1 ∙ ap (λ x. x ++ r.0) m.1 ∙ append_assoc old m.0 r.0)

pub each_append : (a b c xs ys : List Text) → AddsEach a xs b → AddsEach b ys c → AddsEach a (xs ++ ys) c
each_append a b c [] ys h k = subst (λ x. AddsEach x ys c) h k
each_append a b c (x ∷ xs) ys h k = (h.0, h.1, h.2, each_append h.0 b c xs ys h.3 k)

-- one name
pub each_one : (old new : List Text) (name : Text) (number : ℕ) → IsAdded old new name number → AddsEach old (name ∷ []) new
each_one old new name number a = (new, number, a, refl)

pub front_none : (names old new : List Text) → new ≡ old → AddsFront old names new
front_none names old new e = ([], names, refl, e)

take_front : (old more : List Text) → take (length old) (old ++ more) ≡ old
take_front [] more = refl
take_front (x ∷ xs) more = ap (λ ys. x ∷ ys) (take_front xs more)

-- where as many names are left as there were, these are the same
pub front_cut : (old names middle new : List Text) → AddsFront old names middle → new ≡ take (length old) middle → new ≡ old
front_cut old names middle new front e =
    let m = each_more old front.0 middle front.3 in
    e ∙ ap (take (length old)) m.1 ∙ take_front old m.0

pub front_after : (a b c xs ys : List Text) → AddsEach a xs b → AddsFront b ys c → AddsFront a (xs ++ ys) c
front_after a b c xs ys h k = (xs ++ k.0, k.1, ap (λ y. xs ++ y) k.2 ∙ sym (append_assoc xs k.0 k.1), each_append a b c xs k.0 h k.3)

pub front_more : (a b xs ys : List Text) → AddsFront a xs b → AddsFront a (xs ++ ys) b
front_more a b xs ys h = (h.0, h.1 ++ ys, ap (λ x. x ++ ys) h.2 ∙ append_assoc h.0 h.1 ys, h.3)

tail_distinct : (x : Text) (xs : List Text) → AreDistinct (x ∷ xs) → AreDistinct xs
tail_distinct x xs d i j text a b = let e = d (suc i) (suc j) text a b in omega arith

-- the name at a place of distinct names stands there first, whatever names come behind
first_at : (names more : List Text) (name : Text) (n : ℕ) → AreDistinct names → slice_get names n ≡ Some name → position_or_len (λ other. bytes_eq other name) (names ++ more) ≡ n
first_at [] more name n d e = cc
first_at (x ∷ xs) more name zero d e =
    let q : x ≡ name = cc in
    ap (λ b. cond (not b) (1 + position_or_len (λ other. bytes_eq other name) (xs ++ more)) 0) ((bytes_eq-Decides x name).1 q)
first_at (x ∷ xs) more name (suc n) d e =
    ap (λ b. cond (not b) (1 + position_or_len (λ other. bytes_eq other name) (xs ++ more)) 0) (by (bytes_eq x name) refl)
    ∙ (let r = first_at xs more name n (tail_distinct x xs d) e in omega arith)
  where
    by : (b : Bool) → bytes_eq x name ≡ b → bytes_eq x name ≡ false
    by true h = absurd (let z = d zero (suc n) name (ap Some ((bytes_eq-Decides x name).0 h)) e in omega arith)
    by false h = h

pub number_at : (names more : List Text) (name : Text) (n : ℕ) → AreDistinct names → slice_get names n ≡ Some name → unwrap_or (position (λ other. bytes_eq other name) (names ++ more)) 0 ≡ n
number_at names more name n d e =
    let k = position_or_len (λ other. bytes_eq other name) (names ++ more) in
    let f : k ≡ n = first_at names more name n d e in
    let lt : nat_lt k (length (names ++ more)) ≡ true = lt-ltb k (length (names ++ more)) (omega (arith, slice_get_within names n name e, length-append names more)) in
    ap (λ b. unwrap_or (cond b (Some k) None) 0) lt ∙ f

-- what holds after an error, whatever the error is
pub on_err : {T E P : Type 0} (r : Result T E) → P → OnErr r P
on_err (Ok x) p = tt
on_err (Err e) p = p

pub if_ok : {T E : Type 0} {P Q : T → Type 0} (r : Result T E) → ((t : T) → P t → Q t) → IfOk r P → IfOk r Q
if_ok (Ok t) f h = f t h
if_ok (Err e) f h = tt
