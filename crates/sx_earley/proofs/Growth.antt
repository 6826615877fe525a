use Rattle.std.proofs.Common.{length, ◌≤◌, arith, length-append, Result, Ok, Err, OnOk, ◌≡◌, List, [], ◌++◌, inl, inr, ⊎_elim, sym, subst, ap, ◌∙◌, append_assoc, append-nil, Contains}
use Rattle.std.proofs.lemmas.List.Elements.{Contains-append_left}
use Rattle.sx_earley.specs.Growth.{GoesOnFrom, AllNew}

pub extends_self : {X : Type 0} (xs : List X) → GoesOnFrom xs xs
extends_self xs = ([], sym (append-nil xs))

pub extends_on : {X : Type 0} (a b c : List X) → GoesOnFrom a b → GoesOnFrom b c → GoesOnFrom a c
extends_on a b c h k = (h.0 ++ k.0, k.1 ∙ (ap (λ l. l ++ k.0) h.1 ∙ append_assoc a h.0 k.0))

pub still_there : {X : Type 0} (a b : List X) (x : X) → GoesOnFrom a b → Contains a x → Contains b x
still_there a b x h there = subst (λ l. Contains l x) (sym h.1) (Contains-append_left a h.0 x there)

pub only_more : {X : Type 0} (a b : List X) (P Q : X → Type 0) → ((i : X) → P i → Q i) → AllNew a b P → AllNew a b Q
only_more a b P Q weaker h = λ i there. ⊎_elim (λ old. inl old) (λ p. inr (weaker i p)) (h i there)

pub only_on : {X : Type 0} (a b c : List X) (P : X → Type 0) → AllNew a b P → AllNew b c P → AllNew a c P
only_on a b c P h k = λ i there. ⊎_elim (λ old. h i old) (λ p. inr p) (k i there)

-- what follows where there is a value
pub ok_then : {T E : Type 0} (r : Result T E) (P Q : Type 0) → OnOk r P → (P → Q) → OnOk r Q
ok_then (Ok x) P Q h f = f h
ok_then (Err e) P Q h f = h

pub longer : {X : Type 0} (a b : List X) → GoesOnFrom a b → length a ≤ length b
longer a b h = let e : length b ≡ length (a ++ h.0) = ap length h.1 in omega (arith, length-append a h.0)
