-- Values of cells that refer to earlier cells.
use Rattle.std.proofs.Common.{◌≡◌, ℕ, zero, suc, ◌+◌, ◌<◌, ◌≤◌, List, [], ◌∷◌, ◌++◌, length, get_or, refl, sym, ap, ◌∙◌, append_assoc, arith, subst}
use Rattle.std.specs.Prelude.{take, drop}
use Rattle.std.proofs.Math.Seq.{take-append_seam}
use Rattle.std.proofs.lemmas.List.{append-nil, get_or_append_left, length-append, length_push, get_or_at, take_all, take-append-drop}
use Rattle.sx_arena.specs.Grown.{Extends, grown_from, CellsFit}

pub extends-same : {V : Type 0} (xs : List V) → Extends xs xs
extends-same xs = ([], sym (append-nil xs))

pub extends-is : {V : Type 0} (xs ys : List V) → ys ≡ xs → Extends xs ys
extends-is xs ys e = ([], e ∙ sym (append-nil xs))

pub extends-then : {V : Type 0} (xs ys zs : List V) → Extends xs ys → Extends ys zs → Extends xs zs
extends-then xs ys zs (more, e) (rest, f) = (more ++ rest, f ∙ ap (λ l. l ++ rest) e ∙ append_assoc xs more rest)

pub extends-length : {V : Type 0} (xs ys : List V) → Extends xs ys → length xs ≤ length ys
extends-length xs ys (more, e) = let f = ap length e ∙ length-append xs more in omega arith

pub extends-at : {V : Type 0} (xs ys : List V) → Extends xs ys → (i : ℕ) (d : V) → i < length xs → get_or ys i d ≡ get_or xs i d
extends-at xs ys (more, e) i d h = ap (λ l. get_or l i d) e ∙ get_or_append_left xs more d i h

pub first_terms : {V : Type 0} (n : ℕ) (xs : List V) → Extends (take n xs) xs
first_terms n xs = (drop n xs, sym (take-append-drop n xs))

-- what a list goes on from is its beginning
pub take_extended : {V : Type 0} (xs ys : List V) (n : ℕ) → n ≡ length xs → Extends xs ys → take n ys ≡ xs
take_extended xs ys n e (more, f) = (λ i. take (e i) (f i)) ∙ take-append_seam xs more

pub grown_from-append : {C V : Type 0} (step : List V → C → V) (vs : List V) (cs ds : List C) → grown_from step vs (cs ++ ds) ≡ grown_from step (grown_from step vs cs) ds
grown_from-append step vs [] ds = refl
grown_from-append step vs (c ∷ cs) ds = grown_from-append step (vs ++ step vs c ∷ []) cs ds

pub grown_from-one : {C V : Type 0} (step : List V → C → V) (vs : List V) (cs : List C) (c : C) → grown_from step vs (cs ++ c ∷ []) ≡ grown_from step vs cs ++ step (grown_from step vs cs) c ∷ []
grown_from-one step vs cs c = grown_from-append step vs cs (c ∷ [])

pub grown_from-length : {C V : Type 0} (step : List V → C → V) (vs : List V) (cs : List C) → length (grown_from step vs cs) ≡ length vs + length cs
grown_from-length step vs [] = omega arith
grown_from-length step vs (c ∷ cs) = let a = grown_from-length step (vs ++ step vs c ∷ []) cs in let b = length_push vs (step vs c) in omega arith

pub grown-length : {C V : Type 0} (step : List V → C → V) (cs : List C) → length (grown_from step [] cs) ≡ length cs
grown-length step cs = let a = grown_from-length step [] cs in omega arith

pub grown_from-extends : {C V : Type 0} (step : List V → C → V) (vs : List V) (cs : List C) → Extends vs (grown_from step vs cs)
grown_from-extends step vs [] = extends-same vs
grown_from-extends step vs (c ∷ cs) = extends-then vs (vs ++ step vs c ∷ []) (grown_from step (vs ++ step vs c ∷ []) cs) (step vs c ∷ [], refl) (grown_from-extends step (vs ++ step vs c ∷ []) cs)

pub fits-one : {C V : Type 0} (step : List V → C → V) (P : List V → C → Type 0) (vs : List V) (cs : List C) (c : C) → CellsFit step P vs cs → P (grown_from step vs cs) c → CellsFit step P vs (cs ++ c ∷ [])
fits-one step P vs [] c h p = (p, tt)
fits-one step P vs (d ∷ cs) c h p = (h.0, fits-one step P (vs ++ step vs d ∷ []) cs c h.1 p)

-- a cell, and the values before it
pub fits-at : {C V : Type 0} (step : List V → C → V) (P : List V → C → Type 0) (vs : List V) (cs : List C) → CellsFit step P vs cs → (i : ℕ) (c : C) → i < length cs → c ≡ get_or cs i c →
    (front : List V) × P front c × (length front ≡ length vs + i) × Extends (front ++ step front c ∷ []) (grown_from step vs cs)
fits-at step P vs [] h i c l e = absurd (omega arith)
fits-at {C} {V} step P vs (d ∷ cs) h zero c l e =
    (vs, subst (λ (x : C). P vs x) (sym e) h.0, (omega arith), subst (λ (x : C). Extends (vs ++ step vs x ∷ []) (grown_from step (vs ++ step vs d ∷ []) cs)) (sym e) (grown_from-extends step (vs ++ step vs d ∷ []) cs))
fits-at {C} {V} step P vs (d ∷ cs) h (suc i) c l e =
    let r = fits-at step P (vs ++ step vs d ∷ []) cs h.1 i c (omega arith) e in
    let q = length_push vs (step vs d) in
    (r.0, r.1, (let k = r.2 in omega arith), r.3)

-- the value of a cell
pub grown-at : {C V : Type 0} (step : List V → C → V) (P : List V → C → Type 0) (cs : List C) → CellsFit step P [] cs → (i : ℕ) (c : C) (d : V) → i < length cs → c ≡ get_or cs i c →
    (front : List V) × P front c × (length front ≡ i) × Extends front (grown_from step [] cs) × (get_or (grown_from step [] cs) i d ≡ step front c)
grown-at step P cs h i c d l e =
    let r = fits-at step P [] cs h i c l e in
    let front = r.0 in
    let n : length front ≡ i = (let k = r.2 in omega arith) in
    let x = extends-then front (front ++ step front c ∷ []) (grown_from step [] cs) (step front c ∷ [], refl) r.3 in
    let m = length_push front (step front c) in
    (front, r.1, n, x, extends-at (front ++ step front c ∷ []) (grown_from step [] cs) r.3 i d (omega arith) ∙ get_or_at front (step front c) [] d i n)

-- where another step does the same at cells that fit
pub grown-same : {C V : Type 0} (step other : List V → C → V) (P Q : List V → C → Type 0) → ((vs : List V) (c : C) → P vs c → (step vs c ≡ other vs c) × Q vs c) →
    (vs : List V) (cs : List C) → CellsFit step P vs cs → (grown_from other vs cs ≡ grown_from step vs cs) × CellsFit other Q vs cs
grown-same step other P Q same vs [] h = (refl, tt)
grown-same {C} {V} step other P Q same vs (c ∷ cs) h =
    let s = same vs c h.0 in
    let r = grown-same step other P Q same (vs ++ step vs c ∷ []) cs h.1 in
    (ap (λ (x : V). grown_from other (vs ++ x ∷ []) cs) (sym s.0) ∙ r.0, (s.1, subst (λ (x : V). CellsFit other Q (vs ++ x ∷ []) cs) s.0 r.1))

-- the first cells stand for the first values
grown_from-take : {C V : Type 0} (step : List V → C → V) (vs : List V) (n : ℕ) (cs : List C) → grown_from step vs (take n cs) ≡ take (length vs + n) (grown_from step vs cs)
grown_from-take step vs zero [] = sym (take_all (length vs + 0) vs (omega arith))
grown_from-take step vs (suc n) [] = sym (take_all (length vs + suc n) vs (omega arith))
grown_from-take step vs zero (c ∷ cs) =
    sym (take_extended vs (grown_from step vs (c ∷ cs)) (length vs + 0) (omega arith) (grown_from-extends step vs (c ∷ cs)))
grown_from-take step vs (suc n) (c ∷ cs) =
    let l = length_push vs (step vs c) in
    let e : length (vs ++ step vs c ∷ []) + n ≡ length vs + suc n = omega arith in
    grown_from-take step (vs ++ step vs c ∷ []) n cs ∙ ap (λ k. take k (grown_from step (vs ++ step vs c ∷ []) cs)) e

fits_from-take : {C V : Type 0} (step : List V → C → V) (P : List V → C → Type 0) (vs : List V) (n : ℕ) (cs : List C) → CellsFit step P vs cs → CellsFit step P vs (take n cs)
fits_from-take step P vs zero [] h = tt
fits_from-take step P vs (suc n) [] h = tt
fits_from-take step P vs zero (c ∷ cs) h = tt
fits_from-take step P vs (suc n) (c ∷ cs) h = (h.0, fits_from-take step P (vs ++ step vs c ∷ []) n cs h.1)

pub grown-take : {C V : Type 0} (step : List V → C → V) (n : ℕ) (cs ds : List C) → ds ≡ take n cs → grown_from step [] ds ≡ take n (grown_from step [] cs)
grown-take {C} {V} step n cs ds e =
    let z : 0 + n ≡ n = omega arith in
    ap (λ (xs : List C). grown_from step [] xs) e ∙ grown_from-take step [] n cs ∙ ap (λ (k : ℕ). take k (grown_from step [] cs)) z

-- and fit as they did
pub fits-take : {C V : Type 0} (step : List V → C → V) (P : List V → C → Type 0) (n : ℕ) (cs ds : List C) → ds ≡ take n cs → CellsFit step P [] cs → CellsFit step P [] ds
fits-take {C} {V} step P n cs ds e h = subst (λ (xs : List C). CellsFit step P [] xs) (sym e) (fits_from-take step P [] n cs h)
