-- What is noted of terms that come one after another.
use Rattle.std.proofs.Common.{◌≡◌, ℕ, ◌+◌, ◌-◌, ◌^◌, ◌<◌, ◌≤◌, ◌⊎◌, inl, inr, min, Bool, true, false, List, [], ◌∷◌, ◌++◌, map, drop, length, get_or, Option, Some, None, refl, sym, ap, ◌∙◌, arith}
use Rattle.std.specs.Prelude.{nat_lt}
use Rattle.std.proofs.lemmas.Bool.{cases_lt}
use Rattle.std.proofs.lemmas.List.{drop_more, drop_all}
use Rattle.sx_arena.specs.Arena.{tree_at}
use Rattle.sx_term.specs.Tree.{Tree, depth_of, size_of}
use Rattle.sx_replay.specs.declared.noted.Noted.{Noted}
use Rattle.sx_replay.specs.Limits.{some_when, first_of, first_deep, first_big, earlier, note}

earlier-none : (a : Option ℕ) → earlier a None ≡ a
earlier-none None = refl
earlier-none (Some n) = refl

earlier-assoc : (a b c : Option ℕ) → earlier (earlier a b) c ≡ earlier a (earlier b c)
earlier-assoc None b c = refl
earlier-assoc (Some n) b c = refl

first_of-append : (b : Bool) (n : ℕ) (x y z : Option ℕ) → z ≡ earlier x y → first_of b n z ≡ earlier (first_of b n x) y
first_of-append true n x y z e = refl
first_of-append false n x y z e = e

deep-append : (xs ys : List Tree) → first_deep (xs ++ ys) ≡ earlier (first_deep xs) (first_deep ys)
deep-append [] ys = refl
deep-append (t ∷ ts) ys = first_of-append (nat_lt 1000 (depth_of t)) (depth_of t) (first_deep ts) (first_deep ys) (first_deep (ts ++ ys)) (deep-append ts ys)

big-append : (xs ys : List Tree) → first_big (xs ++ ys) ≡ earlier (first_big xs) (first_big ys)
big-append [] ys = refl
big-append (t ∷ ts) ys = first_of-append (nat_lt 1000000 (size_of t)) (size_of t) (first_big ts) (first_big ys) (first_big (ts ++ ys)) (big-append ts ys)

pub note-none : (n : Noted) → note n [] ≡ n
note-none n = λ i. record { deep = earlier-none n.deep i; big = earlier-none n.big i }

pub note-append : (n : Noted) (xs ys : List Tree) → note (note n xs) ys ≡ note n (xs ++ ys)
note-append n xs ys = λ i. record {
  deep = (earlier-assoc n.deep (first_deep xs) (first_deep ys) ∙ ap (earlier n.deep) (sym (deep-append xs ys))) i;
  big = (earlier-assoc n.big (first_big xs) (first_big ys) ∙ ap (earlier n.big) (sym (big-append xs ys))) i;
}

lt_true : (m n : ℕ) → m < n → nat_lt m n ≡ true
lt_true m n h = grind (arith, h)

lt_false : (m n : ℕ) → n ≤ m → nat_lt m n ≡ false
lt_false m n h = grind (arith, h)

some_over : (limit d c : ℕ) → c ≡ min d (2 ^ 64 - 1) → limit < 2 ^ 64 - 1 → (x y : Option ℕ) →
    earlier (earlier x (some_when (nat_lt limit c) c)) y ≡ earlier x (first_of (nat_lt limit d) d y)
some_over limit d c e l x y = earlier-assoc x (some_when (nat_lt limit c) c) y ∙ ap (earlier x) (go (cases_lt limit d))
  where
    go : (limit < d) ⊎ (d ≤ limit) → earlier (some_when (nat_lt limit c) c) y ≡ first_of (nat_lt limit d) d y
    go (inl h) =
        let a = lt_true limit d h in
        let b = lt_true limit c (omega arith) in
        ap (λ (t : Bool). earlier (some_when t c) y) b ∙ ap Some e ∙ ap (λ (t : Bool). first_of t d y) (sym a)
    go (inr h) =
        let a = lt_false limit d h in
        let b = lt_false limit c (omega arith) in
        ap (λ (t : Bool). earlier (some_when t c) y) b ∙ ap (λ (t : Bool). first_of t d y) (sym a)

-- one term more
pub noted_step : (ts : List Tree) (is : List ℕ) (i d b : ℕ) (last new : Noted) → i < length is → d ≡ min (depth_of (tree_at ts (get_or is i 0))) (2 ^ 64 - 1) → b ≡ min (size_of (tree_at ts (get_or is i 0))) (2 ^ 64 - 1) →
    new.deep ≡ earlier last.deep (some_when (nat_lt 1000 d) d) → new.big ≡ earlier last.big (some_when (nat_lt 1000000 b) b) →
    note new (map (tree_at ts) (drop (i + 1) is)) ≡ note last (map (tree_at ts) (drop i is))
noted_step ts is i d b last new l ed eb nd nb =
    let t = tree_at ts (get_or is i 0) in
    let us = map (tree_at ts) (drop (i + 1) is) in
    let m : note last (t ∷ us) ≡ note last (map (tree_at ts) (drop i is)) = ap (λ (xs : List ℕ). note last (map (tree_at ts) xs)) (sym (drop_more is i 0 l)) in
    (λ k. record {
      deep = (ap (λ (x : Option ℕ). earlier x (first_deep us)) nd ∙ some_over 1000 (depth_of t) d ed (omega arith) last.deep (first_deep us)) k;
      big = (ap (λ (x : Option ℕ). earlier x (first_big us)) nb ∙ some_over 1000000 (size_of t) b eb (omega arith) last.big (first_big us)) k;
    }) ∙ m

pub noted_end : (ts : List Tree) (is : List ℕ) (i : ℕ) (last : Noted) → length is ≤ i → note last (map (tree_at ts) (drop i is)) ≡ last
noted_end ts is i last l = ap (λ (xs : List ℕ). note last (map (tree_at ts) xs)) (drop_all i is l) ∙ note-none last
