-- The marks of a term's variables tell which stand in it.
use Rattle.std.proofs.Common.{◌≡◌, arith, ℕ, zero, suc, ◌+◌, ◌-◌, ◌^◌, ◌<◌, ◌≤◌, min, set, get_or, Bool, true, false, List, [], ◌∷◌, ◌++◌, ◌⊎◌, inl, inr, length, Option, Some, None, refl, sym, ap, ◌∙◌, subst}
use Rattle.std.specs.Prelude.{MatchOption}
use Rattle.sx_term.specs.Tree.{Tree, Trees, node, lexeme, hole, none, ◌▹◌, size_of, total_size}
use Rattle.sx_term.specs.Instances.{Stands, StandsInKids}
use Rattle.sx_plain.specs.Adds.{IsFirstDropped, UsesAll}
use Rattle.sx_plain.specs.Marks.{no_marks, marked_at, marked, marked_all, IsFirstUnmarked}

-- as many marks as before
length-marked_at : (v : ℕ) (ms : List Bool) → length (marked_at v ms) ≡ length ms
length-marked_at v [] = refl
length-marked_at zero (m ∷ ms) = refl
length-marked_at (suc v) (m ∷ ms) = let e = length-marked_at v ms in omega arith

mutual
  length-marked : (t : Tree) (ms : List Bool) → length (marked t ms) ≡ length ms
  length-marked (node label ts) ms = length-marked_all ts ms
  length-marked (lexeme kind text) ms = refl
  length-marked (hole v) ms = length-marked_at v ms

  length-marked_all : (ts : Trees) (ms : List Bool) → length (marked_all ts ms) ≡ length ms
  length-marked_all none ms = refl
  length-marked_all (t ▹ ts) ms = length-marked_all ts (marked t ms) ∙ length-marked t ms

length-unmarked : (n : ℕ) → length (no_marks n) ≡ n
length-unmarked zero = refl
length-unmarked (suc n) = let e = length-unmarked n in omega arith

-- the mark of a variable is set
abbrev Set : List Bool → ℕ → Type 0
Set ms v = get_or ms v false ≡ true

false_is : {P : Type 0} → false ≡ true → P
false_is e = absurd (let q : false ≡ true = e in cc)

-- a mark that is set was set before, or its variable is the one
set_was : (w : ℕ) (ms : List Bool) (v : ℕ) → Set (marked_at w ms) v → Set ms v ⊎ (v ≡ w)
set_was w [] v h = inl h
set_was zero (m ∷ ms) zero h = inr refl
set_was zero (m ∷ ms) (suc v) h = inl h
set_was (suc w) (m ∷ ms) zero h = inl h
set_was (suc w) (m ∷ ms) (suc v) h = go (set_was w ms v h)
  where
    go : Set ms v ⊎ (v ≡ w) → Set ms v ⊎ (suc v ≡ suc w)
    go (inl x) = inl x
    go (inr e) = inr (ap suc e)

mutual
  marked-was : (t : Tree) (ms : List Bool) (v : ℕ) → Set (marked t ms) v → Set ms v ⊎ Stands v t
  marked-was (node label ts) ms v h = all_marked-was ts ms v h
  marked-was (lexeme kind text) ms v h = inl h
  marked-was (hole w) ms v h = set_was w ms v h

  all_marked-was : (ts : Trees) (ms : List Bool) (v : ℕ) → Set (marked_all ts ms) v → Set ms v ⊎ StandsInKids v ts
  all_marked-was none ms v h = inl h
  all_marked-was (t ▹ ts) ms v h = last (λ x. marked-was t ms v x) (all_marked-was ts (marked t ms) v h)
    where
      first : Set ms v ⊎ Stands v t → Set ms v ⊎ StandsInKids v (t ▹ ts)
      first (inl x) = inl x
      first (inr s) = inr (inl s)

      last : (Set (marked t ms) v → Set ms v ⊎ Stands v t) → Set (marked t ms) v ⊎ StandsInKids v ts → Set ms v ⊎ StandsInKids v (t ▹ ts)
      last here (inl x) = first (here x)
      last here (inr s) = inr (inr s)

-- marks that are set stay so
set-stays : (w : ℕ) (ms : List Bool) (v : ℕ) → Set ms v → Set (marked_at w ms) v
set-stays w [] v h = h
set-stays zero (m ∷ ms) zero h = refl
set-stays zero (m ∷ ms) (suc v) h = h
set-stays (suc w) (m ∷ ms) zero h = h
set-stays (suc w) (m ∷ ms) (suc v) h = set-stays w ms v h

mutual
  marked-stays : (t : Tree) (ms : List Bool) (v : ℕ) → Set ms v → Set (marked t ms) v
  marked-stays (node label ts) ms v h = all_marked-stay ts ms v h
  marked-stays (lexeme kind text) ms v h = h
  marked-stays (hole w) ms v h = set-stays w ms v h

  all_marked-stay : (ts : Trees) (ms : List Bool) (v : ℕ) → Set ms v → Set (marked_all ts ms) v
  all_marked-stay none ms v h = h
  all_marked-stay (t ▹ ts) ms v h = all_marked-stay ts (marked t ms) v (marked-stays t ms v h)

-- the mark of a variable that stands is set
set-here : (ms : List Bool) (v : ℕ) → v < length ms → Set (marked_at v ms) v
set-here [] v l = absurd (omega arith)
set-here (m ∷ ms) zero l = refl
set-here (m ∷ ms) (suc v) l = set-here ms v (omega arith)

mutual
  stands-marked : (t : Tree) (ms : List Bool) (v : ℕ) → v < length ms → Stands v t → Set (marked t ms) v
  stands-marked (node label ts) ms v l h = stands-all_marked ts ms v l h
  stands-marked (lexeme kind text) ms v l h = absurd h
  stands-marked (hole w) ms v l h = subst (λ (x : ℕ). Set (marked_at x ms) v) h (set-here ms v l)

  stands-all_marked : (ts : Trees) (ms : List Bool) (v : ℕ) → v < length ms → StandsInKids v ts → Set (marked_all ts ms) v
  stands-all_marked none ms v l h = absurd h
  stands-all_marked (t ▹ ts) ms v l (inl h) = all_marked-stay ts (marked t ms) v (stands-marked t ms v l h)
  stands-all_marked (t ▹ ts) ms v l (inr h) = stands-all_marked ts (marked t ms) v (let e = length-marked t ms in omega arith) h

unset : (n v : ℕ) → Set (no_marks n) v → ⊥
unset zero v h = cc
unset (suc n) zero h = cc
unset (suc n) (suc v) h = unset n v h

-- no more marks are set than the term has nodes, lexemes and variables
abbrev trues : List Bool → ℕ
trues [] = 0
trues (true ∷ ms) = trues ms + 1
trues (false ∷ ms) = trues ms

trues-marked_at : (v : ℕ) (ms : List Bool) → trues (marked_at v ms) ≤ trues ms + 1
trues-marked_at v [] = omega arith
trues-marked_at zero (true ∷ ms) = omega arith
trues-marked_at zero (false ∷ ms) = omega arith
trues-marked_at (suc v) (true ∷ ms) = let h = trues-marked_at v ms in omega arith
trues-marked_at (suc v) (false ∷ ms) = trues-marked_at v ms

mutual
  trues-marked : (t : Tree) (ms : List Bool) → trues (marked t ms) ≤ trues ms + size_of t
  trues-marked (node label ts) ms = let h = trues-marked_all ts ms in omega arith
  trues-marked (lexeme kind text) ms = omega arith
  trues-marked (hole v) ms = trues-marked_at v ms

  trues-marked_all : (ts : Trees) (ms : List Bool) → trues (marked_all ts ms) ≤ trues ms + total_size ts
  trues-marked_all none ms = omega arith
  trues-marked_all (t ▹ ts) ms =
      let a = trues-marked t ms in
      let b = trues-marked_all ts (marked t ms) in omega arith

trues-unmarked : (n : ℕ) → trues (no_marks n) ≡ 0
trues-unmarked zero = refl
trues-unmarked (suc n) = trues-unmarked n

trues-all : (ms : List Bool) → ((v : ℕ) → v < length ms → Set ms v) → trues ms ≡ length ms
trues-all [] h = refl
trues-all (true ∷ ms) h = let e = trues-all ms (λ v l. h (suc v) (omega arith)) in omega arith
trues-all (false ∷ ms) h = false_is (h zero (omega arith))

-- what the first mark that is not set says of the term
pub dropped-is : (arity most : ℕ) (t : Tree) (ms new : List Bool) (found : Option ℕ) → most ≡ min arity (min (min (size_of t) (2 ^ 64 - 1) + 1) (2 ^ 64 - 1)) → arity < 2 ^ 32 →
    ms ≡ no_marks most → new ≡ marked t ms → MatchOption found ((v : ℕ) → v < length new → get_or new v false ≡ true) (λ at. IsFirstUnmarked new at) →
    MatchOption found (UsesAll arity t) (λ v. IsFirstDropped arity t v)
dropped-is arity most t ms new found m small e n h = go found h
  where
    is : new ≡ marked t (no_marks most)
    is = n ∙ ap (marked t) e

    many : length new ≡ most
    many = ap (λ (x : List Bool). length x) is ∙ length-marked t (no_marks most) ∙ length-unmarked most

    was : (v : ℕ) → Set new v → Stands v t
    was v s = other (marked-was t (no_marks most) v (subst (λ (x : List Bool). Set x v) is s))
      where
        other : Set (no_marks most) v ⊎ Stands v t → Stands v t
        other (inl x) = absurd (unset most v x)
        other (inr x) = x

    go : (found : Option ℕ) → MatchOption found ((v : ℕ) → v < length new → get_or new v false ≡ true) (λ at. IsFirstUnmarked new at) →
        MatchOption found (UsesAll arity t) (λ v. IsFirstDropped arity t v)
    go None all = λ v l.
        let a = trues-all new all in
        let b = ap trues is in
        let c = trues-marked t (no_marks most) in
        let d = trues-unmarked most in
        was v (all v (let k = many in omega arith))
    go (Some at) f = record {
      within = (let k = many in let w = f.within in omega arith);
      dropped = λ s. false_is (sym f.here ∙ subst (λ (x : List Bool). Set x at) (sym is) (stands-marked t (no_marks most) at (let k = many in let w = f.within in let u = length-unmarked most in omega arith) s));
      before = λ w l. was w (f.before w l);
    }

-- marking at a place
pub marked-set : (v : ℕ) (ms : List Bool) → set ms v true ≡ marked_at v ms
marked-set v [] = refl
marked-set zero (m ∷ ms) = refl
marked-set (suc v) (m ∷ ms) = ap (λ (xs : List Bool). m ∷ xs) (marked-set v ms)

pub marked-past : (v : ℕ) (ms : List Bool) → length ms ≤ v → marked_at v ms ≡ ms
marked-past v [] l = refl
marked-past zero (m ∷ ms) l = absurd (omega arith)
marked-past (suc v) (m ∷ ms) l = ap (λ (xs : List Bool). m ∷ xs) (marked-past v ms (omega arith))

pub no_marks-push : (n : ℕ) → no_marks n ++ false ∷ [] ≡ no_marks (n + 1)
no_marks-push zero = refl
no_marks-push (suc n) =
    let m : suc n + 1 ≡ suc (n + 1) = omega arith in
    rw m (ap (λ (ms : List Bool). false ∷ ms) (no_marks-push n))

pub marks-few : (most : ℕ) (t : Tree) (ms new : List Bool) → ms ≡ no_marks most → new ≡ marked t ms → length new ≡ most
marks-few most t ms new e n = ap (λ (x : List Bool). length x) n ∙ length-marked t ms ∙ ap (λ (x : List Bool). length x) e ∙ length-unmarked most
