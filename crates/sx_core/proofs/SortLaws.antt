-- Sorts and their names.
use Rattle.std.proofs.Common.{◌≡◌, ℕ, zero, suc, ◌+◌, ◌-◌, ◌<◌, List, [], ◌∷◌, ◌++◌, length, true, false, Option, Some, None, get_or, take, map, sym, refl, ap, ◌∙◌, subst, arith}
use Rattle.std.specs.Prelude.{slice_get, Contains, MatchOption}
use Rattle.std.specs.Option.{option_map}
use Rattle.std.proofs.lemmas.Option.{slice_get-map, slice_get_read}
use Rattle.sx_term.specs.declared.lex_kind.LexKind.TheVariants.{Id, Num, Str}
use Rattle.sx_term.specs.declared.sort.Sort.{Sort}
use Rattle.sx_term.specs.declared.sort.Sort.TheVariants.{Lex, Plain, Typed}
use Rattle.sx_core.specs.File.{SortRow}
use Rattle.sx_core.specs.Stated.{NamesSort, NameSorts}
use Rattle.sx_lines.specs.Distinct.{AreTextsDistinct}
use Rattle.sx_core.specs.Resolving.{sort_names}
use Rattle.sx_core.proofs.NumberLaws.{contains_at, one_place}

-- ---- lists

pub take_one : {A : Type 0} (xs : List A) (i : ℕ) (x : A) → slice_get xs i ≡ Some x → take (i + 1) xs ≡ take i xs ++ x ∷ []
take_one {A} xs i x e = let k : suc i ≡ i + 1 = omega arith in subst (λ (n : ℕ). take n xs ≡ take i xs ++ x ∷ []) k (one xs i e)
  where
    one : (ys : List A) (j : ℕ) → slice_get ys j ≡ Some x → take (suc j) ys ≡ take j ys ++ x ∷ []
    one [] j e = let q : None ≡ Some x = e in cc
    one (y ∷ ys) zero e = let q : Some y ≡ Some x = e in let p : y ≡ x = cc in ap (λ z. z ∷ []) p
    one (y ∷ ys) (suc j) e = ap (λ z. y ∷ z) (one ys j e)

pub some_same : {A : Type 0} (x y : A) → Some x ≡ Some y → x ≡ y
some_same x y e = cc

pub none_some : {A : Type 0} (x : A) → None ≡ Some x → ⊥
none_some x e = cc

-- ---- one sort

pub sort_number : Sort → ℕ
sort_number (Lex Id) = 0
sort_number (Lex Num) = 1
sort_number (Lex Str) = 2
sort_number (Plain n) = suc (suc (suc n))
sort_number (Typed n) = suc (suc (suc n))

kind : ℕ → SortRow → Sort
kind n row = elim row.typed [ true ↦ Typed n | false ↦ Plain n ]

sort_from : List SortRow → ℕ → Option Sort
sort_from rows zero = Some (Lex Id)
sort_from rows (suc zero) = Some (Lex Num)
sort_from rows (suc (suc zero)) = Some (Lex Str)
sort_from rows (suc (suc (suc n))) = option_map (kind n) (slice_get rows n)

pub name_at : (rows : List SortRow) (n : ℕ) (row : SortRow) → slice_get rows n ≡ Some row → slice_get (map (λ r. r.name) rows) n ≡ Some row.name
name_at rows n row e = slice_get-map (λ (r : SortRow). r.name) rows n ∙ ap (option_map (λ (r : SortRow). r.name)) e

-- the place of a sort's name among all
pub sort_place : (rows : List SortRow) (name : List ℕ) (s : Sort) → NamesSort rows name s → slice_get (sort_names rows) (sort_number s) ≡ Some name
unfolding sort_number
sort_place rows name (Lex Id) h = ap Some (sym h)
sort_place rows name (Lex Num) h = ap Some (sym h)
sort_place rows name (Lex Str) h = ap Some (sym h)
sort_place rows name (Plain n) h = name_at rows n (record { name = name; typed = false }) h
sort_place rows name (Typed n) h = name_at rows n (record { name = name; typed = true }) h

sort_found : (rows : List SortRow) (name : List ℕ) (s : Sort) → NamesSort rows name s → sort_from rows (sort_number s) ≡ Some s
unfolding sort_number sort_from kind
sort_found rows name (Lex Id) h = refl
sort_found rows name (Lex Num) h = refl
sort_found rows name (Lex Str) h = refl
sort_found rows name (Plain n) h = ap (option_map (kind n)) h
sort_found rows name (Typed n) h = ap (option_map (kind n)) h

-- a name stands for one sort
pub sort_same : (rows : List SortRow) (name : List ℕ) (s t : Sort) → AreTextsDistinct (sort_names rows) → NamesSort rows name s → NamesSort rows name t → s ≡ t
sort_same rows name s t d h k =
    let e = one_place (sort_names rows) d (sort_number s) (sort_number t) name (sort_place rows name s h) (sort_place rows name t k) in
    some_same s t (sym (sort_found rows name s h) ∙ ap (sort_from rows) e ∙ sort_found rows name t k)

pub no_sort : (rows : List SortRow) (name : List ℕ) → (Contains (sort_names rows) name → ⊥) → (s : Sort) → NamesSort rows name s → ⊥
no_sort rows name h s k = h (contains_at (sort_names rows) (sort_number s) name (sort_place rows name s k))

-- the sort of a row
pub row_named : (rows : List SortRow) (n : ℕ) (row : SortRow) (name : List ℕ) → slice_get rows n ≡ Some row → slice_get (map (λ r. r.name) rows) n ≡ Some name → slice_get rows n ≡ Some (record { name = name; typed = row.typed })
row_named rows n row name e f =
    let q = some_same row.name name (sym (name_at rows n row e) ∙ f) in
    e ∙ ap (λ (x : List ℕ). Some (record { name = x; typed = row.typed })) q

-- ---- sorts, one after another

pub sorts_snoc : (rows : List SortRow) (ns : List (List ℕ)) (ss : List Sort) (n : List ℕ) (s : Sort) → NameSorts rows ns ss → NamesSort rows n s → NameSorts rows (ns ++ n ∷ []) (ss ++ s ∷ [])
sorts_snoc rows [] [] n s h k = (k, tt)
sorts_snoc rows [] (t ∷ ss) n s h k = absurd h
sorts_snoc rows (m ∷ ns) [] n s h k = absurd h
sorts_snoc rows (m ∷ ns) (t ∷ ss) n s h k = (h.0, sorts_snoc rows ns ss n s h.1 k)

pub sorts_at : (rows : List SortRow) (ns : List (List ℕ)) (ss : List Sort) (i : ℕ) (n : List ℕ) → NameSorts rows ns ss → slice_get ns i ≡ Some n → (s : Sort) × NamesSort rows n s
sorts_at rows [] ss i n h e = absurd (none_some n e)
sorts_at rows (m ∷ ns) [] i n h e = absurd h
sorts_at rows (m ∷ ns) (t ∷ ss) zero n h e = (t, subst (λ (x : List ℕ). NamesSort rows x t) (some_same m n e) h.0)
sorts_at rows (m ∷ ns) (t ∷ ss) (suc i) n h e = sorts_at rows ns ss i n h.1 e

pub sorts_same : (rows : List SortRow) (ns : List (List ℕ)) (ss ts : List Sort) → AreTextsDistinct (sort_names rows) → NameSorts rows ns ss → NameSorts rows ns ts → ss ≡ ts
sorts_same rows [] [] [] d h k = refl
sorts_same rows [] [] (t ∷ ts) d h k = absurd k
sorts_same rows [] (s ∷ ss) ts d h k = absurd h
sorts_same rows (n ∷ ns) [] ts d h k = absurd h
sorts_same rows (n ∷ ns) (s ∷ ss) [] d h k = absurd k
sorts_same rows (n ∷ ns) (s ∷ ss) (t ∷ ts) d h k =
    ap (λ r. r ∷ ss) (sort_same rows n s t d h.0 k.0) ∙ ap (λ r. t ∷ r) (sorts_same rows ns ss ts d h.1 k.1)

-- ---- lists of views

pub view_at : {A B : Type 0} (f : A → B) (xs : List A) (i : ℕ) (x : A) → i < length xs → x ≡ get_or xs i x → slice_get (map f xs) i ≡ Some (f x)
view_at f xs i x lt is = slice_get-map f xs i ∙ ap (option_map f) (slice_get_read xs (length xs) i x refl lt is)

pub view_next : {A B : Type 0} (f : A → B) (xs : List A) (i : ℕ) (x : A) → i < length xs → x ≡ get_or xs i x → take (i + 1) (map f xs) ≡ take i (map f xs) ++ f x ∷ []
view_next f xs i x lt is = take_one (map f xs) i (f x) (view_at f xs i x lt is)

-- ---- looking up

third : (rows : List SortRow) (n : ℕ) → (n ≡ 0 → ⊥) → (n ≡ 1 → ⊥) → (n ≡ 2 → ⊥) → slice_get (sort_names rows) n ≡ slice_get (map (λ r. r.name) rows) (n - 3)
third rows zero a b c = absurd (a refl)
third rows (suc zero) a b c = absurd (b refl)
third rows (suc (suc zero)) a b c = absurd (c refl)
third rows (suc (suc (suc n))) a b c = let e : n ≡ suc (suc (suc n)) - 3 = omega arith in ap (slice_get (map (λ r. r.name) rows)) e

pub sort_third : (rows : List SortRow) (n : ℕ) (r : Option Sort) → (n ≡ 0 → ⊥) → (n ≡ 1 → ⊥) → (n ≡ 2 → ⊥)
    → MatchOption r (slice_get rows (n - 3) ≡ None) (λ s. (name : List ℕ) → slice_get (map (λ row. row.name) rows) (n - 3) ≡ Some name → NamesSort rows name s)
    → MatchOption r (slice_get (sort_names rows) n ≡ None) (λ s. (name : List ℕ) → slice_get (sort_names rows) n ≡ Some name → NamesSort rows name s)
sort_third rows n None a b c h = third rows n a b c ∙ slice_get-map (λ (r : SortRow). r.name) rows (n - 3) ∙ ap (option_map (λ (r : SortRow). r.name)) h
sort_third rows n (Some s) a b c h = λ name e. h name (sym (third rows n a b c) ∙ e)

pub sort_found_at : (rows : List SortRow) (name : List ℕ) (n : ℕ) (r : Option Sort) → slice_get (sort_names rows) n ≡ Some name
    → MatchOption r (slice_get (sort_names rows) n ≡ None) (λ s. (other : List ℕ) → slice_get (sort_names rows) n ≡ Some other → NamesSort rows other s)
    → MatchOption r ((s : Sort) → NamesSort rows name s → ⊥) (λ s. NamesSort rows name s)
sort_found_at rows name n None e h = absurd (none_some name (sym h ∙ e))
sort_found_at rows name n (Some s) e h = h name e

pub looked_some : (names : List (List ℕ)) (name : List ℕ) (r : Option ℕ) (n : ℕ) → r ≡ Some n → MatchOption r (Contains names name → ⊥) (λ k. slice_get names k ≡ Some name) → slice_get names n ≡ Some name
looked_some names name r n e h = subst (λ (x : Option ℕ). MatchOption x (Contains names name → ⊥) (λ k. slice_get names k ≡ Some name)) e h

pub looked_none : (names : List (List ℕ)) (name : List ℕ) (r : Option ℕ) → r ≡ None → MatchOption r (Contains names name → ⊥) (λ k. slice_get names k ≡ Some name) → Contains names name → ⊥
looked_none names name r e h = subst (λ (x : Option ℕ). MatchOption x (Contains names name → ⊥) (λ k. slice_get names k ≡ Some name)) e h

pub sorts_more : (rows : List SortRow) (names : List (List ℕ)) (i : ℕ) (name : List ℕ) (ss new : List Sort) (s : Sort) → i < length names → name ≡ get_or names i name → new ≡ ss ++ s ∷ []
    → NameSorts rows (take i names) ss → NamesSort rows name s → NameSorts rows (take (i + 1) names) new
sorts_more rows names i name ss new s lt is e h k =
    subst (NameSorts rows (take (i + 1) names)) (sym e) (subst (λ (x : List (List ℕ)). NameSorts rows x (ss ++ s ∷ [])) (sym (take_one names i name (slice_get_read names (length names) i name refl lt is))) (sorts_snoc rows (take i names) ss name s h k))

pub sorts_none : (rows : List SortRow) (names : List (List ℕ)) (i : ℕ) (name : List ℕ) → i < length names → name ≡ get_or names i name → ((s : Sort) → NamesSort rows name s → ⊥) → (ss : List Sort) → NameSorts rows names ss → ⊥
sorts_none rows names i name lt is n ss h = let w = sorts_at rows names ss i name h (slice_get_read names (length names) i name refl lt is) in n w.0 w.1
