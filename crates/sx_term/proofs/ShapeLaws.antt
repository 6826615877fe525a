-- Constructors that are the same, and shapes that go on from others.
use Rattle.std.proofs.Common.{◌≡◌, ℕ, zero, suc, ◌+◌, ◌<◌, ◌≤◌, ◌↔◌, IsTrue, Bool, true, false, true≢false, List, [], ◌∷◌, ◌++◌, map, length, length-append, take, drop, get_or, refl, sym, ap, ◌∙◌, arith}
use Rattle.std.specs.Bool.{Decides}
use Rattle.std.specs.Cmp.Lexicographic.{pointwise}
use Rattle.std.proofs.lemmas.Bool.Decides.{nat_tests}
use Rattle.std.proofs.lemmas.Slice.Eq.{slice_eq-Decides}
use Rattle.std.proofs.lemmas.List.{map-append, length-map, take-append-drop, take_all, map_more}
use Rattle.sx_term.specs.declared.lex_kind.LexKind.{LexKind}
use Rattle.sx_term.specs.declared.lex_kind.LexKind.TheVariants.{Id, Num, Str}
use Rattle.sx_term.specs.declared.sort.Sort.{Sort}
use Rattle.sx_term.specs.declared.sort.Sort.TheVariants.{Lex, Plain, Typed}
use Rattle.sx_term.specs.contracts.lex_kind.LexKindPartialEq.TheImpl.{eq-value as kind_eq}
use Rattle.sx_term.specs.contracts.sort.SortPartialEq.TheImpl.{eq-value as sort_eq}
use Rattle.sx_term.specs.declared.con.Con.{Con}
use Rattle.sx_term.specs.Sorts.{Shape}
use Rattle.sx_term.specs.Shapes.{shape}

-- ---- constructors

kinds_same : (v w : LexKind) → kind_eq.it v w ≡ true → v ≡ w
kinds_same Id Id h = refl
kinds_same Id Num h = absurd (true≢false (sym h))
kinds_same Id Str h = absurd (true≢false (sym h))
kinds_same Num Id h = absurd (true≢false (sym h))
kinds_same Num Num h = refl
kinds_same Num Str h = absurd (true≢false (sym h))
kinds_same Str Id h = absurd (true≢false (sym h))
kinds_same Str Num h = absurd (true≢false (sym h))
kinds_same Str Str h = refl

kind_itself : (v : LexKind) → kind_eq.it v v ≡ true
kind_itself Id = refl
kind_itself Num = refl
kind_itself Str = refl

sorts_same : (a b : Sort) → sort_eq.it a b ≡ true → a ≡ b
sorts_same (Lex k) (Lex l) h = ap Lex (kinds_same k l h)
sorts_same (Lex k) (Plain m) h = absurd (true≢false (sym h))
sorts_same (Lex k) (Typed m) h = absurd (true≢false (sym h))
sorts_same (Plain n) (Lex l) h = absurd (true≢false (sym h))
sorts_same (Plain n) (Plain m) h = grind (arith, nat_tests)
sorts_same (Plain n) (Typed m) h = absurd (true≢false (sym h))
sorts_same (Typed n) (Lex l) h = absurd (true≢false (sym h))
sorts_same (Typed n) (Plain m) h = absurd (true≢false (sym h))
sorts_same (Typed n) (Typed m) h = grind (arith, nat_tests)

sort_itself : (a : Sort) → sort_eq.it a a ≡ true
sort_itself (Lex k) = kind_itself k
sort_itself (Plain n) = grind (arith, nat_tests)
sort_itself (Typed n) = grind (arith, nat_tests)

same_sort : (a b : Sort) → Decides (sort_eq.it a b) (a ≡ b)
same_sort a b = (sorts_same a b, λ e. ap (sort_eq.it a) (sym e) ∙ sort_itself a)

-- the sorts are the same, and so are the kids'
pub same_con : (c d : Con) (b : Bool) → sort_eq.it c.sort d.sort ≡ true → b ≡ pointwise sort_eq.it c.kids.items d.kids.items → IsTrue b ↔ (shape c ≡ shape d)
same_con c d b s e =
    let kids = slice_eq-Decides same_sort c.kids.items d.kids.items b e in (
      λ t. let k = kids.0 t in let q = sorts_same c.sort d.sort s in λ i. record { sort = q i; kids = k i },
      λ same. kids.1 (ap (λ (x : Shape). x.kids) same),
    )

-- the sorts are not the same
pub other_con : (c d : Con) (b : Bool) → b ≡ false → b ≡ sort_eq.it c.sort d.sort → IsTrue b ↔ (shape c ≡ shape d)
other_con c d b f e = (
  λ t. absurd (true≢false (sym t ∙ f)),
  λ same. e ∙ (same_sort c.sort d.sort).1 (ap (λ (x : Shape). x.sort) same),
)

-- ---- shapes

-- all are the first ones and then more
abbrev GoesOn : List Con → List Con → Type 0
GoesOn all first = (new : List Shape) × (map shape all ≡ map shape first ++ new)

never : (P : Type 0) → (P → ⊥) → IsTrue false ↔ P
never P n = (λ t. absurd (true≢false (sym t)), λ p. absurd (n p))

pub too_few : (all first : List Con) → length all < length first → IsTrue false ↔ GoesOn all first
too_few all first h = never (GoesOn all first) (λ g.
    let long = ap length g.1 in
    omega (arith, h, long, length-map all shape, length-map first shape, length-append (map shape first) g.0))

same_at : (all first : List Con) (new : List Shape) (i : ℕ) (a f : Con) → i < length all → i < length first → a ≡ get_or all i a → f ≡ get_or first i f → map shape all ≡ map shape first ++ new → shape f ≡ shape a
same_at [] first new i a f h k p q e = absurd (omega arith)
same_at (x ∷ all) [] new i a f h k p q e = absurd (omega arith)
same_at (x ∷ all) (y ∷ first) new zero a f h k p q e = let s : shape x ≡ shape y = cc in ap shape q ∙ sym s ∙ ap shape (sym p)
same_at (x ∷ all) (y ∷ first) new (suc i) a f h k p q e = let t : map shape all ≡ map shape first ++ new = cc in same_at all first new i a f (omega arith) (omega arith) p q t

pub one_differs : (all first : List Con) (i : ℕ) (a f : Con) (b : Bool) → i < length all → i < length first → a ≡ get_or all i a → f ≡ get_or first i f → b ≡ false → (IsTrue b ↔ (shape f ≡ shape a)) → IsTrue false ↔ GoesOn all first
one_differs all first i a f b h k p q w d = never (GoesOn all first) (λ g. true≢false (sym (d.1 (same_at all first g.0 i a f h k p q g.1)) ∙ w))

pub one_more : (all first : List Con) (i : ℕ) (a f : Con) → i < length all → i < length first → a ≡ get_or all i a → f ≡ get_or first i f → shape f ≡ shape a
    → map shape (take i all) ≡ map shape (take i first) → map shape (take (i + 1) all) ≡ map shape (take (i + 1) first)
one_more all first i a f h k p q same e =
    map_more shape all i a h
    ∙ (λ n. e n ++ (ap shape (sym p) ∙ sym same ∙ ap shape q) n ∷ [])
    ∙ sym (map_more shape first i f k)

pub all_same : (all first : List Con) (i : ℕ) → length first ≤ i → map shape (take i all) ≡ map shape (take i first) → IsTrue true ↔ GoesOn all first
all_same all first i h e = (λ t. (map shape (drop i all), whole), λ g. refl)
  where
    whole : map shape all ≡ map shape first ++ map shape (drop i all)
    whole = ap (map shape) (sym (take-append-drop i all)) ∙ map-append shape (take i all) (drop i all)
        ∙ ap (λ (front : List Shape). front ++ map shape (drop i all)) (e ∙ ap (map shape) (take_all i first h))
