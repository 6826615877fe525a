-- The first plain constructor without an entry.
use Rattle.std.proofs.Common.{◌≡◌, ℕ, suc, ◌+◌, ◌<◌, ◌≤◌, ◌↔◌, IsTrue, Bool, true, false, List, [], ◌∷◌, map, length, get_or, Option, Some, None, refl, sym, ap, ◌∙◌, subst, arith}
use Rattle.std.specs.Prelude.{slice_get, IsSome, nat_lt, option_map}
use Rattle.std.proofs.lemmas.Option.{slice_get-map, slice_get_read, slice_get_within}
use Rattle.std.proofs.lemmas.Bool.{ltb-true, ltb-false}
use Rattle.sx_term.specs.declared.con.Con.{Con}
use Rattle.sx_term.specs.Sorts.{Shape}
use Rattle.sx_term.specs.Shapes.{shape}
use Rattle.sx_term.specs.Untyped.{IsUntypedSort}
use Rattle.sx_plain.specs.Plain.{Body, Table}
use Rattle.sx_extension.specs.PlainTables.{IsPlainLabel, LacksEntry, HasAll}

module _ (shapes : List Shape) (first : ℕ) (table : Table) where
  -- up to here each has an entry
  abbrev pub HaveUpTo : ℕ → Type 0
  HaveUpTo label = (other : ℕ) → first ≤ other → other < label → IsPlainLabel shapes other → IsSome (table other)

  entry_there : (o : Option Body) → (o ≡ None → ⊥) → IsSome o
  entry_there None n = absurd (n refl)
  entry_there (Some b) n = refl

  pub one_more : (label : ℕ) (b : Bool) → b ≡ false → (IsTrue b ↔ LacksEntry shapes table label) → HaveUpTo label → HaveUpTo (label + 1)
  one_more label b f same h other l k p = go (nat_lt other label) refl
    where
      go : (c : Bool) → nat_lt other label ≡ c → IsSome (table other)
      go true t = h other l (ltb-true other label t) p
      go false t =
          let m = ltb-false other label t in
          let q : label ≡ other = omega (arith, m, k) in
          entry_there (table other) (λ n. let x : b ≡ true = same.1 (subst (λ (i : ℕ). LacksEntry shapes table i) (sym q) (p, n)) in let y : true ≡ false = sym x ∙ f in cc)

  pub all_there : (label : ℕ) → length shapes ≤ label → HaveUpTo label → HasAll shapes first table
  all_there label d h other l p =
      let k = slice_get_within shapes other p.0 p.1 in
      h other l (omega (arith, k, d)) p

-- as many shapes as constructors
pub as_many : (cons : List Con) → length (map shape cons) ≡ length cons
as_many [] = refl
as_many (c ∷ cons) = ap suc (as_many cons)

-- a constructor of a row
pub plain_at : (cons : List Con) (i : ℕ) (c : Con) (b : Bool) → i < length (map shape cons) → c ≡ get_or cons i c → (IsTrue b ↔ IsUntypedSort c.sort) → IsTrue b ↔ IsPlainLabel (map shape cons) i
plain_at cons i c b h e same =
    let small : i < length cons = subst (λ (n : ℕ). i < n) (as_many cons) h in
    let at : slice_get (map shape cons) i ≡ Some (shape c) = slice_get-map shape cons i ∙ ap (option_map shape) (slice_get_read cons (length cons) i c refl small e) in
    (λ t. (shape c, at, same.0 t), λ p. same.1 (let q : Some p.0 ≡ Some (shape c) = sym p.1 ∙ at in let r : p.0 ≡ shape c = cc in subst (λ (s : Shape). IsUntypedSort s.sort) r p.2))
