-- The first of some names that is a literal.
use Rattle.std.proofs.Common.{◌≡◌, List, ℕ, [], ◌∷◌, ◌++◌, Contains, sym, ◌∙◌, subst}
use Rattle.sx_interface.specs.FreeNames.{AreFree, IsFirstIn}

module _ (literals : List (List ℕ)) where
  same_head : (a b : List ℕ) (xs ys : List (List ℕ)) → a ∷ xs ≡ b ∷ ys → a ≡ b
  same_head a b xs ys e = cc

  same_tail : (a b : List ℕ) (xs ys : List (List ℕ)) → a ∷ xs ≡ b ∷ ys → xs ≡ ys
  same_tail a b xs ys e = cc

  firsts_one : (front rest others more : List (List ℕ)) (word other : List ℕ) →
      front ++ word ∷ rest ≡ others ++ other ∷ more →
      AreFree literals front → AreFree literals others → Contains literals word →
      Contains literals other → word ≡ other
  firsts_one [] rest [] more word other e f g h k = same_head word other rest more e
  firsts_one [] rest (o ∷ others) more word other e f g h k =
      absurd (g.0 (subst (Contains literals) (same_head word o rest (others ++ other ∷ more) e) h))
  firsts_one (w ∷ front) rest [] more word other e f g h k =
      absurd (f.0 (subst (Contains literals) (sym (same_head w other (front ++ word ∷ rest) more e))
      k))
  firsts_one (w ∷ front) rest (o ∷ others) more word other e f g h k =
      firsts_one front rest others more word other
      (same_tail w o (front ++ word ∷ rest) (others ++ other ∷ more) e) f.1 g.1 h k

  pub first_one : (names : List (List ℕ)) (word other : List ℕ) → IsFirstIn literals names word →
      IsFirstIn literals names other → word ≡ other
  first_one names word other h k =
      firsts_one h.front h.rest k.front k.rest word other (sym h.is ∙ k.is) h.free k.free h.literal
      k.literal

  free_at : (front rest : List (List ℕ)) (word : List ℕ) →
      AreFree literals (front ++ word ∷ rest) → Contains literals word → ⊥
  free_at [] rest word f h = f.0 h
  free_at (w ∷ front) rest word f h = free_at front rest word f.1 h

  -- where there is a first one not all are free
  pub first_none : (names : List (List ℕ)) (word : List ℕ) → IsFirstIn literals names word →
      AreFree literals names → ⊥
  first_none names word h f =
      free_at h.front h.rest word (subst (AreFree literals) h.is f) h.literal
