-- Well sorted terms.
use Rattle.std.specs.Prelude.{◌≡◌, List, [], ◌∷◌, Some, slice_get}
use Rattle.sx_term.specs.Tree.{Tree, Trees, node, lexeme, hole, none, ◌▹◌}
use Rattle.sx_term.specs.declared.sort.Sort.{Sort}
use Rattle.sx_term.specs.declared.sort.Sort.TheVariants.{Lex}

-- a constructor: its sort and the sorts of its parts
pub record Shape : Type 0 where
  pub sort : Sort
  pub kids : List Sort

abbrev mutual
  -- the term has the sort, where the variables have the sorts of a list and the labels the shapes
  -- of a list
  pub HasSort : List Shape → List Sort → Tree → Sort → Type 0
  HasSort shapes vars (node label kids) sort =
      (shape : Shape) × (slice_get shapes label ≡ Some shape) × (shape.sort ≡ sort) ×
      KidsHaveSorts shapes vars kids shape.kids
  HasSort shapes vars (lexeme kind text) sort = sort ≡ Lex kind
  HasSort shapes vars (hole v) sort = slice_get vars v ≡ Some sort

  -- each kid has the sort at its place, and there are as many kids as sorts
  pub KidsHaveSorts : List Shape → List Sort → Trees → List Sort → Type 0
  KidsHaveSorts shapes vars none [] = Unit {0}
  KidsHaveSorts shapes vars (t ▹ ts) (sort ∷ sorts) =
      HasSort shapes vars t sort × KidsHaveSorts shapes vars ts sorts
  KidsHaveSorts shapes vars _ _ = ⊥

-- each term has the sort at its place, and there are as many terms as sorts
abbrev pub HaveSorts : List Shape → List Sort → List Tree → List Sort → Type 0
HaveSorts shapes vars [] [] = Unit {0}
HaveSorts shapes vars (t ∷ ts) (sort ∷ sorts) =
    HasSort shapes vars t sort × HaveSorts shapes vars ts sorts
HaveSorts shapes vars _ _ = ⊥
