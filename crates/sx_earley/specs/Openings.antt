-- What begins productions.
use Rattle.std.specs.Prelude.{◌≡◌, ◌<◌, ◌⊎◌, ℕ, List, [], ◌∷◌, ◌++◌, Some, map, Contains}
use Rattle.sx_grammar.specs.declared.head.Head.{Head}
use Rattle.sx_grammar.specs.declared.head.Head.TheVariants.{Labelled, Bracketed}
use Rattle.sx_grammar.specs.Grammar.{Production, production_of}
use Rattle.sx_grammar.specs.Tables.{GrammarData}
use Rattle.sx_grammar.specs.Tally.{EachOnce}
use Rattle.sx_earley.specs.declared.opening.Opening.{Opening}
use Rattle.sx_earley.specs.declared.table.Table.{Table}
use Rattle.sx_earley.specs.Shown.{plain}
use Rattle.sx_earley.specs.Table.{row_at}
use Rattle.sx_earley.specs.Chart.{IsOfSort, beginning}
use Rattle.sx_earley.specs.Dotted.{IsNextSymbol}

-- the head makes the sort, and these are its level and its first symbol
pub record IsOpening (d : GrammarData) (sort : ℕ) (o : Opening) : Type 0 where
  pub production : Production
  pub is : production_of (plain d) o.head ≡ Some production
  pub same_sort : production.sort ≡ sort
  pub same_level : production.level ≡ o.level
  pub first : IsNextSymbol d (beginning o.head 0) o.first

-- these begin the productions of the sort, each once
pub record HasOpenings (d : GrammarData) (sort : ℕ) (row : List Opening) : Type 0 where
  pub only : (o : Opening) → Contains row o → IsOpening d sort o
  pub every : (head : Head) (least : ℕ) → IsOfSort (production_of (plain d) head) sort least →
      (o : Opening) × Contains row o × (o.head ≡ head)
  pub once : EachOnce (map (λ o. o.head) row)

-- the row of the sort
abbrev pub openings_of : Table Opening → ℕ → List Opening
openings_of t sort = row_at t (record { place = 0; sort = sort })

-- the rows have what begins productions
abbrev pub HasAllOpenings : GrammarData → Table Opening → Type 0
HasAllOpenings d t = (sort : ℕ) → HasOpenings d sort (openings_of t sort)

-- the rows have the openings of these heads
pub record AreFiled (d : GrammarData) (IsFiled : Head → Type 0) (t : Table Opening) : Type 0 where
  pub only : (sort : ℕ) (o : Opening) → Contains (openings_of t sort) o →
      IsOpening d sort o × IsFiled o.head
  pub every : (head : Head) → IsFiled head → (sort least : ℕ) →
      IsOfSort (production_of (plain d) head) sort least →
      (o : Opening) × Contains (openings_of t sort) o × (o.head ≡ head)
  pub once : (sort : ℕ) → EachOnce (map (λ o. o.head) (openings_of t sort))

-- one of the first so many labels, or of the first so many bracket pairs
abbrev pub IsBelow : ℕ → ℕ → Head → Type 0
IsBelow labels sorts (Labelled label) = label < labels
IsBelow labels sorts (Bracketed sort) = sort < sorts

-- the opening of the head is added to the row of its sort
pub record AddsOpening (d : GrammarData) (head : Head) (old new : Table Opening) : Type 0 where
  pub sort : ℕ
  pub opening : Opening
  pub is : IsOpening d sort opening
  pub same_head : opening.head ≡ head
  pub row : openings_of new sort ≡ openings_of old sort ++ opening ∷ []
  pub rows : (other : ℕ) → (openings_of new other ≡ openings_of old other) ⊎ (other ≡ sort)

-- so it is if the head makes a sort
abbrev pub MayAddOpening : GrammarData → Head → Table Opening → Table Opening → Type 0
MayAddOpening d head old new = AddsOpening d head old new ⊎
    (((sort least : ℕ) → IsOfSort (production_of (plain d) head) sort least → ⊥) × (new ≡ old))
