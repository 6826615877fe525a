-- Names that are no literals.
use Rattle.std.specs.Prelude.{◌≡◌, ℕ, List, ◌∷◌, ◌++◌, Contains}
use Rattle.std.specs.List.{AllByRecursion}

-- none of the names is a literal
abbrev pub AreFree : (literals names : List (List ℕ)) → Type 0
AreFree literals names = AllByRecursion (λ name. ¬ (Contains literals name)) names

-- the word is the first of the names that is a literal
pub record IsFirstIn (literals names : List (List ℕ)) (word : List ℕ) : Type 0 where
  pub front : List (List ℕ)
  pub rest : List (List ℕ)
  pub is : names ≡ front ++ word ∷ rest
  pub free : AreFree literals front
  pub literal : Contains literals word
