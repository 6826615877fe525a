-- The tree text of a reading.
use Rattle.std.specs.Prelude.{ℕ, ◌<◌, List, [], ◌∷◌, ◌++◌, map, slice_index_or, codes, refl, ◌≡◌}
use Rattle.sx_token.specs.declared.token.Token.{Token}
use Rattle.sx_grammar.specs.Grammar.{Text}
use Rattle.sx_grammar.specs.Reading.{Reading, Readings, branch, bracket, leaf, variable, done, ◌▸◌}

-- the texts of the tokens
abbrev pub token_texts : List Token → List Text
token_texts tokens = map (λ t. t.text) tokens

abbrev mutual
  -- a label with the kids behind it, an inner reading between `[` and `]`, or the text of a token
  pub tree_text : (labels texts : List Text) → Reading → Text
  tree_text labels texts (branch label kids from to) =
      slice_index_or labels label [] ++ kids_text labels texts kids
  tree_text labels texts (bracket inner from to) = 91 ∷ (tree_text labels texts inner ++ 93 ∷ [])
  tree_text labels texts (leaf token) = slice_index_or texts token []
  tree_text labels texts (variable token) = slice_index_or texts token []

  -- where there are kids, they stand between `(` and `)`
  pub kids_text : (labels texts : List Text) → Readings → Text
  kids_text labels texts done = []
  kids_text labels texts (kid ▸ others) = 40 ∷
      (tree_text labels texts kid ++ (others_text labels texts others ++ 41 ∷ []))

  -- each behind a comma
  pub others_text : (labels texts : List Text) → Readings → Text
  others_text labels texts done = []
  others_text labels texts (kid ▸ others) = 44 ∷
      (tree_text labels texts kid ++ others_text labels texts others)

-- a node with a bracket and a node without kids, which has label 1
example_text : tree_text (codes "add" ∷ codes "zero" ∷ []) (codes "x" ∷ [])
    (branch 0 (bracket (leaf 0) 0 0 ▸ branch 1 done 0 0 ▸ done) 0 0) ≡ codes "add([x],zero)"
example_text = refl

abbrev mutual
  -- its labels are below this many, and its tokens below that many
  pub IsWithin : (labels tokens : ℕ) → Reading → Type 0
  IsWithin labels tokens (branch label kids from to) =
      (label < labels) × AreWithin labels tokens kids
  IsWithin labels tokens (bracket inner from to) = IsWithin labels tokens inner
  IsWithin labels tokens (leaf token) = token < tokens
  IsWithin labels tokens (variable token) = token < tokens

  -- so it is of each reading
  pub AreWithin : (labels tokens : ℕ) → Readings → Type 0
  AreWithin labels tokens done = Unit {0}
  AreWithin labels tokens (kid ▸ kids) = IsWithin labels tokens kid × AreWithin labels tokens kids
