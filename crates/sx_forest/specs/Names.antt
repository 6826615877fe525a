-- The names of the metavariables in a reading.
use Rattle.std.specs.Prelude.{◌≡◌, ℕ, List, [], ◌∷◌, ◌++◌, Option, Some, None, slice_get}
use Rattle.std.specs.Prelude.{slice_index_or}
use Rattle.sx_term.specs.declared.lex_kind.LexKind.{LexKind}
use Rattle.sx_term.specs.declared.mark.Mark.TheVariants.{Lex, Meta}
use Rattle.sx_term.specs.Vars.{IsAdded, without_tilde}
use Rattle.sx_token.specs.declared.token.Token.{Token}
use Rattle.sx_grammar.specs.Grammar.{Text}
use Rattle.sx_grammar.specs.Reading.{Reading, Readings, branch, bracket, leaf, variable, done, ◌▸◌}
use Rattle.sx_forest.specs.Text.{token_texts}

-- there is a token, and it is a lexeme
abbrev pub IsLexeme : Option Token → Type 0
IsLexeme None = ⊥
IsLexeme (Some t) = (kind : LexKind) × (t.mark ≡ Lex kind)

-- there is a token, and it is a metavariable
abbrev pub IsMetavariable : Option Token → Type 0
IsMetavariable None = ⊥
IsMetavariable (Some t) = t.mark ≡ Meta

abbrev mutual
  -- each lexeme of the reading is one of the tokens, and each metavariable too
  pub IsMarked : List Token → Reading → Type 0
  IsMarked tokens (branch label kids from to) = AreMarked tokens kids
  IsMarked tokens (bracket inner from to) = IsMarked tokens inner
  IsMarked tokens (leaf token) = IsLexeme (slice_get tokens token)
  IsMarked tokens (variable token) = IsMetavariable (slice_get tokens token)

  -- so it is of each reading
  pub AreMarked : List Token → Readings → Type 0
  AreMarked tokens done = Unit {0}
  AreMarked tokens (kid ▸ kids) = IsMarked tokens kid × AreMarked tokens kids

abbrev mutual
  -- the names of the metavariables in order of standing, without `~`
  pub reading_names : List Token → Reading → List Text
  reading_names tokens (branch label kids from to) = names_of_kids tokens kids
  reading_names tokens (bracket inner from to) = reading_names tokens inner
  reading_names tokens (leaf token) = []
  reading_names tokens (variable token) = without_tilde
      (slice_index_or (token_texts tokens) token []) ∷
      []

  pub names_of_kids : List Token → Readings → List Text
  names_of_kids tokens done = []
  names_of_kids tokens (kid ▸ kids) = reading_names tokens kid ++ names_of_kids tokens kids

-- the new list is the old one and those of the names that are not in it, each added once, in order
abbrev pub AddsEach : (old names new : List Text) → Type 0
AddsEach old [] new = new ≡ old
AddsEach old (name ∷ names) new = (middle : List Text) × (number : ℕ) ×
    IsAdded old middle name number × AddsEach middle names new

-- some of the names, the first ones, were added
abbrev pub AddsFront : (old names new : List Text) → Type 0
AddsFront old names new = (front : List Text) × (back : List Text) × (names ≡ front ++ back) ×
    AddsEach old front new
