-- The line of tokens.
use Rattle.std.specs.Prelude.{ℕ, List, [], ◌∷◌, ◌++◌, flat_map}
use Rattle.sx_token.specs.declared.token.Token.{Token}

-- the tokens' texts, each with a blank before it
abbrev pub behind_blanks : List Token → List ℕ
behind_blanks ts = flat_map (λ t. 32 ∷ t.text) ts

-- the tokens' texts with one blank between them, and a line feed
abbrev pub token_line : List Token → List ℕ
token_line [] = 10 ∷ []
token_line (t ∷ ts) = t.text ++ (behind_blanks ts ++ 10 ∷ [])
