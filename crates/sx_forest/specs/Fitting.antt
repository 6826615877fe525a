-- What reads the tokens meets the conditions of the calls.
use Rattle.std.specs.Prelude.{ℕ, ◌+◌, ◌≤◌, List, length}
use Rattle.sx_token.specs.declared.token.Token.{Token}
use Rattle.sx_grammar.specs.Grammar as plain
use Rattle.sx_grammar.specs.Parts.{Parts, numbered}
use Rattle.sx_grammar.specs.Reading.{Reading, Reads}
use Rattle.sx_earley.specs.Tokens.{Stems, plain_tokens}
use Rattle.sx_forest.specs.Text.{IsWithin}
use Rattle.sx_forest.specs.Names.{IsMarked, reading_names}

-- the labels and tokens of what reads the tokens by a grammar are the grammar's and theirs
abbrev pub ReadingsAreWithin : Type 0
ReadingsAreWithin = (p : Parts) (tokens : List plain.Token) (sort least from to : ℕ) (r : Reading) →
    Reads (numbered p) tokens sort least from to r →
    IsWithin (length p.productions) (length tokens) r

-- its lexemes and metavariables are those of the tokens
abbrev pub ReadingsAreMarked : Type 0
ReadingsAreMarked = (g : plain.Grammar) (stems : Stems) (tokens : List Token)
    (sort least from to : ℕ) (r : Reading) →
    Reads g (plain_tokens stems tokens) sort least from to r → IsMarked tokens r

-- it has no more names than it reads tokens
abbrev pub ReadingsHaveFewNames : Type 0
ReadingsHaveFewNames = (g : plain.Grammar) (tokens : List plain.Token) (all : List Token)
    (sort least from to : ℕ) (r : Reading) →
    Reads g tokens sort least from to r → from + length (reading_names all r) ≤ to
