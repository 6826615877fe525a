-- Texts that are read without metavariables.
use Rattle.std.specs.Prelude.{◌≡◌, false, List, [], IfSome, Err}
use Rattle.sx_term.specs.declared.sort.Sort.{Sort}
use Rattle.sx_term.specs.Cutting.{IsOutcome, tokens}
use Rattle.sx_term.specs.Tree.{Tree}
use Rattle.sx_token.specs.declared.token.Token.{Token}
use Rattle.sx_token.specs.declared.token_error.TokenError.{TokenError}
use Rattle.sx_token.specs.declared.token_error.TokenError.TheVariants as token
use Rattle.sx_token.specs.Tokens.{pieces, outcome_of}
use Rattle.sx_grammar.specs.Grammar.{Text}
use Rattle.sx_grammar.specs.Parts.{Parts, numbered}
use Rattle.sx_grammar.specs.Tables.{literals_of}
use Rattle.sx_grammar.specs.Reading.{Reading}
use Rattle.sx_grammar.specs.ReadOne.{IsAnswer, only}
use Rattle.sx_grammar.specs.Print.{term_of}
use Rattle.sx_earley.specs.Tokens.{plain_tokens}
use Rattle.sx_earley.specs.Completed.{sort_number}

-- the text is cut into the tokens, by the literals of the grammar
abbrev pub IsCut : Parts → (text : Text) → List Token → Type 0
IsCut p text ts = IsOutcome (literals_of p) false text (tokens (pieces ts))

-- the text has this first defect
abbrev pub HasDefect : Parts → (text : Text) → TokenError → Type 0
HasDefect p text token.Memory = ⊥
HasDefect p text e = IfSome (outcome_of (Err e)) (IsOutcome (literals_of p) false text)

-- the text is cut into the tokens, these have only this reading as the sort, and its term is this
-- one
pub record ReadsAs (p : Parts) (sort : Sort) (text : Text) (ts : List Token) (r : Reading)
    (t : Tree) : Type 0 where
  pub cut : IsCut p text ts
  pub answer : IsAnswer (numbered p) (plain_tokens [] ts) (sort_number sort) (only r)
  pub term : t ≡ term_of (plain_tokens [] ts) [] r

-- so it is of some tokens and some reading
abbrev pub ReadsOnly : Parts → Sort → Text → Tree → Type 0
ReadsOnly p sort text t = (ts : List Token) × (r : Reading) × ReadsAs p sort text ts r t
