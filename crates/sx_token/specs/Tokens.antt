-- What an answer of `tokens` says of the text.
use Rattle.std.specs.Prelude.{List, map, Option, Some, None, Result, Ok, Err}
use Rattle.std.specs.Global.{Vec}
use Rattle.sx_term.specs.Cutting.{Piece, Outcome, tokens, not_utf8, bad_token, too_many}
use Rattle.sx_term.specs.Cutting.{open_string}
use Rattle.sx_token.specs.declared.token.Token.{Token}
use Rattle.sx_token.specs.declared.token_error.TokenError.{TokenError}
use Rattle.sx_token.specs.declared.token_error.TokenError.TheVariants.{NotUtf8, BadToken}
use Rattle.sx_token.specs.declared.token_error.TokenError.TheVariants.{TooManyTokens, OpenString}
use Rattle.sx_token.specs.declared.token_error.TokenError.TheVariants.{Memory}

-- a token as plain data
abbrev pub piece_of : Token → Piece
piece_of t = record { mark = t.mark; text = t.text; from = t.from; to = t.to }

abbrev pub pieces : List Token → List Piece
pieces ts = map piece_of ts

-- what the answer says, where memory did not run out
abbrev pub outcome_of : Result (Vec Token) TokenError → Option Outcome
outcome_of (Ok v) = Some (tokens (pieces v.items))
outcome_of (Err (NotUtf8 place)) = Some (not_utf8 place)
outcome_of (Err (BadToken place)) = Some (bad_token place)
outcome_of (Err TooManyTokens) = Some too_many
outcome_of (Err (OpenString place)) = Some (open_string place)
outcome_of (Err Memory) = None
