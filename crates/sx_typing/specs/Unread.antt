-- Why a text is not read.
use Rattle.std.specs.Prelude.{List, [], length}
use Rattle.sx_term.specs.declared.sort.Sort.{Sort}
use Rattle.sx_token.specs.declared.token.Token.{Token}
use Rattle.sx_token.specs.declared.token_error.TokenError.{TokenError}
use Rattle.sx_token.specs.declared.token_error.TokenError.TheVariants as token
use Rattle.sx_grammar.specs.Grammar.{Text}
use Rattle.sx_grammar.specs.Parts.{Parts}
use Rattle.sx_notation.specs.WhyUnread.{IsUnreadAs}
use Rattle.sx_typing.specs.declared.unread_text.UnreadText.{UnreadText}
use Rattle.sx_typing.specs.declared.unread_text.UnreadText.TheVariants.{Memory, Read}
use Rattle.sx_typing.specs.declared.unread_text.UnreadText.TheVariants.{Token as BadTokens}
use Rattle.sx_typing.specs.Body.{IsCut, HasDefect}

-- a defect as a refusal
abbrev pub of_token_error : TokenError → UnreadText
of_token_error token.Memory = Memory
of_token_error e = BadTokens e

-- the text has this first defect, or its tokens have not one reading as the sort; out of memory is
-- free
abbrev pub IsUnreadText : Parts → Sort → (text : Text) → UnreadText → Type 0
IsUnreadText p sort text Memory = Unit {0}
IsUnreadText p sort text (BadTokens e) = HasDefect p text e
IsUnreadText p sort text (Read u) = (ts : List Token) × IsCut p text ts ×
    IsUnreadAs p [] sort ts (length text) u
