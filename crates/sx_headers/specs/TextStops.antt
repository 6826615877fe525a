-- The stops of texts of modules that are not read.
use Rattle.std.specs.Prelude.{ℕ, List, Option, Some, None}
use Rattle.sx_token.specs.declared.token_error.TokenError.{TokenError}
use Rattle.sx_token.specs.declared.token_error.TokenError.TheVariants as token_error
use Rattle.sx_notation.specs.declared.unread.Unread.{Unread}
use Rattle.sx_notation.specs.declared.unread.Unread.TheVariants as unread
use Rattle.sx_words.specs.declared.position.Position.TheVariants.{Spot}
use Rattle.sx_words.specs.declared.text_defect.TextDefect.{TextDefect}
use Rattle.sx_words.specs.declared.text_defect.TextDefect.TheVariants as text_defect
use Rattle.sx_words.specs.declared.refusal.Defect.TheVariants as defect
use Rattle.sx_steps.specs.declared.stop.Stop.{Stop}
use Rattle.sx_steps.specs.Refusal.{about}
use Rattle.sx_steps.specs.Stops.{defect_at, not_utf8, too_deep}

-- a defect of the text at a line and a column
abbrev pub at_spot : List ℕ → ℕ → ℕ → TextDefect → Stop
at_spot file line column what = defect_at (Spot line column) file (defect.Text what)

-- the text is not cut into tokens; where there are too many, no place is told, and out of memory
-- is no stop
abbrev pub uncut_text : List ℕ → ℕ → ℕ → TokenError → Option Stop
uncut_text file line column token_error.Memory = None
uncut_text file line column (token_error.NotUtf8 before) = Some (not_utf8 file before)
uncut_text file line column (token_error.BadToken place) =
    Some (at_spot file line column text_defect.BadToken)
uncut_text file line column token_error.TooManyTokens =
    Some (about file (defect.Text text_defect.TooManyTokens))
uncut_text file line column (token_error.OpenString place) =
    Some (at_spot file line column text_defect.OpenString)

-- its tokens have not one reading; a place is told only where there is none
abbrev pub unread_text : List ℕ → ℕ → ℕ → Unread → Stop
unread_text file line column unread.TooHard = about file (defect.Text text_defect.TooHard)
unread_text file line column (unread.NoReading place) =
    at_spot file line column text_defect.NoReading
unread_text file line column (unread.TooDeep depth) = too_deep file depth
unread_text file line column (unread.Ambiguous one other) =
    about file (defect.Text (text_defect.Ambiguous one other))
