-- Why tokens of a text have not one reading, as it is told.
use Rattle.std.specs.Prelude.{◌≡◌, ℕ, List, Option, Some, None, slice_get}
use Rattle.sx_term.specs.declared.sort.Sort.{Sort}
use Rattle.sx_token.specs.declared.token.Token.{Token}
use Rattle.sx_grammar.specs.Grammar.{Text}
use Rattle.sx_grammar.specs.Parts.{Parts, labels, numbered}
use Rattle.sx_grammar.specs.Reading.{Reading}
use Rattle.sx_grammar.specs.ReadOne.{IsAnswer, too_hard, no_reading, too_deep, ambiguous}
use Rattle.sx_earley.specs.Tokens.{Stems, plain_tokens}
use Rattle.sx_earley.specs.Completed.{sort_number}
use Rattle.sx_forest.specs.declared.read_error.ReadError.{ReadError}
use Rattle.sx_forest.specs.Text.{token_texts, tree_text}
use Rattle.sx_forest.specs.Verdict.{IsReadRefusal, IsNotAfter}
use Rattle.sx_notation.specs.declared.unread.Unread.{Unread}
use Rattle.sx_notation.specs.declared.unread.Unread.TheVariants.{TooHard, NoReading, TooDeep}
use Rattle.sx_notation.specs.declared.unread.Unread.TheVariants.{Ambiguous}

-- where the token begins, or the number of the text's bytes where there is none
abbrev pub begin_of : Option Token → (size : ℕ) → ℕ
begin_of None size = size
begin_of (Some t) size = t.from

-- the same of the token with this number
abbrev pub place_in : List Token → (size : ℕ) → (number : ℕ) → ℕ
place_in ts size number = begin_of (slice_get ts number) size

-- the texts are those of two readings that are the answer
abbrev pub AreTwo : Parts → Stems → Sort → List Token → (one other : Text) → Type 0
AreTwo p stems sort ts one other =
    (r : Reading) × (s : Reading) ×
    IsAnswer (numbered p) (plain_tokens stems ts) (sort_number sort) (ambiguous r s) ×
    (one ≡ tree_text (labels p) (token_texts ts) r) × (other ≡ tree_text (labels p)
    (token_texts ts) s) ×
    IsNotAfter one other

-- why these tokens of a text of so many bytes have not one reading as the sort
abbrev pub IsUnreadAs : Parts → Stems → Sort → List Token → (size : ℕ) → Unread → Type 0
IsUnreadAs p stems sort ts size TooHard =
    IsAnswer (numbered p) (plain_tokens stems ts) (sort_number sort) too_hard
IsUnreadAs p stems sort ts size (NoReading place) =
    (end : ℕ) × IsAnswer (numbered p) (plain_tokens stems ts) (sort_number sort) (no_reading end) ×
    (place ≡ place_in ts size end)
IsUnreadAs p stems sort ts size (TooDeep depth) =
    IsAnswer (numbered p) (plain_tokens stems ts) (sort_number sort) (too_deep depth)
IsUnreadAs p stems sort ts size (Ambiguous one other) = AreTwo p stems sort ts one other

-- `read_one` refuses the tokens, or memory is lacking
abbrev pub IsReadError : Parts → Stems → Sort → List Token → ReadError → Type 0
IsReadError p stems sort ts e = IsReadRefusal (labels p) (token_texts ts) (numbered p)
    (plain_tokens stems ts)
    (sort_number sort) e
