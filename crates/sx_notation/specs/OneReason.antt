-- Tokens have one reason why they have not one reading.
use Rattle.std.specs.Prelude.{◌≡◌, ◌≢◌, ◌⊎◌, ℕ, List}
use Rattle.sx_term.specs.declared.sort.Sort.{Sort}
use Rattle.sx_token.specs.declared.token.Token.{Token}
use Rattle.sx_grammar.specs.Grammar.{Text}
use Rattle.sx_grammar.specs.Parts.{Parts, numbered}
use Rattle.sx_grammar.specs.Reading.{Reading, ReadsWhole}
use Rattle.sx_earley.specs.Tokens.{Stems, plain_tokens}
use Rattle.sx_earley.specs.Completed.{sort_number}
use Rattle.sx_notation.specs.declared.unread.Unread.{Unread}
use Rattle.sx_notation.specs.declared.unread.Unread.TheVariants.{Ambiguous}
use Rattle.sx_notation.specs.WhyUnread.{IsUnreadAs}

-- the tokens have this reading as the sort
abbrev pub LineHasReading : Parts → Stems → Sort → List Token → Reading → Type 0
LineHasReading p stems sort ts r = ReadsWhole (numbered p) (plain_tokens stems ts)
    (sort_number sort) r

-- they have more than two readings
pub record HaveThree (p : Parts) (stems : Stems) (sort : Sort) (ts : List Token) : Type 0 where
  pub one : Reading
  pub two : Reading
  pub three : Reading
  pub first : LineHasReading p stems sort ts one
  pub second : LineHasReading p stems sort ts two
  pub third : LineHasReading p stems sort ts three
  pub one_two : one ≢ two
  pub one_three : one ≢ three
  pub two_three : two ≢ three

-- both show two readings
pub record ShowTwo (u v : Unread) : Type 0 where
  pub one : Text
  pub other : Text
  pub some : Text
  pub more : Text
  pub first : u ≡ Ambiguous one other
  pub second : v ≡ Ambiguous some more

-- Tokens have one reason why they have not one reading, and two readings that it shows are the same
-- two in the same order, that of their tree texts by bytes. Only where there are more than two
-- readings it is free which two are shown.
abbrev pub OneReason : Type 0
OneReason =
    (p : Parts) (stems : Stems) (sort : Sort) (ts : List Token) (size : ℕ) (u v : Unread) →
    IsUnreadAs p stems sort ts size u → IsUnreadAs p stems sort ts size v →
    (u ≡ v) ⊎ (ShowTwo u v × HaveThree p stems sort ts)
