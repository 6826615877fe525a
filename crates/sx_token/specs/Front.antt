-- What stands at the front of a text: blanks or a comment, a token, a string without end, or none
-- of these.
use Rattle.std.specs.Prelude.{◌≡◌, ℕ, ◌<◌, ◌==◌, Bool, IsFalse, List, ◌++◌, take, drop}
use Rattle.std.specs.Char.{encode_utf8, is_ascii_digit}
use Rattle.std.specs.Str.{IsCharBoundary}
use Rattle.sx_term.specs.Cutting.{is_blank_or_feed, is_symbol, Skips, Stands, IsOpenString}
use Rattle.sx_term.specs.Cutting.{IsBadToken}
use Rattle.sx_token.specs.declared.front.Front.{Front}
use Rattle.sx_token.specs.declared.front.Front.TheVariants.{Skip, Token, Open, Bad}

-- the first n bytes are whole characters, and at least one
abbrev pub AreWholeCharacters : List ℕ → ℕ → Type 0
AreWholeCharacters text n = (0 < n) × IsCharBoundary text n

-- what stands at the front of the text
abbrev pub StandsInFront : List (List ℕ) → Bool → List ℕ → Front → Type 0
StandsInFront literals metas text (Skip n) = AreWholeCharacters text n × Skips text (drop n text)
StandsInFront literals metas text (Token mark n) =
    AreWholeCharacters text n × Stands literals metas mark (take n text) (drop n text)
StandsInFront literals metas text Open = IsOpenString text
StandsInFront literals metas text Bad = IsBadToken literals metas text

-- the text begins with a character that is no blank, digit, quote, tilde or symbol
pub record IsOther (text : List ℕ) : Type 0 where
  pub first : ℕ
  pub others : List ℕ
  pub split : text ≡ encode_utf8 first ++ others
  pub no_blank : IsFalse (is_blank_or_feed first)
  pub no_digit : IsFalse (is_ascii_digit first)
  pub no_quote : IsFalse (first == 34)
  pub no_tilde : IsFalse (first == 126)
  pub no_symbol : IsFalse (is_symbol first)
