-- How a text is cut into tokens.
use Rattle.std.specs.Prelude.{◌≡◌, ◌≢◌, ℕ, ◌+◌, ◌<◌, ◌≤◌, ◌==◌, Bool, not, ◌&&◌, ◌||◌, ◌⊎◌, IsTrue}
use Rattle.std.specs.Prelude.{List, [], ◌∷◌, ◌++◌, length, Some, slice_get, Contains}
use Rattle.std.specs.Char.{encode_utf8, is_ascii_digit, is_ascii_punctuation}
use Rattle.std.specs.Str.{encode_utf8_all, IsUtf8, IsValidUpTo}
use Rattle.std.specs.List.{AllByRecursion}
use Rattle.unicode_ident.specs.Ident.{is_xid_start, is_xid_continue}
use Rattle.sx_term.specs.declared.lex_kind.LexKind.TheVariants.{Id, Num, Str}
use Rattle.sx_term.specs.declared.mark.Mark.{Mark}
use Rattle.sx_term.specs.declared.mark.Mark.TheVariants.{Lit, Lex, Meta}
use Rattle.sx_term.specs.Limits.{most_tokens}

-- space, tab, line feed and carriage return
abbrev pub is_blank_or_feed : ℕ → Bool
is_blank_or_feed c = ((c == 32) || (c == 9)) || ((c == 10) || (c == 13))

-- ASCII punctuation other than `"`, `_` and `~`
abbrev pub is_symbol : ℕ → Bool
is_symbol c = is_ascii_punctuation c && not ((c == 34) || ((c == 95) || (c == 126)))

-- a character with which a word may begin
abbrev pub begins_word : ℕ → Bool
begins_word c = is_xid_start c || (c == 95)

-- a character that may stand in a comment: any but a line feed
abbrev pub is_in_line : ℕ → Bool
is_in_line c = not (c == 10)

-- a character that may stand between quotes: any but a quote and a line feed
abbrev pub is_in_string : ℕ → Bool
is_in_string c = not ((c == 34) || (c == 10))

-- the text begins with a character that passes the test
abbrev pub BeginsWhere : (ℕ → Bool) → List ℕ → Type 0
BeginsWhere p text = (c : ℕ) × (rest : List ℕ) × IsTrue (p c) × (text ≡ encode_utf8 c ++ rest)

-- the bytes are characters that pass the test
abbrev pub AreCharacters : (ℕ → Bool) → List ℕ → Type 0
AreCharacters p run = (cs : List ℕ) × AllByRecursion (λ c. IsTrue (p c)) cs ×
    (run ≡ encode_utf8_all cs)

-- a maximal run of such characters, before the rest
pub record IsMaximalRun (p : ℕ → Bool) (run rest : List ℕ) : Type 0 where
  pub characters : AreCharacters p run
  pub maximal : ¬ (BeginsWhere p rest)

-- a maximal word, before the rest
pub record IsWord (text rest : List ℕ) : Type 0 where
  pub first : ℕ
  pub others : List ℕ
  pub begins : IsTrue (begins_word first)
  pub split : text ≡ encode_utf8 first ++ others
  pub goes_on : IsMaximalRun is_xid_continue others rest

-- one or more symbol characters
abbrev pub AreSymbols : List ℕ → Type 0
AreSymbols text = (0 < length text) × AllByRecursion (λ b. IsTrue (is_symbol b)) text

-- `//` stands at the front
abbrev pub BeginsComment : List ℕ → Type 0
BeginsComment text = (more : List ℕ) × (text ≡ 47 ∷ 47 ∷ more)

-- where no comment begins, the longest literal made of symbol characters
pub record IsLongestSymbol (literals : List (List ℕ)) (text rest : List ℕ) : Type 0 where
  pub symbols : AreSymbols text
  pub no_comment : ¬ (BeginsComment (text ++ rest))
  pub longest : (other more : List ℕ) → Contains literals other → AreSymbols other →
      text ++ rest ≡ other ++ more → length other ≤ length text

-- a string: a quote, what stands between, and a quote
abbrev pub IsString : List ℕ → List ℕ → Type 0
IsString text rest = (inside : List ℕ) × (text ≡ 34 ∷ inside ++ 34 ∷ []) ×
    IsMaximalRun is_in_string inside (34 ∷ rest)

-- before the rest, the text is one token with this mark
abbrev pub Stands : List (List ℕ) → Bool → Mark → List ℕ → List ℕ → Type 0
Stands literals metas (Lit i) text rest = (slice_get literals i ≡ Some text) ×
    (IsWord text rest ⊎ IsLongestSymbol literals text rest)
Stands literals metas (Lex Id) text rest = ¬ (Contains literals text) × IsWord text rest
Stands literals metas (Lex Num) text rest = (0 < length text) ×
    IsMaximalRun is_ascii_digit text rest
Stands literals metas (Lex Str) text rest = IsString text rest
Stands literals metas Meta text rest = IsTrue metas ×
    ((word : List ℕ) × (text ≡ 126 ∷ word) × IsWord word rest)

-- the text is a blank, or a comment up to its line's end, and then the rest
abbrev pub Skips : List ℕ → List ℕ → Type 0
Skips text rest = ((b : ℕ) × IsTrue (is_blank_or_feed b) × (text ≡ b ∷ rest))
    ⊎ ((line : List ℕ) × (text ≡ 47 ∷ 47 ∷ line ++ rest) × IsMaximalRun is_in_line line rest)

-- a token as plain data, with the places of its first byte and of the byte after it
pub record Piece : Type 0 where
  pub mark : Mark
  pub text : List ℕ
  pub from : ℕ
  pub to : ℕ

-- the text, which is the end of a text of this size, is the token and then the rest
pub record StandsAt (literals : List (List ℕ)) (metas : Bool) (size : ℕ) (t : Piece)
    (text rest : List ℕ) : Type 0 where
  pub split : text ≡ t.text ++ rest
  pub stands : Stands literals metas t.mark t.text rest
  pub from : t.from + length text ≡ size
  pub to : t.to + length rest ≡ size

-- the text is these tokens in order, with only blanks and comments before, between and after them,
-- and then the rest
pub data Cuts (literals : List (List ℕ)) (metas : Bool) (size : ℕ) : List ℕ → List Piece → List ℕ →
    Type 0 where
  done : {text : List ℕ} → Cuts literals metas size text [] text
  skip : {text more rest : List ℕ} {ts : List Piece} → Skips text more →
      Cuts literals metas size more ts rest → Cuts literals metas size text ts rest
  piece : {text more rest : List ℕ} {t : Piece} {ts : List Piece} →
      StandsAt literals metas size t text more → Cuts literals metas size more ts rest →
      Cuts literals metas size text (t ∷ ts) rest

-- no blank, comment or token begins the text
pub record IsStuck (literals : List (List ℕ)) (metas : Bool) (text : List ℕ) : Type 0 where
  pub no_skip : (rest : List ℕ) → ¬ (Skips text rest)
  pub no_token : (mark : Mark) (token rest : List ℕ) → text ≡ token ++ rest →
      ¬ (Stands literals metas mark token rest)

-- a quote that has no closing quote in its line
abbrev pub IsOpenString : List ℕ → Type 0
IsOpenString text = (inside : List ℕ) × (rest : List ℕ) × (text ≡ 34 ∷ inside ++ rest) ×
    IsMaximalRun is_in_string inside rest × ((more : List ℕ) → rest ≢ 34 ∷ more)

-- a place that is not blank, where no comment, token or quote begins
pub record IsBadToken (literals : List (List ℕ)) (metas : Bool) (text : List ℕ) : Type 0 where
  pub nonempty : 0 < length text
  pub stuck : IsStuck literals metas text
  pub no_quote : (more : List ℕ) → text ≢ 34 ∷ more

-- what cutting a text comes to
pub data Outcome : Type 0 where
  tokens : List Piece → Outcome
  not_utf8 : ℕ → Outcome
  bad_token : ℕ → Outcome
  too_many : Outcome
  open_string : ℕ → Outcome

-- up to this place the text has at most 10,000 tokens, and then comes a rest of this kind
pub record ComesTo (literals : List (List ℕ)) (metas : Bool) (bytes : List ℕ)
    (Rest : List ℕ → Type 0) (place : ℕ) : Type 0 where
  pub utf8 : IsUtf8 bytes
  pub before : List Piece
  pub few : length before ≤ most_tokens
  pub rest : List ℕ
  pub cuts : Cuts literals metas (length bytes) bytes before rest
  pub at : place + length rest ≡ length bytes
  pub is : Rest rest

-- the tokens of the text, or its first defect
abbrev pub IsOutcome : List (List ℕ) → Bool → List ℕ → Outcome → Type 0
IsOutcome literals metas bytes (tokens ts) =
    IsUtf8 bytes × (length ts ≤ most_tokens) × Cuts literals metas (length bytes) bytes ts []
IsOutcome literals metas bytes (not_utf8 place) = IsValidUpTo bytes place
IsOutcome literals metas bytes (bad_token place) =
    ComesTo literals metas bytes (IsBadToken literals metas) place
IsOutcome literals metas bytes too_many = IsUtf8 bytes ×
    ((ts : List Piece) × (rest : List ℕ) × (length ts ≡ 10001) ×
    Cuts literals metas (length bytes) bytes ts rest)
IsOutcome literals metas bytes (open_string place) = ComesTo literals metas bytes IsOpenString place

-- no two literals are equal
abbrev pub AreDistinct : List (List ℕ) → Type 0
AreDistinct literals = (i j : ℕ) (text : List ℕ) → slice_get literals i ≡ Some text →
    slice_get literals j ≡ Some text → i ≡ j
