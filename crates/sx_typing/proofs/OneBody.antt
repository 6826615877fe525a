-- A text has one cutting.
use Rattle.std.proofs.Common.{◌≡◌, ℕ, zero, suc, ◌≤◌, Bool, false, List, [], ◌∷◌, slice_get, length}
use Rattle.std.proofs.Common.{map, refl, ap, ◌∙◌, sym, arith}
use Rattle.std.specs.List.{AllByRecursion}
use Rattle.sx_term.specs.declared.sort.Sort.{Sort}
use Rattle.sx_term.specs.Cutting.{Piece, Cuts, done, skip, piece, Outcome, tokens, not_utf8}
use Rattle.sx_term.specs.Cutting.{bad_token, too_many, open_string, IsOutcome}
use Rattle.sx_term.proofs.CutLaws.{IsOutcome-same}
use Rattle.sx_token.specs.declared.token.Token.{Token}
use Rattle.sx_token.specs.declared.token_error.TokenError.{TokenError}
use Rattle.sx_token.specs.declared.token_error.TokenError.TheVariants as token
use Rattle.sx_token.specs.Tokens.{pieces}
use Rattle.sx_grammar.specs.Grammar.{Text}
use Rattle.sx_grammar.specs.Parts.{Parts, literals}
use Rattle.sx_grammar.specs.Tables.{literals_of}
use Rattle.sx_grammar.proofs.Finding.{distinct_are}
use Rattle.sx_notation.specs.declared.unread.Unread.{Unread}
use Rattle.sx_notation.specs.declared.unread.Unread.TheVariants as unread
use Rattle.sx_notation.specs.WhyUnread.{begin_of, place_in, IsUnreadAs}
use Rattle.sx_typing.specs.Body.{IsCut, HasDefect}
use Rattle.sx_typing.specs.Refused.{unread_place}

abbrev back : Piece → Token
back p = record { mark = p.mark; text = p.text; from = p.from; to = p.to }

again : (ts : List Token) → map back (pieces ts) ≡ ts
again [] = refl
again (t ∷ ts) = ap (λ (l : List Token). t ∷ l) (again ts)

pieces_one : (ts us : List Token) → pieces ts ≡ pieces us → ts ≡ us
pieces_one ts us e = sym (again ts) ∙ ap (map back) e ∙ again us

abbrev pieces_in : Outcome → List Piece
pieces_in (tokens ps) = ps
pieces_in (not_utf8 place) = []
pieces_in (bad_token place) = []
pieces_in too_many = []
pieces_in (open_string place) = []

module _ (p : Parts) (text : Text) where
  same : (one other : Outcome) → IsOutcome (literals_of p) false text one →
      IsOutcome (literals_of p) false text other → one ≡ other
  same one other c d = IsOutcome-same (literals_of p) false text (distinct_are (literals p)) one
      other c d

  pub one_cut : (ts us : List Token) → IsCut p text ts → IsCut p text us → ts ≡ us
  one_cut ts us c d = pieces_one ts us
      (ap pieces_in (same (tokens (pieces ts)) (tokens (pieces us)) c d))

  -- a text with a defect is not cut
  pub defect_or_cut : (e : TokenError) (ts : List Token) → HasDefect p text e → IsCut p text ts → ⊥
  defect_or_cut token.Memory ts h c = h
  defect_or_cut (token.NotUtf8 place) ts h c = let e : not_utf8 place ≡ tokens (pieces ts) =
      same (not_utf8 place) (tokens (pieces ts)) h c in cc
  defect_or_cut (token.BadToken place) ts h c = let e : bad_token place ≡ tokens (pieces ts) =
      same (bad_token place) (tokens (pieces ts)) h c in cc
  defect_or_cut token.TooManyTokens ts h c = let e : too_many ≡ tokens (pieces ts) =
      same too_many (tokens (pieces ts)) h c in cc
  defect_or_cut (token.OpenString place) ts h c = let e : open_string place ≡ tokens (pieces ts) =
      same (open_string place) (tokens (pieces ts)) h c in cc

-- ---- places

within : {literals : List Text} {metas : Bool} {size : ℕ} {text rest : Text} {ps : List Piece} →
    Cuts literals metas size text ps rest → AllByRecursion (λ p. p.from ≤ size) ps
within done = tt
within (skip blank more) = within more
within (piece at rest) = (omega (arith, at.from), within rest)

begins : (ts : List Token) (size n : ℕ) → AllByRecursion (λ p. p.from ≤ size) (pieces ts) →
    begin_of (slice_get ts n) size ≤ size
begins [] size n all = omega arith
begins (t ∷ ts) size zero all = all.0
begins (t ∷ ts) size (suc n) all = begins ts size n all.1

pub place_within : (p : Parts) (text : Text) (ts : List Token) (n : ℕ) → IsCut p text ts →
    place_in ts (length text) n ≤ length text
place_within p text ts n cut = begins ts (length text) n (within cut.2)

pub unread_within : (p : Parts) (sort : Sort) (text : Text) (ts : List Token) (u : Unread) →
    IsCut p text ts → IsUnreadAs p [] sort ts (length text) u → unread_place u ≤ length text
unread_within p sort text ts unread.TooHard cut h = omega arith
unread_within p sort text ts (unread.NoReading place) cut h = let b =
    place_within p text ts h.0 cut in omega (arith, b, h.2)
unread_within p sort text ts (unread.TooDeep depth) cut h = omega arith
unread_within p sort text ts (unread.Ambiguous one other) cut h = omega arith
