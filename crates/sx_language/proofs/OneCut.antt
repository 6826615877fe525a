-- A line has one cutting or one defect, and its metavariables are known or not.
use Rattle.std.proofs.Common.{◌≡◌, ℕ, zero, suc, true, List, [], ◌∷◌, Some, None, map, refl, ap, ◌∙◌, sym, subst}
use Rattle.std.specs.Prelude.{Option, slice_get, is_some}
use Rattle.std.specs.List.{AllByRecursion}
use Rattle.std.proofs.lemmas.Bool.{false≢true}
use Rattle.sx_term.specs.Cutting.{Piece, Outcome, tokens, not_utf8, bad_token, too_many}
use Rattle.sx_term.specs.Cutting.{open_string, IsOutcome}
use Rattle.sx_term.proofs.CutLaws.{IsOutcome-same}
use Rattle.sx_token.specs.declared.token.Token.{Token}
use Rattle.sx_token.specs.declared.token_error.TokenError.{TokenError}
use Rattle.sx_token.specs.declared.token_error.TokenError.TheVariants as token
use Rattle.sx_token.specs.Tokens.{pieces}
use Rattle.sx_grammar.specs.Grammar.{Text}
use Rattle.sx_grammar.specs.Parts.{Parts, literals}
use Rattle.sx_grammar.specs.Tables.{literals_of}
use Rattle.sx_grammar.proofs.Finding.{distinct_are}
use Rattle.sx_earley.specs.Tokens.{Stems}
use Rattle.sx_earley.specs.Unknown.{HasKnownStem, IsFirstUnknown}
use Rattle.sx_notation.specs.ReadText.{IsLineCut, IsKnownCut, LineHasDefect, HasUnknown}

abbrev back : Piece → Token
back p = record { mark = p.mark; text = p.text; from = p.from; to = p.to }

again : (ts : List Token) → map back (pieces ts) ≡ ts
again [] = refl
again (t ∷ ts) = ap (λ (l : List Token). t ∷ l) (again ts)

pieces_one : (ts us : List Token) → pieces ts ≡ pieces us → ts ≡ us
pieces_one ts us e = sym (again ts) ∙ ap (map back) e ∙ again us

abbrev pieces_in : Outcome → List Piece
pieces_in (tokens ps) = ps
pieces_in (not_utf8 place) = []
pieces_in (bad_token place) = []
pieces_in too_many = []
pieces_in (open_string place) = []

-- the defect that an outcome is
abbrev defect_of : Option Outcome → TokenError
defect_of None = token.Memory
defect_of (Some (tokens ps)) = token.Memory
defect_of (Some (not_utf8 place)) = token.NotUtf8 place
defect_of (Some (bad_token place)) = token.BadToken place
defect_of (Some too_many) = token.TooManyTokens
defect_of (Some (open_string place)) = token.OpenString place

module _ (p : Parts) (text : Text) where
  outcome_one : (a b : Outcome) → IsOutcome (literals_of p) true text a → IsOutcome (literals_of p) true text b → a ≡ b
  outcome_one = IsOutcome-same (literals_of p) true text (distinct_are (literals p))

  pub one_cut : (ts us : List Token) → IsLineCut p text ts → IsLineCut p text us → ts ≡ us
  one_cut ts us c d = pieces_one ts us (ap pieces_in (outcome_one (tokens (pieces ts)) (tokens (pieces us)) c d))

  -- a line with a defect is not cut
  pub defect_or_cut : (e : TokenError) (ts : List Token) → LineHasDefect p text e → IsLineCut p text ts → ⊥
  defect_or_cut token.Memory ts h c = h
  defect_or_cut (token.NotUtf8 place) ts h c = let e : not_utf8 place ≡ tokens (pieces ts) = outcome_one (not_utf8 place) (tokens (pieces ts)) h c in cc
  defect_or_cut (token.BadToken place) ts h c = let e : bad_token place ≡ tokens (pieces ts) = outcome_one (bad_token place) (tokens (pieces ts)) h c in cc
  defect_or_cut token.TooManyTokens ts h c = let e : too_many ≡ tokens (pieces ts) = outcome_one too_many (tokens (pieces ts)) h c in cc
  defect_or_cut (token.OpenString place) ts h c = let e : open_string place ≡ tokens (pieces ts) = outcome_one (open_string place) (tokens (pieces ts)) h c in cc

  -- a defect is an outcome
  record IsTold (e : TokenError) : Type 0 where
    outcome : Outcome
    holds : IsOutcome (literals_of p) true text outcome
    is : e ≡ defect_of (Some outcome)

  told : (e : TokenError) → LineHasDefect p text e → IsTold e
  told token.Memory h = absurd h
  told (token.NotUtf8 place) h = record { outcome = not_utf8 place; holds = h; is = refl }
  told (token.BadToken place) h = record { outcome = bad_token place; holds = h; is = refl }
  told token.TooManyTokens h = record { outcome = too_many; holds = h; is = refl }
  told (token.OpenString place) h = record { outcome = open_string place; holds = h; is = refl }

  pub defect_one : (e d : TokenError) → LineHasDefect p text e → LineHasDefect p text d → e ≡ d
  defect_one e d h k =
      let a = told e h in
      let b = told d k in
      a.is ∙ ap (λ (o : Outcome). defect_of (Some o)) (outcome_one a.outcome b.outcome a.holds b.holds) ∙ sym b.is

-- what holds of each token holds of the one at a place
all_at : (P : Token → Type 0) (ts : List Token) (n : ℕ) (t : Token) → AllByRecursion P ts → slice_get ts n ≡ Some t → P t
all_at P [] n t all at = let clash : None ≡ Some t = at in cc
all_at P (u ∷ us) zero t all at = let same : u ≡ t = cc in subst P same all.0
all_at P (u ∷ us) (suc n) t all at = all_at P us n t all.1 at

unknown_or_known : (stems : Stems) (ts : List Token) (place : ℕ) → IsFirstUnknown stems ts (Some place) → IsFirstUnknown stems ts None → ⊥
unknown_or_known stems ts place h all =
    let has = all_at (HasKnownStem stems) ts place h.1.0 all h.1.1 in
    false≢true (sym (ap is_some h.1.2.1) ∙ has h.1.2.0)

-- a line with an unknown stem is not cut into tokens whose stems are known
pub strange_or_cut : (p : Parts) (stems : Stems) (text : Text) (ts : List Token) → HasUnknown p stems text → IsKnownCut p stems text ts → ⊥
strange_or_cut p stems text ts h c =
    unknown_or_known stems ts h.1 (subst (λ (l : List Token). IsFirstUnknown stems l (Some h.1)) (one_cut p text h.0 ts h.2 c.0) h.3) c.1
