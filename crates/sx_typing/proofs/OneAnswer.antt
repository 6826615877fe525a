-- A text has one reading, or one reason why it has not, but for the two readings that it may show.
use Rattle.std.proofs.Common.{◌≡◌, ℕ, false, List, [], ◌⊎◌, inl, inr, refl, sym, ap, ◌∙◌, subst}
use Rattle.std.specs.Prelude.{Option, Some, None}
use Rattle.sx_term.specs.declared.sort.Sort.{Sort}
use Rattle.sx_term.specs.Cutting.{Outcome, IsOutcome, tokens, not_utf8, bad_token, too_many}
use Rattle.sx_term.specs.Cutting.{open_string}
use Rattle.sx_term.specs.Tree.{Tree}
use Rattle.sx_term.proofs.CutLaws.{IsOutcome-same}
use Rattle.sx_token.specs.declared.token.Token.{Token}
use Rattle.sx_token.specs.declared.token_error.TokenError.{TokenError}
use Rattle.sx_token.specs.declared.token_error.TokenError.TheVariants as token
use Rattle.sx_grammar.specs.Grammar.{Text}
use Rattle.sx_grammar.specs.Parts.{Parts, literals, numbered}
use Rattle.sx_grammar.specs.Print.{term_of}
use Rattle.sx_grammar.specs.Reading.{Reading}
use Rattle.sx_grammar.specs.ReadOne.{ReadAnswer, IsAnswer, SameAnswer, only}
use Rattle.sx_grammar.specs.Tables.{literals_of}
use Rattle.sx_grammar.proofs.Answering.{answers_agree}
use Rattle.sx_grammar.proofs.Finding.{distinct_are}
use Rattle.sx_earley.specs.Tokens.{plain_tokens}
use Rattle.sx_earley.specs.Completed.{sort_number}
use Rattle.sx_notation.specs.declared.unread.Unread.{Unread}
use Rattle.sx_notation.specs.WhyUnread.{IsUnreadAs}
use Rattle.sx_notation.specs.OneReason.{HaveThree, ShowTwo}
use Rattle.sx_notation.proofs.OneReasons.{one_reason}
use Rattle.sx_typing.specs.Alike.{HasThree}
use Rattle.sx_typing.specs.Body.{IsCut, HasDefect, ReadsAs}
use Rattle.sx_typing.proofs.OneBody.{one_cut}

-- the defect that an outcome is
abbrev defect_of : Option Outcome → TokenError
defect_of None = token.Memory
defect_of (Some (tokens ps)) = token.Memory
defect_of (Some (not_utf8 place)) = token.NotUtf8 place
defect_of (Some (bad_token place)) = token.BadToken place
defect_of (Some too_many) = token.TooManyTokens
defect_of (Some (open_string place)) = token.OpenString place

module _ (p : Parts) (text : Text) where
  outcome_one : (a b : Outcome) → IsOutcome (literals_of p) false text a →
      IsOutcome (literals_of p) false text b → a ≡ b
  outcome_one = IsOutcome-same (literals_of p) false text (distinct_are (literals p))

  -- a defect is an outcome
  record IsTold (e : TokenError) : Type 0 where
    outcome : Outcome
    holds : IsOutcome (literals_of p) false text outcome
    is : e ≡ defect_of (Some outcome)

  told : (e : TokenError) → HasDefect p text e → IsTold e
  told token.Memory h = absurd h
  told (token.NotUtf8 place) h = record { outcome = not_utf8 place; holds = h; is = refl }
  told (token.BadToken place) h = record { outcome = bad_token place; holds = h; is = refl }
  told token.TooManyTokens h = record { outcome = too_many; holds = h; is = refl }
  told (token.OpenString place) h = record { outcome = open_string place; holds = h; is = refl }

  pub defect_one : (e d : TokenError) → HasDefect p text e → HasDefect p text d → e ≡ d
  defect_one e d h k =
      let a = told e h in
      let b = told d k in
      a.is ∙ ap (λ o. defect_of (Some o)) (outcome_one a.outcome b.outcome a.holds b.holds) ∙ sym
      b.is

module _ (p : Parts) (sort : Sort) (text : Text) where
  abbrev Answers : List Token → ReadAnswer → Type 0
  Answers ts a = IsAnswer (numbered p) (plain_tokens [] ts) (sort_number sort) a

  pub answer_one : (ts us : List Token) (a b : ReadAnswer) → IsCut p text ts → IsCut p text us →
      Answers ts a → Answers us b → SameAnswer a b
  answer_one ts us a b cut other h k =
      answers_agree (numbered p) (plain_tokens [] us) (sort_number sort) a b
      (subst (λ (l : List Token). Answers l a) (one_cut p text ts us cut other) h) k

  pub record SameBody (ts us : List Token) (r q : Reading) (t u : Tree) : Type 0 where
    pub tokens_same : ts ≡ us
    pub reading_same : r ≡ q
    pub term_same : t ≡ u

  pub body_one : (ts us : List Token) (r q : Reading) (t u : Tree) → ReadsAs p sort text ts r t →
      ReadsAs p sort text us q u → SameBody ts us r q t u
  body_one ts us r q t u h k =
      let cut = one_cut p text ts us h.cut k.cut in
      let answer = answer_one ts us (only r) (only q) h.cut k.cut h.answer k.answer in
      let reading : r ≡ q = cc in
      record {
        tokens_same = cut;
        reading_same = reading;
        term_same = h.term ∙ (λ i. term_of (plain_tokens [] (cut i)) [] (reading i)) ∙ sym k.term;
      }

  -- why tokens have not one reading
  pub unread_one : (size : ℕ) (ts us : List Token) (u v : Unread) → IsCut p text ts →
      IsCut p text us → IsUnreadAs p [] sort ts size u → IsUnreadAs p [] sort us size v →
      (u ≡ v) ⊎ (ShowTwo u v × HasThree p sort text)
  unread_one size ts us u v cut other h k =
      in_text us u v other (one_reason p [] sort us size u v
      (subst (λ (l : List Token). IsUnreadAs p [] sort l size u)
      (one_cut p text ts us cut other) h) k)
    where
      in_text : (us : List Token) (u v : Unread) → IsCut p text us →
          (u ≡ v) ⊎ (ShowTwo u v × HaveThree p [] sort us) →
          (u ≡ v) ⊎ (ShowTwo u v × HasThree p sort text)
      in_text us u v other (inl same) = inl same
      in_text us u v other (inr two) = inr (two.0, (us, other, two.1))
