-- A line of a plain body has one term, or one refusal, but for the two readings that it may show
-- where it has more.
use Rattle.std.proofs.Common.{◌≡◌, ◌≢◌, ℕ, List, ◌⊎◌, inl, inr, length, Contains, refl, ap, ◌∙◌}
use Rattle.std.proofs.Common.{sym, subst}
use Rattle.std.specs.Prelude.{is_some}
use Rattle.std.proofs.lemmas.Bool.{false≢true}
use Rattle.sx_term.specs.declared.sort.Sort.{Sort}
use Rattle.sx_term.specs.Tree.{Tree}
use Rattle.sx_token.specs.declared.token.Token.{Token}
use Rattle.sx_token.specs.declared.token_error.TokenError.{TokenError}
use Rattle.sx_lines.specs.declared.kind.Kind.TheVariants.{Variable}
use Rattle.sx_grammar.specs.Grammar.{Text}
use Rattle.sx_grammar.specs.Parts.{Parts, numbered}
use Rattle.sx_grammar.specs.Print.{term_of}
use Rattle.sx_grammar.specs.Reading.{Reading}
use Rattle.sx_grammar.specs.ReadOne.{IsAnswer, only}
use Rattle.sx_earley.specs.Completed.{sort_number}
use Rattle.sx_earley.specs.Tokens.{Stems, plain_tokens}
use Rattle.sx_earley.specs.Unknown.{HasKnownStem, IsUnknownStem}
use Rattle.sx_outline.proofs.WeightLaws.{all_in}
use Rattle.sx_notation.specs.declared.notation_error.NotationError.{NotationError}
use Rattle.sx_notation.specs.declared.notation_error.NotationError.TheVariants.{Memory, NotUtf8}
use Rattle.sx_notation.specs.declared.notation_error.NotationError.TheVariants.{Notation}
use Rattle.sx_notation.specs.declared.notation_error.NotationError.TheVariants.{Token as BadTokens}
use Rattle.sx_notation.specs.declared.notation_error.NotationError.TheVariants.{Grammar, Read}
use Rattle.sx_notation.specs.declared.notation_error.NotationError.TheVariants.{Rules}
use Rattle.sx_notation.specs.declared.unread.Unread.{Unread}
use Rattle.sx_notation.specs.ReadAmong.{IsNamed, IsUnnamed, IsNamedCut, IsReadAmong, HasStranger}
use Rattle.sx_notation.specs.ReadAmong.{IsRefusedAmong}
use Rattle.sx_notation.specs.ReadText.{LineHasDefect}
use Rattle.sx_notation.specs.WhyUnread.{IsUnreadAs}
use Rattle.sx_notation.proofs.OneReasons.{one_reason, unread_or_read}
use Rattle.sx_language.specs.Alike.{LineHasThree}
use Rattle.sx_language.proofs.OneCut.{one_cut, defect_or_cut, defect_one}
use Rattle.sx_language.proofs.OneLine.{Alike, unreads_alike}
use Rattle.sx_language.proofs.OneReading.{reading_one}

module _ (p : Parts) (stems : Stems) (line : Text) (names : List Text) where
  -- a line that is cut has no metavariable with an unknown stem, or with none of the names
  stranger_or_cut : (ts : List Token) → HasStranger p stems names line →
      IsNamedCut p stems names line ts → ⊥
  stranger_or_cut ts h k = by h.4
    where
      has : Contains ts h.1
      has = subst (λ (us : List Token). Contains us h.1) (one_cut p line h.0 ts h.2 k.0.0) h.3

      by : IsUnknownStem stems h.1 ⊎ IsUnnamed names h.1 → ⊥
      by (inl unknown) = false≢true (sym (ap is_some unknown.1) ∙ all_in (HasKnownStem stems) ts h.1
          k.0.1 has unknown.0)
      by (inr unnamed) = unnamed.1 (all_in (IsNamed names) ts h.1 k.1 has unnamed.0)

module _ (p : Parts) (stems : Stems) (sort : Sort) (line : Text) (names : List Text) where
  abbrev Answers : List Token → Reading → Type 0
  Answers ts r = IsAnswer (numbered p) (plain_tokens stems ts) (sort_number sort) (only r)

  pub among_one : (t u : Tree) → IsReadAmong p stems sort line names t →
      IsReadAmong p stems sort line names u → t ≡ u
  among_one t u h k =
      let cut = one_cut p line h.tokens k.tokens h.cut.0.0 k.cut.0.0 in
      let answer = subst (λ (ts : List Token). Answers ts h.reading) cut h.answer in
      let reading = reading_one p stems sort k.tokens h.reading k.reading answer k.answer in
      h.term ∙ (λ i. term_of (plain_tokens stems (cut i)) names (reading i)) ∙ sym k.term

  module _ (number : ℕ) where
    record IsUncut (e : NotationError) : Type 0 where
      defect : TokenError
      is : e ≡ BadTokens number defect
      has : LineHasDefect p line defect

    record IsStrange (e : NotationError) : Type 0 where
      is : e ≡ Notation number Variable
      has : HasStranger p stems names line

    record IsUnread (e : NotationError) : Type 0 where
      why : Unread
      is : e ≡ Read number why
      tokens : List Token
      cut : IsNamedCut p stems names line tokens
      unread : IsUnreadAs p stems sort tokens (length line) why

    abbrev Why : NotationError → Type 0
    Why e = IsUncut e ⊎ IsStrange e ⊎ IsUnread e

    whys : (e : NotationError) → IsRefusedAmong p stems sort line names number e → e ≢ Memory →
        Why e
    whys Memory h n = absurd (n refl)
    whys (NotUtf8 place) h n = absurd h
    whys (Notation at kind) h n = inr (inl (record
        { is = λ i. Notation (h.0 i) (h.1 i); has = h.2 }))
    whys (BadTokens at defect) h n = inl (record
        { defect = defect; is = ap (λ (m : ℕ). BadTokens m defect) h.0; has = h.1 })
    whys (Grammar x) h n = absurd h
    whys (Read at why) h n = inr (inr (record {
      why = why;
      is = ap (λ (m : ℕ). Read m why) h.0;
      tokens = h.1.0;
      cut = h.1.1;
      unread =
          h.1.2;
    }))
    whys (Rules x variable) h n = absurd h

    why_or_read : (t : Tree) (e : NotationError) → Why e → IsReadAmong p stems sort line names t →
        ⊥
    why_or_read t e (inl h) k = defect_or_cut p line h.defect k.tokens h.has k.cut.0.0
    why_or_read t e (inr (inl h)) k = stranger_or_cut p stems line names k.tokens h.has k.cut
    why_or_read t e (inr (inr h)) k =
        unread_or_read p stems sort k.tokens (length line) h.why k.reading
        (subst (λ (ts : List Token). IsUnreadAs p stems sort ts (length line) h.why)
        (one_cut p line h.tokens k.tokens h.cut.0.0 k.cut.0.0) h.unread) k.answer

    -- a line that is read is not refused
    pub refused_or_among : (t : Tree) (e : NotationError) → e ≢ Memory →
        IsRefusedAmong p stems sort line names number e → IsReadAmong p stems sort line names t → ⊥
    refused_or_among t e n h k = why_or_read t e (whys e h n) k

    module _ (HasMore : ℕ → Type 0) (so : LineHasThree p stems sort line → HasMore number) where
      why_one : (e d : NotationError) → Why e → Why d → Alike HasMore e d
      why_one e d (inl h) (inl k) = inl (h.is ∙ ap (BadTokens number)
          (defect_one p line h.defect k.defect h.has k.has) ∙ sym k.is)
      why_one e d (inl h) (inr (inl k)) = absurd
          (defect_or_cut p line h.defect k.has.0 h.has k.has.2)
      why_one e d (inl h) (inr (inr k)) = absurd
          (defect_or_cut p line h.defect k.tokens h.has k.cut.0.0)
      why_one e d (inr (inl h)) (inl k) = absurd
          (defect_or_cut p line k.defect h.has.0 k.has h.has.2)
      why_one e d (inr (inl h)) (inr (inl k)) = inl (h.is ∙ sym k.is)
      why_one e d (inr (inl h)) (inr (inr k)) = absurd
          (stranger_or_cut p stems line names k.tokens h.has k.cut)
      why_one e d (inr (inr h)) (inl k) = absurd
          (defect_or_cut p line k.defect h.tokens k.has h.cut.0.0)
      why_one e d (inr (inr h)) (inr (inl k)) = absurd
          (stranger_or_cut p stems line names h.tokens k.has h.cut)
      why_one e d (inr (inr h)) (inr (inr k)) =
          let there = subst (λ (ts : List Token). IsUnreadAs p stems sort ts (length line) h.why)
          (one_cut p line h.tokens k.tokens h.cut.0.0 k.cut.0.0) h.unread in
          unreads_alike p stems sort line k.tokens k.cut.0 number HasMore so e d h.why k.why h.is k.is
          (one_reason p stems sort k.tokens (length line) h.why k.why there k.unread)

      pub among_refused_one : (e d : NotationError) → e ≢ Memory → d ≢ Memory →
          IsRefusedAmong p stems sort line names number e →
          IsRefusedAmong p stems sort line names number d → Alike HasMore e d
      among_refused_one e d n m h k = why_one e d (whys e h n) (whys d k m)
