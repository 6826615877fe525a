-- A line of a rule says one premise, or has one refusal, but for the two readings that it may show where it has more.
use Rattle.std.proofs.Common.{◌≡◌, ◌≢◌, ℕ, ◌+◌, ◌-◌, ◌<◌, List, [], ◌∷◌, ◌++◌, ◌⊎◌, inl, inr, length, Contains, refl, ap, ◌∙◌, sym, subst, arith}
use Rattle.sx_term.specs.declared.sort.Sort.{Sort}
use Rattle.sx_term.specs.Tree.{Tree, forest}
use Rattle.sx_term.specs.Vars.{IsAdded}
use Rattle.sx_token.specs.declared.token.Token.{Token}
use Rattle.sx_token.specs.declared.token_error.TokenError.{TokenError}
use Rattle.sx_grammar.specs.Grammar.{Text}
use Rattle.sx_grammar.specs.Parts.{Parts, numbered}
use Rattle.sx_grammar.specs.Print.{term_of}
use Rattle.sx_grammar.specs.Reading.{Reading}
use Rattle.sx_grammar.specs.ReadOne.{IsAnswer, only}
use Rattle.sx_earley.specs.Tokens.{Stems, plain_tokens}
use Rattle.sx_earley.specs.Completed.{sort_number}
use Rattle.sx_forest.specs.Names.{reading_names, AddsEach}
use Rattle.sx_lines.specs.declared.kind.Kind.TheVariants.{Variable}
use Rattle.sx_rules.specs.Rules.{Premise, holds, apart}
use Rattle.sx_outline.specs.Stages.{Numbered}
use Rattle.sx_notation.specs.declared.notation_error.NotationError.{NotationError}
use Rattle.sx_notation.specs.declared.notation_error.NotationError.TheVariants.{Memory, NotUtf8}
use Rattle.sx_notation.specs.declared.notation_error.NotationError.TheVariants.{Notation}
use Rattle.sx_notation.specs.declared.notation_error.NotationError.TheVariants.{Token as BadTokens}
use Rattle.sx_notation.specs.declared.notation_error.NotationError.TheVariants.{Grammar, Read}
use Rattle.sx_notation.specs.declared.notation_error.NotationError.TheVariants.{Rules}
use Rattle.sx_notation.specs.declared.unread.Unread.{Unread}
use Rattle.sx_notation.specs.ReadText.{IsKnownCut, IsReadLine, LineHasDefect, HasUnknown, IsTextRefused}
use Rattle.sx_notation.specs.WhyUnread.{IsUnreadAs}
use Rattle.sx_notation.specs.OneReason.{HaveThree, ShowTwo}
use Rattle.sx_notation.proofs.OneReasons.{one_reason, unread_or_read}
use Rattle.sx_language.specs.Alike.{LineHasThree, LineShowsOthers}
use Rattle.sx_language.specs.RuleLine.{Reader, label_of, judgements, Says, IsLine, IsBadRuleLine}
use Rattle.sx_language.proofs.OneCut.{one_cut, defect_or_cut, defect_one, strange_or_cut}
use Rattle.sx_language.proofs.OneReading.{reading_one}
use Rattle.sx_language.proofs.Saying.{same_label, same_kids}

-- the same refusal, but for the two readings that it shows of a line that has more
abbrev pub Alike : (ℕ → Type 0) → NotationError → NotationError → Type 0
Alike HasMore e d = (e ≡ d) ⊎ LineShowsOthers HasMore e d

-- so where another thing follows of the line
pub alike_so : (P Q : ℕ → Type 0) → ((line : ℕ) → P line → Q line) → (e d : NotationError) → Alike P e d → Alike Q e d
alike_so P Q so e d (inl same) = inl same
alike_so P Q so e d (inr show) =
    inr (record { line = show.line; one = show.one; other = show.other; some = show.some; more = show.more; first = show.first; second = show.second; three = so show.line show.three })

-- the refusals of one text by two reasons why its tokens have not one reading
pub unreads_alike : (p : Parts) (stems : Stems) (sort : Sort) (text : Text) (ts : List Token) → IsKnownCut p stems text ts → (number : ℕ) (HasMore : ℕ → Type 0) → (LineHasThree p stems sort text → HasMore number) →
    (e d : NotationError) (u v : Unread) → e ≡ Read number u → d ≡ Read number v → (u ≡ v) ⊎ (ShowTwo u v × HaveThree p stems sort ts) → Alike HasMore e d
unreads_alike p stems sort text ts cut number HasMore so e d u v h k (inl same) = inl (h ∙ ap (Read number) same ∙ sym k)
unreads_alike p stems sort text ts cut number HasMore so e d u v h k (inr (two, three)) =
    inr (record { line = number; one = two.one; other = two.other; some = two.some; more = two.more; first = h ∙ ap (Read number) two.first; second = k ∙ ap (Read number) two.second; three = so (ts, cut, three) })

-- ---- names

added_one : (old a b : List Text) (name : Text) (n m : ℕ) → IsAdded old a name n → IsAdded old b name m → a ≡ b
added_one old a b name n m h k = by h.list k.list
  where
    by : (Contains old name × (a ≡ old)) ⊎ (¬ (Contains old name) × (a ≡ old ++ name ∷ [])) → (Contains old name × (b ≡ old)) ⊎ (¬ (Contains old name) × (b ≡ old ++ name ∷ [])) → a ≡ b
    by (inl x) (inl y) = x.1 ∙ sym y.1
    by (inl x) (inr y) = absurd (y.0 x.0)
    by (inr x) (inl y) = absurd (x.0 y.0)
    by (inr x) (inr y) = x.1 ∙ sym y.1

adds_one : (old names a b : List Text) → AddsEach old names a → AddsEach old names b → a ≡ b
adds_one old [] a b h k = h ∙ sym k
adds_one old (name ∷ names) a b h k =
    let same = added_one old h.0 k.0 name h.1 k.1 h.2 k.2 in
    adds_one k.0 names a b (subst (λ (middle : List Text). AddsEach middle names a) same h.3) k.3

-- ---- a text that is read

module _ (p : Parts) (stems : Stems) (sort : Sort) (text : Text) where
  abbrev Answers : List Token → Reading → Type 0
  Answers ts r = IsAnswer (numbered p) (plain_tokens stems ts) (sort_number sort) (only r)

  -- the names after a text and its term
  pub read_one : (old a b : List Text) (t u : Tree) → IsReadLine p stems sort text old a t → IsReadLine p stems sort text old b u → (a ≡ b) × (t ≡ u)
  read_one old a b t u h k =
      let cut = one_cut p text h.tokens k.tokens h.known.0 k.known.0 in
      let answer = subst (λ (ts : List Token). Answers ts h.reading) cut h.answer in
      let reading = reading_one p stems sort k.tokens h.reading k.reading answer k.answer in
      let here = subst (λ (ts : List Token). AddsEach old (reading_names ts h.reading) a) cut h.names in
      let there = subst (λ (r : Reading). AddsEach old (reading_names k.tokens r) a) reading here in
      let names = adds_one old (reading_names k.tokens k.reading) a b there k.names in
      (names, h.term ∙ (λ i. term_of (plain_tokens stems (cut i)) (names i) (reading i)) ∙ sym k.term)

  -- ---- a text that is refused

  module _ (number : ℕ) where
    record IsUncut (e : NotationError) : Type 0 where
      defect : TokenError
      is : e ≡ BadTokens number defect
      has : LineHasDefect p text defect

    record IsStrange (e : NotationError) : Type 0 where
      is : e ≡ Notation number Variable
      has : HasUnknown p stems text

    record IsUnread (e : NotationError) : Type 0 where
      why : Unread
      is : e ≡ Read number why
      tokens : List Token
      known : IsKnownCut p stems text tokens
      unread : IsUnreadAs p stems sort tokens (length text) why

    abbrev Why : NotationError → Type 0
    Why e = IsUncut e ⊎ IsStrange e ⊎ IsUnread e

    whys : (e : NotationError) → IsTextRefused p stems sort text number e → e ≢ Memory → Why e
    whys Memory h n = absurd (n refl)
    whys (NotUtf8 place) h n = absurd h
    whys (Notation at kind) h n = inr (inl (record { is = λ i. Notation (h.0 i) (h.1 i); has = h.2 }))
    whys (BadTokens at defect) h n = inl (record { defect = defect; is = ap (λ (m : ℕ). BadTokens m defect) h.0; has = h.1 })
    whys (Grammar x) h n = absurd h
    whys (Read at why) h n = inr (inr (record { why = why; is = ap (λ (m : ℕ). Read m why) h.0; tokens = h.1.0; known = h.1.1; unread = h.1.2 }))
    whys (Rules x variable) h n = absurd h

    -- a text that is read is not refused
    why_or_read : (old new : List Text) (t : Tree) (e : NotationError) → Why e → IsReadLine p stems sort text old new t → ⊥
    why_or_read old new t e (inl h) k = defect_or_cut p text h.defect k.tokens h.has k.known.0
    why_or_read old new t e (inr (inl h)) k = strange_or_cut p stems text k.tokens h.has k.known
    why_or_read old new t e (inr (inr h)) k =
        unread_or_read p stems sort k.tokens (length text) h.why k.reading
        (subst (λ (ts : List Token). IsUnreadAs p stems sort ts (length text) h.why) (one_cut p text h.tokens k.tokens h.known.0 k.known.0) h.unread) k.answer

    pub refused_or_read : (old new : List Text) (t : Tree) (e : NotationError) → e ≢ Memory → IsTextRefused p stems sort text number e → IsReadLine p stems sort text old new t → ⊥
    refused_or_read old new t e n h k = why_or_read old new t e (whys e h n) k

    module _ (HasMore : ℕ → Type 0) (so : LineHasThree p stems sort text → HasMore number) where
      why_one : (e d : NotationError) → Why e → Why d → Alike HasMore e d
      why_one e d (inl h) (inl k) = inl (h.is ∙ ap (BadTokens number) (defect_one p text h.defect k.defect h.has k.has) ∙ sym k.is)
      why_one e d (inl h) (inr (inl k)) = absurd (defect_or_cut p text h.defect k.has.0 h.has k.has.2)
      why_one e d (inl h) (inr (inr k)) = absurd (defect_or_cut p text h.defect k.tokens h.has k.known.0)
      why_one e d (inr (inl h)) (inl k) = absurd (defect_or_cut p text k.defect h.has.0 k.has h.has.2)
      why_one e d (inr (inl h)) (inr (inl k)) = inl (h.is ∙ sym k.is)
      why_one e d (inr (inl h)) (inr (inr k)) = absurd (strange_or_cut p stems text k.tokens h.has k.known)
      why_one e d (inr (inr h)) (inl k) = absurd (defect_or_cut p text k.defect h.tokens k.has h.known.0)
      why_one e d (inr (inr h)) (inr (inl k)) = absurd (strange_or_cut p stems text h.tokens k.has h.known)
      why_one e d (inr (inr h)) (inr (inr k)) =
          let there = subst (λ (ts : List Token). IsUnreadAs p stems sort ts (length text) h.why) (one_cut p text h.tokens k.tokens h.known.0 k.known.0) h.unread in
          unreads_alike p stems sort text k.tokens k.known number HasMore so e d h.why k.why h.is k.is (one_reason p stems sort k.tokens (length text) h.why k.why there k.unread)

      pub refused_one : (e d : NotationError) → e ≢ Memory → d ≢ Memory → IsTextRefused p stems sort text number e → IsTextRefused p stems sort text number d → Alike HasMore e d
      refused_one e d n m h k = why_one e d (whys e h n) (whys d k m)

-- ---- what a term says

form_same : (first a b : ℕ) → first + a ≡ first + b → a ≡ b
form_same first a b e = omega (arith, e)

clash : (first a forms kind : ℕ) → a < forms → first + a ≡ first + (forms + kind) → ⊥
clash first a forms kind low e = omega (arith, low, e)

pair_same : (a b c d : Tree) → a ∷ b ∷ [] ≡ c ∷ d ∷ [] → (a ≡ c) × (b ≡ d)
pair_same a b c d e = let first : a ≡ c = cc in let second : b ≡ d = cc in (first, second)

module _ (r : Reader) where
  -- the label of the first form
  abbrev base : ℕ
  base = length r.parts.productions - (length r.forms + 3)

  says_one : (t : Tree) (q w : Premise) → Says r t q → Says r t w → q ≡ w
  says_one t (holds j) (holds k) h g =
      let e = sym h.1 ∙ g.1 in
      let forms = form_same base j.form k.form (same_label (label_of r j.form) (label_of r k.form) (forest j.places) (forest k.places) e) in
      let places = same_kids (label_of r j.form) (label_of r k.form) j.places k.places e in
      λ i. holds (record { form = forms i; places = places i })
  says_one t (holds j) (apart u v) h g =
      absurd (clash base j.form (length r.forms) g.0 h.0 (same_label (label_of r j.form) (label_of r (length r.forms + g.0)) (forest j.places) (forest (u ∷ v ∷ [])) (sym h.1 ∙ g.2)))
  says_one t (apart u v) (holds k) h g =
      absurd (clash base k.form (length r.forms) h.0 g.0 (same_label (label_of r k.form) (label_of r (length r.forms + h.0)) (forest k.places) (forest (u ∷ v ∷ [])) (sym g.1 ∙ h.2)))
  says_one t (apart u v) (apart x y) h g =
      let both = pair_same u v x y (same_kids (label_of r (length r.forms + h.0)) (label_of r (length r.forms + g.0)) (u ∷ v ∷ []) (x ∷ y ∷ []) (sym h.2 ∙ g.2)) in
      λ i. apart (both.0 i) (both.1 i)

  -- ---- lines

  pub line_one : (text : Text) (old a b : List Text) (q w : Premise) → IsLine r text old a q → IsLine r text old b w → (a ≡ b) × (q ≡ w)
  line_one text old a b q w h k =
      let same = read_one r.parts r.stems (judgements r.parts) text old a b h.term k.term h.read k.read in
      (same.0, says_one k.term q w (subst (λ (t : Tree). Says r t q) same.1 h.says) k.says)

  pub bad_or_line : (l : Numbered) (old new : List Text) (q : Premise) (e : NotationError) → e ≢ Memory → IsBadRuleLine r l e → IsLine r l.text old new q → ⊥
  bad_or_line l old new q e n h k = refused_or_read r.parts r.stems (judgements r.parts) l.text l.number old new k.term e n h k.read

  pub bad_line_one : (l : Numbered) (HasMore : ℕ → Type 0) → (LineHasThree r.parts r.stems (judgements r.parts) l.text → HasMore l.number) → (e d : NotationError) → e ≢ Memory → d ≢ Memory →
      IsBadRuleLine r l e → IsBadRuleLine r l d → Alike HasMore e d
  bad_line_one l HasMore so e d n m h k = refused_one r.parts r.stems (judgements r.parts) l.text l.number HasMore so e d n m h k
