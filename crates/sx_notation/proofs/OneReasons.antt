-- Tokens have one reason why they have not one reading, and show the same two readings where they have no more.
use Rattle.std.proofs.Common.{◌≡◌, ◌≢◌, ℕ, List, ◌⊎◌, inl, inr, refl, sym, ap, ◌∙◌, subst, true, false, Ordering, Less, Equal, Greater}
use Rattle.std.specs.Cmp.Lexicographic.{slice_cmp}
use Rattle.std.specs.FinMap.{nat_cmp-IsAntisymmetric, slice_cmp-IsAntisymmetric}
use Rattle.std.specs.Ordering.{is_le, nat_cmp, ordering_reverse}
use Rattle.std.proofs.lemmas.Cmp.{nat_list_cmp_total}
use Rattle.sx_term.specs.declared.sort.Sort.{Sort}
use Rattle.sx_token.specs.declared.token.Token.{Token}
use Rattle.sx_grammar.specs.Grammar.{Text}
use Rattle.sx_grammar.specs.Parts.{Parts, labels, numbered}
use Rattle.sx_grammar.specs.Reading.{Reading}
use Rattle.sx_grammar.specs.ReadOne.{ReadAnswer, IsAnswer, SameAnswer, only, too_hard, no_reading}
use Rattle.sx_grammar.specs.ReadOne.{too_deep, ambiguous}
use Rattle.sx_grammar.proofs.Answering.{answers_agree}
use Rattle.sx_earley.specs.Tokens.{Stems, plain_tokens}
use Rattle.sx_earley.specs.Completed.{sort_number}
use Rattle.sx_forest.specs.Text.{token_texts, tree_text}
use Rattle.sx_forest.specs.Verdict.{IsNotAfter}
use Rattle.sx_notation.specs.declared.unread.Unread.{Unread}
use Rattle.sx_notation.specs.declared.unread.Unread.TheVariants.{TooHard, NoReading, TooDeep}
use Rattle.sx_notation.specs.declared.unread.Unread.TheVariants.{Ambiguous}
use Rattle.sx_notation.specs.WhyUnread.{IsUnreadAs, AreTwo, place_in}
use Rattle.sx_notation.specs.OneReason.{LineHasReading, HaveThree, ShowTwo, OneReason}
use Rattle.sx_notation.proofs.SameReadings.{same_reading}

-- texts neither of which is after the other are the same
tied : (a b : Text) (o : Ordering) → slice_cmp nat_cmp a b ≡ o → is_le o ≡ true → is_le (ordering_reverse o) ≡ true → a ≡ b
tied a b Less is le ge = let e : false ≡ true = ge in absurd (cc)
tied a b Equal is le ge = slice_cmp-IsAntisymmetric nat_cmp-IsAntisymmetric a b is
tied a b Greater is le ge = let e : false ≡ true = le in absurd (cc)

in_order : (a b : Text) → IsNotAfter a b → IsNotAfter b a → a ≡ b
in_order a b le ge = tied a b (slice_cmp nat_cmp a b) refl le (sym (ap is_le (nat_list_cmp_total.antisymm b a)) ∙ ge)

module _ (p : Parts) (stems : Stems) (sort : Sort) (ts : List Token) where
  abbrev Answers : ReadAnswer → Type 0
  Answers a = IsAnswer (numbered p) (plain_tokens stems ts) (sort_number sort) a

  answer_one : (a b : ReadAnswer) → Answers a → Answers b → SameAnswer a b
  answer_one = answers_agree (numbered p) (plain_tokens stems ts) (sort_number sort)

  abbrev text_of : Reading → Text
  text_of r = tree_text (labels p) (token_texts ts) r

  abbrev Result : (one other some more : Text) → Type 0
  Result one other some more = (Ambiguous one other ≡ Ambiguous some more) ⊎ HaveThree p stems sort ts

  three : (r s t : Reading) → LineHasReading p stems sort ts r → LineHasReading p stems sort ts s → LineHasReading p stems sort ts t → r ≢ s → r ≢ t → s ≢ t → HaveThree p stems sort ts
  three r s t a b c rs rt st = record { one = r; two = s; three = t; first = a; second = b; third = c; one_two = rs; one_three = rt; two_three = st }

  module _ (one other some more : Text) (h : AreTwo p stems sort ts one other) (k : AreTwo p stems sort ts some more) where
    -- the pairs are the same
    straight : k.0 ≡ h.0 → k.1 ≡ h.1 → Result one other some more
    straight a d =
        let first : one ≡ some = h.3 ∙ ap text_of (sym a) ∙ sym k.3 in
        let second : other ≡ more = h.4 ∙ ap text_of (sym d) ∙ sym k.4 in
        inl (λ i. Ambiguous (first i) (second i))

    -- the pairs are the same but for the order, so the texts are one
    crossed : k.0 ≡ h.1 → k.1 ≡ h.0 → Result one other some more
    crossed b c =
        let first : other ≡ some = h.4 ∙ ap text_of (sym b) ∙ sym k.3 in
        let second : one ≡ more = h.3 ∙ ap text_of (sym c) ∙ sym k.4 in
        let back : IsNotAfter other one = subst (λ (t : Text). IsNotAfter t one) (sym first) (subst (IsNotAfter some) (sym second) k.5) in
        let same : one ≡ other = in_order one other h.5 back in
        inl (λ i. Ambiguous ((same ∙ first) i) ((sym same ∙ second) i))

    third : (t : Reading) → LineHasReading p stems sort ts t → t ≢ h.0 → t ≢ h.1 → Result one other some more
    third t reads a b = inr (three h.0 h.1 t h.2.2 h.2.3 reads h.2.4 (λ e. a (sym e)) (λ e. b (sym e)))

    by_cases : (k.0 ≡ h.0) ⊎ (k.0 ≢ h.0) → (k.0 ≡ h.1) ⊎ (k.0 ≢ h.1) → (k.1 ≡ h.0) ⊎ (k.1 ≢ h.0) → (k.1 ≡ h.1) ⊎ (k.1 ≢ h.1) → Result one other some more
    by_cases (inl a) b c (inl d) = straight a d
    by_cases (inl a) b (inl c) (inr d) = absurd (k.2.4 (a ∙ sym c))
    by_cases (inl a) b (inr c) (inr d) = third k.1 k.2.3 c d
    by_cases (inr a) (inl b) (inl c) d = crossed b c
    by_cases (inr a) (inl b) (inr c) (inl d) = absurd (k.2.4 (b ∙ sym d))
    by_cases (inr a) (inl b) (inr c) (inr d) = third k.1 k.2.3 c d
    by_cases (inr a) (inr b) c d = third k.0 k.2.2 a b

    two_one : Result one other some more
    two_one = by_cases (same_reading k.0 h.0) (same_reading k.0 h.1) (same_reading k.1 h.0) (same_reading k.1 h.1)

  abbrev IsOneReason : Unread → Unread → Type 0
  IsOneReason u v = (u ≡ v) ⊎ (ShowTwo u v × HaveThree p stems sort ts)

  shown : (one other some more : Text) → Result one other some more → IsOneReason (Ambiguous one other) (Ambiguous some more)
  shown one other some more (inl same) = inl same
  shown one other some more (inr third) = inr (record { one = one; other = other; some = some; more = more; first = refl; second = refl }, third)

  module _ (size : ℕ) where
    -- tokens that have only one reading are not refused
    pub unread_or_read : (u : Unread) (r : Reading) → IsUnreadAs p stems sort ts size u → Answers (only r) → ⊥
    unread_or_read TooHard r h k = let e : too_hard ≡ only r = answer_one too_hard (only r) h k in cc
    unread_or_read (NoReading place) r h k = let e : no_reading h.0 ≡ only r = answer_one (no_reading h.0) (only r) h.1 k in cc
    unread_or_read (TooDeep depth) r h k = let e : too_deep depth ≡ only r = answer_one (too_deep depth) (only r) h k in cc
    unread_or_read (Ambiguous one other) r h k = let e : ambiguous h.0 h.1 ≡ only r = answer_one (ambiguous h.0 h.1) (only r) h.2 k in cc

    reason_one : (u v : Unread) → IsUnreadAs p stems sort ts size u → IsUnreadAs p stems sort ts size v → IsOneReason u v
    reason_one TooHard TooHard h k = inl refl
    reason_one TooHard (NoReading place) h k = let e : too_hard ≡ no_reading k.0 = answer_one too_hard (no_reading k.0) h k.1 in absurd (cc)
    reason_one TooHard (TooDeep depth) h k = let e : too_hard ≡ too_deep depth = answer_one too_hard (too_deep depth) h k in absurd (cc)
    reason_one TooHard (Ambiguous some more) h k = let e : too_hard ≡ ambiguous k.0 k.1 = answer_one too_hard (ambiguous k.0 k.1) h k.2 in absurd (cc)
    reason_one (NoReading place) TooHard h k = let e : no_reading h.0 ≡ too_hard = answer_one (no_reading h.0) too_hard h.1 k in absurd (cc)
    reason_one (NoReading place) (NoReading there) h k =
        let e : no_reading h.0 ≡ no_reading k.0 = answer_one (no_reading h.0) (no_reading k.0) h.1 k.1 in
        let ends : h.0 ≡ k.0 = cc in
        inl (ap NoReading (h.2 ∙ ap (λ (end : ℕ). place_in ts size end) ends ∙ sym k.2))
    reason_one (NoReading place) (TooDeep depth) h k = let e : no_reading h.0 ≡ too_deep depth = answer_one (no_reading h.0) (too_deep depth) h.1 k in absurd (cc)
    reason_one (NoReading place) (Ambiguous some more) h k = let e : no_reading h.0 ≡ ambiguous k.0 k.1 = answer_one (no_reading h.0) (ambiguous k.0 k.1) h.1 k.2 in absurd (cc)
    reason_one (TooDeep depth) TooHard h k = let e : too_deep depth ≡ too_hard = answer_one (too_deep depth) too_hard h k in absurd (cc)
    reason_one (TooDeep depth) (NoReading place) h k = let e : too_deep depth ≡ no_reading k.0 = answer_one (too_deep depth) (no_reading k.0) h k.1 in absurd (cc)
    reason_one (TooDeep depth) (TooDeep that) h k =
        let e : too_deep depth ≡ too_deep that = answer_one (too_deep depth) (too_deep that) h k in
        let same : depth ≡ that = cc in
        inl (ap TooDeep same)
    reason_one (TooDeep depth) (Ambiguous some more) h k = let e : too_deep depth ≡ ambiguous k.0 k.1 = answer_one (too_deep depth) (ambiguous k.0 k.1) h k.2 in absurd (cc)
    reason_one (Ambiguous one two) TooHard h k = let e : ambiguous h.0 h.1 ≡ too_hard = answer_one (ambiguous h.0 h.1) too_hard h.2 k in absurd (cc)
    reason_one (Ambiguous one two) (NoReading place) h k = let e : ambiguous h.0 h.1 ≡ no_reading k.0 = answer_one (ambiguous h.0 h.1) (no_reading k.0) h.2 k.1 in absurd (cc)
    reason_one (Ambiguous one two) (TooDeep depth) h k = let e : ambiguous h.0 h.1 ≡ too_deep depth = answer_one (ambiguous h.0 h.1) (too_deep depth) h.2 k in absurd (cc)
    reason_one (Ambiguous one two) (Ambiguous some more) h k = shown one two some more (two_one one two some more h k)

pub one_reason : OneReason
one_reason p stems sort ts size u v h k = reason_one p stems sort ts size u v h k
