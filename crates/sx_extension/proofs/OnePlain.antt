-- The plain pairs of an extension state one list of plain bodies, or have one first bad line, but
-- for the two readings that its refusal may show where the line has more.
use Rattle.std.proofs.Common.{◌≡◌, ◌≢◌, ℕ, List, [], ◌∷◌, inl, inr, Some, refl, ap}
use Rattle.std.proofs.Common.{◌∙◌, sym, subst}
use Rattle.sx_term.specs.declared.sort.Sort.{Sort}
use Rattle.sx_grammar.specs.Grammar.{Text, Production}
use Rattle.sx_grammar.specs.Parts.{Parts}
use Rattle.sx_grammar.specs.Made.{IsGrammar}
use Rattle.sx_grammar.specs.Told.{sort_with, IsSortOfLabel}
use Rattle.sx_grammar.proofs.Finding.{is_head, past_head}
use Rattle.sx_outline.specs.Stages.{PlainData}
use Rattle.sx_notation.specs.declared.notation_error.NotationError.{NotationError}
use Rattle.sx_notation.specs.declared.notation_error.NotationError.TheVariants.{Memory}
use Rattle.sx_notation.specs.ReadAmong.{IsReadAmong, IsRefusedAmong}
use Rattle.sx_notation.specs.ReadText.{ReaderData}
use Rattle.sx_language.proofs.OneLine.{Alike, alike_so}
use Rattle.sx_extension.specs.Alike.{PlainHasThree, PlainsHaveThree}
use Rattle.sx_extension.specs.PlainBodies.{BodyData}
use Rattle.sx_extension.specs.Readings.{IsProduction, IsPlainRead, ArePlainsRead, IsBadPlain}
use Rattle.sx_extension.specs.Readings.{IsFirstBadPlain}
use Rattle.sx_extension.proofs.OneAmong.{among_one, refused_or_among, among_refused_one}

same_some : (x y : Production) → Some x ≡ Some y → x ≡ y
same_some x y e = cc

module _ (p : Parts) (is : IsGrammar p) (r : ReaderData) where
  number_one : (label : Text) (n m : ℕ) (s q : Sort) → IsProduction p label n s →
      IsProduction p label m q → n ≡ m
  number_one label n m s q h k = is.0.0.0.1 n m label h.0 k.0

  sort_at : (n : ℕ) (s q : Sort) → IsSortOfLabel p n s → IsSortOfLabel p n q → s ≡ q
  sort_at n s q h k = h.2 ∙ ap (λ (x : Production). sort_with p.sorts x.sort)
      (same_some h.0 k.0 (sym h.1 ∙ k.1)) ∙ sym k.2

  sort_one : (label : Text) (n m : ℕ) (s q : Sort) → IsProduction p label n s →
      IsProduction p label m q → s ≡ q
  sort_one label n m s q h k = sort_at m s q (subst (λ (x : ℕ). IsSortOfLabel p x s)
      (number_one label n m s q h k) h.1) k.1

  plain_one : (l : PlainData) (b c : BodyData) → IsPlainRead p r l b → IsPlainRead p r l c → b ≡ c
  plain_one l b c h k =
      let number = number_one l.label b.label c.label h.sort k.sort h.made_by k.made_by in
      let sort = sort_one l.label b.label c.label h.sort k.sort h.made_by k.made_by in
      let here = subst (λ (s : Sort). IsReadAmong r.parts r.stems s l.body.text l.names b.term)
      sort h.read in
      let term = among_one r.parts r.stems k.sort l.body.text l.names b.term c.term here k.read in
      λ i. record { label = number i; parts = (h.many ∙ sym k.many) i; term = term i }

  pub plains_one : (ls : List PlainData) (bs cs : List BodyData) → ArePlainsRead p r ls bs →
      ArePlainsRead p r ls cs → bs ≡ cs
  plains_one [] [] [] h k = refl
  plains_one [] [] (c ∷ cs) h k = absurd k
  plains_one [] (b ∷ bs) cs h k = absurd h
  plains_one (l ∷ ls) [] cs h k = absurd h
  plains_one (l ∷ ls) (b ∷ bs) [] h k = absurd k
  plains_one (l ∷ ls) (b ∷ bs) (c ∷ cs) h k =
      let here = plain_one l b c h.0 k.0 in
      let rest = plains_one ls bs cs h.1 k.1 in
      λ i. here i ∷ rest i

  -- the line is refused at the sort of each production that has the label
  at_sort : (l : PlainData) (e : NotationError) (n : ℕ) (s : Sort) → IsProduction p l.label n s →
      IsBadPlain p r l e → IsRefusedAmong r.parts r.stems s l.body.text l.names l.body.number e
  at_sort l e n s made h =
      subst (λ (q : Sort). IsRefusedAmong r.parts r.stems q l.body.text l.names l.body.number e)
      (sort_one l.label h.0 n h.1 s h.2 made) h.3

  bad_plain_one : (l : PlainData) (e d : NotationError) → e ≢ Memory → d ≢ Memory →
      IsBadPlain p r l e → IsBadPlain p r l d → Alike (PlainHasThree p r l) e d
  bad_plain_one l e d n m h k =
      among_refused_one r.parts r.stems k.1 l.body.text l.names l.body.number (PlainHasThree p r l)
      (λ three. record { label = k.0; sort = k.1; made_by = k.2; is = refl; three = three }) e d n m
      (at_sort l e k.0 k.1 k.2 h) k.3

  bad_or_plain : (l : PlainData) (b : BodyData) (e : NotationError) → e ≢ Memory →
      IsBadPlain p r l e → IsPlainRead p r l b → ⊥
  bad_or_plain l b e n h k = refused_or_among r.parts r.stems k.sort l.body.text l.names
      l.body.number b.term e n (at_sort l e b.label k.sort k.made_by h) k.read

  pub first_bad_plain_one : (ls : List PlainData) (e d : NotationError) → e ≢ Memory → d ≢ Memory →
      IsFirstBadPlain p r ls e → IsFirstBadPlain p r ls d → Alike (PlainsHaveThree p r ls) e d
  first_bad_plain_one [] e d n m h k = absurd h
  first_bad_plain_one (l ∷ ls) e d n m (inl h) (inl k) =
      alike_so (PlainHasThree p r l) (PlainsHaveThree p r (l ∷ ls))
      (λ number three. (l, is_head l ls, three)) e d (bad_plain_one l e d n m h k)
  first_bad_plain_one (l ∷ ls) e d n m (inl h) (inr k) = absurd (bad_or_plain l k.0 e n h k.1)
  first_bad_plain_one (l ∷ ls) e d n m (inr h) (inl k) = absurd (bad_or_plain l h.0 d m k h.1)
  first_bad_plain_one (l ∷ ls) e d n m (inr h) (inr k) =
      alike_so (PlainsHaveThree p r ls) (PlainsHaveThree p r (l ∷ ls))
      (λ number more. (more.0, past_head l ls more.0 more.1, more.2)) e d
      (first_bad_plain_one ls e d n m h.2 k.2)

  pub plains_or_bad : (ls : List PlainData) (bs : List BodyData) (e : NotationError) → e ≢ Memory →
      ArePlainsRead p r ls bs → IsFirstBadPlain p r ls e → ⊥
  plains_or_bad [] bs e n h k = k
  plains_or_bad (l ∷ ls) [] e n h k = h
  plains_or_bad (l ∷ ls) (b ∷ bs) e n h (inl k) = bad_or_plain l b e n k h.0
  plains_or_bad (l ∷ ls) (b ∷ bs) e n h (inr k) = plains_or_bad ls bs e n h.1 k.2
