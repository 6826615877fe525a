-- Whether a symbol reads the token at a place.
use Rattle.std.proofs.Common.{◌≡◌, ℕ, List, [], ◌∷◌, ◌⊎◌, inl, inr, ⊎_elim, Option, Some, refl, sym, ap, ◌∙◌, drop}
use Rattle.std.specs.Prelude.{None}
use Rattle.std.specs.List.{slice_get}
use Rattle.std.proofs.lemmas.Option.{same_Some, none-some}
use Rattle.sx_term.specs.declared.lex_kind.LexKind.{LexKind}
use Rattle.sx_term.specs.declared.lex_kind.LexKind.TheVariants.{Id, Num, Str}
use Rattle.sx_grammar.specs.Grammar.{Token, Mark, is_literal, is_lexeme, is_variable, Stem, of_kind, of_sort, lexical}
use Rattle.sx_grammar.specs.Reading.{IsLiteral, Marked}
use Rattle.sx_grammar.specs.Items.{ReadsToken}
use Rattle.sx_forest.proofs.Summing.{same_or_not}

abbrev Told : Type 0 → Type 0
Told P = P ⊎ (P → ⊥)

text_or_not : (a b : List ℕ) → Told (a ≡ b)
text_or_not [] [] = inl refl
text_or_not [] (y ∷ b) = inr (λ e. cc)
text_or_not (x ∷ a) [] = inr (λ e. cc)
text_or_not (x ∷ a) (y ∷ b) = by_both (same_or_not x y) (text_or_not a b)
  where
    by_both : Told (x ≡ y) → Told (a ≡ b) → Told (x ∷ a ≡ y ∷ b)
    by_both (inl e) (inl f) = inl cc
    by_both (inl e) (inr differ) = inr (λ f. differ (ap (drop 1) f))
    by_both (inr differ) h = inr (λ f. differ (same_Some x y (ap (λ l. slice_get l 0) f)))

kind_or_not : (a b : LexKind) → Told (a ≡ b)
kind_or_not Id Id = inl refl
kind_or_not Id Num = inr (λ e. cc)
kind_or_not Id Str = inr (λ e. cc)
kind_or_not Num Id = inr (λ e. cc)
kind_or_not Num Num = inl refl
kind_or_not Num Str = inr (λ e. cc)
kind_or_not Str Id = inr (λ e. cc)
kind_or_not Str Num = inr (λ e. cc)
kind_or_not Str Str = inl refl

stem_or_not : (a b : Stem) → Told (a ≡ b)
stem_or_not (of_kind a) (of_kind b) = ⊎_elim (λ e. inl (ap of_kind e)) (λ differ. inr (λ (e : of_kind a ≡ of_kind b). differ cc)) (kind_or_not a b)
stem_or_not (of_kind a) (of_sort n) = inr (λ e. cc)
stem_or_not (of_sort m) (of_kind b) = inr (λ e. cc)
stem_or_not (of_sort m) (of_sort n) = ⊎_elim (λ e. inl (ap of_sort e)) (λ differ. inr (λ (e : of_sort m ≡ of_sort n). differ cc)) (same_or_not m n)

mark_or_not : (a b : Mark) → Told (a ≡ b)
mark_or_not is_literal is_literal = inl refl
mark_or_not is_literal (is_lexeme k) = inr (λ e. cc)
mark_or_not is_literal (is_variable s) = inr (λ e. cc)
mark_or_not (is_lexeme k) is_literal = inr (λ e. cc)
mark_or_not (is_lexeme k) (is_lexeme l) = ⊎_elim (λ e. inl (ap is_lexeme e)) (λ differ. inr (λ (e : is_lexeme k ≡ is_lexeme l). differ cc)) (kind_or_not k l)
mark_or_not (is_lexeme k) (is_variable s) = inr (λ e. cc)
mark_or_not (is_variable r) is_literal = inr (λ e. cc)
mark_or_not (is_variable r) (is_lexeme l) = inr (λ e. cc)
mark_or_not (is_variable r) (is_variable s) = ⊎_elim (λ e. inl (ap is_variable e)) (λ differ. inr (λ (e : is_variable r ≡ is_variable s). differ cc)) (stem_or_not r s)

module _ (tokens : List Token) (place : ℕ) where
  marked_or_not : (mark : Mark) → Told (Marked tokens place mark)
  marked_or_not mark = by_got (slice_get tokens place) refl
    where
      by_got : (o : Option Token) → slice_get tokens place ≡ o → Told (Marked tokens place mark)
      by_got None e = inr (λ h. none-some _ (sym e ∙ h.1))
      by_got (Some t) e = ⊎_elim (λ same. inl (t.text, e ∙ ap (λ m. Some (record { mark = m; text = t.text })) same))
          (λ differ. inr (λ h. differ (ap (λ x. x.mark) (same_Some t (record { mark = mark; text = h.0 }) (sym e ∙ h.1))))) (mark_or_not t.mark mark)

  -- a literal is there or not
  pub literal_or_not : (text : List ℕ) → Told (IsLiteral tokens place text)
  literal_or_not text = by_got (slice_get tokens place) refl
    where
      literal_of : Token
      literal_of = record { mark = is_literal; text = text }

      by_both : (t : Token) → slice_get tokens place ≡ Some t → Told (t.mark ≡ is_literal) → Told (t.text ≡ text) → Told (IsLiteral tokens place text)
      by_both t e (inl m) (inl x) =
          inl (e ∙ (ap (λ y. Some (record { mark = y; text = t.text })) m ∙ ap (λ y. Some (record { mark = is_literal; text = y })) x))
      by_both t e (inl m) (inr differ) = inr (λ h. differ (ap (λ x. x.text) (same_Some t literal_of (sym e ∙ h))))
      by_both t e (inr differ) k = inr (λ h. differ (ap (λ x. x.mark) (same_Some t literal_of (sym e ∙ h))))

      by_got : (o : Option Token) → slice_get tokens place ≡ o → Told (IsLiteral tokens place text)
      by_got None e = inr (λ h. none-some _ (sym e ∙ h))
      by_got (Some t) e = by_both t e (mark_or_not t.mark is_literal) (text_or_not t.text text)

  -- so is a token of a kind
  pub lexical_or_not : (kind : LexKind) → Told (ReadsToken tokens (lexical kind) place)
  lexical_or_not kind = by_both (marked_or_not (is_lexeme kind)) (marked_or_not (is_variable (of_kind kind)))
    where
      by_both : Told (Marked tokens place (is_lexeme kind)) → Told (Marked tokens place (is_variable (of_kind kind))) → Told (ReadsToken tokens (lexical kind) place)
      by_both (inl h) k = inl (inl h)
      by_both (inr no_lexeme) (inl h) = inl (inr h)
      by_both (inr no_lexeme) (inr no_variable) = inr (λ h. ⊎_elim no_lexeme no_variable h)
