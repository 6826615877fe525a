-- Plain bodies are read one after the other.
use Rattle.std.proofs.Common.{◌≡◌, ℕ, zero, suc, ◌+◌, ◌<◌, ◌≤◌, List, [], ◌∷◌, ◌++◌, length, drop, get_or, map, inl, inr, ap, ◌∙◌, sym, subst, append_assoc, refl, arith}
use Rattle.std.proofs.lemmas.List.{drop_more, drop_all, append-nil}
use Rattle.std.specs.List.{AllByRecursion}
use Rattle.sx_grammar.specs.declared.grammar_parts.GrammarParts.{GrammarParts}
use Rattle.sx_grammar.specs.declared.production.Production.{Production}
use Rattle.sx_grammar.specs.Grammar.{Text}
use Rattle.sx_grammar.specs.Parts.{Line, Parts, line, labels, parts}
use Rattle.sx_outline.specs.declared.plain_lines.PlainLines.{PlainLines}
use Rattle.sx_outline.specs.Stages.{plain_data}
use Rattle.sx_notation.specs.declared.notation_error.NotationError.{NotationError}
use Rattle.sx_notation.specs.ReadText.{ReaderData}
use Rattle.sx_language.specs.RuleTexts.{OrMemory}
use Rattle.sx_language.proofs.Premising.{or_memory_map}
use Rattle.sx_extension.specs.PlainBodies.{BodyData}
use Rattle.sx_extension.specs.Readings.{IsPlainRead, ArePlainsRead, IsBadPlain, IsFirstBadPlain}

-- the labels of productions that are given with their memory
pub labels_are : (from : GrammarParts) (p : Parts) (ps : List Production) → parts from ≡ p → ps ≡ from.productions.items → map (λ (q : Production). q.label) ps ≡ labels p
labels_are from p ps same is = ap (map (λ (q : Production). q.label)) is ∙ both from.productions.items ∙ ap labels same
  where
    both : (qs : List Production) → map (λ (q : Production). q.label) qs ≡ map (λ (l : Line). l.label) (map line qs)
    both [] = refl
    both (q ∷ qs) = ap (λ (x : List Text). q.label ∷ x) (both qs)

-- what holds of each of some values that are made of others
pub mapped_at_all : {X Y : Type 0} (P : Y → Type 0) (f : X → Y) (xs : List X) (i : ℕ) (x : X) → i < length xs → x ≡ get_or xs i x → AllByRecursion P (map f xs) → P (f x)
mapped_at_all P f [] i x low is all = absurd (omega (arith, low))
mapped_at_all {X} P f (y ∷ ys) zero x low is all = subst (λ (z : X). P (f z)) (sym is) all.0
mapped_at_all P f (y ∷ ys) (suc i) x low is all = mapped_at_all P f ys i x (omega (arith, low)) is all.1

-- ---- pairs

-- what holds of the rest holds of the whole
pub record Before (p : Parts) (r : ReaderData) (lines : List PlainLines) (i : ℕ) (made : List BodyData) : Type 0 where
  pub goes : (bs : List BodyData) → ArePlainsRead p r (map plain_data (drop i lines)) bs → ArePlainsRead p r (map plain_data lines) (made ++ bs)
  pub bad : (e : NotationError) → IsFirstBadPlain p r (map plain_data (drop i lines)) e → IsFirstBadPlain p r (map plain_data lines) e

module _ (p : Parts) (r : ReaderData) (lines : List PlainLines) where
  module _ (i : ℕ) (made : List BodyData) (l : PlainLines) (low : i < length lines) (is : l ≡ get_or lines i l) (before : Before p r lines i made) where
    split : drop i lines ≡ l ∷ drop (i + 1) lines
    split = drop_more lines i l low ∙ ap (λ x. x ∷ drop (i + 1) lines) (sym is)

    pub one_more : (b : BodyData) (made' : List BodyData) → IsPlainRead p r (plain_data l) b → made' ≡ made ++ b ∷ [] → Before p r lines (i + 1) made'
    one_more b made' read grown = record {
      goes = λ bs h.
          let rest = subst (λ x. ArePlainsRead p r (map plain_data x) (b ∷ bs)) (sym split) (read, h) in
          let whole = before.goes (b ∷ bs) rest in
          let left : made' ++ bs ≡ made ++ b ∷ bs = ap (λ x. x ++ bs) grown ∙ append_assoc made (b ∷ []) bs in
          subst (λ x. ArePlainsRead p r (map plain_data lines) x) (sym left) whole;
      bad = λ e h. before.bad e (subst (λ x. IsFirstBadPlain p r (map plain_data x) e) (sym split) (inr (b, read, h)));
    }

    pub one_bad : (e : NotationError) → OrMemory (IsBadPlain p r (plain_data l)) e → OrMemory (IsFirstBadPlain p r (map plain_data lines)) e
    one_bad e h =
        or_memory_map (IsBadPlain p r (plain_data l)) (IsFirstBadPlain p r (map plain_data lines)) e
        (λ x k. before.bad x (subst (λ y. IsFirstBadPlain p r (map plain_data y) x) (sym split) (inl k))) h

  pub at_end : (i : ℕ) (made : List BodyData) → length lines ≤ i → Before p r lines i made → ArePlainsRead p r (map plain_data lines) made
  at_end i made past before =
      let rest = subst (λ x. ArePlainsRead p r (map plain_data x) []) (sym (drop_all i lines past)) tt in
      subst (λ x. ArePlainsRead p r (map plain_data lines) x) (append-nil made) (before.goes [] rest)
