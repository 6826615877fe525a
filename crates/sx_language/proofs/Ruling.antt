-- The rules that were read so far, and those that are left.
use Rattle.std.proofs.Common.{◌≡◌, ℕ, ◌+◌, ◌<◌, ◌≤◌, List, [], ◌∷◌, ◌++◌, length, drop, get_or, map, Option, inl, inr, ap, ◌∙◌, sym, subst, append_assoc}
use Rattle.std.proofs.lemmas.List.{drop_more, drop_all, append-nil}
use Rattle.sx_term.specs.Tree.{Tree}
use Rattle.sx_grammar.specs.Grammar.{Text}
use Rattle.sx_rules.specs.Views.{NamedRule}
use Rattle.sx_outline.specs.declared.rule_lines.RuleLines.{RuleLines}
use Rattle.sx_outline.specs.Stages.{rule_data}
use Rattle.sx_notation.specs.declared.notation_error.NotationError.{NotationError}
use Rattle.sx_language.specs.RuleLine.{Reader}
use Rattle.sx_language.specs.RuleTexts.{IsRule, AreRules, IsBadRule, IsFirstBadRule, OrMemory}
use Rattle.sx_language.proofs.Premising.{or_memory_map}

-- what holds of the rest holds of the whole
pub record Before (r : Reader) (lines : List RuleLines) (i : ℕ) (names : List (List Text))
    (made : List NamedRule) (bodies : List (Option Tree)) : Type 0 where
  pub goes : (ns : List (List Text)) (qs : List NamedRule) (bs : List (Option Tree)) →
      AreRules r (map rule_data (drop i lines)) ns qs bs →
      AreRules r (map rule_data lines) (names ++ ns) (made ++ qs) (bodies ++ bs)
  pub bad : (e : NotationError) → IsFirstBadRule r (map rule_data (drop i lines)) e → IsFirstBadRule r (map rule_data lines) e

module _ (r : Reader) (lines : List RuleLines) where
  module _ (i : ℕ) (names : List (List Text)) (made : List NamedRule) (bodies : List (Option Tree))
      (l : RuleLines) (low : i < length lines) (is : l ≡ get_or lines i l)
      (before : Before r lines i names made bodies) where
    split : drop i lines ≡ l ∷ drop (i + 1) lines
    split = drop_more lines i l low ∙ ap (λ x. x ∷ drop (i + 1) lines) (sym is)

    -- one more
    pub one_more : (n : List Text) (q : NamedRule) (b : Option Tree) (names' : List (List Text))
        (made' : List NamedRule) (bodies' : List (Option Tree)) → IsRule r (rule_data l) n q b →
        names' ≡ names ++ n ∷ [] → made' ≡ made ++ q ∷ [] → bodies' ≡ bodies ++ b ∷ [] →
        Before r lines (i + 1) names' made' bodies'
    one_more n q b names' made' bodies' rule named grown more = record {
      goes = λ ns qs bs h.
          let rest = subst (λ x. AreRules r (map rule_data x) (n ∷ ns) (q ∷ qs) (b ∷ bs)) (sym split) (rule, h) in
          let whole = before.goes (n ∷ ns) (q ∷ qs) (b ∷ bs) rest in
          let left : names' ++ ns ≡ names ++ n ∷ ns = ap (λ x. x ++ ns) named ∙ append_assoc names (n ∷ []) ns in
          let right : made' ++ qs ≡ made ++ q ∷ qs = ap (λ x. x ++ qs) grown ∙ append_assoc made (q ∷ []) qs in
          let last : bodies' ++ bs ≡ bodies ++ b ∷ bs = ap (λ x. x ++ bs) more ∙ append_assoc bodies (b ∷ []) bs in
          subst (λ x. AreRules r (map rule_data lines) (names' ++ ns) (made' ++ qs) x) (sym last)
          (subst (λ x. AreRules r (map rule_data lines) (names' ++ ns) x (bodies ++ b ∷ bs)) (sym right)
          (subst (λ x. AreRules r (map rule_data lines) x (made ++ q ∷ qs) (bodies ++ b ∷ bs)) (sym left) whole));
      bad = λ e h. before.bad e (subst (λ x. IsFirstBadRule r (map rule_data x) e) (sym split) (inr (n, q, b, rule, h)));
    }

    -- the rule is bad
    pub one_bad : (e : NotationError) → OrMemory (IsBadRule r (rule_data l)) e →
        OrMemory (IsFirstBadRule r (map rule_data lines)) e
    one_bad e h =
        or_memory_map (IsBadRule r (rule_data l)) (IsFirstBadRule r (map rule_data lines)) e
        (λ x k. before.bad x (subst (λ y. IsFirstBadRule r (map rule_data y) x) (sym split) (inl k))) h

  -- none is left
  pub at_end : (i : ℕ) (names : List (List Text)) (made : List NamedRule)
      (bodies : List (Option Tree)) → length lines ≤ i → Before r lines i names made bodies →
      AreRules r (map rule_data lines) names made bodies
  at_end i names made bodies past before =
      let rest = subst (λ x. AreRules r (map rule_data x) [] [] []) (sym (drop_all i lines past)) tt in
      let whole = before.goes [] [] [] rest in
      subst (λ x. AreRules r (map rule_data lines) names made x) (append-nil bodies)
      (subst (λ x. AreRules r (map rule_data lines) x made (bodies ++ [])) (append-nil names)
      (subst (λ x. AreRules r (map rule_data lines) (names ++ []) x (bodies ++ [])) (append-nil made) whole))
