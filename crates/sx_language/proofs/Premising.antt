-- The premises that were read so far, and those that are left.
use Rattle.std.proofs.Common.{◌≡◌, ℕ, ◌+◌, ◌*◌, ◌<◌, ◌≤◌, List, [], ◌∷◌, ◌++◌, length, drop, get_or, map, inl, inr, refl, ap, ◌∙◌, sym, subst, append_assoc, arith}
use Rattle.std.proofs.lemmas.List.{drop_more, drop_all, append-nil}
use Rattle.sx_grammar.specs.Grammar.{Text}
use Rattle.sx_rules.specs.Rules.{Premise}
use Rattle.sx_outline.specs.declared.rule_lines.RuleLine.{RuleLine}
use Rattle.sx_outline.specs.Stages.{numbered_rule_line}
use Rattle.sx_notation.specs.declared.notation_error.NotationError.{NotationError}
use Rattle.sx_notation.specs.declared.notation_error.NotationError.TheVariants.{Memory, NotUtf8}
use Rattle.sx_notation.specs.declared.notation_error.NotationError.TheVariants.{Notation, Token}
use Rattle.sx_notation.specs.declared.notation_error.NotationError.TheVariants.{Grammar, Read}
use Rattle.sx_notation.specs.declared.notation_error.NotationError.TheVariants.{Rules}
use Rattle.sx_language.specs.RuleLine.{Reader, IsLine, IsBadRuleLine}
use Rattle.sx_language.specs.RuleTexts.{ArePremises, IsBadPremise, OrMemory}

-- why something is refused is why, or memory is lacking
pub or_memory : (P : NotationError → Type 0) (e : NotationError) → P e → OrMemory P e
or_memory P Memory h = tt
or_memory P (NotUtf8 place) h = h
or_memory P (Notation line kind) h = h
or_memory P (Token line e) h = h
or_memory P (Grammar e) h = h
or_memory P (Read line e) h = h
or_memory P (Rules e variable) h = h

pub or_memory_map : (P Q : NotationError → Type 0) (e : NotationError) → ((x : NotationError) → P x → Q x) → OrMemory P e → OrMemory Q e
or_memory_map P Q Memory f h = tt
or_memory_map P Q (NotUtf8 place) f h = f (NotUtf8 place) h
or_memory_map P Q (Notation line kind) f h = f (Notation line kind) h
or_memory_map P Q (Token line e) f h = f (Token line e) h
or_memory_map P Q (Grammar e) f h = f (Grammar e) h
or_memory_map P Q (Read line e) f h = f (Read line e) h
or_memory_map P Q (Rules e variable) f h = f (Rules e variable) h

-- what holds of the rest holds of the whole
pub record Before (r : Reader) (lines : List RuleLine) (i : ℕ) (now : List Text) (made : List Premise) : Type 0 where
  pub goes : (new : List Text) (qs : List Premise) → ArePremises r (map numbered_rule_line (drop i lines)) now new qs → ArePremises r (map numbered_rule_line lines) [] new (made ++ qs)
  pub bad : (e : NotationError) → IsBadPremise r (map numbered_rule_line (drop i lines)) now e → IsBadPremise r (map numbered_rule_line lines) [] e
  pub few : length now ≤ 10000 * i

module _ (r : Reader) (lines : List RuleLine) where
  pub at_start : (now : List Text) → now ≡ [] → Before r lines 0 now []
  at_start now none = record {
    goes = λ new qs h. subst (λ x. ArePremises r (map numbered_rule_line lines) x new qs) none h;
    bad = λ e h. subst (λ x. IsBadPremise r (map numbered_rule_line lines) x e) none h;
    few = let q : length now ≡ 0 = ap length none in omega (arith, q);
  }

  module _ (i : ℕ) (now : List Text) (made : List Premise) (l : RuleLine) (low : i < length lines) (is : l ≡ get_or lines i l) (before : Before r lines i now made) where
    split : drop i lines ≡ l ∷ drop (i + 1) lines
    split = drop_more lines i l low ∙ ap (λ x. x ∷ drop (i + 1) lines) (sym is)

    -- one more
    pub one_more : (new : List Text) (q : Premise) (made' : List Premise) → IsLine r l.text now new q → length new ≤ length now + 10000 → made' ≡ made ++ q ∷ [] → Before r lines (i + 1) new made'
    one_more new q made' line grows grown = record {
      goes = λ last qs h. subst (ArePremises r (map numbered_rule_line lines) [] last) (sym (ap (λ x. x ++ qs) grown ∙ append_assoc made (q ∷ []) qs))
          (before.goes last (q ∷ qs) (subst (λ x. ArePremises r (map numbered_rule_line x) now last (q ∷ qs)) (sym split) (new, line, h)));
      bad = λ e h. before.bad e (subst (λ x. IsBadPremise r (map numbered_rule_line x) now e) (sym split) (inr (new, q, line, h)));
      few = omega (arith, before.few, grows);
    }

    -- the line is bad
    pub one_bad : (e : NotationError) → IsBadRuleLine r (numbered_rule_line l) e → OrMemory (IsBadPremise r (map numbered_rule_line lines) []) e
    one_bad e h = or_memory (IsBadPremise r (map numbered_rule_line lines) []) e (before.bad e (subst (λ x. IsBadPremise r (map numbered_rule_line x) now e) (sym split) (inl h)))

  -- none is left
  pub at_end : (i : ℕ) (now : List Text) (made : List Premise) → length lines ≤ i → Before r lines i now made → ArePremises r (map numbered_rule_line lines) [] now made
  at_end i now made past before =
      subst (ArePremises r (map numbered_rule_line lines) [] now) (append-nil made)
      (before.goes now [] (subst (λ x. ArePremises r (map numbered_rule_line x) now now []) (sym (drop_all i lines past)) refl))
