-- The grammars of an extension, or why there are none.
use Rattle.std.proofs.Common.{◌≡◌, ℕ, inl, inr, List, length, Ok, Err, ap, ◌∙◌, sym, subst}
use Rattle.std.specs.Prelude.{Result}
use Rattle.std.proofs.lemmas.List.{length-map}
use Rattle.sx_grammar.specs.declared.grammar_error.GrammarError.{GrammarError}
use Rattle.sx_grammar.specs.declared.grammar_error.GrammarError.TheVariants as grammar
use Rattle.sx_grammar.specs.Parts.{Line, Parts}
use Rattle.sx_grammar.specs.Tables.{GrammarData, IsWithinLimits, IsGrammarMade}
use Rattle.sx_grammar.specs.Made.{IsGrammarRefused as IsNotMade}
use Rattle.sx_grammar.specs.Extended.{IsExtended}
use Rattle.sx_directives.specs.declared.rows.FormLine.{FormLine}
use Rattle.sx_notation.specs.declared.notation_error.NotationError.{NotationError}
use Rattle.sx_notation.specs.RuleParts.{rule_parts}
use Rattle.sx_notation.specs.RuleLaws.{form_of}
use Rattle.sx_notation.specs.Refusals.{IsGrammarRefusal}
use Rattle.sx_language.specs.States.{IsNoGrammar}
use Rattle.sx_extension.specs.Grounds.{Ground, IsGroundBefore}
use Rattle.sx_extension.specs.Readings.{with_own, AreGrammars, AreNoGrammars}
use Rattle.sx_extension.specs.Stages.{HasRoom, IsUngrammatical}

-- the refusal of parts is told as it is
told : (g : Ground) (own : List Line) (p : Parts) (e : GrammarError) (x : NotationError) → IsNotMade p e → IsGrammarRefusal e x → (IsNoGrammar p e → AreNoGrammars g own e) → IsUngrammatical g own x
told g own p grammar.Memory x h same f = subst (IsUngrammatical g own) (sym same) tt
told g own p (grammar.BadLiteral t) x h same f = subst (IsUngrammatical g own) (sym same) (f h)
told g own p (grammar.SameSort t) x h same f = subst (IsUngrammatical g own) (sym same) (f h)
told g own p (grammar.UnknownSort t) x h same f = subst (IsUngrammatical g own) (sym same) (f h)
told g own p (grammar.SameLabel t) x h same f = subst (IsUngrammatical g own) (sym same) (f h)
told g own p (grammar.PlainHasTyped t) x h same f = subst (IsUngrammatical g own) (sym same) (f h)
told g own p (grammar.NoBrackets t) x h same f = subst (IsUngrammatical g own) (sym same) (f h)
told g own p (grammar.Cyclic t) x h same f = subst (IsUngrammatical g own) (sym same) (f h)

module _ (g : Ground) (own : List Line) where
  pub own_refused : (e : GrammarError) (x : NotationError) → IsExtended g.grammar own (Err e) → IsGrammarRefusal e x → IsUngrammatical g own x
  own_refused e x h same = told g own (with_own g own) e x h same (λ k. inl k)

  module _ (before : IsGroundBefore g) (room : HasRoom g own) (made : GrammarData) (is : IsExtended g.grammar own (Ok made)) (forms : ℕ) (many : forms ≡ length g.forms) where
    parts_are : made.parts ≡ with_own g own
    parts_are = ap (λ (y : GrammarData). y.parts) is.0

    as_many : length before.lines ≡ forms
    as_many = sym (length-map before.lines (form_of g.language)) ∙ sym (ap length before.forms.forms) ∙ sym many

    -- the grammar of rules can be made
    pub can_extend : (lines : List FormLine) × (p : Parts) × (g.by_rules ≡ rule_parts p lines) × (length lines ≡ forms) × IsWithinLimits (rule_parts made.parts lines)
    can_extend = (
      before.lines,
      g.grammar.parts,
      before.forms.read_by,
      as_many,
      subst (λ (y : Parts). IsWithinLimits (rule_parts y before.lines)) (sym parts_are) (room.rule_limits before.lines before.forms),
    )

    abbrev Answers : Result GrammarData GrammarError → Type 0
    Answers result = (lines : List FormLine) (p : Parts) → g.by_rules ≡ rule_parts p lines → length lines ≡ forms → IsGrammarMade (rule_parts made.parts lines) result

    answered : (result : Result GrammarData GrammarError) → Answers result → IsGrammarMade (rule_parts (with_own g own) before.lines) result
    answered result h = subst (λ (y : Parts). IsGrammarMade (rule_parts y before.lines) result) parts_are (h before.lines g.grammar.parts before.forms.read_by as_many)

    pub grammars_are : (rule : GrammarData) → Answers (Ok rule) → AreGrammars g own made rule
    grammars_are rule h =
        let x = answered (Ok rule) h in
        record {
          lines = before.lines;
          has_forms = before.forms;
          parts = parts_are;
          base = ap (λ (y : GrammarData). y.base) is.0;
          is_grammar = is.1;
          read_by = ap (λ (y : GrammarData). y.parts) x.0;
          rule_base = ap (λ (y : GrammarData). y.base) x.0 ∙ ap (λ (y : Parts). length y.productions) (sym (ap (λ (y : GrammarData). y.parts) x.0));
          is_rule_grammar = x.1;
        }

    pub rules_refused : (e : GrammarError) (x : NotationError) → Answers (Err e) → IsGrammarRefusal e x → IsUngrammatical g own x
    rules_refused e x h same = told g own (rule_parts (with_own g own) before.lines) e x (answered (Err e) h) same (λ k. inr (is.1, (before.lines, before.forms, k)))
