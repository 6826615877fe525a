-- A language file before the lines of its rules are read.
use Rattle.sx_outline.specs.Sized.{HasShortLines}
use Rattle.std.specs.Prelude.{◌≡◌, Option, None, List, length, map, Ok, ◌⊎◌}
use Rattle.std.specs.List.{AllByRecursion}
use Rattle.sx_grammar.specs.Grammar.{Text}
use Rattle.sx_grammar.specs.Parts.{Parts, parts}
use Rattle.sx_grammar.specs.Tables.{GrammarData, IsWithinLimits}
use Rattle.sx_grammar.specs.Made.{IsGrammar}
use Rattle.sx_directives.specs.declared.rows.FormLine.{FormLine}
use Rattle.sx_rules.specs.declared.error.RuleError.{RuleError}
use Rattle.sx_rules.specs.declared.error.RuleError.TheVariants as rules
use Rattle.sx_rules.specs.Views as view
use Rattle.sx_outline.specs.declared.outline.Outline.{Outline}
use Rattle.sx_outline.specs.Stages.{rule_data}
use Rattle.sx_outline.specs.Outlined.{IsOutlined, outline}
use Rattle.sx_outline.specs.Sized.{IsFitOutline}
use Rattle.sx_notation.specs.declared.notation_error.NotationError.{NotationError}
use Rattle.sx_notation.specs.declared.notation_error.NotationError.TheVariants.{Memory, Grammar}
use Rattle.sx_notation.specs.declared.notation_error.NotationError.TheVariants.{Rules}
use Rattle.sx_notation.specs.RuleParts.{rule_parts}
use Rattle.sx_notation.specs.RuleLaws.{HaveSortsOf}
use Rattle.sx_language.specs.declared.preparing.Prepared.{Prepared}
use Rattle.sx_language.specs.RuleLine.{Reader, CanReadRules}
use Rattle.sx_language.specs.States.{IsReadable, IsNoGrammar, forms_of, name_unbound}
use Rattle.sx_term.specs.Limits.{most_bytes}

-- a grammar of these parts, all of whose productions are base
abbrev pub whole : Parts → GrammarData
whole p = record { parts = p; base = length p.productions }

-- what the lines of the rules are read by
abbrev pub reader_in : Prepared → Reader
reader_in x = record {
  parts = x.rule_grammar.parts;
  stems = x.metas.stems.items;
  forms = view.forms x.forms.items;
}

-- the text has an outline, which fits, and this is made of it
pub record IsPreparedLanguage (name bytes : Text) (x : Prepared) : Type 0 where
  pub from : Outline
  pub readable : IsReadable name bytes from (reader_in x)
  pub fit : IsFitOutline (outline from)
  pub known : HaveSortsOf (parts from.parts) from.forms.items
  pub grammar : x.grammar ≡ whole (parts from.parts)
  pub rule_grammar : x.rule_grammar ≡ whole (rule_parts (parts from.parts) from.forms.items)
  pub forms : view.forms x.forms.items ≡ forms_of from
  pub main : x.main ≡ from.main
  pub rules : x.rules.items ≡ from.rules.items
  pub short : AllByRecursion (λ l. HasShortLines most_bytes (rule_data l)) x.rules.items
  pub bare : AllByRecursion (λ l. l.body ≡ None) (map rule_data x.rules.items)
  pub can : CanReadRules (reader_in x)

-- the outline of the text, within the limits of grammars
pub record IsUsableOutline (name bytes : Text) (o : Outline) : Type 0 where
  pub outlined : IsOutlined name bytes (Ok o)
  pub fit : IsFitOutline (outline o)
  pub limits : IsWithinLimits (parts o.parts)
  pub rule_limits : IsWithinLimits (rule_parts (parts o.parts) o.forms.items)
  pub short : AllByRecursion (λ l. HasShortLines most_bytes (rule_data l)) o.rules.items

-- memory is not what is lacking
abbrev pub IsReason : RuleError → Type 0
IsReason rules.Memory = ⊥
IsReason _ = Unit {0}

-- memory is lacking, or this is the refusal of rules with these names that are no rule set
abbrev pub IsRuleRefusal : (known : List Text) → (names : List (List Text)) → RuleError →
    NotationError → Type 0
IsRuleRefusal known names e x =
    (x ≡ Memory)
    ⊎ (IsReason e × ((unbound : Option Text) × (x ≡ Rules e unbound) ×
    (unbound ≡ name_unbound known names e)))

-- the parts are no grammar, or with the forms no grammar of rules, or memory is lacking
abbrev pub IsNoGrammars : Parts → List FormLine → NotationError → Type 0
IsNoGrammars p forms Memory = Unit {0}
IsNoGrammars p forms (Grammar e) =
    IsNoGrammar p e ⊎ (IsGrammar p × IsNoGrammar (rule_parts p forms) e)
IsNoGrammars p forms _ = ⊥
