-- An extension whose texts are checked.
use Rattle.std.specs.Prelude.{◌≡◌, ℕ, ◌<◌, map, option_map, length}
use Rattle.sx_term.specs.Term.{tree}
use Rattle.sx_grammar.specs.Grammar.{Text}
use Rattle.sx_grammar.specs.Told.{shapes_of}
use Rattle.sx_plain.specs.declared.table.PlainTable.{PlainTable}
use Rattle.sx_plain.specs.Tables.{Desugars}
use Rattle.sx_plain.specs.Views.{table_of}
use Rattle.sx_rewrite.specs.ExtensionView.{named_rules}
use Rattle.sx_extension.specs.declared.checked_texts.CheckedTexts.{CheckedTexts}
use Rattle.sx_extension.specs.declared.extension.ReadExtension.{ReadExtension}
use Rattle.sx_extension.specs.declared.prepared.Prepared.{Prepared}
use Rattle.sx_extension.specs.declared.read_texts.ReadTexts.{ReadTexts}
use Rattle.sx_extension.specs.Checks.{HaveRuleSet, HaveTable, HaveBodies}
use Rattle.sx_extension.specs.Fitting.{FitsAfter}
use Rattle.sx_extension.specs.Grounds.{Ground}
use Rattle.sx_extension.specs.ReadTexts.{read_texts}
use Rattle.sx_extension.specs.States.{IsExtensionIn}

-- the rules are a rule set, this is their plain table, and each has its body as it should
pub record HasCheckedRules (g : Ground) (from : Prepared) (x : ReadTexts) (t : PlainTable) : Type 0
  where
    pub rule_set : HaveRuleSet g from x
    pub table : HaveTable g from x t
    pub bodied : HaveBodies g from x
    pub desugars : Desugars (shapes_of g.language) (shapes_of from.grammar.parts) (table_of t)
    pub keeps : (label : ℕ) → label < length g.shapes → g.table label ≡ table_of t label

-- the extension has what was prepared, and the texts and the table that were checked
pub record IsExtensionOf (from : Prepared) (x : CheckedTexts) (y : ReadExtension) : Type 0 where
  pub grammar : y.grammar ≡ from.grammar
  pub rule_grammar : y.rule_grammar ≡ from.rule_grammar
  pub name : y.extension.name ≡ from.name
  pub rules : named_rules y.extension ≡ (read_texts x.texts).rules
  pub bodies : map (λ e. option_map tree e.body) y.extension.rules.items ≡
      (read_texts x.texts).bodies
  pub names : y.names.items ≡ (read_texts x.texts).names
  pub plain : y.extension.plain ≡ x.plain

-- the text states the extension, which fits what it was read after
pub record IsReadFrom (g : Ground) (bytes : Text) (x : ReadExtension) : Type 0 where
  pub states : IsExtensionIn g bytes x
  pub fits : FitsAfter g x
