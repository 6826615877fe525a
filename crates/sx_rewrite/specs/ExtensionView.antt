-- Extensions as plain data.
use Rattle.std.specs.Prelude.{List, map, option_map}
use Rattle.sx_term.specs.Term.{tree}
use Rattle.sx_rules.specs.Views.{NamedRule, named, rule}
use Rattle.sx_plain.specs.Views.{table_of}
use Rattle.sx_rewrite.specs.declared.ext_rule.ExtRule.{ExtRule as ExtRuleOf}
use Rattle.sx_rewrite.specs.declared.extension_data.ExtensionData.{ExtensionData}
use Rattle.sx_rewrite.specs.declared.flat.Flat.{Flat}
use Rattle.sx_rewrite.specs.Accepted.{ExtRule}
use Rattle.sx_rewrite.specs.Extensions.{StoredExtension}
use Rattle.sx_rewrite.specs.Stored.{checked_of}

-- the view of an extension rule
abbrev pub ext_rule : ExtRuleOf → ExtRule
ext_rule e = record { rule = rule e.rule; body = option_map tree e.body }

-- the rules of an extension, with their names
abbrev pub named_rules : ExtensionData → List NamedRule
named_rules ext = map (λ e. named e.rule) ext.rules.items

-- the extension, with what is stored of its rules
abbrev pub extension_with : ExtensionData → List Flat → StoredExtension
extension_with ext flats = record {
  rules = map ext_rule ext.rules.items;
  stored = checked_of (map (λ e. rule e.rule) ext.rules.items) flats;
  table = table_of ext.plain;
}
