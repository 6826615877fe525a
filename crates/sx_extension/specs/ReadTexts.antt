-- The texts of an extension that is prepared.
use Rattle.std.specs.Prelude.{◌⊎◌, List, map, option_map}
use Rattle.sx_term.specs.Term.{tree}
use Rattle.sx_rules.specs.Views as view
use Rattle.sx_outline.specs.Stages.{plain_data, rule_data}
use Rattle.sx_notation.specs.declared.notation_error.NotationError.{NotationError}
use Rattle.sx_language.specs.RuleTexts.{AreRules, IsFirstBadRule}
use Rattle.sx_extension.specs.declared.prepared.Prepared.{Prepared}
use Rattle.sx_extension.specs.declared.read_texts.ReadTexts.{ReadTexts}
use Rattle.sx_extension.specs.Grounds.{Ground}
use Rattle.sx_extension.specs.PlainBodies.{BodyData, body_data}
use Rattle.sx_extension.specs.Readings.{Texts, tables, ArePlainsRead, IsFirstBadPlain}
use Rattle.sx_extension.specs.Stages.{reader_of}

-- texts without their memory
abbrev pub read_texts : ReadTexts → Texts
read_texts x = record {
  plains = map body_data x.plains.items;
  rules = map view.named x.rules.rules.items;
  names = x.rules.names.items;
  bodies = map (option_map tree) x.rules.bodies.items;
}

-- the pairs and the lines of the rules state these texts
pub record AreTextsOf (g : Ground) (from : Prepared) (x : ReadTexts) : Type 0 where
  pub plains : ArePlainsRead from.grammar.parts (tables (reader_of g from))
      (map plain_data from.plains.items) (read_texts x).plains
  pub rules : AreRules (reader_of g from) (map rule_data from.rules.items) (read_texts x).names
      (read_texts x).rules (read_texts x).bodies

-- the first bad line of the pairs is refused, or these are read and that of the rules is
abbrev pub AreBadTextsOf : Ground → Prepared → NotationError → Type 0
AreBadTextsOf g from e =
    IsFirstBadPlain from.grammar.parts (tables (reader_of g from))
    (map plain_data from.plains.items) e
    ⊎ ((bs : List BodyData) ×
    ArePlainsRead from.grammar.parts (tables (reader_of g from))
    (map plain_data from.plains.items) bs
    × IsFirstBadRule (reader_of g from) (map rule_data from.rules.items) e)
