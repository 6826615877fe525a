-- What reads the lines of rules, as plain data.
use Rattle.std.specs.Prelude.{◌≡◌}
use Rattle.sx_rules.specs.Views as view
use Rattle.sx_notation.specs.ReadText.{ReaderData}
use Rattle.sx_language.specs.RuleLine.{Reader}
use Rattle.sx_language.specs.declared.rule_reader.RuleReader.{RuleReader}

-- the data of a reader: its parts, stems and forms
abbrev pub reader : RuleReader → Reader
reader r = record {
  parts = r.grammar.now.parts;
  stems = r.metas.now.stems.items;
  forms = view.forms r.forms.now;
}

-- the tables are made of its parts and stems
abbrev pub AreReaderTables : Reader → ReaderData → Type 0
AreReaderTables r d = (d.parts ≡ r.parts) × (d.stems ≡ r.stems)
