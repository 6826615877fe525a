-- The checks of an extension whose texts are read.
use Rattle.std.specs.Prelude.{◌≡◌, ◌⊎◌, ◌++◌, Ok, map, length}
use Rattle.sx_grammar.specs.Told.{shapes_of}
use Rattle.sx_rules.specs.Good.{IsRuleSet}
use Rattle.sx_plain.specs.declared.table.PlainTable.{PlainTable}
use Rattle.sx_outline.specs.Stages.{plain_data, rule_data}
use Rattle.sx_notation.specs.declared.notation_error.NotationError.{NotationError}
use Rattle.sx_notation.specs.declared.notation_error.NotationError.TheVariants as notation
use Rattle.sx_extension.specs.declared.extension_error.ExtensionError.{ExtensionError}
use Rattle.sx_extension.specs.declared.extension_error.ExtensionError.TheVariants.{Memory, Notation}
use Rattle.sx_extension.specs.declared.prepared.Prepared.{Prepared}
use Rattle.sx_extension.specs.declared.read_texts.ReadTexts.{ReadTexts}
use Rattle.sx_extension.specs.Bodies.{AreBodied}
use Rattle.sx_extension.specs.BodyRefusals.{HaveBadBody}
use Rattle.sx_extension.specs.Grounds.{Ground}
use Rattle.sx_extension.specs.PlainTables.{IsTableMade}
use Rattle.sx_extension.specs.ReadTexts.{read_texts}
use Rattle.sx_extension.specs.Stages.{IsSetRefusal, IsNoTable}

-- the refusal of notation, which is that of an extension
abbrev pub IsNotationRefusal : NotationError → ExtensionError → Type 0
IsNotationRefusal notation.Memory x = x ≡ Memory
IsNotationRefusal e x = x ≡ Notation e

-- the rules before the extension, and then its own, are a rule set
abbrev pub HaveRuleSet : Ground → Prepared → ReadTexts → Type 0
HaveRuleSet g from x =
    IsRuleSet (shapes_of from.grammar.parts) g.forms (g.rules ++ (read_texts x).rules)

-- this is the table before the extension with its plain bodies
abbrev pub HaveTable : Ground → Prepared → ReadTexts → PlainTable → Type 0
HaveTable g from x t = IsTableMade g.base (shapes_of from.grammar.parts) (length g.shapes) g.table
    (read_texts x).plains (Ok t)

-- the rules are no rule set, and this is why, memory aside
abbrev pub HaveNoRuleSet : Ground → Prepared → ReadTexts → ExtensionError → Type 0
HaveNoRuleSet g from x Memory = Unit {0}
HaveNoRuleSet g from x (Notation notation.Memory) = ⊥
HaveNoRuleSet g from x (Notation e) =
    IsSetRefusal (shapes_of from.grammar.parts) g.forms (g.rules ++ (read_texts x).rules)
    (map (λ l. l.name) from.rules.items) (read_texts x).names e
HaveNoRuleSet g from x _ = ⊥

-- the rules are no rule set, or else the plain bodies make no plain table
abbrev pub AreUnchecked : Ground → Prepared → ReadTexts → ExtensionError → Type 0
AreUnchecked g from x e =
    HaveNoRuleSet g from x e
    ⊎ (HaveRuleSet g from x × IsNoTable g from.grammar.parts (map plain_data from.plains.items)
    (read_texts x).plains e)

-- each rule has its body as it should
abbrev pub HaveBodies : Ground → Prepared → ReadTexts → Type 0
HaveBodies g from x = AreBodied g.forms (shapes_of from.grammar.parts) (length g.shapes)
    (map rule_data from.rules.items) (read_texts x).rules (read_texts x).bodies

-- the first rule whose body is not as it should be is refused so, or memory is lacking
abbrev pub HaveBodyDefect : Ground → Prepared → ReadTexts → ExtensionError → Type 0
HaveBodyDefect g from x Memory = Unit {0}
HaveBodyDefect g from x e = HaveBadBody g.forms (shapes_of from.grammar.parts) (length g.shapes)
    (map rule_data from.rules.items) (read_texts x).rules (read_texts x).bodies e
