-- What an extension file states, or why it is refused.
use Rattle.std.specs.Prelude.{◌≡◌, ◌⊎◌, ◌++◌, Option, map, option_map, length, Ok}
use Rattle.sx_term.specs.Term.{tree}
use Rattle.sx_grammar.specs.declared.grammar_error.GrammarError.{GrammarError}
use Rattle.sx_grammar.specs.Grammar.{Text}
use Rattle.sx_grammar.specs.Tables.{GrammarData}
use Rattle.sx_grammar.specs.Told.{shapes_of}
use Rattle.sx_rules.specs.declared.error.RuleError.{RuleError}
use Rattle.sx_rules.specs.declared.error.RuleError.TheVariants as rules
use Rattle.sx_rules.specs.Good.{IsRuleSet, IsRuleSetRefused as IsNoRuleSet}
use Rattle.sx_plain.specs.declared.table.PlainTable.{PlainTable}
use Rattle.sx_outline.specs.declared.outline_error.OutlineError.TheVariants as outline
use Rattle.sx_outline.specs.ExtensionOutlined.{ExtensionOutlineData}
use Rattle.sx_rewrite.specs.ExtensionView.{named_rules}
use Rattle.sx_notation.specs.declared.notation_error.NotationError.{NotationError}
use Rattle.sx_notation.specs.declared.notation_error.NotationError.TheVariants.{Memory, NotUtf8}
use Rattle.sx_notation.specs.declared.notation_error.NotationError.TheVariants.{Notation, Token}
use Rattle.sx_notation.specs.declared.notation_error.NotationError.TheVariants.{Grammar, Read}
use Rattle.sx_notation.specs.declared.notation_error.NotationError.TheVariants.{Rules}
use Rattle.sx_language.specs.RuleLine.{Reader}
use Rattle.sx_language.specs.States.{name_unbound}
use Rattle.sx_extension.specs.declared.extension_error.ExtensionError.{ExtensionError}
use Rattle.sx_extension.specs.declared.extension_error.ExtensionError.TheVariants as extension
use Rattle.sx_extension.specs.declared.extension.ReadExtension.{ReadExtension}
use Rattle.sx_extension.specs.Bodies.{AreBodied}
use Rattle.sx_extension.specs.BodyRefusals.{HaveBadBody}
use Rattle.sx_extension.specs.Grounds.{Ground}
use Rattle.sx_extension.specs.PlainTables.{IsTableMade}
use Rattle.sx_extension.specs.Readings.{HasOutline, HasNoOutline, with_own, AreNoGrammars}
use Rattle.sx_extension.specs.Readings.{IsExtensionReadable, Texts, AreTextsRead, IsBadText}
use Rattle.sx_extension.specs.Stages.{IsNoTable}

-- the text has this outline and these grammars, and its lines state these texts
pub record IsExtensionTextRead (g : Ground) (bytes : Text) (o : ExtensionOutlineData)
    (grammar by_rules : GrammarData) (x : Texts) : Type 0 where
  pub reader : Reader
  pub readable : IsExtensionReadable g bytes o grammar by_rules reader
  pub read : AreTextsRead (with_own g o.productions) reader o x

-- the rules before the extension, and then its own, are a rule set
abbrev pub HasRuleSet : Ground → ExtensionOutlineData → Texts → Type 0
HasRuleSet g o x = IsRuleSet (shapes_of (with_own g o.productions)) g.forms (g.rules ++ x.rules)

-- this is the table before the extension with its plain bodies
abbrev pub HasTable : Ground → ExtensionOutlineData → Texts → PlainTable → Type 0
HasTable g o x t = IsTableMade g.base (shapes_of (with_own g o.productions)) (length g.shapes)
    g.table x.plains (Ok t)

-- each rule has its body as it should
abbrev pub RulesHaveBodies : Ground → ExtensionOutlineData → Texts → Type 0
RulesHaveBodies g o x = AreBodied g.forms (shapes_of (with_own g o.productions)) (length g.shapes)
    o.rules x.rules x.bodies

-- the text states the extension
pub record IsExtensionIn (g : Ground) (bytes : Text) (x : ReadExtension) : Type 0 where
  pub outline : ExtensionOutlineData
  pub texts : Texts
  pub read : IsExtensionTextRead g bytes outline x.grammar x.rule_grammar texts
  pub name : x.extension.name ≡ outline.header.name
  pub rules : named_rules x.extension ≡ texts.rules
  pub bodies : map (λ e. option_map tree e.body) x.extension.rules.items ≡ texts.bodies
  pub names : x.names.items ≡ texts.names
  pub rule_set : HasRuleSet g outline texts
  pub table : HasTable g outline texts x.extension.plain
  pub bodied : RulesHaveBodies g outline texts

-- the text has its grammars, and the first bad line of its plain pairs and rules is refused
pub record HasBadText (g : Ground) (bytes : Text) (e : NotationError) : Type 0 where
  pub outline : ExtensionOutlineData
  pub grammar : GrammarData
  pub by_rules : GrammarData
  pub reader : Reader
  pub readable : IsExtensionReadable g bytes outline grammar by_rules reader
  pub refused : IsBadText (with_own g outline.productions) reader outline e

-- the text has an outline, and the first of its grammars that is none is refused
pub record HasNoGrammars (g : Ground) (bytes : Text) (e : GrammarError) : Type 0 where
  pub outline : ExtensionOutlineData
  pub outlined : HasOutline g bytes outline
  pub refused : AreNoGrammars g outline.productions e

-- the text has this outline, and its lines state these texts
pub record HasTexts (g : Ground) (bytes : Text) (o : ExtensionOutlineData) (x : Texts) : Type 0
  where
    pub grammar : GrammarData
    pub by_rules : GrammarData
    pub read : IsExtensionTextRead g bytes o grammar by_rules x

-- why the rules are no rule set
abbrev pub IsNoExtendedRules : Ground → ExtensionOutlineData → Texts → RuleError → Type 0
IsNoExtendedRules g o x rules.Memory = ⊥
IsNoExtendedRules g o x e = IsNoRuleSet (shapes_of (with_own g o.productions)) g.forms
    (g.rules ++ x.rules) e

-- the lines are read, and the rules are no rule set
pub record HasNoExtendedRuleSet (g : Ground) (bytes : Text) (e : RuleError)
    (unbound : Option Text) :
    Type 0 where
  pub outline : ExtensionOutlineData
  pub texts : Texts
  pub read : HasTexts g bytes outline texts
  pub refused : IsNoExtendedRules g outline texts e
  pub named : unbound ≡ name_unbound (map (λ q. q.name) texts.rules) texts.names e

-- there is a rule set, and the plain bodies make no table
pub record HasNoTable (g : Ground) (bytes : Text) (e : ExtensionError) : Type 0 where
  pub outline : ExtensionOutlineData
  pub texts : Texts
  pub read : HasTexts g bytes outline texts
  pub rule_set : HasRuleSet g outline texts
  pub refused : IsNoTable g (with_own g outline.productions) outline.plains texts.plains e

-- there are a rule set and a table, and the first body that is not as it should be is refused
pub record HasBodyDefect (g : Ground) (bytes : Text) (e : ExtensionError) : Type 0 where
  pub outline : ExtensionOutlineData
  pub texts : Texts
  pub read : HasTexts g bytes outline texts
  pub rule_set : HasRuleSet g outline texts
  pub table : PlainTable
  pub has_table : HasTable g outline texts table
  pub refused : HaveBadBody g.forms (shapes_of (with_own g outline.productions))
      (length g.shapes) outline.rules texts.rules texts.bodies e

-- why the text states no extension, where the notation is why
abbrev pub IsBadNotation : Ground → Text → NotationError → Type 0
IsBadNotation g bytes Memory = ⊥
IsBadNotation g bytes (NotUtf8 place) = HasNoOutline g bytes (outline.NotUtf8 place)
IsBadNotation g bytes (Notation line kind) =
    HasNoOutline g bytes (outline.Notation line kind) ⊎ HasBadText g bytes (Notation line kind)
IsBadNotation g bytes (Token line e) = HasBadText g bytes (Token line e)
IsBadNotation g bytes (Grammar e) = HasNoGrammars g bytes e
IsBadNotation g bytes (Read line e) = HasBadText g bytes (Read line e)
IsBadNotation g bytes (Rules e unbound) = HasNoExtendedRuleSet g bytes e unbound

-- why the text states no extension, out of memory aside
abbrev pub IsExtensionTextRefused : Ground → Text → ExtensionError → Type 0
IsExtensionTextRefused g bytes extension.Memory = Unit {0}
IsExtensionTextRefused g bytes (extension.Notation e) = IsBadNotation g bytes e
IsExtensionTextRefused g bytes (extension.Plain label defect) =
    HasNoTable g bytes (extension.Plain label defect)
IsExtensionTextRefused g bytes (extension.NoPlain label) = HasNoTable g bytes
    (extension.NoPlain label)
IsExtensionTextRefused g bytes (extension.NoBody rule) = HasBodyDefect g bytes
    (extension.NoBody rule)
IsExtensionTextRefused g bytes (extension.BodySort rule) = HasBodyDefect g bytes
    (extension.BodySort rule)
IsExtensionTextRefused g bytes (extension.BodyExtended rule) =
    HasBodyDefect g bytes (extension.BodyExtended rule)
