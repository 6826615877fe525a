-- The stages in which an extension file is read.
use Rattle.std.specs.Prelude.{◌≡◌, ℕ, ◌+◌, ◌-◌, ◌<◌, ◌≤◌, ◌^◌, List}
use Rattle.std.specs.Prelude.{map, length, Contains, Ok, Err}
use Rattle.std.specs.List.{AllByRecursion}
use Rattle.sx_term.specs.declared.sort.Sort.{Sort}
use Rattle.sx_grammar.specs.Grammar.{Text}
use Rattle.sx_grammar.specs.Parts.{Line, Parts, labels, literals}
use Rattle.sx_grammar.specs.Tables.{IsWithinLimits}
use Rattle.sx_grammar.specs.Told.{IsSortOfLabel, shapes_of}
use Rattle.sx_earley.specs.Completed.{IsSort}
use Rattle.sx_term.specs.Sorts.{Shape}
use Rattle.sx_rules.specs.declared.error.RuleError.{RuleError}
use Rattle.sx_rules.specs.Good.{IsRuleSetRefused as IsNoRuleSet}
use Rattle.sx_rules.specs.Views.{FormData, NamedRule}
use Rattle.sx_directives.specs.declared.rows.FormLine.{FormLine}
use Rattle.sx_directives.specs.declared.rows.VarLine.{VarLine}
use Rattle.sx_outline.specs.declared.extension_outline.ExtensionOutline.{ExtensionOutline}
use Rattle.sx_outline.specs.declared.outline_error.OutlineError.{OutlineError}
use Rattle.sx_outline.specs.declared.outline_error.OutlineError.TheVariants as outline
use Rattle.sx_outline.specs.Fitting.{ArePartNames}
use Rattle.sx_lines.specs.Distinct.{AreTextsDistinct}
use Rattle.sx_outline.specs.Sized.{HasShortLines}
use Rattle.sx_outline.specs.Stages.{PlainData, plain_data, rule_data}
use Rattle.sx_outline.specs.ExtensionOutlined.{ExtensionOutlineData, extension_outline}
use Rattle.sx_outline.specs.ExtensionOutlined.{IsExtensionAnswer, extension_declares}
use Rattle.sx_outline.specs.ExtensionSized.{own_parts, IsExtensionFit}
use Rattle.sx_notation.specs.declared.notation_error.NotationError.{NotationError}
use Rattle.sx_notation.specs.declared.notation_error.NotationError.TheVariants.{Memory, NotUtf8}
use Rattle.sx_notation.specs.declared.notation_error.NotationError.TheVariants.{Notation, Grammar}
use Rattle.sx_notation.specs.ReadText.{ReaderData}
use Rattle.sx_notation.specs.RuleParts.{rule_parts}
use Rattle.sx_language.specs.RuleLine.{Reader, CanReadRules}
use Rattle.sx_language.specs.States.{AreStems, IsNameOfSort}
use Rattle.sx_language.specs.Prepared.{IsRuleRefusal}
use Rattle.sx_extension.specs.declared.prepared.Prepared.{Prepared}
use Rattle.sx_extension.specs.declared.extension_error.ExtensionError.{ExtensionError}
use Rattle.sx_extension.specs.declared.extension_error.ExtensionError.TheVariants as extension
use Rattle.sx_extension.specs.declared.table_error.TableError.{TableError}
use Rattle.sx_extension.specs.PlainBodies.{BodyData}
use Rattle.sx_extension.specs.PlainTables.{IsTableMade}
use Rattle.sx_extension.specs.TableRefusals.{IsTableRefusal}
use Rattle.sx_extension.specs.Grounds.{Ground, GroundHasForms}
use Rattle.sx_extension.specs.Readings.{HasOutline, HasNoOutline, with_own, AreNoGrammars}
use Rattle.sx_extension.specs.Readings.{IsExtensionReadable, tables}
use Rattle.sx_term.specs.Limits.{most_bytes}

-- the productions of the extension are no more than grammars have room for
pub record HasRoom (g : Ground) (own : List Line) : Type 0 where
  pub few : length (with_own g own).productions < 2 ^ 32 - 1
  pub limits : IsWithinLimits (with_own g own)
  pub rule_limits : (lines : List FormLine) → GroundHasForms g lines →
      IsWithinLimits (rule_parts (with_own g own) lines)

-- the extension has at most 262,144 productions and literals in all
abbrev pub HasFewProductions : ExtensionOutlineData → Type 0
HasFewProductions o = length o.productions + length (literals (own_parts o)) ≤ most_bytes

-- the text has the outline, which fits the language, few productions, and lines of at most 262,144
-- bytes
pub record IsUsableExtension (g : Ground) (bytes : Text) (o : ExtensionOutline) : Type 0 where
  pub before : List VarLine
  pub stems : AreStems g.language before g.stems
  pub outlined : IsExtensionAnswer g.language.sorts before bytes (Ok (extension_outline o))
  pub fit : IsExtensionFit g.language.sorts before (extension_outline o)
  pub few : HasFewProductions (extension_outline o)
  pub room : HasRoom g (extension_outline o).productions
  pub sorts : AllByRecursion (λ v. IsNameOfSort g.language v.sort) o.vars.items
  pub plains : AllByRecursion (λ p. length p.body.text ≤ most_bytes) (extension_outline o).plains
  pub lines : AllByRecursion (λ l. HasShortLines most_bytes (rule_data l)) o.rules.items

-- the refusal of a text that has no outline
abbrev pub IsOutlineRefusal : OutlineError → NotationError → Type 0
IsOutlineRefusal outline.Memory e = e ≡ Memory
IsOutlineRefusal (outline.NotUtf8 place) e = e ≡ NotUtf8 place
IsOutlineRefusal (outline.Notation line kind) e = e ≡ Notation line kind

-- the text has no outline, memory aside
abbrev pub IsUnoutlined : Ground → Text → NotationError → Type 0
IsUnoutlined g bytes Memory = Unit {0}
IsUnoutlined g bytes (NotUtf8 place) = HasNoOutline g bytes (outline.NotUtf8 place)
IsUnoutlined g bytes (Notation line kind) = HasNoOutline g bytes (outline.Notation line kind)
IsUnoutlined g bytes _ = ⊥

-- the productions make no grammars, memory aside
abbrev pub IsUngrammatical : Ground → List Line → NotationError → Type 0
IsUngrammatical g own Memory = Unit {0}
IsUngrammatical g own (Grammar e) = AreNoGrammars g own e
IsUngrammatical g own _ = ⊥

-- the text has no outline, or this has no grammars, memory aside
abbrev pub IsUnprepared : Ground → Text → NotationError → Type 0
IsUnprepared g bytes (Grammar e) =
    (o : ExtensionOutlineData) × HasOutline g bytes o × AreNoGrammars g o.productions e
IsUnprepared g bytes e = IsUnoutlined g bytes e

-- what the texts of an extension that is prepared are read by
abbrev pub reader_of : Ground → Prepared → Reader
reader_of g x = record {
  parts = x.rule_grammar.parts;
  stems = x.metas.stems.items;
  forms = g.forms;
}

-- the production of the pair is there, its sort can be read at, the names of its parts are
-- distinct, and its line is not too long
pub record CanReadPlain (p : Parts) (r : ReaderData) (l : PlainData) : Type 0 where
  pub there : Contains (labels p) l.label
  pub sort : (number : ℕ) (s : Sort) → IsSortOfLabel p number s → IsSort r.parts s
  pub once : AreTextsDistinct l.names
  pub short : length l.body.text ≤ most_bytes

-- the plain pairs and the lines of the rules can be read
pub record CanReadTexts (g : Ground) (x : Prepared) : Type 0 where
  pub few : length x.grammar.parts.productions < 2 ^ 32 - 1
  pub can : CanReadRules (reader_of g x)
  pub pairs : AllByRecursion (CanReadPlain x.grammar.parts (tables (reader_of g x)))
      (map plain_data x.plains.items)
  pub short : AllByRecursion (λ l. HasShortLines most_bytes (rule_data l)) x.rules.items

-- the text has an outline with grammars and few productions, whose plain pairs have the names of
-- their parts, and this is made of it
pub record IsPreparedExtension (g : Ground) (bytes : Text) (x : Prepared) : Type 0 where
  pub from : ExtensionOutlineData
  pub readable : IsExtensionReadable g bytes from x.grammar x.rule_grammar (reader_of g x)
  pub name : x.name ≡ from.header.name
  pub plains : map plain_data x.plains.items ≡ from.plains
  pub rules : map rule_data x.rules.items ≡ from.rules
  pub named : AllByRecursion (λ p. ArePartNames (extension_declares g.language.sorts from) p.label
      p.names) from.plains
  pub few : HasFewProductions from
  pub can : CanReadTexts g x

-- this is the refusal of rules that are no rule set, whose last ones have these names and these
-- names of variables
abbrev pub IsSetRefusal : List Shape → List FormData → List NamedRule → (known : List Text) →
    (names : List (List Text)) → NotationError → Type 0
IsSetRefusal shapes forms rules known names x =
    (e : RuleError) × IsNoRuleSet shapes forms rules e × IsRuleRefusal known names e x

-- the plain bodies make no table after the one before, and this is why, by names
abbrev pub IsNoTable : Ground → Parts → List PlainData → List BodyData → ExtensionError → Type 0
IsNoTable g p ls bs extension.Memory = Unit {0}
IsNoTable g p ls bs x =
    (e : TableError) × IsTableMade g.base (shapes_of p) (length g.shapes) g.table bs (Err e) ×
    IsTableRefusal p ls e x
