-- A text states one extension, and extensions are read one after the other.
use Rattle.std.specs.Prelude.{◌≡◌, ◌≢◌, ◌⊎◌, ℕ, ◌<◌, ◌≤◌, ◌++◌, None, map, option_map, length}
use Rattle.sx_term.specs.Term.{tree}
use Rattle.sx_grammar.specs.Grammar.{Text}
use Rattle.sx_grammar.specs.Told.{shapes_of}
use Rattle.sx_plain.specs.Views.{table_of}
use Rattle.sx_rules.specs.Sets.{forms_in, rules_in, shapes_in}
use Rattle.sx_rewrite.specs.ExtensionView.{named_rules}
use Rattle.sx_notation.specs.declared.language.Language.{Language}
use Rattle.sx_notation.specs.Language.{IsLanguage}
use Rattle.sx_language.specs.States.{IsLanguageIn as StatesLanguage}
use Rattle.sx_extension.specs.declared.extension_error.ExtensionError.{ExtensionError}
use Rattle.sx_extension.specs.declared.extension_error.ExtensionError.TheVariants.{Memory}
use Rattle.sx_extension.specs.declared.extension.ReadExtension.{ReadExtension}
use Rattle.sx_extension.specs.Alike.{ShowOtherReadings}
use Rattle.sx_extension.specs.Fitting.{FitsAfter}
use Rattle.sx_extension.specs.Grounds.{Ground, HasRoomFor, IsGroundBefore}
use Rattle.sx_extension.specs.States.{IsExtensionIn, IsExtensionTextRefused}
use Rattle.sx_term.specs.Limits.{most_bytes}

-- two extensions are the same, but for where they lie in memory
pub record SameExtension (x y : ReadExtension) : Type 0 where
  -- the grammars, and how many of their productions are base
  pub grammar : x.grammar ≡ y.grammar
  -- the same of the grammars by which rules are read
  pub rule_grammar : x.rule_grammar ≡ y.rule_grammar
  -- the names of the extensions
  pub name : x.extension.name ≡ y.extension.name
  -- the rules with their names
  pub rules : named_rules x.extension ≡ named_rules y.extension
  -- the bodies of the rules
  pub bodies : map (λ e. option_map tree e.body) x.extension.rules.items ≡
      map (λ e. option_map tree e.body) y.extension.rules.items
  -- the names of the variables of each rule
  pub names : x.names.items ≡ y.names.items
  -- how many labels are base
  pub base : x.extension.plain.base ≡ y.extension.plain.base
  -- the entry of each label
  pub table : table_of x.extension.plain ≡ table_of y.extension.plain

-- A text states one extension, or has one refusal, but for the two readings that it shows of a line
-- with more than two. Out of memory is free.
pub record OneExtension : Type 0 where
  pub found : (g : Ground) (bytes : Text) (x y : ReadExtension) → IsExtensionIn g bytes x →
      IsExtensionIn g bytes y → SameExtension x y
  pub either : (g : Ground) (bytes : Text) (x : ReadExtension) (e : ExtensionError) →
      IsExtensionIn g bytes x → IsExtensionTextRefused g bytes e → e ≡ Memory
  pub refused : (g : Ground) (bytes : Text) (e d : ExtensionError) →
      IsExtensionTextRefused g bytes e →
      IsExtensionTextRefused g bytes d → e ≢ Memory → d ≢ Memory →
      (e ≡ d) ⊎ ShowOtherReadings g bytes e d

-- what the first extension of a language is read after: no plain constructor has a body
abbrev pub first_ground : Language → Ground
first_ground l = record {
  language = l.grammar.parts;
  stems = l.metas.stems.items;
  forms = forms_in l.rules;
  grammar = l.grammar;
  by_rules = l.rule_grammar.parts;
  rules = rules_in l.rules;
  shapes = shapes_in l.rules;
  rule_forms = forms_in l.rules;
  base = length l.grammar.parts.productions;
  table = λ label. None;
}

-- what is read after this and the extension
abbrev pub next_ground : Ground → ReadExtension → Ground
next_ground g x = record {
  language = g.language;
  stems = g.stems;
  forms = g.forms;
  grammar = x.grammar;
  by_rules = x.rule_grammar.parts;
  rules = g.rules ++ named_rules x.extension;
  shapes = shapes_of x.grammar.parts;
  rule_forms = g.forms;
  base = g.base;
  table = table_of x.extension.plain;
}

-- after a language that a text states extensions can be read, as many as 8,190
pub record LanguagesBegin : Type 0 where
  pub before : (name bytes : Text) (l : Language) → StatesLanguage name bytes l → IsLanguage l →
      length bytes ≤ most_bytes → IsGroundBefore (first_ground l)
  pub room : (name bytes : Text) (l : Language) (files : ℕ) → StatesLanguage name bytes l →
      length bytes ≤ most_bytes → files ≤ 8190 → HasRoomFor (first_ground l) files

-- After an extension that is read and fits the next one can be read, where there is room, and each
-- file takes the room of one. Extensions that are the same are one to those after them.
pub record ExtensionsGoOn : Type 0 where
  pub before : (g : Ground) (bytes : Text) (x : ReadExtension) → IsGroundBefore g →
      IsExtensionIn g bytes x →
      FitsAfter g x → HasRoomFor (next_ground g x) 1 → IsGroundBefore (next_ground g x)
  pub room : (g : Ground) (x : ReadExtension) (files more : ℕ) → FitsAfter g x → files < more →
      HasRoomFor g more → HasRoomFor (next_ground g x) files
  pub same : (g : Ground) (x y : ReadExtension) → SameExtension x y →
      next_ground g x ≡ next_ground g y
