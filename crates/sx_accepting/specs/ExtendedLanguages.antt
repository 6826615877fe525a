-- Languages with extensions, as plain data.
use Rattle.std.specs.Prelude.{◌≡◌, ℕ, suc, List, Option, Some, None, map, length}
use Rattle.sx_term.specs.Sorts.{Shape}
use Rattle.sx_grammar.specs.Parts.{Parts}
use Rattle.sx_grammar.specs.Tables.{GrammarData}
use Rattle.sx_grammar.specs.Told.{shapes_of}
use Rattle.sx_earley.specs.Tokens.{Stems}
use Rattle.sx_rules.specs.Sets.{shapes_in, forms_in, rules_in}
use Rattle.sx_rules.specs.Views.{FormData, NamedRule}
use Rattle.sx_rewrite.specs.declared.accepted.Accepted.{Accepted as AcceptedOf}
use Rattle.sx_rewrite.specs.Accepted.{Accepted}
use Rattle.sx_rewrite.specs.AcceptedView.{accepted}
use Rattle.sx_rewrite.specs.Extensions.{without_extensions}
use Rattle.sx_notation.specs.declared.language.Language.{Language}
use Rattle.sx_notation.specs.Language.{LanguageData, language_data}
use Rattle.sx_extension.specs.Grounds.{Ground, HasRoomFor, IsGroundBefore}
use Rattle.sx_accepting.specs.declared.own_grammars.OwnGrammars.{OwnGrammars}
use Rattle.sx_accepting.specs.declared.extended.Extended.{Extended}

-- ---- languages

-- what extensions of a language are read by: what compiling depends on, and the stems of
-- metavariables
pub record BaseLanguage : Type 0 where
  pub content : LanguageData
  pub stems : Stems

-- the view of a language
abbrev pub base_of : Language → BaseLanguage
base_of l = record { content = language_data l; stems = l.metas.stems.items }

-- ---- accepted sets

-- An accepted set: its base rules with their shapes and forms, all its rules with theirs, and what
-- is accepted. The rules have their names.
pub record SetData : Type 0 where
  pub base_rules : List NamedRule
  pub base_shapes : List Shape
  pub forms : List FormData
  pub rules : List NamedRule
  pub shapes : List Shape
  pub kept : Accepted

-- the view of an accepted set
abbrev pub set_data : AcceptedOf → SetData
set_data a = record {
  base_rules = rules_in a.base;
  base_shapes = shapes_in a.base;
  forms = forms_in a.base;
  rules = rules_in a.rules;
  shapes = shapes_in a.rules;
  kept = accepted a;
}

-- ---- languages with extensions

-- The grammar, and the sorts and productions by which rules are read, both with what extensions
-- add; the rules that are accepted; and how many of these are of the last extension.
pub record ExtendedData : Type 0 where
  pub grammar : GrammarData
  pub by_rules : Parts
  pub set : SetData
  pub last : ℕ

-- the grammar of the extensions, or that of the language where there are none
abbrev pub grammar_with : Language → Option OwnGrammars → GrammarData
grammar_with l None = l.grammar
grammar_with l (Some own) = own.grammar

-- so of the grammar by which rules are read
abbrev pub rule_grammar_with : Language → Option OwnGrammars → GrammarData
rule_grammar_with l None = l.rule_grammar
rule_grammar_with l (Some own) = own.rule_grammar

-- the view of a language with extensions
abbrev pub extended_data : Language → Extended → ExtendedData
extended_data l x = record {
  grammar = grammar_with l x.grammars;
  by_rules = (rule_grammar_with l x.grammars).parts;
  set = set_data x.accepted;
  last = x.last;
}

-- the language without extensions
abbrev pub unextended : LanguageData → ExtendedData
unextended l = record {
  grammar = record { parts = l.parts; base = length l.parts.productions };
  by_rules = l.rule_parts;
  set = record {
    base_rules = l.rules;
    base_shapes = shapes_of l.parts;
    forms = l.forms;
    rules = l.rules;
    shapes = shapes_of l.parts;
    kept = without_extensions (map (λ r. r.rule) l.rules);
  };
  last = 0;
}

-- what the next extension is read after
abbrev pub ground_of : BaseLanguage → ExtendedData → Ground
ground_of l x = record {
  language = l.content.parts;
  stems = l.stems;
  forms = l.content.forms;
  grammar = x.grammar;
  by_rules = x.by_rules;
  rules = x.set.rules;
  shapes = x.set.shapes;
  rule_forms = x.set.forms;
  base = length x.set.base_shapes;
  table = x.set.kept.table;
}

-- the base rules are those of the language, and the next extension can be read, with room for so
-- many after it
pub record CanExtend (l : BaseLanguage) (x : ExtendedData) (files : ℕ) : Type 0 where
  pub rules : x.set.base_rules ≡ l.content.rules
  pub shapes : x.set.base_shapes ≡ shapes_of l.content.parts
  pub before : IsGroundBefore (ground_of l x)
  pub room : HasRoomFor (ground_of l x) (suc files)

-- what the next extension is read after, of a language with extensions in memory
abbrev pub ground_after : Language → Extended → Ground
ground_after l x = ground_of (base_of l) (extended_data l x)

-- the language with extensions can be extended by so many files
abbrev pub CanExtendBy : Language → Extended → ℕ → Type 0
CanExtendBy l x files = CanExtend (base_of l) (extended_data l x) files
