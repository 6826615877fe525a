-- What an extension file is read after, as plain data.
use Rattle.std.specs.Prelude.{◌≡◌, ℕ, ◌+◌, ◌*◌, ◌≤◌, ◌^◌, List, map, length}
use Rattle.std.specs.List.{AllByRecursion}
use Rattle.sx_term.specs.Sorts.{Shape}
use Rattle.sx_grammar.specs.Parts.{Line, Parts, literals}
use Rattle.sx_grammar.specs.Tables.{GrammarData}
use Rattle.sx_grammar.specs.Told.{shapes_of}
use Rattle.sx_grammar.specs.Extended.{extended}
use Rattle.sx_earley.specs.Tokens.{Stems}
use Rattle.sx_plain.specs.Plain.{Table}
use Rattle.sx_plain.specs.Tables.{Desugars}
use Rattle.sx_plain.specs.Views.{table_of}
use Rattle.sx_rules.specs.Views.{FormData, NamedRule}
use Rattle.sx_rules.specs.Sets.{shapes_in, forms_in, rules_in}
use Rattle.sx_directives.specs.declared.rows.FormLine.{FormLine}
use Rattle.sx_directives.specs.declared.rows.VarLine.{VarLine}
use Rattle.sx_notation.specs.RuleParts.{rule_parts}
use Rattle.sx_notation.specs.RuleLaws.{form_of, HaveSortsOf}
use Rattle.sx_notation.specs.Language.{FormFits}
use Rattle.sx_language.specs.States.{AreStems}
use Rattle.sx_extension.specs.declared.before.Before.{Before}
use Rattle.sx_term.specs.Limits.{most_bytes}

-- The sorts and productions of the language, its stems and its forms; the grammar with the
-- extensions before, the parts by which their rules are read, the rules with their names, the
-- shapes and the forms that these have, and the plain table with the number of its base labels.
pub record Ground : Type 0 where
  pub language : Parts
  pub stems : Stems
  pub forms : List FormData
  pub grammar : GrammarData
  pub by_rules : Parts
  pub rules : List NamedRule
  pub shapes : List Shape
  pub rule_forms : List FormData
  pub base : ℕ
  pub table : Table

-- what an extension is read after, without its memory
abbrev pub ground : Before → Ground
ground b = record {
  language = b.language.now.grammar.parts;
  stems = b.language.now.metas.stems.items;
  forms = forms_in b.language.now.rules;
  grammar = b.grammar.now;
  by_rules = b.rule_grammar.now.parts;
  rules = rules_in b.rules.now;
  shapes = shapes_in b.rules.now;
  rule_forms = forms_in b.rules.now;
  base = b.plain.now.base;
  table = table_of b.plain.now;
}

-- the forms, and the grammar of rules, are of these lines, whose sorts the language has
pub record GroundHasForms (g : Ground) (lines : List FormLine) : Type 0 where
  pub read_by : g.by_rules ≡ rule_parts g.grammar.parts lines
  pub forms : g.forms ≡ map (form_of g.language) lines
  pub known : HaveSortsOf g.language lines

-- the grammar by which rules are read has room for the productions and literals of so many files
-- more
pub record HasRoomFor (g : Ground) (files : ℕ) : Type 0 where
  pub productions : length g.by_rules.productions + most_bytes * files ≤ 2 ^ 31
  pub literals : length (literals g.by_rules) + most_bytes * files ≤ 2 ^ 31

-- The grammar goes on from that of the language, whose productions are base, with one sort of
-- judgements and the forms of the language for its rules. The rules have its constructors and the
-- language's forms, and the plain table is for these constructors. There is room for one file more.
pub record IsGroundBefore (g : Ground) : Type 0 where
  pub more : List Line
  pub goes_on : g.grammar.parts ≡ extended g.language more
  pub base : g.grammar.base ≡ length g.language.productions
  pub lines : List FormLine
  pub forms : GroundHasForms g lines
  pub fit : AllByRecursion FormFits g.forms
  pub vars : List VarLine
  pub stems : AreStems g.language vars g.stems
  pub shapes : g.shapes ≡ shapes_of g.grammar.parts
  pub rule_forms : g.rule_forms ≡ g.forms
  pub labels : g.base ≡ length g.language.productions
  pub desugars : Desugars (shapes_of g.language) (shapes_of g.grammar.parts) g.table
  pub room : HasRoomFor g 1
