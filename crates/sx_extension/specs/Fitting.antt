-- An extension that is read fits what it was read after.
use Rattle.std.specs.Prelude.{◌≡◌, ℕ, ◌+◌, ◌≤◌, ◌<◌, ◌^◌, ◌++◌, ◌⊎◌, false, List, IfSome, Some}
use Rattle.std.specs.Prelude.{map, length}
use Rattle.std.specs.List.{AllByRecursion}
use Rattle.sx_term.specs.declared.lex_kind.LexKind.{LexKind}
use Rattle.sx_term.specs.declared.mark.Mark.TheVariants.{Lex}
use Rattle.sx_term.specs.Spaced.{IsTokenText}
use Rattle.sx_term.specs.Tree.{Tree, Trees, node, lexeme, hole, none, ◌▹◌, depth_of}
use Rattle.sx_grammar.specs.Grammar.{Text}
use Rattle.sx_grammar.specs.Parts.{literals}
use Rattle.sx_grammar.specs.Tables.{literals_of}
use Rattle.sx_grammar.specs.Told.{shapes_of}
use Rattle.sx_print.specs.Cut.{HasLexemes}
use Rattle.sx_plain.specs.Plain.{Body, Table}
use Rattle.sx_plain.specs.Views.{table_of}
use Rattle.sx_rules.specs.Deep.{RulesAreShallow}
use Rattle.sx_rules.specs.Good.{IsRuleSet}
use Rattle.sx_rules.specs.Views.{rule}
use Rattle.sx_rewrite.specs.declared.extension_data.ExtensionData.{ExtensionData}
use Rattle.sx_rewrite.specs.Extensions.{FitsRules}
use Rattle.sx_rewrite.specs.ExtensionView.{ext_rule, named_rules}
use Rattle.sx_rewrite.specs.Stored.{signature_of}
use Rattle.sx_notation.specs.Language.{RuleHasLexemes}
use Rattle.sx_extension.specs.declared.extension.ReadExtension.{ReadExtension}
use Rattle.sx_extension.specs.Grounds.{Ground}
use Rattle.sx_term.specs.Limits.{most_bytes, most_depth}

abbrev mutual
  -- the lexeme stands in the term
  pub LexemeStands : LexKind → Text → Tree → Type 0
  LexemeStands kind text (node label kids) = LexemeStandsAmong kind text kids
  LexemeStands kind text (lexeme k t) = (k ≡ kind) × (t ≡ text)
  LexemeStands kind text (hole v) = ⊥

  -- it stands in one of the terms
  pub LexemeStandsAmong : LexKind → Text → Trees → Type 0
  LexemeStandsAmong kind text none = ⊥
  LexemeStandsAmong kind text (t ▹ ts) =
      LexemeStands kind text t ⊎ LexemeStandsAmong kind text ts

-- it stands in a flat body of the table
abbrev pub IsLexemeOf : Table → LexKind → Text → Type 0
IsLexemeOf table kind text =
    (label : ℕ) × (body : Body) × (table label ≡ Some body) × LexemeStands kind text body.flat

-- the lexemes of the flat bodies are tokens, and none of the literals
abbrev pub TableHasLexemes : List Text → Table → Type 0
TableHasLexemes literals table =
    (label : ℕ) (body : Body) → table label ≡ Some body → HasLexemes literals body.flat

-- The lexemes of the rules and of their bodies are tokens, and none of the literals, and so are
-- those of the flat bodies that stand in none of the table before. Where those of that table are
-- such tokens too, all are.
pub record ExtensionHasLexemes (literals : List Text) (before : Table) (x : ExtensionData) : Type 0
  where
    pub rules : AllByRecursion (RuleHasLexemes literals) (named_rules x)
    pub bodies : AllByRecursion (λ e. IfSome e.body (HasLexemes literals))
        (map ext_rule x.rules.items)
    pub new : (kind : LexKind) (text : Text) → IsLexemeOf (table_of x.plain) kind text →
        IsLexemeOf before kind text ⊎ IsTokenText literals false (Lex kind) text
    pub flat : TableHasLexemes literals before → TableHasLexemes literals (table_of x.plain)

-- The terms of the rules and their bodies are at most 1,000 deep, and no rule has 2^32 premises.
pub record ExtensionIsUsable (x : ExtensionData) : Type 0 where
  pub shallow : RulesAreShallow (map (λ e. rule e.rule) x.rules.items)
  pub bodies : AllByRecursion (λ e. IfSome e.body (λ t. depth_of t ≤ most_depth))
      (map ext_rule x.rules.items)
  pub few : AllByRecursion (λ e. length e.rule.premises.items < 2 ^ 32) x.rules.items

-- The rules before and the extension's are a rule set, and the extension fits them and the plain
-- table before it. Its lexemes are tokens and no literals of the language. The grammar of rules has
-- at most 262,144 productions and as many literals more.
pub record FitsAfter (g : Ground) (x : ReadExtension) : Type 0 where
  pub good : IsRuleSet (shapes_of x.grammar.parts) g.forms (g.rules ++ named_rules x.extension)
  pub usable : ExtensionIsUsable x.extension
  pub labels : x.extension.plain.base ≡ g.base
  pub fits : FitsRules (signature_of g.forms) (shapes_of g.language) g.shapes
      (shapes_of x.grammar.parts) g.table (table_of x.extension.plain)
      (map ext_rule x.extension.rules.items)
  pub lexemes : ExtensionHasLexemes (literals_of g.language) g.table x.extension
  pub productions : length x.rule_grammar.parts.productions ≤
      length g.by_rules.productions + most_bytes
  pub literals : length (literals x.rule_grammar.parts) ≤
      length (literals g.by_rules) + most_bytes
