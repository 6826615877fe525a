-- The language that a text states, or why it states none.
use Rattle.std.specs.Prelude.{◌≡◌, ◌⊎◌, if◌then◌else◌, List, [], ◌∷◌, Option, None, map, length}
use Rattle.std.specs.Prelude.{slice_get, Contains, Err, Ok}
use Rattle.std.specs.Str.{bytes_eq}
use Rattle.sx_term.specs.declared.lex_kind.LexKind.{LexKind}
use Rattle.sx_term.specs.declared.sort.Sort.{Sort}
use Rattle.sx_term.specs.declared.sort.Sort.TheVariants.{Lex}
use Rattle.sx_grammar.specs.declared.grammar_error.GrammarError.{GrammarError}
use Rattle.sx_grammar.specs.declared.grammar_error.GrammarError.TheVariants as grammar
use Rattle.sx_grammar.specs.Grammar.{Text}
use Rattle.sx_grammar.specs.Parts.{Parts, names, number_of, parts}
use Rattle.sx_grammar.specs.Made.{IsGrammar, IsGrammarRefused as IsNotMade}
use Rattle.sx_grammar.specs.Told.{sort_with, shapes_of}
use Rattle.sx_earley.specs.Tokens.{Stems}
use Rattle.sx_rules.specs.declared.error.RuleError.{RuleError}
use Rattle.sx_rules.specs.declared.error.RuleError.TheVariants as rules
use Rattle.sx_rules.specs.Views.{FormData, NamedRule}
use Rattle.sx_rules.specs.Sets.{shapes_in, forms_in, rules_in}
use Rattle.sx_rules.specs.Good.{IsRuleSet, IsRuleSetRefused as IsNoRuleSet}
use Rattle.sx_directives.specs.Spelling.{lex_text, NotLexical}
use Rattle.sx_directives.specs.declared.rows.VarLine.{VarLine}
use Rattle.sx_outline.specs.declared.outline.Outline.{Outline}
use Rattle.sx_outline.specs.declared.outline_error.OutlineError.TheVariants as outline
use Rattle.sx_outline.specs.Stages.{rule_data}
use Rattle.sx_outline.specs.Outlined.{IsOutlined}
use Rattle.sx_notation.specs.declared.language.Language.{Language}
use Rattle.sx_notation.specs.declared.notation_error.NotationError.{NotationError}
use Rattle.sx_notation.specs.declared.notation_error.NotationError.TheVariants.{Memory, NotUtf8}
use Rattle.sx_notation.specs.declared.notation_error.NotationError.TheVariants.{Notation, Token}
use Rattle.sx_notation.specs.declared.notation_error.NotationError.TheVariants.{Grammar, Read}
use Rattle.sx_notation.specs.declared.notation_error.NotationError.TheVariants.{Rules}
use Rattle.sx_notation.specs.RuleParts.{rule_parts}
use Rattle.sx_notation.specs.RuleLaws.{form_of}
use Rattle.sx_language.specs.RuleLine.{Reader}
use Rattle.sx_language.specs.RuleTexts.{AreBareRules, IsFirstBadRule}

-- the name is that of a lexical sort, or of a sort line
abbrev pub IsNameOfSort : Parts → (name : Text) → Type 0
IsNameOfSort p name = ((kind : LexKind) × (name ≡ lex_text kind)) ⊎ Contains (names p) name

-- the sort with this name: a lexical one, or that of a sort line
abbrev pub IsSortNamed : Parts → (name : Text) → Sort → Type 0
IsSortNamed p name sort =
    ((kind : LexKind) × (name ≡ lex_text kind) × (sort ≡ Lex kind))
    ⊎ (NotLexical name × Contains (names p) name ×
    (sort ≡ sort_with p.sorts (number_of (names p) name)))

-- the stems of the var lines in order, with the sorts that these name
abbrev pub AreStems : Parts → List VarLine → Stems → Type 0
AreStems p [] [] = Unit {0}
AreStems p (v ∷ vs) (s ∷ ss) = (s.0 ≡ v.stem) × IsSortNamed p v.sort s.1 × AreStems p vs ss
AreStems p _ _ = ⊥

-- the forms that the outline states
abbrev pub forms_of : Outline → List FormData
forms_of o = map (form_of (parts o.parts)) o.forms.items

-- the text has this outline, whose grammar and grammar of rules are made, and its rules are read by
-- this
pub record IsReadable (name bytes : Text) (o : Outline) (r : Reader) : Type 0 where
  pub outlined : IsOutlined name bytes (Ok o)
  pub grammar : IsGrammar (parts o.parts)
  pub rule_grammar : IsGrammar (rule_parts (parts o.parts) o.forms.items)
  pub read_by : r.parts ≡ rule_parts (parts o.parts) o.forms.items
  pub stems : AreStems (parts o.parts) o.vars.items r.stems
  pub forms : r.forms ≡ forms_of o

-- the text states the language
pub record IsLanguageIn (name bytes : Text) (l : Language) : Type 0 where
  pub outline : Outline
  pub reader : Reader
  pub readable : IsReadable name bytes outline reader
  pub named : l.name ≡ name
  pub grammar : l.grammar ≡
      record { parts = parts outline.parts; base = length (parts outline.parts).productions }
  pub rule_grammar : l.rule_grammar ≡
      record { parts = reader.parts; base = length reader.parts.productions }
  pub metas : l.metas.stems.items ≡ reader.stems
  pub shapes : shapes_in l.rules ≡ shapes_of (parts outline.parts)
  pub forms : forms_in l.rules ≡ forms_of outline
  pub rules : AreBareRules reader (map rule_data outline.rules.items) l.names.items
      (rules_in l.rules)
  pub rule_set : IsRuleSet (shapes_of (parts outline.parts)) (forms_of outline) (rules_in l.rules)
  pub main : l.main ≡ outline.main

-- why the parts are no grammar
abbrev pub IsNoGrammar : Parts → GrammarError → Type 0
IsNoGrammar p grammar.Memory = ⊥
IsNoGrammar p e = IsNotMade p e

-- the text has an outline, and its grammar, or else its grammar of rules, is refused
abbrev pub HasNoGrammar : (name bytes : Text) → GrammarError → Type 0
HasNoGrammar name bytes e = (o : Outline) × IsOutlined name bytes (Ok o) ×
    (IsNoGrammar (parts o.parts) e
    ⊎ (IsGrammar (parts o.parts) × IsNoGrammar (rule_parts (parts o.parts) o.forms.items) e))

-- the text has its grammars, and the first bad line of its rules is refused
abbrev pub HasBadRule : (name bytes : Text) → NotationError → Type 0
HasBadRule name bytes e = (o : Outline) × (r : Reader) × IsReadable name bytes o r ×
    IsFirstBadRule r (map rule_data o.rules.items) e

-- the names of the variables of the first rule with this name
abbrev pub variable_names : (rules : List Text) → (names : List (List Text)) → Text → List Text
variable_names [] names name = []
variable_names (rule ∷ rules) [] name = []
variable_names (rule ∷ rules) (n ∷ ns) name = if bytes_eq rule name then n else variable_names rules
    ns name

-- the name of the variable that is not bound, if that is why the rules with these names are no rule
-- set
abbrev pub name_unbound : (known : List Text) → (names : List (List Text)) → RuleError →
    Option Text
name_unbound known names (rules.NotModed name variable) =
    slice_get (variable_names known names name) variable
name_unbound known names _ = None

-- why the rules are no rule set
abbrev pub IsNoRules : Outline → List NamedRule → RuleError → Type 0
IsNoRules o qs rules.Memory = ⊥
IsNoRules o qs e = IsNoRuleSet (shapes_of (parts o.parts)) (forms_of o) qs e

-- each line of the rules is read, and the rules are no rule set
pub record HasNoRuleSet (name bytes : Text) (e : RuleError) (unbound : Option Text) : Type 0 where
  pub outline : Outline
  pub reader : Reader
  pub readable : IsReadable name bytes outline reader
  pub names : List (List Text)
  pub rules : List NamedRule
  pub read : AreBareRules reader (map rule_data outline.rules.items) names rules
  pub refused : IsNoRules outline rules e
  pub named : unbound ≡ name_unbound (map (λ q. q.name) rules) names e

-- why the text states no language, out of memory aside
abbrev pub IsLanguageTextRefused : (name bytes : Text) → NotationError → Type 0
IsLanguageTextRefused name bytes Memory = Unit {0}
IsLanguageTextRefused name bytes (NotUtf8 place) = IsOutlined name bytes (Err
    (outline.NotUtf8 place))
IsLanguageTextRefused name bytes (Notation line kind) =
    IsOutlined name bytes (Err (outline.Notation line kind))
    ⊎ HasBadRule name bytes (Notation line kind)
IsLanguageTextRefused name bytes (Token line e) = HasBadRule name bytes (Token line e)
IsLanguageTextRefused name bytes (Grammar e) = HasNoGrammar name bytes e
IsLanguageTextRefused name bytes (Read line e) = HasBadRule name bytes (Read line e)
IsLanguageTextRefused name bytes (Rules e variable) = HasNoRuleSet name bytes e variable
