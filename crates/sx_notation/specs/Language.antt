-- What holds of each language that a text states.
use Rattle.std.specs.Prelude.{◌≡◌, ℕ, ◌≤◌, List, [], ◌∷◌, Some, map, flat_map, slice_get, length}
use Rattle.std.specs.List.{AllByRecursion}
use Rattle.sx_term.specs.declared.lex_kind.LexKind.TheVariants.{Id}
use Rattle.sx_term.specs.declared.sort.Sort.{Sort}
use Rattle.sx_term.specs.declared.sort.Sort.TheVariants.{Lex, Plain, Typed}
use Rattle.sx_grammar.specs.Grammar.{Text}
use Rattle.sx_grammar.specs.Parts.{Parts}
use Rattle.sx_grammar.specs.Tables.{literals_of}
use Rattle.sx_grammar.specs.Told.{shapes_of}
use Rattle.sx_print.specs.Cut.{HasLexemes}
use Rattle.sx_term.specs.declared.role.Role.{Role}
use Rattle.sx_term.specs.declared.role.Role.TheVariants.{In, Sub, Out}
use Rattle.sx_rules.specs.declared.rule.Place.{Place}
use Rattle.sx_rules.specs.Rules.{Premise, holds, apart}
use Rattle.sx_rules.specs.Subjects.{is_typed_sort}
use Rattle.sx_rules.specs.Views.{FormData, NamedRule, is_sub}
use Rattle.sx_rules.specs.Sets.{shapes_in, forms_in, rules_in}
use Rattle.sx_directives.specs.declared.rows.FormLine.{FormLine}
use Rattle.sx_notation.specs.RuleParts.{rule_parts}
use Rattle.sx_notation.specs.RuleLaws.{form_of, HaveSortsOf}
use Rattle.sx_notation.specs.declared.language.Language.{Language}
use Rattle.sx_outline.specs.declared.main_form.MainForm.{MainForm}

-- the sort, where the first role is the second
abbrev pub sort_when : Role → Role → Sort → List Sort
sort_when In In sort = sort ∷ []
sort_when Sub Sub sort = sort ∷ []
sort_when Out Out sort = sort ∷ []
sort_when _ _ sort = []

-- the sorts of the places with this role, in order
abbrev pub sorts_with : Role → List Place → List Sort
sorts_with role places = flat_map (λ p. sort_when role p.role p.sort) places

-- a subject's sort is typed, and that of another place is not
abbrev pub PlaceFits : Place → Type 0
PlaceFits p = is_typed_sort (Some p.sort) ≡ is_sub p.role

-- so it is of each place of the form, and at most one is a subject
abbrev pub FormFits : FormData → Type 0
FormFits f = AllByRecursion PlaceFits f.places × (length (sorts_with Sub f.places) ≤ 1)

-- The main form has one input, for an environment, one subject and one output, for a signature. The
-- empty constructor has no parts, the other one an environment, a name and a signature.
pub record IsMain (p : Parts) (forms : List FormData) (m : MainForm) : Type 0 where
  pub form : FormData
  pub is : slice_get forms m.form ≡ Some form
  pub environment : ℕ
  pub subject : ℕ
  pub signature : ℕ
  pub input : sorts_with In form.places ≡ Plain environment ∷ []
  pub typed : sorts_with Sub form.places ≡ Typed subject ∷ []
  pub output : sorts_with Out form.places ≡ Plain signature ∷ []
  pub many : length form.places ≡ 3
  pub empty :
      slice_get (shapes_of p) m.empty ≡ Some (record { sort = Plain environment; kids = [] })
  pub add : slice_get (shapes_of p) m.add ≡ Some
      (record {
        sort = Plain environment;
        kids = Plain environment ∷ Lex Id ∷ Plain signature ∷ [];
      })

-- each lexeme of the premise is a token of its kind, and none of the literals
abbrev pub PremiseHasLexemes : List Text → Premise → Type 0
PremiseHasLexemes literals (holds j) = AllByRecursion (HasLexemes literals) j.places
PremiseHasLexemes literals (apart t u) = HasLexemes literals t × HasLexemes literals u

-- so it is of each lexeme of the rule
pub record RuleHasLexemes (literals : List Text) (r : NamedRule) : Type 0 where
  pub premises : AllByRecursion (PremiseHasLexemes literals) r.rule.premises
  pub conclusion : AllByRecursion (HasLexemes literals) r.rule.conclusion.places

-- The rules have the constructors of the grammar, and their lexemes are tokens of it. The grammar
-- by which rules are read, and the forms, are those of some form lines, and the forms fit. The main
-- form is one of them.
pub record IsLanguage (l : Language) : Type 0 where
  pub lines : List FormLine
  pub base : l.grammar.base ≡ length l.grammar.parts.productions
  pub known : HaveSortsOf l.grammar.parts lines
  pub read_by : l.rule_grammar.parts ≡ rule_parts l.grammar.parts lines
  pub shapes : shapes_in l.rules ≡ shapes_of l.grammar.parts
  pub forms : forms_in l.rules ≡ map (form_of l.grammar.parts) lines
  pub fit : AllByRecursion FormFits (forms_in l.rules)
  pub lexemes : AllByRecursion (RuleHasLexemes (literals_of l.grammar.parts)) (rules_in l.rules)
  pub main : IsMain l.grammar.parts (forms_in l.rules) l.main

-- a language without where it lies in memory: what compiling depends on
pub record LanguageData : Type 0 where
  pub parts : Parts
  pub rule_parts : Parts
  pub forms : List FormData
  pub rules : List NamedRule
  pub main : MainForm

-- the data of a language
abbrev pub language_data : Language → LanguageData
language_data l = record {
  parts = l.grammar.parts;
  rule_parts = l.rule_grammar.parts;
  forms = forms_in l.rules;
  rules = rules_in l.rules;
  main = l.main;
}
