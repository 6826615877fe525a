-- What holds of each outline.
use Rattle.std.specs.Prelude.{◌≡◌, ℕ, ◌+◌, ◌≤◌, List, None, IfSome, length, flat_map, Contains}
use Rattle.std.specs.List.{AllByRecursion}
use Rattle.sx_grammar.specs.Parts.{literals}
use Rattle.sx_grammar.specs.Tables.{HasGoodLevels}
use Rattle.sx_term.specs.declared.role.Role.{Role}
use Rattle.sx_directives.specs.Spelling.{IsName, NotLexical}
use Rattle.sx_directives.specs.declared.spelled.SpelledSort.TheVariants.{Lex, Named}
use Rattle.sx_directives.specs.declared.spelled.FormSymbol.{FormSymbol}
use Rattle.sx_directives.specs.declared.spelled.FormSymbol.TheVariants.{Lit, Place}
use Rattle.sx_directives.specs.declared.rows.MainLine.{MainLine}
use Rattle.sx_outline.specs.Declarations.{DeclaredForm}
use Rattle.sx_outline.specs.Fitting.{IsKnownSort, SymbolFits, HasOneSubjectSymbol}
use Rattle.sx_lines.specs.Distinct.{AreTextsDistinct}
use Rattle.sx_outline.specs.Fitting.{IsMainOf}
use Rattle.sx_outline.specs.Fitting.{stems, declared_form_names}
use Rattle.sx_outline.specs.Stages.{RuleData}
use Rattle.sx_outline.specs.Outlined.{OutlineData, declared_by}

-- least levels of the places of the forms are at most 99
abbrev pub HaveGoodLevels : List DeclaredForm → Type 0
HaveGoodLevels forms =
    (f : DeclaredForm) (role : Role) (name : List ℕ) (least : ℕ) → Contains forms f →
    Contains f.symbols (Place role (Named name least)) → least ≤ 99

-- the rule has at most so many premises, and its lines have at most so many bytes each
abbrev pub HasShortLines : ℕ → RuleData → Type 0
HasShortLines size r =
    (length r.premises ≤ size) × AllByRecursion (λ l. length l.text ≤ size) r.premises ×
    (length r.conclusion.text ≤ size)
    × IfSome r.body (λ l. length l.text ≤ size)

-- the outline is no larger than a file of so many bytes can state
pub record IsSized (size : ℕ) (o : OutlineData) : Type 0 where
  pub many : length o.parts.sorts + length o.parts.productions + length o.vars + length o.forms
      + (length (literals o.parts) + length (flat_map (λ f. f.symbols) o.forms)) ≤ size
  pub levels : HasGoodLevels o.parts
  pub asked : HaveGoodLevels o.forms
  pub lines : AllByRecursion (HasShortLines size) o.rules

-- a sort that is spelled in the symbol has a name
abbrev pub HasName : FormSymbol → Type 0
HasName (Lit text) = Unit {0}
HasName (Place role (Lex kind)) = Unit {0}
HasName (Place role (Named sort least)) = IsName sort

-- the rows of the outline fit what it declares, its main form is one, and its rules have no bodies
pub record IsFitOutline (o : OutlineData) : Type 0 where
  pub line : MainLine
  pub main : IsMainOf (declared_by o line) line o.main
  pub sorts : AllByRecursion (λ s. NotLexical s.name) o.parts.sorts
  pub stems_once : AreTextsDistinct (stems (declared_by o line))
  pub vars : AllByRecursion (λ v. IsKnownSort (declared_by o line) v.sort) o.vars
  pub forms_once : AreTextsDistinct (declared_form_names (declared_by o line))
  pub places : AllByRecursion (λ f. AllByRecursion
      (SymbolFits (declared_by o line)) f.symbols) o.forms
  pub named : AllByRecursion (λ f. AllByRecursion HasName f.symbols) o.forms
  pub subjects : AllByRecursion (λ f. HasOneSubjectSymbol f.symbols) o.forms
  pub bodies : AllByRecursion (λ r. r.body ≡ None) o.rules
