-- The lines of a language file or of an extension file with an outline, one after the other.
use Rattle.std.specs.Prelude.{◌≡◌, ℕ, List, [], ◌∷◌, ◌++◌, Option, Some, None}
use Rattle.std.specs.List.{AllByRecursion}
use Rattle.sx_lines.specs.Lines.{Lines, over, line}
use Rattle.sx_directives.specs.declared.file_kind.FileKind.{FileKind}
use Rattle.sx_directives.specs.declared.file_kind.FileKind.TheVariants as files
use Rattle.sx_directives.specs.Rows.{IsRow}
use Rattle.sx_directives.specs.declared.rows.MainLine.{MainLine}
use Rattle.sx_directives.specs.declared.rows.PlainLine.{PlainLine}
use Rattle.sx_directives.specs.declared.row.Row.{Row}
use Rattle.sx_directives.specs.declared.row.Row.TheVariants.{Language, Sort, Prod, Var, Form, Main}
use Rattle.sx_directives.specs.declared.row.Row.TheVariants.{Plain, Rule, To, End, Extension, Use}
use Rattle.sx_outline.specs.Declarations.{Declared, nothing, declare, declared_before}
use Rattle.sx_outline.specs.Fitting.{ArePartNames, RowFits, IsMainOf}
use Rattle.sx_lines.specs.Distinct.{AreTextsDistinct}
use Rattle.sx_outline.specs.Stages.{Numbered, PlainData, RuleData, begun_plain, paired, IsBar}
use Rattle.sx_grammar.specs.declared.sort_line.SortLine.{SortLine}
use Rattle.sx_directives.specs.declared.rows.VarLine.{VarLine}
use Rattle.sx_outline.specs.Headers.{HeaderData}
use Rattle.sx_outline.specs.Outlined.{OutlineData, declared_by}
use Rattle.sx_outline.specs.ExtensionOutlined.{ExtensionOutlineData, extension_declares}

-- the lines with their numbers
abbrev pub numbered_lines : Lines → List Numbered
numbered_lines (over n) = []
numbered_lines (line n text after more) = record { number = n; text = text } ∷ numbered_lines more

-- the row declares something
abbrev pub IsDeclaring : Row → Type 0
IsDeclaring (Sort s) = Unit {0}
IsDeclaring (Prod p) = Unit {0}
IsDeclaring (Var v) = Unit {0}
IsDeclaring (Form f) = Unit {0}
IsDeclaring (Main m) = Unit {0}
IsDeclaring _ = ⊥

-- each line spells a row that declares something and fits, and after all of them this is declared
abbrev pub AreDeclarations : FileKind → (known before : Declared) → List Numbered → Declared →
    Type 0
AreDeclarations kind known before [] all = before ≡ all
AreDeclarations kind known before (l ∷ lines) all =
    (row : Row) × IsRow kind l.text row × IsDeclaring row × RowFits known before row ×
    AreDeclarations kind known (declare before row) lines all

-- the lines are `use` lines of these names
abbrev pub AreUseLines : List Numbered → List (List ℕ) → Type 0
AreUseLines [] [] = Unit {0}
AreUseLines (l ∷ lines) (used ∷ uses) = IsRow files.Extension l.text (Use used) ×
    AreUseLines lines uses
AreUseLines _ _ = ⊥

-- `plain LABEL VAR..`, which fits, and one line after it
pub record IsPlainPair (kind : FileKind) (known : Declared) (first body : Numbered)
    (p : PlainData) : Type 0 where
  pub row : PlainLine
  pub spelled : IsRow kind first.text (Plain row)
  pub fits : ArePartNames known row.label row.names.items
  pub is : p ≡ paired (begun_plain first.number row) body

-- the lines of one plain pair after the other
abbrev pub ArePlainPairs : FileKind → Declared → List Numbered → List PlainData → Type 0
ArePlainPairs kind known [] [] = Unit {0}
ArePlainPairs kind known (first ∷ body ∷ lines) (p ∷ plains) =
    IsPlainPair kind known first body p × ArePlainPairs kind known lines plains
ArePlainPairs kind known _ _ = ⊥

-- the lines of a body: none, or one `to` line
abbrev pub AreBodies : FileKind → List Numbered → Option Numbered → Type 0
AreBodies kind [] None = Unit {0}
AreBodies kind (l ∷ []) (Some body) = IsRow kind l.text (To body.text) × (l.number ≡ body.number)
AreBodies kind _ _ = ⊥

-- `rule NAME`, the premises, of which none is just `---`, then `---`, the conclusion, the body, if
-- there is one, and `end`
pub record AreRuleLines (kind : FileKind) (lines : List Numbered) (r : RuleData) : Type 0 where
  pub first : Numbered
  pub bar : Numbered
  pub bodies : List Numbered
  pub last : Numbered
  pub lines_are : lines ≡ first ∷ r.premises ++ bar ∷ r.conclusion ∷ bodies ++ last ∷ []
  pub number : first.number ≡ r.number
  pub begins : IsRow kind first.text (Rule r.name)
  pub premises : AllByRecursion (λ l. IsBar l.text → ⊥) r.premises
  pub divides : IsBar bar.text
  pub body : AreBodies kind bodies r.body
  pub ends : IsRow kind last.text End

-- the lines of one rule after the other
abbrev pub AreRuleRows : FileKind → List Numbered → List RuleData → Type 0
AreRuleRows kind lines [] = lines ≡ []
AreRuleRows kind lines (r ∷ rules) =
    (front back : List Numbered) × (lines ≡ front ++ back) × AreRuleLines kind front r ×
    AreRuleRows kind back rules

-- `language NAME`, the lines of the declarations, among them one main line, and the lines of the
-- rules, which have no bodies
pub record AreOutlineLines (name : List ℕ) (lines : List Numbered) (o : OutlineData) : Type 0 where
  pub first : Numbered
  pub declarations : List Numbered
  pub rules : List Numbered
  pub lines_are : lines ≡ first ∷ declarations ++ rules
  pub named : IsRow files.Language first.text (Language name)
  pub main_line : MainLine
  pub declared : AreDeclarations files.Language (declared_by o main_line) nothing declarations
      (declared_by o main_line)
  pub main : IsMainOf (declared_by o main_line) main_line o.main
  pub rules_are : AreRuleRows files.Language rules o.rules

-- `extension NAME`, `language NAME` and the `use` lines, of which each names what none before it
-- names
pub record AreHeaderLines (lines : List Numbered) (h : HeaderData) : Type 0 where
  pub first : Numbered
  pub second : Numbered
  pub others : List Numbered
  pub lines_are : lines ≡ first ∷ second ∷ others
  pub named : IsRow files.Extension first.text (Extension h.name)
  pub language : IsRow files.Extension second.text (Language h.language)
  pub uses : AreUseLines others h.uses
  pub once : AreTextsDistinct h.uses

-- the lines of an extension file: its first lines, those of the declarations, of the plain pairs,
-- and of the rules
pub record AreExtensionLines (sorts : List SortLine) (vars : List VarLine) (lines : List Numbered)
    (o : ExtensionOutlineData) : Type 0 where
  pub header : List Numbered
  pub declarations : List Numbered
  pub pairs : List Numbered
  pub rules : List Numbered
  pub lines_are : lines ≡ header ++ (declarations ++ (pairs ++ rules))
  pub header_is : AreHeaderLines header o.header
  pub declared : AreDeclarations files.Extension (extension_declares sorts o)
      (declared_before sorts vars o.header.uses) declarations (extension_declares sorts o)
  pub pairs_are : ArePlainPairs files.Extension (extension_declares sorts o) pairs o.plains
  pub rules_are : AreRuleRows files.Extension rules o.rules
