-- What the lines are that are left of a file with an outline.
use Rattle.std.proofs.Common.{◌≡◌, ℕ, List, [], ◌∷◌, ◌++◌, Some, None}
use Rattle.std.specs.List.{AllByRecursion}
use Rattle.sx_directives.specs.declared.file_kind.FileKind.{FileKind}
use Rattle.sx_directives.specs.Rows.{IsRow}
use Rattle.sx_directives.specs.declared.row.Row.TheVariants.{End}
use Rattle.sx_outline.specs.Declarations.{Declared}
use Rattle.sx_outline.specs.Stages.{Numbered, PlainData, RuleData, Begun, BegunPlain, Stage, at_start, at_declarations, at_body, at_plains, at_rules, at_premises, at_conclusion, at_end, State, IsBar, head_row, paired, with_body}
use Rattle.sx_outline.specs.Structure.{AreBodies, AreDeclarations, ArePlainPairs, AreRuleRows}

-- all plain pairs and all rules of a file
pub record Whole : Type 0 where
  pub plains : List PlainData
  pub rules : List RuleData

-- between rules: the lines of more rules
pub record IsRest (kind : FileKind) (known d : Declared) (plains : List PlainData) (rules : List RuleData) (o : Whole) (lines : List Numbered) : Type 0 where
  pub declared : d ≡ known
  pub plains_are : plains ≡ o.plains
  pub more : List RuleData
  pub rules_are : o.rules ≡ rules ++ more
  pub are : AreRuleRows kind lines more

-- within a rule: what is left of its lines, and the lines of more rules
pub record IsInRule (Left : List Numbered → RuleData → Type 0) (kind : FileKind) (known d : Declared) (plains : List PlainData) (rules : List RuleData) (o : Whole) (lines : List Numbered) : Type 0 where
  pub rule : RuleData
  pub front : List Numbered
  pub back : List Numbered
  pub lines_are : lines ≡ front ++ back
  pub left : Left front rule
  pub declared : d ≡ known
  pub plains_are : plains ≡ o.plains
  pub more : List RuleData
  pub rules_are : o.rules ≡ rules ++ rule ∷ more
  pub are : AreRuleRows kind back more

pub record LeftPremises (kind : FileKind) (b : Begun) (front : List Numbered) (r : RuleData) : Type 0 where
  pub premises : List Numbered
  pub bar : Numbered
  pub bodies : List Numbered
  pub last : Numbered
  pub front_is : front ≡ premises ++ bar ∷ r.conclusion ∷ bodies ++ last ∷ []
  pub plain : AllByRecursion (λ l. IsBar l.text → ⊥) premises
  pub divides : IsBar bar.text
  pub body : AreBodies kind bodies r.body
  pub ends : IsRow kind last.text End
  pub number : b.number ≡ r.number
  pub name : b.name ≡ r.name
  pub premises_are : r.premises ≡ b.premises ++ premises

pub record LeftConclusion (kind : FileKind) (b : Begun) (front : List Numbered) (r : RuleData) : Type 0 where
  pub bodies : List Numbered
  pub last : Numbered
  pub front_is : front ≡ r.conclusion ∷ bodies ++ last ∷ []
  pub body : AreBodies kind bodies r.body
  pub ends : IsRow kind last.text End
  pub number : b.number ≡ r.number
  pub name : b.name ≡ r.name
  pub premises_are : r.premises ≡ b.premises

-- the rule has its body, or a body follows, if it has one
abbrev pub IsBodyLeft : FileKind → RuleData → List Numbered → RuleData → Type 0
IsBodyLeft kind given [] r = given ≡ r
IsBodyLeft kind given (l ∷ bodies) r = (given.body ≡ None) × (b : Numbered) × (with_body given b ≡ r) × AreBodies kind (l ∷ bodies) (Some b)

pub record LeftEnd (kind : FileKind) (given : RuleData) (front : List Numbered) (r : RuleData) : Type 0 where
  pub bodies : List Numbered
  pub last : Numbered
  pub front_is : front ≡ bodies ++ last ∷ []
  pub body : IsBodyLeft kind given bodies r
  pub ends : IsRow kind last.text End

-- between plain pairs: the lines of more plain pairs and of rules
pub record IsRestOfPairs (kind : FileKind) (known d : Declared) (plains : List PlainData) (rules : List RuleData) (o : Whole) (lines : List Numbered) : Type 0 where
  pub pairs : List Numbered
  pub rule_lines : List Numbered
  pub lines_are : lines ≡ pairs ++ rule_lines
  pub declared : d ≡ known
  pub more_plains : List PlainData
  pub plains_are : o.plains ≡ plains ++ more_plains
  pub pairs_are : ArePlainPairs kind known pairs more_plains
  pub more : List RuleData
  pub rules_are : o.rules ≡ rules ++ more
  pub are : AreRuleRows kind rule_lines more

-- after the first line of a plain pair: its body, and what comes after it
pub record IsInPair (kind : FileKind) (known d : Declared) (b : BegunPlain) (plains : List PlainData) (rules : List RuleData) (o : Whole) (lines : List Numbered) : Type 0 where
  pub body : Numbered
  pub others : List Numbered
  pub lines_are : lines ≡ body ∷ others
  pub rest : IsRestOfPairs kind known d (plains ++ paired b body ∷ []) rules o others

-- among the declarations: the lines of more declarations, of plain pairs and of rules
pub record IsRestOfFile (kind : FileKind) (known d : Declared) (plains : List PlainData) (rules : List RuleData) (o : Whole) (lines : List Numbered) : Type 0 where
  pub declarations : List Numbered
  pub others : List Numbered
  pub lines_are : lines ≡ declarations ++ others
  pub declared : AreDeclarations kind known d declarations known
  pub rest : IsRestOfPairs kind known known plains rules o others

-- before the first line
pub record IsFile (kind : FileKind) (known : Declared) (name : List ℕ) (d : Declared) (plains : List PlainData) (rules : List RuleData) (o : Whole) (lines : List Numbered) : Type 0 where
  pub first : Numbered
  pub others : List Numbered
  pub lines_are : lines ≡ first ∷ others
  pub named : IsRow kind first.text (head_row kind name)
  pub rest : IsRestOfFile kind known d plains rules o others

abbrev pub IsLeft : FileKind → Declared → List ℕ → Stage → Declared → List PlainData → List RuleData → Whole → List Numbered → Type 0
IsLeft kind known name at_start d plains rules o lines = IsFile kind known name d plains rules o lines
IsLeft kind known name at_declarations d plains rules o lines = IsRestOfFile kind known d plains rules o lines
IsLeft kind known name (at_body b) d plains rules o lines = IsInPair kind known d b plains rules o lines
IsLeft kind known name at_plains d plains rules o lines = IsRestOfPairs kind known d plains rules o lines
IsLeft kind known name at_rules d plains rules o lines = IsRest kind known d plains rules o lines
IsLeft kind known name (at_premises b) d plains rules o lines = IsInRule (LeftPremises kind b) kind known d plains rules o lines
IsLeft kind known name (at_conclusion b) d plains rules o lines = IsInRule (LeftConclusion kind b) kind known d plains rules o lines
IsLeft kind known name (at_end r) d plains rules o lines = IsInRule (LeftEnd kind r) kind known d plains rules o lines

abbrev pub LeftAt : FileKind → Declared → List ℕ → Whole → List Numbered → State → Type 0
LeftAt kind known name o lines s = IsLeft kind known name s.stage s.declared s.plains s.rules o lines
