-- The first bad line of a file, told by its lines alone.
use Rattle.std.specs.Prelude.{◌≡◌, ℕ, ◌⊎◌, List, [], ◌∷◌, ◌++◌}
use Rattle.std.specs.Str.{IsUtf8}
use Rattle.sx_lines.specs.Lines.{Lines, over, line, lines_from}
use Rattle.sx_lines.specs.declared.kind.Kind.{Kind}
use Rattle.sx_lines.specs.declared.kind.Kind.TheVariants.{Head, Shape, Unfinished, Main as NoMain}
use Rattle.sx_directives.specs.declared.file_kind.FileKind.{FileKind}
use Rattle.sx_directives.specs.declared.file_kind.FileKind.TheVariants as files
use Rattle.sx_directives.specs.Rows.{IsRow}
use Rattle.sx_directives.specs.declared.rows.MainLine.{MainLine}
use Rattle.sx_directives.specs.declared.row.Row.TheVariants.{Language}
use Rattle.sx_outline.specs.declared.main_form.MainForm.{MainForm}
use Rattle.sx_outline.specs.Declarations.{Declared, nothing}
use Rattle.sx_outline.specs.Fitting.{IsMainOf}
use Rattle.sx_outline.specs.Known.{kept_lines}
use Rattle.sx_outline.specs.Stages.{Numbered, PlainData, RuleData}
use Rattle.sx_outline.specs.Structure.{numbered_lines, AreDeclarations, ArePlainPairs, AreRuleRows}

-- where this is known there is at most one main line, and it is of a main form
abbrev pub AreMains : Declared → List MainLine → Type 0
AreMains known [] = Unit {0}
AreMains known (m ∷ []) = (main : MainForm) × IsMainOf known m main
AreMains known (m ∷ n ∷ mains) = ⊥

-- After so much was declared, and where this is known: the lines of declarations that fit, among
-- them at most one main line, then those of plain pairs, then those of rules.
pub record AreLinesAmong (kind : FileKind) (known before : Declared)
    (lines : List Numbered) : Type 0 where
  pub declarations : List Numbered
  pub pairs : List Numbered
  pub rules : List Numbered
  pub lines_are : lines ≡ declarations ++ (pairs ++ rules)
  pub all : Declared
  pub declared : AreDeclarations kind known before declarations all
  pub mains : AreMains known all.mains
  pub plains : List PlainData
  pub pairs_are : ArePlainPairs kind known pairs plains
  pub stated : List RuleData
  pub rules_are : AreRuleRows kind rules stated

-- `language NAME`, then lines that are as they should be where this is known
pub record AreLanguageLines (name : List ℕ) (known : Declared)
    (lines : List Numbered) : Type 0 where
  pub first : Numbered
  pub others : List Numbered
  pub lines_are : lines ≡ first ∷ others
  pub named : IsRow files.Language first.text (Language name)
  pub among : AreLinesAmong files.Language known nothing others

-- these lines are the first of good ones
abbrev pub BeginGood : (List Numbered → Type 0) → List Numbered → Type 0
BeginGood IsGood front = (rest : List Numbered) × IsGood (front ++ rest)

-- there is a file whose kept lines are those ahead, then these, and then others, with which these
-- are good
pub record BeginGoodFile (IsGood : List Numbered → Type 0) (ahead front : List Numbered) : Type 0
  where
    pub bytes : List ℕ
    pub utf8 : IsUtf8 bytes
    pub rest : List Numbered
    pub are : numbered_lines (kept_lines (lines_from 1 bytes)) ≡ ahead ++ (front ++ rest)
    pub good : IsGood (front ++ rest)

-- Behind those ahead the line of this number is the first bad one: the lines before it are the
-- first of good ones in some file, and with it they are the first of none, also where good is meant
-- in a wider sense.
pub record IsFirstBadLine (IsGood IsGoodWidely : List Numbered → Type 0)
    (ahead lines : List Numbered) (number : ℕ) : Type 0 where
  pub front : List Numbered
  pub bad : Numbered
  pub rest : List Numbered
  pub lines_are : lines ≡ front ++ bad ∷ rest
  pub place : bad.number ≡ number
  pub before : BeginGoodFile IsGood ahead front
  pub none : BeginGood IsGoodWidely (front ++ bad ∷ []) → ⊥

-- Behind those ahead the lines end too early: they are the first of good ones in some file, those
-- before the line of this number are good, and with it, and with however many of those after it,
-- they are not.
pub record IsNotEnded (IsGood : List Numbered → Type 0) (ahead lines : List Numbered)
    (number : ℕ) : Type 0 where
  pub front : List Numbered
  pub first : Numbered
  pub rest : List Numbered
  pub lines_are : lines ≡ front ++ first ∷ rest
  pub place : first.number ≡ number
  pub on : BeginGoodFile IsGood ahead lines
  pub before : IsGood front
  pub none : (more after : List Numbered) → rest ≡ more ++ after →
      IsGood (front ++ first ∷ more) → ⊥

-- the number that a further line would have
abbrev pub end_number : Lines → ℕ
end_number (over n) = n
end_number (line n text after more) = end_number more

-- the lines are the first of good ones in some file, and none by themselves, and a further line
-- would have this number
pub record AreCutOff (IsGood : List Numbered → Type 0) (lines : Lines) (number : ℕ) : Type 0 where
  pub place : end_number lines ≡ number
  pub on : BeginGoodFile IsGood [] (numbered_lines lines)
  pub none : IsGood (numbered_lines lines) → ⊥

-- the lines are good, but none is a main line, and a further line would have this number
pub record HasNoMain (name : List ℕ) (known : Declared) (lines : Lines) (number : ℕ) : Type 0 where
  pub place : end_number lines ≡ number
  pub good : AreLanguageLines name known (numbered_lines lines)
  pub none : good.among.all.mains ≡ []

-- What two files have in common, so that a line which is bad in this way in one of them is so in
-- the other: their sorts where the shape is bad, their sorts, productions and forms where a main
-- line has no main form, and else nothing.
abbrev pub HasInCommon : Kind → (known other : Declared) → Type 0
HasInCommon Shape known other = other.sorts ≡ known.sorts
HasInCommon NoMain known other = (other.sorts ≡ known.sorts)
    × (other.productions ≡ known.productions)
    × (other.forms ≡ known.forms)
HasInCommon kind known other = Unit {0}

-- the lines are good where something is known that agrees with this
abbrev pub AreAgreeing : (name : List ℕ) (known : Declared) → Kind → List Numbered → Type 0
AreAgreeing name known kind lines =
    (other : Declared) × HasInCommon kind known other × AreLanguageLines name other lines

-- a line is the first bad one of a language file
abbrev pub IsBadLine : (name : List ℕ) (known : Declared) → Lines → ℕ → Kind → Type 0
IsBadLine name known lines number kind =
    IsFirstBadLine (AreLanguageLines name known) (AreAgreeing name known kind) []
    (numbered_lines lines) number

-- why the lines of a language file that declares this are refused
abbrev pub IsLanguageRefused : (name : List ℕ) (known : Declared) → Lines → ℕ → Kind → Type 0
IsLanguageRefused name known lines number Head =
    IsBadLine name known lines number Head ⊎ AreCutOff (AreLanguageLines name known) lines number
IsLanguageRefused name known lines number Unfinished =
    IsNotEnded (AreLanguageLines name known) [] (numbered_lines lines) number
IsLanguageRefused name known lines number NoMain =
    IsBadLine name known lines number NoMain ⊎ HasNoMain name known lines number
IsLanguageRefused name known lines number kind = IsBadLine name known lines number kind
