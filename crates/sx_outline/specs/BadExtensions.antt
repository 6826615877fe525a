-- The first bad line of an extension file, told by its lines alone.
use Rattle.std.specs.Prelude.{◌≡◌, ℕ, ◌⊎◌, false, List, [], ◌∷◌, ◌++◌}
use Rattle.sx_lines.specs.Lines.{Lines}
use Rattle.sx_lines.specs.declared.kind.Kind.{Kind}
use Rattle.sx_lines.specs.declared.kind.Kind.TheVariants.{Head, Shape, Unfinished}
use Rattle.sx_grammar.specs.declared.sort_line.SortLine.{SortLine}
use Rattle.sx_directives.specs.declared.file_kind.FileKind.TheVariants as files
use Rattle.sx_directives.specs.declared.rows.VarLine.{VarLine}
use Rattle.sx_outline.specs.Declarations.{Declared, declared_before}
use Rattle.sx_outline.specs.Stages.{Numbered}
use Rattle.sx_outline.specs.Headers.{HeaderData, IsUseLine}
use Rattle.sx_outline.specs.Known.{Declares}
use Rattle.sx_outline.specs.Structure.{numbered_lines, AreHeaderLines}
use Rattle.sx_outline.specs.BadLines.{AreLinesAmong, IsFirstBadLine, IsNotEnded, AreCutOff}

-- the first of the lines, if there is one, is no `use` line
abbrev pub BeginOther : List Numbered → Type 0
BeginOther [] = Unit {0}
BeginOther (l ∷ lines) = IsUseLine l.text → ⊥

-- the lines of a header whose extension has such a name, and then others, that begin with no `use`
-- line
pub record HaveHeader (IsSuch : List ℕ → Type 0) (lines : List Numbered) : Type 0 where
  pub header : HeaderData
  pub front : List Numbered
  pub rest : List Numbered
  pub lines_are : lines ≡ front ++ rest
  pub such : IsSuch header.name
  pub are : AreHeaderLines front header
  pub other : BeginOther rest

-- why the lines of an extension file with such a name have no header
abbrev pub IsHeaderRefused : (List ℕ → Type 0) → Lines → ℕ → Kind → Type 0
IsHeaderRefused IsSuch lines number Head =
    IsFirstBadLine (HaveHeader IsSuch) (HaveHeader IsSuch) [] (numbered_lines lines) number
    ⊎ AreCutOff (HaveHeader IsSuch) lines number
IsHeaderRefused IsSuch lines number Shape =
    IsFirstBadLine (HaveHeader IsSuch) (HaveHeader IsSuch) [] (numbered_lines lines) number
IsHeaderRefused IsSuch lines number kind = ⊥

-- the lines are good where what they declare themselves is known, as those of an outline are
pub record AreWhole (before : Declared) (lines : List Numbered) : Type 0 where
  pub known : Declared
  pub good : AreLinesAmong files.Extension known before lines
  pub is : good.all ≡ known

-- the lines are good where this is known, or where what they declare themselves is
abbrev pub AreGoodWidely : (known before : Declared) → List Numbered → Type 0
AreGoodWidely known before lines =
    AreLinesAmong files.Extension known before lines ⊎ AreWhole before lines

-- why the lines after a header are refused, where so much was declared before them and this is
-- known: one of them is the first bad one, or a plain pair or a rule is not ended
abbrev pub AreRestRefused : (known before : Declared) → (ahead lines : List Numbered) → ℕ → Kind →
    Type 0
AreRestRefused known before ahead lines number Unfinished =
    IsNotEnded (AreLinesAmong files.Extension known before) ahead lines number
AreRestRefused known before ahead lines number kind =
    IsFirstBadLine (AreLinesAmong files.Extension known before) (AreGoodWidely known before)
    ahead lines number

-- the lines have a header, and those after it, which declare this, are refused
pub record IsRefusedAfter (sorts : List SortLine) (vars : List VarLine) (lines : Lines)
    (number : ℕ) (kind : Kind) : Type 0 where
  pub header : HeaderData
  pub front : List Numbered
  pub left : Lines
  pub lines_are : numbered_lines lines ≡ front ++ numbered_lines left
  pub are : AreHeaderLines front header
  pub other : BeginOther (numbered_lines left)
  pub known : Declared
  pub declares : Declares files.Extension false (declared_before sorts vars header.uses) left known
  pub refused : AreRestRefused known (declared_before sorts vars header.uses) front
      (numbered_lines left) number kind

-- any name
abbrev pub IsAnyName : List ℕ → Type 0
IsAnyName name = Unit {0}

-- why the lines of an extension file are refused
abbrev pub IsExtensionRefused : List SortLine → List VarLine → Lines → ℕ → Kind → Type 0
IsExtensionRefused sorts vars lines number kind =
    IsHeaderRefused IsAnyName lines number kind ⊎ IsRefusedAfter sorts vars lines number kind
