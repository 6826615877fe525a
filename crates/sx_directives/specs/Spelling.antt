-- How names, literals, sorts and symbols are spelled in a part of a line.
use Rattle.std.specs.Prelude.{◌≡◌, ◌≢◌, ℕ, ◌==◌, Bool, true, false, IsTrue, ◌⊎◌, List, [], ◌∷◌}
use Rattle.std.specs.Prelude.{◌++◌, Some, codes, if◌then◌else◌}
use Rattle.std.specs.List.{list_all, AllByRecursion}
use Rattle.std.specs.Char.{is_ascii_alphabetic, is_ascii_digit}
use Rattle.std.specs.Str.{IsUtf8}
use Rattle.sx_term.specs.declared.lex_kind.LexKind.{LexKind}
use Rattle.sx_term.specs.declared.lex_kind.LexKind.TheVariants.{Id, Num, Str}
use Rattle.sx_term.specs.declared.text_error.TextError.{TextError}
use Rattle.sx_term.specs.declared.text_error.TextError.TheVariants.{NotUtf8, Memory as NoRoom}
use Rattle.sx_lines.specs.Words.{is_name, number_within}
use Rattle.sx_term.specs.declared.role.Role.{Role}
use Rattle.sx_term.specs.declared.role.Role.TheVariants.{In, Sub, Out}
use Rattle.sx_grammar.specs.declared.symbol.Symbol.{Symbol}
use Rattle.sx_grammar.specs.declared.symbol.Symbol.TheVariants.{Lit, Lex, Part}
use Rattle.sx_directives.specs.declared.row_error.RowError.{RowError}
use Rattle.sx_directives.specs.declared.row_error.RowError.TheVariants.{Memory, Shape}
use Rattle.sx_directives.specs.declared.spelled.SpelledSort.{SpelledSort}
use Rattle.sx_directives.specs.declared.spelled.SpelledSort.TheVariants.{Lex as Lexical, Named}
use Rattle.sx_directives.specs.declared.spelled.FormSymbol.{FormSymbol}
use Rattle.sx_directives.specs.declared.spelled.FormSymbol.TheVariants.{Lit as FormLit, Place}

-- memory is lacking, or no value is as it should be
abbrev pub NoneIs : {A : Type 0} → (A → Type 0) → RowError → Type 0
NoneIs {A} Is Memory = Unit {0}
NoneIs {A} Is Shape = (x : A) → Is x → ⊥

-- ---- names

-- a letter, then letters, digits, `_` or `-`, at most 64 bytes
abbrev pub IsName : List ℕ → Type 0
IsName name = IsTrue (is_name true name)

-- a letter, then letters, digits or `_`, at most 64 bytes
abbrev pub IsModuleName : List ℕ → Type 0
IsModuleName name = IsTrue (is_name false name)

-- a name of letters alone
abbrev pub IsStem : List ℕ → Type 0
IsStem stem = IsName stem × IsTrue (list_all is_ascii_alphabetic stem)

-- the part is this name
abbrev pub IsSpelledName : List ℕ → List ℕ → Type 0
IsSpelledName part name = (part ≡ name) × IsName name

-- the part is this name of a module
abbrev pub IsModuleNamed : List ℕ → List ℕ → Type 0
IsModuleNamed part name = (part ≡ name) × IsModuleName name

-- the part is this stem
abbrev pub IsStemOf : List ℕ → List ℕ → Type 0
IsStemOf part stem = (part ≡ stem) × IsStem stem

-- the bytes are this text
abbrev pub IsTextOf : List ℕ → List ℕ → Type 0
IsTextOf bytes text = (bytes ≡ text) × IsUtf8 text

-- without the ASCII digits at its end the name is not empty
abbrev pub HasStem : List ℕ → Type 0
HasStem name = list_all is_ascii_digit name ≡ false

-- the part is the name of this variable, without `~`
abbrev pub IsVariable : List ℕ → List ℕ → Type 0
IsVariable part name = IsTextOf part name × HasStem name

-- ---- literals

-- the byte is no quote
abbrev pub is_plain_byte : ℕ → Bool
is_plain_byte b = if b == 34 then false else true

-- the part is this text in quotes, which has no quote
pub record IsQuoted (part text : List ℕ) : Type 0 where
  pub quotes : part ≡ 34 ∷ text ++ 34 ∷ []
  pub plain : IsTrue (list_all is_plain_byte text)
  pub utf8 : IsUtf8 text

-- ---- sorts

-- `id`, `num` or `str`
abbrev pub lex_text : LexKind → List ℕ
lex_text Id = codes "id"
lex_text Num = codes "num"
lex_text Str = codes "str"

-- none of these
abbrev pub NotLexical : List ℕ → Type 0
NotLexical part = (kind : LexKind) → part ≡ lex_text kind → ⊥

-- the part is this name, of a sort that is not lexical
abbrev pub IsSortName : List ℕ → List ℕ → Type 0
IsSortName part name = IsSpelledName part name × NotLexical name

-- no byte is `@`
abbrev pub NoAt : List ℕ → Type 0
NoAt text = AllByRecursion (λ b. b ≢ 64) text

-- a name of a sort that is not lexical, alone: its least level is 0
pub record IsAlone (part sort : List ℕ) (least : ℕ) : Type 0 where
  pub part_is : part ≡ sort
  pub level : least ≡ 0
  pub named : NotLexical sort

-- a name of a sort, `@` and a least level from 0 to 99
pub record IsAtLevel (part sort : List ℕ) (least : ℕ) : Type 0 where
  pub digits : List ℕ
  pub part_is : part ≡ sort ++ 64 ∷ digits
  pub level : number_within 99 digits ≡ Some least

-- the part spells this sort
abbrev pub SpellsSort : List ℕ → SpelledSort → Type 0
SpellsSort part (Lexical kind) = part ≡ lex_text kind
SpellsSort part (Named sort least) = IsName sort ×
    (IsAlone part sort least ⊎ IsAtLevel part sort least)

-- the name and the digits are those of this sort
abbrev pub IsLevelled : List ℕ → List ℕ → SpelledSort → Type 0
IsLevelled name digits (Lexical kind) = ⊥
IsLevelled name digits (Named sort least) = IsSpelledName name sort ×
    (number_within 99 digits ≡ Some least)

-- ---- symbols

-- the part spells this symbol of a production
abbrev pub SpellsSymbol : List ℕ → Symbol → Type 0
SpellsSymbol part (Lit text) = IsQuoted part text
SpellsSymbol part (Lex kind) = SpellsSort part (Lexical kind)
SpellsSymbol part (Part sort least) = SpellsSort part (Named sort least)

-- `in:`, `sub:` or `out:`
abbrev pub role_text : Role → List ℕ
role_text In = codes "in:"
role_text Sub = codes "sub:"
role_text Out = codes "out:"

-- what the place is for, and its sort
pub record SpellsPlace (part : List ℕ) (role : Role) (sort : SpelledSort) : Type 0 where
  pub rest : List ℕ
  pub part_is : part ≡ role_text role ++ rest
  pub sort_is : SpellsSort rest sort

-- the part spells this symbol of a form
abbrev pub SpellsForm : List ℕ → FormSymbol → Type 0
SpellsForm part (FormLit text) = IsQuoted part text
SpellsForm part (Place role sort) = SpellsPlace part role sort

-- each part spells the symbol at its place
abbrev pub EachSpelled : {S : Type 0} → (List ℕ → S → Type 0) → List (List ℕ) → List S → Type 0
EachSpelled Spell [] [] = Unit {0}
EachSpelled Spell (part ∷ parts) (symbol ∷ symbols) =
    Spell part symbol × EachSpelled Spell parts symbols
EachSpelled Spell [] (symbol ∷ symbols) = ⊥
EachSpelled Spell (part ∷ parts) [] = ⊥

-- what it is in a row that bytes are no text
abbrev pub text_error : TextError → RowError
text_error (NotUtf8 place) = Shape
text_error NoRoom = Memory
