-- Why no environment is made of imports.
use Rattle.std.specs.Prelude.{◌≡◌, ◌≢◌, ℕ, ◌+◌, ◌<◌, ◌≤◌, List, [], ◌∷◌, ◌++◌, length}
use Rattle.sx_term.specs.Tree.{Tree, depth_of}
use Rattle.sx_token.specs.declared.token.Token.{Token}
use Rattle.sx_token.specs.declared.token_error.TokenError.{TokenError}
use Rattle.sx_notation.specs.declared.unread.Unread.{Unread}
use Rattle.sx_notation.specs.WhyUnread.{IsUnreadAs}
use Rattle.sx_interface.specs.Interfaces.{InterfaceParts}
use Rattle.sx_typing.specs.Body.{IsCut, HasDefect}
use Rattle.sx_typing.specs.Refused.{defect_place, unread_place}
use Rattle.sx_environment.specs.declared.import_error.ImportError.{ImportError}
use Rattle.sx_environment.specs.declared.import_error.ImportError.TheVariants.{Memory}
use Rattle.sx_environment.specs.declared.import_error.ImportError.TheVariants.{LanguageDiffers}
use Rattle.sx_environment.specs.declared.import_error.ImportError.TheVariants.{Differs}
use Rattle.sx_environment.specs.declared.import_error.ImportError.TheVariants.{StatedDiffers}
use Rattle.sx_environment.specs.declared.import_error.ImportError.TheVariants.{Read, TooDeep}
use Rattle.sx_environment.specs.declared.import_error.ImportError.TheVariants.{Token as BadTokens}
use Rattle.sx_environment.specs.declared.row.Row.{Row}
use Rattle.sx_environment.specs.declared.row.Row.TheVariants.{Signature, Stated}
use Rattle.sx_environment.specs.Environments.{IsEnvironment, with_import}
use Rattle.sx_environment.specs.Seen.{import_row_text, row_line, row_parts, row_sort}
use Rattle.sx_environment.specs.Seen.{IsImportRowRead}
use Rattle.sx_environment.specs.Seen.{HasLanguage}
use Rattle.sx_environment.specs.Seen.{SeesStated, IsPlainOf, IsGoodImport}
use Rattle.sx_environment.specs.SeenFrom.{SeenFrom}
use Rattle.sx_term.specs.Limits.{most_depth}

-- ---- rows that are not read

-- the row is read: the signature where the import is in the language, the stated signature where
-- also the signature is read and the stated one is seen
abbrev pub IsImportRowDue : SeenFrom → InterfaceParts → Row → Type 0
IsImportRowDue s it Signature = HasLanguage s it
IsImportRowDue s it Stated =
    HasLanguage s it × ((signature : Tree) × IsImportRowRead s it Signature signature) ×
    SeesStated s it

-- line and column are those of this place in the row, in the interface's file
abbrev pub IsRowSpot : InterfaceParts → Row → (place line column : ℕ) → Type 0
IsRowSpot it row place line column = (line ≡ row_line it row) × (column ≡ 1 + place)

-- the row has no tokens: this is its first defect
abbrev pub IsRowUncut : SeenFrom → InterfaceParts → Row → (line column : ℕ) → TokenError → Type 0
IsRowUncut s it row line column e =
    HasDefect (row_parts s row) (import_row_text it row) e
    × IsRowSpot it row (defect_place e) line column

-- its tokens have not one reading
abbrev pub IsUnread : SeenFrom → InterfaceParts → Row → (line column : ℕ) → Unread → Type 0
IsUnread s it row line column u =
    ((ts : List Token) × IsCut (row_parts s row) (import_row_text it row) ts ×
    IsUnreadAs (row_parts s row) [] (row_sort s) ts (length (import_row_text it row)) u)
    × IsRowSpot it row (unread_place u) line column

-- ---- an import that is refused

-- the plain image of the stated signature is not the signature
pub record StatesOther (s : SeenFrom) (it : InterfaceParts) : Type 0 where
  pub due : IsImportRowDue s it Stated
  pub signature : Tree
  pub stated : Tree
  pub read : IsImportRowRead s it Signature signature
  pub read_stated : IsImportRowRead s it Stated stated
  pub other : IsPlainOf s stated signature → ⊥

-- the environment with the import is deeper than 1,000, and this deep
pub record IsImportTooDeep (s : SeenFrom) (before : Tree) (it : InterfaceParts) (depth : ℕ) : Type 0
  where
    pub seen : Tree
    pub good : IsGoodImport s it seen
    pub is : depth ≡ depth_of (with_import s before it.name seen)
    pub deep : most_depth < depth

-- why the import with this number, from 0, is refused behind this environment: each refusal has the
-- conditions of those before it; out of memory is free
abbrev pub IsBadImport : SeenFrom → (number : ℕ) → (before : Tree) → InterfaceParts → ImportError →
    Type 0
IsBadImport s number before it Memory = Unit {0}
IsBadImport s number before it (LanguageDiffers import language) = (import ≡ number) ×
    (language ≡ it.language.name) × (it.language.name ≢ s.language.name)
IsBadImport s number before it (Differs import kept found) = (import ≡ number) ×
    (it.language.name ≡ s.language.name) × (kept.bytes ≡ it.language.digest) ×
    (found.bytes ≡ s.language.digest) × (it.language.digest ≢ s.language.digest)
IsBadImport s number before it (BadTokens import line column e) = (import ≡ number) ×
    ((row : Row) × IsImportRowDue s it row × IsRowUncut s it row line column e)
IsBadImport s number before it (Read import line column u) = (import ≡ number) ×
    ((row : Row) × IsImportRowDue s it row × IsUnread s it row line column u)
IsBadImport s number before it (StatedDiffers import kept found) = (import ≡ number) ×
    (kept ≡ it.signature) × (found ≡ it.stated) × StatesOther s it
IsBadImport s number before it (TooDeep depth) = IsImportTooDeep s before it depth

-- ---- the first of them

-- the imports before this one are good, and their environment is not too deep; this one is refused
pub record IsImportRefused (s : SeenFrom) (its : List InterfaceParts)
    (e : ImportError) : Type 0 where
  pub front : List InterfaceParts
  pub it : InterfaceParts
  pub rest : List InterfaceParts
  pub is : its ≡ front ++ it ∷ rest
  pub before : Tree
  pub environment : IsEnvironment s front before
  pub shallow : depth_of before ≤ most_depth
  pub bad : IsBadImport s (length front) before it e

-- why no environment is made; out of memory is free
abbrev pub HasNoEnvironment : SeenFrom → List InterfaceParts → ImportError → Type 0
HasNoEnvironment s its Memory = Unit {0}
HasNoEnvironment s its e = IsImportRefused s its e
