-- The term that is seen of an import.
use Rattle.std.specs.Prelude.{◌≡◌, ◌≢◌, ◌⊎◌, ℕ, ◌+◌, [], length}
use Rattle.sx_term.specs.declared.role.Role.TheVariants.{Out}
use Rattle.sx_term.specs.declared.sort.Sort.{Sort}
use Rattle.sx_term.specs.Tree.{Tree}
use Rattle.sx_grammar.specs.Grammar.{Text}
use Rattle.sx_grammar.specs.Parts.{Parts}
use Rattle.sx_plain.specs.Plain.{image}
use Rattle.sx_interface.specs.Interfaces.{InterfaceParts}
use Rattle.sx_typing.specs.Body.{ReadsOnly}
use Rattle.sx_typing.specs.BodySource.{main_sort}
use Rattle.sx_environment.specs.declared.row.Row.{Row}
use Rattle.sx_environment.specs.declared.row.Row.TheVariants.{Signature, Stated}
use Rattle.sx_environment.specs.SeenFrom.{SeenFrom}

-- ---- the rows that are read

-- the text of a row
abbrev pub import_row_text : InterfaceParts → Row → Text
import_row_text it Signature = it.signature
import_row_text it Stated = it.stated

-- its line in the interface's file, which stands behind a line for each use and each import
abbrev pub row_line : InterfaceParts → Row → ℕ
row_line it Signature = 6 + (length it.uses + length it.imports)
row_line it Stated = 7 + (length it.uses + length it.imports)

-- the grammar by which it is read: the language's, and for the stated signature the dialect's
abbrev pub row_parts : SeenFrom → Row → Parts
row_parts s Signature = s.dialect.language.parts
row_parts s Stated = s.dialect.parts

-- the sort as which it is read: that of the main form's output
abbrev pub row_sort : SeenFrom → Sort
row_sort s = main_sort s.dialect.language Out

-- the row has only one reading, with this term
abbrev pub IsImportRowRead : SeenFrom → InterfaceParts → Row → Tree → Type 0
IsImportRowRead s it row t = ReadsOnly (row_parts s row) (row_sort s) (import_row_text it row) t

-- ---- what is seen

-- the import is in the language, by the same file
abbrev pub HasLanguage : SeenFrom → InterfaceParts → Type 0
HasLanguage s it =
    (it.language.name ≡ s.language.name) × (it.language.digest ≡ s.language.digest)

-- it uses extensions, just those in use here, in the same order and by the same files
abbrev pub SeesStated : SeenFrom → InterfaceParts → Type 0
SeesStated s it = (it.uses ≢ []) × (it.uses ≡ s.uses)

-- a signature is the plain image of the signature as it is stated
abbrev pub IsPlainOf : SeenFrom → (stated signature : Tree) → Type 0
IsPlainOf s stated signature = image s.dialect.set.table stated ≡ signature

-- the term that is seen: that of the stated signature where this is seen, and else that of the
-- signature
abbrev pub Sees : SeenFrom → InterfaceParts → (signature seen : Tree) → Type 0
Sees s it signature seen =
    (SeesStated s it × IsImportRowRead s it Stated seen × IsPlainOf s seen signature)
    ⊎ ((SeesStated s it → ⊥) × (seen ≡ signature))

-- the import is in the language, its signature has only one reading, and this is the term seen
pub record IsGoodImport (s : SeenFrom) (it : InterfaceParts) (seen : Tree) : Type 0 where
  pub language : HasLanguage s it
  pub signature : Tree
  pub read : IsImportRowRead s it Signature signature
  pub sees : Sees s it signature seen
