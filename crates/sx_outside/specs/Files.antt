-- Files by name.
use Rattle.std.specs.Prelude.{◌≡◌, ◌≢◌, ℕ, List, [], ◌∷◌, Option, Some, None, if◌then◌else◌}
use Rattle.std.specs.Str.{bytes_eq}

-- files: the bytes that stand under each name
abbrev pub Files : Type 0
Files = List ℕ → Option (List ℕ)

-- a file that is to be written: its name and its bytes
pub record File : Type 0 where
  pub name : List ℕ
  pub bytes : List ℕ

-- the files with these bytes under this name
unfoldable pub put : Files → List ℕ → List ℕ → Files
put files name bytes = λ other. if bytes_eq name other then Some bytes else files other

-- the files after these writes, the first of them first
abbrev pub after_writes : List File → Files → Files
after_writes [] files = files
after_writes (file ∷ rest) files = after_writes rest (put files file.name file.bytes)

-- the same files but for this name
abbrev pub SameBut : List ℕ → Files → Files → Type 0
SameBut name old new = (other : List ℕ) → other ≢ name → new other ≡ old other

-- no file at all
unfoldable pub no_files : Files
no_files = λ name. None
