-- Files of which some were read before.
use Rattle.std.specs.Prelude.{◌≡◌, ℕ, List, Option, Some, None}
use Rattle.sx_outside.specs.Files.{Files}
use Rattle.sx_walking.specs.Kinds.{WalkKind}
use Rattle.sx_uses.specs.ExtensionFile.{Extension, extension_file}
use Rattle.sx_uses.specs.ExtensionKind.{extensions_for}
use Rattle.sx_uses.specs.ReadExtension.{ReadsFile}

-- what is kept are these files, as far as it goes
abbrev pub AreKeptOf : (kept files : Files) → Type 0
AreKeptOf kept files = (name bytes : List ℕ) → kept name ≡ Some bytes → files name ≡ Some bytes

-- these bytes, and else those
abbrev pub bytes_or : Option (List ℕ) → Option (List ℕ) → Option (List ℕ)
bytes_or (Some bytes) other = Some bytes
bytes_or None other = other

-- what is kept, and else what the files hold
abbrev pub beside : (kept files : Files) → Files
beside kept files = λ name. bytes_or (kept name) (files name)

-- the extensions that are written for the language; those that are kept are read from there
abbrev pub extensions_beside : (kept : Files) → (language : List ℕ) → WalkKind Extension
extensions_beside kept language =
    record (extensions_for language) { Reads = λ files. ReadsFile (beside kept files) }

-- the bytes of the extension stand in its file
abbrev pub StandsInFile : Files → Extension → Type 0
StandsInFile files x = files (extension_file x.header.name) ≡ Some x.bytes
