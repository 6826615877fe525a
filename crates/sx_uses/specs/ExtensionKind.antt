-- What a walk takes from extensions.
use Rattle.std.specs.Prelude.{ℕ, List}
use Rattle.std.specs.Str.{bytes_eq}
use Rattle.sx_walking.specs.Kinds.{WalkKind}
use Rattle.sx_uses.specs.ExtensionFile.{Extension, extension_file, used_names, IsHeaderStated}
use Rattle.sx_uses.specs.ReadExtension.{wrong_language, ReadsFile}

-- the name of an extension
abbrev pub extension_name : Extension → List ℕ
extension_name x = x.header.name

-- the extensions that are written for the language
abbrev pub extensions_for : List ℕ → WalkKind Extension
extensions_for language = record {
  name_of = extension_name;
  stands_on = used_names;
  Reads = ReadsFile;
  fits = λ x. bytes_eq x.header.language language;
  misfit = λ name x. wrong_language (extension_file name) x.header.language;
  IsStated = IsHeaderStated;
}
