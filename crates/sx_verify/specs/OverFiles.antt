-- What a module is verified over, in memory.
use Rattle.std.specs.Prelude.{◌≡◌, ◌≤◌, List, ℕ, length, map}
use Rattle.std.specs.List.{AllByRecursion}
use Rattle.sx_interface.specs.StatedHeader.{ArePlainNames}
use Rattle.sx_notation.specs.Language.{IsLanguage}
use Rattle.sx_environment.specs.SeenFrom.{IsShort, interfaces_of}
use Rattle.sx_accepting.specs.ReadLanguage.{HasText}
use Rattle.sx_verify.specs.declared.over.Over.{Over}
use Rattle.sx_term.specs.Limits.{most_bytes}

-- The base file is no longer than a file may be, and its header names the imports that were read,
-- whose signatures are no longer; a text states the language, which has the name that the interface
-- gives.
pub record IsOverFiles (o : Over) : Type 0 where
  pub short : length o.written.now.base.bytes.items ≤ most_bytes
  pub names : ArePlainNames o.written.now.base.header.imports.items
  pub read : map (λ it. it.name) (interfaces_of o.imports.now) ≡
      o.written.now.base.header.imports.items
  pub imports : AllByRecursion IsShort (interfaces_of o.imports.now)
  pub language : IsLanguage o.language.now.language
  pub text : (name : List ℕ) × HasText name o.language.now.language
  pub named : o.language.now.language.name ≡ o.written.now.interface.language
