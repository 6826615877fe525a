-- What a module is made from in memory, the conditions of making its unit, and its list.
use Rattle.std.specs.Prelude.{◌≡◌, ℕ, ◌≤◌, List, map, length}
use Rattle.std.specs.List.{AllByRecursion}
use Rattle.sx_rules.specs.Derivations.{Proof}
use Rattle.sx_rules.specs.EntryView.{entries}
use Rattle.sx_rules.specs.Sets.{bare_rules_in}
use Rattle.sx_audit.specs.Preorder.{IsDerivationList}
use Rattle.sx_notation.specs.declared.language.Language.{Language}
use Rattle.sx_notation.specs.Language.{IsLanguage}
use Rattle.sx_unit.specs.declared.compiled.Compiled.{Compiled}
use Rattle.sx_environment.specs.SeenFrom.{IsShort, interfaces_of}
use Rattle.sx_accepting.specs.ReadLanguage.{HasText, stated_of}
use Rattle.sx_headers.specs.ReadModule.{HasHeader, module_of}
use Rattle.sx_importing.specs.ReadImports.{import_of}
use Rattle.sx_compiling.specs.declared.given.Given.{Given as GivenOf}
use Rattle.sx_compiling.specs.Given.{GivenModule}
use Rattle.sx_term.specs.Limits.{most_bytes}

-- what is given, without where it lies in memory
abbrev pub given_of : GivenOf → GivenModule
given_of g = record {
  file = g.file.now;
  read = module_of g.source.now;
  language = stated_of g.language.now;
  imports = map import_of g.imports.now;
}

-- the header is that of the file, the language is the one that it names, and the imports are those
-- that it names, in order, each no longer than a file may be
pub record CanMake (g : GivenOf) : Type 0 where
  pub headed : (name : List ℕ) × HasHeader name g.source.now.bytes.items (module_of g.source.now)
  pub short : length g.source.now.bytes.items ≤ most_bytes
  pub language : IsLanguage g.language.now.language
  pub text : HasText g.source.now.header.language g.language.now.language
  pub named : map (λ it. it.name) (interfaces_of g.imports.now) ≡ g.source.now.header.imports.items
  pub within : AllByRecursion IsShort (interfaces_of g.imports.now)

-- its list is that of a derivation by the rules of the language
abbrev pub HasDerivationList : Language → Compiled → Type 0
HasDerivationList l c = (p : Proof) × IsDerivationList (bare_rules_in l.rules)
    (entries c.list.items) p
