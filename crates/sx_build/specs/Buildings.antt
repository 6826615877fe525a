-- Modules that were made, in memory.
use Rattle.std.specs.Prelude.{◌≡◌, ℕ, List, [], ◌∷◌, ◌++◌, map, Contains}
use Rattle.std.specs.List.{AllByRecursion}
use Rattle.sx_notation.specs.Language.{IsLanguage}
use Rattle.sx_accepting.specs.declared.read_language.LanguageFile.{LanguageFile}
use Rattle.sx_accepting.specs.ReadLanguage.{HasText}
use Rattle.sx_headers.specs.ReadModule.{Module}
use Rattle.sx_walking.specs.Opened.{AreOnce}
use Rattle.sx_walking.specs.Laws.{AllComeAfter}
use Rattle.sx_closure.specs.Closures.{HaveLanguage}
use Rattle.sx_closure.specs.ReadModules.{IsModuleStated, module_name, imports_of}
use Rattle.sx_build.specs.BuildModules.{language_in}
use Rattle.sx_build.specs.declared.made.Made.{Made as MadeOf}
use Rattle.sx_build.specs.MadeModules.{Made}

-- what is kept, without where it lies in memory
abbrev pub made_view : MadeOf → Made
made_view m = record {
  name = m.name;
  base = m.base.items;
  list = m.list.items;
  interface = m.interface.items;
  nodes = m.nodes;
}

abbrev pub mades_view : List MadeOf → List Made
mades_view mades = map made_view mades

-- each of the names is that of one of these
abbrev pub AreAmong : List Made → List (List ℕ) → Type 0
AreAmong mades names = AllByRecursion (Contains (map (λ m. m.name) mades)) names

-- no two of these have one name
abbrev pub AreNamedApart : List Made → Type 0
AreNamedApart mades = AreOnce (map (λ m. m.name) mades)

-- one more stands behind these
pub record AreMore (before after : List Made) : Type 0 where
  pub made : Made
  pub is : after ≡ before ++ made ∷ []

-- a text states the language, under the name that the module has for it
pub record HasStatedLanguage (m : Module) (l : LanguageFile) : Type 0 where
  pub language : IsLanguage l.language
  pub text : HasText m.header.language l.language

-- the module can be made in the language after these: its file states it, and the modules that it
-- imports are among them
pub record CanBuild (mades : List Made) (m : Module) (l : LanguageFile) : Type 0 where
  pub stated : IsModuleStated m
  pub language : HasStatedLanguage m l
  pub distinct : AreNamedApart mades
  pub among : AreAmong mades m.header.imports

-- the modules can be made in the language, one after another in this order
pub record CanMakeAll (ms : List Module) (l : LanguageFile) : Type 0 where
  pub stated : AllByRecursion IsModuleStated ms
  pub order : AllComeAfter module_name imports_of ms
  pub fit : IsLanguage l.language
  pub text : HasText (language_in ms) l.language
  pub same : HaveLanguage (language_in ms) ms
