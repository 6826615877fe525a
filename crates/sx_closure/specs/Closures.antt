-- Closures of modules.
use Rattle.std.specs.Prelude.{◌≡◌, ℕ, ◌≤◌, List, [], ◌∷◌, ◌++◌, length}
use Rattle.std.specs.List.{AllByRecursion}
use Rattle.sx_walking.specs.Laws.{AllComeAfter}
use Rattle.sx_headers.specs.ReadModule.{Module}
use Rattle.sx_closure.specs.ReadModules.{module_name, imports_of}

-- all of these modules have the language
abbrev pub HaveLanguage : List ℕ → List Module → Type 0
HaveLanguage language ms = AllByRecursion (λ m. m.header.language ≡ language) ms

-- these at most 256 modules stand once each and after all that they import; the one with this name
-- comes last, and all have its language
pub record IsClosure (name : List ℕ) (ms : List Module) : Type 0 where
  pub order : AllComeAfter module_name imports_of ms
  pub before : List Module
  pub root : Module
  pub last : ms ≡ before ++ root ∷ []
  pub named : module_name root ≡ name
  pub language : HaveLanguage root.header.language ms
  pub few : length ms ≤ 256
