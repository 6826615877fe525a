-- Modules of one language, and the language that its file states.
use Rattle.std.proofs.Common.{◌≡◌, ℕ, List, [], ◌∷◌, sym, subst}
use Rattle.std.specs.Prelude.{Ok}
use Rattle.sx_outside.specs.Files.{Files}
use Rattle.sx_steps.specs.Held.{Held}
use Rattle.sx_term.specs.Limits.{most_bytes}
use Rattle.sx_steps.proofs.StepsOn.{went}
use Rattle.sx_accepting.specs.LanguageFiles.{language_file}
use Rattle.sx_accepting.specs.ReadLanguage.{Stated, IsLanguageStated, StatesLanguage, ReadsLanguage}
use Rattle.sx_headers.specs.ReadModule.{Module}
use Rattle.sx_importing.specs.ReadImports.{ImportData}
use Rattle.sx_compiling.specs.Reached.{HasNamedLanguage}
use Rattle.sx_closure.specs.Closures.{HaveLanguage, IsClosure}
use Rattle.sx_closure.specs.ReadModules.{ReadsModules}
use Rattle.sx_closure.proofs.Closing.{are_closure}
use Rattle.sx_build.specs.BuildModules.{given_in, language_in}

-- modules that have one language have that of the first
own_language : (language : List ℕ) (ms : List Module) → HaveLanguage language ms →
    HaveLanguage (language_in ms) ms
own_language language [] h = tt
own_language language (m ∷ ms) h =
    subst (λ (w : List ℕ). HaveLanguage w (m ∷ ms)) (sym h.0) h

-- so have those of a closure
pub have_language : (name : List ℕ) (files : Files) (ms : List Module) →
    ReadsModules name files (Ok ms) → HaveLanguage (language_in ms) ms
have_language name files ms reads =
    let closure : IsClosure name ms = (are_closure name files ms reads).0 in
    own_language closure.root.header.language ms closure.language

-- a text states the language that was read
pub record HasBytes (language : List ℕ) (l : Stated) : Type 0 where
  pub bytes : List ℕ
  pub states : IsLanguageStated language bytes l

pub has_bytes : (language : List ℕ) (files : Files) (l : Stated) →
    ReadsLanguage language files (Ok l) → HasBytes language l
has_bytes language files l reads =
    let stated = went (Held most_bytes (language_file language) files) (StatesLanguage language) l
    reads in
    record { bytes = stated.given; states = stated.goes }

-- so it is under the name that a module with this language has for it
pub given_language : (language : List ℕ) (l : Stated) → HasBytes language l → (m : Module) →
    m.header.language ≡ language → (imports : List ImportData) → HasNamedLanguage (given_in l m imports)
given_language language l b m same imports = record {
  bytes = b.bytes;
  states = subst (λ (w : List ℕ). IsLanguageStated w b.bytes l) (sym same) b.states;
}
