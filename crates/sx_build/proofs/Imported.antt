-- Interfaces that are read from the texts of modules that were made.
use Rattle.std.proofs.Common.{◌≡◌, ◌++◌, ◌∷◌, [], ℕ, ◌<◌, ◌≤◌, List, map, inl, inr, refl, sym}
use Rattle.std.proofs.Common.{ap, ◌∙◌, subst, length, slice_index_or}
use Rattle.std.specs.List.{AllByRecursion}
use Rattle.std.proofs.lemmas.List.{map-append, get_or-map, length-map}
use Rattle.sx_auditing.proofs.Once.{all-joined}
use Rattle.sx_build.specs.declared.made.Made.{Made}
use Rattle.sx_build.specs.Buildings.{made_view, mades_view}
use Rattle.std.specs.Prelude.{Result, Ok, Err, Some}
use Rattle.sha2.specs.Sha256.{sha256}
use Rattle.sx_interface.specs.Interfaces.{InterfaceParts}
use Rattle.sx_outside.specs.Files.{Files}
use Rattle.sx_term.specs.Limits.{most_bytes}
use Rattle.sx_steps.specs.Stops.{too_long}
use Rattle.sx_steps.specs.Unit.{interface_file}
use Rattle.sx_steps.specs.declared.stop.Stop.{Stop}
use Rattle.sx_headers.specs.ReadModule.{Module}
use Rattle.sx_headers.specs.ReadInterface.{HasInterface, StatesParts}
use Rattle.sx_interface.specs.InterfaceView.{interface_view}
use Rattle.sx_interface.specs.declared.import.Import.{Import}
use Rattle.sx_environment.specs.SeenFrom.{IsShort, interfaces_of}
use Rattle.sx_accepting.specs.ReadLanguage.{Stated}
use Rattle.sx_compiling.specs.Given.{GivenModule}
use Rattle.sx_importing.specs.Each.{GivesNext}
use Rattle.sx_importing.specs.ReadImports.{ImportData, import_of, ReadsImport}

-- ---- the file of the module with this name holds these bytes

module _ (files : Files) (name bytes : List ℕ)
    (held : files (interface_file name) ≡ Some bytes) where
  -- they are too many
  pub too_long_import : most_bytes < length bytes → ReadsImport files name
      (Err (too_long (interface_file name)))
  too_long_import long = record {
    given = Err (too_long (interface_file name));
    begins = record {
      given = Err (too_long (interface_file name));
      begins = inr (inl (refl, (bytes, held, long)));
      goes = refl;
    };
    goes = refl;
  }

  -- they state this interface
  pub read_import : length bytes ≤ most_bytes → (parts : InterfaceParts) →
      HasInterface name bytes (record { bytes = bytes; parts = parts }) → ReadsImport files name
      (Ok (record { parts = parts; digest = sha256 bytes }))
  read_import short parts has = record {
    given = Ok (record { bytes = bytes; parts = parts });
    begins = record { given = Ok bytes; begins = (held, short); goes = has };
    goes = refl;
  }

  -- they state none
  pub refused_import : length bytes ≤ most_bytes → (stop : Stop) →
      StatesParts (interface_file name) name bytes (Err stop) → ReadsImport files name (Err stop)
  refused_import short stop refused = record {
    given = Err stop;
    begins = record { given = Ok bytes; begins = (held, short); goes = refused };
    goes = refl;
  }

-- ---- modules by their numbers

pub name_at : (mades : List Made) (i : ℕ) (d : Made) (e : List ℕ) → i < length mades →
    slice_index_or (map (λ m. m.name) (mades_view mades)) i e
    ≡ (slice_index_or mades i d).name
name_at mades i d e below =
    get_or-map (λ m. m.name) (mades_view mades) i (made_view d) e
    (subst (λ (n : ℕ). i < n) (sym (length-map mades made_view)) below)
    ∙ ap (λ m. m.name) (get_or-map made_view mades i d (made_view d) below)

-- ---- one import more

module _ (before after : List Import) (import : Import) (is : after ≡ before ++ import ∷ []) where
  imports_grow : map import_of after ≡ map import_of before ++ import_of import ∷ []
  imports_grow = ap (map import_of) is ∙ map-append import_of before (import ∷ [])

  pub next_short : AllByRecursion IsShort (interfaces_of before) →
      IsShort (interface_view import.interface) → AllByRecursion IsShort (interfaces_of after)
  next_short short one =
      subst (λ (v : List InterfaceParts). AllByRecursion IsShort v)
      (sym (ap interfaces_of is
      ∙ map-append (λ (i : Import). interface_view i.interface) before (import ∷ [])))
      (all-joined IsShort (interfaces_of before) (interfaces_of (import ∷ [])) short (one, tt))

  pub next_named : (name : List ℕ) → import.interface.«module» ≡ name →
      map (λ (it : InterfaceParts). it.name) (interfaces_of after)
      ≡ map (λ (it : InterfaceParts). it.name) (interfaces_of before) ++ name ∷ []
  next_named name named =
      let f : InterfaceParts → List ℕ = λ it. it.name in
      ap (map f) (ap interfaces_of is
      ∙ map-append (λ (i : Import). interface_view i.interface) before (import ∷ []))
      ∙ map-append f (interfaces_of before) (interfaces_of (import ∷ []))
      ∙ ap (λ (n : List ℕ). map f (interfaces_of before) ++ n ∷ []) named

pub next_given : (Step : List ℕ → Result ImportData Stop → Type 0) (name : List ℕ)
    (before after : List Import) (import : Import) → after ≡ before ++ import ∷ [] →
    Step name (Ok (import_of import)) →
    GivesNext Step (map import_of before) name (Ok (map import_of after))
next_given Step name before after import is step = record {
  given = Ok (import_of import);
  begins = step;
  goes = ap Ok (imports_grow before after import is);
}

-- what a module with this file is made from
abbrev pub given_with : List ℕ → Module → Stated → List ImportData → GivenModule
given_with file m l imports = record {
  file = file;
  read = m;
  language = l;
  imports = imports;
}
