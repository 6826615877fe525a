-- Interfaces that are remembered.
use Rattle.std.proofs.Common.{◌≡◌, ◌++◌, ◌∷◌, [], ℕ, Bool, true, false, List, cond, inl, inr, refl}
use Rattle.std.proofs.Common.{sym, ◌∙◌, subst}
use Rattle.std.specs.HashMap as hash
use Rattle.std.specs.HashMap.{get_by_text}
use Rattle.std.specs.List.{AllByRecursion}
use Rattle.std.specs.Prelude.{Result, Ok, Err, Option, Some, None, Contains, IfOk, OnOk, OnErr}
use Rattle.std.specs.Prelude.{string_bytes}
use Rattle.std.specs.Prelude.{if◌then◌else◌}
use Rattle.std.specs.Str.{bytes_eq}
use Rattle.std.specs.String.{string_eq}
use Rattle.std.proofs.lemmas.List.Elements.{Contains-append_left}
use Rattle.std.proofs.lemmas.Map.Text.{hash_map_updates_text}
use Rattle.sx_auditing.proofs.Once.{all-joined}
use Rattle.sx_environment.specs.SeenFrom.{IsShort}
use Rattle.sx_importing.specs.ReadImports.{import_of, ReadsImport}
use Rattle.sx_interface.specs.InterfaceView.{interface_view}
use Rattle.sx_outside.specs.Files.{Files}
use Rattle.sx_steps.specs.Stop.{Gives}
use Rattle.sx_steps.specs.Unit.{interface_file}
use Rattle.sx_steps.specs.declared.step_error.StepError.{StepError}
use Rattle.sx_steps.proofs.Ones.{none_some}
use Rattle.sx_interface.specs.declared.import.Import.{Import}
use Rattle.sx_walking.specs.FileTable.{FileMap, files_by}
use Rattle.sx_walking.specs.Reached.{Found}
use Rattle.sx_walking.proofs.Tables.{put_held, put_cases}
use Rattle.sx_build.specs.Buildings.{AreMore, AreNamedApart}
use Rattle.sx_build.specs.MadeModules.{Made, with_made}
use Rattle.sx_build.specs.Remembering.{IsGone, IsInterfaceKept, IsImportOf, IsOwnImport, Remembers}
use Rattle.sx_build.proofs.MadeFiles.{interface_stands}

-- ---- what stands under the names

none_chosen : (b : Bool) (o : Option Import) → cond b None o ≡ (if b then None else o)
none_chosen true o = refl
none_chosen false o = refl

pub gone_held : (old new : FileMap Import) (key name : List ℕ) → key ≡ name →
    hash.UpdatesBy string_eq (λ k. bytes_eq key (string_bytes k)) old new None →
    IsGone name (files_by old) (files_by new)
gone_held old new key name e u =
    subst (λ (n : List ℕ). IsGone n (files_by old) (files_by new)) e
    (λ other. hash_map_updates_text key old new None u other
    ∙ none_chosen (bytes_eq key other) (get_by_text old other))

pub kept_by : {R E : Type 0} (r : Result R E) (old new : FileMap Import) (key : List ℕ)
    (i : Import) → key ≡ i.interface.«module» →
    OnOk r (hash.UpdatesBy string_eq (λ k. bytes_eq key (string_bytes k)) old new (Some i)) →
    OnErr r (new.entries ≡ old.entries) → IsInterfaceKept i (files_by old) (files_by new)
kept_by (Ok x) old new key i named updates stays =
    inl (put_held old new key i.interface.«module» i named updates)
kept_by (Err e) old new key i named updates stays = inr (λ name. cc)

left_so : (b : Bool) (o : Option Import) (i : Import) → (if b then None else o) ≡ Some i →
    o ≡ Some i
left_so true o i h = absurd (none_some i h)
left_so false o i h = h

-- ---- what is remembered of these modules

module _ (mades : List Made) where
  pub none_remembered : (held : Found Import) → ((name : List ℕ) → held name ≡ None) →
      Remembers mades held
  none_remembered held none name i h = absurd (none_some i (sym (none name) ∙ h))

  pub remembers_left : (name : List ℕ) (old new : Found Import) → IsGone name old new →
      Remembers mades old → Remembers mades new
  remembers_left name old new gone before other i h =
      before other i (left_so (bytes_eq name other) (old other) i (sym (gone other) ∙ h))

  own_as : (name : List ℕ) (i j : Import) → i.interface.«module» ≡ name → i ≡ j → IsOwnImport mades i →
      IsImportOf mades name j
  own_as name i j named same own =
      subst (λ (n : List ℕ). IsImportOf mades n j) named
      (subst (λ (k : Import). IsImportOf mades i.interface.«module» k) same own)

  pub remembers_kept : (i : Import) (old new : Found Import) → IsInterfaceKept i old new →
      Remembers mades old → IsOwnImport mades i → Remembers mades new
  remembers_kept i old new (inl put) before own name j h =
      elim (put_cases i.interface.«module» i old new put name j h) [
        | inl here ↦ own_as name i j here.0 here.1 own
        | inr there ↦ before name j there
      ]
  remembers_kept i old new (inr same) before own name j h =
      before name j (sym (same name) ∙ h)

  -- it is what is read once the files of these were written
  pub recalled : (name : List ℕ) (i : Import) → AreNamedApart mades → IsImportOf mades name i →
      (files : Files) → ReadsImport (with_made mades files) name (Ok (import_of i))
  recalled name i once is files =
      is.reads (with_made mades files)
      (subst (λ (n : List ℕ). with_made mades files (interface_file n) ≡ Some is.made.interface)
      is.named (interface_stands mades files is.made once is.among))

  -- what is read of one of these
  pub read_own : (made : Made) (name : List ℕ) → Contains mades made → made.name ≡ name →
      (r : Result Import StepError) → ((files : Files) →
      files (interface_file made.name) ≡ Some made.interface →
      Gives import_of (ReadsImport files made.name) r) →
      IfOk r (λ i. IsShort (interface_view i.interface)) →
      IfOk r (λ i. i.interface.«module» ≡ made.name) → IfOk r (IsImportOf mades name)
  read_own made name among named (Ok i) reads short own = record {
    made = made;
    among = among;
    named = named;
    own = own ∙ named;
    short = short;
    reads = λ files h. subst (λ (n : List ℕ). ReadsImport files n (Ok (import_of i))) named
        (reads files (subst (λ (n : List ℕ). files (interface_file n) ≡ Some made.interface)
        (sym named) h));
  }
  read_own made name among named (Err e) reads short own = tt

  pub own_next : (name : List ℕ) (before after : List Import) (i : Import) →
      after ≡ before ++ i ∷ [] → AllByRecursion (IsOwnImport mades) before → IsImportOf mades name i →
      AllByRecursion (IsOwnImport mades) after
  own_next name before after i is all one =
      subst (λ (v : List Import). AllByRecursion (IsOwnImport mades) v) (sym is)
      (all-joined (IsOwnImport mades) before (i ∷ []) all
      (subst (λ (n : List ℕ). IsImportOf mades n i) (sym one.own) one, tt))

-- ---- one module more

module _ (before after : List Made) (more : AreMore before after) where
  own_more : (name : List ℕ) (i : Import) → IsImportOf before name i → IsImportOf after name i
  own_more name i is = record {
    made = is.made;
    among = subst (λ (ms : List Made). Contains ms is.made) (sym more.is)
        (Contains-append_left before (more.made ∷ []) is.made is.among);
    named = is.named;
    own = is.own;
    short = is.short;
    reads = is.reads;
  }

  pub remembers_more : (held : Found Import) → Remembers before held → Remembers after held
  remembers_more held was name i h = own_more name i (was name i h)

  pub all_more : (is : List Import) → AllByRecursion (IsOwnImport before) is →
      AllByRecursion (IsOwnImport after) is
  all_more [] all = tt
  all_more (i ∷ is) all = (own_more i.interface.«module» i all.0, all_more is all.1)

-- where it was made, its imports are remembered again
pub remembers_on : (r : Result (Unit {0}) StepError) (before after : List Made)
    (held now : Found Import) (is : List Import) → IfOk r (λ done. AreMore before after) →
    Remembers before held → AllByRecursion (IsOwnImport before) is →
    ((mades : List Made) → Remembers mades held → AllByRecursion (IsOwnImport mades) is →
    Remembers mades now) → IfOk r (λ done. Remembers after now)
remembers_on (Ok done) before after held now is more was all keeps =
    keeps after (remembers_more before after more held was) (all_more before after more is all)
remembers_on (Err e) before after held now is more was all keeps = tt
