-- Files that are kept beside those of a shelf.
use Rattle.std.proofs.Common.{◌≡◌, ℕ, Bool, true, false, List, [], ◌∷◌, refl, sym, ap, ◌∙◌, subst, arith}
use Rattle.std.specs.List.{AllByRecursion}
use Rattle.std.specs.Prelude.{Result, Ok, Err, Option, Some, None, OnOk, OnErr, if◌then◌else◌}
use Rattle.std.specs.Str.{bytes_eq}
use Rattle.std.proofs.lemmas.Slice.Eq.{bytes_eq-Decides}
use Rattle.sx_term.specs.declared.no_memory.NoMemory.{NoMemory}
use Rattle.sx_outside.specs.Files.{Files, put, no_files}
use Rattle.sx_outside.specs.FilesLaws.{put-same}
use Rattle.sx_steps.specs.Held.{Held}
use Rattle.sx_term.specs.Limits.{most_bytes}
use Rattle.sx_steps.specs.Stop.{Gives, IsNoFault, OnlyReads}
use Rattle.sx_steps.specs.declared.step_error.StepError.{StepError}
use Rattle.sx_steps.specs.declared.step_error.StepError.TheVariants as errors
use Rattle.sx_steps.specs.declared.stop.Stop.{Stop}
use Rattle.sx_steps.proofs.Ones.{none_some}
use Rattle.sx_steps.proofs.StepsOn.{went}
use Rattle.sx_walking.specs.Kinds.{ReachesBy}
use Rattle.sx_uses.specs.ExtensionFile.{Extension, extension_file}
use Rattle.sx_uses.specs.Laws.{AreExtensionsRead}
use Rattle.sx_uses.specs.ReadExtension.{StatesExtension, ReadsFile, IsFor, ReadsExtension}
use Rattle.sx_uses.specs.ReadUses.{ReadsUses}
use Rattle.sx_uses.proofs.Coming.{come_first}
use Rattle.sx_uses.proofs.Walks.{uses_as}
use Rattle.sx_compiling.specs.KeptFiles.{AreKeptOf, bytes_or, beside, extensions_beside}
use Rattle.sx_compiling.specs.KeptFiles.{StandsInFile}
use Rattle.sx_compiling.proofs.SameSteps.{IsAlso, then_as, held_as}

-- ---- what is kept are the files

pub none_kept : (kept files : Files) → kept ≡ no_files → AreKeptOf kept files
unfolding no_files
none_kept kept files same name bytes h =
    absurd (none_some bytes (sym (ap (λ (k : Files). k name) same) ∙ h))

or_same : (o p : Option (List ℕ)) → ((bytes : List ℕ) → o ≡ Some bytes → p ≡ Some bytes) →
    bytes_or o p ≡ p
or_same (Some bytes) p h = sym (h bytes refl)
or_same None p h = refl

pub beside_same : (kept files : Files) → AreKeptOf kept files → beside kept files ≡ files
beside_same kept files are = λ i name. or_same (kept name) (files name) (are name) i

pub beside_kept : (kept files : Files) (name : List ℕ) (o : Option (List ℕ)) → kept name ≡ o →
    beside kept files name ≡ bytes_or o (files name)
beside_kept kept files name o h = ap (λ (k : Option (List ℕ)). bytes_or k (files name)) h

-- ---- one file more

module _ (old files : Files) (name bytes : List ℕ) (are : AreKeptOf old files)
    (stands : files name ≡ Some bytes) where
  put_so : (other found : List ℕ) (b : Bool) → bytes_eq name other ≡ b →
      (if b then Some bytes else old other) ≡ Some found → files other ≡ Some found
  put_so other found true e h =
      subst (λ (n : List ℕ). files n ≡ Some found) ((bytes_eq-Decides name other).0 e) (stands ∙ h)
  put_so other found false e h = are other found h

  are_put : AreKeptOf (put old name bytes) files
  unfolding put
  are_put other found h = put_so other found (bytes_eq name other) refl h

  pub are_after : (r : Result (Unit {0}) NoMemory) (new : Files) →
      OnOk r (new ≡ put old name bytes) → OnErr r (new ≡ old) → AreKeptOf new files
  are_after (Ok done) new same stays =
      subst (λ (k : Files). AreKeptOf k files) (sym same) are_put
  are_after (Err e) new same stays = subst (λ (k : Files). AreKeptOf k files) (sym stays) are

pub put_stands : (old new : Files) (name file bytes found : List ℕ) → new ≡ put old name bytes →
    name ≡ file → bytes ≡ found → new file ≡ Some found
put_stands old new name file bytes found same named is =
    ap (λ (k : Files). k file) same
    ∙ subst (λ (n : List ℕ). put old name bytes n ≡ Some bytes) named (put-same old name bytes)
    ∙ ap Some is

pub stands_as : (files : Files) (name file bytes found held : List ℕ) →
    files name ≡ Some bytes → file ≡ name → found ≡ held → held ≡ bytes →
    files file ≡ Some found
stands_as files name file bytes found held stands named is same =
    ap (λ (n : List ℕ). files n) named ∙ stands
    ∙ ap (λ (b : List ℕ). Some b) (sym (is ∙ same))

-- ---- a file that stands there as well

file_as : (name : List ℕ) (some others : Files) →
    some (extension_file name) ≡ others (extension_file name) →
    IsAlso (ReadsFile some name) (ReadsFile others name)
file_as name some others same =
    then_as (Held most_bytes (extension_file name) some)
    (Held most_bytes (extension_file name) others) (StatesExtension name) (StatesExtension name)
    (held_as most_bytes (extension_file name) some others same) (λ bytes r h. h)

gives_also : {X A : Type 0} (view : X → A) (first other : Result A Stop → Type 0) →
    IsAlso first other → (r : Result X StepError) → Gives view first r → Gives view other r
gives_also view first other each (Ok x) h = each (Ok (view x)) h
gives_also view first other each (Err errors.Memory) h = tt
gives_also view first other each (Err (errors.Stopped stop)) h = each (Err stop) h

pub gives_file : {X : Type 0} (view : X → Extension) (name : List ℕ) (some others : Files)
    (r : Result X StepError) → some (extension_file name) ≡ others (extension_file name) →
    Gives view (ReadsFile some name) r → Gives view (ReadsFile others name) r
gives_file view name some others r same h =
    gives_also view (ReadsFile some name) (ReadsFile others name) (file_as name some others same)
    r h

-- ---- faults

-- no read fails where the count of faults stands at 0
pub no_faults : {X : Type 0} (old new : Option Files) (writes : ℕ) (result : Result X StepError) →
    OnlyReads old new 0 0 writes writes result → IsNoFault result
no_faults old new writes result reads = (
  λ fault. let rose = reads.cause fault (omega arith) in omega (arith, rose),
  reads.never,
)

-- what reads nothing leaves all as it is
pub reads_nothing : {X : Type 0} (files : Option Files) (reads writes : ℕ)
    (result : Result X StepError) → IsNoFault result →
    OnlyReads files files reads reads writes writes result
reads_nothing files reads writes result none = record {
  content = refl;
  reads = omega arith;
  writes = refl;
  cause = λ fault. absurd (none.0 fault);
  kept = λ still. refl;
  never = none.1;
}

-- ---- the extensions of a walk

pub uses_beside : {X : Type 0} (view : X → List Extension) (kept files : Files)
    (language file : List ℕ) (roots : List (List ℕ)) (r : Result X StepError) → AreKeptOf kept files →
    Gives view (ReachesBy (extensions_beside kept language) file roots files) r →
    Gives view (ReadsUses file language roots files) r
uses_beside view kept files language file roots r are h =
    subst (λ (fs : Files). Gives view (ReadsUses file language roots fs) r)
    (beside_same kept files are) (uses_as language view file roots (beside kept files) r h)

read_stands : (language : List ℕ) (files : Files) (x : Extension) →
    ReadsExtension language files x.header.name (Ok x) → StandsInFile files x
read_stands language files x reads =
    let w = went (ReadsFile files x.header.name) (IsFor language x.header.name) x reads in
    let v = went (Held most_bytes (extension_file x.header.name) files)
    (StatesExtension x.header.name) w.given w.begins in
    v.begins.0
    ∙ ap (λ (bytes : List ℕ). Some bytes)
    (sym v.goes.same ∙ ap (λ (y : Extension). y.bytes) (sym w.goes.1))

all_stand : (language : List ℕ) (files : Files) (xs : List Extension) →
    AreExtensionsRead language files xs → AllByRecursion (StandsInFile files) xs
all_stand language files [] all = tt
all_stand language files (x ∷ xs) all =
    (read_stands language files x all.0, all_stand language files xs all.1)

-- those that were read stand in their files
pub uses_stand : (file language : List ℕ) (roots : List (List ℕ)) (files : Files)
    (xs : List Extension) → ReadsUses file language roots files (Ok xs) →
    AllByRecursion (StandsInFile files) xs
uses_stand file language roots files xs reads =
    all_stand language files xs (come_first file language roots files xs reads).1
