-- Imports that were read have the names under which they were read, and digests.
use Rattle.std.proofs.Common.{◌≡◌, ℕ, List, [], ◌∷◌, ◌++◌, map, refl, sym, ap, ◌∙◌, subst}
use Rattle.std.proofs.Common.{append_assoc}
use Rattle.std.specs.Prelude.{Ok}
use Rattle.std.specs.List.{AllByRecursion}
use Rattle.std.proofs.lemmas.List.{append-nil}
use Rattle.sha2.specs.Sha256.{sha256}
use Rattle.sx_interface.specs.Stated.{IsDigest}
use Rattle.sx_outside.specs.Files.{Files}
use Rattle.sx_steps.specs.Held.{Held}
use Rattle.sx_term.specs.Limits.{most_bytes}
use Rattle.sx_steps.specs.Unit.{interface_file}
use Rattle.sx_steps.proofs.Ones.{ok_same}
use Rattle.sx_steps.proofs.StepsOn.{went}
use Rattle.sx_headers.specs.ReadInterface.{HeldInterface, StatesParts, ReadsInterface}
use Rattle.sx_importing.specs.Each.{GivesNext, GivesAfter}
use Rattle.sx_importing.specs.ReadImports.{ImportData, ReadsImport, ReadsImports}
use Rattle.sx_compiling.proofs.Digests.{digest_is}

-- an import with this name, and with some digest
record IsNamed (name : List ℕ) (i : ImportData) : Type 0 where
  same : i.parts.name ≡ name
  digest : IsDigest i.digest

abbrev of_held : HeldInterface → ImportData
of_held i = record { parts = i.parts; digest = sha256 i.bytes }

import_named : (files : Files) (name : List ℕ) (i : ImportData) →
    ReadsImport files name (Ok i) → IsNamed name i
import_named files name i read =
    let held = went (ReadsInterface (interface_file name) name files)
    (λ h result. result ≡ Ok (of_held h)) i read in
    let bytes = went (Held most_bytes (interface_file name) files)
    (StatesParts (interface_file name) name) held.given held.begins in
    subst (IsNamed name) (sym (ok_same i (of_held held.given) held.goes)) (record {
      same = bytes.goes.states.valid.same;
      digest = digest_is held.given.bytes;
    })

-- the imports have these names in order, and digests
pub record AreNamed (names : List (List ℕ)) (imports : List ImportData) : Type 0 where
  pub same : map (λ i. i.parts.name) imports ≡ names
  pub digests : AllByRecursion (λ i. IsDigest i.digest) imports

module _ (files : Files) where
  -- behind those that were given
  record Follow (given : List ImportData) (names : List (List ℕ)) (all : List ImportData) :
      Type 0 where
    more : List ImportData
    is : all ≡ given ++ more
    named : AreNamed names more

  follow : (given : List ImportData) (names : List (List ℕ)) (all : List ImportData) →
      GivesAfter (ReadsImport files) given names (Ok all) → Follow given names all
  follow given [] all reads = record {
    more = [];
    is = ok_same all given reads ∙ sym (append-nil given);
    named = record { same = refl; digests = tt };
  }
  follow given (name ∷ names) all reads =
      let first = went (GivesNext (ReadsImport files) given name)
      (λ next. GivesAfter (ReadsImport files) next names) all reads in
      let one = went (ReadsImport files name) (λ i result. result ≡ Ok (given ++ i ∷ []))
      first.given first.begins in
      let i = one.given in
      let named = import_named files name i one.begins in
      let next = ok_same first.given (given ++ i ∷ []) one.goes in
      let rest = follow first.given names all first.goes in
      record {
        more = i ∷ rest.more;
        is = rest.is ∙ ap (λ (l : List ImportData). l ++ rest.more) next
            ∙ append_assoc given (i ∷ []) rest.more;
        named = record {
          same = λ k. named.same k ∷ rest.named.same k;
          digests = (named.digest, rest.named.digests);
        };
      }

  pub imports_named : (names : List (List ℕ)) (imports : List ImportData) →
      ReadsImports files names (Ok imports) → AreNamed names imports
  imports_named names imports reads =
      let all = follow [] names imports reads in
      subst (AreNamed names) (sym all.is) all.named
