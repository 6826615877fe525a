-- The imports that were read for a module keep the digests that its interface has of them.
use Rattle.std.proofs.Common.{◌≡◌, ℕ, List, [], ◌∷◌, ◌++◌, map, refl, sym, ap, ◌∙◌, subst}
use Rattle.std.proofs.Common.{append_assoc}
use Rattle.std.specs.Prelude.{Ok}
use Rattle.std.specs.List.{AllByRecursion}
use Rattle.std.proofs.lemmas.List.{append-nil}
use Rattle.std.proofs.lemmas.Simd.{map-map}
use Rattle.sha2.specs.Sha256.{sha256}
use Rattle.sx_interface.specs.Interfaces.{InterfaceParts, MarkData}
use Rattle.sx_interface.specs.Stated.{IsDigest}
use Rattle.sx_outside.specs.Files.{Files}
use Rattle.sx_steps.specs.Held.{Held}
use Rattle.sx_term.specs.Limits.{most_bytes}
use Rattle.sx_steps.specs.Unit.{interface_file}
use Rattle.sx_steps.proofs.Ones.{ok_same}
use Rattle.sx_steps.proofs.StepsOn.{went}
use Rattle.sx_headers.specs.ReadInterface.{HeldInterface, StatesParts, ReadsInterface}
use Rattle.sx_importing.specs.Each.{GivesNext, GivesAfter}
use Rattle.sx_importing.specs.ReadImports.{ImportData, import_mark, ReadsImport, ReadsImports}
use Rattle.sx_compiling.proofs.Digests.{digest_is}
use Rattle.sx_verify.specs.KeptImports.{ReadsKept, ReadsAllKept}

-- an import with this name, and with some digest
record IsNamed (name : List ℕ) (i : ImportData) : Type 0 where
  same : i.parts.name ≡ name
  digest : IsDigest i.digest

abbrev of_held : HeldInterface → ImportData
of_held i = record { parts = i.parts; digest = sha256 i.bytes }

import_named : (files : Files) (name : List ℕ) (i : ImportData) →
    ReadsImport files name (Ok i) → IsNamed name i
import_named files name i read =
    let held = went (ReadsInterface (interface_file name) name files)
    (λ h result. result ≡ Ok (of_held h)) i read in
    let bytes = went (Held most_bytes (interface_file name) files)
    (StatesParts (interface_file name) name) held.given held.begins in
    subst (IsNamed name) (sym (ok_same i (of_held held.given) held.goes)) (record {
      same = bytes.goes.states.valid.same;
      digest = digest_is held.given.bytes;
    })

abbrev parts_of : List ImportData → List InterfaceParts
parts_of imports = map (λ i. i.parts) imports

module _ (file : List ℕ) (files : Files) where
  -- it is read again, and has the digest that is kept of it
  kept_again : (i : ImportData) → ReadsImport files i.parts.name (Ok i) →
      ReadsKept file files (import_mark i) (Ok i.parts)
  kept_again i read = record {
    given = Ok i;
    begins = read;
    goes = record { given = Ok tt; begins = refl; goes = refl };
  }

  -- the imports have these names and digests, and are read again behind what was read before
  pub record AreKept (names : List (List ℕ)) (imports : List ImportData) : Type 0 where
    pub same : map (λ i. i.parts.name) imports ≡ names
    pub digests : AllByRecursion (λ i. IsDigest i.digest) imports
    pub keeps : (start : List InterfaceParts) →
        GivesAfter (ReadsKept file files) start (map import_mark imports)
        (Ok (start ++ parts_of imports))

  -- behind those that were given
  record Follow (given : List ImportData) (names : List (List ℕ)) (all : List ImportData) :
      Type 0 where
    more : List ImportData
    is : all ≡ given ++ more
    kept : AreKept names more

  follow : (given : List ImportData) (names : List (List ℕ)) (all : List ImportData) →
      GivesAfter (ReadsImport files) given names (Ok all) → Follow given names all
  follow given [] all reads = record {
    more = [];
    is = ok_same all given reads ∙ sym (append-nil given);
    kept = record {
      same = refl;
      digests = tt;
      keeps = λ start. ap (λ (l : List InterfaceParts). Ok l) (append-nil start);
    };
  }
  follow given (name ∷ names) all reads =
      let first = went (GivesNext (ReadsImport files) given name)
      (λ next. GivesAfter (ReadsImport files) next names) all reads in
      let one = went (ReadsImport files name) (λ i result. result ≡ Ok (given ++ i ∷ []))
      first.given first.begins in
      let i = one.given in
      let named = import_named files name i one.begins in
      let next = ok_same first.given (given ++ i ∷ []) one.goes in
      let rest = follow first.given names all first.goes in
      let read = subst (λ (n : List ℕ). ReadsImport files n (Ok i)) (sym named.same) one.begins in
      record {
        more = i ∷ rest.more;
        is = rest.is ∙ ap (λ (l : List ImportData). l ++ rest.more) next
            ∙ append_assoc given (i ∷ []) rest.more;
        kept = record {
          same = λ k. named.same k ∷ rest.kept.same k;
          digests = (named.digest, rest.kept.digests);
          keeps = λ start. record {
            given = Ok (start ++ i.parts ∷ []);
            begins = record { given = Ok i.parts; begins = kept_again i read; goes = refl };
            goes = subst
                (λ (l : List InterfaceParts). GivesAfter (ReadsKept file files)
                (start ++ i.parts ∷ []) (map import_mark rest.more) (Ok l))
                (append_assoc start (i.parts ∷ []) (parts_of rest.more))
                (rest.kept.keeps (start ++ i.parts ∷ []));
          };
        };
      }

  pub imports_kept : (names : List (List ℕ)) (imports : List ImportData) →
      ReadsImports files names (Ok imports) → AreKept names imports
  imports_kept names imports reads =
      let all = follow [] names imports reads in
      subst (AreKept names) (sym all.is) all.kept

  pub all_kept : (names : List (List ℕ)) (imports : List ImportData) → AreKept names imports →
      ReadsAllKept file files (map import_mark imports) (Ok (parts_of imports))
  all_kept names imports kept = kept.keeps []

-- the names of their marks are those of the imports
pub marked_names : (imports : List ImportData) →
    map (λ (m : MarkData). m.name) (map import_mark imports) ≡ map (λ i. i.parts.name) imports
marked_names imports = map-map (λ (m : MarkData). m.name) import_mark imports
