-- Interfaces that are read from files that hold the same.
use Rattle.std.proofs.Common.{◌≡◌, ℕ, List, [], ◌∷◌, ◌++◌, sym, ◌∙◌, refl, arith}
use Rattle.std.specs.Prelude.{Ok, Contains}
use Rattle.sha2.specs.Sha256.{sha256}
use Rattle.sx_outside.specs.Files.{Files}
use Rattle.sx_steps.specs.Held.{Held}
use Rattle.sx_term.specs.Limits.{most_bytes}
use Rattle.sx_steps.specs.Unit.{interface_file}
use Rattle.sx_steps.proofs.StepsOn.{went}
use Rattle.sx_headers.specs.ReadInterface.{StatesParts, ReadsInterface}
use Rattle.sx_importing.specs.Each.{GivesNext, GivesAfter}
use Rattle.sx_importing.specs.ReadImports.{ImportData, ReadsImport, ReadsImports}
use Rattle.sx_compiling.proofs.Members.{contains_more}

module _ (some others : Files) where
  -- both hold the same interface of the module with this name
  abbrev pub HoldSame : List ℕ → Type 0
  HoldSame name = some (interface_file name) ≡ others (interface_file name)

  import_again : (name : List ℕ) (i : ImportData) → HoldSame name →
      ReadsImport some name (Ok i) → ReadsImport others name (Ok i)
  import_again name i same read =
      let held = went (ReadsInterface (interface_file name) name some)
      (λ h result. result ≡ Ok (record { parts = h.parts; digest = sha256 h.bytes })) i read in
      let bytes = went (Held most_bytes (interface_file name) some)
      (StatesParts (interface_file name) name) held.given held.begins in
      record {
        given = Ok held.given;
        begins = record {
          given = Ok bytes.given;
          begins = (sym same ∙ bytes.begins.0, bytes.begins.1);
          goes = bytes.goes;
        };
        goes = held.goes;
      }

  after_again : (given : List ImportData) (names : List (List ℕ)) (all : List ImportData) →
      ((name : List ℕ) → Contains names name → HoldSame name) →
      GivesAfter (ReadsImport some) given names (Ok all) →
      GivesAfter (ReadsImport others) given names (Ok all)
  after_again given [] all same reads = reads
  after_again given (name ∷ names) all same reads =
      let first = went (GivesNext (ReadsImport some) given name)
      (λ next. GivesAfter (ReadsImport some) next names) all reads in
      let one = went (ReadsImport some name) (λ i result. result ≡ Ok (given ++ i ∷ []))
      first.given first.begins in
      record {
        given = Ok first.given;
        begins = record {
          given = Ok one.given;
          begins = import_again name one.given (same name (0, omega arith, refl)) one.begins;
          goes = one.goes;
        };
        goes = after_again first.given names all
            (λ n among. same n (contains_more name names n among)) first.goes;
      }

  pub imports_again : (names : List (List ℕ)) (all : List ImportData) →
      ((name : List ℕ) → Contains names name → HoldSame name) →
      ReadsImports some names (Ok all) → ReadsImports others names (Ok all)
  imports_again names all same reads = after_again [] names all same reads
