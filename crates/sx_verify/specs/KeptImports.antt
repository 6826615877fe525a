-- The steps that read the interfaces of the imports that an interface names.
use Rattle.std.specs.Prelude.{◌≡◌, ℕ, List, Result, Ok}
use Rattle.sx_interface.specs.Interfaces.{InterfaceParts, MarkData}
use Rattle.sx_outside.specs.Files.{Files}
use Rattle.sx_words.specs.declared.closure_defect.Kept.TheVariants.{ImportDigest}
use Rattle.sx_steps.specs.declared.stop.Stop.{Stop}
use Rattle.sx_steps.specs.Steps.{Then}
use Rattle.sx_importing.specs.Each.{ForEach}
use Rattle.sx_importing.specs.KeptValues.{KeepsDigest}
use Rattle.sx_importing.specs.ReadImports.{ImportData, ReadsImport}

-- the digest of this import's file, which the interface in the first file keeps, is the one found
abbrev pub KeepsImport : List ℕ → MarkData → (found : List ℕ) → Result (Unit {0}) Stop → Type 0
KeepsImport file mark found = KeepsDigest file (ImportDigest mark.name) mark.digest found

-- it is that of the import that was read
abbrev pub ComparesImport : List ℕ → MarkData → ImportData → Result InterfaceParts Stop → Type 0
ComparesImport file mark i =
    Then (KeepsImport file mark i.digest) (λ done result. result ≡ Ok i.parts)

-- the import's interface is read, and then its digest is compared
abbrev pub ReadsKept : List ℕ → Files → MarkData → Result InterfaceParts Stop → Type 0
ReadsKept file files mark = Then (ReadsImport files mark.name) (ComparesImport file mark)

-- the interfaces of all imports, in order
abbrev pub ReadsAllKept : List ℕ → Files → List MarkData →
    Result (List InterfaceParts) Stop → Type 0
ReadsAllKept file files marks = ForEach (ReadsKept file files) marks
