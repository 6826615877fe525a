-- The steps of `verify NAME` for a module.
use Rattle.std.specs.Prelude.{◌≡◌, ℕ, List, map, length, Result, Ok}
use Rattle.sha2.specs.Sha256.{sha256}
use Rattle.sx_term.specs.Tree.{Tree}
use Rattle.sx_grammar.specs.Tables.{literals_of}
use Rattle.sx_rules.specs.declared.entry.Entry.{Entry}
use Rattle.sx_rules.specs.Modes.{Goal}
use Rattle.sx_interface.specs.Interfaces.{InterfaceParts}
use Rattle.sx_notation.specs.Language.{LanguageData}
use Rattle.sx_unit.specs.Texts.{print_text}
use Rattle.sx_outside.specs.Files.{Files}
use Rattle.sx_words.specs.declared.closure_defect.Kept.TheVariants as kept
use Rattle.sx_steps.specs.declared.stop.Stop.{Stop}
use Rattle.sx_steps.specs.Held.{Held}
use Rattle.sx_term.specs.Limits.{most_bytes}
use Rattle.sx_steps.specs.Steps.{Then}
use Rattle.sx_steps.specs.Unit.{base_file, list_file, interface_file}
use Rattle.sx_steps.specs.Work.{Plan}
use Rattle.sx_accepting.specs.LanguageFiles.{language_file}
use Rattle.sx_accepting.specs.ReadLanguage.{Stated, StatesLanguage}
use Rattle.sx_headers.specs.FreeImports.{HasFreeImports}
use Rattle.sx_headers.specs.ReadInterface.{HeldInterface, ReadsInterface}
use Rattle.sx_headers.specs.ReadModule.{Module, ReadsModule}
use Rattle.sx_importing.specs.KeptValues.{KeepsText, KeepsDigest}
use Rattle.sx_importing.specs.MakeEnvironment.{SeesImports}
use Rattle.sx_verify.specs.BaseFits.{FitsBeside}
use Rattle.sx_verify.specs.Ground.{seen_alone, source_in, ReadsBody}
use Rattle.sx_verify.specs.Lists.{ReadsEntries}
use Rattle.sx_verify.specs.KeptImports.{ReadsAllKept}
use Rattle.sx_verify.specs.Replays.{main_goal_in, ReplaysMainGoal}
use Rattle.sx_verify.specs.Verified.{verified_plan}

-- the interface of the module with this name, and its base file
pub record Written : Type 0 where
  pub interface : InterfaceParts
  pub base : Module

-- the two together
abbrev pub both_written : InterfaceParts → Module → Written
both_written it m = record { interface = it; base = m }

-- ---- the list

-- the output is printed by the language's grammar and compared with the signature; then the line
abbrev pub VerifiesOutput : (name : List ℕ) → Written → LanguageData → (nodes : ℕ) →
    (output : Tree) → Result Plan Stop → Type 0
VerifiesOutput name w d nodes output =
    Then (KeepsText (interface_file name) kept.Signature w.interface.signature
    (print_text d.parts output))
    (λ done result. result ≡ Ok (verified_plan name nodes))

-- the list is replayed for the goal, and then the output
abbrev pub VerifiesEntries : (name : List ℕ) → Written → LanguageData → Goal → List Entry →
    Result Plan Stop → Type 0
VerifiesEntries name w d goal list =
    Then (ReplaysMainGoal (list_file name) d goal list) (VerifiesOutput name w d (length list))

-- the list in its file, and then the replay
abbrev pub VerifiesList : (name : List ℕ) → Files → Written → LanguageData → Goal →
    Result Plan Stop → Type 0
VerifiesList name files w d goal =
    Then (ReadsEntries (list_file name) (map (λ r. r.name) d.rules) files)
    (VerifiesEntries name w d goal)

-- so it is for the main goal with these terms
abbrev pub VerifiesSubject : (name : List ℕ) → Files → Written → LanguageData →
    (environment subject : Tree) → Result Plan Stop → Type 0
VerifiesSubject name files w d environment subject =
    VerifiesList name files w d (main_goal_in d environment subject)

-- ---- the body

-- the body is read by the language's grammar, and then the list for the goal with its term
abbrev pub VerifiesBody : (name : List ℕ) → Files → Written → Stated → (environment : Tree) →
    Result Plan Stop → Type 0
VerifiesBody name files w l environment =
    Then (ReadsBody (base_file name) (source_in l w.base environment))
    (VerifiesSubject name files w l.language environment)

-- the environment of the imports, and then the body
abbrev pub VerifiesOver : (name : List ℕ) → Files → Written → Stated → List InterfaceParts →
    Result Plan Stop → Type 0
VerifiesOver name files w l its =
    Then (SeesImports (base_file name) (seen_alone w.interface.language.name l) its)
    (VerifiesBody name files w l)

-- no import has a literal of the language as its name, and then the environment
abbrev pub VerifiesNames : (name : List ℕ) → Files → Written → List InterfaceParts → Stated →
    Result Plan Stop → Type 0
VerifiesNames name files w its l =
    Then (HasFreeImports (base_file name) (literals_of l.language.parts) w.base)
    (λ done. VerifiesOver name files w l its)

-- ---- the files that are compared

-- the language is read from its bytes, and then the names of the imports
abbrev pub VerifiesLanguage : (name : List ℕ) → Files → Written → (bytes : List ℕ) →
    List InterfaceParts → Result Plan Stop → Type 0
VerifiesLanguage name files w bytes its =
    Then (StatesLanguage w.interface.language.name bytes) (VerifiesNames name files w its)

-- the interfaces of the imports are read and compared, and then the language
abbrev pub VerifiesImports : (name : List ℕ) → Files → Written → (bytes : List ℕ) →
    Result Plan Stop → Type 0
VerifiesImports name files w bytes =
    Then (ReadsAllKept (interface_file name) files w.interface.imports)
    (VerifiesLanguage name files w bytes)

-- the digest of the language's file is compared, and then the imports
abbrev pub VerifiesDigest : (name : List ℕ) → Files → Written → (bytes : List ℕ) →
    Result Plan Stop → Type 0
VerifiesDigest name files w bytes =
    Then (KeepsDigest (interface_file name) kept.LanguageDigest w.interface.language.digest
    (sha256 bytes))
    (λ done. VerifiesImports name files w bytes)

-- the language's file, and then its digest
abbrev pub VerifiesWritten : (name : List ℕ) → Files → Written → Result Plan Stop → Type 0
VerifiesWritten name files w =
    Then (Held most_bytes (language_file w.interface.language.name) files)
    (VerifiesDigest name files w)

-- ---- the interface and the base file

-- the digest of the base file is compared
abbrev pub ComparesBase : (name : List ℕ) → InterfaceParts → Module → Result Written Stop → Type 0
ComparesBase name it m =
    Then (KeepsDigest (interface_file name) kept.BaseDigest it.base (sha256 m.bytes))
    (λ done result. result ≡ Ok (both_written it m))

-- the header of the base file fits the interface, and then its digest
abbrev pub FitsBase : (name : List ℕ) → InterfaceParts → Module → Result Written Stop → Type 0
FitsBase name it m = Then (FitsBeside (base_file name) it m) (λ done. ComparesBase name it m)

-- the base file is read, and compared with the interface
abbrev pub ReadsBase : (name : List ℕ) → Files → HeldInterface → Result Written Stop → Type 0
ReadsBase name files i =
    Then (ReadsModule (base_file name) name files) (FitsBase name i.parts)

-- the interface is read, and then the base file
abbrev pub ReadsWritten : (name : List ℕ) → Files → Result Written Stop → Type 0
ReadsWritten name files =
    Then (ReadsInterface (interface_file name) name files) (ReadsBase name files)

-- the steps of the command
abbrev pub VerifiesModule : (name : List ℕ) → Files → Result Plan Stop → Type 0
VerifiesModule name files = Then (ReadsWritten name files) (VerifiesWritten name files)
