-- What `verify NAME` promises of a module.
use Rattle.std.specs.Prelude.{◌≡◌, ℕ, List, [], ◌∷◌, length, map, Ok, Some}
use Rattle.sha2.specs.Sha256.{sha256}
use Rattle.sx_term.specs.declared.role.Role.TheVariants.{Sub}
use Rattle.sx_term.specs.Tree.{Tree}
use Rattle.sx_lines.specs.Lines.{lines_from, line_texts}
use Rattle.sx_grammar.specs.Tables.{literals_of}
use Rattle.sx_rules.specs.declared.entry.Entry.{Entry}
use Rattle.sx_rules.specs.Derivations.{Proof}
use Rattle.sx_rules.specs.EntryView.{entries}
use Rattle.sx_rules.specs.First.{DerivesGoal}
use Rattle.sx_rules.specs.ListText.{StatesList}
use Rattle.sx_rules.specs.Orders.{order_of}
use Rattle.sx_rules.specs.Views.{modes_of}
use Rattle.sx_interface.specs.Interfaces.{InterfaceParts, MarkData}
use Rattle.sx_typing.specs.Body.{ReadsOnly}
use Rattle.sx_typing.specs.Outcomes.{nameless}
use Rattle.sx_rules.specs.Rules.{no_hypotheses}
use Rattle.sx_typing.specs.BodySource.{main_sort}
use Rattle.sx_interface.specs.FreeNames.{AreFree}
use Rattle.sx_unit.specs.Texts.{print_text}
use Rattle.sx_environment.specs.Environments.{IsEnvironment}
use Rattle.sx_outside.specs.Files.{Files, after_writes}
use Rattle.sx_steps.specs.Unit.{base_file, list_file, interface_file}
use Rattle.sx_steps.specs.Work.{Plan}
use Rattle.sx_accepting.specs.LanguageFiles.{language_file}
use Rattle.sx_accepting.specs.ReadLanguage.{Stated, IsLanguageStated}
use Rattle.sx_headers.specs.ReadInterface.{HasInterface}
use Rattle.sx_headers.specs.ReadModule.{Module, HasHeader}
use Rattle.sx_verify.specs.BaseFits.{IsBaseOf}
use Rattle.sx_verify.specs.Ground.{seen_alone}
use Rattle.sx_verify.specs.Replays.{main_goal_in}
use Rattle.sx_verify.specs.Verified.{verified_line}
use Rattle.sx_verify.specs.VerifyModule.{VerifiesModule}

-- the file of the import has this interface, and the digest that is kept
pub record HoldsImport (files : Files) (mark : MarkData) (it : InterfaceParts) : Type 0 where
  pub bytes : List ℕ
  pub held : files (interface_file mark.name) ≡ Some bytes
  pub states : HasInterface mark.name bytes (record { bytes = bytes; parts = it })
  pub digest : mark.digest ≡ sha256 bytes

-- so it is of each import
abbrev pub HoldImports : Files → List MarkData → List InterfaceParts → Type 0
HoldImports files [] [] = Unit {0}
HoldImports files (mark ∷ marks) (it ∷ its) =
    HoldsImport files mark it × HoldImports files marks its
HoldImports files _ _ = ⊥

-- the interface NAME.int, the base file beside it, whose header names the same language and the
-- same imports, the language, and the interfaces of the imports; the digests that are kept of these
-- files are theirs
pub record HoldsFiles (name : List ℕ) (files : Files) : Type 0 where
  pub own : List ℕ
  pub interface : InterfaceParts
  pub own_held : files (interface_file name) ≡ Some own
  pub own_states : HasInterface name own (record { bytes = own; parts = interface })
  pub base : Module
  pub base_held : files (base_file name) ≡ Some base.bytes
  pub base_states : HasHeader name base.bytes base
  pub fits : IsBaseOf interface base.header
  pub base_digest : interface.base ≡ sha256 base.bytes
  pub bytes : List ℕ
  pub language : Stated
  pub language_held : files (language_file interface.language.name) ≡ Some bytes
  pub language_states : IsLanguageStated interface.language.name bytes language
  pub language_digest : interface.language.digest ≡ sha256 bytes
  pub imports : List InterfaceParts
  pub imports_held : HoldImports files interface.imports imports

-- the environment of the imports, by their signatures alone
abbrev pub IsEnvironmentOf : {name : List ℕ} {files : Files} → HoldsFiles name files → Tree → Type 0
IsEnvironmentOf h environment =
    IsEnvironment (seen_alone h.interface.language.name h.language) h.imports environment

-- No import has a literal as its name, and the body of the base file has exactly one reading by the
-- language's grammar. The list of NAME.der is that of a derivation, by the language's rules alone,
-- of the main judgement of the environment of the imports, the term of the body and an output, and
-- the print of this is the signature of NAME.int. The digests that are kept are those of the files.
-- All files are as before, and the line tells the number of nodes.
pub record VerifiedModule (name : List ℕ) (old new : Files) (lines : List ℕ) : Type 0 where
  pub files : HoldsFiles name old
  pub environment : Tree
  pub subject : Tree
  pub output : Tree
  pub proof : Proof
  pub list_bytes : List ℕ
  pub list : List Entry
  pub free : AreFree (literals_of files.language.language.parts) files.base.header.imports
  pub around : IsEnvironmentOf files environment
  pub body : ReadsOnly files.language.language.parts (main_sort files.language.language Sub)
      files.base.header.body subject
  pub list_held : old (list_file name) ≡ Some list_bytes
  pub list_states : StatesList (map (λ r. r.name) files.language.language.rules)
      (line_texts (lines_from 1 list_bytes)) list
  pub derives : DerivesGoal (modes_of files.language.language.forms)
      (nameless files.language.language.rules) no_hypotheses
      (main_goal_in files.language.language environment subject) (proof, output ∷ [])
  pub in_order : order_of proof ≡ entries list
  pub signature : files.interface.signature ≡ print_text files.language.language.parts output
  pub same : new ≡ old
  pub line : lines ≡ verified_line name (length list)

-- where the steps end with a plan, and this is carried out, they promise this
abbrev pub VerifiesKeepPromise : Type 0
VerifiesKeepPromise =
    (name : List ℕ) (old new : Files) (plan : Plan) → VerifiesModule name old (Ok plan) →
    new ≡ after_writes plan.files old → VerifiedModule name old new plan.lines
