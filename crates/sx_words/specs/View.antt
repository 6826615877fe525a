-- Commands, options and errors as plain data.
use Rattle.std.specs.Prelude.{◌≡◌, ℕ, List, map, Option, Some, None, Result, Ok, Err}
use Rattle.std.specs.Borrow.{Bor}
use Rattle.std.specs.List.{list_any}
use Rattle.std.specs.Str.{bytes_eq}
use Rattle.sx_words.specs.declared.audit.Audit.{Audit}
use Rattle.sx_words.specs.declared.command.Command.{Command}
use Rattle.sx_words.specs.declared.command.Command.TheVariants as command
use Rattle.sx_words.specs.declared.options.Options.{Options}
use Rattle.sx_words.specs.declared.given.Given as declared
use Rattle.sx_words.specs.declared.given.Given.TheVariants as given
use Rattle.sx_words.specs.declared.words_error.WordsError.{WordsError}
use Rattle.sx_words.specs.declared.words_error.WordsError.TheVariants.{Memory, Words}
use Rattle.sx_words.specs.Commands.{Given, core, tries, nodes, audit, AuditWord, Settings, Meant}
use Rattle.sx_words.specs.Commands.{builds, compiles, checks, verifies, samples, SpellsCommand}
use Rattle.sx_words.specs.Commands.{IsWordMisfit, has_kind}

-- an option that names an auditor, without where it lies in memory
abbrev pub audit_view : Audit → AuditWord
audit_view a = record { kind = a.kind; setting = a.setting; word = a.word }

-- a command without where it lies in memory
abbrev pub command_view : Command → Meant
command_view (command.Build of_core name most_tries most_nodes audits) =
    builds of_core name most_tries most_nodes (map audit_view audits.items)
command_view (command.Compile name most_tries most_nodes audits) =
    compiles name most_tries most_nodes (map audit_view audits.items)
command_view (command.Check name most_tries most_nodes) = checks name most_tries most_nodes
command_view (command.Verify of_core name) = verifies of_core name
command_view (command.Sample n) = samples n

-- what the options say, without where it lies in memory
abbrev pub settings_view : Options → Settings
settings_view o = record {
  core = o.core;
  tries = o.tries;
  nodes = o.nodes;
  audits = map audit_view o.audits.items;
}

-- the kinds that are found are those of the auditors
abbrev pub HasKinds : Options → Type 0
HasKinds o = (kind : List ℕ) → list_any (λ k. bytes_eq kind k.items) o.kinds.keys
    ≡ has_kind (map audit_view o.audits.items) kind

-- an option, without where it lies in memory
abbrev pub given_view : declared.Given → Given
given_view given.Core = core
given_view (given.Tries n) = tries n
given_view (given.Nodes n) = nodes n
given_view (given.Audit kind setting) = audit kind.now setting.now

-- an error where memory runs out, or at the word that reading refuses
abbrev pub RefusesWords : {Y : Type 0} → WordsError → Result Y ℕ → Type 0
RefusesWords Memory read = Unit {0}
RefusesWords (Words n) read = read ≡ Err n

-- the command that the words spell, or the first word that does not fit
abbrev pub IsCommandAnswer : List (List ℕ) → Result Command WordsError → Type 0
IsCommandAnswer words (Ok c) = SpellsCommand words (command_view c)
IsCommandAnswer words (Err Memory) = Unit {0}
IsCommandAnswer words (Err (Words n)) = IsWordMisfit words n

-- two texts, without where they lie in memory
abbrev pub pair_view : Bor (List ℕ) × Bor (List ℕ) → List ℕ × List ℕ
pair_view p = (p.0.now, p.1.now)

-- the place that an error names
abbrev pub place_of : WordsError → Option ℕ
place_of Memory = None
place_of (Words n) = Some n
