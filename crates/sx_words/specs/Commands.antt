-- Commands and the words that spell them.
use Rattle.std.specs.Prelude.{◌≡◌, ℕ, ◌+◌, ◌≤◌, ◌==◌, ◌&&◌, ◌||◌, Bool, true, false, not, List, []}
use Rattle.std.specs.Prelude.{◌∷◌, ◌++◌, length, map, codes, decimal, Option, Some, None, unwrap_or}
use Rattle.std.specs.Prelude.{is_none, ◌⊎◌}
use Rattle.std.specs.List.{AllByRecursion}
use Rattle.std.specs.Str.{bytes_eq}
use Rattle.sx_lines.specs.Words.{is_name}
use Rattle.sx_words.specs.declared.row.Row.{Row}
use Rattle.sx_words.specs.declared.verb.Verb.{Verb}
use Rattle.sx_words.specs.declared.verb.Verb.TheVariants.{Build, Compile, Check, Verify}
use Rattle.sx_term.specs.Limits.{most_budget}

-- an option
pub data Given : Type 0 where
  core : Given
  tries : ℕ → Given
  nodes : ℕ → Given
  audit : List ℕ → List ℕ → Given

-- an auditor's kind, its setting, and the place of its option among the words
pub record AuditWord : Type 0 where
  pub kind : List ℕ
  pub setting : List ℕ
  pub word : ℕ

-- what the options say
pub record Settings : Type 0 where
  pub core : Bool
  pub tries : Option ℕ
  pub nodes : Option ℕ
  pub audits : List AuditWord

-- a command
pub data Meant : Type 0 where
  builds : Bool → List ℕ → ℕ → ℕ → List AuditWord → Meant
  compiles : List ℕ → ℕ → ℕ → List AuditWord → Meant
  checks : List ℕ → ℕ → ℕ → Meant
  verifies : Bool → List ℕ → Meant
  samples : ℕ → Meant

-- ---- how words are spelled

-- the word of a command that is given a name
abbrev pub verb_word : Verb → List ℕ
verb_word Build = codes "build"
verb_word Compile = codes "compile"
verb_word Check = codes "check"
verb_word Verify = codes "verify"

abbrev pub colon : ℕ
colon = 58

-- the word of an option
abbrev pub option_word : Given → List ℕ
option_word core = codes "--core"
option_word (tries n) = codes "--tries=" ++ decimal n
option_word (nodes n) = codes "--nodes=" ++ decimal n
option_word (audit kind setting) = codes "--audit=" ++ (kind ++ colon ∷ setting)

-- no byte is a colon
abbrev pub NoColon : List ℕ → Type 0
NoColon text = AllByRecursion (λ b. (b == colon) ≡ false) text

-- a number of tries or nodes is from 1 to 1,000,000, and a kind has no colon
abbrev pub IsGiven : Given → Type 0
IsGiven core = Unit {0}
IsGiven (tries n) = (1 ≤ n) × (n ≤ most_budget)
IsGiven (nodes n) = (1 ≤ n) × (n ≤ most_budget)
IsGiven (audit kind setting) = NoColon kind

-- ---- what there is

-- the table of what there is: the options that each command takes
abbrev pub options_of : Verb → Row
options_of Build = record {
  core = true;
  tries = true;
  nodes = true;
  audits = true;
}
options_of Compile = record {
  core = false;
  tries = true;
  nodes = true;
  audits = true;
}
options_of Check = record {
  core = false;
  tries = true;
  nodes = true;
  audits = false;
}
options_of Verify = record {
  core = true;
  tries = false;
  nodes = false;
  audits = false;
}

-- the row has the option
abbrev pub has_option : Row → Given → Bool
has_option r core = r.core
has_option r (tries n) = r.tries
has_option r (nodes n) = r.nodes
has_option r (audit kind setting) = r.audits

-- the command takes the option
abbrev pub takes : Verb → Given → Bool
takes verb option = has_option (options_of verb) option

-- an auditor of the kind is named
abbrev pub has_kind : List AuditWord → List ℕ → Bool
has_kind [] kind = false
has_kind (a ∷ audits) kind = bytes_eq a.kind kind || has_kind audits kind

-- no auditor is named
abbrev pub has_none : List AuditWord → Bool
has_none [] = true
has_none (a ∷ audits) = false

-- An option may stand once, `--audit` once for each kind, and `--core` does not go with `--nodes`
-- and `--audit`.
unfoldable pub is_new : Settings → Given → Bool
is_new s core = not s.core && (is_none s.nodes && has_none s.audits)
is_new s (tries n) = is_none s.tries
is_new s (nodes n) = is_none s.nodes && not s.core
is_new s (audit kind setting) = not s.core && not (has_kind s.audits kind)

-- ---- what options say

-- no option stands
abbrev pub nothing_said : Settings
nothing_said = record { core = false; tries = None; nodes = None; audits = [] }

-- what was said, and one option more at its place among the words
unfoldable pub with_option : ℕ → Settings → Given → Settings
with_option place s core = record {
  core = true;
  tries = s.tries;
  nodes = s.nodes;
  audits = s.audits;
}
with_option place s (tries n) = record {
  core = s.core;
  tries = Some n;
  nodes = s.nodes;
  audits = s.audits;
}
with_option place s (nodes n) = record {
  core = s.core;
  tries = s.tries;
  nodes = Some n;
  audits = s.audits;
}
with_option place s (audit kind setting) = record {
  core = s.core;
  tries = s.tries;
  nodes = s.nodes;
  audits =
      s.audits ++ (record { kind = kind; setting = setting; word = place }) ∷ [];
}

-- what was said, and options more, the first at this place
abbrev pub with_options : ℕ → Settings → List Given → Settings
with_options place s [] = s
with_options place s (option ∷ options) = with_options (place + 1)
    (with_option place s option) options

-- each option is one that the command takes, and may stand after what was said before it
abbrev pub MayStand : Verb → ℕ → Settings → List Given → Type 0
MayStand verb place s [] = Unit {0}
MayStand verb place s (option ∷ options) =
    (takes verb option ≡ true) × (is_new s option ≡ true) × IsGiven option ×
    MayStand verb (place + 1) (with_option place s option) options

-- what is not said of tries and nodes is 1,000,000
abbrev pub or_most : Option ℕ → ℕ
or_most n = unwrap_or n most_budget

-- the command of this name, with what its options say
unfoldable pub meant : Verb → Settings → List ℕ → Meant
meant Build s name = builds s.core name (or_most s.tries) (or_most s.nodes) s.audits
meant Compile s name = compiles name (or_most s.tries) (or_most s.nodes) s.audits
meant Check s name = checks name (or_most s.tries) (or_most s.nodes)
meant Verify s name = verifies s.core name

-- ---- which words spell a command

-- the command, then options, then a name; the first option is word 2
pub record SpellsNamed (words : List (List ℕ)) (command : Meant) : Type 0 where
  pub verb : Verb
  pub options : List Given
  pub name : List ℕ
  pub parts : words ≡ verb_word verb ∷ (map option_word options ++ name ∷ [])
  pub stand : MayStand verb 2 nothing_said options
  pub named : is_name false name ≡ true
  pub is : command ≡ meant verb (with_options 2 nothing_said options) name

-- `sample` and a number from 1 to 300
pub record SpellsSample (words : List (List ℕ)) (command : Meant) : Type 0 where
  pub number : ℕ
  pub least : 1 ≤ number
  pub most : number ≤ 300
  pub parts : words ≡ codes "sample" ∷ decimal number ∷ []
  pub is : command ≡ samples number

-- the words spell the command
abbrev pub SpellsCommand : List (List ℕ) → Meant → Type 0
SpellsCommand words command = SpellsNamed words command ⊎ SpellsSample words command

-- ---- the first word that does not fit

-- with the next word too, or at the end of the words where there is none, the words are those of no
-- command
abbrev pub NoneSpells : List (List ℕ) → List (List ℕ) → Type 0
NoneSpells front [] = (command : Meant) → SpellsCommand front command → ⊥
NoneSpells front (word ∷ rest) = (more : List (List ℕ)) (command : Meant) →
    SpellsCommand (front ++ word ∷ more) command → ⊥

-- The word of this number is the first after which no command can follow, or the number is one more
-- than that of the words where one is missing: the words before it begin those of a command.
pub record IsWordMisfit (words : List (List ℕ)) (number : ℕ) : Type 0 where
  pub front : List (List ℕ)
  pub rest : List (List ℕ)
  pub parts : words ≡ front ++ rest
  pub place : number ≡ length front + 1
  pub more : List (List ℕ)
  pub command : Meant
  pub good : SpellsCommand (front ++ more) command
  pub bad : NoneSpells front rest
