-- Reading words from the left.
use Rattle.std.specs.Prelude.{ℕ, ◌+◌, ◌==◌, ◌&&◌, Bool, false, List, [], ◌∷◌, codes, Option, Some}
use Rattle.std.specs.Prelude.{None, is_some, option_map, option_and_then, Result, Ok, Err}
use Rattle.std.specs.Prelude.{if◌then◌else◌}
use Rattle.std.specs.Str.{bytes_eq}
use Rattle.sx_lines.specs.Words.{after, count_of, is_name}
use Rattle.sx_words.specs.declared.verb.Verb.{Verb}
use Rattle.sx_words.specs.declared.verb.Verb.TheVariants.{Build, Compile, Check, Verify}
use Rattle.sx_words.specs.Commands.{Given, core, tries, nodes, audit, Settings, Meant, samples}
use Rattle.sx_words.specs.Commands.{verb_word, colon, takes, is_new}
use Rattle.sx_words.specs.Commands.{nothing_said, with_option, meant}
use Rattle.sx_term.specs.Limits.{most_budget}

-- the first that there is
abbrev pub first_or : {A : Type 0} → Option A → Option A → Option A
first_or (Some x) other = Some x
first_or None other = other

-- the parts of a text before and after its first colon
unfoldable pub at_colon : List ℕ → Option (List ℕ × List ℕ)
at_colon [] = None
at_colon (b ∷ text) = if b == colon then Some ([], text) else option_map (λ p. (b ∷ p.0, p.1))
    (at_colon text)

-- the number that a word gives after this front
unfoldable pub number_after : List ℕ → List ℕ → Option ℕ
number_after front word = option_and_then (count_of most_budget) (after front word)

-- the kind and the setting that a word gives
unfoldable pub audit_after : List ℕ → Option (List ℕ × List ℕ)
audit_after word = option_and_then at_colon (after (codes "--audit=") word)

-- the option that a word spells
unfoldable pub option_of : List ℕ → Option Given
option_of word =
    if bytes_eq word (codes "--core") then Some core
    else first_or (option_map tries (number_after (codes "--tries=") word))
    (first_or (option_map nodes (number_after (codes "--nodes=") word))
    (option_map (λ p. audit p.0 p.1) (audit_after word)))

-- the option that a word spells, where it may stand there
unfoldable pub next_option : Verb → Settings → List ℕ → Option Given
next_option verb s word = option_and_then
    (λ option. if takes verb option && is_new s option then Some option else None)
    (option_of word)

-- the word begins with `--`
unfoldable pub is_option : List ℕ → Bool
is_option word = is_some (after (codes "--") word)

-- the last word
unfoldable pub last_word : Verb → ℕ → Settings → List ℕ → List (List ℕ) → Result Meant ℕ
last_word verb place s word [] = if is_name false word then Ok
    (meant verb s word) else Err place
last_word verb place s word (next ∷ rest) =
    if is_name false word then Err (place + 1) else Err place

-- the option, and what comes after it
abbrev pub then_option : ℕ → Option Given → (Given → Result Meant ℕ) → Result Meant ℕ
then_option place None next = Err place
then_option place (Some option) next = next option

-- options as long as a word begins with `--`, and the last word
unfoldable pub after_verb : Verb → ℕ → Settings → List (List ℕ) → Result Meant ℕ
after_verb verb place s [] = Err place
after_verb verb place s (word ∷ words) =
    if is_option word then then_option place (next_option verb s word)
    (λ option. after_verb verb (place + 1) (with_option place s option) words)
    else last_word verb place s word words

-- the sample of the size, where no word follows it
abbrev pub sample_of : Option ℕ → List (List ℕ) → Result Meant ℕ
sample_of None rest = Err 2
sample_of (Some n) [] = Ok (samples n)
sample_of (Some n) (next ∷ rest) = Err 3

-- the words after `sample`
unfoldable pub after_sample : List (List ℕ) → Result Meant ℕ
after_sample [] = Err 2
after_sample (word ∷ rest) = sample_of (count_of 300 word) rest

-- the command that a word is
unfoldable pub verb_of : List ℕ → Option Verb
verb_of word =
    if bytes_eq word (verb_word Build) then Some Build
    else if bytes_eq word (verb_word Compile) then Some Compile
    else if bytes_eq word (verb_word Check) then Some Check
    else if bytes_eq word (verb_word Verify) then Some Verify
    else None

-- the command that the first word begins, and the words after it
unfoldable pub command_from : List ℕ → Option Verb → List (List ℕ) → Result Meant ℕ
command_from word (Some verb) words = after_verb verb 2 nothing_said words
command_from word None words =
    if bytes_eq word (codes "sample") then after_sample words else Err 1

-- the command that words spell, or the number of the first word that does not fit
unfoldable pub command_of : List (List ℕ) → Result Meant ℕ
command_of [] = Err 1
command_of (word ∷ words) = command_from word (verb_of word) words
