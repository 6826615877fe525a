-- The word at which words are refused is the first that does not fit.
use Rattle.std.proofs.Common.{◌≡◌, ℕ, ◌+◌, Bool, true, false, cond, List, [], ◌∷◌, ◌++◌, length, codes, Option, Some, None, Result, Ok, Err, refl, sym, ap, subst, ◌∙◌, arith}
use Rattle.std.specs.Prelude.{decimal}
use Rattle.std.specs.Str.{bytes_eq}
use Rattle.sx_lines.specs.Words.{is_name}
use Rattle.sx_words.specs.declared.command.Command.{Command}
use Rattle.sx_words.specs.declared.verb.Verb.{Verb}
use Rattle.sx_words.specs.declared.verb.Verb.TheVariants.{Build}
use Rattle.sx_words.specs.declared.words_error.WordsError.{WordsError}
use Rattle.sx_words.specs.declared.words_error.WordsError.TheVariants.{Memory, Words}
use Rattle.sx_lines.specs.Reading.{GivesRead}
use Rattle.sx_words.specs.Commands.{Given, Settings, Meant, samples, nothing_said, with_option}
use Rattle.sx_words.specs.Commands.{meant, SpellsCommand, NoneSpells, IsWordMisfit}
use Rattle.sx_lines.specs.Words.{count_of}
use Rattle.sx_words.specs.Reading.{next_option, is_option, last_word, then_option}
use Rattle.sx_words.specs.Reading.{after_verb, sample_of, after_sample, verb_of, command_from}
use Rattle.sx_words.specs.Reading.{command_of}
use Rattle.sx_words.specs.View.{command_view, RefusesWords, IsCommandAnswer}
use Rattle.sx_words.proofs.OptionLaws.{name_no_option, count_again}
use Rattle.sx_words.proofs.CommandLaws.{command_found, command_again}

-- no words that begin so are read
abbrev NoneRead : (List (List ℕ) → Result Meant ℕ) → List (List ℕ) → List (List ℕ) → Type 0
NoneRead read front [] = (c : Meant) → read front ≡ Ok c → ⊥
NoneRead read front (word ∷ rest) = (more : List (List ℕ)) (c : Meant) → read (front ++ word ∷ more) ≡ Ok c → ⊥

-- refused at this word, and some words with those before it are read
record Stops (read : List (List ℕ) → Result Meant ℕ) (place : ℕ) (words : List (List ℕ)) (n : ℕ) : Type 0 where
  front : List (List ℕ)
  rest : List (List ℕ)
  parts : words ≡ front ++ rest
  at : n ≡ place + length front
  more : List (List ℕ)
  command : Meant
  good : read (front ++ more) ≡ Ok command
  bad : NoneRead read front rest

-- ---- after the verb

some_name : is_name false (codes "A") ≡ true
unfolding is_name
some_name = refl

name_read : (verb : Verb) (place : ℕ) (s : Settings) (name : List ℕ) → is_name false name ≡ true → after_verb verb place s (name ∷ []) ≡ Ok (meant verb s name)
unfolding after_verb last_word
name_read verb place s name h = rw (name_no_option name h) (rw h refl)

-- words that are read
record Read (verb : Verb) (place : ℕ) (s : Settings) : Type 0 where
  more : List (List ℕ)
  command : Meant
  good : after_verb verb place s more ≡ Ok command

some_read : (verb : Verb) (place : ℕ) (s : Settings) → Read verb place s
some_read verb place s = record { more = codes "A" ∷ []; command = meant verb s (codes "A"); good = name_read verb place s (codes "A") some_name }

here : (verb : Verb) (place : ℕ) (s : Settings) (words : List (List ℕ)) (n : ℕ) → n ≡ place → NoneRead (after_verb verb place s) [] words → Stops (after_verb verb place s) place words n
here verb place s words n e bad =
    let some = some_read verb place s in
    record { front = []; rest = words; parts = refl; at = omega (arith, e); more = some.more; command = some.command; good = some.good; bad = bad }

none_there : (verb : Verb) (place : ℕ) (s : Settings) → NoneRead (after_verb verb place s) [] []
unfolding after_verb
none_there verb place s c e = cc

no_option : (verb : Verb) (place : ℕ) (s : Settings) (word : List ℕ) (words : List (List ℕ)) → is_option word ≡ true → next_option verb s word ≡ None → NoneRead (after_verb verb place s) [] (word ∷ words)
unfolding after_verb
no_option verb place s word words test none more c e = let k : ◌≡◌ {A = Result Meant ℕ} (Err place) (Ok c) = (rw (test, none) at e) in cc

last_refused : (verb : Verb) (place : ℕ) (s : Settings) (word : List ℕ) (more : List (List ℕ)) (c : Meant) → is_name false word ≡ false → last_word verb place s word more ≡ Ok c → ⊥
unfolding last_word
last_refused verb place s word [] c h e = let k : ◌≡◌ {A = Result Meant ℕ} (Err place) (Ok c) = (rw h at e) in cc
last_refused verb place s word (next ∷ rest) c h e = let k : ◌≡◌ {A = Result Meant ℕ} (Err place) (Ok c) = (rw h at e) in cc

no_name : (verb : Verb) (place : ℕ) (s : Settings) (word : List ℕ) (words : List (List ℕ)) → is_option word ≡ false → is_name false word ≡ false → NoneRead (after_verb verb place s) [] (word ∷ words)
unfolding after_verb
no_name verb place s word words test h more c e = last_refused verb place s word more c h (rw test at e)

one_too_many : (verb : Verb) (place : ℕ) (s : Settings) (word next : List ℕ) (rest : List (List ℕ)) → is_option word ≡ false → is_name false word ≡ true → NoneRead (after_verb verb place s) (word ∷ []) (next ∷ rest)
unfolding after_verb last_word
one_too_many verb place s word next rest test h more c e = let k : ◌≡◌ {A = Result Meant ℕ} (Err (place + 1)) (Ok c) = (rw (test, h) at e) in cc

name_stops : (verb : Verb) (place : ℕ) (s : Settings) (word : List ℕ) (words : List (List ℕ)) (n : ℕ) (named : Bool) → is_option word ≡ false → is_name false word ≡ named → last_word verb place s word words ≡ Err n → Stops (after_verb verb place s) place (word ∷ words) n
unfolding last_word
name_stops verb place s word [] n true test h e = let k : Ok (meant verb s word) ≡ Err n = (rw h at e) in absurd cc
name_stops verb place s word [] n false test h e = let k : ◌≡◌ {A = Result Meant ℕ} (Err place) (Err n) = (rw h at e) in here verb place s (word ∷ []) n (cc) (no_name verb place s word [] test h)
name_stops verb place s word (next ∷ rest) n false test h e = let k : ◌≡◌ {A = Result Meant ℕ} (Err place) (Err n) = (rw h at e) in here verb place s (word ∷ next ∷ rest) n (cc) (no_name verb place s word (next ∷ rest) test h)
name_stops verb place s word (next ∷ rest) n true test h e =
    let k : ◌≡◌ {A = Result Meant ℕ} (Err (place + 1)) (Err n) = (rw h at e) in
    let same : n ≡ place + 1 = cc in
    record { front = word ∷ []; rest = next ∷ rest; parts = refl; at = same; more = []; command = meant verb s word; good = name_read verb place s word h; bad = one_too_many verb place s word next rest test h }

-- one option more
step : (verb : Verb) (place : ℕ) (s : Settings) (word : List ℕ) (option : Given) (words : List (List ℕ)) → is_option word ≡ true → next_option verb s word ≡ Some option
    → after_verb verb place s (word ∷ words) ≡ after_verb verb (place + 1) (with_option place s option) words
unfolding after_verb
step verb place s word option words test is = rw (test, is) refl

none_step : (verb : Verb) (place : ℕ) (s : Settings) (word : List ℕ) (option : Given) (front rest : List (List ℕ)) → is_option word ≡ true → next_option verb s word ≡ Some option
    → NoneRead (after_verb verb (place + 1) (with_option place s option)) front rest → NoneRead (after_verb verb place s) (word ∷ front) rest
none_step verb place s word option front [] test is h = λ c e. h c (sym (step verb place s word option front test is) ∙ e)
none_step verb place s word option front (next ∷ rest) test is h = λ more c e. h more c (sym (step verb place s word option (front ++ next ∷ more) test is) ∙ e)

option_stops : (verb : Verb) (place : ℕ) (s : Settings) (word : List ℕ) (words : List (List ℕ)) (n : ℕ) (o : Option Given) → is_option word ≡ true → next_option verb s word ≡ o
    → ((option : Given) → after_verb verb (place + 1) (with_option place s option) words ≡ Err n → Stops (after_verb verb (place + 1) (with_option place s option)) (place + 1) words n)
    → then_option place o (λ option. after_verb verb (place + 1) (with_option place s option) words) ≡ Err n → Stops (after_verb verb place s) place (word ∷ words) n
option_stops verb place s word words n None test is ih e = here verb place s (word ∷ words) n (cc) (no_option verb place s word words test is)
option_stops verb place s word words n (Some option) test is ih e =
    let h = ih option e in
    record {
      front = word ∷ h.front;
      rest = h.rest;
      parts = ap (λ (x : List (List ℕ)). word ∷ x) h.parts;
      at = omega (arith, h.at);
      more = h.more;
      command = h.command;
      good = step verb place s word option (h.front ++ h.more) test is ∙ h.good;
      bad = none_step verb place s word option h.front h.rest test is h.bad;
    }

word_stops : (verb : Verb) (place : ℕ) (s : Settings) (word : List ℕ) (words : List (List ℕ)) (n : ℕ) (test : Bool) → is_option word ≡ test
    → ((option : Given) → after_verb verb (place + 1) (with_option place s option) words ≡ Err n → Stops (after_verb verb (place + 1) (with_option place s option)) (place + 1) words n)
    → cond test (then_option place (next_option verb s word) (λ option. after_verb verb (place + 1) (with_option place s option) words)) (last_word verb place s word words) ≡ Err n → Stops (after_verb verb place s) place (word ∷ words) n
word_stops verb place s word words n true test ih e = option_stops verb place s word words n (next_option verb s word) test refl ih e
word_stops verb place s word words n false test ih e = name_stops verb place s word words n (is_name false word) test refl e

verb_stops : (verb : Verb) (place : ℕ) (s : Settings) (words : List (List ℕ)) (n : ℕ) → after_verb verb place s words ≡ Err n → Stops (after_verb verb place s) place words n
unfolding after_verb
verb_stops verb place s [] n e = here verb place s [] n (cc) (none_there verb place s)
verb_stops verb place s (word ∷ words) n e =
    word_stops verb place s word words n (is_option word) refl (λ option h. verb_stops verb (place + 1) (with_option place s option) words n h) e

-- ---- the sample

one_read : after_sample (decimal 1 ∷ []) ≡ Ok (samples 1)
unfolding after_sample
one_read = rw (count_again 300 1 (omega arith) (omega arith) (omega arith)) refl

at_number : (words : List (List ℕ)) (n : ℕ) → n ≡ 2 → NoneRead after_sample [] words → Stops after_sample 2 words n
at_number words n e bad = record { front = []; rest = words; parts = refl; at = omega (arith, e); more = decimal 1 ∷ []; command = samples 1; good = one_read; bad = bad }

no_number : NoneRead after_sample [] []
unfolding after_sample
no_number c e = cc

bad_number : (word : List ℕ) (rest : List (List ℕ)) → count_of 300 word ≡ None → NoneRead after_sample [] (word ∷ rest)
unfolding after_sample
bad_number word rest none more c e = let k : ◌≡◌ {A = Result Meant ℕ} (Err 2) (Ok c) = (rw none at e) in cc

after_number : (word next : List ℕ) (rest : List (List ℕ)) (m : ℕ) → count_of 300 word ≡ Some m → NoneRead after_sample (word ∷ []) (next ∷ rest)
unfolding after_sample
after_number word next rest m is more c e = let k : ◌≡◌ {A = Result Meant ℕ} (Err 3) (Ok c) = (rw is at e) in cc

number_read : (word : List ℕ) (m : ℕ) → count_of 300 word ≡ Some m → after_sample (word ∷ []) ≡ Ok (samples m)
unfolding after_sample
number_read word m is = rw is refl

number_stops : (word : List ℕ) (rest : List (List ℕ)) (n : ℕ) (o : Option ℕ) → count_of 300 word ≡ o → sample_of o rest ≡ Err n → Stops after_sample 2 (word ∷ rest) n
number_stops word rest n None is e = at_number (word ∷ rest) n (cc) (bad_number word rest is)
number_stops word [] n (Some m) is e = absurd cc
number_stops word (next ∷ rest) n (Some m) is e =
    let same : n ≡ 3 = cc in
    record { front = word ∷ []; rest = next ∷ rest; parts = refl; at = same; more = []; command = samples m; good = number_read word m is; bad = after_number word next rest m is }

sample_stops : (words : List (List ℕ)) (n : ℕ) → after_sample words ≡ Err n → Stops after_sample 2 words n
unfolding after_sample
sample_stops [] n e = at_number [] n (cc) no_number
sample_stops (word ∷ rest) n e = number_stops word rest n (count_of 300 word) refl e

-- ---- the command

none_spells : (front rest : List (List ℕ)) → NoneRead command_of front rest → NoneSpells front rest
none_spells front [] h = λ c s. h c (command_again front c s)
none_spells front (word ∷ rest) h = λ more c s. h more c (command_again (front ++ word ∷ more) c s)

misfit : (words : List (List ℕ)) (n : ℕ) → Stops command_of 1 words n → IsWordMisfit words n
misfit words n h = record {
  front = h.front;
  rest = h.rest;
  parts = h.parts;
  place = omega (arith, h.at);
  more = h.more;
  command = h.command;
  good = command_found (h.front ++ h.more) h.command h.good;
  bad = none_spells h.front h.rest h.bad;
}

build_is : verb_of (codes "build") ≡ Some Build
unfolding verb_of
build_is = refl

build_read : command_of (codes "build" ∷ codes "A" ∷ []) ≡ Ok (meant Build nothing_said (codes "A"))
unfolding command_of command_from
build_read = rw build_is (name_read Build 2 nothing_said (codes "A") some_name)

at_first : (words : List (List ℕ)) (n : ℕ) → n ≡ 1 → NoneRead command_of [] words → Stops command_of 1 words n
at_first words n e bad = record {
  front = [];
  rest = words;
  parts = refl;
  at = omega (arith, e);
  more = codes "build" ∷ codes "A" ∷ [];
  command = meant Build nothing_said (codes "A");
  good = build_read;
  bad = bad;
}

-- the words after the first one are read so
none_after : (word : List ℕ) (read : List (List ℕ) → Result Meant ℕ) → ((words : List (List ℕ)) → command_of (word ∷ words) ≡ read words) → (front rest : List (List ℕ)) → NoneRead read front rest → NoneRead command_of (word ∷ front) rest
none_after word read same front [] h = λ c e. h c (sym (same front) ∙ e)
none_after word read same front (next ∷ rest) h = λ more c e. h more c (sym (same (front ++ next ∷ more)) ∙ e)

later : (word : List ℕ) (read : List (List ℕ) → Result Meant ℕ) → ((words : List (List ℕ)) → command_of (word ∷ words) ≡ read words) → (words : List (List ℕ)) (n : ℕ) → Stops read 2 words n → Stops command_of 1 (word ∷ words) n
later word read same words n h = record {
  front = word ∷ h.front;
  rest = h.rest;
  parts = ap (λ (x : List (List ℕ)). word ∷ x) h.parts;
  at = omega (arith, h.at);
  more = h.more;
  command = h.command;
  good = same (h.front ++ h.more) ∙ h.good;
  bad = none_after word read same h.front h.rest h.bad;
}

none_first : NoneRead command_of [] []
unfolding command_of
none_first c e = cc

bad_first : (word : List ℕ) (words : List (List ℕ)) → verb_of word ≡ None → bytes_eq word (codes "sample") ≡ false → NoneRead command_of [] (word ∷ words)
unfolding command_of command_from
bad_first word words none test more c e = let k : ◌≡◌ {A = Result Meant ℕ} (Err 1) (Ok c) = (rw (none, test) at e) in cc

verb_step : (word : List ℕ) (verb : Verb) → verb_of word ≡ Some verb → (words : List (List ℕ)) → command_of (word ∷ words) ≡ after_verb verb 2 nothing_said words
unfolding command_of command_from
verb_step word verb is words = rw is refl

sample_step : (word : List ℕ) → verb_of word ≡ None → bytes_eq word (codes "sample") ≡ true → (words : List (List ℕ)) → command_of (word ∷ words) ≡ after_sample words
unfolding command_of command_from
sample_step word none test words = rw (none, test) refl

first_stops : (word : List ℕ) (words : List (List ℕ)) (n : ℕ) (test : Bool) → verb_of word ≡ None → bytes_eq word (codes "sample") ≡ test → cond test (after_sample words) (Err 1) ≡ Err n → Stops command_of 1 (word ∷ words) n
first_stops word words n false none test e = at_first (word ∷ words) n (cc) (bad_first word words none test)
first_stops word words n true none test e = later word after_sample (sample_step word none test) words n (sample_stops words n e)

from_stops : (word : List ℕ) (words : List (List ℕ)) (n : ℕ) (o : Option Verb) → verb_of word ≡ o → command_from word o words ≡ Err n → Stops command_of 1 (word ∷ words) n
unfolding command_from
from_stops word words n (Some verb) is e =
    later word (after_verb verb 2 nothing_said) (verb_step word verb is) words n (verb_stops verb 2 nothing_said words n e)
from_stops word words n None is e = first_stops word words n (bytes_eq word (codes "sample")) is refl e

command_stops : (words : List (List ℕ)) (n : ℕ) → command_of words ≡ Err n → Stops command_of 1 words n
unfolding command_of
command_stops [] n e = at_first [] n (cc) none_first
command_stops (word ∷ words) n e = from_stops word words n (verb_of word) refl e

-- ---- of a call's result

pub is_answer : (words : List (List ℕ)) (r : Result Command WordsError) → GivesRead command_view RefusesWords r (command_of words) → IsCommandAnswer words r
is_answer words (Ok c) e = command_found words (command_view c) e
is_answer words (Err Memory) e = tt
is_answer words (Err (Words n)) e = misfit words n (command_stops words n e)

pub is_only : (words : List (List ℕ)) (r : Result Command WordsError) (c : Meant) → SpellsCommand words c → GivesRead command_view RefusesWords r (command_of words) → GivesRead command_view RefusesWords r (Ok c)
is_only words r c s e = subst (λ (x : Result Meant ℕ). GivesRead command_view RefusesWords r x) (command_again words c s) e
