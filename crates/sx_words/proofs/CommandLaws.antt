-- Words are read as a command exactly where they spell it, and refused at the first that does not fit.
use Rattle.std.proofs.Common.{◌≡◌, ℕ, ◌+◌, Bool, true, false, cond, List, [], ◌∷◌, ◌++◌, codes, Option, Some, None, Result, Ok, Err, refl, sym, ap, subst, ◌∙◌, inl, inr, arith}
use Rattle.std.specs.Prelude.{map, decimal}
use Rattle.std.specs.Str.{bytes_eq}
use Rattle.std.proofs.lemmas.Slice.Eq.{bytes_eq-Decides}
use Rattle.sx_lines.specs.Words.{is_name}
use Rattle.sx_words.specs.declared.verb.Verb.{Verb}
use Rattle.sx_words.specs.declared.verb.Verb.TheVariants.{Build, Compile, Check, Verify}
use Rattle.sx_words.specs.Commands.{Given, Settings, Meant, samples, verb_word, option_word}
use Rattle.sx_words.specs.Commands.{nothing_said, with_option, with_options, MayStand, meant}
use Rattle.sx_words.specs.Commands.{SpellsNamed, SpellsSample, SpellsCommand}
use Rattle.sx_lines.specs.Words.{count_of}
use Rattle.sx_words.specs.Reading.{next_option, is_option, last_word, then_option}
use Rattle.sx_words.specs.Reading.{after_verb, sample_of, after_sample, verb_of, command_from}
use Rattle.sx_words.specs.Reading.{command_of}
use Rattle.sx_words.proofs.OptionLaws.{count_found, count_again, next_found, next_again, option_begins, name_no_option}

abbrev done : Meant → Result Meant ℕ
done c = Ok c

same_command : (a b : Meant) → done a ≡ done b → a ≡ b
same_command a b e = cc

-- ---- after the verb

-- options and a name
pub record Named (verb : Verb) (place : ℕ) (s : Settings) (words : List (List ℕ)) (c : Meant) : Type 0 where
  pub options : List Given
  pub name : List ℕ
  pub parts : words ≡ map option_word options ++ name ∷ []
  pub stand : MayStand verb place s options
  pub named : is_name false name ≡ true
  pub is : c ≡ meant verb (with_options place s options) name

name_case : (verb : Verb) (place : ℕ) (s : Settings) (word : List ℕ) (c : Meant) (test : Bool) → is_name false word ≡ test → cond test (Ok (meant verb s word)) (Err place) ≡ Ok c → Named verb place s (word ∷ []) c
name_case verb place s word c true is e =
    record { options = []; name = word; parts = refl; stand = tt; named = is; is = sym (same_command (meant verb s word) c e) }
name_case verb place s word c false is e = absurd cc

no_last : (place : ℕ) (c : Meant) (test : Bool) → cond test (Err (place + 1)) (Err place) ≡ done c → ⊥
no_last place c true e = cc
no_last place c false e = cc

last_found : (verb : Verb) (place : ℕ) (s : Settings) (word : List ℕ) (words : List (List ℕ)) (c : Meant) → last_word verb place s word words ≡ Ok c → Named verb place s (word ∷ words) c
unfolding last_word
last_found verb place s word [] c e = name_case verb place s word c (is_name false word) refl e
last_found verb place s word (next ∷ rest) c e = absurd (no_last place c (is_name false word) e)

one_more : (verb : Verb) (place : ℕ) (s : Settings) (word : List ℕ) (words : List (List ℕ)) (c : Meant) (o : Option Given) → next_option verb s word ≡ o
    → ((option : Given) → after_verb verb (place + 1) (with_option place s option) words ≡ Ok c → Named verb (place + 1) (with_option place s option) words c)
    → then_option place o (λ option. after_verb verb (place + 1) (with_option place s option) words) ≡ Ok c → Named verb place s (word ∷ words) c
one_more verb place s word words c None is ih e = absurd cc
one_more verb place s word words c (Some option) is ih e =
    let h = ih option e in
    let n = next_found verb s word option is in
    record {
      options = option ∷ h.options;
      name = h.name;
      parts = ap (λ (x : List ℕ). x ∷ words) n.0 ∙ ap (λ (x : List (List ℕ)). option_word option ∷ x) h.parts;
      stand = (n.2, n.3, n.1, h.stand);
      named = h.named;
      is = h.is;
    }

word_case : (verb : Verb) (place : ℕ) (s : Settings) (word : List ℕ) (words : List (List ℕ)) (c : Meant) (test : Bool)
    → ((option : Given) → after_verb verb (place + 1) (with_option place s option) words ≡ Ok c → Named verb (place + 1) (with_option place s option) words c)
    → cond test (then_option place (next_option verb s word) (λ option. after_verb verb (place + 1) (with_option place s option) words)) (last_word verb place s word words) ≡ Ok c → Named verb place s (word ∷ words) c
word_case verb place s word words c true ih e = one_more verb place s word words c (next_option verb s word) refl ih e
word_case verb place s word words c false ih e = last_found verb place s word words c e

pub verb_found : (verb : Verb) (place : ℕ) (s : Settings) (words : List (List ℕ)) (c : Meant) → after_verb verb place s words ≡ Ok c → Named verb place s words c
unfolding after_verb
verb_found verb place s [] c e = absurd cc
verb_found verb place s (word ∷ words) c e = word_case verb place s word words c (is_option word) (λ option h. verb_found verb (place + 1) (with_option place s option) words c h) e

pub verb_again : (verb : Verb) (place : ℕ) (s : Settings) (options : List Given) (name : List ℕ) → MayStand verb place s options → is_name false name ≡ true
    → after_verb verb place s (map option_word options ++ name ∷ []) ≡ Ok (meant verb (with_options place s options) name)
unfolding after_verb last_word
verb_again verb place s [] name h named = rw (name_no_option name named) (rw named refl)
verb_again verb place s (option ∷ options) name h named =
    rw (option_begins option, next_again verb s option h.2 h.0 h.1) (verb_again verb (place + 1) (with_option place s option) options name h.3 named)

-- ---- commands

verb_of-is : (word : List ℕ) (verb : Verb) → verb_of word ≡ Some verb → word ≡ verb_word verb
unfolding verb_of
verb_of-is word verb e = first_case word verb (bytes_eq word (codes "build")) (bytes_eq word (codes "compile")) (bytes_eq word (codes "check")) (bytes_eq word (codes "verify")) refl refl refl refl e
  where
    equal : (a b : List ℕ) → bytes_eq a b ≡ true → a ≡ b
    equal a b e = (bytes_eq-Decides a b).0 e

    first_case : (word : List ℕ) (verb : Verb) (a b c d : Bool) → bytes_eq word (codes "build") ≡ a → bytes_eq word (codes "compile") ≡ b → bytes_eq word (codes "check") ≡ c → bytes_eq word (codes "verify") ≡ d
        → cond a (Some Build) (cond b (Some Compile) (cond c (Some Check) (cond d (Some Verify) None))) ≡ Some verb → word ≡ verb_word verb
    first_case word verb true b c d ea eb ec ed e = equal word (codes "build") ea ∙ ap verb_word (let same : Build ≡ verb = cc in same)
    first_case word verb false true c d ea eb ec ed e = equal word (codes "compile") eb ∙ ap verb_word (let same : Compile ≡ verb = cc in same)
    first_case word verb false false true d ea eb ec ed e = equal word (codes "check") ec ∙ ap verb_word (let same : Check ≡ verb = cc in same)
    first_case word verb false false false true ea eb ec ed e = equal word (codes "verify") ed ∙ ap verb_word (let same : Verify ≡ verb = cc in same)
    first_case word verb false false false false ea eb ec ed e = absurd cc

verb_of-word : (verb : Verb) → verb_of (verb_word verb) ≡ Some verb
unfolding verb_of
verb_of-word Build = refl
verb_of-word Compile = refl
verb_of-word Check = refl
verb_of-word Verify = refl

sample_found : (words : List (List ℕ)) (c : Meant) → after_sample words ≡ Ok c → SpellsSample (codes "sample" ∷ words) c
unfolding after_sample
sample_found [] c e = absurd cc
sample_found (word ∷ rest) c e = number_case word rest c (count_of 300 word) refl e
  where
    number_case : (word : List ℕ) (rest : List (List ℕ)) (c : Meant) (o : Option ℕ) → count_of 300 word ≡ o → sample_of o rest ≡ Ok c → SpellsSample (codes "sample" ∷ word ∷ rest) c
    number_case word rest c None is e = absurd cc
    number_case word (next ∷ rest) c (Some n) is e = absurd cc
    number_case word [] c (Some n) is e =
        let h = count_found 300 word n (omega arith) is in
        record { number = n; least = h.1; most = h.2; parts = ap (λ (x : List ℕ). codes "sample" ∷ x ∷ []) h.0; is = sym (same_command (samples n) c e) }

from_found : (word : List ℕ) (words : List (List ℕ)) (c : Meant) (o : Option Verb) → verb_of word ≡ o → command_from word o words ≡ Ok c → SpellsCommand (word ∷ words) c
unfolding command_from
from_found word words c (Some verb) is e =
    let h = verb_found verb 2 nothing_said words c e in
    inl
    (record {
      verb = verb;
      options = h.options;
      name = h.name;
      parts = ap (λ (x : List ℕ). x ∷ words) (verb_of-is word verb is) ∙ ap (λ (x : List (List ℕ)). verb_word verb ∷ x) h.parts;
      stand = h.stand;
      named = h.named;
      is = h.is;
    })
from_found word words c None is e = sample_case word words c (bytes_eq word (codes "sample")) refl e
  where
    sample_case : (word : List ℕ) (words : List (List ℕ)) (c : Meant) (test : Bool) → bytes_eq word (codes "sample") ≡ test → cond test (after_sample words) (Err 1) ≡ Ok c → SpellsCommand (word ∷ words) c
    sample_case word words c false is e = absurd cc
    sample_case word words c true is e =
        let same = (bytes_eq-Decides word (codes "sample")).0 is in
        inr (subst (λ (x : List ℕ). SpellsSample (x ∷ words) c) (sym same) (sample_found words c e))

-- what is read is spelled
pub command_found : (words : List (List ℕ)) (c : Meant) → command_of words ≡ Ok c → SpellsCommand words c
unfolding command_of
command_found [] c e = absurd cc
command_found (word ∷ words) c e = from_found word words c (verb_of word) refl e

named_again : (words : List (List ℕ)) (c : Meant) → SpellsNamed words c → command_of words ≡ Ok c
unfolding command_of command_from
named_again words c h =
    let read : command_of (verb_word h.verb ∷ (map option_word h.options ++ h.name ∷ [])) ≡ Ok (meant h.verb (with_options 2 nothing_said h.options) h.name) =
    rw (verb_of-word h.verb) (verb_again h.verb 2 nothing_said h.options h.name h.stand h.named) in
    ap command_of h.parts ∙ read ∙ ap done (sym h.is)

no_verb : verb_of (codes "sample") ≡ None
unfolding verb_of
no_verb = refl

sample_again : (words : List (List ℕ)) (c : Meant) → SpellsSample words c → command_of words ≡ Ok c
unfolding command_of command_from after_sample
sample_again words c h =
    let read : command_of (codes "sample" ∷ decimal h.number ∷ []) ≡ Ok (samples h.number) = rw no_verb (rw (count_again 300 h.number (omega arith) h.least h.most) refl) in
    ap command_of h.parts ∙ read ∙ ap done (sym h.is)

-- what is spelled is read
pub command_again : (words : List (List ℕ)) (c : Meant) → SpellsCommand words c → command_of words ≡ Ok c
command_again words c (inl h) = named_again words c h
command_again words c (inr h) = sample_again words c h

pub one_command : (words : List (List ℕ)) (one other : Meant) → SpellsCommand words one → SpellsCommand words other → one ≡ other
one_command words one other h k = same_command one other (sym (command_again words one h) ∙ command_again words other k)
