-- A word spells one option, and an option is spelled by one word.
use Rattle.std.proofs.Common.{◌≡◌, ℕ, ◌^◌, ◌<◌, ◌≤◌, Bool, true, false, cond, eqb, leb, ◌&&◌, List, [], ◌∷◌, ◌++◌, length, codes, Option, Some, None, refl, ap, subst, ◌∙◌, arith}
use Rattle.std.specs.Prelude.{option_map, option_and_then, decimal}
use Rattle.std.specs.Str.{bytes_eq}
use Rattle.std.specs.List.{list_all}
use Rattle.std.specs.Char.{is_ascii_alphabetic}
use Rattle.std.proofs.lemmas.Bool.{and_parts}
use Rattle.std.proofs.lemmas.Bool.Decides.{nat_tests}
use Rattle.std.proofs.lemmas.Slice.Eq.{bytes_eq-Decides}
use Rattle.sx_lines.specs.Words.{after, is_name, is_name_byte, number_within}
use Rattle.sx_lines.proofs.WordLaws.{after_front, front_of}
use Rattle.sx_lines.proofs.DecimalLaws.{number_again, number_spelled}
use Rattle.sx_words.specs.declared.verb.Verb.{Verb}
use Rattle.sx_words.specs.Commands.{Given, core, tries, nodes, audit, Settings, option_word, colon, NoColon, IsGiven, takes, is_new}
use Rattle.sx_lines.specs.Words.{count_of, positive}
use Rattle.sx_words.specs.Reading.{first_or, at_colon, number_after, audit_after, option_of, next_option, is_option}

and_then_some : {A B : Type 0} (o : Option A) (f : A → Option B) (y : B) → option_and_then f o ≡ Some y → (x : A) × (o ≡ Some x) × (f x ≡ Some y)
and_then_some (Some x) f y e = (x, refl, e)
and_then_some None f y e = absurd cc

map_some : {A B : Type 0} (o : Option A) (f : A → B) (y : B) → option_map f o ≡ Some y → (x : A) × (o ≡ Some x) × (f x ≡ y)
map_some (Some x) f y e = (x, refl, cc)
map_some None f y e = absurd cc

-- ---- numbers

positive_case : (m n : ℕ) (test : Bool) → eqb m 0 ≡ test → cond test None (Some m) ≡ Some n → (m ≡ n) × (1 ≤ n)
positive_case m n true is e = absurd cc
positive_case m n false is e =
    let same : m ≡ n = cc in
    let some : 1 ≤ m = grind (arith, nat_tests) in
    (same, omega (arith, same, some))

pub count_found : (limit : ℕ) (text : List ℕ) (n : ℕ) → limit < 2 ^ 64 → count_of limit text ≡ Some n → (text ≡ decimal n) × (1 ≤ n) × (n ≤ limit)
unfolding count_of
count_found limit text n small e =
    let p = and_then_some (number_within limit text) positive n e in
    let q = positive_case p.0 n (eqb p.0 0) refl p.2 in
    let r = number_spelled limit p.0 text small p.1 in
    (r.0 ∙ ap decimal q.0, q.1, subst (λ (x : ℕ). x ≤ limit) q.0 r.1)

pub count_again : (limit n : ℕ) → limit < 2 ^ 64 → 1 ≤ n → n ≤ limit → count_of limit (decimal n) ≡ Some n
unfolding count_of
count_again limit n small some most =
    let test : eqb n 0 ≡ false = grind (arith, nat_tests) in
    ap (option_and_then positive) (number_again limit n (omega arith) most) ∙ rw test refl

number_after-found : (front word : List ℕ) (n : ℕ) → number_after front word ≡ Some n → (word ≡ front ++ decimal n) × (1 ≤ n) × (n ≤ 1000000)
unfolding number_after
number_after-found front word n e =
    let p = and_then_some (after front word) (count_of 1000000) n e in
    let q = count_found 1000000 p.0 n (omega arith) p.2 in
    (front_of front word p.0 p.1 ∙ ap (λ (x : List ℕ). front ++ x) q.0, q.1, q.2)

number_after-again : (front : List ℕ) (n : ℕ) → 1 ≤ n → n ≤ 1000000 → number_after front (front ++ decimal n) ≡ Some n
unfolding number_after
number_after-again front n some most = ap (option_and_then (count_of 1000000)) (after_front front (decimal n)) ∙ count_again 1000000 n (omega arith) some most

-- ---- kinds and settings

colon_case : (b : ℕ) (text : List ℕ) (p : List ℕ × List ℕ) (test : Bool) → eqb b colon ≡ test
    → ((q : List ℕ × List ℕ) → at_colon text ≡ Some q → (text ≡ q.0 ++ colon ∷ q.1) × NoColon q.0)
    → cond test (Some ([], text)) (option_map (λ q. (b ∷ q.0, q.1)) (at_colon text)) ≡ Some p → (b ∷ text ≡ p.0 ++ colon ∷ p.1) × NoColon p.0
colon_case b text p true is ih e =
    let same : b ≡ colon = grind (arith, nat_tests) in
    let whole : List ℕ × List ℕ = ([], text) in
    let made : whole ≡ p = some_same whole p e in
    subst (λ (x : List ℕ × List ℕ). (b ∷ text ≡ x.0 ++ colon ∷ x.1) × NoColon x.0) made (ap (λ (x : ℕ). x ∷ text) same, tt)
  where
    some_of : (x : List ℕ × List ℕ) → Option (List ℕ × List ℕ)
    some_of x = Some x

    some_same : (x y : List ℕ × List ℕ) → some_of x ≡ some_of y → x ≡ y
    some_same x y e = cc
colon_case b text p false is ih e =
    let m = map_some (at_colon text) (λ (q : List ℕ × List ℕ). (b ∷ q.0, q.1)) p e in
    let h = ih m.0 m.1 in
    subst (λ (x : List ℕ × List ℕ). (b ∷ text ≡ x.0 ++ colon ∷ x.1) × NoColon x.0) m.2 (ap (λ (x : List ℕ). b ∷ x) h.0, (is, h.1))

pub at_colon-found : (text : List ℕ) (p : List ℕ × List ℕ) → at_colon text ≡ Some p → (text ≡ p.0 ++ colon ∷ p.1) × NoColon p.0
unfolding at_colon
at_colon-found [] p e = absurd cc
at_colon-found (b ∷ text) p e = colon_case b text p (eqb b colon) refl (λ q h. at_colon-found text q h) e

pub at_colon-again : (kind setting : List ℕ) → NoColon kind → at_colon (kind ++ colon ∷ setting) ≡ Some (kind, setting)
unfolding at_colon
at_colon-again [] setting h = refl
at_colon-again (b ∷ kind) setting h = rw (h.0, at_colon-again kind setting h.1) refl

audit_after-found : (word : List ℕ) (p : List ℕ × List ℕ) → audit_after word ≡ Some p → (word ≡ codes "--audit=" ++ (p.0 ++ colon ∷ p.1)) × NoColon p.0
unfolding audit_after
audit_after-found word p e =
    let q = and_then_some (after (codes "--audit=") word) at_colon p e in
    let r = at_colon-found q.0 p q.2 in
    (front_of (codes "--audit=") word q.0 q.1 ∙ ap (λ (x : List ℕ). codes "--audit=" ++ x) r.0, r.1)

audit_after-again : (kind setting : List ℕ) → NoColon kind → audit_after (codes "--audit=" ++ (kind ++ colon ∷ setting)) ≡ Some (kind, setting)
unfolding audit_after
audit_after-again kind setting h = ap (option_and_then at_colon) (after_front (codes "--audit=") (kind ++ colon ∷ setting)) ∙ at_colon-again kind setting h

-- ---- options

nodes_no_tries : (text : List ℕ) → number_after (codes "--tries=") (codes "--nodes=" ++ text) ≡ None
unfolding number_after after
nodes_no_tries text = refl

audit_no_tries : (text : List ℕ) → number_after (codes "--tries=") (codes "--audit=" ++ text) ≡ None
unfolding number_after after
audit_no_tries text = refl

audit_no_nodes : (text : List ℕ) → number_after (codes "--nodes=") (codes "--audit=" ++ text) ≡ None
unfolding number_after after
audit_no_nodes text = refl

pub option_again : (option : Given) → IsGiven option → option_of (option_word option) ≡ Some option
unfolding option_of
option_again core h = refl
option_again (tries n) h = rw (number_after-again (codes "--tries=") n h.0 h.1) refl
option_again (nodes n) h = rw (nodes_no_tries (decimal n), number_after-again (codes "--nodes=") n h.0 h.1) refl
option_again (audit kind setting) h = rw (audit_no_tries (kind ++ colon ∷ setting), audit_no_nodes (kind ++ colon ∷ setting), audit_after-again kind setting h) refl

abbrev IsSpelled : List ℕ → Given → Type 0
IsSpelled word option = (word ≡ option_word option) × IsGiven option

audit_case : (word : List ℕ) (option : Given) (o : Option (List ℕ × List ℕ)) → audit_after word ≡ o → option_map (λ p. audit p.0 p.1) o ≡ Some option → IsSpelled word option
audit_case word option None is e = absurd cc
audit_case word option (Some p) is e =
    let same : audit p.0 p.1 ≡ option = cc in
    subst (λ (x : Given). IsSpelled word x) same (audit_after-found word p is)

nodes_case : (word : List ℕ) (option : Given) (o : Option ℕ) → number_after (codes "--nodes=") word ≡ o → first_or (option_map nodes o) (option_map (λ p. audit p.0 p.1) (audit_after word)) ≡ Some option → IsSpelled word option
nodes_case word option None is e = audit_case word option (audit_after word) refl e
nodes_case word option (Some n) is e =
    let same : nodes n ≡ option = cc in
    let h = number_after-found (codes "--nodes=") word n is in
    subst (λ (x : Given). IsSpelled word x) same (h.0, (h.1, h.2))

tries_case : (word : List ℕ) (option : Given) (o : Option ℕ) → number_after (codes "--tries=") word ≡ o
    → first_or (option_map tries o) (first_or (option_map nodes (number_after (codes "--nodes=") word)) (option_map (λ p. audit p.0 p.1) (audit_after word))) ≡ Some option → IsSpelled word option
tries_case word option None is e = nodes_case word option (number_after (codes "--nodes=") word) refl e
tries_case word option (Some n) is e =
    let same : tries n ≡ option = cc in
    let h = number_after-found (codes "--tries=") word n is in
    subst (λ (x : Given). IsSpelled word x) same (h.0, (h.1, h.2))

core_case : (word : List ℕ) (option : Given) (test : Bool) → bytes_eq word (codes "--core") ≡ test
    → cond test (Some core) (first_or (option_map tries (number_after (codes "--tries=") word)) (first_or (option_map nodes (number_after (codes "--nodes=") word)) (option_map (λ p. audit p.0 p.1) (audit_after word)))) ≡ Some option → IsSpelled word option
core_case word option false is e = tries_case word option (number_after (codes "--tries=") word) refl e
core_case word option true is e =
    let same : core ≡ option = cc in
    subst (λ (x : Given). IsSpelled word x) same ((bytes_eq-Decides word (codes "--core")).0 is, tt)

pub option_found : (word : List ℕ) (option : Given) → option_of word ≡ Some option → (word ≡ option_word option) × IsGiven option
unfolding option_of
option_found word option e = core_case word option (bytes_eq word (codes "--core")) refl e

-- ---- an option where it may stand

stand_case : (verb : Verb) (s : Settings) (x option : Given) (test : Bool) → takes verb x && is_new s x ≡ test → cond test (Some x) None ≡ Some option → (x ≡ option) × (takes verb x && is_new s x ≡ true)
stand_case verb s x option true is e = (cc, is)
stand_case verb s x option false is e = absurd cc

pub next_found : (verb : Verb) (s : Settings) (word : List ℕ) (option : Given) → next_option verb s word ≡ Some option → (word ≡ option_word option) × IsGiven option × (takes verb option ≡ true) × (is_new s option ≡ true)
unfolding next_option
next_found verb s word option e =
    let p = and_then_some (option_of word) (λ (x : Given). cond (takes verb x && is_new s x) (Some x) None) option e in
    let q = stand_case verb s p.0 option (takes verb p.0 && is_new s p.0) refl p.2 in
    let h = option_found word p.0 p.1 in
    let t = and_parts (takes verb p.0) (is_new s p.0) q.1 in
    subst (λ (x : Given). (word ≡ option_word x) × IsGiven x × (takes verb x ≡ true) × (is_new s x ≡ true)) q.0 (h.0, h.1, t.0, t.1)

pub next_again : (verb : Verb) (s : Settings) (option : Given) → IsGiven option → takes verb option ≡ true → is_new s option ≡ true → next_option verb s (option_word option) ≡ Some option
unfolding next_option
next_again verb s option h t new = rw (option_again option h) (rw (t, new) refl)

-- ---- names are no options

pub option_begins : (option : Given) → is_option (option_word option) ≡ true
unfolding is_option after
option_begins core = refl
option_begins (tries n) = refl
option_begins (nodes n) = refl
option_begins (audit kind setting) = refl

letter_case : (c : ℕ) → is_ascii_alphabetic c ≡ true → eqb c 45 ≡ false
letter_case c e = grind (arith, nat_tests)

pub name_no_option : (name : List ℕ) → is_name false name ≡ true → is_option name ≡ false
unfolding is_option after is_name
name_no_option [] h = absurd cc
name_no_option (c ∷ cs) h =
    let p = and_parts (is_ascii_alphabetic c && leb (length cs) 63) (list_all (is_name_byte false) cs) h in
    let q = and_parts (is_ascii_alphabetic c) (leb (length cs) 63) p.0 in
    rw (letter_case c q.0) refl
