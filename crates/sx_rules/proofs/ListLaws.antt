-- What is read is the list that was written, and the other way round.
use Rattle.std.proofs.Common.{◌≡◌, ◌≢◌, ℕ, zero, suc, ◌+◌, ◌^◌, ◌<◌, Bool, true, false, cond, List, [], ◌∷◌, ◌++◌, length, get_or, map, codes, Option, Some, None, Result, Ok, Err, refl, sym, ap, subst, ◌∙◌, add-one, lit<, inl, inr, ◌⊎◌, arith}
use Rattle.std.specs.Prelude.{slice_get, option_map, option_and_then, MatchOption, IfOk, IfErr}
use Rattle.std.specs.Prelude.{IfSome}
use Rattle.std.proofs.lemmas.Option.{slice_get_within, get_or_from_slice_get}
use Rattle.std.specs.Global.{Vec}
use Rattle.std.specs.List.{AllByRecursion}
use Rattle.std.specs.Str.{bytes_eq}
use Rattle.std.specs.Fmt.{decimal}
use Rattle.std.proofs.lemmas.Slice.Eq.{bytes_eq-Decides}
use Rattle.std.proofs.lemmas.List.{append-nil}
use Rattle.sx_lines.specs.Lines.{Lines, lines_from, line_texts, IsLineText}
use Rattle.sx_lines.specs.Words.{after, number_within, is_name}
use Rattle.sx_lines.specs.Reading.{◌>>=◌, the_line, each_line, written, GivesRead}
use Rattle.sx_rules.specs.BadLine.{NoneStates, IsFirstMisread}
use Rattle.sx_lines.proofs.WordLaws.{after_front, front_of, not_after}
use Rattle.sx_lines.proofs.DecimalLaws.{number_again, number_spelled}
use Rattle.sx_lines.proofs.TextLaws.{IsPlain, IsPlain-append, plain_text, plain_decimal, plain_from_test, NoBlank, name_no_blank, no_blank_plain, lines_written}
use Rattle.sx_lines.proofs.ReadLaws.{Numbered, the_line-read, the_line-refused, the_line-again, NotNext, EachReads, EachRefused, EachGives, each_line-gives, each_line-again}
use Rattle.sx_rules.specs.declared.entry.Entry.{Entry}
use Rattle.sx_rules.specs.declared.entry.Entry.TheVariants.{Rule, Given}
use Rattle.sx_rules.specs.declared.list_error.ListError.{ListError}
use Rattle.sx_rules.specs.declared.list_error.ListError.TheVariants.{Memory, BadList}
use Rattle.sx_rules.specs.ListRead.{refusal, RefusesList}
use Rattle.sx_rules.specs.Good.{IsAmong}
use Rattle.sx_rules.specs.RuleNames.{place_from, AreNamesDistinct, AreNames}
use Rattle.sx_rules.specs.ListText.{entry_line, list_lines, IsEntry, StatesList, before}
use Rattle.sx_rules.specs.ListText.{given_number, given_or, entry_of, list_of}

-- the names of the rules of a set
pub record AreRuleNames (names : List (List ℕ)) : Type 0 where
  pub named : AreNames names
  pub distinct : AreNamesDistinct names

-- ---- a rule's place

bytes_same : (a b : List ℕ) → bytes_eq a b ≡ true → a ≡ b
bytes_same a b e = (bytes_eq-Decides a b).0 e

bytes_refl : (a : List ℕ) → bytes_eq a a ≡ true
bytes_refl a = (bytes_eq-Decides a a).1 refl

bytes_differ : (a b : List ℕ) (test : Bool) → bytes_eq a b ≡ test → a ≢ b → test ≡ false
bytes_differ a b true e ne = absurd (ne (bytes_same a b e))
bytes_differ a b false e ne = refl

place_case : (from r : ℕ) (x name : List ℕ) (more : Option ℕ) (test : Bool) → bytes_eq x name ≡ test → cond test (Some from) more ≡ Some r → ((x ≡ name) × (from ≡ r)) ⊎ (more ≡ Some r)
place_case from r x name more true e h = inl (bytes_same x name e, cc)
place_case from r x name more false e h = inr h

-- the place is that of the name
pub place_found : (from r : ℕ) (names : List (List ℕ)) (name : List ℕ) → place_from from names name ≡ Some r → (i : ℕ) × (r ≡ from + i) × (i < length names) × (get_or names i [] ≡ name)
unfolding place_from
place_found from r [] name e = absurd cc
place_found from r (x ∷ names) name e = found_case (place_case from r x name (place_from (from + 1) names name) (bytes_eq x name) refl e) (place_found (from + 1) r names name)
  where
    found_case : ((x ≡ name) × (from ≡ r)) ⊎ (place_from (from + 1) names name ≡ Some r) → (place_from (from + 1) names name ≡ Some r → (i : ℕ) × (r ≡ from + 1 + i) × (i < length names) × (get_or names i [] ≡ name))
        → (i : ℕ) × (r ≡ from + i) × (i < length (x ∷ names)) × (get_or (x ∷ names) i [] ≡ name)
    found_case (inl h) ih = (0, omega (arith, h.1), omega arith, h.0)
    found_case (inr h) ih = let p = ih h in (suc p.0, omega (arith, p.1), omega (arith, p.2), p.3)

all_at : (P : List ℕ → Type 0) (names : List (List ℕ)) (i : ℕ) → AllByRecursion P names → i < length names → P (get_or names i [])
all_at P [] i h lt = absurd (omega arith)
all_at P (x ∷ names) zero h lt = h.0
all_at P (x ∷ names) (suc i) h lt = all_at P names i h.1 (omega arith)

-- a name is found at its own place
pub place_again : (from i : ℕ) (names : List (List ℕ)) → AreNamesDistinct names → i < length names → place_from from names (get_or names i []) ≡ Some (from + i)
unfolding place_from
place_again from i [] h lt = absurd (omega arith)
place_again from zero (x ∷ names) h lt = rw (bytes_refl x) (ap (λ (n : ℕ). Some n) (omega arith))
place_again from (suc i) (x ∷ names) h lt =
    let other : x ≢ get_or names i [] = all_at (λ y. x ≢ y) names i h.0 (omega arith) in
    let test = bytes_differ x (get_or names i []) (bytes_eq x (get_or names i [])) refl other in
    rw test (place_again (from + 1) i names h.1 (omega arith) ∙ ap (λ (n : ℕ). Some n) (omega arith))

-- a name that is not there has no place
place_none : (from : ℕ) (names : List (List ℕ)) (name : List ℕ) → (IsAmong name names → ⊥) → place_from from names name ≡ None
unfolding place_from
place_none from [] name h = refl
place_none from (x ∷ names) name h =
    let test = bytes_differ x name (bytes_eq x name) refl (λ e. h (inl e)) in
    rw test (place_none (from + 1) names name (λ k. h (inr k)))

-- where names are distinct, the number of a name is its place
pub place_is : (names : List (List ℕ)) (name : List ℕ) (r : Option ℕ) → AreNamesDistinct names → MatchOption r (IsAmong name names → ⊥) (λ n. slice_get names n ≡ Some name) → r ≡ place_from 0 names name
place_is names name None d h = sym (place_none 0 names name h)
place_is names name (Some n) d h =
    let inside = slice_get_within names n name h in
    let at : get_or names n [] ≡ name = get_or_from_slice_get names n name [] h in
    sym (ap (place_from 0 names) (sym at) ∙ place_again 0 n names d inside ∙ ap (λ (i : ℕ). Some i) (omega arith))

-- ---- an entry

and_then_some : {A B : Type 0} (o : Option A) (f : A → Option B) (y : B) → option_and_then f o ≡ Some y → (x : A) × (o ≡ Some x) × (f x ≡ Some y)
and_then_some (Some x) f y e = (x, refl, e)
and_then_some None f y e = absurd cc

before_some : (n m : ℕ) → before n ≡ Some m → n ≡ m + 1
before_some zero m e = absurd cc
before_some (suc n) m e = let same : n ≡ m = cc in omega arith

before_more : (n : ℕ) → before (n + 1) ≡ Some n
before_more n = rw add-one refl

given_found : (text : List ℕ) (n : ℕ) → given_number text ≡ Some n → (text ≡ codes "given " ++ decimal (n + 1)) × (n < 2 ^ 32)
unfolding given_number
given_found text n e =
    let p = and_then_some (after (codes "given ") text) (λ digits. option_and_then before (number_within (2 ^ 32) digits)) n e in
    let q = and_then_some (number_within (2 ^ 32) p.0) before n p.2 in
    let front = front_of (codes "given ") text p.0 p.1 in
    let spelled = number_spelled (2 ^ 32) q.0 p.0 (lit< tt) q.1 in
    let more = before_some q.0 n q.2 in
    (front ∙ ap (λ (x : List ℕ). codes "given " ++ x) spelled.0 ∙ ap (λ (x : ℕ). codes "given " ++ decimal x) more, omega (arith, spelled.1, more))

given_again : (n : ℕ) → n < 2 ^ 32 → given_number (codes "given " ++ decimal (n + 1)) ≡ Some n
unfolding given_number
given_again n lt =
    let e = after_front (codes "given ") (decimal (n + 1)) in
    let k = number_again (2 ^ 32) (n + 1) (omega arith) (omega arith) in
    ap (option_and_then (λ digits. option_and_then before (number_within (2 ^ 32) digits))) e ∙ ap (option_and_then before) k ∙ before_more n

not_given : (text : List ℕ) → NoBlank text → given_number text ≡ None
unfolding given_number
not_given text h =
    let none = not_after (codes "given ") text (λ rest e. let k = subst (λ (x : List ℕ). NoBlank x) e h in absurd (omega (arith, k.1.1.1.1.1.0))) in
    ap (option_and_then (λ digits. option_and_then before (number_within (2 ^ 32) digits))) none

rule_found : (names : List (List ℕ)) (text : List ℕ) (o : Option ℕ) (e : Entry) → place_from 0 names text ≡ o → option_map Rule o ≡ Some e → (text ≡ entry_line names e) × IsEntry names e
rule_found names text (Some r) e is h =
    let p = place_found 0 r names text is in
    let r-is : p.0 ≡ r = omega (arith, p.1) in
    let same : Rule r ≡ e = cc in
    subst (λ (x : Entry). (text ≡ entry_line names x) × IsEntry names x) same
    (sym p.3 ∙ ap (λ (i : ℕ). get_or names i []) r-is, omega (arith, p.2, r-is))
rule_found names text None e is h = absurd cc

entry_case : (names : List (List ℕ)) (text : List ℕ) (o : Option ℕ) (e : Entry) → given_number text ≡ o → given_or o (place_from 0 names text) ≡ Some e → (text ≡ entry_line names e) × IsEntry names e
entry_case names text (Some n) e is h =
    let same : Given n ≡ e = cc in
    subst (λ (x : Entry). (text ≡ entry_line names x) × IsEntry names x) same (given_found text n is)
entry_case names text None e is h = rule_found names text (place_from 0 names text) e refl h

-- a line that names an entry is the entry's line
pub entry_found : (names : List (List ℕ)) (text : List ℕ) (e : Entry) → entry_of names text ≡ Some e → (text ≡ entry_line names e) × IsEntry names e
unfolding entry_of
entry_found names text e h = entry_case names text (given_number text) e refl h

named_at : (names : List (List ℕ)) (i : ℕ) → AreRuleNames names → i < length names → is_name true (get_or names i []) ≡ true
named_at names i h lt = all_at (λ name. is_name true name ≡ true) names i h.named lt

-- an entry's line names it
pub entry_again : (names : List (List ℕ)) (e : Entry) → AreRuleNames names → IsEntry names e → entry_of names (entry_line names e) ≡ Some e
unfolding entry_of
entry_again names (Rule r) h lt =
    let none = not_given (get_or names r []) (name_no_blank true (get_or names r []) (named_at names r h lt)) in
    ap (λ (o : Option ℕ). given_or o (place_from 0 names (get_or names r []))) none ∙ ap (option_map Rule) (place_again 0 r names h.distinct lt) ∙ ap (λ (n : ℕ). Some (Rule n)) (omega arith)
entry_again names (Given n) h lt = ap (λ (o : Option ℕ). given_or o (place_from 0 names (codes "given " ++ decimal (n + 1)))) (given_again n lt)

-- ---- the list

reads_found : (names : List (List ℕ)) (lines : List (List ℕ)) (list : List Entry) → EachReads (entry_of names) lines list → (lines ≡ map (entry_line names) list) × AllByRecursion (IsEntry names) list
reads_found names [] [] h = (refl, tt)
reads_found names [] (e ∷ list) h = absurd h
reads_found names (text ∷ lines) [] h = absurd h
reads_found names (text ∷ lines) (e ∷ list) h =
    let p = entry_found names text e h.0 in
    let q = reads_found names lines list h.1 in
    (ap (λ (x : List ℕ). x ∷ lines) p.0 ∙ ap (λ (x : List (List ℕ)). entry_line names e ∷ x) q.0, (p.1, q.1))

reads_again : (names : List (List ℕ)) (list : List Entry) → AreRuleNames names → AllByRecursion (IsEntry names) list → EachReads (entry_of names) (map (entry_line names) list) list
reads_again names [] h k = tt
reads_again names (e ∷ list) h k = (entry_again names e h k.0, reads_again names list h k.1)

bind_ok : {A B : Type 0} (r : Result A ℕ) (f : A → Result B ℕ) (y : B) → (r >>= f) ≡ Ok y → (x : A) × (r ≡ Ok x) × (f x ≡ Ok y)
bind_ok (Ok x) f y e = (x, refl, e)
bind_ok (Err n) f y e = absurd cc

-- the first step that was refused
bind_err : {A B : Type 0} (r : Result A ℕ) (f : A → Result B ℕ) (k : ℕ) → (r >>= f) ≡ Err k → (r ≡ Err k) ⊎ ((x : A) × (r ≡ Ok x) × (f x ≡ Err k))
bind_err (Ok x) f k e = inr (x, refl, e)
bind_err (Err n) f k e = inl (let same : n ≡ k = cc in ap (λ (x : ℕ). Err x) same)

each_ok : {A : Type 0} (read : List ℕ → Option A) (lines : List (List ℕ)) (n : ℕ) (r : Result (List A) ℕ) (xs : List A) → EachGives read lines n r → r ≡ Ok xs → EachReads read lines xs
each_ok {A} read lines n r xs h e = subst (λ (x : Result (List A) ℕ). EachGives read lines n x) e h

each_err : {A : Type 0} (read : List ℕ → Option A) (lines : List (List ℕ)) (n : ℕ) (r : Result (List A) ℕ) (k : ℕ) → EachGives read lines n r → r ≡ Err k → EachRefused read lines n k
each_err {A} read lines n r k h e = subst (λ (x : Result (List A) ℕ). EachGives read lines n x) e h

-- what was read is stated
pub list_stated : (names : List (List ℕ)) (lines : Lines) (list : List Entry) → Numbered 1 lines → list_of names lines ≡ Ok list → StatesList names (line_texts lines) list
unfolding list_of
list_stated names lines list h e =
    let p = bind_ok (the_line (codes "sxder 1") lines) (λ entries. each_line (entry_of names) entries) list e in
    let first = the_line-read (codes "sxder 1") lines p.0 1 h p.1 in
    let q = reads_found names (line_texts p.0) list (each_ok (entry_of names) (line_texts p.0) 1 _ list (each_line-gives (entry_of names) p.0 1 first.1) p.2) in
    record { spelled = first.0 ∙ ap (λ (x : List (List ℕ)). codes "sxder 1" ∷ x) q.0; entries = q.1 }

-- what is stated is read
pub list_again : (names : List (List ℕ)) (lines : Lines) (list : List Entry) → AreRuleNames names → StatesList names (line_texts lines) list → list_of names lines ≡ Ok list
unfolding list_of
list_again names lines list h s =
    let p = the_line-again (codes "sxder 1") lines (map (entry_line names) list) s.spelled in
    let again = reads_again names list h s.entries in
    let k = each_line-again (entry_of names) p.0 list (subst (λ (x : List (List ℕ)). EachReads (entry_of names) x list) (sym p.2) again) in
    rw p.1 k

no_head : (names : List (List ℕ)) (list : List Entry) → [] ≡ list_lines names list → ⊥
no_head names list e = cc

head_is : (names : List (List ℕ)) (text : List ℕ) (more : List (List ℕ)) (list : List Entry) → text ∷ more ≡ list_lines names list → text ≡ codes "sxder 1"
head_is names text more list e = cc

-- the first line is not the stated one
head_bad : (names : List (List ℕ)) (lines : List (List ℕ)) → NotNext (codes "sxder 1") lines → NoneStates (StatesList names) [] lines
head_bad names [] ne = λ list s. absurd (no_head names list s.spelled)
head_bad names (text ∷ rest) ne = λ more list s. ne (head_is names text more list s.spelled)

push_front : (names : List (List ℕ)) (front : List (List ℕ)) (items : List Entry) → EachReads (entry_of names) front items → StatesList names (codes "sxder 1" ∷ front ++ []) items
push_front names front items h =
    let p = reads_found names front items h in
    record { spelled = ap (λ (x : List (List ℕ)). codes "sxder 1" ∷ x) (append-nil front ∙ p.0); entries = p.1 }

-- an entry among the lines of a list can be read
entry_among : (names : List (List ℕ)) (front : List (List ℕ)) (text : List ℕ) (more : List (List ℕ)) (list : List Entry) → AreRuleNames names → AllByRecursion (IsEntry names) list
    → front ++ text ∷ more ≡ map (entry_line names) list → entry_of names text ≡ None → ⊥
entry_among names [] text more [] h k e none = absurd cc
entry_among names [] text more (x ∷ list) h k e none =
    let same : text ≡ entry_line names x = cc in
    let again = ap (entry_of names) same ∙ entry_again names x h k.0 in
    absurd cc
entry_among names (y ∷ front) text more [] h k e none = absurd cc
entry_among names (y ∷ front) text more (x ∷ list) h k e none =
    let rest : front ++ text ∷ more ≡ map (entry_line names) list = cc in
    entry_among names front text more list h k.1 rest none

entry_bad : (names : List (List ℕ)) (front : List (List ℕ)) (text : List ℕ) (rest : List (List ℕ)) → AreRuleNames names → entry_of names text ≡ None → NoneStates (StatesList names) (codes "sxder 1" ∷ front) (text ∷ rest)
entry_bad names front text rest h none more list s =
    let e = s.spelled in
    let inner : front ++ text ∷ more ≡ map (entry_line names) list = cc in
    entry_among names front text more list h s.entries inner none

no_entries : (names : List (List ℕ)) → StatesList names (codes "sxder 1" ∷ []) []
no_entries names = record { spelled = refl; entries = tt }

-- the refusal is at the first line that is not as defined
pub list_refused : (names : List (List ℕ)) (lines : Lines) (k : ℕ) → AreRuleNames names → Numbered 1 lines → list_of names lines ≡ Err k → IsFirstMisread (StatesList names) (line_texts lines) k
unfolding list_of
list_refused names lines k h n e =
    elim (bind_err (the_line (codes "sxder 1") lines) (λ entries. each_line (entry_of names) entries) k e) [
      | inl first ↦
          let p = the_line-refused (codes "sxder 1") lines 1 k n first in
          record { front = []; rest = line_texts lines; parts = refl; place = p.0; more = codes "sxder 1" ∷ []; value = []; good = no_entries names; bad = head_bad names (line_texts lines) p.1 }
      | inr later ↦
          let first = the_line-read (codes "sxder 1") lines later.0 1 n later.1 in
          let r = each_err (entry_of names) (line_texts later.0) 1 _ k (each_line-gives (entry_of names) later.0 1 first.1) later.2 in
          record {
            front = codes "sxder 1" ∷ r.front;
            rest = r.text ∷ r.rest;
            parts = first.0 ∙ ap (λ (x : List (List ℕ)). codes "sxder 1" ∷ x) r.parts;
            place = omega (arith, r.place);
            more = [];
            value = r.items;
            good = push_front names r.front r.items r.good;
            bad = entry_bad names r.front r.text r.rest h r.bad;
          }
    ]

-- ---- the round trip

entry_plain : (names : List (List ℕ)) (e : Entry) → AreRuleNames names → IsEntry names e → IsPlain (entry_line names e)
entry_plain names (Rule r) h lt = no_blank_plain (get_or names r []) (name_no_blank true (get_or names r []) (named_at names r h lt))
entry_plain names (Given n) h lt = IsPlain-append (codes "given ") (decimal (n + 1)) (plain_from_test (codes "given ") refl) (plain_decimal (n + 1) (omega arith))

lines_plain : (names : List (List ℕ)) (list : List Entry) → AreRuleNames names → AllByRecursion (IsEntry names) list → AllByRecursion IsLineText (map (entry_line names) list)
lines_plain names [] h k = tt
lines_plain names (e ∷ list) h k = (plain_text (entry_line names e) (entry_plain names e h k.0), lines_plain names list h k.1)

-- what was written is read again as the same list
pub list_round : (names : List (List ℕ)) (list : List Entry) → AreRuleNames names → AllByRecursion (IsEntry names) list → list_of names (lines_from 1 (written (list_lines names list))) ≡ Ok list
list_round names list h k =
    let e = lines_written 1 (list_lines names list) (plain_text (codes "sxder 1") (plain_from_test (codes "sxder 1") refl), lines_plain names list h k) in
    list_again names (lines_from 1 (written (list_lines names list))) list h (record { spelled = e; entries = k })

-- ---- of a call's result

pub is_stated : (names : List (List ℕ)) (lines : Lines) (r : Result (Vec Entry) ListError) → Numbered 1 lines → GivesRead (λ v. v.items) RefusesList r (list_of names lines) → IfOk r (λ v. StatesList names (line_texts lines) v.items)
is_stated names lines (Ok v) n h = list_stated names lines v.items n h
is_stated names lines (Err e) n h = tt

pub is_refused : (names : List (List ℕ)) (lines : Lines) (r : Result (Vec Entry) ListError) → AreRuleNames names → Numbered 1 lines → GivesRead (λ v. v.items) RefusesList r (list_of names lines)
    → IfErr r (λ e. IfSome (refusal e) (IsFirstMisread (StatesList names) (line_texts lines)))
is_refused names lines (Ok v) h n g = tt
is_refused names lines (Err Memory) h n g = tt
is_refused names lines (Err (BadList k)) h n g = list_refused names lines k h n g

-- what holds of each entry holds of the entry at each place
pub all_entries : (names : List (List ℕ)) (list : List Entry) → AllByRecursion (IsEntry names) list → (k : ℕ) (d : Entry) → k < length list → IsEntry names (get_or list k d)
all_entries names [] h k d lt = absurd (omega arith)
all_entries names (e ∷ list) h zero d lt = h.0
all_entries names (e ∷ list) h (suc k) d lt = all_entries names list h.1 k d (omega arith)
