-- The first part of the subject discipline that a rule breaks.
use Rattle.std.specs.Prelude.{◌≡◌, ℕ, ◌+◌, ◌<◌, length, slice_index_or, Bool, true, false, List, []}
use Rattle.std.specs.Prelude.{◌∷◌, ◌++◌, Option, Some, None, map, slice_get, if◌then◌else◌, nat_eq}
use Rattle.std.specs.List.{list_all}
use Rattle.sx_term.specs.Tree.{Tree, node, lexeme, hole}
use Rattle.sx_term.specs.declared.sort.Sort.{Sort}
use Rattle.sx_term.specs.declared.sort.Sort.TheVariants.{Lex, Plain, Typed}
use Rattle.sx_rules.specs.declared.chosen.Part.TheVariants.{Subjects}
use Rattle.sx_rules.specs.declared.subject.Subject.{Subject}
use Rattle.sx_rules.specs.declared.subject.Subject.TheVariants.{Absent, Bare, Other}
use Rattle.sx_rules.specs.Rules.{Premise, holds, apart, Rule}
use Rattle.sx_rules.specs.Views.{FormData, places_at}
use Rattle.sx_rules.specs.Chosen.{chosen, holes_among, negation}

-- no subject, a bare variable, or something else
abbrev pub bare_or_other : Tree → Subject
bare_or_other (node label kids) = Other
bare_or_other (lexeme kind text) = Other
bare_or_other (hole v) = Bare v

-- what stands at the subject places: nothing, one bare variable, or something else
abbrev pub subject_kind : List Tree → Subject
subject_kind [] = Absent
subject_kind (t ∷ []) = bare_or_other t
subject_kind (t ∷ u ∷ ts) = Other

-- what is found after one more term at a subject place
abbrev pub after_one : Subject → Tree → Subject
after_one Absent t = bare_or_other t
after_one (Bare v) t = Other
after_one Other t = Other

-- what is found after a term that may stand at a subject place
abbrev pub with_one : Subject → Bool → Tree → Subject
with_one found true t = after_one found t
with_one found false t = found

-- the subject of a premise; two terms that are to be apart have none
abbrev pub premise_subject : List FormData → Premise → Subject
premise_subject forms (holds j) = subject_kind (chosen Subjects (places_at forms j.form) j.places)
premise_subject forms (apart t u) = Absent

-- the place, counted from n, of the first that passes a test
abbrev pub first_at : {A : Type 0} → (A → Bool) → ℕ → List A → Option ℕ
first_at test n [] = None
first_at test n (x ∷ xs) = if test x then Some n else first_at test (n + 1) xs

-- whether something else than a bare variable stands there
abbrev pub is_other : Subject → Bool
is_other Absent = false
is_other (Bare v) = false
is_other Other = true

-- how often the number stands in the list
abbrev pub count_in : ℕ → List ℕ → ℕ
count_in v [] = 0
count_in v (w ∷ ws) = (if nat_eq v w then 1 else 0) + count_in v ws

-- at each place stands how often the number of that place is in the list
abbrev pub AreCounts : List ℕ → List ℕ → Type 0
AreCounts counts all = (v : ℕ) → v < length counts → slice_index_or counts v 0 ≡ count_in v all

-- a bare subject that does not stand just once among the variables of the conclusion's subject
abbrev pub is_not_once : List ℕ → Subject → Bool
is_not_once uses Absent = false
is_not_once uses (Bare v) = negation (nat_eq (count_in v uses) 1)
is_not_once uses Other = false

-- whether the variable stands there
abbrev pub is_bare : ℕ → Subject → Bool
is_bare v Absent = false
is_bare v (Bare w) = nat_eq v w
is_bare v Other = false

-- whether the variable is one of the subjects
abbrev pub has_bare : ℕ → List Subject → Bool
has_bare v [] = false
has_bare v (s ∷ ss) = if is_bare v s then true else has_bare v ss

-- a bare subject that is one before
abbrev pub is_again : List Subject → Subject → Bool
is_again before Absent = false
is_again before (Bare v) = has_bare v before
is_again before Other = false

-- the place, counted from n, of the first subject that stands before
abbrev pub first_again : ℕ → List Subject → List Subject → Option ℕ
first_again n before [] = None
first_again n before (s ∷ ss) = if is_again before s then Some n else first_again (n + 1)
    (before ++ s ∷ []) ss

-- whether there is a sort and it is typed
abbrev pub is_typed_sort : Option Sort → Bool
is_typed_sort None = false
is_typed_sort (Some (Lex k)) = false
is_typed_sort (Some (Plain n)) = false
is_typed_sort (Some (Typed n)) = true

-- a variable of a typed sort is a subject
abbrev pub is_settled : List Sort → List Subject → ℕ → Bool
is_settled sorts subjects v = if is_typed_sort (slice_get sorts v) then has_bare v subjects else
    true

-- the part with the number that was found, or else the next
abbrev pub part_of : ℕ → Option ℕ → Option (ℕ × ℕ) → Option (ℕ × ℕ)
part_of part None next = next
part_of part (Some n) next = Some (part, n)

-- the first part that is broken, and the number of the first premise that breaks it, from 1, or 0
-- for the last part
abbrev pub broken : List Sort → List Subject → List ℕ → Option (ℕ × ℕ)
broken sorts subjects uses =
    part_of 1 (first_at is_other 1 subjects) (
    part_of 2 (first_at (is_not_once uses) 1 subjects) (
    part_of 3 (first_again 1 [] subjects) (
    if list_all (is_settled sorts subjects) uses then None else Some (4, 0))))

-- the variables of the conclusion's subject
abbrev pub subject_uses : List FormData → Rule → List ℕ
subject_uses forms rule = holes_among (chosen Subjects
    (places_at forms rule.conclusion.form) rule.conclusion.places)

-- The first part of the discipline that the rule breaks, and the first premise that breaks it; that
-- there is none exactly where the rule is disciplined is a law.
abbrev pub broken_part : List FormData → Rule → Option (ℕ × ℕ)
broken_part forms rule = broken rule.sorts (map (premise_subject forms) rule.premises)
    (subject_uses forms rule)
