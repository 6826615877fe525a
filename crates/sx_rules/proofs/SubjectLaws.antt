-- A rule that breaks no part is disciplined, and the other way round.
use Rattle.std.proofs.Common.{◌≡◌, ℕ, ◌+◌, map, Bool, true, false, List, [], ◌∷◌, ◌++◌, ◌⊎◌, inl, inr, refl, ap, ◌∙◌, sym, subst, arith, Option, Some, None, if◌then◌else◌, nat_eq, ◌&&◌}
use Rattle.std.specs.Prelude.{slice_get}
use Rattle.std.specs.List.{list_all}
use Rattle.sx_term.specs.Tree.{Tree, Trees, node, lexeme, hole, none, ◌▹◌}
use Rattle.sx_term.specs.declared.sort.Sort.{Sort}
use Rattle.sx_term.specs.declared.sort.Sort.TheVariants.{Lex, Plain, Typed}
use Rattle.sx_rules.specs.declared.chosen.Part.TheVariants.{Subjects}
use Rattle.sx_rules.specs.declared.subject.Subject.{Subject}
use Rattle.sx_rules.specs.declared.subject.Subject.TheVariants.{Absent}
use Rattle.sx_rules.specs.Instances.{StandsAmong}
use Rattle.sx_rules.specs.Rules.{Judgement, Premise, holds, apart, Rule, judgements_of}
use Rattle.sx_rules.specs.Discipline.{one_when, times_in, times_in_kids, times_among, subjects_of}
use Rattle.sx_rules.specs.Discipline.{IsSubjectIn, IsBareSubject, AreBareSubjects, IsDisciplined}
use Rattle.sx_rules.specs.Views.{FormData, places_at, subjects_in}
use Rattle.sx_rules.specs.Chosen.{negation, chosen, holes_of, holes_in, holes_among}
use Rattle.sx_rules.specs.Subjects.{subject_kind, premise_subject, first_at, is_other, count_in}
use Rattle.sx_rules.specs.Subjects.{is_not_once, is_bare, has_bare, is_again, first_again}
use Rattle.sx_rules.specs.Subjects.{is_typed_sort, is_settled, part_of, subject_uses, broken_part}
use Rattle.sx_rules.proofs.ModeLaws.{same_number, number_same, chosen_subjects, Has, has-first, has-later, has-which, among_to, to_among}

-- how often a variable stands
count-parts : (v : ℕ) (xs ys : List ℕ) → count_in v (xs ++ ys) ≡ count_in v xs + count_in v ys
count-parts v [] ys = omega arith
count-parts v (x ∷ xs) ys = let e = count-parts v xs ys in omega arith

one-if : (b : Bool) → one_when b ≡ (if b then 1 else 0)
one-if true = refl
one-if false = refl

mutual
  times-count : (v : ℕ) (t : Tree) → times_in v t ≡ count_in v (holes_of t)
  times-count v (node l ts) = times-count-in v ts
  times-count v (lexeme k x) = refl
  times-count v (hole w) = let e = one-if (nat_eq v w) in omega arith

  times-count-in : (v : ℕ) (ts : Trees) → times_in_kids v ts ≡ count_in v (holes_in ts)
  times-count-in v none = refl
  times-count-in v (t ▹ ts) = let a = times-count v t in let b = times-count-in v ts in let c = count-parts v (holes_of t) (holes_in ts) in omega arith

times-count-among : (v : ℕ) (ts : List Tree) → times_among v ts ≡ count_in v (holes_among ts)
times-count-among v [] = refl
times-count-among v (t ∷ ts) = let a = times-count v t in let b = times-count-among v ts in let c = count-parts v (holes_of t) (holes_among ts) in omega arith

-- the first that passes a test
first-if : {A : Type 0} (b : Bool) (n : A) (rest : Option A) → (if b then Some n else rest) ≡ None → (b ≡ false) × (rest ≡ None)
first-if true n rest e = absurd (let q : Some n ≡ None = e in cc)
first-if false n rest e = (refl, e)

part-none : (k : ℕ) (a : Option ℕ) (b : Option (ℕ × ℕ)) → part_of k a b ≡ None → (a ≡ None) × (b ≡ None)
part-none k None b e = (refl, e)
part-none k (Some n) b e = absurd (let q : Some (k, n) ≡ None = e in cc)

all-if : (b : Bool) (x : ℕ × ℕ) → (if b then None else Some x) ≡ None → b ≡ true
all-if true x e = refl
all-if false x e = absurd (let q : Some x ≡ None = e in cc)

pub not-true : {A : Type 0} → true ≡ false → A
not-true e = absurd (let q : true ≡ false = e in cc)

-- which subjects stand in a list
bare-which : (b : Bool) (v : ℕ) (ss : List Subject) → (if b then true else has_bare v ss) ≡ true → (b ≡ true) ⊎ (has_bare v ss ≡ true)
bare-which true v ss h = inl refl
bare-which false v ss h = inr h

bare-later : (b : Bool) (v : ℕ) (ss : List Subject) → has_bare v ss ≡ true → (if b then true else has_bare v ss) ≡ true
bare-later true v ss h = refl
bare-later false v ss h = h

bare-first : (v : ℕ) (s : Subject) (ss : List Subject) → is_bare v s ≡ true → has_bare v (s ∷ ss) ≡ true
bare-first v s ss e = ap (λ b. if b then true else has_bare v ss) e

bare-left : (v : ℕ) (xs ys : List Subject) → has_bare v xs ≡ true → has_bare v (xs ++ ys) ≡ true
bare-left v [] ys h = not-true (sym h)
bare-left v (x ∷ xs) ys h = elim (bare-which (is_bare v x) v xs h) [ inl e ↦ bare-first v x (xs ++ ys) e | inr k ↦ bare-later (is_bare v x) v (xs ++ ys) (bare-left v xs ys k) ]

bare-right : (v : ℕ) (xs ys : List Subject) → has_bare v ys ≡ true → has_bare v (xs ++ ys) ≡ true
bare-right v [] ys h = h
bare-right v (x ∷ xs) ys h = bare-later (is_bare v x) v (xs ++ ys) (bare-right v xs ys h)

bare-parts : (v : ℕ) (xs ys : List Subject) → has_bare v (xs ++ ys) ≡ true → (has_bare v xs ≡ true) ⊎ (has_bare v ys ≡ true)
bare-parts v [] ys h = inr h
bare-parts v (x ∷ xs) ys h = elim (bare-which (is_bare v x) v (xs ++ ys) h) [
  | inl e ↦ inl (bare-first v x xs e)
  | inr k ↦ elim (bare-parts v xs ys k) [ inl a ↦ inl (bare-later (is_bare v x) v xs a) | inr b ↦ inr b ]
]

-- a bare subject is the only term at the subject places
kind-bare : (v : ℕ) (ts : List Tree) → is_bare v (subject_kind ts) ≡ true → ts ≡ hole v ∷ []
kind-bare v [] e = not-true (sym e)
kind-bare v (node l k ∷ []) e = not-true (sym e)
kind-bare v (lexeme k x ∷ []) e = not-true (sym e)
kind-bare v (hole w ∷ []) e = ap (λ x. hole x ∷ []) (sym (same_number v w e))
kind-bare v (t ∷ u ∷ ts) e = not-true (sym e)

bare-kind : (v : ℕ) (ts : List Tree) → ts ≡ hole v ∷ [] → is_bare v (subject_kind ts) ≡ true
bare-kind v ts e = ap (λ x. is_bare v (subject_kind x)) e ∙ number_same v v refl

pub and-parts : (a b : Bool) → a && b ≡ true → (a ≡ true) × (b ≡ true)
and-parts true b h = (refl, h)
and-parts false b h = not-true (sym h)

all-has : (p : ℕ → Bool) (v : ℕ) (vs : List ℕ) → list_all p vs ≡ true → Has v vs → p v ≡ true
all-has p v [] h k = not-true (sym k)
all-has p v (w ∷ ws) h k =
    let q = and-parts (p w) (list_all p ws) h in
    elim (has-which v w ws k) [ inl e ↦ ap p e ∙ q.0 | inr r ↦ all-has p v ws q.1 r ]

has-all : (p : ℕ → Bool) (vs : List ℕ) → ((v : ℕ) → Has v vs → p v ≡ true) → list_all p vs ≡ true
has-all p [] h = refl
has-all p (w ∷ ws) h = ap (λ b. b && list_all p ws) (h w (has-first w w ws refl)) ∙ has-all p ws (λ v k. h v (has-later v w ws k))

module _ (F : List FormData) where
  pub subject_is : (j : Judgement) → chosen Subjects (places_at F j.form) j.places ≡ subjects_of (subjects_in F) j
  subject_is j = chosen_subjects (places_at F j.form) j.places

  -- the variable is a subject of the judgements where it is a bare subject of the premises
  pub bare-subject : (v : ℕ) (ps : List Premise) → has_bare v (map (premise_subject F) ps) ≡ true → IsSubjectIn (subjects_in F) v (judgements_of ps)
  bare-subject v [] h = not-true (sym h)
  bare-subject v (apart t u ∷ ps) h = bare-subject v ps h
  bare-subject v (holds j ∷ ps) h = elim (bare-which (is_bare v (premise_subject F (holds j))) v (map (premise_subject F) ps) h) [
    | inl e ↦ inl (sym (subject_is j) ∙ kind-bare v (chosen Subjects (places_at F j.form) j.places) e)
    | inr k ↦ inr (bare-subject v ps k)
  ]

  pub subject-bare : (v : ℕ) (ps : List Premise) → IsSubjectIn (subjects_in F) v (judgements_of ps) → has_bare v (map (premise_subject F) ps) ≡ true
  subject-bare v [] h = absurd h
  subject-bare v (apart t u ∷ ps) h = subject-bare v ps h
  subject-bare v (holds j ∷ ps) (inl e) = bare-first v (premise_subject F (holds j)) (map (premise_subject F) ps) (bare-kind v (chosen Subjects (places_at F j.form) j.places) (subject_is j ∙ e))
  subject-bare v (holds j ∷ ps) (inr k) = bare-later (is_bare v (premise_subject F (holds j))) v (map (premise_subject F) ps) (subject-bare v ps k)

  module _ (rule : Rule) where
    abbrev uses : List ℕ
    uses = subject_uses F rule

    pub once_among : (v : ℕ) → times_among v (subjects_of (subjects_in F) rule.conclusion) ≡ count_in v uses
    once_among v = ap (times_among v) (sym (subject_is rule.conclusion)) ∙ times-count-among v (chosen Subjects (places_at F rule.conclusion.form) rule.conclusion.places)

    pub once-if : (v : ℕ) (b : Bool) → nat_eq (count_in v uses) 1 ≡ b → negation b ≡ false → count_in v uses ≡ 1
    once-if v true e n = same_number (count_in v uses) 1 e
    once-if v false e n = not-true n

    -- one judgement
    bare_one : (before : List Judgement) (seen : List Subject) (j : Judgement) (ts : List Tree) → subjects_of (subjects_in F) j ≡ ts
        → ((v : ℕ) → IsSubjectIn (subjects_in F) v before → has_bare v seen ≡ true)
        → is_other (subject_kind ts) ≡ false → is_not_once uses (subject_kind ts) ≡ false → is_again seen (subject_kind ts) ≡ false
        → IsBareSubject (subjects_in F) rule.conclusion before j
    bare_one before seen j [] e known a b c = inl e
    bare_one before seen j (node l k ∷ []) e known a b c = not-true a
    bare_one before seen j (lexeme k x ∷ []) e known a b c = not-true a
    bare_one before seen j (hole v ∷ []) e known a b c =
        inr (v, e, once_among v ∙ once-if v (nat_eq (count_in v uses) 1) refl b, λ s. not-true (sym (known v s) ∙ c))
    bare_one before seen j (t ∷ u ∷ ts) e known a b c = not-true a

    known_on : (before : List Judgement) (seen : List Subject) (j : Judgement) → ((v : ℕ) → IsSubjectIn (subjects_in F) v before → has_bare v seen ≡ true)
        → (v : ℕ) → IsSubjectIn (subjects_in F) v (j ∷ before) → has_bare v (seen ++ premise_subject F (holds j) ∷ []) ≡ true
    known_on before seen j known v (inl e) = bare-right v seen (premise_subject F (holds j) ∷ []) (bare-first v (premise_subject F (holds j)) [] (bare-kind v (chosen Subjects (places_at F j.form) j.places) (subject_is j ∙ e)))
    known_on before seen j known v (inr k) = bare-left v seen (premise_subject F (holds j) ∷ []) (known v k)

    bare_all : (before : List Judgement) (seen : List Subject) (n : ℕ) (ps : List Premise)
        → ((v : ℕ) → IsSubjectIn (subjects_in F) v before → has_bare v seen ≡ true)
        → first_at is_other n (map (premise_subject F) ps) ≡ None
        → first_at (is_not_once uses) n (map (premise_subject F) ps) ≡ None
        → first_again n seen (map (premise_subject F) ps) ≡ None
        → AreBareSubjects (subjects_in F) rule.conclusion before (judgements_of ps)
    bare_all before seen n [] known a b c = tt
    bare_all before seen n (apart t u ∷ ps) known a b c =
        bare_all before (seen ++ Absent ∷ []) (n + 1) ps (λ v s. bare-left v seen (Absent ∷ []) (known v s)) a b c
    bare_all before seen n (holds j ∷ ps) known a b c =
        let s = premise_subject F (holds j) in
        let x = first-if (is_other s) n (first_at is_other (n + 1) (map (premise_subject F) ps)) a in
        let y = first-if (is_not_once uses s) n (first_at (is_not_once uses) (n + 1) (map (premise_subject F) ps)) b in
        let z = first-if (is_again seen s) n (first_again (n + 1) (seen ++ s ∷ []) (map (premise_subject F) ps)) c in (
          bare_one before seen j (chosen Subjects (places_at F j.form) j.places) (sym (subject_is j)) known x.0 y.0 z.0,
          bare_all (j ∷ before) (seen ++ premise_subject F (holds j) ∷ []) (n + 1) ps (known_on before seen j known) x.1 y.1 z.1,
        )

    settled-bare : (v k : ℕ) (ss : List Subject) → slice_get rule.sorts v ≡ Some (Typed k) → is_settled rule.sorts ss v ≡ true → has_bare v ss ≡ true
    settled-bare v k ss e h = sym (ap (λ x. if is_typed_sort x then has_bare v ss else true) e) ∙ h

    pub disciplined_of_none : broken_part F rule ≡ None → IsDisciplined (subjects_in F) rule
    disciplined_of_none e =
        let ss = map (premise_subject F) rule.premises in
        let a = part-none 1 (first_at is_other 1 ss) _ e in
        let b = part-none 2 (first_at (is_not_once uses) 1 ss) _ a.1 in
        let c = part-none 3 (first_again 1 [] ss) _ b.1 in
        let d = all-if (list_all (is_settled rule.sorts ss) uses) (4, 0) c.1 in
        record {
          bare = bare_all [] [] 1 rule.premises (λ v s. absurd s) a.0 b.0 c.0;
          every = λ v k t s. bare-subject v rule.premises (settled-bare v k ss t (all-has (is_settled rule.sorts ss) v uses d (subst (λ (x : List Tree). Has v (holes_among x)) (sym (subject_is rule.conclusion)) (among_to v _ s))));
        }

    some-if : {A : Type 0} (b : Bool) (n : A) (rest : Option A) → b ≡ false → rest ≡ None → (if b then Some n else rest) ≡ None
    some-if true n rest e r = not-true e
    some-if false n rest e r = r

    not-true-false : (b : Bool) → (b ≡ true → ⊥) → b ≡ false
    not-true-false true h = absurd (h refl)
    not-true-false false h = refl

    -- what a judgement's bare subject tells of it
    pub other_not : (ts : List Tree) → (ts ≡ []) ⊎ ((v : ℕ) × (ts ≡ hole v ∷ [])) → is_other (subject_kind ts) ≡ false
    other_not ts (inl e) = ap (λ x. is_other (subject_kind x)) e
    other_not ts (inr x) = ap (λ y. is_other (subject_kind y)) x.1

    once_not : (ts : List Tree) → (ts ≡ []) ⊎ ((v : ℕ) × (ts ≡ hole v ∷ []) × (count_in v uses ≡ 1)) → is_not_once uses (subject_kind ts) ≡ false
    once_not ts (inl e) = ap (λ x. is_not_once uses (subject_kind x)) e
    once_not ts (inr x) = ap (λ y. is_not_once uses (subject_kind y)) x.1 ∙ ap (λ n. negation (nat_eq n 1)) x.2

    again_not : (seen : List Subject) (ts : List Tree) → (ts ≡ []) ⊎ ((v : ℕ) × (ts ≡ hole v ∷ []) × (has_bare v seen ≡ true → ⊥)) → is_again seen (subject_kind ts) ≡ false
    again_not seen ts (inl e) = ap (λ x. is_again seen (subject_kind x)) e
    again_not seen ts (inr x) = ap (λ y. is_again seen (subject_kind y)) x.1 ∙ not-true-false (has_bare x.0 seen) x.2

    one_bare : (v : ℕ) (j : Judgement) → has_bare v (premise_subject F (holds j) ∷ []) ≡ true → subjects_of (subjects_in F) j ≡ hole v ∷ []
    one_bare v j h = elim (bare-which (is_bare v (premise_subject F (holds j))) v [] h) [
      | inl e ↦ sym (subject_is j) ∙ kind-bare v (chosen Subjects (places_at F j.form) j.places) e
      | inr k ↦ not-true (sym k)
    ]

    none_all : (before : List Judgement) (seen : List Subject) (n : ℕ) (ps : List Premise)
        → ((v : ℕ) → has_bare v seen ≡ true → IsSubjectIn (subjects_in F) v before)
        → AreBareSubjects (subjects_in F) rule.conclusion before (judgements_of ps)
        → (first_at is_other n (map (premise_subject F) ps) ≡ None) × (first_at (is_not_once uses) n (map (premise_subject F) ps) ≡ None) × (first_again n seen (map (premise_subject F) ps) ≡ None)
    none_all before seen n [] known h = (refl, refl, refl)
    none_all before seen n (apart t u ∷ ps) known h =
        none_all before (seen ++ Absent ∷ []) (n + 1) ps (λ v s. elim (bare-parts v seen (Absent ∷ []) s) [ inl a ↦ known v a | inr b ↦ not-true (sym b) ]) h
    none_all before seen n (holds j ∷ ps) known h =
        let s = premise_subject F (holds j) in
        let is = subject_is j in
        let rest = none_all (j ∷ before) (seen ++ premise_subject F (holds j) ∷ []) (n + 1) ps
        (λ v k. elim (bare-parts v seen (premise_subject F (holds j) ∷ []) k) [ inl a ↦ inr (known v a) | inr b ↦ inl (one_bare v j b) ]) h.1 in (
          some-if (is_other s) n (first_at is_other (n + 1) (map (premise_subject F) ps)) (other_not (chosen Subjects (places_at F j.form) j.places) (elim h.0 [ inl e ↦ inl (is ∙ e) | inr x ↦ inr (x.0, is ∙ x.1) ])) rest.0,
          some-if (is_not_once uses s) n (first_at (is_not_once uses) (n + 1) (map (premise_subject F) ps)) (once_not (chosen Subjects (places_at F j.form) j.places) (elim h.0 [ inl e ↦ inl (is ∙ e) | inr x ↦ inr (x.0, is ∙ x.1, sym (once_among x.0) ∙ x.2) ])) rest.1,
          some-if (is_again seen s) n (first_again (n + 1) (seen ++ s ∷ []) (map (premise_subject F) ps)) (again_not seen (chosen Subjects (places_at F j.form) j.places) (elim h.0 [ inl e ↦ inl (is ∙ e) | inr x ↦ inr (x.0, is ∙ x.1, λ b. x.3 (known x.0 b)) ])) rest.2,
        )

    typed-if : (sort : Option Sort) (b : Bool) → ((k : ℕ) → sort ≡ Some (Typed k) → b ≡ true) → (if is_typed_sort sort then b else true) ≡ true
    typed-if None b h = refl
    typed-if (Some (Lex k)) b h = refl
    typed-if (Some (Plain k)) b h = refl
    typed-if (Some (Typed k)) b h = h k refl

    pub none_of_disciplined : IsDisciplined (subjects_in F) rule → broken_part F rule ≡ None
    none_of_disciplined d =
        let ss = map (premise_subject F) rule.premises in
        let all = none_all [] [] 1 rule.premises (λ v h. not-true (sym h)) d.bare in
        let settled : list_all (is_settled rule.sorts ss) uses ≡ true =
        has-all (is_settled rule.sorts ss) uses (λ v h. typed-if (slice_get rule.sorts v) (has_bare v ss) (λ k e. subject-bare v rule.premises (d.every v k e (subst (StandsAmong v) (subject_is rule.conclusion) (to_among v _ h))))) in
        ap (λ x. part_of 1 x (part_of 2 (first_at (is_not_once uses) 1 ss) (part_of 3 (first_again 1 [] ss) (if list_all (is_settled rule.sorts ss) uses then None else Some (4, 0))))) all.0
        ∙ ap (λ x. part_of 2 x (part_of 3 (first_again 1 [] ss) (if list_all (is_settled rule.sorts ss) uses then None else Some (4, 0)))) all.1
        ∙ ap (λ x. part_of 3 x (if list_all (is_settled rule.sorts ss) uses then None else Some (4, 0))) all.2
        ∙ ap (λ b. if b then None else Some (4, 0)) settled
