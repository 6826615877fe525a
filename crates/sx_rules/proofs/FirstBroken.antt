-- The part and the premise that a rule is refused for are the first.
use Rattle.std.proofs.Common.{◌≡◌, ℕ, ◌+◌, length, map, Bool, true, false, List, [], ◌∷◌, ◌++◌, ◌⊎◌, inl, inr, append_assoc, refl, ap, ◌∙◌, sym, subst, arith, Option, Some, None, if◌then◌else◌, nat_eq, ◌&&◌}
use Rattle.std.specs.Prelude.{slice_get}
use Rattle.std.specs.List.{list_all}
use Rattle.std.proofs.lemmas.List.{append-nil}
use Rattle.sx_term.specs.Tree.{Tree, node, lexeme, hole}
use Rattle.sx_term.specs.declared.sort.Sort.{Sort}
use Rattle.sx_term.specs.declared.sort.Sort.TheVariants.{Lex, Plain, Typed}
use Rattle.sx_rules.specs.declared.subject.Subject.{Subject}
use Rattle.sx_rules.specs.declared.subject.Subject.TheVariants.{Bare}
use Rattle.sx_rules.specs.Instances.{StandsAmong}
use Rattle.sx_rules.specs.Rules.{Premise, holds, apart, Rule}
use Rattle.sx_rules.specs.Views.{FormData, subjects_in}
use Rattle.sx_rules.specs.Chosen.{negation}
use Rattle.sx_rules.specs.Subjects.{subject_kind, premise_subject, first_at, is_other, count_in}
use Rattle.sx_rules.specs.Subjects.{is_not_once, has_bare, is_again, first_again, is_typed_sort}
use Rattle.sx_rules.specs.Subjects.{is_settled, part_of, subject_uses, broken_part}
use Rattle.sx_rules.specs.FirstBreach.{HaveEach, IsFirstWithout, premise_subjects, IsBare}
use Rattle.sx_rules.specs.FirstBreach.{StandsOnce, IsNew, IsFirstBroken, not_bare, not_once}
use Rattle.sx_rules.specs.FirstBreach.{not_new, no_subject}
use Rattle.sx_rules.proofs.ModeLaws.{number_same, Has, has-first, has-later, to_among}
use Rattle.sx_rules.proofs.SubjectLaws.{not-true, subject_is, bare-subject, subject-bare, once_among, once-if, other_not}

true-not : {A : Type 0} → false ≡ true → A
true-not e = not-true (sym e)

-- ---- the first premise that a test finds

record Found (P : List Premise → Premise → Type 0) (before ps : List Premise) (n m : ℕ) : Type 0 where
  front : List Premise
  premise : Premise
  back : List Premise
  place : ps ≡ front ++ premise ∷ back
  number : m ≡ n + length front
  each : HaveEach P before front
  lacks : P (before ++ front) premise → ⊥

here : (P : List Premise → Premise → Type 0) (before : List Premise) (p : Premise) (ps : List Premise) (n m : ℕ) → Some n ≡ Some m → (P before p → ⊥) → Found P before (p ∷ ps) n m
here P before p ps n m e lacks =
    let same : n ≡ m = cc in
    record {
      front = [];
      premise = p;
      back = ps;
      place = refl;
      number = omega (arith, same);
      each = tt;
      lacks = subst (λ (b : List Premise). P b p → ⊥) (sym (append-nil before)) lacks;
    }

later : (P : List Premise → Premise → Type 0) (before : List Premise) (p : Premise) (ps : List Premise) (n m : ℕ) → P before p → Found P (before ++ p ∷ []) ps (n + 1) m → Found P before (p ∷ ps) n m
later P before p ps n m has r = record {
  front = p ∷ r.front;
  premise = r.premise;
  back = r.back;
  place = ap (λ (x : List Premise). p ∷ x) r.place;
  number = let e = r.number in omega (arith, e);
  each = (has, r.each);
  lacks = subst (λ (b : List Premise). P b r.premise → ⊥) (append_assoc before (p ∷ []) r.front) r.lacks;
}

is_first : (P : List Premise → Premise → Type 0) (ps : List Premise) (m : ℕ) → Found P [] ps 1 m → IsFirstWithout P ps m
is_first P ps m r = record {
  front = r.front;
  premise = r.premise;
  back = r.back;
  place = r.place;
  number = let e = r.number in omega (arith, e);
  before = r.each;
  lacks = r.lacks;
}

-- ---- what the tests tell of the terms at the subject places

other-no : (ts : List Tree) → is_other (subject_kind ts) ≡ false → (ts ≡ []) ⊎ ((v : ℕ) × (ts ≡ hole v ∷ []))
other-no [] e = inl refl
other-no (node l k ∷ []) e = not-true e
other-no (lexeme k x ∷ []) e = not-true e
other-no (hole v ∷ []) e = inr (v, refl)
other-no (t ∷ u ∷ ts) e = not-true e

bare-kind : (v : ℕ) (ts : List Tree) → ts ≡ hole v ∷ [] → subject_kind ts ≡ Bare v
bare-kind v ts e = ap subject_kind e

again-which : (seen : List Subject) (ts : List Tree) → is_again seen (subject_kind ts) ≡ true → (v : ℕ) × (ts ≡ hole v ∷ []) × (has_bare v seen ≡ true)
again-which seen [] e = true-not e
again-which seen (node l k ∷ []) e = true-not e
again-which seen (lexeme k x ∷ []) e = true-not e
again-which seen (hole v ∷ []) e = (v, refl, e)
again-which seen (t ∷ u ∷ ts) e = true-not e

once-which : (uses : List ℕ) (ts : List Tree) → is_not_once uses (subject_kind ts) ≡ true → (v : ℕ) × (ts ≡ hole v ∷ []) × (nat_eq (count_in v uses) 1 ≡ true → ⊥)
once-which uses [] e = true-not e
once-which uses (node l k ∷ []) e = true-not e
once-which uses (lexeme k x ∷ []) e = true-not e
once-which uses (hole v ∷ []) e = (v, refl, λ h. true-not (sym (ap negation h) ∙ e))
once-which uses (t ∷ u ∷ ts) e = true-not e

part-which : (k : ℕ) (a : Option ℕ) (b : Option (ℕ × ℕ)) (part n : ℕ) → part_of k a b ≡ Some (part, n) → ((a ≡ Some n) × (part ≡ k)) ⊎ ((a ≡ None) × (b ≡ Some (part, n)))
part-which k None b part n e = inr (refl, e)
part-which k (Some m) b part n e =
    let same : (k, m) ≡ (part, n) = cc in
    inl (ap (λ (x : ℕ × ℕ). Some x.1) same, sym (ap (λ (x : ℕ × ℕ). x.0) same))

-- what a test of all gives
abbrev unless : Bool → Option (ℕ × ℕ)
unless b = if b then None else Some (4, 0)

all-which : (b : Bool) (part n : ℕ) → unless b ≡ Some (part, n) → (b ≡ false) × (part ≡ 4) × (n ≡ 0)
all-which true part n e = absurd (let q : None ≡ Some (part, n) = e in cc)
all-which false part n e =
    let same : (4, 0) ≡ (part, n) = cc in
    (refl, sym (ap (λ (x : ℕ × ℕ). x.0) same), sym (ap (λ (x : ℕ × ℕ). x.1) same))

not-all : (p : ℕ → Bool) (vs : List ℕ) → list_all p vs ≡ false → (v : ℕ) × Has v vs × (p v ≡ false)
not-all p [] e = not-true e
not-all p (w ∷ ws) e = by (p w) refl e (λ h. not-all p ws h)
  where
    by : (b : Bool) → p w ≡ b → b && list_all p ws ≡ false → (list_all p ws ≡ false → (v : ℕ) × Has v ws × (p v ≡ false)) → (v : ℕ) × Has v (w ∷ ws) × (p v ≡ false)
    by true t h more = let r = more h in (r.0, has-later r.0 w ws r.1, r.2)
    by false t h more = (w, has-first w w ws refl, t)

typed-which : (o : Option Sort) (b : Bool) → (if is_typed_sort o then b else true) ≡ false → (k : ℕ) × (o ≡ Some (Typed k)) × (b ≡ false)
typed-which None b e = not-true e
typed-which (Some (Lex k)) b e = not-true e
typed-which (Some (Plain k)) b e = not-true e
typed-which (Some (Typed k)) b e = (k, refl, e)

module _ (F : List FormData) (rule : Rule) where
  abbrev subjects_at : Premise → List Tree
  subjects_at p = premise_subjects (subjects_in F) p

  kind_of : (p : Premise) → premise_subject F p ≡ subject_kind (subjects_at p)
  kind_of (holds j) = ap subject_kind (subject_is F j)
  kind_of (apart t u) = refl

  abbrev uses : List ℕ
  uses = subject_uses F rule

  abbrev found_subjects : List Premise → List Subject
  found_subjects ps = map (premise_subject F) ps

  found_more : (before : List Premise) (p : Premise) → found_subjects before ++ premise_subject F p ∷ [] ≡ found_subjects (before ++ p ∷ [])
  found_more [] p = refl
  found_more (q ∷ before) p = ap (λ (x : List Subject). premise_subject F q ∷ x) (found_more before p)

  -- a test of one subject
  module _ (test : Subject → Bool) (P : List Premise → Premise → Type 0)
      (yes : (before : List Premise) (p : Premise) → test (subject_kind (subjects_at p)) ≡ true → P before p → ⊥)
      (no : (before : List Premise) (p : Premise) → test (subject_kind (subjects_at p)) ≡ false → P before p) where
    find : (before ps : List Premise) (n m : ℕ) → first_at test n (found_subjects ps) ≡ Some m → Found P before ps n m
    find before [] n m e = absurd (let q : None ≡ Some m = e in cc)
    find before (p ∷ ps) n m e = by (test (premise_subject F p)) refl e (λ h. find (before ++ p ∷ []) ps (n + 1) m h)
      where
        by : (b : Bool) → test (premise_subject F p) ≡ b → (if b then Some n else first_at test (n + 1) (found_subjects ps)) ≡ Some m
            → (first_at test (n + 1) (found_subjects ps) ≡ Some m → Found P (before ++ p ∷ []) ps (n + 1) m) → Found P before (p ∷ ps) n m
        by true t h more = here P before p ps n m h (yes before p (sym (ap test (kind_of p)) ∙ t))
        by false t h more = later P before p ps n m (no before p (sym (ap test (kind_of p)) ∙ t)) (more h)

    each : (before ps : List Premise) (n : ℕ) → first_at test n (found_subjects ps) ≡ None → HaveEach P before ps
    each before [] n e = tt
    each before (p ∷ ps) n e = by (test (premise_subject F p)) refl e (λ h. each (before ++ p ∷ []) ps (n + 1) h)
      where
        by : (b : Bool) → test (premise_subject F p) ≡ b → (if b then Some n else first_at test (n + 1) (found_subjects ps)) ≡ None
            → (first_at test (n + 1) (found_subjects ps) ≡ None → HaveEach P (before ++ p ∷ []) ps) → HaveEach P before (p ∷ ps)
        by true t h more = absurd (let q : Some n ≡ None = h in cc)
        by false t h more = (no before p (sym (ap test (kind_of p)) ∙ t), more h)

  bare-yes : (before : List Premise) (p : Premise) → is_other (subject_kind (subjects_at p)) ≡ true → IsBare (subjects_in F) before p → ⊥
  bare-yes before p e h = true-not (sym (other_not F rule (subjects_at p) h) ∙ e)

  bare-no : (before : List Premise) (p : Premise) → is_other (subject_kind (subjects_at p)) ≡ false → IsBare (subjects_in F) before p
  bare-no before p e = other-no (subjects_at p) e

  once-yes : (before : List Premise) (p : Premise) → is_not_once uses (subject_kind (subjects_at p)) ≡ true → StandsOnce (subjects_in F) rule.conclusion before p → ⊥
  once-yes before p e h =
      let x = once-which uses (subjects_at p) e in
      x.2 (number_same (count_in x.0 uses) 1 (sym (once_among F rule x.0) ∙ h x.0 x.1))

  once-no : (before : List Premise) (p : Premise) → is_not_once uses (subject_kind (subjects_at p)) ≡ false → StandsOnce (subjects_in F) rule.conclusion before p
  once-no before p e v is =
      once_among F rule v ∙ once-if F rule v (nat_eq (count_in v uses) 1) refl (sym (ap (is_not_once uses) (bare-kind v (subjects_at p) is)) ∙ e)

  again-yes : (before : List Premise) (p : Premise) → is_again (found_subjects before) (premise_subject F p) ≡ true → IsNew (subjects_in F) before p → ⊥
  again-yes before p e h =
      let x = again-which (found_subjects before) (subjects_at p) (sym (ap (is_again (found_subjects before)) (kind_of p)) ∙ e) in
      h x.0 x.1 (bare-subject F x.0 before x.2)

  again-no : (before : List Premise) (p : Premise) → is_again (found_subjects before) (premise_subject F p) ≡ false → IsNew (subjects_in F) before p
  again-no before p e v is s =
      not-true (sym (subject-bare F v before s)
      ∙ sym (ap (is_again (found_subjects before)) (kind_of p ∙ bare-kind v (subjects_at p) is)) ∙ e)

  find_again : (before ps : List Premise) (seen : List Subject) (n m : ℕ) → seen ≡ found_subjects before → first_again n seen (found_subjects ps) ≡ Some m → Found (IsNew (subjects_in F)) before ps n m
  find_again before [] seen n m same e = absurd (let q : None ≡ Some m = e in cc)
  find_again before (p ∷ ps) seen n m same e =
      by (is_again seen (premise_subject F p)) refl e
      (λ h. find_again (before ++ p ∷ []) ps (seen ++ premise_subject F p ∷ []) (n + 1) m (ap (λ (s : List Subject). s ++ premise_subject F p ∷ []) same ∙ found_more before p) h)
    where
      by : (b : Bool) → is_again seen (premise_subject F p) ≡ b → (if b then Some n else first_again (n + 1) (seen ++ premise_subject F p ∷ []) (found_subjects ps)) ≡ Some m
          → (first_again (n + 1) (seen ++ premise_subject F p ∷ []) (found_subjects ps) ≡ Some m → Found (IsNew (subjects_in F)) (before ++ p ∷ []) ps (n + 1) m)
          → Found (IsNew (subjects_in F)) before (p ∷ ps) n m
      by true t h more = here (IsNew (subjects_in F)) before p ps n m h (again-yes before p (sym (ap (λ (s : List Subject). is_again s (premise_subject F p)) same) ∙ t))
      by false t h more =
          later (IsNew (subjects_in F)) before p ps n m (again-no before p (sym (ap (λ (s : List Subject). is_again s (premise_subject F p)) same) ∙ t))
          (more h)

  each_new : (before ps : List Premise) (seen : List Subject) (n : ℕ) → seen ≡ found_subjects before → first_again n seen (found_subjects ps) ≡ None → HaveEach (IsNew (subjects_in F)) before ps
  each_new before [] seen n same e = tt
  each_new before (p ∷ ps) seen n same e =
      by (is_again seen (premise_subject F p)) refl e
      (λ h. each_new (before ++ p ∷ []) ps (seen ++ premise_subject F p ∷ []) (n + 1) (ap (λ (s : List Subject). s ++ premise_subject F p ∷ []) same ∙ found_more before p) h)
    where
      by : (b : Bool) → is_again seen (premise_subject F p) ≡ b → (if b then Some n else first_again (n + 1) (seen ++ premise_subject F p ∷ []) (found_subjects ps)) ≡ None
          → (first_again (n + 1) (seen ++ premise_subject F p ∷ []) (found_subjects ps) ≡ None → HaveEach (IsNew (subjects_in F)) (before ++ p ∷ []) ps)
          → HaveEach (IsNew (subjects_in F)) before (p ∷ ps)
      by true t h more = absurd (let q : Some n ≡ None = h in cc)
      by false t h more = (again-no before p (sym (ap (λ (s : List Subject). is_again s (premise_subject F p)) same) ∙ t), more h)

  all_bare : first_at is_other 1 (found_subjects rule.premises) ≡ None → HaveEach (IsBare (subjects_in F)) [] rule.premises
  all_bare e = each is_other (IsBare (subjects_in F)) bare-yes bare-no [] rule.premises 1 e

  all_once : first_at (is_not_once uses) 1 (found_subjects rule.premises) ≡ None → HaveEach (StandsOnce (subjects_in F) rule.conclusion) [] rule.premises
  all_once e = each (is_not_once uses) (StandsOnce (subjects_in F) rule.conclusion) once-yes once-no [] rule.premises 1 e

  abbrev ss : List Subject
  ss = found_subjects rule.premises

  abbrev settled : Bool
  settled = list_all (is_settled rule.sorts ss) uses

  abbrev last : Option (ℕ × ℕ)
  last = unless settled

  module _ (part n : ℕ) where
    by_part : (k m : ℕ) → part ≡ k → n ≡ m → IsFirstBroken (subjects_in F) rule k m → IsFirstBroken (subjects_in F) rule part n
    by_part k m p q h = subst (λ (x : ℕ). IsFirstBroken (subjects_in F) rule x n) (sym p) (subst (λ (x : ℕ). IsFirstBroken (subjects_in F) rule k x) (sym q) h)

    from_all : HaveEach (IsBare (subjects_in F)) [] rule.premises → HaveEach (StandsOnce (subjects_in F) rule.conclusion) [] rule.premises → HaveEach (IsNew (subjects_in F)) [] rule.premises
        → (settled ≡ false) × (part ≡ 4) × (n ≡ 0) → IsFirstBroken (subjects_in F) rule part n
    from_all a b c h =
        let x = not-all (is_settled rule.sorts ss) uses h.0 in
        let t = typed-which (slice_get rule.sorts x.0) (has_bare x.0 ss) x.2 in
        by_part 4 0 h.1 h.2 (no_subject a b c x.0 t.0 t.1
        (subst (StandsAmong x.0) (subject_is F rule.conclusion) (to_among x.0 _ x.1))
        (λ s. not-true (sym (subject-bare F x.0 rule.premises s) ∙ t.2)))

    from_new : HaveEach (IsBare (subjects_in F)) [] rule.premises → HaveEach (StandsOnce (subjects_in F) rule.conclusion) [] rule.premises
        → ((first_again 1 [] ss ≡ Some n) × (part ≡ 3)) ⊎ ((first_again 1 [] ss ≡ None) × (last ≡ Some (part, n))) → IsFirstBroken (subjects_in F) rule part n
    from_new a b (inl h) = by_part 3 n h.1 refl (not_new a b (is_first (IsNew (subjects_in F)) rule.premises n (find_again [] rule.premises [] 1 n refl h.0)))
    from_new a b (inr h) = from_all a b (each_new [] rule.premises [] 1 refl h.0) (all-which settled part n h.1)

    from_once : HaveEach (IsBare (subjects_in F)) [] rule.premises
        → ((first_at (is_not_once uses) 1 ss ≡ Some n) × (part ≡ 2)) ⊎ ((first_at (is_not_once uses) 1 ss ≡ None) × (part_of 3 (first_again 1 [] ss) last ≡ Some (part, n)))
        → IsFirstBroken (subjects_in F) rule part n
    from_once a (inl h) =
        by_part 2 n h.1 refl (not_once a (is_first (StandsOnce (subjects_in F) rule.conclusion) rule.premises n
        (find (is_not_once uses) (StandsOnce (subjects_in F) rule.conclusion) once-yes once-no [] rule.premises 1 n h.0)))
    from_once a (inr h) = from_new a (all_once h.0) (part-which 3 (first_again 1 [] ss) _ part n h.1)

    from_bare : ((first_at is_other 1 ss ≡ Some n) × (part ≡ 1))
        ⊎ ((first_at is_other 1 ss ≡ None) × (part_of 2 (first_at (is_not_once uses) 1 ss) (part_of 3 (first_again 1 [] ss) last) ≡ Some (part, n)))
        → IsFirstBroken (subjects_in F) rule part n
    from_bare (inl h) = by_part 1 n h.1 refl (not_bare (is_first (IsBare (subjects_in F)) rule.premises n (find is_other (IsBare (subjects_in F)) bare-yes bare-no [] rule.premises 1 n h.0)))
    from_bare (inr h) = from_once (all_bare h.0) (part-which 2 (first_at (is_not_once uses) 1 ss) _ part n h.1)

    broken_first : broken_part F rule ≡ Some (part, n) → IsFirstBroken (subjects_in F) rule part n
    broken_first e = from_bare (part-which 1 (first_at is_other 1 ss) _ part n e)

pub broken_part_first : (forms : List FormData) (rule : Rule) (part premise : ℕ) → broken_part forms rule ≡ Some (part, premise) → IsFirstBroken (subjects_in forms) rule part premise
broken_part_first forms rule part premise e = broken_first forms rule part premise e
