-- Loops that look for the first item.
use Rattle.std.proofs.Common.{◌≡◌, ℕ, suc, ◌+◌, ◌-◌, ◌<◌, ◌≤◌, drop, length, get_or, Bool, true, false, List, [], ◌∷◌, ◌++◌, refl, ap, ◌∙◌, sym, arith, Some, None, if◌then◌else◌, nat_eq}
use Rattle.std.proofs.lemmas.List.{at_drop_more, at_drop_all}
use Rattle.sx_term.specs.Tree.{Tree, node, lexeme, hole}
use Rattle.sx_rules.specs.declared.subject.Subject.{Subject}
use Rattle.sx_rules.specs.declared.subject.Subject.TheVariants.{Absent, Other}
use Rattle.sx_rules.specs.Subjects.{first_at, has_bare, is_bare, is_again, first_again, count_in, subject_kind, bare_or_other, after_one, with_one}
use Rattle.sx_rules.specs.Chosen.{pick}
use Rattle.sx_rules.specs.Unmoded.{has_number, first_missing}

module _ {A : Type 0} (p : A → Bool) (xs : List A) (i : ℕ) (d : A) where
  pub first_at-hit : (n : ℕ) → i < length xs → p (get_or xs i d) ≡ true → first_at p n (drop i xs) ≡ Some n
  first_at-hit n h e = at_drop_more (first_at p n) xs i d h ∙ ap (λ b. if b then Some n else first_at p (n + 1) (drop (i + 1) xs)) e

  pub first_at-on : (n : ℕ) → i < length xs → p (get_or xs i d) ≡ false → first_at p (n + 1) (drop (i + 1) xs) ≡ first_at p n (drop i xs)
  first_at-on n h e = sym (at_drop_more (first_at p n) xs i d h ∙ ap (λ b. if b then Some n else first_at p (n + 1) (drop (i + 1) xs)) e)

pub first_at-over : {A : Type 0} (p : A → Bool) (xs : List A) (i n : ℕ) → length xs ≤ i → first_at p n (drop i xs) ≡ None
first_at-over p xs i n h = at_drop_all (first_at p n) xs i h

module _ (v : ℕ) (xs : List Subject) (i : ℕ) (d : Subject) where
  pub has_bare-hit : i < length xs → is_bare v (get_or xs i d) ≡ true → has_bare v (drop i xs) ≡ true
  has_bare-hit h e = at_drop_more (has_bare v) xs i d h ∙ ap (λ b. if b then true else has_bare v (drop (i + 1) xs)) e

  pub has_bare-on : i < length xs → is_bare v (get_or xs i d) ≡ false → has_bare v (drop (i + 1) xs) ≡ has_bare v (drop i xs)
  has_bare-on h e = sym (at_drop_more (has_bare v) xs i d h ∙ ap (λ b. if b then true else has_bare v (drop (i + 1) xs)) e)

pub has_bare-over : (v : ℕ) (xs : List Subject) (i : ℕ) → length xs ≤ i → has_bare v (drop i xs) ≡ false
has_bare-over v xs i h = at_drop_all (has_bare v) xs i h

module _ (xs before : List Subject) (i : ℕ) (d : Subject) (n : ℕ) where
  pub again-hit : i < length xs → is_again before (get_or xs i d) ≡ true → first_again n before (drop i xs) ≡ Some n
  again-hit h e = at_drop_more (first_again n before) xs i d h ∙ ap (λ b. if b then Some n else first_again (n + 1) (before ++ get_or xs i d ∷ []) (drop (i + 1) xs)) e

  pub again-on : (after : List Subject) → i < length xs → after ≡ before ++ get_or xs i d ∷ [] → is_again before (get_or xs i d) ≡ false → first_again (n + 1) after (drop (i + 1) xs) ≡ first_again n before (drop i xs)
  again-on after h a e =
      ap (λ x. first_again (n + 1) x (drop (i + 1) xs)) a
      ∙ sym (at_drop_more (first_again n before) xs i d h ∙ ap (λ b. if b then Some n else first_again (n + 1) (before ++ get_or xs i d ∷ []) (drop (i + 1) xs)) e)

pub again-over : (xs before : List Subject) (i n : ℕ) → length xs ≤ i → first_again n before (drop i xs) ≡ None
again-over xs before i n h = at_drop_all (first_again n before) xs i h

pub count-on : (v : ℕ) (xs : List ℕ) (i d : ℕ) → i < length xs → count_in v (drop i xs) ≡ (if nat_eq v (get_or xs i d) then 1 else 0) + count_in v (drop (i + 1) xs)
count-on v xs i d h = at_drop_more (count_in v) xs i d h

pub count-over : (v : ℕ) (xs : List ℕ) (i : ℕ) → length xs ≤ i → count_in v (drop i xs) ≡ 0
count-over v xs i h = at_drop_all (count_in v) xs i h

-- what is found among terms, after what was found before
abbrev pub kind_from : Subject → List Tree → Subject
kind_from found [] = found
kind_from found (t ∷ ts) = kind_from (after_one found t) ts

kind_from-other : (ts : List Tree) → kind_from Other ts ≡ Other
kind_from-other [] = refl
kind_from-other (t ∷ ts) = kind_from-other ts

two-other : (t u : Tree) → after_one (bare_or_other t) u ≡ Other
two-other (node l k) u = refl
two-other (lexeme k x) u = refl
two-other (hole v) u = refl

pub kind_from-absent : (ts : List Tree) → kind_from Absent ts ≡ subject_kind ts
kind_from-absent [] = refl
kind_from-absent (t ∷ []) = refl
kind_from-absent (t ∷ u ∷ ts) = ap (λ x. kind_from x ts) (two-other t u) ∙ kind_from-other ts

pub kind_from-pick : (found next : Subject) (b : Bool) (t : Tree) (ts rest : List Tree) → next ≡ with_one found b t → ts ≡ pick b t rest → kind_from next rest ≡ kind_from found ts
kind_from-pick found next true t ts rest n e = ap (λ x. kind_from x rest) n ∙ sym (ap (kind_from found) e)
kind_from-pick found next false t ts rest n e = ap (λ x. kind_from x rest) n ∙ sym (ap (kind_from found) e)

pub kind_from-end : (found all : Subject) (ts : List Tree) → ts ≡ [] → kind_from found ts ≡ all → found ≡ all
kind_from-end found all ts e p = sym (ap (kind_from found) e) ∙ p

more_left : (n many : ℕ) → n < many → many - n ≡ suc (many - (n + 1))
more_left n many h = omega arith

pub missing-on : (bound : List ℕ) (n many : ℕ) → n < many → has_number n bound ≡ true → first_missing bound (n + 1) (many - (n + 1)) ≡ first_missing bound n (many - n)
missing-on bound n many h e =
    sym (ap (first_missing bound n) (more_left n many h) ∙ ap (λ b. if b then first_missing bound (n + 1) (many - (n + 1)) else Some n) e)
