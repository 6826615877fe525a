-- Whether a rule is well sorted is decided, and so a rule without a breach is good.
use Rattle.std.proofs.Common.{◌≡◌, ℕ, ◌<◌, ◌≤◌, length, map, Bool, true, false, List, [], ◌∷◌, ◌⊎◌, inl, inr, refl, ap, ◌∙◌, sym, subst, arith, Option, Some, None, nat_eq}
use Rattle.std.specs.Prelude.{slice_get}
use Rattle.sx_term.specs.declared.lex_kind.LexKind.{LexKind}
use Rattle.sx_term.specs.declared.lex_kind.LexKind.TheVariants.{Id, Num, Str}
use Rattle.sx_term.specs.Tree.{Tree, Trees, node, lexeme, hole, none, ◌▹◌}
use Rattle.sx_term.specs.declared.sort.Sort.{Sort}
use Rattle.sx_term.specs.declared.sort.Sort.TheVariants.{Lex, Plain, Typed}
use Rattle.sx_rules.specs.declared.error.RuleError.{RuleError}
use Rattle.sx_rules.specs.declared.error.RuleError.TheVariants.{TooManyVars, SameRule, SortDiffers, Discipline, NotModed}
use Rattle.sx_rules.specs.Rules.{Judgement, Premise, holds, apart, Rule}
use Rattle.sx_term.specs.Sorts.{Shape, HasSort, KidsHaveSorts, HaveSorts}
use Rattle.sx_rules.specs.Views.{FormData, NamedRule}
use Rattle.sx_rules.specs.Fits.{JudgementFits, AreOfOneKind, PremisesFit, RuleFits}
use Rattle.sx_rules.specs.Subjects.{broken_part}
use Rattle.sx_rules.specs.Unmoded.{unbound}
use Rattle.sx_rules.specs.Good.{IsAmong, IsGood, IsBreach}
use Rattle.sx_rules.specs.Laws.{NoBreachIsGood}
use Rattle.sx_rules.proofs.ModeLaws.{same_number, number_same}
use Rattle.sx_rules.proofs.SetLaws.{is_good}

abbrev pub Decision : Type 0 → Type 0
Decision P = P ⊎ (P → ⊥)

clash : true ≡ false → ⊥
clash e = cc

num_go : (n m : ℕ) (b : Bool) → nat_eq n m ≡ b → Decision (n ≡ m)
num_go n m true e = inl (same_number n m e)
num_go n m false e = inr (λ q. clash (sym (number_same n m q) ∙ e))

num_dec : (n m : ℕ) → Decision (n ≡ m)
num_dec n m = num_go n m (nat_eq n m) refl

kind_dec : (a b : LexKind) → Decision (a ≡ b)
kind_dec Id Id = inl refl
kind_dec Id Num = inr (λ e. let q : Id ≡ Num = e in cc)
kind_dec Id Str = inr (λ e. let q : Id ≡ Str = e in cc)
kind_dec Num Id = inr (λ e. let q : Num ≡ Id = e in cc)
kind_dec Num Num = inl refl
kind_dec Num Str = inr (λ e. let q : Num ≡ Str = e in cc)
kind_dec Str Id = inr (λ e. let q : Str ≡ Id = e in cc)
kind_dec Str Num = inr (λ e. let q : Str ≡ Num = e in cc)
kind_dec Str Str = inl refl

lex_inj : (k m : LexKind) → Lex k ≡ Lex m → k ≡ m
lex_inj k m e = cc

plain_inj : (k m : ℕ) → Plain k ≡ Plain m → k ≡ m
plain_inj k m e = cc

typed_inj : (k m : ℕ) → Typed k ≡ Typed m → k ≡ m
typed_inj k m e = cc

carried : {P Q : Type 0} → (P → Q) → (Q → P) → Decision P → Decision Q
carried f g (inl p) = inl (f p)
carried f g (inr n) = inr (λ q. n (g q))

sort_dec : (a b : Sort) → Decision (a ≡ b)
sort_dec (Lex k) (Lex m) = carried (ap Lex) (lex_inj k m) (kind_dec k m)
sort_dec (Lex k) (Plain m) = inr (λ e. let q : Lex k ≡ Plain m = e in cc)
sort_dec (Lex k) (Typed m) = inr (λ e. let q : Lex k ≡ Typed m = e in cc)
sort_dec (Plain k) (Lex m) = inr (λ e. let q : Plain k ≡ Lex m = e in cc)
sort_dec (Plain k) (Plain m) = carried (ap Plain) (plain_inj k m) (num_dec k m)
sort_dec (Plain k) (Typed m) = inr (λ e. let q : Plain k ≡ Typed m = e in cc)
sort_dec (Typed k) (Lex m) = inr (λ e. let q : Typed k ≡ Lex m = e in cc)
sort_dec (Typed k) (Plain m) = inr (λ e. let q : Typed k ≡ Plain m = e in cc)
sort_dec (Typed k) (Typed m) = carried (ap Typed) (typed_inj k m) (num_dec k m)

some_inj : {A : Type 0} (x y : A) → Some x ≡ Some y → x ≡ y
some_inj x y e = cc

option_dec : (o : Option Sort) (s : Sort) → Decision (o ≡ Some s)
option_dec None s = inr (λ e. let q : None ≡ Some s = e in cc)
option_dec (Some t) s = carried (ap Some) (some_inj t s) (sort_dec t s)

pair_dec : {P Q : Type 0} → Decision P → Decision Q → Decision (P × Q)
pair_dec (inl p) (inl q) = inl (p, q)
pair_dec (inl p) (inr n) = inr (λ h. n h.1)
pair_dec (inr n) d = inr (λ h. n h.0)

module _ (S : List Shape) (V : List Sort) where
  node_dec : (label : ℕ) (kids : Trees) (sort : Sort) (o : Option Shape) → slice_get S label ≡ o → ((sorts : List Sort) → Decision (KidsHaveSorts S V kids sorts)) → Decision (HasSort S V (node label kids) sort)
  node_dec label kids sort None e d = inr (λ h. let q : Some h.0 ≡ None = sym h.1 ∙ e in cc)
  node_dec label kids sort (Some shape) e d =
      carried
      (λ h. (shape, e, h.0, h.1))
      (λ h. let p = some_inj h.0 shape (sym h.1 ∙ e) in (sym (ap (λ x. x.sort) p) ∙ h.2, subst (λ (x : Shape). KidsHaveSorts S V kids x.kids) p h.3))
      (pair_dec (sort_dec shape.sort sort) (d shape.kids))

  mutual
    term_dec : (t : Tree) (sort : Sort) → Decision (HasSort S V t sort)
    term_dec (node label kids) sort = node_dec label kids sort (slice_get S label) refl (λ sorts. kids_dec kids sorts)
    term_dec (lexeme k x) sort = sort_dec sort (Lex k)
    term_dec (hole v) sort = option_dec (slice_get V v) sort

    kids_dec : (ts : Trees) (sorts : List Sort) → Decision (KidsHaveSorts S V ts sorts)
    kids_dec none [] = inl tt
    kids_dec none (s ∷ sorts) = inr (λ h. h)
    kids_dec (t ▹ ts) [] = inr (λ h. h)
    kids_dec (t ▹ ts) (s ∷ sorts) = pair_dec (term_dec t s) (kids_dec ts sorts)

  row_dec : (ts : List Tree) (sorts : List Sort) → Decision (HaveSorts S V ts sorts)
  row_dec [] [] = inl tt
  row_dec [] (s ∷ sorts) = inr (λ h. h)
  row_dec (t ∷ ts) [] = inr (λ h. h)
  row_dec (t ∷ ts) (s ∷ sorts) = pair_dec (term_dec t s) (row_dec ts sorts)

  one_kind_go : (t u : Tree) → Decision (HasSort S V t (Lex Id) × HasSort S V u (Lex Id)) → Decision (HasSort S V t (Lex Num) × HasSort S V u (Lex Num)) → Decision (HasSort S V t (Lex Str) × HasSort S V u (Lex Str)) → Decision (AreOfOneKind S V t u)
  one_kind_go t u (inl a) b c = inl (Id, a.0, a.1)
  one_kind_go t u (inr a) (inl b) c = inl (Num, b.0, b.1)
  one_kind_go t u (inr a) (inr b) (inl c) = inl (Str, c.0, c.1)
  one_kind_go t u (inr a) (inr b) (inr c) = inr (λ h. which h.0 h.1 h.2)
    where
      which : (kind : LexKind) → HasSort S V t (Lex kind) → HasSort S V u (Lex kind) → ⊥
      which Id x y = a (x, y)
      which Num x y = b (x, y)
      which Str x y = c (x, y)

  one_kind_dec : (t u : Tree) → Decision (AreOfOneKind S V t u)
  one_kind_dec t u =
      one_kind_go t u (pair_dec (term_dec t (Lex Id)) (term_dec u (Lex Id))) (pair_dec (term_dec t (Lex Num)) (term_dec u (Lex Num))) (pair_dec (term_dec t (Lex Str)) (term_dec u (Lex Str)))

  module _ (F : List FormData) where
    judgement_go : (j : Judgement) (o : Option FormData) → slice_get F j.form ≡ o → Decision (JudgementFits S F V j)
    judgement_go j None e = inr (λ h. let q : Some h.0 ≡ None = sym h.1 ∙ e in cc)
    judgement_go j (Some f) e =
        carried
        (λ h. (f, e, h))
        (λ h. subst (λ (x : FormData). HaveSorts S V j.places (map (λ p. p.sort) x.places)) (some_inj h.0 f (sym h.1 ∙ e)) h.2)
        (row_dec j.places (map (λ p. p.sort) f.places))

    judgement_dec : (j : Judgement) → Decision (JudgementFits S F V j)
    judgement_dec j = judgement_go j (slice_get F j.form) refl

    premises_dec : (ps : List Premise) → Decision (PremisesFit S F V ps)
    premises_dec [] = inl tt
    premises_dec (holds j ∷ ps) = pair_dec (judgement_dec j) (premises_dec ps)
    premises_dec (apart t u ∷ ps) = pair_dec (one_kind_dec t u) (premises_dec ps)

pub rule_dec : (S : List Shape) (F : List FormData) (r : Rule) → Decision (RuleFits S F r)
rule_dec S F r = pair_dec (judgement_dec S r.sorts F r.conclusion) (premises_dec S r.sorts F r.premises)

cons_inj : (x y : ℕ) (xs ys : List ℕ) → x ∷ xs ≡ y ∷ ys → (x ≡ y) × (xs ≡ ys)
cons_inj x y xs ys e = (cc, cc)

name_dec : (xs ys : List ℕ) → Decision (xs ≡ ys)
name_dec [] [] = inl refl
name_dec [] (y ∷ ys) = inr (λ e. let q : [] ≡ y ∷ ys = e in cc)
name_dec (x ∷ xs) [] = inr (λ e. let q : x ∷ xs ≡ [] = e in cc)
name_dec (x ∷ xs) (y ∷ ys) = carried (λ h i. h.0 i ∷ h.1 i) (cons_inj x y xs ys) (pair_dec (num_dec x y) (name_dec xs ys))

either_dec : {P Q : Type 0} → Decision P → Decision Q → Decision (P ⊎ Q)
either_dec (inl p) d = inl (inl p)
either_dec (inr n) (inl q) = inl (inr q)
either_dec (inr n) (inr m) = inr (λ h. elim h [ inl p ↦ n p | inr q ↦ m q ])

among_dec : (name : List ℕ) (names : List (List ℕ)) → Decision (IsAmong name names)
among_dec name [] = inr (λ h. h)
among_dec name (n ∷ names) = either_dec (name_dec n name) (among_dec name names)

few_or_many : (n : ℕ) → (64 < n) ⊎ (n ≤ 64)
few_or_many n = grind arith

module _ (S : List Shape) (F : List FormData) (names : List (List ℕ)) (r : NamedRule) (h : (e : RuleError) → IsBreach S F names r e → ⊥) where
  none-bound : length r.rule.sorts ≤ 64 → (IsAmong r.name names → ⊥) → RuleFits S F r.rule → broken_part F r.rule ≡ None → (o : Option ℕ) → unbound F r.rule ≡ o → IsGood S F names r
  none-bound few fresh fits d None e = is_good S F names r few fresh fits d e
  none-bound few fresh fits d (Some v) e = absurd (h (NotModed r.name v) (refl, few, fresh, fits, d, e))

  none-broken : length r.rule.sorts ≤ 64 → (IsAmong r.name names → ⊥) → RuleFits S F r.rule → (o : Option (ℕ × ℕ)) → broken_part F r.rule ≡ o → IsGood S F names r
  none-broken few fresh fits None e = none-bound few fresh fits e (unbound F r.rule) refl
  none-broken few fresh fits (Some x) e = absurd (h (Discipline r.name x.0 x.1) (refl, few, fresh, fits, e))

  none-differs : length r.rule.sorts ≤ 64 → (IsAmong r.name names → ⊥) → Decision (RuleFits S F r.rule) → IsGood S F names r
  none-differs few fresh (inl fits) = none-broken few fresh fits (broken_part F r.rule) refl
  none-differs few fresh (inr n) = absurd (h (SortDiffers r.name) (refl, few, fresh, n))

  none-twice : length r.rule.sorts ≤ 64 → Decision (IsAmong r.name names) → IsGood S F names r
  none-twice few (inl k) = absurd (h (SameRule r.name) (refl, few, k))
  none-twice few (inr fresh) = none-differs few fresh (rule_dec S F r.rule)

  none-many : (64 < length r.rule.sorts) ⊎ (length r.rule.sorts ≤ 64) → IsGood S F names r
  none-many (inl many) = absurd (h (TooManyVars r.name) (refl, many))
  none-many (inr few) = none-twice few (among_dec r.name names)

pub no_breach_good : NoBreachIsGood
no_breach_good S F names r h = none-many S F names r h (few_or_many (length r.rule.sorts))
