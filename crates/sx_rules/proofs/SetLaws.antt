-- Rules checked one after the other, and the laws of good rules.
use Rattle.std.proofs.Common.{◌≡◌, ℕ, zero, suc, ◌+◌, ◌<◌, ◌≤◌, ◌↔◌, IsTrue, length, map, drop, take, get_or, Bool, true, false, List, [], ◌∷◌, ◌++◌, ◌⊎◌, inl, inr, refl, ap, ◌∙◌, sym, subst, arith, append_assoc, Option, Some, None, Err}
use Rattle.std.specs.Prelude.{slice_get, option_map}
use Rattle.std.proofs.lemmas.Option.{slice_get-map, slice_get_read}
use Rattle.sx_rules.specs.declared.rule.Rule.{Rule as RuleOf}
use Rattle.sx_rules.specs.declared.error.RuleError.{RuleError}
use Rattle.sx_rules.specs.declared.error.RuleError.TheVariants.{Memory, TooManyRules, TooManyVars}
use Rattle.sx_rules.specs.declared.error.RuleError.TheVariants.{SameRule, SortDiffers, Discipline}
use Rattle.sx_rules.specs.declared.error.RuleError.TheVariants.{NotModed}
use Rattle.sx_rules.specs.Rules.{Judgement, Premise, holds, apart, Rule}
use Rattle.sx_term.specs.Sorts.{Shape, HaveSorts}
use Rattle.sx_rules.specs.Sorts.{JudgementIsSorted, PremisesAreSorted}
use Rattle.sx_rules.specs.Views.{FormData, NamedRule, named, rule, sorts_of, places_or_none}
use Rattle.sx_rules.specs.Deep.{RuleIsShallow, RulesAreShallow}
use Rattle.sx_rules.specs.Fits.{RuleFits, JudgementFits, PremisesFit}
use Rattle.sx_rules.specs.Subjects.{broken_part}
use Rattle.sx_rules.specs.Unmoded.{unbound}
use Rattle.sx_rules.specs.Good.{IsAmong, IsGood, IsBreach, AllGood, IsFirstBreach, IsRuleSetRefused}
use Rattle.sx_rules.specs.Good.{IsChecked, AreChecked, names_of}
use Rattle.sx_rules.specs.Laws.{NoneBrokenIsDisciplined, NoneUnboundIsModed, GoodHasNoBreach}
use Rattle.sx_rules.specs.Laws.{BreachIsUnique, FittingIsSorted}
use Rattle.sx_term.proofs.SortLaws.{true_is_false}
use Rattle.sx_rules.proofs.RowLaws.{map_drop, map_drop_all}
use Rattle.sx_rules.proofs.ModeLaws.{moded_of_none, none_of_moded}
use Rattle.sx_rules.proofs.SubjectLaws.{disciplined_of_none, none_of_disciplined}

pub rule_shallow_at : (rs : List RuleOf) (i : ℕ) (r : RuleOf) → RulesAreShallow (map rule rs) → i < length rs → r ≡ get_or rs i r → RuleIsShallow (rule r)
rule_shallow_at [] i r s h e = absurd (omega arith)
rule_shallow_at (u ∷ rs) zero r s h e = subst (λ (x : RuleOf). RuleIsShallow (rule x)) (sym e) s.0
rule_shallow_at (u ∷ rs) (suc i) r s h e = rule_shallow_at rs i r s.1 (omega arith) e

-- names
among_step : (name : List ℕ) (rs : List RuleOf) (i : ℕ) (r : RuleOf) → i < length rs → r ≡ get_or rs i r → IsAmong name (names_of (drop i rs)) ↔ ((r.name ≡ name) ⊎ IsAmong name (names_of (drop (i + 1) rs)))
among_step name rs i r h e =
    let a = map_drop (λ x. x.name) rs i r h e in
    (λ k. subst (IsAmong name) a k, λ k. subst (IsAmong name) (sym a) k)

pub among_here : (name : List ℕ) (rs : List RuleOf) (i : ℕ) (r : RuleOf) (b : Bool) → i < length rs → r ≡ get_or rs i r → (IsAmong name (names_of (drop i rs)) ↔ IsAmong name (names_of rs)) → b ≡ true → (IsTrue b ↔ (r.name ≡ name)) → IsTrue true ↔ IsAmong name (names_of rs)
among_here name rs i r b h e same t f = (λ x. same.0 ((among_step name rs i r h e).1 (inl (f.0 t))), λ x. refl)

pub among_on : (name : List ℕ) (rs : List RuleOf) (i : ℕ) (r : RuleOf) (b : Bool) → i < length rs → r ≡ get_or rs i r → (IsAmong name (names_of (drop i rs)) ↔ IsAmong name (names_of rs)) → b ≡ false → (IsTrue b ↔ (r.name ≡ name)) → IsAmong name (names_of (drop (i + 1) rs)) ↔ IsAmong name (names_of rs)
among_on name rs i r b h e same t f = (
  λ x. same.0 ((among_step name rs i r h e).1 (inr x)),
  λ x. elim ((among_step name rs i r h e).0 (same.1 x)) [ inl q ↦ absurd (let w : b ≡ true = f.1 q in true_is_false (sym w ∙ t)) | inr k ↦ k ],
)

pub among_none : (name : List ℕ) (rs : List RuleOf) (i : ℕ) → length rs ≤ i → (IsAmong name (names_of (drop i rs)) ↔ IsAmong name (names_of rs)) → IsTrue false ↔ IsAmong name (names_of rs)
among_none name rs i h same = (
  λ x. let q : false ≡ true = x in absurd (true_is_false (sym q)),
  λ x. absurd (subst (IsAmong name) (map_drop_all (λ r. r.name) rs i h) (same.1 x)),
)

-- one rule
pub not_among : (b : Bool) (name : List ℕ) (names : List (List ℕ)) → b ≡ false → (IsTrue b ↔ IsAmong name names) → IsAmong name names → ⊥
not_among b name names t f k = let w : b ≡ true = f.1 k in true_is_false (sym w ∙ t)

pub not_fits : (b : Bool) (S : List Shape) (F : List FormData) (r : Rule) → b ≡ false → (IsTrue b ↔ RuleFits S F r) → RuleFits S F r → ⊥
not_fits b S F r t f k = let w : b ≡ true = f.1 k in true_is_false (sym w ∙ t)

pub nothing_more : (names : List (List ℕ)) → names ++ [] ≡ names
nothing_more [] = refl
nothing_more (n ∷ names) = ap (λ (ns : List (List ℕ)). n ∷ ns) (nothing_more names)

-- the names before, those that were there, and those of the rules so far
pub names_so_far : (before old names so_far : List (List ℕ)) → names ≡ old ++ so_far → before ++ names ≡ (before ++ old) ++ so_far
names_so_far before old names so_far e = ap (λ (ns : List (List ℕ)). before ++ ns) e ∙ sym (append_assoc before old so_far)

module _ (S : List Shape) (F : List FormData) where
  pub is_good : (names : List (List ℕ)) (r : NamedRule) → length r.rule.sorts ≤ 64 → (IsAmong r.name names → ⊥) → RuleFits S F r.rule → broken_part F r.rule ≡ None → unbound F r.rule ≡ None → IsGood S F names r
  is_good names r few fresh fits d m = record { few = few; fresh = fresh; fits = fits; disciplined = disciplined_of_none F r.rule d; moded = moded_of_none F S r.rule fits m }

  names-suc : (rs : List RuleOf) (i : ℕ) (r : RuleOf) → i < length rs → r ≡ get_or rs i r → names_of (take (suc i) rs) ≡ names_of (take i rs) ++ r.name ∷ []
  names-suc [] i r h e = absurd (omega arith)
  names-suc (u ∷ rs) zero r h e = ap (λ x. x.name ∷ []) (sym e)
  names-suc (u ∷ rs) (suc i) r h e = ap (λ x. u.name ∷ x) (names-suc rs i r (omega arith) e)

  one_more : (i : ℕ) → suc i ≡ i + 1
  one_more i = omega arith

  pub names-more : (rs : List RuleOf) (i : ℕ) (r : RuleOf) → i < length rs → r ≡ get_or rs i r → names_of (take (i + 1) rs) ≡ names_of (take i rs) ++ r.name ∷ []
  names-more rs i r h e = sym (ap (λ n. names_of (take n rs)) (one_more i)) ∙ names-suc rs i r h e

  module _ (start : List (List ℕ)) where
    -- the names before the rule with this number
    abbrev pub before : List RuleOf → ℕ → List (List ℕ)
    before rs i = start ++ names_of (take i rs)

    before-more : (rs : List RuleOf) (i : ℕ) (r : RuleOf) → i < length rs → r ≡ get_or rs i r →
        before rs (i + 1) ≡ before rs i ++ r.name ∷ []
    before-more rs i r h e = ap (λ (ns : List (List ℕ)). start ++ ns) (names-more rs i r h e)
        ∙ sym (append_assoc start (names_of (take i rs)) (r.name ∷ []))

    module _ (rs : List RuleOf) (i : ℕ) (r : RuleOf) (h : i < length rs) (e : r ≡ get_or rs i r) where
      all_here : IsGood S F (before rs i) (named r) → AllGood S F (before rs (i + 1)) (map named (drop (i + 1) rs)) → AllGood S F (before rs i) (map named (drop i rs))
      all_here g a = subst (AllGood S F (before rs i)) (sym (map_drop named rs i r h e)) (g, subst (λ (x : List (List ℕ)). AllGood S F x (map named (drop (i + 1) rs))) (before-more rs i r h e) a)

      pub all_on : (AllGood S F (before rs i) (map named (drop i rs)) → AllGood S F start (map named rs)) → IsGood S F (before rs i) (named r)
          → AllGood S F (before rs (i + 1)) (map named (drop (i + 1) rs)) → AllGood S F start (map named rs)
      all_on k g a = k (all_here g a)

      breach_here : (x : RuleError) → IsBreach S F (before rs i) (named r) x → IsFirstBreach S F (before rs i) (map named (drop i rs)) x
      breach_here x b = subst (λ (l : List NamedRule). IsFirstBreach S F (before rs i) l x) (sym (map_drop named rs i r h e)) (inl b)

      pub breach_on : ((x : RuleError) → IsFirstBreach S F (before rs i) (map named (drop i rs)) x → IsFirstBreach S F start (map named rs) x) → IsGood S F (before rs i) (named r)
          → (x : RuleError) → IsFirstBreach S F (before rs (i + 1)) (map named (drop (i + 1) rs)) x → IsFirstBreach S F start (map named rs) x
      breach_on k g x b = k x (subst (λ (l : List NamedRule). IsFirstBreach S F (before rs i) l x) (sym (map_drop named rs i r h e))
          (inr (g, subst (λ (ns : List (List ℕ)). IsFirstBreach S F ns (map named (drop (i + 1) rs)) x) (before-more rs i r h e) b)))

      pub refused_here : ((x : RuleError) → IsFirstBreach S F (before rs i) (map named (drop i rs)) x → IsFirstBreach S F start (map named rs) x)
          → (x : RuleError) → IsChecked S F (before rs i) (named r) (Err x) → AreChecked S F start (map named rs) (Err x)
      refused_here k Memory b = tt
      refused_here k TooManyRules b = b
      refused_here k (TooManyVars n) b = k (TooManyVars n) (breach_here (TooManyVars n) b)
      refused_here k (SameRule n) b = k (SameRule n) (breach_here (SameRule n) b)
      refused_here k (SortDiffers n) b = k (SortDiffers n) (breach_here (SortDiffers n) b)
      refused_here k (Discipline n p q) b = k (Discipline n p q) (breach_here (Discipline n p q) b)
      refused_here k (NotModed n v) b = k (NotModed n v) (breach_here (NotModed n v) b)

    pub all_done : (rs : List RuleOf) (i : ℕ) → length rs ≤ i → (AllGood S F (before rs i) (map named (drop i rs)) → AllGood S F start (map named rs)) → AllGood S F start (map named rs)
    all_done rs i h k = k (subst (AllGood S F (before rs i)) (sym (map_drop_all named rs i h)) tt)

    pub all_begin : (rs : List RuleOf) → AllGood S F (before rs 0) (map named rs) → AllGood S F start (map named rs)
    all_begin rs a = subst (λ (ns : List (List ℕ)). AllGood S F ns (map named rs)) (nothing_more start) a

    pub breach_begin : (rs : List RuleOf) (x : RuleError) → IsFirstBreach S F (before rs 0) (map named rs) x → IsFirstBreach S F start (map named rs) x
    breach_begin rs x b = subst (λ (ns : List (List ℕ)). IsFirstBreach S F ns (map named rs) x) (nothing_more start) b

  pub refused_all : (rs : List NamedRule) (x : RuleError) → length rs ≤ 4096 → AreChecked S F [] rs (Err x) → IsRuleSetRefused S F rs x
  refused_all rs Memory h b = tt
  refused_all rs TooManyRules h b = absurd b
  refused_all rs (TooManyVars n) h b = (h, b)
  refused_all rs (SameRule n) h b = (h, b)
  refused_all rs (SortDiffers n) h b = (h, b)
  refused_all rs (Discipline n p q) h b = (h, b)
  refused_all rs (NotModed n v) h b = (h, b)

pair_none : (x : Option (ℕ × ℕ)) (p q : ℕ) → x ≡ Some (p, q) → x ≡ None → ⊥
pair_none None p q e f = absurd (let g : None ≡ Some (p, q) = e in cc)
pair_none (Some y) p q e f = absurd (let g : Some y ≡ None = f in cc)

one_none : (x : Option ℕ) (v : ℕ) → x ≡ Some v → x ≡ None → ⊥
one_none None v e f = absurd (let g : None ≡ Some v = e in cc)
one_none (Some y) v e f = absurd (let g : Some y ≡ None = f in cc)

pair_one : (x : Option (ℕ × ℕ)) (p q s t : ℕ) → x ≡ Some (p, q) → x ≡ Some (s, t) → (p ≡ s) × (q ≡ t)
pair_one x p q s t e f = both (p, q) (s, t) (sym e ∙ f)
  where
    both : (y z : ℕ × ℕ) → Some y ≡ Some z → (y.0 ≡ z.0) × (y.1 ≡ z.1)
    both y z g = let h : y ≡ z = cc in (ap (λ w. w.0) h, ap (λ w. w.1) h)

-- the laws
pub none_broken : NoneBrokenIsDisciplined
none_broken F r = (disciplined_of_none F r, none_of_disciplined F r)

pub none_unbound : NoneUnboundIsModed
none_unbound S F r fits = (moded_of_none F S r fits, none_of_moded F S r)

pub good_no_breach : GoodHasNoBreach
good_no_breach S F names r Memory g b = b
good_no_breach S F names r TooManyRules g b = b
good_no_breach S F names r (TooManyVars n) g b = let few = g.few in let many = b.1 in absurd (omega arith)
good_no_breach S F names r (SameRule n) g b = g.fresh b.2
good_no_breach S F names r (SortDiffers n) g b = b.3 g.fits
good_no_breach S F names r (Discipline n p q) g b = pair_none (broken_part F r.rule) p q b.4 (none_of_disciplined F r.rule g.disciplined)
good_no_breach S F names r (NotModed n v) g b = one_none (unbound F r.rule) v b.5 (none_of_moded F S r.rule g.moded)

pub breach_one : BreachIsUnique
breach_one S F names r Memory g a b = absurd a
breach_one S F names r TooManyRules g a b = absurd a
breach_one S F names r (TooManyVars n) Memory a b = absurd b
breach_one S F names r (TooManyVars n) TooManyRules a b = absurd b
breach_one S F names r (TooManyVars n) (TooManyVars m) a b = ap TooManyVars (a.0 ∙ sym b.0)
breach_one S F names r (TooManyVars n) (SameRule m) a b = let few = b.1 in let many = a.1 in absurd (omega arith)
breach_one S F names r (TooManyVars n) (SortDiffers m) a b = let few = b.1 in let many = a.1 in absurd (omega arith)
breach_one S F names r (TooManyVars n) (Discipline m s t) a b = let few = b.1 in let many = a.1 in absurd (omega arith)
breach_one S F names r (TooManyVars n) (NotModed m w) a b = let few = b.1 in let many = a.1 in absurd (omega arith)
breach_one S F names r (SameRule n) Memory a b = absurd b
breach_one S F names r (SameRule n) TooManyRules a b = absurd b
breach_one S F names r (SameRule n) (TooManyVars m) a b = let few = a.1 in let many = b.1 in absurd (omega arith)
breach_one S F names r (SameRule n) (SameRule m) a b = ap SameRule (a.0 ∙ sym b.0)
breach_one S F names r (SameRule n) (SortDiffers m) a b = absurd (b.2 a.2)
breach_one S F names r (SameRule n) (Discipline m s t) a b = absurd (b.2 a.2)
breach_one S F names r (SameRule n) (NotModed m w) a b = absurd (b.2 a.2)
breach_one S F names r (SortDiffers n) Memory a b = absurd b
breach_one S F names r (SortDiffers n) TooManyRules a b = absurd b
breach_one S F names r (SortDiffers n) (TooManyVars m) a b = let few = a.1 in let many = b.1 in absurd (omega arith)
breach_one S F names r (SortDiffers n) (SameRule m) a b = absurd (a.2 b.2)
breach_one S F names r (SortDiffers n) (SortDiffers m) a b = ap SortDiffers (a.0 ∙ sym b.0)
breach_one S F names r (SortDiffers n) (Discipline m s t) a b = absurd (a.3 b.3)
breach_one S F names r (SortDiffers n) (NotModed m w) a b = absurd (a.3 b.3)
breach_one S F names r (Discipline n p q) Memory a b = absurd b
breach_one S F names r (Discipline n p q) TooManyRules a b = absurd b
breach_one S F names r (Discipline n p q) (TooManyVars m) a b = let few = a.1 in let many = b.1 in absurd (omega arith)
breach_one S F names r (Discipline n p q) (SameRule m) a b = absurd (a.2 b.2)
breach_one S F names r (Discipline n p q) (SortDiffers m) a b = absurd (b.3 a.3)
breach_one S F names r (Discipline n p q) (Discipline m s t) a b = let f = a.0 ∙ sym b.0 in let g = pair_one (broken_part F r.rule) p q s t a.4 b.4 in λ i. Discipline (f i) (g.0 i) (g.1 i)
breach_one S F names r (Discipline n p q) (NotModed m w) a b = absurd (pair_none (broken_part F r.rule) p q a.4 b.4)
breach_one S F names r (NotModed n v) Memory a b = absurd b
breach_one S F names r (NotModed n v) TooManyRules a b = absurd b
breach_one S F names r (NotModed n v) (TooManyVars m) a b = let few = a.1 in let many = b.1 in absurd (omega arith)
breach_one S F names r (NotModed n v) (SameRule m) a b = absurd (a.2 b.2)
breach_one S F names r (NotModed n v) (SortDiffers m) a b = absurd (b.3 a.3)
breach_one S F names r (NotModed n v) (Discipline m s t) a b = absurd (pair_none (broken_part F r.rule) s t b.4 a.4)
breach_one S F names r (NotModed n v) (NotModed m w) a b = let e : Some v ≡ Some w = sym a.5 ∙ b.5 in let f = a.0 ∙ sym b.0 in let g : v ≡ w = cc in λ i. NotModed (f i) (g i)

judgement_sorted : (S : List Shape) (F : List FormData) (V : _) (j : Judgement) → JudgementFits S F V j → JudgementIsSorted S (sorts_of F) V j
judgement_sorted S F V j h = subst (λ (x : Option FormData). HaveSorts S V j.places (map (λ p. p.sort) (places_or_none x))) (sym h.1) h.2

premises_sorted : (S : List Shape) (F : List FormData) (V : _) (ps : List Premise) → PremisesFit S F V ps → PremisesAreSorted S (sorts_of F) V ps
premises_sorted S F V [] h = tt
premises_sorted S F V (holds j ∷ ps) h = (judgement_sorted S F V j h.0, premises_sorted S F V ps h.1)
premises_sorted S F V (apart t u ∷ ps) h = (h.0, premises_sorted S F V ps h.1)

pub fitting_sorted : FittingIsSorted
fitting_sorted S F r h = (judgement_sorted S F r.sorts r.conclusion h.0, premises_sorted S F r.sorts r.premises h.1)

pub named_at : (name : List ℕ) (rs : List RuleOf) (i : ℕ) (r : RuleOf) (b : Bool) → i < length rs → r ≡ get_or rs i r → b ≡ true → (IsTrue b ↔ (r.name ≡ name)) → slice_get (names_of rs) i ≡ Some name
named_at name rs i r b h e t f =
    slice_get-map (λ x. x.name) rs i ∙ ap (option_map (λ x. x.name)) (slice_get_read rs (length rs) i r refl h e) ∙ ap Some (f.0 t)

pub not_named : (name : List ℕ) (rs : List RuleOf) (i : ℕ) → length rs ≤ i → (IsAmong name (names_of (drop i rs)) ↔ IsAmong name (names_of rs)) → IsAmong name (names_of rs) → ⊥
not_named name rs i h same x = subst (IsAmong name) (map_drop_all (λ r. r.name) rs i h) (same.1 x)
