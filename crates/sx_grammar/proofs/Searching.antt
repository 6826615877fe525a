-- The search along steps.
use Rattle.std.proofs.Common.{◌≡◌, ℕ, zero, suc, ◌+◌, ◌*◌, ◌<◌, ◌≤◌, List, [], ◌∷◌, ◌++◌, length, set, get_or, Bool, true, false, not, ◌⊎◌, inl, inr, ⊎_elim, Some, sym, refl, ap, ◌∙◌, subst, arith, IsTrue, Vec, Contains, length-append, take, drop}
use Rattle.std.specs.declared.alloc.Global.{Global}
use Rattle.std.specs.Prelude.{slice_get, slice_index_or, count_by}
use Rattle.std.proofs.lemmas.Bool.{cases_lt, cases_eq, false≢true}
use Rattle.std.proofs.lemmas.List.{length-set, get_or-set_same, get_or-set_other, append-nil, drop_all}
use Rattle.std.proofs.Math.Seq.{take-length}
use Rattle.std.proofs.lemmas.List.Elements.{Contains-push, Contains-append_left, Contains-push_cases}
use Rattle.std.proofs.lemmas.Option.{slice_get_within, get_or_from_slice_get}
use Rattle.sx_grammar.specs.Grammar.{Grammar}
use Rattle.sx_grammar.specs.Cyclic.{DerivesAlone, one_step, step_after}
use Rattle.sx_grammar.specs.Cycles.{list_at, AreStepsOf}
use Rattle.sx_grammar.proofs.Emptying.{marked_fewer}

-- the sort is marked
abbrev pub Marked : List Bool → ℕ → Type 0
Marked marks t = IsTrue (slice_index_or marks t false)

pub marked_within : (marks : List Bool) (t : ℕ) → Marked marks t → t < length marks
marked_within [] t is = absurd (false≢true is)
marked_within (m ∷ marks) zero is = omega arith
marked_within (m ∷ marks) (suc t) is = let h = marked_within marks t is in omega (arith, h)

pub still_marked : (marks : List Bool) (s t : ℕ) → s < length marks → Marked marks t → Marked (set marks s true) t
still_marked marks s t within is = elim (cases_eq t s) [
  | inl same ↦ subst (λ t. get_or (set marks s true) t false ≡ true) (sym same) (get_or-set_same marks s true false within)
  | inr apart ↦ get_or-set_other marks s t true false apart ∙ is
]

pub was_marked : (marks : List Bool) (s t : ℕ) → Marked (set marks s true) t → Marked marks t ⊎ (t ≡ s)
was_marked marks s t is = elim (cases_eq t s) [
  | inl same ↦ inr same
  | inr apart ↦ inl (sym (get_or-set_other marks s t true false apart) ∙ is)
]

-- what the first n sorts have done to the marks and the stack
pub record VisitBefore (sorts : List ℕ) (old new : List Bool) (before stack : List ℕ) (n : ℕ) : Type 0 where
  pub same : length new ≡ length old
  pub kept : (t : ℕ) → Marked old t → Marked new t
  pub only : (t : ℕ) → Marked new t → Marked old t ⊎ Contains sorts t
  pub all : (k t : ℕ) → k < n → slice_get sorts k ≡ Some t → Marked new t
  pub waits : (t : ℕ) → Marked new t → Marked old t ⊎ Contains stack t
  pub stack_kept : (t : ℕ) → Contains before t → Contains stack t
  pub stacked : (t : ℕ) → Contains stack t → Contains before t ⊎ Marked new t
  pub less : 2 * count_by not new + length stack ≤ 2 * count_by not old + length before

pub visit_none : (sorts : List ℕ) (old : List Bool) (before : List ℕ) → VisitBefore sorts old old before before 0
visit_none sorts old before = record {
  same = refl;
  kept = λ t is. is;
  only = λ t is. inl is;
  all = λ k t lt. absurd (omega (arith, lt));
  waits = λ t is. inl is;
  stack_kept = λ t has. has;
  stacked = λ t has. inl has;
  less = omega arith;
}

at_last : (sorts : List ℕ) (k n t s : ℕ) → k < n + 1 → n ≤ k → slice_get sorts n ≡ Some s → slice_get sorts k ≡ Some t → s ≡ t
at_last sorts k n t s lt ge at there =
    let last : n ≡ k = omega (arith, lt, ge) in
    let alike : Some s ≡ Some t = sym at ∙ ap (slice_get sorts) last ∙ there in
    cc

pub visit_marked : (sorts : List ℕ) (old new later : List Bool) (before stack grown : List ℕ) (n s : ℕ) → VisitBefore sorts old new before stack n → slice_get sorts n ≡ Some s → s < length new
    → slice_index_or new s false ≡ false → later ≡ set new s true → grown ≡ stack ++ s ∷ [] → VisitBefore sorts old later before grown (n + 1)
visit_marked sorts old new later before stack grown n s h at within unmarked e f =
    let here : Marked (set new s true) s = get_or-set_same new s true false within in
    let there : VisitBefore sorts old (set new s true) before (stack ++ s ∷ []) (n + 1) = record {
      same = length-set new s true ∙ h.same;
      kept = λ t is. still_marked new s t within (h.kept t is);
      only = λ t is. ⊎_elim (λ was. h.only t was) (λ same. inr (subst (Contains sorts) (sym same) (n, slice_get_within sorts n s at, get_or_from_slice_get sorts n s s at))) (was_marked new s t is);
      all = λ k t lt this. elim (cases_lt k n) [
        | inl below ↦ still_marked new s t within (h.all k t below this)
        | inr above ↦ subst (Marked (set new s true)) (at_last sorts k n t s lt above at this) here
      ];
      waits = λ t is. ⊎_elim (λ was. ⊎_elim (λ m. inl m) (λ c. inr (Contains-append_left stack (s ∷ []) t c)) (h.waits t was)) (λ same. inr (subst (Contains (stack ++ s ∷ [])) (sym same) (Contains-push stack s))) (was_marked new s t is);
      stack_kept = λ t has. Contains-append_left stack (s ∷ []) t (h.stack_kept t has);
      stacked = λ t has. ⊎_elim (λ was. ⊎_elim (λ b. inl b) (λ m. inr (still_marked new s t within m)) (h.stacked t was)) (λ same. inr (subst (Marked (set new s true)) same here)) (Contains-push_cases stack s t has);
      less = omega (arith, h.less, marked_fewer new s within unmarked, length-append stack (s ∷ []));
    } in
    subst (λ g. VisitBefore sorts old later before g (n + 1)) (sym f) (subst (λ m. VisitBefore sorts old m before (stack ++ s ∷ []) (n + 1)) (sym e) there)

pub visit_kept : (sorts : List ℕ) (old new : List Bool) (before stack : List ℕ) (n s : ℕ) → VisitBefore sorts old new before stack n → slice_get sorts n ≡ Some s → Marked new s → VisitBefore sorts old new before stack (n + 1)
visit_kept sorts old new before stack n s h at is = record {
  same = h.same;
  kept = h.kept;
  only = h.only;
  all = λ k t lt this. elim (cases_lt k n) [
    | inl below ↦ h.all k t below this
    | inr above ↦ subst (Marked new) (at_last sorts k n t s lt above at this) is
  ];
  waits = h.waits;
  stack_kept = h.stack_kept;
  stacked = h.stacked;
  less = h.less;
}

-- what the search has found: the sorts to which steps lead, of which those on the stack are not gone on from
pub record SearchBefore (lists : List (Vec ℕ Global)) (sort : ℕ) (marks : List Bool) (stack : List ℕ) : Type 0 where
  pub same : length marks ≡ length lists
  pub reached : (g : Grammar) → AreStepsOf g lists → (t : ℕ) → Marked marks t → DerivesAlone g sort t
  pub first : (t : ℕ) → Contains (list_at lists sort) t → Marked marks t
  pub stacked : (t : ℕ) → Contains stack t → Marked marks t
  pub closed : (x : ℕ) → Marked marks x → Contains stack x ⊎ ((t : ℕ) → Contains (list_at lists x) t → Marked marks t)

-- at the end all sorts to which steps lead are marked
pub search_ends : (g : Grammar) (lists : List (Vec ℕ Global)) → AreStepsOf g lists → (marks : List Bool) (stack : List ℕ) → stack ≡ [] → {sort t : ℕ} → SearchBefore lists sort marks stack
    → DerivesAlone g sort t → Marked marks t
search_ends g lists are marks stack e h (one_step {sort = sort} {other = other} step) = h.first other ((are sort other).1 step)
search_ends g lists are marks stack e h (step_after {middle = middle} {other = other} leads step) =
    let there = search_ends g lists are marks stack e h leads in
    ⊎_elim (λ on. absurd (omega (arith, on.1, ap length e))) (λ all. all other ((are middle other).1 step)) (h.closed middle there)

module _ (lists : List (Vec ℕ Global)) (sort : ℕ) (old new : List Bool) (before stack : List ℕ) where
  -- after the first sorts
  pub search_begins : (targets : List ℕ) → targets ≡ list_at lists sort → length old ≡ length lists → ((t : ℕ) → ¬ (Marked old t)) → before ≡ []
      → length new ≡ length old → ((t : ℕ) → Marked new t → Marked old t ⊎ Contains targets t) → ((t : ℕ) → Contains targets t → Marked new t)
      → ((t : ℕ) → Marked new t → Marked old t ⊎ Contains stack t) → ((t : ℕ) → Contains stack t → Contains before t ⊎ Marked new t) → SearchBefore lists sort new stack
  search_begins targets e size none empty same only all waits stacked = record {
    same = same ∙ size;
    reached = λ g are t is. ⊎_elim (λ was. absurd (none t was)) (λ has. one_step ((are sort t).0 (subst (λ l. Contains l t) e has))) (only t is);
    first = λ t has. all t (subst (λ l. Contains l t) (sym e) has);
    stacked = λ t has. ⊎_elim (λ was. absurd (omega (arith, was.1, ap length empty))) (λ is. is) (stacked t has);
    closed = λ x is. ⊎_elim (λ was. absurd (none x was)) (λ has. inl has) (waits x is);
  }

  -- after the sorts to which the last of the stack leads
  pub search_more : (whole targets : List ℕ) (next : ℕ) → SearchBefore lists sort old whole → whole ≡ before ++ next ∷ [] → targets ≡ list_at lists next
      → length new ≡ length old → ((t : ℕ) → Marked old t → Marked new t) → ((t : ℕ) → Marked new t → Marked old t ⊎ Contains targets t) → ((t : ℕ) → Contains targets t → Marked new t)
      → ((t : ℕ) → Marked new t → Marked old t ⊎ Contains stack t) → ((t : ℕ) → Contains before t → Contains stack t) → ((t : ℕ) → Contains stack t → Contains before t ⊎ Marked new t) → SearchBefore lists sort new stack
  search_more whole targets next h e f same kept only all waits stack_kept stacked = record {
    same = same ∙ h.same;
    reached = λ g are t is. ⊎_elim (λ was. h.reached g are t was)
        (λ has. step_after (h.reached g are next (h.stacked next (subst (λ l. Contains l next) (sym e) (Contains-push before next)))) ((are next t).0 (subst (λ l. Contains l t) f has))) (only t is);
    first = λ t has. kept t (h.first t has);
    stacked = λ t has. ⊎_elim (λ was. kept t (h.stacked t (subst (λ l. Contains l t) (sym e) (Contains-append_left before (next ∷ []) t was)))) (λ is. is) (stacked t has);
    closed = λ x is. ⊎_elim
        (λ was. ⊎_elim
        (λ on. ⊎_elim (λ b. inl (stack_kept x b)) (λ this. inr (λ t has. all t (subst (λ l. Contains l t) (sym f) (subst (λ x. Contains (list_at lists x) t) (sym this) has)))) (Contains-push_cases before next x (subst (λ l. Contains l x) e on)))
        (λ done. inr (λ t has. kept t (done t has)))
        (h.closed x was))
        (λ has. inl has) (waits x is);
  }

-- a list that was written whole
pub written : (old new : List Bool) (len : ℕ) → len ≡ length old → length new ≡ length old → take len (new ++ drop (length new) old) ≡ new
written old new len size same =
    let none : drop (length new) old ≡ [] = drop_all (length new) old (omega (arith, same)) in
    (λ i. take (size i) (new ++ none i)) ∙ ap (take (length old)) (append-nil new) ∙ ap (λ n. take n new) (sym same) ∙ take-length new
