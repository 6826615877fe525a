-- How many tries the rules of extensions take at most.
use Rattle.std.proofs.Common.{◌≡◌, ℕ, suc, ◌+◌, ◌*◌, ◌-◌, ◌≤◌, Bool, true, false, List, [], ◌∷◌}
use Rattle.std.proofs.Common.{length, length-append, inl, inr, refl, sym, ap, ◌∙◌, subst}
use Rattle.std.proofs.Common.{if◌then◌else◌, arith}
use Rattle.std.proofs.lemmas.List.{length-map}
use Rattle.std.specs.Prelude.{Result, Ok, Err, Some, is_none}
use Rattle.sx_rules.specs.Views.{NamedRule, named}
use Rattle.sx_derive.proofs.FewNodes.{tries_within}
use Rattle.sx_derive.specs.Walk.{events}
use Rattle.sx_rewrite.specs.declared.ext_rule.ExtRule.{ExtRule as ExtRuleOf}
use Rattle.sx_rewrite.specs.Accepted.{ExtRule, Checked}
use Rattle.sx_rewrite.specs.ExtensionView.{ext_rule}
use Rattle.sx_extcheck.specs.declared.accept_error.AcceptError.{AcceptError}
use Rattle.sx_extcheck.specs.declared.accept_error.AcceptError.TheVariants.{Memory, Rule}
use Rattle.sx_extcheck.specs.declared.budgets.Budgets.{Budgets}
use Rattle.sx_extcheck.specs.Accepts.{AreRulesChecked}
use Rattle.sx_extcheck.specs.Checks.{Check, search_for, over_for, tries_for}
use Rattle.sx_extcheck.specs.Searches.{tries_in}
use Rattle.sx_steps.specs.declared.stop.Stop.{Stop}
use Rattle.sx_steps.specs.declared.step_error.StepError.{StepError}
use Rattle.sx_steps.specs.declared.step_error.StepError.TheVariants as errors
use Rattle.sx_steps.specs.Steps.{Untried, GoesOn}
use Rattle.sx_steps.proofs.Ones.{ok_same}
use Rattle.sx_uses.specs.ExtensionFile.{Extension, extension_file}
use Rattle.sx_accepting.specs.ExtendedLanguages.{BaseLanguage, ExtendedData}
use Rattle.sx_accepting.specs.Extending.{ReadData, ReadsAfter, check_after, HaveChecks}
use Rattle.sx_accepting.specs.Extending.{Accepts, ExtendsBy, ExtendsLanguage}

-- ---- so many walks of so many tries

distributes : (a b n : ℕ) → (a + b) * n ≡ a * n + b * n
distributes a b n = grind arith

both_within : (m n x y : ℕ) → m ≤ x → n ≤ y → m + n ≤ x + y
both_within m n x y h k = omega (arith, h, k)

pub sum_within : (m n a b budget : ℕ) → m ≤ a * budget → n ≤ b * budget → m + n ≤ (a + b) * budget
sum_within m n a b budget h k =
    subst (λ (most : ℕ). m + n ≤ most) (sym (distributes a b budget))
    (both_within m n (a * budget) (b * budget) h k)

one_more : (m n a budget : ℕ) → m ≤ 1 * budget → n ≤ a * budget → m + n ≤ suc a * budget
one_more m n a budget h k =
    let next : 1 + a ≡ suc a = omega arith in
    subst (λ (count : ℕ). m + n ≤ count * budget) next (sum_within m n 1 a budget h k)

pub one_budget : (budget : ℕ) → 1 * budget ≡ budget
one_budget budget = grind arith

no_budget : (budget : ℕ) → 0 ≤ 0 * budget
no_budget budget = omega arith

with_more : (m n k : ℕ) → m ≤ n → m ≤ n + k
with_more m n k h = omega (arith, h)

pub more_within : (m a c budget : ℕ) → a ≤ c → m ≤ a * budget → m ≤ c * budget
more_within m a c budget le h =
    let whole : a + (c - a) ≡ c = omega (arith, le) in
    subst (λ (count : ℕ). m ≤ count * budget) whole
    (subst (λ (most : ℕ). m ≤ most) (sym (distributes a (c - a) budget))
    (with_more m (a * budget) ((c - a) * budget) h))

-- ---- the rules of an extension

by_test : (b : Bool) (n most : ℕ) → n ≤ most → (if b then n else 0) ≤ most
by_test true n most h = h
by_test false n most h = omega arith

module _ (c : Check) where
  rule_within : (e : ExtRule) → tries_for c e ≤ 1 * c.tries
  rule_within e =
      subst (λ (most : ℕ). tries_for c e ≤ most) (sym (one_budget c.tries))
      (by_test (is_none (over_for c e)) (tries_in (search_for c e) c.tries) c.tries
      (let s = search_for c e in
      tries_within (Some s.wanted) c.tries (events s.modes s.rules s.hyps s.goal 1)))

  stored_within : (es : List ExtRuleOf) (ss : List Checked) (count : ℕ) →
      AreRulesChecked c es count (Ok ss) → (count ≤ length es * c.tries) × (length ss ≡ length es)
  stored_within [] [] count h =
      (subst (λ (n : ℕ). n ≤ 0 * c.tries) (sym h) (no_budget c.tries), refl)
  stored_within [] (s ∷ ss) count h = absurd h
  stored_within (e ∷ es) [] count h = absurd h
  stored_within (e ∷ es) (s ∷ ss) count (st, rest, n, more) =
      let again = stored_within es ss rest more in (
        subst (λ (k : ℕ). k ≤ suc (length es) * c.tries) (sym n)
            (one_more (tries_for c (ext_rule e)) rest (length es) c.tries
            (rule_within (ext_rule e)) again.0),
        ap suc again.1,
      )

  refused_within : (es : List ExtRuleOf) (e : AcceptError) (count : ℕ) →
      AreRulesChecked c es count (Err e) → count ≤ length es * c.tries
  refused_within [] Memory count h =
      subst (λ (n : ℕ). n ≤ 0 * c.tries) (sym h) (no_budget c.tries)
  refused_within [] (Rule name what) count h = absurd h
  refused_within (e ∷ es) Memory count (inl few) =
      more_within count 1 (length (e ∷ es)) c.tries (omega arith)
      (at_most count (tries_for c (ext_rule e)) (1 * c.tries) few (rule_within (ext_rule e)))
    where
      at_most : (m n k : ℕ) → m ≤ n → n ≤ k → m ≤ k
      at_most m n k h l = omega (arith, h, l)
  refused_within (e ∷ es) Memory count (inr (s, st, rest, n, more)) =
      subst (λ (k : ℕ). k ≤ suc (length es) * c.tries) (sym n)
      (one_more (tries_for c (ext_rule e)) rest (length es) c.tries
      (rule_within (ext_rule e)) (refused_within es Memory rest more))
  refused_within (e ∷ es) (Rule name what) count (inl (same, refused, n)) =
      more_within count 1 (length (e ∷ es)) c.tries (omega arith)
      (subst (λ (k : ℕ). k ≤ 1 * c.tries) (sym n) (rule_within (ext_rule e)))
  refused_within (e ∷ es) (Rule name what) count (inr (s, st, rest, n, more)) =
      subst (λ (k : ℕ). k ≤ suc (length es) * c.tries) (sym n)
      (one_more (tries_for c (ext_rule e)) rest (length es) c.tries
      (rule_within (ext_rule e)) (refused_within es (Rule name what) rest more))

  as_many : (x : ReadData) (tries : ℕ) (answer : Result (List Checked) AcceptError)
      (h : HaveChecks c x tries answer) → length h.held ≡ length x.rules
  as_many x tries answer h =
      sym (length-map h.held (λ e. named e.rule))
      ∙ ap (λ (rs : List NamedRule). length rs) h.rules

-- ---- extensions in order

-- so many rules were checked, within the budget: as many as there are more of, or as a rule set has
-- room for
abbrev pub Within : (budget : ℕ) → ExtendedData → Result ExtendedData StepError → ℕ → Type 0
Within budget x (Ok y) tries = (count : ℕ) × (tries ≤ count * budget)
    × (length x.set.rules + count ≡ length y.set.rules)
    × (length x.set.kept.more + count ≡ length y.set.kept.more)
    × (length y.set.rules ≤ 4096)
Within budget x (Err e) tries = (count : ℕ) × (tries ≤ count * budget)
    × (length x.set.rules + count ≤ 4096)

no_more : (n limit : ℕ) → n ≤ limit → n + 0 ≤ limit
no_more n limit h = omega (arith, h)

-- none was checked
none_within : (budget : ℕ) (x : ExtendedData) (e : StepError) (tries : ℕ) →
    length x.set.rules ≤ 4096 → tries ≡ 0 → Within budget x (Err e) tries
none_within budget x e tries few none = (
  0,
  subst (λ (n : ℕ). n ≤ 0 * budget) (sym none) (no_budget budget),
  no_more (length x.set.rules) 4096 few,
)

pub untried_none : {A : Type 0} (step : Result A Stop → Type 0) (result : Result A StepError)
    (tries : ℕ) → Untried step result tries → tries ≡ 0
untried_none step (Ok x) tries h = h.1
untried_none step (Err errors.Memory) tries (inl none) = none
untried_none step (Err errors.Memory) tries (inr (all, none, few)) = omega (arith, none, few)
untried_none step (Err (errors.Stopped stop)) tries h = h.1

pub no_sum : (m a b : ℕ) → m ≡ a + b → a ≡ 0 → b ≡ 0 → m ≡ 0
no_sum m a b sum h k = omega (arith, sum, h, k)

pub first_none : (m a b : ℕ) → m ≡ a + b → a ≡ 0 → m ≡ b
first_none m a b sum h = omega (arith, sum, h)

pub last_none : (m a b : ℕ) → m ≡ a + b → b ≡ 0 → m ≡ a
last_none m a b sum h = omega (arith, sum, h)

module _ (l : BaseLanguage) (budgets : Budgets) where
  accepts_within : (file : List ℕ) (x : ExtendedData) (read : ReadData)
      (result : Result ExtendedData StepError) (tries : ℕ) →
      length x.set.rules + length read.rules ≤ 4096 →
      Accepts l budgets file x read result tries → Within budgets.tries x result tries
  accepts_within file x read (Ok y) tries few (stored, h, same) =
      let c = check_after x.set read.table budgets in
      let many = as_many c read tries (Ok stored) h in
      let most = stored_within c h.held stored tries h.checked in
      let rules = length-append x.set.rules read.rules in
      subst (λ (z : ExtendedData). Within budgets.tries x (Ok z) tries) (sym same) (
        length read.rules,
        subst (λ (n : ℕ). tries ≤ n * budgets.tries) many most.0,
        sym rules,
        ap (λ (n : ℕ). length x.set.kept.more + n) (sym (most.1 ∙ many))
            ∙ sym (length-append x.set.kept.more stored),
        subst (λ (n : ℕ). n ≤ 4096) (sym rules) few,
      )
  accepts_within file x read (Err errors.Memory) tries few h =
      let c = check_after x.set read.table budgets in (
        length read.rules,
        subst (λ (n : ℕ). tries ≤ n * budgets.tries) (as_many c read tries (Err Memory) h)
            (refused_within c h.held Memory tries h.checked),
        few,
      )
  accepts_within file x read (Err (errors.Stopped stop)) tries few (e, h, told) =
      let c = check_after x.set read.table budgets in (
        length read.rules,
        subst (λ (n : ℕ). tries ≤ n * budgets.tries) (as_many c read tries (Err e) h)
            (refused_within c h.held e tries h.checked),
        few,
      )

  read_few : (x : ExtendedData) (file : Extension) (read : ReadData) →
      ReadsAfter l x file (Ok read) → length x.set.rules + length read.rules ≤ 4096
  read_few x file read h =
      subst (λ (r : ReadData). length x.set.rules + length r.rules ≤ 4096) (sym h.is)
      (subst (λ (n : ℕ). n ≤ 4096) (length-append x.set.rules _) h.fits.good.0)

  by_within : (file : Extension) (x : ExtendedData) (result : Result ExtendedData StepError)
      (tries : ℕ) → length x.set.rules ≤ 4096 → ExtendsBy l budgets file x result tries →
      Within budgets.tries x result tries
  by_within file x result tries few h = from h.given h.before h.after h.begins h.goes h.sum
    where
      from : (given : Result ReadData StepError) (before after : ℕ) →
          Untried (ReadsAfter l x file) given before →
          GoesOn (Accepts l budgets (extension_file file.header.name) x) given result after →
          tries ≡ before + after → Within budgets.tries x result tries
      from (Ok read) before after begins goes sum =
          subst (λ (n : ℕ). Within budgets.tries x result n)
          (sym (first_none tries before after sum begins.1))
          (accepts_within (extension_file file.header.name) x read result after
          (read_few x file read begins.0) goes)
      from (Err e) before after begins goes sum =
          subst (λ (r : Result ExtendedData StepError). Within budgets.tries x r tries) (sym goes.0)
          (none_within budgets.tries x e tries few (no_sum tries before after sum
          (untried_none (ReadsAfter l x file) (Err e) before begins) goes.1))

  joined : (x y : ExtendedData) (result : Result ExtendedData StepError) (m n : ℕ) →
      Within budgets.tries x (Ok y) m → Within budgets.tries y result n →
      Within budgets.tries x result (m + n)
  joined x y (Ok z) m n (a, few, rules, kept, whole) (b, less, more, stored, all) = (
    a + b,
    sum_within m n a b budgets.tries few less,
    omega (arith, rules, more),
    omega (arith, kept, stored),
    all,
  )
  joined x y (Err e) m n (a, few, rules, kept, whole) (b, less, all) =
      (a + b, sum_within m n a b budgets.tries few less, omega (arith, rules, all))

  rules_few : (x y : ExtendedData) (tries : ℕ) → Within budgets.tries x (Ok y) tries →
      length y.set.rules ≤ 4096
  rules_few x y tries (count, few, rules, kept, all) = all

  pub extends_within : (files : List Extension) (x : ExtendedData)
      (result : Result ExtendedData StepError) (tries : ℕ) → length x.set.rules ≤ 4096 →
      ExtendsLanguage l budgets files x result tries → Within budgets.tries x result tries
  extends_within [] x (Ok y) tries few h =
      subst (λ (z : ExtendedData). Within budgets.tries x (Ok z) tries) (sym (ok_same y x h.0)) (
        0,
        subst (λ (n : ℕ). n ≤ 0 * budgets.tries) (sym h.1) (no_budget budgets.tries),
        omega arith,
        omega arith,
        few,
      )
  extends_within [] x (Err e) tries few h =
      none_within budgets.tries x e tries few
      (untried_none (λ (result : Result ExtendedData Stop). result ≡ Ok x) (Err e) tries h)
  extends_within (file ∷ files) x result tries few h =
      from (λ y count less goes. extends_within files y result count less goes) h.given h.before
      h.after h.begins h.goes h.sum
    where
      from : ((y : ExtendedData) (count : ℕ) → length y.set.rules ≤ 4096 →
          ExtendsLanguage l budgets files y result count → Within budgets.tries y result count) →
          (given : Result ExtendedData StepError) (before after : ℕ) →
          ExtendsBy l budgets file x given before →
          GoesOn (ExtendsLanguage l budgets files) given result after →
          tries ≡ before + after → Within budgets.tries x result tries
      from again (Ok y) before after begins goes sum =
          let one = by_within file x (Ok y) before few begins in
          subst (λ (n : ℕ). Within budgets.tries x result n) (sym sum)
          (joined x y result before after one (again y after (rules_few x y before one) goes))
      from again (Err e) before after begins goes sum =
          subst (λ (n : ℕ). Within budgets.tries x result n)
          (sym (last_none tries before after sum goes.1))
          (subst (λ (r : Result ExtendedData StepError). Within budgets.tries x r before)
          (sym goes.0)
          (by_within file x (Err e) before few begins))

-- with a walk more, where none was kept before
pub kept_within : (budget : ℕ) (start x : ExtendedData) (tries before after : ℕ) →
    length start.set.kept.more ≡ 0 → tries ≡ before + after → Within budget start (Ok x) before →
    after ≤ 1 * budget → tries ≤ suc (length x.set.kept.more) * budget
kept_within budget start x tries before after none sum (count, few, rules, kept, all) one =
    let same : count ≡ length x.set.kept.more = omega (arith, kept, none) in
    let whole : after + before ≡ tries = omega (arith, sum) in
    subst (λ (n : ℕ). tries ≤ suc n * budget) same
    (subst (λ (n : ℕ). n ≤ suc count * budget) whole
    (one_more after before count budget one few))
