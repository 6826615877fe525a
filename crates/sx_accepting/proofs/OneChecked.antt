-- Rules with the same names and bodies are checked with one answer.
use Rattle.std.proofs.Common.{◌≡◌, ℕ, ◌+◌, List, [], ◌∷◌, inl, inr, map, refl, sym, ap, ◌∙◌, subst}
use Rattle.std.specs.Prelude.{Result, Ok, Err, option_map}
use Rattle.sx_term.specs.Sorts.{Shape}
use Rattle.sx_term.specs.Term.{tree}
use Rattle.sx_rules.specs.Views.{NamedRule, named}
use Rattle.sx_rewrite.specs.declared.ext_rule.ExtRule.{ExtRule as ExtRuleOf}
use Rattle.sx_rewrite.specs.Accepted.{ExtRule, Checked, IsAccepted}
use Rattle.sx_rewrite.specs.ExtensionView.{ext_rule}
use Rattle.sx_extcheck.specs.declared.accept_error.AcceptError.{AcceptError}
use Rattle.sx_extcheck.specs.declared.accept_error.AcceptError.TheVariants.{Memory, Rule}
use Rattle.sx_extcheck.specs.declared.rule_refusal.RuleRefusal.{RuleRefusal}
use Rattle.sx_extcheck.specs.Accepts.{AreRulesChecked}
use Rattle.sx_extcheck.specs.Agree.{Agree}
use Rattle.sx_extcheck.specs.Checks.{Check, tries_for, IsStoredFor, IsRefusedFor}
use Rattle.sx_extcheck.proofs.Verdicts.{stored-once, refused-once, not-both}
use Rattle.sx_accepting.specs.Extending.{ReadData, HaveChecks, bodies_in}

-- the rules are the same, but for where they lie in memory
abbrev AreAlike : List ExtRuleOf → List ExtRuleOf → Type 0
AreAlike [] [] = Unit {0}
AreAlike (e ∷ es) (f ∷ fs) =
    (e.rule.name ≡ f.rule.name) × (ext_rule e ≡ ext_rule f) × AreAlike es fs
AreAlike _ _ = ⊥

alike : (es fs : List ExtRuleOf) → map (λ e. named e.rule) es ≡ map (λ e. named e.rule) fs →
    bodies_in es ≡ bodies_in fs → AreAlike es fs
alike [] [] r b = tt
alike [] (f ∷ fs) r b = absurd cc
alike (e ∷ es) [] r b = absurd cc
alike (e ∷ es) (f ∷ fs) r b =
    let head : named e.rule ≡ named f.rule = cc in
    let rest : map (λ e. named e.rule) es ≡ map (λ e. named e.rule) fs = cc in
    let body : option_map tree e.body ≡ option_map tree f.body = cc in
    let bodies : bodies_in es ≡ bodies_in fs = cc in (
      ap (λ (q : NamedRule). q.name) head,
      λ i. record { rule = (head i).rule; body = body i },
      alike es fs rest bodies,
    )

module _ (c : Check) (base shapes : List Shape) (ok : IsAccepted c.sig base shapes c.set) where
  module _ (e f : ExtRule) (same : e ≡ f) where
    stored_as : (s : Checked) → IsStoredFor c f s → IsStoredFor c e s
    stored_as s h = subst (λ (x : ExtRule). IsStoredFor c x s) (sym same) h

    refused_as : (d : RuleRefusal) → IsRefusedFor c f d → IsRefusedFor c e d
    refused_as d h = subst (λ (x : ExtRule). IsRefusedFor c x d) (sym same) h

    summed : (m n rest more : ℕ) → m ≡ tries_for c e + rest → n ≡ tries_for c f + more →
        rest ≡ more → m ≡ n
    summed m n rest more a b is =
        a ∙ ap (λ (k : ℕ). tries_for c e + k) is ∙
        ap (λ (x : ExtRule). tries_for c x + more) same ∙ sym b

    taken : (m n : ℕ) → m ≡ tries_for c e → n ≡ tries_for c f → m ≡ n
    taken m n a b = a ∙ ap (tries_for c) same ∙ sym b

  -- both answers are the same, with as many tries
  one_answer : (es fs : List ExtRuleOf) → AreAlike es fs →
      (m n : ℕ) (one other : Result (List Checked) AcceptError) → AreRulesChecked c es m one →
      AreRulesChecked c fs n other → Agree (λ ss ts. ss ≡ ts) m n one other
  one_answer es fs a m n (Err Memory) other h i = tt
  one_answer es fs a m n (Ok ss) (Err Memory) h i = tt
  one_answer es fs a m n (Err (Rule name d)) (Err Memory) h i = tt
  one_answer [] (f ∷ fs) a m n one other h i = absurd a
  one_answer (e ∷ es) [] a m n one other h i = absurd a
  one_answer [] [] a m n (Ok []) (Ok []) h i = (h ∙ sym i, refl)
  one_answer [] [] a m n (Ok []) (Ok (t ∷ ts)) h i = absurd i
  one_answer [] [] a m n (Ok (s ∷ ss)) (Ok ts) h i = absurd h
  one_answer [] [] a m n (Ok ss) (Err (Rule name d)) h i = absurd i
  one_answer [] [] a m n (Err (Rule name d)) other h i = absurd h
  one_answer (e ∷ es) (f ∷ fs) a m n (Ok []) (Ok ts) h i = absurd h
  one_answer (e ∷ es) (f ∷ fs) a m n (Ok []) (Err (Rule name d)) h i = absurd h
  one_answer (e ∷ es) (f ∷ fs) a m n (Ok (s ∷ ss)) (Ok []) h i = absurd i
  one_answer (e ∷ es) (f ∷ fs) (named_so, same, a) m n (Ok (s ∷ ss)) (Ok (t ∷ ts)) (h, rest, b, k)
      (i, more, d, l) =
      let again = one_answer es fs a rest more (Ok ss) (Ok ts) k l in
      let first = stored-once c (ext_rule e) base shapes ok s t h
      (stored_as (ext_rule e) (ext_rule f) same t i) in (
        summed (ext_rule e) (ext_rule f) same m n rest more b d again.0,
        ap (λ (x : Checked). x ∷ ss) first ∙ ap (λ (xs : List Checked). t ∷ xs) again.1,
      )
  one_answer (e ∷ es) (f ∷ fs) (named_so, same, a) m n (Ok (s ∷ ss)) (Err (Rule name d))
      (h, rest, b, k) (inl (is, i, l)) =
      not-both c (ext_rule e) base shapes ok s d h (refused_as (ext_rule e) (ext_rule f) same d i)
  one_answer (e ∷ es) (f ∷ fs) (named_so, same, a) m n (Ok (s ∷ ss)) (Err (Rule name d))
      (h, rest, b, k) (inr (t, i, more, p, l)) =
      one_answer es fs a rest more (Ok ss) (Err (Rule name d)) k l
  one_answer (e ∷ es) (f ∷ fs) a m n (Err (Rule name d)) (Ok []) h i = absurd i
  one_answer (e ∷ es) (f ∷ fs) (named_so, same, a) m n (Err (Rule name d)) (Ok (t ∷ ts))
      (inl (is, h, b)) (i, more, p, l) =
      not-both c (ext_rule e) base shapes ok t d (stored_as (ext_rule e) (ext_rule f) same t i) h
  one_answer (e ∷ es) (f ∷ fs) (named_so, same, a) m n (Err (Rule name d)) (Ok (t ∷ ts))
      (inr (s, h, rest, b, k)) (i, more, p, l) =
      one_answer es fs a rest more (Err (Rule name d)) (Ok ts) k l
  one_answer (e ∷ es) (f ∷ fs) (named_so, same, a) m n (Err (Rule name d)) (Err (Rule other r))
      (inl (is, h, b)) (inl (also, i, p)) = (
        taken (ext_rule e) (ext_rule f) same m n b p,
        is ∙ named_so ∙ sym also,
        refused-once c (ext_rule e) base shapes ok d r h
            (refused_as (ext_rule e) (ext_rule f) same r i),
      )
  one_answer (e ∷ es) (f ∷ fs) (named_so, same, a) m n (Err (Rule name d)) (Err (Rule other r))
      (inl (is, h, b)) (inr (t, i, more, p, l)) =
      absurd (not-both c (ext_rule e) base shapes ok t d
      (stored_as (ext_rule e) (ext_rule f) same t i) h)
  one_answer (e ∷ es) (f ∷ fs) (named_so, same, a) m n (Err (Rule name d)) (Err (Rule other r))
      (inr (s, h, rest, b, k)) (inl (also, i, p)) =
      absurd (not-both c (ext_rule e) base shapes ok s r h
      (refused_as (ext_rule e) (ext_rule f) same r i))
  one_answer (e ∷ es) (f ∷ fs) (named_so, same, a) m n (Err (Rule name d)) (Err (Rule other r))
      (inr (s, h, rest, b, k)) (inr (t, i, more, p, l)) =
      let again = one_answer es fs a rest more (Err (Rule name d)) (Err (Rule other r)) k l in
      (summed (ext_rule e) (ext_rule f) same m n rest more b p again.0, again.1, again.2)

  pub one_checked : (x : ReadData) (m n : ℕ) (one other : Result (List Checked) AcceptError) →
      HaveChecks c x m one → HaveChecks c x n other → Agree (λ ss ts. ss ≡ ts) m n one other
  one_checked x m n one other h k =
      one_answer h.held k.held (alike h.held k.held (h.rules ∙ sym k.rules) (h.bodies ∙ sym
      k.bodies)) m n one other h.checked k.checked
